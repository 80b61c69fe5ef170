-- Laws: the order's own words and `Alike` say the same of two files;
-- so all that is proved of files that are alike is proved of the files that the order speaks of.
use Rattle.std.specs.Prelude.{ℕ, ◌+◌, true, List, [], ◌∷◌, ◌++◌, map, ◌≡◌, refl, length, get_or}
use Rattle.std.proofs.Common.{sym, ap, ap₂, ◌∙◌, arith}
use Rattle.laws.specs.ChoiceLaws.{both_hold}
use Rattle.lines.specs.Changed.{changed_lines}
use Rattle.lines.specs.HiddenPlaces.{MayHold}
use Rattle.lines.specs.HiddenPlaceLaws.{equal_changed, changed_equal}
use Rattle.lines.specs.Lines.{Line, lines_of, joined}
use Rattle.chars.specs.Characters.{is_permitted, capitals}
use Rattle.calendar.specs.declared.Quarter.{Quarter}
use Rattle.edits.specs.Formats.{opening_with}
use Rattle.edits.specs.declared.format.Format.TheVariants.{Pfml}
use Rattle.shape.specs.Blot.{blot_keeps, blot_hides, permitted_no_end}
use Rattle.shape.specs.Hidden.{is_employee, hides_on, is_of_employee, blot}
use Rattle.shape.specs.Lawful.{Lawful}
use Rattle.shape.specs.Shape.{Shape}
use Rattle.pfml.specs.PfmlLawful.{no_second}
use Rattle.record.specs.ShapeOf.{shape_of}
use Rattle.record.specs.Laws.{lawful_of}
use Rattle.tables.specs.Room.{Tables}
use Rattle.walk.specs.Calls.{Lending, walked}
use Rattle.ack.specs.Acknowledgement.{acknowledgement}
use Rattle.ack.specs.Turns.{header_size}
use Rattle.alike.specs.Alike.{blotted, employees, employers, AllMeet, wages_of, seconds_of, Alike}
use Rattle.alike.specs.Employee.{nothing_of_the_employee, acknowledgement_alike}
use Rattle.alike.specs.Ordered.{EqualButEmployees, AsOrderedIn, AsOrdered}
use Rattle.alike.specs.Rest.{employee_meets, own_behind, heads, seconds_none, seconds_more}

module _ (s : Shape) where
  -- The own rules come with permitted characters alone in the hidden columns.
  may_hold_lem : (lines : List Line) → AllMeet s (employees s lines) → MayHold (is_of_employee s) is_permitted lines
  may_hold_lem [] all = tt
  may_hold_lem (line ∷ lines) all = (here, may_hold_lem lines (own_behind s line lines (is_employee s line) refl all)) where
    here : (at : ℕ) → is_of_employee s line (at + 1) ≡ true → is_permitted (get_or line.text at 0) ≡ true
    here at e =
        let both = both_hold (is_employee s line) (hides_on s line (at + 1)) e in
        (employee_meets s line lines both.0 all).permitted at both.1

module _ (s : Shape) (l : Lawful s) (one other : List ℕ) where
  -- Two files that are equal but for the employees of the first are equal blotted: the second has its lines and ends where the first has them.
  pub equal_blotted : EqualButEmployees s one other → blotted s one ≡ blotted s other
  equal_blotted equal = ap joined (equal_changed (is_of_employee s) is_permitted permitted_no_end (blot s) (blot_hides s l) one other equal)

  -- And the other way round, where the employee's fields meet their own rules in the second.
  pub blotted_equal : AllMeet s (employees s (lines_of other)) → blotted s one ≡ blotted s other → EqualButEmployees s one other
  blotted_equal own same =
      changed_equal (is_of_employee s) is_permitted (blot s) (blot_keeps s) (blot_hides s l) one other (changed_lines (blot s) (blot_keeps s) one other same)
      (may_hold_lem s (lines_of other) own)

  pub ordered_alike : AsOrderedIn s one other → Alike s one other
  ordered_alike ordered =
      record {
        equal_bytes = equal_blotted ordered.equal_but;
        own_one = ordered.own_one;
        own_other = ordered.own_other;
        zero_alike = ordered.zero_alike;
        repeat_alike = ordered.repeat_alike;
        wages_alike = ordered.wages_alike;
        seconds_alike = ordered.seconds_alike;
      }

  pub alike_ordered : Alike s one other → AsOrderedIn s one other
  alike_ordered alike =
      record {
        equal_but = blotted_equal alike.own_other alike.equal_bytes;
        own_one = alike.own_one;
        own_other = alike.own_other;
        zero_alike = alike.zero_alike;
        repeat_alike = alike.repeat_alike;
        wages_alike = alike.wages_alike;
        seconds_alike = alike.seconds_alike;
      }

-- ---- the paid leave file
-- No second amount is said, so all come to nothing, under as many employers as there are.
abbrev nothing_of : List Line → ℕ
nothing_of lines = 0

none_said : (lines : List Line) → seconds_of (shape_of Pfml) lines ≡ 0
none_said [] = seconds_none (shape_of Pfml)
none_said (line ∷ lines) = seconds_more (shape_of Pfml) line lines ∙ rw (no_second (capitals line.text), none_said lines)

all_none : (lists : List (List Line)) → map (seconds_of (shape_of Pfml)) lists ≡ map nothing_of lists
all_none [] = refl
all_none (lines ∷ lists) = ap₂ (λ (n : ℕ) (l : List ℕ). n ∷ l) (none_said lines) (all_none lists)

-- Two lists of lists that come to as many numbers are as long.
no_numbers : (n : ℕ) (l : List ℕ) → [] ≡ n ∷ l → ⊥
no_numbers n l e = let z : ◌≡◌ {A = ℕ} 0 1 = cc in omega arith

as_many : (f : List Line → ℕ) (a b : List (List Line)) → map f a ≡ map f b → map nothing_of a ≡ map nothing_of b
as_many f [] [] e = refl
as_many f [] (y ∷ b) e = absurd (no_numbers (f y) (map f b) e)
as_many f (x ∷ a) [] e = absurd (no_numbers (f x) (map f a) (sym e))
as_many f (x ∷ a) (y ∷ b) e = ap (λ (l : List ℕ). 0 ∷ l) (as_many f a b (heads (f x) (f y) (map f a) (map f b) e).1)

-- So where the wages are alike the second amounts are.
pub no_seconds : (a b : List (List Line)) → map (wages_of (shape_of Pfml)) a ≡ map (wages_of (shape_of Pfml)) b → map (seconds_of (shape_of Pfml)) a ≡ map (seconds_of (shape_of Pfml)) b
no_seconds a b e = all_none a ∙ as_many (wages_of (shape_of Pfml)) a b e ∙ sym (all_none b)

pub as_ordered : (one other : List ℕ) → AsOrderedIn (shape_of Pfml) one other → AsOrdered one other
as_ordered one other ordered =
    record {
      equal_but = ordered.equal_but;
      own_one = ordered.own_one;
      own_other = ordered.own_other;
      zero_alike = ordered.zero_alike;
      repeat_alike = ordered.repeat_alike;
      wages_alike = ordered.wages_alike;
    }

module _ (one other : List ℕ) (ordered : AsOrdered one other) where
  abbrev pfml : Shape
  pfml = shape_of Pfml

  pub ordered_in : AsOrderedIn pfml one other
  ordered_in =
      record {
        equal_but = ordered.equal_but;
        own_one = ordered.own_one;
        own_other = ordered.own_other;
        zero_alike = ordered.zero_alike;
        repeat_alike = ordered.repeat_alike;
        wages_alike = ordered.wages_alike;
        seconds_alike = no_seconds (employers pfml (lines_of one)) (employers pfml (lines_of other)) ordered.wages_alike;
      }

  -- "With the same quarter, table lengths and first table contents, the acknowledgement is the same byte for byte, and every lent table is left the same."
  pub nothing_of_the_employee_as_ordered : (quarter : Quarter) (t : Tables) (lend lend' : ℕ → ℕ) → Lending Pfml lend → Lending Pfml lend'
      → walked lend (opening_with Pfml quarter) one t ≡ walked lend' (opening_with Pfml quarter) other t
  nothing_of_the_employee_as_ordered quarter =
      nothing_of_the_employee (opening_with Pfml quarter) one other (ordered_alike pfml (lawful_of Pfml) one other ordered_in)

  pub acknowledgement_as_ordered : (header : List ℕ) → length header ≡ header_size → acknowledgement Pfml (header ++ one) ≡ acknowledgement Pfml (header ++ other)
  acknowledgement_as_ordered = acknowledgement_alike Pfml one other (ordered_alike pfml (lawful_of Pfml) one other ordered_in)
