-- Laws: lines that are alike stay so from line to line.
use Rattle.std.specs.Prelude.{ℕ, ◌+◌, Bool, true, false, List, [], ◌∷◌, ◌++◌, map, ◌≡◌, eqb, length, if◌then◌else◌}
use Rattle.std.proofs.lemmas.Bool.{false≢true}
use Rattle.std.proofs.Math.Bool.{and-false}
use Rattle.std.proofs.Math.Path.{refl}
use Rattle.std.proofs.Common.{sym, ap, ◌∙◌}
use Rattle.laws.specs.ChoiceLaws.{both_hold}
use Rattle.lines.specs.Lines.{Line}
use Rattle.shape.specs.Blot.{employee_alike, line_same}
use Rattle.shape.specs.Hidden.{of_employee, of_employer, is_employee, is_employer, is_note, employee_on, blot, MeetsOwn}
use Rattle.shape.specs.Lawful.{Lawful}
use Rattle.shape.specs.Shape.{Shape, said_on}
use Rattle.shape.specs.declared.Said.{Said}
use Rattle.shape.specs.declared.Said.TheVariants.{OfA, OfE, OfS, OfT, OfF, OfNote, OfNone}
use Rattle.tables.specs.Tables.{is_among}
use Rattle.alike.specs.Alike.{employees, under, employers, AllMeet, id_of, is_zero, repeats, repeats_after, wages_of, seconds_of, AlikeLines}

-- ---- lists, one line further
module _ (s : Shape) (line : Line) (lines : List Line) where
  employees_more : is_employee s line ≡ true → employees s (line ∷ lines) ≡ line ∷ employees s lines
  unfolding employees
  employees_more is = rw is

  employees_same : is_employee s line ≡ false → employees s (line ∷ lines) ≡ employees s lines
  unfolding employees
  employees_same none = rw none

  pub under_more : is_employee s line ≡ true → under s (line ∷ lines) ≡ line ∷ under s lines
  unfolding under
  under_more is = rw is

  pub under_note : is_employee s line ≡ false → is_note s line ≡ true → under s (line ∷ lines) ≡ under s lines
  unfolding under
  under_note none note = rw (none, note)

  pub under_none : is_employee s line ≡ false → is_note s line ≡ false → under s (line ∷ lines) ≡ []
  unfolding under
  under_none none other = rw (none, other)

  employers_more : is_employer s line ≡ true → employers s (line ∷ lines) ≡ under s lines ∷ employers s lines
  unfolding employers
  employers_more is = rw is

  employers_same : is_employer s line ≡ false → employers s (line ∷ lines) ≡ employers s lines
  unfolding employers
  employers_same none = rw none

  meets_line : AllMeet s (line ∷ lines) → MeetsOwn s line × AllMeet s lines
  unfolding AllMeet
  meets_line all = all

  pub repeats_more : (earlier : List ℕ) → repeats_after s earlier (line ∷ lines) ≡ is_among (id_of s line) earlier ∷ repeats_after s (earlier ++ (id_of s line ∷ [])) lines
  unfolding repeats_after
  repeats_more earlier = refl

  pub wages_more : wages_of s (line ∷ lines) ≡ (employee_on s line).wages + wages_of s lines
  unfolding wages_of
  wages_more = refl

  pub seconds_more : seconds_of s (line ∷ lines) ≡ (employee_on s line).second + seconds_of s lines
  unfolding seconds_of
  seconds_more = refl

module _ (s : Shape) where
  pub under_end : under s [] ≡ []
  unfolding under
  under_end = refl

  pub wages_none : wages_of s [] ≡ 0
  unfolding wages_of
  wages_none = refl

  pub seconds_none : seconds_of s [] ≡ 0
  unfolding seconds_of
  seconds_none = refl

  pub employee_meets : (line : Line) (lines : List Line) → is_employee s line ≡ true → AllMeet s (employees s (line ∷ lines)) → MeetsOwn s line
  employee_meets line lines is all = (meets_line s line (employees s lines) (rw (← employees_more s line lines is) all)).0

pub heads : {A : Type 0} (a b : A) (s t : List A) → a ∷ s ≡ b ∷ t → (a ≡ b) × (s ≡ t)
heads a b s t e = (cc, cc)

-- ---- an E record is no S record, so what is blotted out does not touch it
no_employer_lem : (said : Said) → of_employee said ≡ true → of_employer said ≡ false
no_employer_lem (OfA quarter) e = refl
no_employer_lem (OfE employer) e = absurd (false≢true e)
no_employer_lem (OfS employee) e = refl
no_employer_lem OfT e = refl
no_employer_lem OfF e = refl
no_employer_lem (OfNote note) e = refl
no_employer_lem OfNone e = refl

employee_no_employer : (s : Shape) (line : Line) → is_employee s line ≡ true → is_employer s line ≡ false
employee_no_employer s line is =
    let both = both_hold (eqb (length line.text) s.length) (of_employee (said_on s line)) is in
    rw (no_employer_lem (said_on s line) both.1, and-false (eqb (length line.text) s.length))

pub employer_alike : (s : Shape) (l : Lawful s) (one other : Line) → blot s one ≡ blot s other → is_employer s one ≡ is_employer s other
employer_alike s l one other same = by (is_employee s one) refl where
  by : (is : Bool) → is_employee s one ≡ is → is_employer s one ≡ is_employer s other
  by true is = employee_no_employer s one is ∙ sym (employee_no_employer s other (sym (employee_alike s l one other same) ∙ is))
  by false none = ap (is_employer s) (line_same s l one other same none)

-- ---- two lists of lines
module _ (s : Shape) (l : Lawful s) (one other : Line) (ones others : List Line) (all : AlikeLines s (one ∷ ones) (other ∷ others)) where
  pub line_alike : blot s one ≡ blot s other
  line_alike = (heads (blot s one) (blot s other) (map (blot s) ones) (map (blot s) others) all.equal_bytes).0

  module _ (is : is_employee s one ≡ true) where
    other_is : is_employee s other ≡ true
    other_is = rw (← employee_alike s l one other line_alike) is

    pub one_meets : MeetsOwn s one
    one_meets = employee_meets s one ones is all.own_one

    pub other_meets : MeetsOwn s other
    other_meets = employee_meets s other others other_is all.own_other

-- ---- after the line
abbrev if_so : {A : Type 0} → Bool → A → List A → List A
if_so so a l = if so then a ∷ l else l

tail_by : {A : Type 0} (so : Bool) (a b : A) (s t : List A) → if_so so a s ≡ if_so so b t → s ≡ t
tail_by true a b s t e = (heads a b s t e).1
tail_by false a b s t e = e

pub own_behind : (s : Shape) (line : Line) (lines : List Line) (is : Bool) → is_employee s line ≡ is → AllMeet s (employees s (line ∷ lines)) → AllMeet s (employees s lines)
own_behind s line lines true e all = (meets_line s line (employees s lines) (rw (← employees_more s line lines e) all)).1
own_behind s line lines false e all = rw (← employees_same s line lines e) all

zero_more : (s : Shape) (line : Line) (lines : List Line) (is : Bool) → is_employee s line ≡ is
    → map (is_zero s) (employees s (line ∷ lines)) ≡ if_so is (is_zero s line) (map (is_zero s) (employees s lines))
zero_more s line lines true e = rw (employees_more s line lines e)
zero_more s line lines false e = rw (employees_same s line lines e)

of_employers : {A : Type 0} (s : Shape) (f : List Line → A) (line : Line) (lines : List Line) (is : Bool) → is_employer s line ≡ is
    → map f (employers s (line ∷ lines)) ≡ if_so is (f (under s lines)) (map f (employers s lines))
of_employers s f line lines true e = rw (employers_more s line lines e)
of_employers s f line lines false e = rw (employers_same s line lines e)

module _ (s : Shape) (l : Lawful s) (one other : Line) (ones others : List Line) (all : AlikeLines s (one ∷ ones) (other ∷ others)) where
  abbrev same : blot s one ≡ blot s other
  same = line_alike s l one other ones others all

  zeros : if_so (is_employee s one) (is_zero s one) (map (is_zero s) (employees s ones)) ≡ if_so (is_employee s one) (is_zero s other) (map (is_zero s) (employees s others))
  zeros =
      sym (zero_more s one ones (is_employee s one) refl) ∙ all.zero_alike
      ∙ zero_more s other others (is_employee s one) (sym (employee_alike s l one other same))

  by_employer : {A : Type 0} (f : List Line → A) → map f (employers s (one ∷ ones)) ≡ map f (employers s (other ∷ others))
      → if_so (is_employer s one) (f (under s ones)) (map f (employers s ones)) ≡ if_so (is_employer s one) (f (under s others)) (map f (employers s others))
  by_employer f e =
      sym (of_employers s f one ones (is_employer s one) refl) ∙ e ∙ of_employers s f other others (is_employer s one) (sym (employer_alike s l one other same))

  pub zero_same : is_employee s one ≡ true → is_zero s one ≡ is_zero s other
  zero_same is = (heads (is_zero s one) (is_zero s other) (map (is_zero s) (employees s ones)) (map (is_zero s) (employees s others)) (rw is at zeros)).0

  -- What an E brings: the S records under it.
  pub of_employer_lem : {A : Type 0} (f : List Line → A) → map f (employers s (one ∷ ones)) ≡ map f (employers s (other ∷ others)) → is_employer s one ≡ true
      → f (under s ones) ≡ f (under s others)
  of_employer_lem f e is = let both = by_employer f e in (heads (f (under s ones)) (f (under s others)) (map f (employers s ones)) (map f (employers s others)) (rw is at both)).0

  behind_employer : {A : Type 0} (f : List Line → A) → map f (employers s (one ∷ ones)) ≡ map f (employers s (other ∷ others))
      → map f (employers s ones) ≡ map f (employers s others)
  behind_employer f e = tail_by (is_employer s one) (f (under s ones)) (f (under s others)) (map f (employers s ones)) (map f (employers s others)) (by_employer f e)

  pub rest : AlikeLines s ones others
  rest =
      record {
        equal_bytes = (heads (blot s one) (blot s other) (map (blot s) ones) (map (blot s) others) all.equal_bytes).1;
        own_one = own_behind s one ones (is_employee s one) refl all.own_one;
        own_other = own_behind s other others (is_employee s other) refl all.own_other;
        zero_alike = tail_by (is_employee s one) (is_zero s one) (is_zero s other) (map (is_zero s) (employees s ones)) (map (is_zero s) (employees s others)) zeros;
        repeat_alike = behind_employer (repeats s) all.repeat_alike;
        wages_alike = behind_employer (wages_of s) all.wages_alike;
        seconds_alike = behind_employer (seconds_of s) all.seconds_alike;
      }
