-- Laws: a test of each hypothesis of demand 3, for the paid leave file: two files that pass it meet the hypothesis, and those that meet all are alike.
use Rattle.std.specs.Prelude.{ℕ, Bool, true, false, ◌&&◌, List, [], ◌∷◌, map, ◌≡◌, refl, eqb}
use Rattle.std.proofs.lemmas.Bool.{false≢true}
use Rattle.std.proofs.Common.{eqb-true}
use Rattle.laws.specs.ChoiceLaws.{both_hold}
use Rattle.laws.specs.Finding.{Finding, fine, broken}
use Rattle.lines.specs.Lines.{Line, lines_of}
use Rattle.chars.specs.Characters.{capitals}
use Rattle.chars.specs.Columns.{is_fine}
use Rattle.edits.specs.Edit.{first_broken}
use Rattle.pfml.specs.Employees.{personal_edits}
use Rattle.pfml.specs.Format.{pfml_shape}
use Rattle.pfml.specs.OwnPermitted.{meets_own}
use Rattle.alike.specs.Alike.{blotted, employees, under, employers, AllMeet, is_zero, repeats_after, repeats, wages_of, Alike}
use Rattle.alike.specs.OrderedLaws.{no_seconds}
use Rattle.alike.specs.Hypotheses.{Hypothesis, Met, AllMet, others, EqualBytes, OwnRules, ZeroAlike, RepeatAlike, WagesAlike}

-- Files that meet that one and the others are alike.
module _ (one other : List ℕ) where
  alike : Met EqualBytes one other → Met OwnRules one other → Met ZeroAlike one other → Met RepeatAlike one other → Met WagesAlike one other → Alike pfml_shape one other
  alike b o z r w =
      record {
        equal_bytes = b;
        own_one = o.0;
        own_other = o.1;
        zero_alike = z;
        repeat_alike = r;
        wages_alike = w;
        seconds_alike = no_seconds (employers pfml_shape (lines_of one)) (employers pfml_shape (lines_of other)) w;
      }

  pub together : (left : Hypothesis) → Met left one other → AllMet (others left) one other → Alike pfml_shape one other
  together EqualBytes b (o, (z, (r, (w, end)))) = alike b o z r w
  together OwnRules o (b, (z, (r, (w, end)))) = alike b o z r w
  together ZeroAlike z (b, (o, (r, (w, end)))) = alike b o z r w
  together RepeatAlike r (b, (o, (z, (w, end)))) = alike b o z r w
  together WagesAlike w (b, (o, (z, (r, end)))) = alike b o z r w

-- ---- tests: that a truth value comes out true is far cheaper to check than that two long lists come out equal
abbrev Tells : {A : Type 0} → (A → A → Bool) → Type 0
Tells {A = A} test = (a b : A) → test a b ≡ true → a ≡ b

abbrev same_truth : Bool → Bool → Bool
same_truth true b = b
same_truth false true = false
same_truth false false = true

truth_tells : Tells same_truth
truth_tells true true e = refl
truth_tells true false e = absurd (false≢true e)
truth_tells false true e = absurd (false≢true e)
truth_tells false false e = refl

module _ {A : Type 0} (test : A → A → Bool) where
  abbrev same_list : List A → List A → Bool
  same_list [] [] = true
  same_list [] (b ∷ t) = false
  same_list (a ∷ s) [] = false
  same_list (a ∷ s) (b ∷ t) = test a b && same_list s t

  list_tells : Tells test → Tells same_list
  list_tells tells [] [] e = refl
  list_tells tells [] (b ∷ t) e = absurd (false≢true e)
  list_tells tells (a ∷ s) [] e = absurd (false≢true e)
  list_tells tells (a ∷ s) (b ∷ t) e =
      let both = both_hold (test a b) (same_list s t) e in
      rw (tells a b both.0, list_tells tells s t both.1)

-- What the own rules find on an S record.
abbrev own_finding : Line → Finding
own_finding line = first_broken (personal_edits (capitals line.text))

abbrev meet_own : List Line → Bool
meet_own [] = true
meet_own (line ∷ lines) = is_fine (own_finding line) && meet_own lines

is_fine_lem : (f : Finding) → is_fine f ≡ true → f ≡ fine
is_fine_lem fine e = refl
is_fine_lem (broken column number) e = absurd (false≢true e)

all_meet : (lines : List Line) → meet_own lines ≡ true → AllMeet pfml_shape lines
unfolding AllMeet
all_meet [] e = tt
all_meet (line ∷ lines) e =
    let both = both_hold (is_fine (own_finding line)) (meet_own lines) e in
    (meets_own line (is_fine_lem (own_finding line) both.0), all_meet lines both.1)

-- Where this is opened, so are the definitions of this crate that it is computed with.
unfoldable pub is_met : Hypothesis → List ℕ → List ℕ → Bool
unfolding employees under employers repeats_after wages_of
is_met EqualBytes one other = same_list eqb (blotted pfml_shape one) (blotted pfml_shape other)
is_met OwnRules one other = meet_own (employees pfml_shape (lines_of one)) && meet_own (employees pfml_shape (lines_of other))
is_met ZeroAlike one other = same_list same_truth (map (is_zero pfml_shape) (employees pfml_shape (lines_of one))) (map (is_zero pfml_shape) (employees pfml_shape (lines_of other)))
is_met RepeatAlike one other = same_list (same_list same_truth) (map (repeats pfml_shape) (employers pfml_shape (lines_of one))) (map (repeats pfml_shape) (employers pfml_shape (lines_of other)))
is_met WagesAlike one other = same_list eqb (map (wages_of pfml_shape) (employers pfml_shape (lines_of one))) (map (wages_of pfml_shape) (employers pfml_shape (lines_of other)))

pub met_by : (h : Hypothesis) (one other : List ℕ) → is_met h one other ≡ true → Met h one other
unfolding is_met
met_by EqualBytes one other e = list_tells eqb eqb-true (blotted pfml_shape one) (blotted pfml_shape other) e
met_by OwnRules one other e =
    let both = both_hold (meet_own (employees pfml_shape (lines_of one))) (meet_own (employees pfml_shape (lines_of other))) e in
    (all_meet (employees pfml_shape (lines_of one)) both.0, all_meet (employees pfml_shape (lines_of other)) both.1)
met_by ZeroAlike one other e = list_tells same_truth truth_tells _ _ e
met_by RepeatAlike one other e = list_tells (same_list same_truth) (list_tells same_truth truth_tells) _ _ e
met_by WagesAlike one other e = list_tells eqb eqb-true _ _ e

abbrev pub are_met : List Hypothesis → List ℕ → List ℕ → Bool
are_met [] one other = true
are_met (h ∷ hs) one other = is_met h one other && are_met hs one other

pub all_met_by : (hs : List Hypothesis) (one other : List ℕ) → are_met hs one other ≡ true → AllMet hs one other
all_met_by [] one other e = tt
all_met_by (h ∷ hs) one other e =
    let both = both_hold (is_met h one other) (are_met hs one other) e in
    (met_by h one other both.0, all_met_by hs one other both.1)
