-- Laws: what the first broken edit of a list finds has one of the list's numbers.
use Rattle.std.specs.Prelude.{ℕ, Bool, true, List, [], ◌∷◌, ◌++◌, ◌≡◌, refl}
use Rattle.std.proofs.Common.{inl, inr, subst}
use Rattle.laws.specs.ChoiceLaws.{both_hold}
use Rattle.laws.specs.Finding.{broken}
use Rattle.edits.specs.Edit.{Edit, first_broken}
use Rattle.edits.specs.EditLaws.{first_of_list}
use Rattle.edits.specs.Labels.{AllLabelled, FirstIn}
use Rattle.edits.specs.Numbering.{numbers_of, OneOf, all_pass}

stands_listed : (earlier : List Edit) (edit : Edit) (later : List Edit) → OneOf edit.number (numbers_of (earlier ++ (edit ∷ later)))
stands_listed [] edit later = inl refl
stands_listed (other ∷ earlier) edit later = inr (stands_listed earlier edit later)

-- What the first broken edit finds has its number, and that is listed.
first_listed : (edits : List Edit) (column number : ℕ) → FirstIn edits column number → OneOf number (numbers_of edits)
first_listed edits column number first =
    rw (first.by_label.same_number, first.stands) (stands_listed first.earlier first.edit first.later)

-- A list of edits whose numbers are these breaks none but these.
pub one_of_listed : (edits : List Edit) (numbers : List ℕ) → numbers_of edits ≡ numbers → AllLabelled edits
    → (column number : ℕ) → first_broken edits ≡ broken column number → OneOf number numbers
one_of_listed edits numbers listed labelled column number e =
    subst (λ (these : List ℕ). OneOf number these) listed
    (first_listed edits column number (first_of_list edits labelled column number e))

pub one_passes : (test : ℕ → Bool) (number : ℕ) (numbers : List ℕ) → OneOf number numbers → all_pass test numbers ≡ true → test number ≡ true
one_passes test number [] one all = absurd one
one_passes test number (this ∷ numbers) (inl same) all = rw same (both_hold (test this) (all_pass test numbers) all).0
one_passes test number (this ∷ numbers) (inr one) all = one_passes test number numbers one (both_hold (test this) (all_pass test numbers) all).1
