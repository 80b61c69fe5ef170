-- Laws: what the edits of a list find is told by their labels, edit by edit.
use Rattle.std.specs.Prelude.{ℕ, ◌≤◌, Bool, true, false, List, [], ◌∷◌, ◌++◌, ◌≡◌, eqb}
use Rattle.std.proofs.Common.{sym, ap, ◌∙◌, arith}
use Rattle.std.proofs.lemmas.Bool.{eqb-false}
use Rattle.laws.specs.Finding.{broken}
use Rattle.laws.specs.Labelled.{Labelled, labelled_says}
use Rattle.edits.specs.Edit.{Edit}
use Rattle.edits.specs.Labels.{names_column, ByLabel, AllLabelled}

pub none_labelled : AllLabelled []
unfolding AllLabelled
none_labelled = tt

-- The first column alone can be told, unless the number names a column.
abbrev pub FirstUnless : Bool → ℕ → ℕ → Type 0
FirstUnless true first last = Unit {0}
FirstUnless false first last = last ≡ first

only_first : (names : Bool) (first last column : ℕ) → FirstUnless names first last → first ≤ column → column ≤ last → names ≡ false → column ≡ first
only_first names first last column alone low high e = let one : last ≡ first = rw e at alone in omega arith

pub more_labelled : (edit : Edit) (edits : List Edit) → Labelled edit.number edit.first edit.last edit.finds
    → FirstUnless (names_column edit.number) edit.first edit.last → eqb edit.number 0 ≡ false → AllLabelled edits → AllLabelled (edit ∷ edits)
unfolding AllLabelled
more_labelled edit edits labelled alone some rest = (
  λ column number e.
      let says = labelled_says edit.number edit.first edit.last edit.finds labelled column number e in
      record {
        same_number = says.0;
        not_accepted = λ zero. eqb-false edit.number 0 some (sym says.0 ∙ zero);
        from_first = says.1;
        to_last = says.2;
        at_first = λ names. only_first (names_column edit.number) edit.first edit.last column alone says.1 says.2 (ap names_column (sym says.0) ∙ names);
      },
  rest,
)

pub labelled_append : (a b : List Edit) → AllLabelled a → AllLabelled b → AllLabelled (a ++ b)
unfolding AllLabelled
labelled_append [] b p q = q
labelled_append (edit ∷ edits) b p q = (p.0, labelled_append edits b p.1 q)

-- The first of a list, and the others.
pub labelled_first : (edit : Edit) (edits : List Edit) → AllLabelled (edit ∷ edits)
    → ((column number : ℕ) → edit.finds ≡ broken column number → ByLabel edit column number) × AllLabelled edits
unfolding AllLabelled
labelled_first edit edits all = all
