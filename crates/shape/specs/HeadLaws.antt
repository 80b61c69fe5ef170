-- Laws: the edits before a record's fields find what is found one after the other; and the edits of a text, part by part, as the code comes to them.
use Rattle.std.specs.Prelude.{ℕ, Bool, List, ◌++◌, ◌≡◌}
use Rattle.std.proofs.Common.{◌∙◌}
use Rattle.laws.specs.Finding.{fine, broken}
use Rattle.edits.specs.Edit.{Edit, first_broken}
use Rattle.edits.specs.EditLaws.{first_cons, first_append}
use Rattle.shape.specs.Head.{head_of, head_test}

pub head_finds : (length : ℕ) (known : Bool) (placed : List Edit) (text : List ℕ)
    → first_broken (head_of length known placed text) ≡ head_test length known (first_broken placed) text
head_finds length known placed text = rw (first_cons, first_cons)

-- Head, then fields.
pub head_breaks : (head fields : List Edit) (column number : ℕ) → first_broken head ≡ broken column number → first_broken (head ++ fields) ≡ broken column number
head_breaks head fields column number e = first_append head fields ∙ rw e

pub head_passes : (head fields : List Edit) → first_broken head ≡ fine → first_broken (head ++ fields) ≡ first_broken fields
head_passes head fields e = first_append head fields ∙ rw e
