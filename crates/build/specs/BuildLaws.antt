-- Laws: what a call that builds a record answers and leaves in the slice, case by case.
use Rattle.std.specs.Prelude.{ℕ, List, ◌≡◌, length, Result, Ok, ⊤}
use Rattle.std.proofs.Math.Path.{sym}
use Rattle.std.proofs.Common.{◌∙◌}
use borrow.Author.Tests.{eq-eqb, ne_eqb}
use Rattle.laws.specs.Finding.{Finding, fine, broken}
use Rattle.reason.specs.ReasonNumbers.{notice}
use Rattle.chars.specs.Characters.{capitals}
use Rattle.text.specs.Put.{put_text}
use Rattle.text.specs.PutLaws.{put_all}
use Rattle.edits.specs.Edit.{first_broken}
use Rattle.edits.specs.EditLaws.{first_cons}
use Rattle.pfml.specs.Kinds.{kind_of, landmarks_of}
use Rattle.write.specs.Writing.{notice_in, written_by}
use Rattle.reason.specs.declared.Refusal.{Refusal}
use Rattle.build.specs.Building.{padded, edits_of_all, building}
use Rattle.build.specs.FillLaws.{padded_read, padded_length}
use Rattle.build.specs.Values.{fill_record}

module _ (letter : ℕ) (values texts out : List ℕ) where
  -- A slice of another length.
  pub wrong_length : (wrote : Result ⊤ Refusal) → (length out ≡ 290 → ⊥) → notice_in wrote ≡ notice 84 0 0 → written_by wrote out ≡ building letter values texts out
  unfolding building
  wrong_length wrote other says = rw (first_cons, ne_eqb (length out) 290 other, says)

  -- The record's line as the fields were put in, and what its edits find.
  module _ (long : length out ≡ 290) (line : List ℕ) (is : line ≡ padded (fill_record letter values texts)) (found : Finding)
      (finds : found ≡ first_broken (edits_of_all (landmarks_of (kind_of letter)) (capitals line) (fill_record letter values texts))) where
    finds_in : first_broken (edits_of_all (landmarks_of (kind_of letter)) (padded (fill_record letter values texts)) (fill_record letter values texts)) ≡ found
    finds_in = sym (finds ∙ rw (is, padded_read))

    pub turned_away_lem : (wrote : Result ⊤ Refusal) (column number : ℕ) → found ≡ broken column number → notice_in wrote ≡ notice number 0 column
        → written_by wrote out ≡ building letter values texts out
    unfolding building
    turned_away_lem wrote column number hit says = rw (first_cons, eq-eqb (length out) 290 long, finds_in, hit, says)

    pub built : (after : List ℕ) → found ≡ fine → after ≡ put_text out 1 line → written_by (Ok tt) after ≡ building letter values texts out
    unfolding building
    built after passed put =
        let whole : after ≡ padded (fill_record letter values texts) =
        put ∙ rw is (put_all out (padded (fill_record letter values texts)) (padded_length (fill_record letter values texts) ∙ sym long)) in
        rw (first_cons, eq-eqb (length out) 290 long, finds_in, passed, whole)
