-- Laws: the sentence in the manual as one theorem: of the calls, whatever each is lent, and of a whole file in one slice.
use Rattle.std.specs.Prelude.{ℕ, true, List, [], ◌≡◌, refl}
use Rattle.std.proofs.Common.{sym, ap, subst, ◌∙◌}
use Rattle.reason.specs.ReasonNumbers.{Notice}
use Rattle.lines.specs.Lines.{lines_of}
use Rattle.tables.specs.Room.{Tables, room_of}
use Rattle.edits.specs.Formats.{may_open}
use Rattle.edits.specs.declared.Opening.{Opening}
use Rattle.meaning.specs.Meaning as meant
use Rattle.meaning.specs.Meaning.{LineEdit, file_edits, Outcome, records_onto, meaning}
use Rattle.meaning.specs.Theorems.{not_refused, accepted_iff, first_is_first}
use Rattle.state.specs.UnfitLaws.{edit_not_0}
use Rattle.step.specs.Moves.{all_well}
use Rattle.walk.specs.AtEnd.{refused_by_edit}
use Rattle.walk.specs.Calls.{Lending, walked, leaves, whole_file}
use Rattle.walk.specs.EmployersReported.{reported}
use Rattle.walk.specs.AsInManual.{AsInManual}
use Rattle.walk.specs.WalkMeans.{walk_means}

module _ (held : Opening) (allowed : may_open held ≡ true) (file : List ℕ) (t : Tables) where
  abbrev edits : List LineEdit
  edits = file_edits (room_of t) held file

  -- A refusal of a file is not the answer of acceptance, whose number is 0.
  refused_otherwise : (says : Notice) → meaning (room_of t) held file ≡ meant.refused says → says ≡ all_well → ⊥
  refused_otherwise says e well =
      let zero : says.number ≡ 0 = ap (λ (n : Notice). n.number) well in
      edit_not_0 held.format says.number (refused_by_edit (room_of t) held says (lines_of file) [] e) zero

  by_outcome : (outcome : Outcome) → meaning (room_of t) held file ≡ outcome
      → AsInManual held.format edits file t (leaves (room_of t) held (records_onto held.format [] (lines_of file)) outcome)
  by_outcome (meant.accepted entries totals) e =
      let none = (accepted_iff (room_of t) held file).1 entries totals e in
      record {
        accepted_none_broken = λ well. none;
        none_broken_accepted = λ none-broken. refl;
        employers = λ well. reported held file t (meant.accepted entries totals) e refl;
        refused_first = λ otherwise. absurd (otherwise refl);
      }
  by_outcome (meant.refused says) e =
      let otherwise = refused_otherwise says e in
      record {
        accepted_none_broken = λ well. absurd (otherwise well);
        none_broken_accepted = λ none-broken. absurd (not_refused _ _ says (sym ((accepted_iff (room_of t) held file).0 none-broken) ∙ e));
        employers = λ well. absurd (otherwise well);
        refused_first = λ _. first_is_first (room_of t) held file says e;
      }

  -- "Demand 2 takes an opening that isn't refused." Of a whole file in one slice,
  pub whole_as_in_manual : AsInManual held.format edits file t (whole_file held file t)
  whole_as_in_manual = rw allowed (by_outcome (meaning (room_of t) held file) refl)

  -- and of opening, line calls and one end call, for every lending.
  pub calls_as_in_manual : (lend : ℕ → ℕ) → Lending held.format lend → AsInManual held.format edits file t (walked lend held file t)
  calls_as_in_manual lend lending = subst (AsInManual held.format edits file t) (sym (walk_means held lend lending file t)) whole_as_in_manual
