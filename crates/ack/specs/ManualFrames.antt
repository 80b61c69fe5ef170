-- Laws: the sentence in the manual holds of the acknowledgement that the program writes; and how long that is.
use Rattle.std.specs.Prelude.{ℕ, ◌+◌, ◌*◌, ◌≤◌, Bool, true, false, List, ◌≡◌, refl, length, drop}
use Rattle.std.proofs.Common.{sym, ◌∙◌, arith}
use Rattle.calendar.specs.Quarters.{is_allowed}
use Rattle.edits.specs.FormatLaws.{quarter_opens}
use Rattle.edits.specs.Formats.{is_known, may_open}
use Rattle.edits.specs.declared.Opening.{Opening}
use Rattle.edits.specs.declared.format.Format.{Format}
use Rattle.meaning.specs.Employers.{employers_are}
use Rattle.meaning.specs.Forward.{records_of, employers_of, totals_of}
use Rattle.meaning.specs.Meaning.{LineEdit, file_edits, Outcome, accepted, refused, meaning}
use Rattle.meaning.specs.Theorems.{not_refused, accepted_iff, first_is_first}
use Rattle.step.specs.Moves.{opening_notice}
use Rattle.frames.specs.FirstByte.{never_both}
use Rattle.frames.specs.FrameLaws.{refusal_length, within_bound}
use Rattle.frames.specs.Frames.{employer_size, frames_of}
use Rattle.ack.specs.Acknowledgement.{program_room, file_frames, acknowledgement}
use Rattle.ack.specs.Turns.{header_size, header_quarter, header_opening}
use Rattle.ack.specs.FramesAsInManual.{accepted_frames, ToldAsInManual}

module _ (held : Opening) (file : List ℕ) where
  abbrev edits : List LineEdit
  edits = file_edits program_room held file

  by_outcome : (outcome : Outcome) → meaning program_room held file ≡ outcome → ToldAsInManual held.format edits file (frames_of held.format outcome)
  by_outcome (accepted entries totals) e =
      let are = employers_are program_room held file entries totals e in
      let same : frames_of held.format (accepted entries totals) ≡ accepted_frames held.format file = rw (are.0, are.1) in
      record {
        accepted_none_broken = λ told. (accepted_iff program_room held file).1 entries totals e;
        none_broken_accepted = λ none-broken. same;
        otherwise_refused = λ otherwise. absurd (otherwise same);
      }
  by_outcome (refused says) e =
      record {
        accepted_none_broken = λ told. absurd (never_both held.format (employers_of (records_of held.format file)) (totals_of (records_of held.format file)) says told);
        none_broken_accepted = λ none-broken. absurd (not_refused _ _ says (sym ((accepted_iff program_room held file).0 none-broken) ∙ e));
        otherwise_refused = λ otherwise. record { says = says; frame = refl; first = first_is_first program_room held file says e };
      }

-- The acknowledgement of every input whose header gives a quarter that may be the last closed one says of its file what the manual says, in every format.
pub acknowledged_as_in_manual : (format : Format) (input : List ℕ) → is_known format ≡ true → is_allowed (header_quarter input) ≡ true
    → ToldAsInManual format (file_edits program_room (header_opening format input) (drop header_size input)) (drop header_size input) (acknowledgement format input)
acknowledged_as_in_manual format input known allowed =
    rw (quarter_opens format (header_quarter input) known allowed)
    (by_outcome (header_opening format input) (drop header_size input) (meaning program_room (header_opening format input) (drop header_size input)) refl)

-- ---- "the output bound becomes 47 bytes for each employer and 35 more": `employer_size` is 47 in the wage file.
abbrev bound_for : Format → List ℕ → ℕ
bound_for format file = employer_size format * length (employers_of (records_of format file)) + 35

outcome_bound : (held : Opening) (file : List ℕ) (outcome : Outcome) → meaning program_room held file ≡ outcome
    → length (frames_of held.format outcome) ≤ bound_for held.format file
outcome_bound held file (accepted entries totals) e =
    let are = (employers_are program_room held file entries totals e).0 in
    rw (within_bound held.format (accepted entries totals), are) (omega arith)
outcome_bound held file (refused says) e = rw (refusal_length says) (omega arith)

file_bound : (held : Opening) (file : List ℕ) (allowed : Bool) → may_open held ≡ allowed → length (file_frames held file) ≤ bound_for held.format file
file_bound held file true e = rw e (outcome_bound held file (meaning program_room held file) refl)
file_bound held file false e = rw (e, refusal_length (opening_notice held)) (omega arith)

-- Of every input, whatever it is: the employers are the E records of the file after its header.
pub acknowledgement_bound : (format : Format) (input : List ℕ) → length (acknowledgement format input) ≤ employer_size format * length (employers_of (records_of format (drop header_size input))) + 35
acknowledgement_bound format input = file_bound (header_opening format input) (drop header_size input) (may_open (header_opening format input)) refl
