-- Laws: program_means: for every way of cutting the input into reads, the frames of the last turn are the acknowledgement of the input.
use Rattle.std.specs.Prelude.{ℕ, ◌≤◌, Bool, true, false, List, [], ◌++◌, ◌≡◌, refl, length, drop}
use Rattle.std.proofs.lemmas.Bool.{false≢true}
use Rattle.std.proofs.Common.{sym, ap, subst, ◌∙◌, arith, le-ltb}
use Rattle.reason.specs.ReasonNumbers.{Notice}
use Rattle.lines.specs.Lines.{lines_of}
use Rattle.edits.specs.FormatLaws.{opens_known}
use Rattle.edits.specs.Formats.{may_open}
use Rattle.edits.specs.declared.Opening.{Opening}
use Rattle.edits.specs.declared.Phase.TheVariants.{AfterF}
use Rattle.edits.specs.declared.format.Format.{Format}
use Rattle.shape.specs.declared.Said.{Said}
use Rattle.tables.specs.Pad.{pad}
use Rattle.tables.specs.PadLaws.{length_pad}
use Rattle.tables.specs.Room.{Tables, room_of}
use Rattle.tables.specs.Tables.{no_employer}
use Rattle.tables.specs.declared.Employer.{Employer}
use Rattle.record.specs.Laws.{lawful_of}
use Rattle.meaning.specs.Before.{phase_in, open_in, ids_under, totals_in, entries_in}
use Rattle.meaning.specs.BeforeLaws.{entries_many}
use Rattle.meaning.specs.Meaning.{Outcome, accepted, refused, records_onto, meaning}
use Rattle.meaning.specs.Theorems.{accepted_iff}
use Rattle.state.specs.Unfit.{is_left, unfit}
use Rattle.state.specs.UnfitLaws.{left_opening, refused_fit, sound_fit}
use Rattle.state.specs.Walks.{refused_walk}
use Rattle.step.specs.Moves.{opening_notice}
use Rattle.step.specs.Steps.{Out}
use Rattle.walk.specs.At.{accepted_at}
use Rattle.walk.specs.AtEnd.{all_taken, refused_left}
use Rattle.walk.specs.CallLaws.{file_sound_at}
use Rattle.walk.specs.Calls.{leaves, whole_file}
use Rattle.walk.specs.GoodLaws.{good_none, Good}
use Rattle.walk.specs.WholeLaws.{whole_means}
use Rattle.frames.specs.Frames.{refusal_frame, frames_of, written, Framing, fitted, room_without, framing}
use Rattle.frames.specs.FrameLaws.{refusal_length, frames_most, within_bound, accepted_framed, refused_framed}
use Rattle.ack.specs.Acknowledgement.{program_room, file_frames, acknowledgement}
use Rattle.ack.specs.Program.{turns, input, enough, turn_frames}
use Rattle.ack.specs.ProgramLaws.{turns_wait}
use Rattle.ack.specs.Turns.{waiting, ends, header_opening}

-- The turns end as the whole file does.
whole_end : (format : Format) (reads : List (List ℕ)) (t : Tables) → turns format waiting [] reads t ≡ ends (whole_file (header_opening format (input reads)) (drop 7 (input reads)) t)
whole_end format reads t = turns_wait format reads [] t ∙ ap ends (whole_means (header_opening format (input reads)) (drop 7 (input reads)) t)

-- Frames that fit are written at the front.
abbrev writes : List ℕ → List ℕ → Framing
writes frames out = record { says = written (length frames); out = frames ++ drop (length frames) out }

fit_written : (frames out : List ℕ) → length frames ≤ length out → fitted frames out ≡ writes frames out
fit_written frames out h = rw (le-ltb (length out) (length frames) h)

-- ---- a refusal
refused_written : (format : Format) (says : Notice) (list : List Employer) (out : List ℕ) → is_left format says.number ≡ true → enough ≤ length out
    → framing (refused_walk format says) list out ≡ writes (refusal_frame says) out
refused_written format says list out left h =
    refused_framed (refused_walk format says) out list says (refused_fit (room_without (refused_walk format says) list) format says left) refl
    ∙ fit_written (refusal_frame says) out (rw (refusal_length says) (omega arith))

-- ---- acceptance
module _ (held : Opening) (allowed : may_open held ≡ true) (p : List Said) (good : Good program_room held p) (last : phase_in p ≡ AfterF) where
  abbrev list : List Employer
  list = pad no_employer 1024 (entries_in p)

  few : length (entries_in p) ≤ 1024
  few = omega (arith, entries_many p, good.list_fit)

  accepted_fits : unfit (room_without (accepted_at held p) list) (accepted_at held p) ≡ false
  accepted_fits =
      sound_fit (room_without (accepted_at held p) list) (accepted_at held p)
      (rw (length_pad no_employer 1024 (entries_in p) few) (file_sound_at program_room held p good allowed))
      (λ o. absurd (false≢true o))
      ((lawful_of held.format).more_unlent 8192 (length (ids_under p)) false (totals_in p) (open_in p) (rw last at good.more))
      (rw (allowed, rw last at good.quarter))

  accepted_written : (out : List ℕ) → enough ≤ length out → framing (accepted_at held p) list out ≡ writes (frames_of held.format (accepted (entries_in p) (totals_in p))) out
  accepted_written out h =
      accepted_framed (accepted_at held p) out (entries_in p) 1024 accepted_fits refl (sym (entries_many p))
      ∙ fit_written (frames_of held.format (accepted (entries_in p) (totals_in p))) out
      (rw (within_bound held.format (accepted (entries_in p) (totals_in p))) (omega (arith, frames_most held.format (length (entries_in p)), few)))

-- ---- a file
module _ (held : Opening) (file : List ℕ) (t : Tables) (room : room_of t ≡ program_room) (out : List ℕ) (h : enough ≤ length out) where
  abbrev records : List Said
  records = records_onto held.format [] (lines_of file)

  abbrev WritesFor : Out → List ℕ → Type 0
  WritesFor o frames = framing o.walk o.left.list out ≡ writes frames out

  meant_written : may_open held ≡ true → (outcome : Outcome) → meaning program_room held file ≡ outcome → WritesFor (leaves program_room held records outcome) (frames_of held.format outcome)
  meant_written allowed (accepted entries totals) e =
      let iff = accepted_iff program_room held file in
      let same : accepted entries totals ≡ accepted (entries_in records) (totals_in records) = sym e ∙ iff.0 (iff.1 entries totals e) in
      let taken = all_taken program_room held allowed entries totals (lines_of file) [] (good_none program_room held) e in
      subst (λ (o : Outcome). WritesFor (leaves program_room held records o) (frames_of held.format o)) (sym same)
      (accepted_written held allowed records taken.0 taken.1 out h)
  meant_written allowed (refused says) e = refused_written held.format says _ out (refused_left program_room held says (lines_of file) [] (opens_known held allowed) e) h

  file_written : WritesFor (whole_file held file t) (file_frames held file)
  file_written = at (may_open held) refl where
    at : (allowed : Bool) → may_open held ≡ allowed → WritesFor (whole_file held file t) (file_frames held file)
    at true e = rw (e, room) (meant_written e (meaning program_room held file) refl)
    at false e = rw e (refused_written held.format (opening_notice held) t.list out (left_opening held e) h)

-- For every format and every way of cutting the input into reads, the turns end, and the frames written are the acknowledgement of all that was read.
pub program_means : (format : Format) (reads : List (List ℕ)) (t : Tables) → room_of t ≡ program_room → (out : List ℕ) → enough ≤ length out
    → turn_frames (turns format waiting [] reads t).progress (turns format waiting [] reads t).tables out
    ≡ record { says = written (length (acknowledgement format (input reads))); out = acknowledgement format (input reads) ++ drop (length (acknowledgement format (input reads))) out }
program_means format reads t room out h = rw (whole_end format reads t) (file_written (header_opening format (input reads)) (drop 7 (input reads)) t room out h)
