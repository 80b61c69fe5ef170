-- Laws: walk_means: for every file, quarter, table lengths and lending, the calls answer and leave what the file means.
use Prim.Native.Nat.{ℕ, zero, suc, ◌+◌, ◌-◌}
use Rattle.std.specs.Prelude.{Bool, true, false, ◌≡◌, refl, eqb, length, take, if◌then◌else◌}
use mathlib.Core.List.{List, [], ◌∷◌}
use Rattle.std.proofs.Common.{sym, subst, ◌∙◌, arith, ne_eqb}
use Rattle.std.proofs.Math.Path.{ap}
use Rattle.std.proofs.lemmas.List.{length-replicate}
use Rattle.laws.specs.Finding.{Finding}
use Rattle.reason.specs.ReasonNumbers.{Notice, notice}
use Rattle.lines.specs.Laws.{from_nil, from_skip, from_line}
use Rattle.lines.specs.Lines.{Line, first_line, size_of, lines_from}
use Rattle.lines.specs.Lent.{Lent}
use Rattle.calendar.specs.Quarters.{is_allowed}
use Rattle.chars.specs.Characters.{capitals}
use Rattle.edits.specs.FormatLaws.{opens_known}
use Rattle.edits.specs.Formats.{is_known, quarter_held, may_open, is_of_opening}
use Rattle.edits.specs.declared.Opening.{Opening}
use Rattle.edits.specs.declared.Phase.{Phase}
use Rattle.edits.specs.declared.Phase.TheVariants.{BeforeA, AfterA, EOpen, AfterT, AfterF}
use Rattle.edits.specs.declared.format.Format.{Format}
use Rattle.record.specs.Laws.{passed_size, passed_positive, passed_fits, said_bounded, refusal_left, quarter_kept, more_kept}
use Rattle.record.specs.ShapeOf.{shape_of}
use Rattle.record.specs.Judge.{seen_on}
use Rattle.shape.specs.Shape.{Judged, refusal, passed}
use Rattle.shape.specs.Fits.{Bounded}
use Rattle.shape.specs.EndOfInputLaws.{end_test, end_parts}
use Rattle.shape.specs.declared.Said.{Said}
use Rattle.tables.specs.PadLaws.{pad_none}
use Rattle.tables.specs.Room.{Room, Tables, room_of, zeroed}
use Rattle.tables.specs.Tables.{no_employer}
use Rattle.meaning.specs.Before.{phase_in, ids_under, totals_in, entries_in}
use Rattle.meaning.specs.FileLaws.{onto_nil, onto_cons, meaning_end, meaning_refuses, meaning_goes_on}
use Rattle.meaning.specs.Meaning.{context_at, on_earlier_e, under_this_e, judge_at, found_on, records_onto, accepted, outcome_by, meaning_from}
use Rattle.state.specs.Unfit.{is_left}
use Rattle.state.specs.UnfitLaws.{left_number, left_opening, edit_not_opening, refused_fit}
use Rattle.state.specs.Walks as walks
use Rattle.state.specs.Walks.{refused_walk}
use Rattle.step.specs.MoveLaws.{line_fit, end_fit, open_allowed, open_refused}
use Rattle.step.specs.Moves.{Moved, all_well, again, refuses, accepts, by_verdict, end_verdict, opening_notice}
use Rattle.step.specs.Steps.{Out, carried, line_step, end_step}
use Rattle.walk.specs.At.{walk_at, tables_at}
use Rattle.walk.specs.CallLaws.{pieces_are_whole, line_at, end_at}
use Rattle.walk.specs.Calls.{Lending, calls, walked, refused_with, leaves, whole_file}
use Rattle.walk.specs.GoodLaws.{Kept, good_none, good_more, Good}
use Rattle.walk.specs.StepLaws.{room_at, used_after_lem, after_said, wrote, ids_none}

-- ---- a refused walk
module _ (format : Format) (says : Notice) where
  -- Called again it answers the same, and both tables are zeroed again; after 70 and 73 nothing is touched.
  pub again_line : is_left format says.number ≡ true → (line : Line) (t : Tables)
      → line_step (refused_walk format says) line t ≡ carried (again says (refused_walk format says)) t
  again_line e line t =
      ap (λ (moved : Moved). carried moved t)
      (line_fit (room_of t) (refused_walk format says) _ line (walks.refused says) (refused_fit (room_of t) format says e) refl)

  pub again_end : is_left format says.number ≡ true → (t : Tables) → end_step (refused_walk format says) t ≡ carried (again says (refused_walk format says)) t
  again_end e t =
      ap (λ (moved : Moved). carried moved t) (end_fit (room_of t) (refused_walk format says) (walks.refused says) (refused_fit (room_of t) format says e) refl)

-- The end call after a refusal.
end_refused : (room : Room) (format : Format) (says : Notice) → is_known format ≡ true → (shape_of format).is_left says.number ≡ true
    → end_step (refused_walk format says) (zeroed room) ≡ refused_with format says room
end_refused room format says known left =
    again_end format says (left_number format says.number known left) (zeroed room)
    ∙ rw (edit_not_opening format says.number left, length-replicate, length-replicate)

-- What the calls do with the answer of a line.
abbrev pub next : (ℕ → ℕ) → List ℕ → Out → Out
next lend rest o = if eqb o.taken 0 then end_step o.walk o.left else calls lend (o.taken - 1) rest o.walk o.left

module _ (room : Room) (held : Opening) (allowed : may_open held ≡ true) where
  -- A refusal at a line or at the end zeroes both tables.
  refused_at : (p : List Said) → Good room held p → (column number : ℕ)
      → carried (refuses (walk_at held p) column number) (tables_at room p) ≡ refused_with held.format (notice number (length p + 1) column) room
  refused_at p g column number = ap (refused_with held.format (notice number (length p + 1) column)) (room_at room held p g)

  -- ---- the end
  accepted_end : (p : List Said) → Good room held p → phase_in p ≡ AfterF → carried (accepts (walk_at held p)) (tables_at room p) ≡ leaves room held p (accepted (entries_in p) (totals_in p))
  accepted_end p g e = rw (ids_none p AfterF e refl, pad_none {A = ℕ} 0 room.ids)

  end_leaves : (p : List Said) → Good room held p → (phase : Phase) → phase_in p ≡ phase
      → carried (end_verdict (walk_at held p) (end_test phase)) (tables_at room p) ≡ leaves room held p (outcome_by (found_on (length p + 1) (end_test phase)) p)
  end_leaves p g BeforeA e = refused_at p g 1 5
  end_leaves p g AfterA e = refused_at p g 1 6
  end_leaves p g EOpen e = refused_at p g 1 7
  end_leaves p g AfterT e = refused_at p g 1 8
  end_leaves p g AfterF e = accepted_end p g e

  pub ends_by : (p : List Said) → Good room held p
      → end_step (walk_at held p) (tables_at room p) ≡ leaves room held p (outcome_by (found_on (length p + 1) (end_test (phase_in p))) p)
  ends_by p g =
      end_at room held p g allowed
      ∙ ap (λ (f : Finding). carried (end_verdict (walk_at held p) f) (tables_at room p)) (end_parts (phase_in p))
      ∙ end_leaves p g (phase_in p) refl

  ends : (p : List Said) → Good room held p → end_step (walk_at held p) (tables_at room p) ≡ leaves room held p (meaning_from room held p [])
  ends p g =
      ends_by p g
      ∙ sym (ap (leaves room held p) (meaning_end room held p ∙ ap (λ (f : Finding). outcome_by (found_on (length p + 1) f) p) (end_parts (phase_in p))))

  -- ---- a line
  -- What a line that is refused, and one that is taken, leaves.
  pub line_refused : (p : List Said) → Good room held p → (line : Line) (column number : ℕ) → judge_at room held p line ≡ refusal column number
      → line_step (walk_at held p) line (tables_at room p) ≡ refused_with held.format (notice number (length p + 1) column) room
  line_refused p g line column number e =
      line_at room held p g allowed line ∙ ap (λ (v : Judged). carried (by_verdict (walk_at held p) v) (tables_at room p)) e ∙ refused_at p g column number

  pub line_taken : (p : List Said) → Good room held p → (line : Line) (taken : ℕ) (said : Said) → judge_at room held p line ≡ passed taken said
      → line_step (walk_at held p) line (tables_at room p)
      ≡ record { says = all_well; taken = taken; walk = walk_at held (said ∷ p); left = tables_at room (said ∷ p) }
  line_taken p g line taken said e =
      let fits = passed_fits (context_at room held p) (on_earlier_e p) (under_this_e p) line taken said e in
      line_at room held p g allowed line
      ∙ ap (λ (v : Judged). carried (by_verdict (walk_at held p) v) (tables_at room p)) e
      ∙ rw (after_said held p said, wrote room held p g said fits)

  -- No clause of 72 comes to hold after a record that passes.
  kept : (p : List Said) → Good room held p → (line : Line) (taken : ℕ) (said : Said) → judge_at room held p line ≡ passed taken said → Kept room held p said
  kept p g line taken said e =
      let here = context_at room held p in
      let seen = seen_on held.format (on_earlier_e p) (under_this_e p) (capitals line.text) in
      record {
        quarter = quarter_kept here seen line taken said e g.quarter;
        more = rw (← used_after_lem said (ids_under p)) (more_kept here seen line taken said e room.ids (length (ids_under p)) refl g.more);
      }

  pub taken_good : (p : List Said) → Good room held p → (line : Line) (taken : ℕ) (said : Said) → judge_at room held p line ≡ passed taken said → Good room held (said ∷ p)
  taken_good p g line taken said e =
      let here = context_at room held p in
      let is = (passed_size here (on_earlier_e p) (under_this_e p) line taken said e).1 in
      good_more room held p g said (passed_fits here (on_earlier_e p) (under_this_e p) line taken said e)
      (subst (Bounded (shape_of held.format)) (sym is) (said_bounded held.format line)) (kept p g line taken said e)

  module _ (lend : ℕ → ℕ) (lending : Lending held.format lend) where
    lent : (s : List ℕ) → Lent (shape_of held.format).length (lend (length s)) s
    lent s = lending (length s)

    abbrev Walks : List ℕ → Type 0
    Walks bytes = (skip : ℕ) (p : List Said) → Good room held p
        → calls lend skip bytes (walk_at held p) (tables_at room p) ≡ leaves room held (records_onto held.format p (lines_from skip bytes)) (meaning_from room held p (lines_from skip bytes))

    -- A line is refused, and the end call answers the same; or taken, and the rest of the file follows.
    goes : (rest : List ℕ) → Walks rest → (p : List Said) → Good room held p → (line : Line) (v : Judged) → judge_at room held p line ≡ v
        → next lend rest (line_step (walk_at held p) line (tables_at room p))
        ≡ leaves room held (records_onto held.format p (line ∷ lines_from (size_of line - 1) rest)) (meaning_from room held p (line ∷ lines_from (size_of line - 1) rest))
    goes rest more p g line (refusal column number) e =
        let says = notice number (length p + 1) column in
        ap (next lend rest) (line_refused p g line column number e)
        ∙ end_refused room held.format says (opens_known held allowed) (refusal_left _ _ line column number e)
        ∙ sym (ap (leaves room held _) (meaning_refuses room held p line (lines_from (size_of line - 1) rest) column number e))
    goes rest more p g line (passed taken said) e =
        let here = context_at room held p in
        let is = passed_size here (on_earlier_e p) (under_this_e p) line taken said e in
        let some = passed_positive here (on_earlier_e p) (under_this_e p) line taken said e in
        ap (next lend rest) (line_taken p g line taken said e)
        ∙ rw (ne_eqb taken 0 (λ z. omega (arith, is.0, some)), is.0)
        (more (size_of line - 1) (said ∷ p) (taken_good p g line taken said e)
        ∙ ap (λ (q : List Said). leaves room held (records_onto held.format q (lines_from (size_of line - 1) rest)) (meaning_from room held (said ∷ p) (lines_from (size_of line - 1) rest))) (ap (λ (s : Said). s ∷ p) is.1)
        ∙ ap (λ (q : List Said). leaves room held q (meaning_from room held (said ∷ p) (lines_from (size_of line - 1) rest))) (sym (onto_cons held.format p line (lines_from (size_of line - 1) rest)))
        ∙ ap (leaves room held _) (sym (meaning_goes_on room held p line (lines_from (size_of line - 1) rest) taken said e)))

    -- From any records that were taken, the calls leave what the rest of the file means.
    walks_on : (bytes : List ℕ) → Walks bytes
    unfolding calls
    walks_on [] skip p g = rw (from_nil skip) (ends p g ∙ ap (λ (q : List Said). leaves room held q (meaning_from room held p [])) (sym (onto_nil held.format p)))
    walks_on (b ∷ rest) (suc skip) p g = rw (from_skip skip b rest) (walks_on rest skip p g)
    walks_on (b ∷ rest) zero p g =
        ap (next lend rest) (pieces_are_whole (walk_at held p) (tables_at room p) (lend (length (b ∷ rest))) (b ∷ rest) (lent (b ∷ rest)))
        ∙ rw (from_line b rest) (goes rest (walks_on rest) p g (first_line (b ∷ rest)) (judge_at room held p (first_line (b ∷ rest))) refl)

-- ---- an opening that is refused
module _ (held : Opening) (t : Tables) where
  -- Each later call answers its number again and touches nothing.
  abbrev untouched : Out
  untouched = record { says = opening_notice held; taken = 0; walk = refused_walk held.format (opening_notice held); left = t }

  still : (allowed : Bool) → is_of_opening (if allowed then 73 else 70) ≡ true
  still true = refl
  still false = refl

  again_untouched : carried (again (opening_notice held) (refused_walk held.format (opening_notice held))) t ≡ untouched
  again_untouched = rw (still (is_allowed (quarter_held held)))

  calls_untouched : may_open held ≡ false → (lend : ℕ → ℕ) (file : List ℕ) → calls lend 0 file (refused_walk held.format (opening_notice held)) t ≡ untouched
  unfolding calls
  calls_untouched shut lend [] = again_end held.format (opening_notice held) (left_opening held shut) t ∙ again_untouched
  calls_untouched shut lend (b ∷ rest) =
      ap (next lend rest) (again_line held.format (opening_notice held) (left_opening held shut) (first_line (take (lend (length (b ∷ rest))) (b ∷ rest))) t ∙ again_untouched)
      ∙ again_end held.format (opening_notice held) (left_opening held shut) t ∙ again_untouched

-- ---- the theorem
pub from_start : (room : Room) → tables_at room [] ≡ zeroed room
from_start room = rw (pad_none {A = ℕ} 0 room.ids, pad_none no_employer room.list)

-- Opening, line calls and one end call, whatever each is lent, answer and leave what the file means: the sentence in the manual. For an opening
-- that is refused they answer 70 or 73 and leave everything as it was.
pub walk_means : (held : Opening) (lend : ℕ → ℕ) → Lending held.format lend → (file : List ℕ) (t : Tables) → walked lend held file t ≡ whole_file held file t
walk_means held lend lending file t = at (may_open held) refl where
  at : (allowed : Bool) → may_open held ≡ allowed → walked lend held file t ≡ whole_file held file t
  at true e =
      rw (open_allowed held e, e, ← from_start (room_of t)) (walks_on (room_of t) held e lend lending file 0 [] (good_none (room_of t) held))
  at false e = rw (open_refused held e, e) (calls_untouched held t e lend file)
