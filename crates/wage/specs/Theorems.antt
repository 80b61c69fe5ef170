-- Laws: calls through words are the calls of the walk: what a call leaves, the words tell to the next. Words that tell no walk are answered 72, and
-- nothing is changed; those that tell a walk refused with 70 are answered 70 again, and nothing is touched.
use Rattle.std.specs.Prelude.{ℕ, ◌≤◌, Bool, true, false, ◌||◌, List, [], ◌∷◌, ◌≡◌, refl, eqb, length, drop, if◌then◌else◌}
use Rattle.std.proofs.lemmas.Bool.{false≢true}
use Rattle.std.proofs.Common.{sym, ap, subst, ◌∙◌, arith, length-append, length-drop, ne_eqb}
use Rattle.laws.specs.Finding.{Finding, fine, broken}
use Rattle.reason.specs.ReasonNumbers.{Notice, notice}
use Rattle.lines.specs.Lines.{Line, first_line}
use Rattle.chars.specs.Characters.{capitals}
use Rattle.edits.specs.Edit.{first_broken}
use Rattle.edits.specs.Formats.{is_of_opening}
use Rattle.edits.specs.declared.Opening.{Opening}
use Rattle.edits.specs.declared.Phase.{Phase}
use Rattle.edits.specs.declared.Seen.{Seen}
use Rattle.edits.specs.declared.format.Format.{Format}
use Rattle.shape.specs.Shape.{Judged, refusal, passed}
use Rattle.record.specs.Judge.{judge, seen_on}
use Rattle.record.specs.ShapeOf.{shape_of}
use Rattle.record.specs.Laws.{refusal_left, end_left}
use Rattle.shape.specs.EndOfInput.{end_edits}
use Rattle.tables.specs.Room.{Room, Tables, room_of}
use Rattle.tables.specs.declared.Employer.{Employer}
use Rattle.state.specs.Unfit.{unfit}
use Rattle.state.specs.UnfitLaws.{edit_not_opening, edit_not_71, edit_not_72}
use Rattle.state.specs.Walks.{Standing, reading, accepted, refused, Walk}
use Rattle.state_words.specs.Theorems.{unknown_unfit}
use Rattle.state_words.specs.Words.{word_count, words_of, put_words, walk_in}
use Rattle.state_words.specs.UnknownWords.{Unknown}
use Rattle.state_words.specs.WordsWritten.{words_length, enough}
use Rattle.write.specs.Writing.{no_tables, refusal_of, writing}
use Rattle.write.specs.WritingLaws.{unfit_first}
use Rattle.frames.specs.FrameLaws.{framing_unfit}
use Rattle.frames.specs.Frames.{Framing, room_without}
use Rattle.step.specs.MoveLaws.{line_unfit, line_fit, line_cases, end_unfit, end_fit}
use Rattle.step.specs.Moves.{Moved, again, context_of, by_verdict, by_standing, end_verdict, end_standing, end_moved}
use Rattle.step.specs.Steps.{Out, carried, listed_fein, listed_id, open_step, line_step, end_step}
use Rattle.walk.specs.Calls.{whole_file}
use Rattle.wage.specs.ExportLaws.{has_place}
use Rattle.wage.specs.Exports.{numbers, answered, Called, called, Opened, is_still, state_after, Continued, placed, open_through, line_through, end_through, whole_through, Filled, filled_record, filled_t, filled_f, filled_wham_t, filled_wham_f, filled_framing, filled_frames}
use Rattle.wage.specs.CallsFollow.{Follows, LineCall, InRow, AllFollow}

-- ---- one call
put_length : (walk : Walk) (words : List ℕ) → word_count ≤ length words → length (put_words walk words) ≡ length words
put_length walk words room =
    rw (enough walk words room, length-append (words_of walk) (drop word_count words), words_length walk, length-drop word_count words) (omega arith)

module _ (out : Out) (words answer : List ℕ) (has : Called) (room : word_count ≤ length words) where
  follow : (state : List ℕ) → has ≡ called out state answer → walk_in has.state ≡ out.walk → length state ≡ length words → Follows out words has
  follow state is walk same =
      record {
        number = ap (λ (c : Called). c.number) is;
        left = ap (λ (c : Called). c.left) is;
        walk = walk;
        room = ap (λ (c : Called). length c.state) is ∙ same;
      }

  opened_follows : Opened out words answer has → Follows out words has
  opened_follows promised = follow (put_words out.walk words) promised.0 (promised.1 room) (put_length out.walk words room)

  -- A call that answers 70, 71 or 72 leaves the walk as it was.
  continued_follows : Continued out words answer has → (is_still out.says.number ≡ true → out.walk ≡ walk_in words) → Follows out words has
  continued_follows promised stands = at (is_still out.says.number) refl
    where
      left_by : (still : Bool) → is_still out.says.number ≡ still → has ≡ called out (if still then words else put_words out.walk words) answer
      left_by still e = promised.0 ∙ ap (λ (b : Bool). called out (if b then words else put_words out.walk words) answer) e

      at : (still : Bool) → is_still out.says.number ≡ still → Follows out words has
      at true e = follow words (left_by true e) (ap (λ (c : Called). walk_in c.state) (left_by true e) ∙ sym (stands e)) refl
      at false e = follow (put_words out.walk words) (left_by false e) (promised.1 room e) (put_length out.walk words room)

-- ---- 70 to 73 leave the walk as it was
abbrev Stands : Walk → Moved → Type 0
Stands walk m = is_still m.says.number ≡ true → m.walk ≡ walk

opening_still : (number : ℕ) → is_of_opening number ≡ true → is_still number ≡ true
opening_still number = at (eqb number 70) (eqb number 71) (eqb number 72) (eqb number 73) where
  at : (a b c d : Bool) → a || d ≡ true → a || b || c || d ≡ true
  at true b c d e = refl
  at false true c d e = refl
  at false false true d e = refl
  at false false false d e = e

edit_moves : (format : Format) (number : ℕ) → (shape_of format).is_left number ≡ true → is_still number ≡ true → ⊥
edit_moves format number left still = false≢true (sym moves ∙ still) where
  still_by : (a d : Bool) → a || d ≡ false → a || false || false || d ≡ false
  still_by true d e = e
  still_by false d e = e

  moves : is_still number ≡ false
  moves =
      rw (ne_eqb number 71 (edit_not_71 format number left), ne_eqb number 72 (edit_not_72 format number left))
      (still_by (eqb number 70) (eqb number 73) (edit_not_opening format number left))

module _ (room : Room) (walk : Walk) where
  line_verdict : (phase : Phase) (seen : Seen) (line : Line) (v : Judged) → judge (context_of room walk phase) seen line ≡ v → Stands walk (by_verdict walk v)
  line_verdict phase seen line (refusal column number) e still = absurd (edit_moves walk.held.format number (refusal_left _ seen line column number e) still)
  line_verdict phase seen line (passed taken said) e still = absurd (false≢true still)

  line_standing : (seen : Seen) (line : Line) (standing : Standing) → Stands walk (by_standing room seen line walk standing)
  line_standing seen line (reading phase) = line_verdict phase seen line _ refl
  line_standing seen line accepted = λ still. refl
  line_standing seen line (refused says) = λ still. refl

  end_verdict_lem : (phase : Phase) (found : Finding) → first_broken (end_edits phase) ≡ found → Stands walk (end_verdict walk found)
  end_verdict_lem phase fine e still = absurd (false≢true still)
  end_verdict_lem phase (broken column number) e still = absurd (edit_moves walk.held.format number (end_left walk.held.format phase column number e) still)

  end_standing_lem : (standing : Standing) → Stands walk (end_standing walk standing)
  end_standing_lem (reading phase) = end_verdict_lem phase _ refl
  end_standing_lem accepted = λ still. refl
  end_standing_lem (refused says) = λ still. refl

  end_stands : (u : Bool) → unfit room walk ≡ u → Stands walk (end_moved room walk)
  end_stands true e = rw (end_unfit room walk e) (λ still. refl)
  end_stands false e = rw (end_fit room walk walk.standing e refl) (end_standing_lem walk.standing)

-- ---- opening, one line, the end, a whole file
module _ (words answer : List ℕ) (t : Tables) (has : Called) (room : word_count ≤ length words) where
  placed_follows : (out : Out) → Opened (placed out words t) words answer has → Follows out words has
  placed_follows out promised = rw⁻¹ (has_place out words t room) (opened_follows (placed out words t) words answer has room promised)

  pub open_follows : (held : Opening) → Opened (open_through held words t) words answer has → Follows (open_step held t) words has
  open_follows held = placed_follows (open_step held t)

  pub whole_follows : (held : Opening) (bytes : List ℕ) → Opened (whole_through held bytes words t) words answer has → Follows (whole_file held bytes t) words has
  whole_follows held bytes = placed_follows (whole_file held bytes t)

  pub line_follows : (walk : Walk) → walk_in words ≡ walk → (bytes : List ℕ) → Continued (line_through bytes words t) words answer has
      → Follows (line_step walk (first_line bytes) t) words has
  line_follows walk tells bytes promised = rw (sym tells) (continued_follows (line_through bytes words t) words answer has room promised
      (line_cases (room_of t) (walk_in words) (Stands (walk_in words)) _ (first_line bytes) (λ still. refl) (line_standing (room_of t) (walk_in words) _ (first_line bytes))))

  pub end_follows : (walk : Walk) → walk_in words ≡ walk → Continued (end_through words t) words answer has → Follows (end_step walk t) words has
  end_follows walk tells promised =
      rw (sym tells) (continued_follows (end_through words t) words answer has room promised (end_stands (room_of t) (walk_in words) _ refl))

-- ---- calls one after the other
pub calls_follow : (calls : List LineCall) (words : List ℕ) (t : Tables) (walk : Walk) → walk_in words ≡ walk → word_count ≤ length words
    → InRow words t calls → AllFollow walk t words calls
calls_follow [] words t walk tells room row = tt
calls_follow (c ∷ calls) words t walk tells room row =
    let out = line_step walk (first_line c.bytes) t in
    let one : Follows out words c.has = line_follows words c.answer t c.has room walk tells c.bytes row.0 in
    let enough_left : word_count ≤ length c.has.state = rw one.room room in
    (one, calls_follow calls c.has.state out.left out.walk one.walk enough_left (subst (λ (left : Tables). InRow c.has.state left calls) one.left row.1))

-- ---- calls that touch nothing
module _ (words answer : List ℕ) (t : Tables) (has : Called) where
  -- Nothing but the answer's words.
  abbrev Untouched : Notice → Type 0
  Untouched says = has ≡ record { number = says.number; state = words; answer = answered (numbers says 0) answer; left = t }

  abbrev after : Moved → Called
  after m = called (carried m t) (state_after (carried m t) words) answer

  abbrev seen : Line → Seen
  seen line = seen_on (walk_in words).held.format (listed_fein (walk_in words) t) (listed_id (walk_in words) t) (capitals line.text)

  -- Words that tell no walk: 72.
  module _ (unknown : Unknown words) where
    pub unknown_line : (bytes : List ℕ) → Continued (line_through bytes words t) words answer has → Untouched (notice 72 0 0)
    unknown_line bytes promised =
        let line = first_line bytes in
        promised.0 ∙ ap after (line_unfit (room_of t) (walk_in words) (seen line) line (unknown_unfit (room_of t) words unknown))

    pub unknown_end : Continued (end_through words t) words answer has → Untouched (notice 72 0 0)
    unknown_end promised = promised.0 ∙ ap after (end_unfit (room_of t) (walk_in words) (unknown_unfit (room_of t) words unknown))

  -- Words that tell a walk refused with 70: "each later line or end call answers 70 again and touches nothing"; likewise with 73.
  module _ (says : Notice) (opening : is_of_opening says.number ≡ true) (stands : (walk_in words).standing ≡ refused says) (fit : unfit (room_of t) (walk_in words) ≡ false) where
    nothing_touched : after (again says (walk_in words)) ≡ record { number = says.number; state = words; answer = answered (numbers says 0) answer; left = t }
    nothing_touched = rw (opening, opening_still says.number opening)

    pub again_line : (bytes : List ℕ) → Continued (line_through bytes words t) words answer has → Untouched says
    again_line bytes promised =
        let first = first_line bytes in
        promised.0 ∙ ap after (line_fit (room_of t) (walk_in words) (seen first) first (refused says) fit stands) ∙ nothing_touched

    pub again_end : Continued (end_through words t) words answer has → Untouched says
    again_end promised = promised.0 ∙ ap after (end_fit (room_of t) (walk_in words) (refused says) fit stands) ∙ nothing_touched

-- The same of the calls that write into a lent slice: nothing is written.
module _ (words out answer : List ℕ) (unknown : Unknown words) where
  abbrev unfit_fill : Filled
  unfit_fill = record { number = 72; out = out; answer = answered (numbers (notice 72 0 0) 0) answer }

  unfit_record : (size : ℕ) (long next none large : Bool) (line : List ℕ)
      → filled_record size (writing (refusal_of (unfit (no_tables (walk_in words)) (walk_in words)) long next none large) line out) answer ≡ unfit_fill
  unfit_record size long next none large line = rw (unknown_unfit (no_tables (walk_in words)) words unknown, unfit_first long next none large)

  pub unknown_T : filled_t words out answer ≡ unfit_fill
  unknown_T = unfit_record 290 _ _ _ _ _

  pub unknown_F : filled_f words out answer ≡ unfit_fill
  unknown_F = unfit_record 290 _ _ _ _ _

  pub unknown_wham_T : (payments total : ℕ) → filled_wham_t payments total words out answer ≡ unfit_fill
  unknown_wham_T payments total = unfit_record 275 _ _ _ _ _

  pub unknown_wham_F : filled_wham_f words out answer ≡ unfit_fill
  unknown_wham_F = unfit_record 275 _ _ _ _ _

  pub unknown_frames : (list : List Employer) → filled_frames words list out answer ≡ unfit_fill
  unknown_frames list =
      ap (λ (f : Framing). filled_framing f answer) (framing_unfit (walk_in words) list out _ refl (unknown_unfit (room_without (walk_in words) list) words unknown))
