-- Laws: nothing_of_the_employee, demand 3: what an acknowledgement and the lent tables tell of two files that are alike is the same.
use Rattle.std.specs.Prelude.{ℕ, Bool, true, false, List, [], ◌++◌, ◌≡◌, refl, length}
use Rattle.std.proofs.Common.{sym, ap, ◌∙◌, le_of_eq, arith, drop_at}
use Rattle.lines.specs.Changed.{changed_lines}
use Rattle.lines.specs.Lines.{lines_of}
use Rattle.edits.specs.Formats.{may_open}
use Rattle.edits.specs.declared.Opening.{Opening}
use Rattle.edits.specs.declared.format.Format.{Format}
use Rattle.edits.specs.declared.Phase.TheVariants.{BeforeA, EOpen}
use Rattle.shape.specs.Blot.{blot_keeps}
use Rattle.shape.specs.Hidden.{blot}
use Rattle.record.specs.ShapeOf.{shape_of}
use Rattle.tables.specs.Room.{Room, Tables, room_of}
use Rattle.meaning.specs.Meaning.{meaning}
use Rattle.step.specs.Steps.{Out}
use Rattle.walk.specs.Calls.{Lending, walked, whole_file}
use Rattle.walk.specs.WalkMeans.{walk_means}
use Rattle.frames.specs.Frames.{framing}
use Rattle.ack.specs.Acknowledgement.{program_room, file_frames, acknowledgement}
use Rattle.ack.specs.ProgramLaws.{header_held}
use Rattle.ack.specs.Turns.{header_size, header_opening}
use Rattle.alike.specs.Alike.{Alike, AlikeLines}
use Rattle.alike.specs.Level.{Level, shut, level_same}
use Rattle.alike.specs.LineByLine.{Same, alike_ends}

-- Before the first line there is no record.
level_none : Level [] []
level_none = level_same [] [] refl

before_e : BeforeA ≡ EOpen → ⊥
before_e e = let z : ◌≡◌ {A = ℕ} 0 1 = cc in omega arith

module _ (held : Opening) (one other : List ℕ) (alike : Alike (shape_of held.format) one other) where
  -- Both files have the same lines and ends but for the employees.
  pub lines_alike : AlikeLines (shape_of held.format) (lines_of one) (lines_of other)
  lines_alike =
      record {
        equal_bytes = changed_lines (blot (shape_of held.format)) (blot_keeps (shape_of held.format)) one other alike.equal_bytes;
        own_one = alike.own_one;
        own_other = alike.own_other;
        zero_alike = alike.zero_alike;
        repeat_alike = alike.repeat_alike;
        wages_alike = alike.wages_alike;
        seconds_alike = alike.seconds_alike;
      }

  same : (room : Room) → Same room held [] [] (lines_of one) (lines_of other)
  same room = alike_ends room held (lines_of one) (lines_of other) [] [] lines_alike level_none (shut before_e (refl, refl) refl refl)

  -- They mean the same, whatever the room.
  pub meaning_alike : (room : Room) → meaning room held one ≡ meaning room held other
  meaning_alike room = (same room).0

  whole_alike : (t : Tables) → whole_file held one t ≡ whole_file held other t
  whole_alike t = by (may_open held) refl where
    by : (allowed : Bool) → may_open held ≡ allowed → whole_file held one t ≡ whole_file held other t
    by true e = rw e (same (room_of t)).1
    by false e = rw e

  -- Through the calls, with the same format and quarter, any quarter, and the same tables, with a lending for each file: the answer, the state and every lent
  -- table at the end.
  pub nothing_of_the_employee : (t : Tables) (lend lend' : ℕ → ℕ) → Lending held.format lend → Lending held.format lend'
      → walked lend held one t ≡ walked lend' held other t
  nothing_of_the_employee t lend lend' lending lending' =
      walk_means held lend lending one t ∙ whole_alike t ∙ sym (walk_means held lend' lending' other t)

  -- So the frames of that state and list are the same, in every buffer.
  pub frames_alike : (t : Tables) (lend lend' : ℕ → ℕ) → Lending held.format lend → Lending held.format lend' → (out : List ℕ)
      → framing (walked lend held one t).walk (walked lend held one t).left.list out
      ≡ framing (walked lend' held other t).walk (walked lend' held other t).left.list out
  frames_alike t lend lend' lending lending' out =
      ap (λ (o : Out). framing o.walk o.left.list out) (nothing_of_the_employee t lend lend' lending lending')

  file_alike : file_frames held one ≡ file_frames held other
  file_alike = rw (meaning_alike program_room)

-- "the acknowledgement is the same byte for byte": of the program, under any seven bytes of header.
pub acknowledgement_alike : (format : Format) (one other : List ℕ) → Alike (shape_of format) one other → (header : List ℕ) → length header ≡ header_size
    → acknowledgement format (header ++ one) ≡ acknowledgement format (header ++ other)
acknowledgement_alike format one other alike header seven = answers one ∙ file_alike (header_opening format header) one other alike ∙ sym (answers other) where
  answers : (file : List ℕ) → acknowledgement format (header ++ file) ≡ file_frames (header_opening format header) file
  answers file = rw (← header_held header file (le_of_eq (sym seven)), drop_at header file 7 seven)
