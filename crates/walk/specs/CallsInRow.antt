-- Definitions: calls in a row, each on the state and the tables that the last one left: any calls, line calls that are all taken, and the calls of a run.
use Rattle.std.specs.Prelude.{ℕ, zero, suc, ◌+◌, ◌<◌, List, [], ◌∷◌, ◌≡◌, drop}
use Rattle.lines.specs.Lines.{first_line}
use Rattle.edits.specs.declared.format.Format.{Format}
use Rattle.shape.specs.declared.Said.{Said}
use Rattle.record.specs.Judge.{record_on}
use Rattle.tables.specs.Room.{Tables}
use Rattle.state.specs.Walks.{Walk}
use Rattle.step.specs.Steps.{Out, line_step, end_step}

-- A call, on the state and the tables that the last one left.
pub data Call : Type 0 where
  line_call : List ℕ → Call
  end_call : Call

abbrev pub call_step : Call → Out → Out
call_step (line_call bytes) o = line_step o.walk (first_line bytes) o.left
call_step end_call o = end_step o.walk o.left

abbrev pub after_calls : List Call → Out → Out
after_calls [] o = o
after_calls (call ∷ more) o = after_calls more (call_step call o)

-- Line calls, one after the other, that all take their line: none answers that it took 0 bytes.
abbrev pub AllTaken : List (List ℕ) → Out → Type 0
AllTaken [] o = Unit {0}
AllTaken (bytes ∷ more) o =
    ((line_step o.walk (first_line bytes) o.left).taken ≡ 0 → ⊥) × AllTaken more (line_step o.walk (first_line bytes) o.left)

abbrev pub after_lines : List (List ℕ) → Out → Out
after_lines [] o = o
after_lines (bytes ∷ more) o = after_lines more (line_step o.walk (first_line bytes) o.left)

-- The records of what the calls were lent, the nearest first.
abbrev pub lent_records : Format → List Said → List (List ℕ) → List Said
lent_records format p [] = p
lent_records format p (bytes ∷ more) = lent_records format (record_on format (first_line bytes) ∷ p) more

-- Where a caller stands after some line calls: the bytes taken so far, the state and the tables.
pub record Stood : Type 0 where
  pub at : ℕ
  pub walk : Walk
  pub left : Tables

-- One line call on the bytes that remain.
abbrev pub call_at : List ℕ → Stood → Out
call_at s stood = line_step stood.walk (first_line (drop stood.at s)) stood.left

abbrev pub on_from : Stood → Out → Stood
on_from stood o = record { at = stood.at + o.taken; walk = o.walk; left = o.left }

-- So many line calls, each lent the bytes from where the last one ended.
unfoldable pub line_calls : List ℕ → Stood → ℕ → Stood
line_calls s stood zero = stood
line_calls s stood (suc n) = on_from (line_calls s stood n) (call_at s (line_calls s stood n))

-- What is answered is what the last of some line calls in a row leaves, all of them taken.
pub record AreCalls (s : List ℕ) (from : Stood) (to : Stood) : Type 0 where
  pub count : ℕ
  pub ends : line_calls s from count ≡ to
  pub taken : (k : ℕ) → k < count → (call_at s (line_calls s from k)).taken ≡ 0 → ⊥
