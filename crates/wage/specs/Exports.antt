-- Definitions: the calls of the library for integrators: what each answers, and what is then in everything that it was lent.
use Rattle.std.specs.Prelude.{ℕ, ◌≤◌, Bool, false, ◌||◌, List, [], ◌∷◌, ◌++◌, ◌≡◌, eqb, ltb, length, get_or, take, drop, if◌then◌else◌}
use Rattle.laws.specs.Finding.{Reading, value, refused}
use Rattle.reason.specs.ReasonNumbers.{Notice, notice}
use Rattle.lines.specs.Lines.{first_line}
use Rattle.chars.specs.Characters.{capitals}
use Rattle.number.specs.Numbers.{number_in}
use Rattle.field.specs.declared.class.Field.{Field}
use Rattle.edits.specs.FieldRow.{first_in, last_in, no_row}
use Rattle.edits.specs.Formats.{format_of}
use Rattle.edits.specs.declared.Opening.{Opening}
use Rattle.pfml.specs.Edits.{rows_for}
use Rattle.pfml.specs.Kinds.{kind_of}
use Rattle.tables.specs.Room.{Tables}
use Rattle.tables.specs.declared.Employer.{Employer}
use Rattle.step.specs.Moves.{stays}
use Rattle.step.specs.Steps.{Out, carried, open_step, line_step, end_step}
use Rattle.state_words.specs.Words.{word_count, put_words, walk_in}
use Rattle.write.specs.Writing.{Writing, total_writing, final_writing}
use Rattle.wham_write.specs.Writing as wham
use Rattle.build.specs.Building.{building}
use Rattle.build.specs.Values.{text_in}
use Rattle.walk.specs.Calls.{whole_file}
use Rattle.frames.specs.Frames.{FramedNumbers, Framing, framing}
use Rattle.wage.specs.declared.Numbers.{Numbers}

-- ---- the answer's words
-- Number, line and column as the paper gives them, and a count of bytes, or the number that a field holds.
abbrev pub numbers : Notice → ℕ → Numbers
numbers says bytes = record { number = says.number; line = says.line; column = says.column; bytes = bytes }

-- They stand at the front of what is lent, as many as fit, and what lies after them stays.
unfoldable pub answered : Numbers → List ℕ → List ℕ
answered n words = take (length words) (n.number ∷ n.line ∷ n.column ∷ n.bytes ∷ []) ++ drop 4 words

-- The call itself answers the first of them.
abbrev pub Told : Numbers → ℕ → List ℕ → List ℕ → Type 0
Told n number before after = (number ≡ n.number) × (after ≡ answered n before)

-- ---- the calls of the walk
-- What a caller has after one: the number, the state's words, the answer's words, and both tables.
pub record Called : Type 0 where
  pub number : ℕ
  pub state : List ℕ
  pub answer : List ℕ
  pub left : Tables

-- After a call that leaves these words in the state.
abbrev pub called : Out → List ℕ → List ℕ → Called
called out state answer =
    record {
      number = out.says.number;
      state = state;
      answer = answered (numbers out.says out.taken) answer;
      left = out.left;
    }

-- What a call that opens a walk promises, lent the state's words and the answer's: it leaves the words of that walk, also of one that is refused (70, 73),
-- and they tell it, so that the next call goes on from it.
abbrev pub Opened : Out → List ℕ → List ℕ → Called → Type 0
Opened out words answer has =
    (has ≡ called out (put_words out.walk words) answer)
    × (word_count ≤ length words → walk_in has.state ≡ out.walk)

-- "70: .. each later line or end call answers 70 again and touches nothing", "71: line or end after acceptance; nothing changed",
-- "72: state unfit; nothing changed", and 73 does as 70 does
abbrev pub is_still : ℕ → Bool
is_still number = eqb number 70 || eqb number 71 || eqb number 72 || eqb number 73

-- The state's words after a line or end call. Where nothing is changed, no word is written.
abbrev pub state_after : Out → List ℕ → List ℕ
state_after out words = if is_still out.says.number then words else put_words out.walk words

-- What a line call and an end call promise: the same, of these words.
abbrev pub Continued : Out → List ℕ → List ℕ → Called → Type 0
Continued out words answer has =
    (has ≡ called out (state_after out words) answer)
    × (word_count ≤ length words → is_still out.says.number ≡ false → walk_in has.state ≡ out.walk)

-- Where there is no place to keep the state, a call that opens a walk answers 72 and touches no table.
abbrev pub placed : Out → List ℕ → Tables → Out
placed out words t = if ltb (length words) word_count then carried (stays 72 (walk_in words)) t else out

-- The version of what callers rely on: the words of the state and the entries of the employer list.
abbrev pub abi_version : ℕ
abi_version = 2

-- The format's number comes first.
abbrev pub opening_of : ℕ → ℕ → ℕ → Opening
opening_of format year month = record { format = format_of format; year = year; month = month }

-- The four calls, over the state's words and the tables.
abbrev pub open_through : Opening → List ℕ → Tables → Out
open_through held words t = placed (open_step held t) words t

abbrev pub line_through : List ℕ → List ℕ → Tables → Out
line_through bytes words t = line_step (walk_in words) (first_line bytes) t

abbrev pub end_through : List ℕ → Tables → Out
end_through words t = end_step (walk_in words) t

abbrev pub whole_through : Opening → List ℕ → List ℕ → Tables → Out
whole_through held bytes words t = placed (whole_file held bytes t) words t

-- ---- the calls that write into a lent slice
-- What a caller has after one: the number, the slice's bytes, and the answer's words.
pub record Filled : Type 0 where
  pub number : ℕ
  pub out : List ℕ
  pub answer : List ℕ

abbrev pub filled : Numbers → List ℕ → List ℕ → Filled
filled n out answer = record { number = n.number; out = out; answer = answered n answer }

-- A record of so many bytes is written, or nothing.
abbrev pub written_numbers : ℕ → Notice → Numbers
written_numbers size says = numbers says (if eqb says.number 0 then size else 0)

abbrev pub filled_record : ℕ → Writing → List ℕ → Filled
filled_record size w answer = filled (written_numbers size w.says) w.out answer

abbrev pub filled_t : List ℕ → List ℕ → List ℕ → Filled
filled_t words out answer = filled_record 290 (total_writing (walk_in words) out) answer

abbrev pub filled_f : List ℕ → List ℕ → List ℕ → Filled
filled_f words out answer = filled_record 290 (final_writing (walk_in words) out) answer

-- The same of an amended withholding file, with the payments and the total of all employees.
abbrev pub filled_wham_t : ℕ → ℕ → List ℕ → List ℕ → List ℕ → Filled
filled_wham_t payments total words out answer = filled_record 275 (wham.total_writing (walk_in words) payments total out) answer

abbrev pub filled_wham_f : List ℕ → List ℕ → List ℕ → Filled
filled_wham_f words out answer = filled_record 275 (wham.final_writing (walk_in words) out) answer

-- ---- the calls that build a record
-- The record that a letter names, from its values and texts.
abbrev pub filled_built : ℕ → List ℕ → List ℕ → List ℕ → List ℕ → Filled
filled_built letter values texts out answer = filled_record 290 (building letter values texts out) answer

-- ---- the calls that read a field
-- Field k, counted from 0, of the record that a letter names; there is none past the last, nor for another letter.
abbrev pub field_row : ℕ → ℕ → Field
field_row letter k = get_or (rows_for (kind_of letter)) k no_row

abbrev pub field_first : ℕ → ℕ → ℕ
field_first letter k = first_in (field_row letter k)

-- "numbers, given and read as numbers"
abbrev pub field_reading : ℕ → ℕ → List ℕ → Reading
field_reading letter k line = number_in (capitals line) (first_in (field_row letter k)) (last_in (field_row letter k))

-- How many characters its text has, "without trailing blanks".
abbrev pub field_length : ℕ → ℕ → List ℕ → ℕ
field_length letter k line = length (text_in (capitals line) (first_in (field_row letter k)) (last_in (field_row letter k)))

-- The number stands where other calls tell bytes. A refusal is of a column, and of no line.
abbrev pub read_numbers : Reading → Numbers
read_numbers (value v) = numbers (notice 0 0 0) v
read_numbers (refused column number) = numbers (notice number 0 column) 0

-- What a caller has then: the number of the refusal, 0 if there is none, and the answer's words.
pub record FieldRead : Type 0 where
  pub number : ℕ
  pub answer : List ℕ

abbrev pub read_field : Reading → List ℕ → FieldRead
read_field reading answer = record { number = (read_numbers reading).number; answer = answered (read_numbers reading) answer }

-- ---- the call that writes frames
-- Its refusals have no place in the file.
abbrev pub framing_numbers : FramedNumbers → Numbers
framing_numbers says = numbers (notice says.number 0 0) says.bytes

abbrev pub filled_framing : Framing → List ℕ → Filled
filled_framing f answer = filled (framing_numbers f.says) f.out answer

abbrev pub filled_frames : List ℕ → List Employer → List ℕ → List ℕ → Filled
filled_frames words list out answer = filled_framing (framing (walk_in words) list out) answer
