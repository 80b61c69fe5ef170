-- Definitions: a format as the machine knows it, and the verdict on a line by it.
use Rattle.std.specs.Prelude.{ℕ, Bool, false, List, ◌∷◌, if◌then◌else◌, Option, Some, None, Result, Ok, Err}
use Rattle.laws.specs.Finding.{Finding, fine, broken}
use Rattle.lines.specs.Cutting.{beyond, length_test, end_test}
use Rattle.lines.specs.Lines.{Line, size_of}
use Rattle.calendar.specs.declared.Quarter.{Quarter}
use Rattle.chars.specs.Characters.{capitals}
use Rattle.reason.specs.ReasonNumbers.{number_of}
use Rattle.edits.specs.Edit.{Edit, at_first, first_broken}
use Rattle.edits.specs.declared.Context.{Context}
use Rattle.edits.specs.declared.Open.{Open}
use Rattle.edits.specs.declared.Opening.{Opening}
use Rattle.edits.specs.declared.Phase.{Phase}
use Rattle.edits.specs.declared.Seen.{Seen}
use Rattle.edits.specs.declared.Totals.{Totals}
use Rattle.shape.specs.declared.Said.{Said}
use Rattle.shape.specs.declared.Said.TheVariants.{OfA, OfE, OfS, OfT, OfF, OfNote, OfNone}
use Rattle.reason.specs.declared.Broken.{Broken}

-- All that the machine knows of a format.
pub record Shape : Type 0 where
  -- how many characters a line has
  pub length : ℕ
  -- the edits of a text of this length, read in capitals, in the stated order: characters, letter, place, fields
  pub edits : Context → Seen → List ℕ → List Edit
  -- what the record on a text says
  pub says : List ℕ → Said
  -- 72: the most lines that are read, and the most cents that one record says of an amount
  pub most_lines : ℕ
  pub most_cents : ℕ
  -- the most records of a file that stand under an E and are no S
  pub most_others : ℕ
  -- 72: clauses of the format's own, by the length of the id table, the ids in use, whether an E is open, the file's numbers and the open E's
  pub unfit_more : ℕ → ℕ → Bool → Totals → Open → Bool
  -- 72: whether the quarter that a file reports is none that the format allows, by where the walk stands, what it was opened with, and that quarter
  pub quarter_unfit : Phase → Opening → Quarter → Bool
  -- 72: the numbers that the refusal of an edit leaves in the state
  pub is_left : ℕ → Bool
  -- demand 3, of a record of an employee: which columns are hidden, and the own rules of their fields
  pub hides : List ℕ → ℕ → Bool
  pub hidden_own : List ℕ → List Edit
  -- how many columns in front, never hidden, tell the record
  pub front : ℕ

-- The verdict in the paper's numbers: a refusal, or the bytes taken and what the record says.
pub data Judged : Type 0 where
  refusal : (column number : ℕ) → Judged
  passed : ℕ → Said → Judged

abbrev pub verdict_by : Finding → ℕ → Said → Judged
verdict_by fine taken said = passed taken said
verdict_by (broken column number) taken said = refusal column number

-- What the code answers, in the paper's numbers.
abbrev pub judged_by : Result (ℕ × Said) Broken → Judged
judged_by (Ok (taken, said)) = passed taken said
judged_by (Err it) = refusal it.0 (number_of it.1)

-- What a record asks of a lent table, whether a number stands in it: an E, in a format where a FEIN may stand on one alone, whether its FEIN stands on an earlier E, an S whether its identity number stands under the open E; other records ask nothing.
abbrev pub fein_asked : Said → Option ℕ
fein_asked (OfA quarter) = None
fein_asked (OfE employer) = if employer.once then Some employer.fein else None
fein_asked (OfS employee) = None
fein_asked OfT = None
fein_asked OfF = None
fein_asked (OfNote note) = None
fein_asked OfNone = None

abbrev pub id_asked : Said → Option ℕ
id_asked (OfA quarter) = None
id_asked (OfE employer) = None
id_asked (OfS employee) = Some employee.id
id_asked OfT = None
id_asked OfF = None
id_asked (OfNote note) = None
id_asked OfNone = None

abbrev pub answered : Option ℕ → (ℕ → Bool) → Bool
answered None among = false
answered (Some number) among = among number

-- What was seen before: `earlier` says of a FEIN whether it stands on an earlier E, `under` of an identity number whether it stands under the open E.
abbrev pub seen_of : (ℕ → Bool) → (ℕ → Bool) → Said → Seen
seen_of earlier under said = record { fein = answered (fein_asked said) earlier; id = answered (id_asked said) under }

module _ (s : Shape) where
  -- The record on a line, whatever the line's length.
  abbrev pub said_on : Line → Said
  said_on line = s.says (capitals line.text)

  -- "Within a line: length, end, characters, letter, place, then fields by first column, each field's rules as above"
  abbrev pub line_edits_by : Context → Seen → Line → List Edit
  line_edits_by here seen line =
      record { number = 1; first = 1; last = beyond s.length; finds = length_test s.length line } ∷
      at_first 2 (beyond s.length) (end_test s.length line) ∷
      s.edits here seen (capitals line.text)

  -- The verdict on a text of the right length that takes so many bytes with its end.
  abbrev pub text_verdict_by : Context → Seen → List ℕ → ℕ → Judged
  text_verdict_by here seen text taken = verdict_by (first_broken (s.edits here seen text)) taken (s.says text)

  unfoldable pub judge_by : Context → Seen → Line → Judged
  judge_by here seen line = verdict_by (first_broken (line_edits_by here seen line)) (size_of line) (said_on line)

  abbrev pub seen_by : (ℕ → Bool) → (ℕ → Bool) → List ℕ → Seen
  seen_by earlier under text = seen_of earlier under (s.says text)

  -- The edits of a line among others, and the verdict on it.
  abbrev pub edits_among_by : Context → (ℕ → Bool) → (ℕ → Bool) → Line → List Edit
  edits_among_by here earlier under line = line_edits_by here (seen_by earlier under (capitals line.text)) line

  abbrev pub judge_among_by : Context → (ℕ → Bool) → (ℕ → Bool) → Line → Judged
  judge_among_by here earlier under line = judge_by here (seen_by earlier under (capitals line.text)) line
