-- Definitions: the state of a walk as 27 words of 64 bits that a caller lends, and the walk that any words tell.
use Rattle.std.specs.Prelude.{ℕ, ◌≤◌, min, Bool, not, List, [], ◌∷◌, ◌++◌, ltb, eqb, length, get_or, drop, if◌then◌else◌, Option, None, Some}
use Rattle.reason.specs.ReasonNumbers.{is_listed, notice}
use Rattle.edits.specs.Formats.{format_of, format_number}
use Rattle.edits.specs.declared.Open.{Open}
use Rattle.edits.specs.declared.Phase.TheVariants.{BeforeA, AfterA, EOpen, AfterT, AfterF}
use Rattle.edits.specs.declared.Totals.{Totals}
use Rattle.edits.specs.declared.format.Format.TheVariants.{Unknown as NoFormat}
use Rattle.state.specs.Walks.{Standing, reading, accepted, refused, Walk, standing_of, refused_walk}
use Rattle.state.specs.declared.Stage.{Stage}

abbrev pub word_count : ℕ
word_count = 27

-- ---- the words of a walk
-- Where it stands; then the refusal's number, line and column, zeros where it is not refused.
abbrev pub standing_words : Standing → List ℕ
standing_words (reading BeforeA) = 0 ∷ 0 ∷ 0 ∷ 0 ∷ []
standing_words (reading AfterA) = 1 ∷ 0 ∷ 0 ∷ 0 ∷ []
standing_words (reading EOpen) = 2 ∷ 0 ∷ 0 ∷ 0 ∷ []
standing_words (reading AfterT) = 3 ∷ 0 ∷ 0 ∷ 0 ∷ []
standing_words (reading AfterF) = 4 ∷ 0 ∷ 0 ∷ 0 ∷ []
standing_words accepted = 5 ∷ 0 ∷ 0 ∷ 0 ∷ []
standing_words (refused says) = 6 ∷ says.number ∷ says.line ∷ says.column ∷ []

-- A flag is 1 or 0.
abbrev pub flag_word : Bool → ℕ
flag_word flag = if flag then 1 else 0

-- Then lines read; the quarter held, and A's; the open E's FEIN, its flag that S follow, S count, cents; the file's S count, employers, cents; ids in
-- use. After them the format's number, and what PFML has none of: the open E's second sum, its other records, the nearest of them, whether a note is among
-- them, and its account number; and the file's second sum, other records and notes.
abbrev pub number_words : Walk → List ℕ
number_words walk =
    walk.lines
    ∷ walk.held.year ∷ walk.held.month
    ∷ walk.filed.year ∷ walk.filed.month
    ∷ walk.open.fein ∷ flag_word walk.open.follow ∷ walk.open.count ∷ walk.open.sum
    ∷ walk.all.count ∷ walk.all.employers ∷ walk.all.sum
    ∷ walk.used
    ∷ format_number walk.held.format
    ∷ walk.open.second ∷ walk.open.others ∷ walk.open.nearest ∷ flag_word walk.open.noted
    ∷ walk.open.account_head ∷ walk.open.account_tail
    ∷ walk.all.second ∷ walk.all.others ∷ walk.all.notes ∷ []

abbrev pub words_of : Walk → List ℕ
words_of walk = standing_words walk.standing ++ number_words walk

-- They stand at the front of what is lent, and what lies after them stays. Where there is no room for all of them, none is written.
unfoldable pub put_words : Walk → List ℕ → List ℕ
put_words walk words = if ltb (length words) word_count then words else words_of walk ++ drop word_count words

-- ---- the widths of the code's state
-- A line's number has 32 bits, and a column's 16.
abbrev pub most_line : ℕ
most_line = 4294967295

abbrev pub most_column : ℕ
most_column = 65535

abbrev pub HeldStanding : Standing → Type 0
HeldStanding (reading phase) = Unit
HeldStanding accepted = Unit
HeldStanding (refused says) = (says.line ≤ most_line) × (says.column ≤ most_column)

-- A walk whose numbers fit, as those of every state of the code do.
pub record Held (walk : Walk) : Type 0 where
  pub standing : HeldStanding walk.standing
  pub lines : walk.lines ≤ most_line

-- ---- the walk that words tell
abbrev pub word : List ℕ → ℕ → ℕ
word words place = get_or words place 0

-- A number that is too large reads as the greatest that fits.
abbrev pub line_in : ℕ → ℕ
line_in n = min n most_line

abbrev pub column_in : ℕ → ℕ
column_in n = min n most_column

-- A refusal whose number is none of the paper's tells nothing.
abbrev pub refusal_in : List ℕ → Option Standing
refusal_in words =
    if is_listed (word words 1)
    then Some (refused (notice (word words 1) (line_in (word words 2)) (column_in (word words 3))))
    else None

-- Where it stands: 0 before A, 1 after A, 2 E open, 3 after T, 4 after F, 5 accepted, 6 refused.
abbrev pub standings : List ℕ → List (Option Standing)
standings words =
    Some (reading BeforeA) ∷ Some (reading AfterA) ∷ Some (reading EOpen) ∷ Some (reading AfterT) ∷ Some (reading AfterF)
    ∷ Some accepted ∷ refusal_in words ∷ []

-- Another number tells nothing.
abbrev pub standing_in : List ℕ → Option Standing
standing_in words = get_or (standings words) (word words 0) None

-- Where nothing is told: a refused walk with 72, which no refusal leaves in the state.
abbrev pub unfit_walk : Walk
unfit_walk = refused_walk NoFormat (notice 72 0 0)

-- A flag that is not zero is 1.
abbrev pub flag_in : ℕ → Bool
flag_in n = not (eqb n 0)

-- The open E, and the file.
abbrev pub open_told : List ℕ → Open
open_told words =
    record {
      fein = word words 9;
      follow = flag_in (word words 10);
      count = word words 11;
      sum = word words 12;
      second = word words 18;
      others = word words 19;
      nearest = word words 20;
      noted = flag_in (word words 21);
      account_head = word words 22;
      account_tail = word words 23;
    }

abbrev pub totals_told : List ℕ → Totals
totals_told words =
    record {
      count = word words 13;
      employers = word words 14;
      sum = word words 15;
      second = word words 24;
      others = word words 25;
      notes = word words 26;
    }

abbrev pub walk_told : List ℕ → Option Standing → Walk
walk_told words None = unfit_walk
walk_told words (Some standing) =
    record {
      standing = standing;
      lines = line_in (word words 4);
      held = record { format = format_of (word words 17); year = word words 5; month = word words 6 };
      filed = record { year = word words 7; month = word words 8 };
      «open» = open_told words;
      all = totals_told words;
      used = word words 16;
    }

unfoldable pub walk_in : List ℕ → Walk
walk_in words = if ltb (length words) word_count then unfit_walk else walk_told words (standing_in words)

-- What the code reads of where a walk stands, in the paper's numbers.
abbrev pub told_of : Option Stage → Option Standing
told_of (Some stage) = Some (standing_of stage)
told_of None = None
