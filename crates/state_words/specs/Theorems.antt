-- Laws: a state put into words is read back as it was; words that tell no walk are unfit for every call.
use Rattle.std.specs.Prelude.{ℕ, ◌≤◌, min, Bool, true, false, List, ◌++◌, ◌≡◌, refl, length, drop, Some}
use Rattle.std.proofs.Math.Bool.{not-eq-not}
use Rattle.std.proofs.Common.{append_assoc, ap, ◌∙◌, arith}
use Rattle.std.proofs.lemmas.Bool.{not-false}
use Rattle.reason.specs.Once.{number_listed}
use Rattle.tables.specs.Room.{Room}
use Rattle.edits.specs.Formats.{format_of, format_number}
use Rattle.edits.specs.declared.Phase.TheVariants.{BeforeA, AfterA, EOpen, AfterT, AfterF}
use Rattle.edits.specs.declared.format.Format.{Format}
use Rattle.edits.specs.declared.format.Format.TheVariants.{Pfml, Wham2024, Unknown as NoFormat}
use Rattle.state.specs.Once.{same_walk}
use Rattle.state.specs.Unfit.{is_left, unfit}
use Rattle.state.specs.UnfitLaws.{left_not_72, fit_standing}
use Rattle.state.specs.Walks.{standing_of, walk_of}
use Rattle.state.specs.declared.Stage.{Stage}
use Rattle.state.specs.declared.Stage.TheVariants.{Reading, Accepted, Refused}
use Rattle.state.specs.declared.State.{State}
use Rattle.state_words.specs.Reading.{nowhere_told, unnamed_told, few_told, none_told, all_told}
use Rattle.state_words.specs.Words.{word_count, standing_words, number_words, put_words, most_line, most_column, HeldStanding, Held, flag_word, flag_in, standing_in, unfit_walk, walk_told, walk_in}
use Rattle.state_words.specs.UnknownWords.{Unknown, few, nowhere, unnamed}
use Rattle.state_words.specs.WordsWritten.{first_four, four, enough}

-- ---- there and back
flag_back : (flag : Bool) → flag_in (flag_word flag) ≡ flag
flag_back true = refl
flag_back false = refl

format_back : (format : Format) → format_of (format_number format) ≡ format
format_back Pfml = refl
format_back Wham2024 = refl
format_back NoFormat = refl

standing_back : (stage : Stage) (rest : List ℕ) → HeldStanding (standing_of stage) → standing_in (standing_words (standing_of stage) ++ rest) ≡ Some (standing_of stage)
standing_back (Reading BeforeA) rest held = refl
standing_back (Reading AfterA) rest held = refl
standing_back (Reading EOpen) rest held = refl
standing_back (Reading AfterT) rest held = refl
standing_back (Reading AfterF) rest held = refl
standing_back Accepted rest held = refl
standing_back (Refused refusal) rest held =
    let line : min refusal.line most_line ≡ refusal.line = omega arith in
    let column : min refusal.column most_column ≡ refusal.column = omega arith in
    rw (number_listed refusal.reason, line, column)

module _ (st : State) (words : List ℕ) (held : Held (walk_of st)) (room : word_count ≤ length words) where
  abbrev first : List ℕ
  first = standing_words (standing_of st.stage)

  abbrev rest : List ℕ
  rest = number_words (walk_of st) ++ drop word_count words

  numbers_back : walk_told (first_four first ++ rest) (Some (standing_of st.stage)) ≡ walk_of st
  numbers_back =
      let lines : min st.lines most_line ≡ st.lines = omega arith in
      rw (lines, flag_back st.open.follow, flag_back st.open.noted, format_back st.held.format)

  -- State to words to state: nothing is lost.
  pub words_back : walk_in (put_words (walk_of st) words) ≡ walk_of st
  words_back =
      let all : word_count ≤ length (first ++ rest) = rw (four (standing_of st.stage)) (omega arith) in
      rw (enough (walk_of st) words room, append_assoc first (number_words (walk_of st)) (drop word_count words))
      (all_told (first ++ rest) _ all (standing_back st.stage rest held.standing)
      ∙ ap (λ (f : List ℕ). walk_told (f ++ rest) (Some (standing_of st.stage))) (four (standing_of st.stage))
      ∙ numbers_back)

-- The state read is the state itself.
pub state_back : (st r : State) (words : List ℕ) → walk_in words ≡ walk_of st → walk_of r ≡ walk_in words → r ≡ st
state_back st r words told read = same_walk r st (read ∙ told)

-- ---- words that tell no walk
pub unfit_72 : (room : Room) → unfit room unfit_walk ≡ true
unfit_72 room =
    not-eq-not.0 (λ fit. left_not_72 NoFormat 72 (not-false (is_left NoFormat 72) (fit_standing room unfit_walk fit)) refl)

unknown_walk : (words : List ℕ) → Unknown words → walk_in words ≡ unfit_walk
unknown_walk words (few h) = few_told words h
unknown_walk words (nowhere h) = none_told words (nowhere_told words h)
unknown_walk words (unnamed e f) = none_told words (unnamed_told words e f)

-- Every call answers 72.
pub unknown_unfit : (room : Room) (words : List ℕ) → Unknown words → unfit room (walk_in words) ≡ true
unknown_unfit room words unknown = rw (unknown_walk words unknown) (unfit_72 room)
