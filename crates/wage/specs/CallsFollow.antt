-- Definitions: that a call through words follows the call of the walk, and that line calls in a row do: what a call leaves, the words tell to the next.
use Rattle.std.specs.Prelude.{ℕ, List, [], ◌∷◌, ◌≡◌, length}
use Rattle.lines.specs.Lines.{first_line}
use Rattle.tables.specs.Room.{Tables}
use Rattle.state.specs.Walks.{Walk}
use Rattle.state_words.specs.Words.{walk_in}
use Rattle.step.specs.Steps.{Out, line_step}
use Rattle.wage.specs.Exports.{Called, Continued, line_through}

-- What the caller has after a call through words is what the walk's own call answers: the number, the tables, and the walk that the words then tell.
-- The words are as many as before.
pub record Follows (out : Out) (words : List ℕ) (has : Called) : Type 0 where
  pub number : has.number ≡ out.says.number
  pub left : has.left ≡ out.left
  pub walk : walk_in has.state ≡ out.walk
  pub room : length has.state ≡ length words

-- A line call: the bytes and the answer's words that it was lent, and what the caller has after it.
pub record LineCall : Type 0 where
  pub bytes : List ℕ
  pub answer : List ℕ
  pub has : Called

-- Line calls in a row, each with the words and the tables that the last one left.
abbrev pub InRow : List ℕ → Tables → List LineCall → Type 0
InRow words t [] = Unit
InRow words t (c ∷ calls) = Continued (line_through c.bytes words t) words c.answer c.has × InRow c.has.state c.has.left calls

-- Each follows the walk's own call, which is made with the state and the tables that the walk's last call left.
abbrev pub AllFollow : Walk → Tables → List ℕ → List LineCall → Type 0
AllFollow walk t words [] = Unit
AllFollow walk t words (c ∷ calls) =
    let out = line_step walk (first_line c.bytes) t in
    Follows out words c.has × AllFollow out.walk out.left c.has.state calls
