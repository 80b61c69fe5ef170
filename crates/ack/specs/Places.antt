-- Follows the code; need not be believed. The places that a turn stops at between its lines.
use Rattle.std.specs.Prelude.{ℕ, ◌-◌, Bool, ◌&&◌, ◌||◌, eqb, ltb, leb}
use Rattle.walk.specs.LineAndRun.{next_place}
use Rattle.ack.specs.Turns.{longest_line}
use Rattle.ack.specs.declared.Place.{Place}

-- A line is taken where any byte is left and the line is whole: the longest line would be there, or no more will come.
abbrev pub takes_line : Place → ℕ → Bool
takes_line here held = ltb here.at held && (here.last || leb longest_line (held - here.at))

-- After the bytes that a line took; after a refusal, which takes none, at the end, where the end call comes.
abbrev pub place_behind : Place → ℕ → ℕ → Place
place_behind here taken held = record { at = next_place here.at taken held; last = eqb taken 0 || here.last }
