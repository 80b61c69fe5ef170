-- Definitions: what the code of a turn answers, in the definitions' words.
use Rattle.std.specs.Prelude.{ℕ, List, drop}
use Rattle.tables.specs.Room.{Tables}
use Rattle.state.specs.Walks.{walk_of}
use Rattle.ack.specs.Turns as turns
use Rattle.ack.specs.Turns.{Turn}
use Rattle.ack.specs.declared.Progress.{Progress}
use Rattle.ack.specs.declared.Progress.TheVariants.{Waiting, Walking, Finished}
use Rattle.ack.specs.declared.Turned.{Turned}

abbrev pub progress_of : Progress → turns.Progress
progress_of Waiting = turns.waiting
progress_of (Walking st) = turns.walking (walk_of st)
progress_of (Finished st) = turns.finished (walk_of st)

-- The bytes held that a turn did not take stand before the next read.
abbrev pub turned_by : Turned → List ℕ → Tables → Turn
turned_by turned held t = record { progress = progress_of turned.progress; left = drop turned.taken held; tables = t }
