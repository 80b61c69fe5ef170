-- Follows the code; need not be believed. When the answer of an input is told.
use Rattle.std.specs.Prelude.{Bool, true, false}
use Rattle.ack.specs.declared.Progress.{Progress}
use Rattle.ack.specs.declared.Progress.TheVariants.{Waiting, Walking, Finished}

-- The walk has ended: nothing more is read for it.
abbrev pub is_finished : Progress → Bool
is_finished Waiting = false
is_finished (Walking st) = false
is_finished (Finished st) = true
