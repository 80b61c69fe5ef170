-- The buffer has as many bytes as the array that it is made of. So many are never counted one by
-- one: the level and the type are written out, so that the two lengths are compared as they stand.
use Rattle.std.proofs.Common.{ℕ, sym}
use Rattle.std.proofs.lemmas.List.{length-replicate}
use Rattle.program.proofs.run.Goals as goal

pub slice_bounds-all_turns-end : goal.slice_bounds-all_turns-end
slice_bounds-all_turns-end g c = sym (length-replicate {0} {A = ℕ} 524288 0)
