-- Laws: how the bytes that a turn did not take come to the front of the buffer.
use Rattle.std.specs.Prelude.{ℕ, List, ◌≡◌, drop}
use Rattle.std.specs.List.{copy_within}
use Rattle.std.proofs.Math.Path.{refl}
use Rattle.std.proofs.Math.Nat.{zero-add}
use Rattle.std.proofs.Math.Seq.{paste}
use Rattle.ack.specs.Keep.{moved}

module _ (at : ℕ) (bytes : List ℕ) where
  pub moved_none : bytes ≡ moved at 0 bytes
  unfolding moved
  moved_none = refl

  pub moved_is : (n : ℕ) → paste bytes 0 (drop at bytes) n ≡ moved at n bytes
  unfolding moved
  moved_is n = rw (zero-add n) refl
