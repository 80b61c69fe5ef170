-- Laws: what several crates cite of lists.
use Rattle.std.specs.Prelude.{ℕ, zero, suc, ◌-◌, ◌≤◌, ◌<◌, List, [], ◌∷◌, ◌≡◌, refl, length, drop, get_or}
use Rattle.std.proofs.Common.{not-suc-le-zero, le_of_suc-le-suc, sub-one, arith}

-- What stands in a list at a place within it does not depend on what is told past its end.
pub any_default : {A : Type 0} (l : List A) (i : ℕ) (d e : A) → i < length l → get_or l i d ≡ get_or l i e
any_default [] i d e h = absurd (not-suc-le-zero h)
any_default (x ∷ l) zero d e h = refl
any_default (x ∷ l) (suc i) d e h = any_default l i d e (le_of_suc-le-suc h)

-- Of n elements to pass over, the one in front is one.
pub behind : {A : Type 0} (n : ℕ) (x : A) (l : List A) → 1 ≤ n → drop (n - 1) l ≡ drop n (x ∷ l)
behind zero x l h = absurd (omega arith)
behind (suc n) x l h = rw sub-one
