-- Laws: of two tests that both hold each holds, of two of which none does neither, one whose contrary holds does not, and a number that passes two tests lies within their bounds.
use Rattle.std.specs.Prelude.{ℕ, ◌≤◌, Bool, true, false, not, ◌&&◌, ◌||◌, ◌≡◌, refl, leb}
use Rattle.std.proofs.lemmas.Bool.{false≢true}
use Rattle.std.proofs.Common.{sym, leb-true}

-- Of two tests that both hold, each holds.
pub both_hold : (a b : Bool) → a && b ≡ true → (a ≡ true) × (b ≡ true)
both_hold true true e = (refl, refl)
both_hold true false e = absurd (false≢true e)
both_hold false b e = absurd (false≢true e)

-- Of two tests of which none holds, neither holds.
pub neither : (a b : Bool) → a || b ≡ false → (a ≡ false) × (b ≡ false)
neither true b e = absurd (false≢true (sym e))
neither false b e = (refl, e)

-- A test whose contrary holds does not.
pub not_holds : (a : Bool) → not a ≡ true → a ≡ false
not_holds true e = absurd (false≢true e)
not_holds false e = refl

-- A number within two bounds, from the test of both.
pub within : (low n high : ℕ) → leb low n && leb n high ≡ true → (low ≤ n) × (n ≤ high)
within low n high e =
    let both = both_hold (leb low n) (leb n high) e in
    (leb-true low n both.0, leb-true n high both.1)
