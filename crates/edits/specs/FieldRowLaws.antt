-- Laws: how a loop fills the columns of a field, one after the other.
use Rattle.std.specs.Prelude.{ℕ, suc, ◌+◌, ◌-◌, ◌<◌, ◌≤◌, ◌≡◌, refl, Bool, true, false, leb, min, List, length, set, replicate}
use Rattle.std.proofs.Common.{add-one, arith, leb-true, leb-false}
use Rattle.std.proofs.lemmas.List.Edits.{sets}
use Rattle.text.specs.PutLaws.{none_past}

module _ (line : List ℕ) (at end c : ℕ) where
  pub fill_done : end ≤ at → sets line at (replicate (end - at) c) ≡ line
  fill_done h = let none : end - at ≡ 0 = omega arith in rw none

  pub fill_past : length line ≤ at → sets line at (replicate (end - at) c) ≡ line
  fill_past h = none_past (replicate (end - at) c) line at h

  -- The lesser of the two ends it.
  pub fill_stops : (to : ℕ) → to ≡ min end (length line) → to ≤ at → sets line at (replicate (end - at) c) ≡ line
  fill_stops to is h = by (leb end at) refl where
    by : (none : Bool) → leb end at ≡ none → sets line at (replicate (end - at) c) ≡ line
    by true e = fill_done (leb-true end at e)
    by false e = fill_past (let more = leb-false end at e in omega (arith, is))

  pub fill_more : at < end → sets line at (replicate (end - at) c) ≡ sets (set line at c) (at + 1) (replicate (end - (at + 1)) c)
  fill_more h = let one : end - at ≡ suc (end - (at + 1)) = omega arith in rw (one, add-one)
