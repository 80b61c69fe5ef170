-- Laws: a list whose last entry is done keeps its number of entries and their FEINs, and is the list with the entry at the last place done.
use Rattle.std.specs.Prelude.{ℕ, suc, ◌-◌, ◌≤◌, ◌≡◌, replicate}
use mathlib.Core.List.{List, [], ◌∷◌, ◌++◌}
use Rattle.std.proofs.Math.Path.{refl, ap}
use native.Mathlib.Omega.{arith}
use Rattle.std.proofs.Math.ListN.{length}
use Rattle.tables.specs.Pad.{pad}
use Rattle.tables.specs.Tables.{no_employer, closed, closed_entry_at, closed_last, feins_of}
use Rattle.tables.specs.declared.Employer.{Employer}

module _ (count cents : ℕ) where
  pub closed_behind : (front : List Employer) (entry : Employer) → closed_last count cents (front ++ (entry ∷ [])) ≡ front ++ (closed entry count cents ∷ [])
  closed_behind [] entry = refl
  closed_behind (one ∷ []) entry = refl
  closed_behind (one ∷ next ∷ front) entry = ap (λ (l : List Employer). one ∷ l) (closed_behind (next ∷ front) entry)

  pub closed_many : (entries : List Employer) → length (closed_last count cents entries) ≡ length entries
  closed_many [] = refl
  closed_many (entry ∷ []) = refl
  closed_many (entry ∷ next ∷ entries) = ap suc (closed_many (next ∷ entries))

  pub closed_feins : (entries : List Employer) → feins_of (closed_last count cents entries) ≡ feins_of entries
  closed_feins [] = refl
  closed_feins (entry ∷ []) = refl
  closed_feins (entry ∷ next ∷ entries) = ap (λ (l : List ℕ). entry.fein ∷ l) (closed_feins (next ∷ entries))

  -- By the last entry's place, whatever comes after it.
  closed_last_at : (entry : Employer) (entries back : List Employer)
      → closed_entry_at (length entries) count cents ((entry ∷ entries) ++ back) ≡ closed_last count cents (entry ∷ entries) ++ back
  unfolding closed_entry_at
  closed_last_at entry [] back = refl
  closed_last_at entry (next ∷ entries) back = ap (λ (l : List Employer). entry ∷ l) (closed_last_at next entries back)

  -- So it is in the list that is lent, where entries at rest come after it.
  pub closed_padded : (n : ℕ) (entries : List Employer) → 1 ≤ length entries
      → closed_entry_at (length entries - 1) count cents (pad no_employer n entries) ≡ pad no_employer n (closed_last count cents entries)
  unfolding pad
  closed_padded n [] some = absurd (omega arith)
  closed_padded n (entry ∷ entries) some =
      let last : length (entry ∷ entries) - 1 ≡ length entries = omega arith in
      rw (last, closed_many (entry ∷ entries)) (closed_last_at entry entries (replicate (n - length (entry ∷ entries)) no_employer))
