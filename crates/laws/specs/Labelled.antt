-- Laws: what is found bears its label: a number, and the columns that it may be told with.
use Rattle.std.specs.Prelude.{ℕ, ◌≤◌, Bool, true, false, ◌≡◌, if◌then◌else◌}
use native.Mathlib.Omega.{arith}
use Rattle.laws.specs.Finding.{Finding, fine, broken}
use Rattle.laws.specs.First.{not_broken}

-- Whatever is found has this number, and a column from the first to the last.
unfoldable pub Labelled : ℕ → ℕ → ℕ → Finding → Type 0
Labelled number first last f = (column told : ℕ) → f ≡ broken column told → (told ≡ number) × (first ≤ column) × (column ≤ last)

module _ (number first last : ℕ) where
  pub labelled_says : (f : Finding) → Labelled number first last f
      → (column told : ℕ) → f ≡ broken column told → (told ≡ number) × (first ≤ column) × (column ≤ last)
  unfolding Labelled
  labelled_says f labelled = labelled

  pub says_labelled : (f : Finding) → ((column told : ℕ) → f ≡ broken column told → (told ≡ number) × (first ≤ column) × (column ≤ last))
      → Labelled number first last f
  unfolding Labelled
  says_labelled f says = says

  pub fine_labelled : Labelled number first last fine
  unfolding Labelled
  fine_labelled column told e = absurd (not_broken column told e)

  pub broken_labelled : (at : ℕ) → first ≤ at → at ≤ last → Labelled number first last (broken at number)
  unfolding Labelled
  broken_labelled at low high column told e =
      let here : at ≡ column = cc in
      let same : number ≡ told = cc in
      (cc, omega arith, omega arith)

  pub choice_labelled : (t : Bool) (a b : Finding) → Labelled number first last a → Labelled number first last b → Labelled number first last (if t then a else b)
  choice_labelled true a b p q = p
  choice_labelled false a b p q = q
