-- Laws: of two lines that agree in some columns, what is asked of these columns alone is answered alike.
use Rattle.std.specs.Prelude.{ℕ, ◌+◌, ◌-◌, ◌<◌, ◌≤◌, ◌≡◌, refl, List, get_or, drop}
use Rattle.std.proofs.Common.{sym, ◌∙◌, arith, get_or-drop}
use Rattle.laws.specs.Finding.{fine}
use Rattle.laws.specs.First.{first_same, none_is_broken}
use Rattle.chars.specs.Columns.{width_of, column_test, allowed_test, every_column}
use Rattle.chars.specs.declared.columns.Allowed.{Allowed}
use Rattle.chars.specs.declared.columns.Allowed.TheVariants.{Anything, Permitted, Blanks, Digits, OfNames}

-- The same characters in the columns first to last.
abbrev pub Agree : List ℕ → List ℕ → ℕ → ℕ → Type 0
Agree u v first last = (at : ℕ) → first - 1 ≤ at → at < last → get_or u at 0 ≡ get_or v at 0

-- What stands from a column on, as a line of its own.
pub agree_from : (u v : List ℕ) (first n : ℕ) → Agree u v first (first - 1 + n) → Agree (drop (first - 1) u) (drop (first - 1) v) 1 n
agree_from u v first n agree at low high =
    get_or-drop (first - 1) u at 0 ∙ agree (first - 1 + at) (omega arith) (omega arith) ∙ sym (get_or-drop (first - 1) v at 0)

-- ---- the columns are asked one by one
pub each_fine : (allowed : Allowed) (line : List ℕ) (first last : ℕ) → every_column allowed line first last ≡ fine
    → (at : ℕ) → first - 1 ≤ at → at < last → allowed_test allowed line at ≡ fine
unfolding every_column
each_fine allowed line first last e at low high =
    let here : first - 1 + (at - (first - 1)) ≡ at = omega arith in
    rw here at (none_is_broken (allowed_test allowed line) (width_of first last) (first - 1) e (at - (first - 1)) (omega arith))

module _ (allowed : Allowed) (u v : List ℕ) (first last : ℕ) where
  -- Columns that all hold what they may find the same, whatever they hold.
  pub fine_alike : every_column allowed u first last ≡ fine → every_column allowed v first last ≡ fine
      → (at : ℕ) → first - 1 ≤ at → at < last → allowed_test allowed u at ≡ allowed_test allowed v at
  fine_alike p q at low high = each_fine allowed u first last p at low high ∙ sym (each_fine allowed v first last q at low high)

  pub each_alike : ((at : ℕ) → first - 1 ≤ at → at < last → allowed_test allowed u at ≡ allowed_test allowed v at)
      → every_column allowed u first last ≡ every_column allowed v first last
  unfolding every_column
  each_alike alike =
      first_same (allowed_test allowed u) (allowed_test allowed v) (width_of first last) (first - 1)
      (λ k h. alike (first - 1 + k) (omega arith) (omega arith))

pub column_alike : (allowed : Allowed) (u v : List ℕ) (at : ℕ) → get_or u at 0 ≡ get_or v at 0 → allowed_test allowed u at ≡ allowed_test allowed v at
unfolding column_test
column_alike Anything u v at e = refl
column_alike Permitted u v at e = rw e
column_alike Blanks u v at e = rw e
column_alike Digits u v at e = rw e
column_alike OfNames u v at e = rw e

pub every_alike : (allowed : Allowed) (u v : List ℕ) (first last : ℕ) → Agree u v first last → every_column allowed u first last ≡ every_column allowed v first last
every_alike allowed u v first last agree = each_alike allowed u v first last (λ at low high. column_alike allowed u v at (agree at low high))
