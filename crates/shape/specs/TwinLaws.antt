-- Laws: two texts that are alike but in hidden columns: which columns they share, and that they break the rule of characters alike.
use Rattle.std.specs.Prelude.{ℕ, ◌+◌, Bool, true, false, not, List, ◌≡◌, refl, get_or}
use Rattle.std.proofs.Common.{sym, ◌∙◌}
use Rattle.laws.specs.ChoiceLaws.{not_holds}
use Rattle.laws.specs.Finding.{fine}
use Rattle.chars.specs.Agree.{each_alike, column_alike}
use Rattle.chars.specs.Characters.{is_permitted}
use Rattle.chars.specs.ColumnLaws.{column_says}
use Rattle.chars.specs.Columns.{allowed_test, every_column}
use Rattle.chars.specs.declared.columns.Allowed.TheVariants.{Permitted}
use Rattle.edits.specs.LooksLaws.{SameIn}
use Rattle.shape.specs.Twins.{Alike, Permits}

-- The columns that are not hidden.
abbrev pub shown_by : (ℕ → Bool) → ℕ → Bool
shown_by hides column = not (hides column)

module _ (hides : ℕ → Bool) (u v : List ℕ) (alike : Alike hides u v) where
  pub shown_same : SameIn (shown_by hides) u v
  shown_same at e = alike at (not_holds (hides (at + 1)) e)

  module _ (ours : Permits hides u) (theirs : Permits hides v) where
    permitted_there : (text : List ℕ) (at : ℕ) → is_permitted (get_or text at 0) ≡ true → allowed_test Permitted text at ≡ fine
    permitted_there text at e = column_says is_permitted 3 text at ∙ rw e

    permitted_at : (at : ℕ) (hidden : Bool) → hides (at + 1) ≡ hidden → allowed_test Permitted u at ≡ allowed_test Permitted v at
    permitted_at at true p = permitted_there u at (ours at p) ∙ sym (permitted_there v at (theirs at p))
    permitted_at at false p = column_alike Permitted u v at (alike at p)

    pub permitted_alike : (last : ℕ) → every_column Permitted u 1 last ≡ every_column Permitted v 1 last
    permitted_alike last = each_alike Permitted u v 1 last (λ at low high. permitted_at at _ refl)
