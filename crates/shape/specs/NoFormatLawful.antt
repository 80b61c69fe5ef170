-- Laws: the shape of a number that names no format is lawful.
use Rattle.std.specs.Prelude.{ℕ, true, false, [], ◌∷◌, ◌≡◌, refl}
use Rattle.std.proofs.lemmas.Bool.{false≢true}
use Rattle.std.proofs.Common.{sym, ◌∙◌, arith}
use Rattle.laws.specs.Finding.{broken}
use Rattle.chars.specs.ColumnLaws.{unless_labelled}
use Rattle.edits.specs.Edit.{rule, first_broken, AllFine}
use Rattle.edits.specs.EditLaws.{first_one, not_broken}
use Rattle.edits.specs.LabelLaws.{none_labelled, more_labelled}
use Rattle.shape.specs.Lawful.{Lawful}
use Rattle.shape.specs.NoFormat.{no_shape}

-- Its one edit is always broken.
broken_four : (column number : ℕ) → first_broken (rule 4 1 false ∷ []) ≡ broken column number → no_shape.is_left number ≡ true
broken_four column number e =
    let same : 4 ≡ number = let told = sym (first_one (rule 4 1 false)) ∙ e in cc in
    rw (← same)

never_fine : {A : Type 0} → AllFine (rule 4 1 false ∷ []) → A
never_fine all = absurd (not_broken 1 4 (sym all.0))

pub no_lawful : Lawful no_shape
no_lawful =
    record {
      some = omega arith;
      short = omega arith;
      fits = λ here seen text all. never_fine all;
      labelled = λ here seen text. more_labelled _ _ (unless_labelled false 1 4) refl refl none_labelled;
      numbered = λ here seen text column number e. broken_four column number e;
      bounded = λ text. tt;
      in_front = λ text. refl;
      cut_left = (refl, refl);
      ends_left = (refl, refl, refl, refl);
      others_not_left = (refl, refl, refl, refl, refl);
      lines_allowed = omega arith;
      lines_small = omega arith;
      cents_small = omega arith;
      quarter_kept = λ here seen text all e. refl;
      more_kept = λ here seen text ids used full all e. refl;
      quarter_none = λ held. refl;
      more_none = λ ids. refl;
      more_unlent = λ ids used is_open all this e. refl;
      second_fits = λ ids used all this text many under e. tt;
      hidden_alike = λ here here' seen seen' u v twins. refl;
      note_alike = λ here here' seen text note e same. refl;
      hides_within = λ text column e. absurd (false≢true e);
      front_shown = λ text column h. refl;
      front_tells = λ u v same. (refl, λ column. refl);
    }
