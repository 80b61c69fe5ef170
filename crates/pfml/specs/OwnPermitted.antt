-- Laws: the own rules of an S record's fields let permitted characters alone pass: "hold only permitted characters" asks nothing more than they do.
use Rattle.std.specs.Prelude.{ℕ, ◌+◌, ◌<◌, ◌≤◌, Bool, true, false, ◌&&◌, ◌||◌, List, ◌≡◌, refl, ltb, leb, get_or}
use Rattle.std.proofs.Common.{sym, ap, ◌∙◌, arith, ltb-true, ltb-false}
use Rattle.laws.specs.ChoiceLaws.{within}
use Rattle.laws.specs.Finding.{fine}
use Rattle.lines.specs.Lines.{Line}
use Rattle.chars.specs.Agree.{each_fine}
use Rattle.chars.specs.Characters.{is_permitted, capitals}
use Rattle.chars.specs.CharacterLaws.{capital_at, capital_permitted}
use Rattle.chars.specs.ColumnLaws.{column_says, unless_fine, digits_permitted, names_permitted}
use Rattle.chars.specs.Columns.{allowed_test}
use Rattle.chars.specs.declared.columns.Allowed.TheVariants.{Permitted, Digits, OfNames}
use Rattle.edits.specs.Edit.{first_broken, AllFine}
use Rattle.edits.specs.EditLaws.{fine_all}
use Rattle.shape.specs.Hidden.{MeetsOwn}
use Rattle.pfml.specs.Employees.{is_personal, personal_edits}
use Rattle.pfml.specs.Format.{pfml_shape}

module _ (line : Line) (own : first_broken (personal_edits (capitals line.text)) ≡ fine) where
  abbrev text : List ℕ
  text = capitals line.text

  -- The rules of the four fields in their order; those of their characters are 0, 4, 7 and 8.
  rules : AllFine (personal_edits text)
  rules = fine_all (personal_edits text) own

  names_at : (at : ℕ) → 1 ≤ at → at < 42 → allowed_test Permitted text at ≡ fine
  names_at at low high = by (ltb at 10) (ltb at 30) refl refl where
    by : (id last : Bool) → ltb at 10 ≡ id → ltb at 30 ≡ last → allowed_test Permitted text at ≡ fine
    by true last p q = digits_permitted text at (each_fine Digits text 2 10 rules.0 at low (ltb-true at 10 p))
    by false true p q = names_permitted text at (each_fine OfNames text 11 30 rules.1.1.1.1.0 at (ltb-false at 10 p) (ltb-true at 30 q))
    by false false p q = names_permitted text at (each_fine OfNames text 31 42 rules.1.1.1.1.1.1.1.0 at (ltb-false at 30 q) high)

  wages_at : (at : ℕ) → 63 ≤ at → at < 77 → allowed_test Permitted text at ≡ fine
  wages_at at low high = digits_permitted text at (each_fine Digits text 64 77 rules.1.1.1.1.1.1.1.1.0 at low high)

  permitted_at : (at : ℕ) → allowed_test Permitted text at ≡ fine → is_permitted (get_or line.text at 0) ≡ true
  permitted_at at e =
      let passes = unless_fine _ (at + 1) 3 (sym (column_says is_permitted 3 text at) ∙ e) in
      sym (ap is_permitted (capital_at line.text at) ∙ capital_permitted (get_or line.text at 0)) ∙ passes

  own_permits : (at : ℕ) → is_personal (at + 1) ≡ true → is_permitted (get_or line.text at 0) ≡ true
  own_permits at = by (leb 2 (at + 1) && leb (at + 1) 42) refl where
    by : (names : Bool) → leb 2 (at + 1) && leb (at + 1) 42 ≡ names → names || (leb 64 (at + 1) && leb (at + 1) 77) ≡ true → is_permitted (get_or line.text at 0) ≡ true
    by true p e = let w = within 2 (at + 1) 42 p in permitted_at at (names_at at (omega arith) (omega arith))
    by false p e = let w = within 64 (at + 1) 77 e in permitted_at at (wages_at at (omega arith) (omega arith))

  pub meets_own : MeetsOwn pfml_shape line
  meets_own = record { permitted = own_permits; own_rules = own }
