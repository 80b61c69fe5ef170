-- Laws: in every case of the five tables the outcome that is computed from the definitions is the one that the paper, or the list of a format's rules, says.
-- Nothing rests on it.
use Rattle.std.specs.Prelude.{map, ◌≡◌, refl}
use Rattle.cases.specs.CaseTables.{Case, computed, table, nine_zeros, closing, return_kinds}
use Rattle.cases.specs.WhamTables.{WhamCase, computed_wham, wham_table}

-- In every case the definitions say what the paper says.
pub cases : map computed table ≡ map (λ (c : Case). c.stated) table
unfolding computed
cases = refl

pub nine_zeros_lem : map computed nine_zeros ≡ map (λ (c : Case). c.stated) nine_zeros
unfolding computed
nine_zeros_lem = refl

pub closing_cases : map computed closing ≡ map (λ (c : Case). c.stated) closing
unfolding computed
closing_cases = refl

pub return_kinds_lem : map computed return_kinds ≡ map (λ (c : Case). c.stated) return_kinds
unfolding computed
return_kinds_lem = refl

pub wham_cases : map computed_wham wham_table ≡ map (λ (c : WhamCase). c.stated) wham_table
unfolding computed_wham
wham_cases = refl
