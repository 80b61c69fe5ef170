-- Laws: the tables of codes are those of the paper: 51 and 13 of them, none twice.
use Rattle.std.specs.Prelude.{true, ◌++◌, ◌≡◌, refl, length}
use Rattle.laws.specs.Spelling.{bytes}
use Rattle.codes.specs.Codes.{codes_in, states, provinces, is_code, is_among, all_differ}

pub states_are_51 : length states ≡ 51
unfolding states codes_in bytes
states_are_51 = refl

pub provinces_are_13 : length provinces ≡ 13
unfolding provinces codes_in bytes
provinces_are_13 = refl

pub none_twice : all_differ (states ++ provinces) ≡ true
unfolding all_differ is_among is_code states provinces codes_in bytes
none_twice = refl
