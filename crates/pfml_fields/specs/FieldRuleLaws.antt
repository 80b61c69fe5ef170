-- Laws: each record's part of the list of rules.
use Rattle.std.specs.Prelude.{◌≡◌, refl, take, drop}
use Rattle.pfml_fields.specs.FieldRules.{rules_of_a, rules_of_e, rules_of_s, rules_of_t, rules_of_f, rules}

pub rules_of_A : take 17 (drop 0 rules) ≡ rules_of_a
unfolding rules rules_of_a rules_of_e rules_of_s rules_of_t rules_of_f
rules_of_A = refl

pub rules_of_E : take 28 (drop 17 rules) ≡ rules_of_e
unfolding rules rules_of_a rules_of_e rules_of_s rules_of_t rules_of_f
rules_of_E = refl

pub rules_of_S : take 13 (drop 45 rules) ≡ rules_of_s
unfolding rules rules_of_a rules_of_e rules_of_s rules_of_t rules_of_f
rules_of_S = refl

pub rules_of_T : take 7 (drop 58 rules) ≡ rules_of_t
unfolding rules rules_of_a rules_of_e rules_of_s rules_of_t rules_of_f
rules_of_T = refl

pub rules_of_F : take 7 (drop 65 rules) ≡ rules_of_f
unfolding rules rules_of_a rules_of_e rules_of_s rules_of_t rules_of_f
rules_of_F = refl
