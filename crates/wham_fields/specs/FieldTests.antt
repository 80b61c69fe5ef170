-- Laws: the rows of each record tile its columns, 1 to 275, in order, each is as wide as its class asks, and each has a rule beside it: computed tests.
use Rattle.std.specs.Prelude.{ℕ, Bool, List, [], ◌≡◌, refl, T, length, take, drop}
use Rattle.laws.specs.Table.{every}
use Rattle.edits.specs.RowTests.{tiles}
use Rattle.edits.specs.RowTestLaws.{is_wide}
use Rattle.wham_fields.specs.Fields.{fields_of_a, fields_of_e, fields_of_s, fields_of_r, fields_of_t, fields_of_f, records, fields}
use Rattle.wham_fields.specs.FieldRules.{rules_of_a, rules_of_e, rules_of_s, rules_of_r, rules_of_t, rules_of_f, rules}
use Rattle.wham_fields.specs.declared.Edition.{Edition}
use Rattle.wham_fields.specs.declared.Edition.TheVariants.{Of2024}
use Rattle.field.specs.declared.class.Field.{Field}
use Rattle.edits.specs.FieldRow.{no_row}

-- ---- the one edition
pub only : (edition : Edition) → edition ≡ Of2024
only Of2024 = refl

-- ---- the columns
abbrev pub tiles_all : ℕ → List Field → Bool
tiles_all kind rows = tiles 275 1 rows

pub all_tile : T (every tiles_all [] 0 records)
unfolding tiles records fields_of_a fields_of_e fields_of_s fields_of_r fields_of_t fields_of_f
all_tile = tt

-- ---- the classes
pub all_wide : T (every is_wide no_row 0 fields)
unfolding fields fields_of_a fields_of_e fields_of_s fields_of_r fields_of_t fields_of_f
all_wide = tt

-- ---- the rules
pub as_many : (edition : Edition) → (length fields ≡ 78) × (length (rules edition) ≡ 78)
unfolding fields fields_of_a fields_of_e fields_of_s fields_of_r fields_of_t fields_of_f rules rules_of_a rules_of_e rules_of_s rules_of_r rules_of_t rules_of_f
as_many Of2024 = (refl, refl)

pub as_many_each : (edition : Edition)
    → (length rules_of_a ≡ length fields_of_a) × (length (rules_of_e edition) ≡ length fields_of_e) × (length rules_of_s ≡ length fields_of_s)
    × (length rules_of_r ≡ length fields_of_r) × (length (rules_of_t edition) ≡ length fields_of_t) × (length rules_of_f ≡ length fields_of_f)
unfolding fields_of_a fields_of_e fields_of_s fields_of_r fields_of_t fields_of_f rules_of_a rules_of_e rules_of_s rules_of_r rules_of_t rules_of_f
as_many_each Of2024 = (refl, refl, refl, refl, refl, refl)

-- ---- each record's part of both lists
pub part_of_A : take 16 (drop 0 fields) ≡ fields_of_a
unfolding fields fields_of_a fields_of_e fields_of_s fields_of_r fields_of_t fields_of_f
part_of_A = refl

pub rules_of_A : (edition : Edition) → take 16 (drop 0 (rules edition)) ≡ rules_of_a
unfolding rules rules_of_a rules_of_e rules_of_s rules_of_r rules_of_t rules_of_f
rules_of_A Of2024 = refl

pub part_of_E : take 24 (drop 16 fields) ≡ fields_of_e
unfolding fields fields_of_a fields_of_e fields_of_s fields_of_r fields_of_t fields_of_f
part_of_E = refl

pub rules_of_E : (edition : Edition) → take 24 (drop 16 (rules edition)) ≡ rules_of_e edition
unfolding rules rules_of_a rules_of_e rules_of_s rules_of_r rules_of_t rules_of_f
rules_of_E Of2024 = refl

pub part_of_S : take 15 (drop 40 fields) ≡ fields_of_s
unfolding fields fields_of_a fields_of_e fields_of_s fields_of_r fields_of_t fields_of_f
part_of_S = refl

pub rules_of_S : (edition : Edition) → take 15 (drop 40 (rules edition)) ≡ rules_of_s
unfolding rules rules_of_a rules_of_e rules_of_s rules_of_r rules_of_t rules_of_f
rules_of_S Of2024 = refl

pub part_of_R : take 5 (drop 55 fields) ≡ fields_of_r
unfolding fields fields_of_a fields_of_e fields_of_s fields_of_r fields_of_t fields_of_f
part_of_R = refl

pub rules_of_R : (edition : Edition) → take 5 (drop 55 (rules edition)) ≡ rules_of_r
unfolding rules rules_of_a rules_of_e rules_of_s rules_of_r rules_of_t rules_of_f
rules_of_R Of2024 = refl

pub part_of_T : take 11 (drop 60 fields) ≡ fields_of_t
unfolding fields fields_of_a fields_of_e fields_of_s fields_of_r fields_of_t fields_of_f
part_of_T = refl

pub rules_of_T : (edition : Edition) → take 11 (drop 60 (rules edition)) ≡ rules_of_t edition
unfolding rules rules_of_a rules_of_e rules_of_s rules_of_r rules_of_t rules_of_f
rules_of_T Of2024 = refl

pub part_of_F : take 7 (drop 71 fields) ≡ fields_of_f
unfolding fields fields_of_a fields_of_e fields_of_s fields_of_r fields_of_t fields_of_f
part_of_F = refl

pub rules_of_F : (edition : Edition) → take 7 (drop 71 (rules edition)) ≡ rules_of_f
unfolding rules rules_of_a rules_of_e rules_of_s rules_of_r rules_of_t rules_of_f
rules_of_F Of2024 = refl
