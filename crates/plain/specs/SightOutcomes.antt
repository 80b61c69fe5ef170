-- Laws: what is seen, by the outcome of each test.
use Rattle.std.specs.Prelude.{ℕ, ◌+◌, ◌≤◌, ◌<◌, Bool, true, false, ◌&&◌, List, ◌≡◌, refl, leb, length, None, Some}
use borrow.Author.Tests.{le-leb, lt-leb, eq-eqb, ne_eqb}
use Rattle.chars.specs.Characters.{capitals}
use Rattle.chars.specs.Columns.{every_column, is_fine}
use Rattle.chars.specs.declared.columns.Allowed.TheVariants.{OfNames}
use Rattle.rules.specs.Rules.{may_be_filed}
use Rattle.plain.specs.Plain.{within, id_in, wages_in, end_size, is_whole, is_plain, seen}

-- Where one part of a test fails, so does the whole.
and_false : (b : Bool) → b && false ≡ false
and_false true = refl
and_false false = refl

module _ (low high s : List ℕ) where
  -- No record to compare with, or no whole line.
  pub not_whole : is_whole low high s ≡ false → seen low high s ≡ None
  unfolding is_plain
  not_whole e = rw e

  pub low_short : length low < 290 → seen low high s ≡ None
  low_short h = not_whole (rw (lt-leb 290 (length low) h))

  pub high_short : length high < 290 → seen low high s ≡ None
  high_short h = not_whole (rw (lt-leb 290 (length high) h) (and_false (leb 290 (length low))))

  pub too_short : length s < 292 → seen low high s ≡ None
  too_short h = not_whole (rw (lt-leb 292 (length s) h, and_false (leb 290 (length high))) (and_false (leb 290 (length low))))

  module _ (long : 292 ≤ length s) (lower : 290 ≤ length low) (higher : 290 ≤ length high) where
    whole : is_whole low high s ≡ true
    whole = rw (le-leb 290 (length low) lower, le-leb 290 (length high) higher, le-leb 292 (length s) long)

    pub not_between : within low high s 290 ≡ false → seen low high s ≡ None
    unfolding is_plain
    not_between e = rw (whole, e)

    module _ (between : within low high s 290 ≡ true) where
      pub no_names : is_fine (every_column OfNames (capitals s) 11 42) ≡ false → seen low high s ≡ None
      unfolding is_plain
      no_names e = rw (whole, between, e)

      module _ (names : is_fine (every_column OfNames (capitals s) 11 42) ≡ true) where
        pub no_end : end_size s ≡ 0 → seen low high s ≡ None
        unfolding is_plain
        no_end e = rw (whole, between, names, eq-eqb (end_size s) 0 e)

        module _ (ends : end_size s ≡ 0 → ⊥) where
          pub not_filed : may_be_filed (id_in s) ≡ false → seen low high s ≡ None
          unfolding is_plain
          not_filed e = rw (whole, between, names, ne_eqb (end_size s) 0 ends, e)

          pub is_plain_lem : may_be_filed (id_in s) ≡ true → seen low high s ≡ Some (record { taken = 290 + end_size s; id = id_in s; wages = wages_in s })
          unfolding is_plain
          is_plain_lem e = rw (whole, between, names, ne_eqb (end_size s) 0 ends, e)
