-- Follows the code; need not be believed. An S record that one sweep over its columns finds good: each column lies between those of two records, the
-- lowest and the highest that this employer and A's quarter allow. What the sweep does not find good is only looked at more closely.
use Rattle.std.specs.Prelude.{ℕ, zero, suc, ◌+◌, ◌-◌, ◌*◌, ◌%◌, Bool, true, not, ◌&&◌, List, eqb, leb, length, get_or, drop, if◌then◌else◌, Option, None, Some}
use Rattle.laws.specs.Spelling.{bytes}
use Rattle.lines.specs.Lines.{end_of}
use Rattle.calendar.specs.Quarters.{is_allowed}
use Rattle.calendar.specs.declared.Quarter.{Quarter}
use Rattle.chars.specs.Characters.{capitals}
use Rattle.chars.specs.Columns.{every_column, is_fine}
use Rattle.chars.specs.declared.columns.Allowed.TheVariants.{OfNames}
use Rattle.rules.specs.Rules.{may_be_filed}
use Rattle.text.specs.Put.{blanks}
use Rattle.edits.specs.FieldRow.{first_in, last_in, width_in, put_at, put_text_at, fill_at}
use Rattle.pfml_fields.specs.Fields.{letter_of_s, identity_of_s, last_name_of_s, first_name_of_s, period_of_s, year_of_s, wages_of_s, code_of_s, fein_of_s}
use Rattle.plain.specs.declared.Sighted.{Sighted}
use Rattle.field.specs.declared.class.Field.{Field}

-- ---- the two records
-- An S record of any employer: its letter and code, one character in every column of its numbers, and blanks.
abbrev pub of_digit : ℕ → List ℕ
of_digit digit =
    let lettered = put_text_at (put_text_at (blanks 290) letter_of_s (bytes "S")) code_of_s (bytes "PFML") in
    fill_at (fill_at (fill_at (fill_at (fill_at lettered identity_of_s digit) period_of_s digit) year_of_s digit) wages_of_s digit) fein_of_s digit

-- The first and the last character that each column of an S record may hold, whoever the employer is. A name does not begin with a blank; what else it may
-- hold is asked apart.
unfoldable pub lowest_of_all : List ℕ
lowest_of_all = put_text_at (put_text_at (of_digit 48) last_name_of_s (bytes "!")) first_name_of_s (bytes "!")

unfoldable pub highest_of_all : List ℕ
highest_of_all = fill_at (fill_at (of_digit 57) last_name_of_s 122) first_name_of_s 122

-- The period, the year and the employer's FEIN have one value each.
unfoldable pub of_employer : List ℕ → ℕ → Quarter → List ℕ
of_employer record' fein filed = put_at (put_at (put_at record' period_of_s filed.month) year_of_s filed.year) fein_of_s fein

abbrev pub lowest : ℕ → Quarter → List ℕ
lowest fein filed = of_employer lowest_of_all fein filed

abbrev pub highest : ℕ → Quarter → List ℕ
highest fein filed = of_employer highest_of_all fein filed

-- Numbers that their columns have room for, and a quarter that S records may name.
abbrev pub fits : ℕ → Quarter → Bool
fits fein filed = leb fein 999999999 && is_allowed filed

-- ---- the sweep
-- Each of the first n columns lies between the two.
unfoldable pub within : List ℕ → List ℕ → List ℕ → ℕ → Bool
within low high s zero = true
within low high s (suc n) = within low high s n && (leb (get_or low n 0) (get_or s n 0) && leb (get_or s n 0) (get_or high n 0))

-- n columns from a place on, read as digits without asking whether they are, when those before them read as v.
unfoldable pub digits_from : List ℕ → ℕ → ℕ → ℕ → ℕ
digits_from s v at zero = v
digits_from s v at (suc n) = digits_from s (v * 10 + get_or s at 0 % 16) (at + 1) n

-- The columns of a field so read: the identity number, and the wages.
abbrev digits_at : List ℕ → Field → ℕ
digits_at s field = digits_from s 0 (first_in field - 1) (width_in field)

abbrev pub id_in : List ℕ → ℕ
id_in s = digits_at s identity_of_s

abbrev pub wages_in : List ℕ → ℕ
wages_in s = digits_at s wages_of_s

-- The bytes of the line end after 290 columns.
abbrev pub end_size : List ℕ → ℕ
end_size s = length (end_of (drop 290 s))

-- There is a record to compare with on either side, and a whole line with its end.
abbrev pub is_whole : List ℕ → List ℕ → List ℕ → Bool
is_whole low high s = leb 290 (length low) && (leb 290 (length high) && leb 292 (length s))

-- The bytes begin with an S record that the sweep finds good; its line end is whole too, whatever follows.
unfoldable pub is_plain : List ℕ → List ℕ → List ℕ → Bool
is_plain low high s =
    is_whole low high s
    && (within low high s 290
    && (is_fine (every_column OfNames (capitals s) (first_in last_name_of_s) (last_in first_name_of_s))
    && (not (eqb (end_size s) 0) && may_be_filed (id_in s))))

-- What is seen of it: the bytes that it and its end take, its identity number and its wages. No bytes: look closer.
abbrev pub sight : List ℕ → List ℕ → List ℕ → Sighted
sight low high s =
    if is_plain low high s
    then record { taken = 290 + end_size s; id = id_in s; wages = wages_in s }
    else record { taken = 0; id = 0; wages = 0 }

-- The same, as the code answers it: where no bytes are seen, nothing.
abbrev pub seen : List ℕ → List ℕ → List ℕ → Option Sighted
seen low high s = if is_plain low high s then Some (record { taken = 290 + end_size s; id = id_in s; wages = wages_in s }) else None
