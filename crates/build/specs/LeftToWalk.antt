-- Laws: built_left_to_walk: "Rules that look at other records or the quarter held stay with the walk", and nothing else does.
use Rattle.std.specs.Prelude.{ℕ, ◌<◌, ◌≤◌, Bool, true, false, List, [], ◌∷◌, ◌++◌, map, ◌≡◌, refl, length, get_or, take, if◌then◌else◌}
use Rattle.std.proofs.lemmas.Bool.{false≢true}
use Rattle.std.proofs.Common.{sym, ap, ◌∙◌, not-suc-le-zero, arith}
use Rattle.laws.specs.Finding.{or_else}
use Rattle.chars.specs.Characters.{is_blank, capitals}
use Rattle.chars.specs.CharacterLaws.{capitals_already}
use Rattle.chars.specs.ColumnLaws.{column_says, blank_column}
use Rattle.field.specs.declared.class.Class.TheVariants.{RecordLetter}
use Rattle.edits.specs.FieldRow.{no_row}
use Rattle.pfml_fields.specs.Rows.{LetterFirst, letters_first}
use Rattle.edits.specs.Edit.{first_broken}
use Rattle.edits.specs.EditLaws.{first_cons, first_append}
use Rattle.edits.specs.FieldEditLaws.{context_left}
use Rattle.edits.specs.FieldEdits.{field_edits, context_edits}
use Rattle.edits.specs.declared.Context.{Context}
use Rattle.edits.specs.declared.Seen.{Seen}
use Rattle.pfml.specs.Edits.{rows_for, around, placed_edits, text_edits, rules_for}
use Rattle.pfml.specs.Kinds.{kind_on, kind_of, is_known}
use Rattle.pfml.specs.Letters.{Named, letter_again}
use Rattle.pfml.specs.declared.kind.Kind.{Kind}
use Rattle.pfml.specs.declared.kind.Kind.TheVariants.{Transmitter, Employer, Employee, Total, Final, Unknown}
use Rattle.build.specs.Building.{building}
use Rattle.build.specs.FillLaws.{padded_read}
use Rattle.build.specs.StandLaws.{each_at}
use Rattle.build.specs.Theorems.{given, built_slice, built_passes, field_read_back}
use Rattle.build.specs.BuiltRecords.{Built}
use Rattle.build.specs.Values.{none, words, value_by, Filled, form_in, fill_rows, trimmed, text_in, as_read}
use Rattle.field.specs.declared.class.Field.{Field}

-- ---- the letter
known_named : (kind : Kind) → is_known kind ≡ true → Named kind
known_named Transmitter known = (omega arith, omega arith)
known_named Employer known = (omega arith, omega arith)
known_named Employee known = (omega arith, omega arith)
known_named Total known = (omega arith, omega arith)
known_named Final known = (omega arith, omega arith)
known_named Unknown known = absurd (false≢true known)

known_first : (kind : Kind) → is_known kind ≡ true → LetterFirst (rows_for kind)
known_first Transmitter known = letters_first.0
known_first Employer known = letters_first.1
known_first Employee known = letters_first.2
known_first Total known = letters_first.3
known_first Final known = letters_first.4
known_first Unknown known = absurd (false≢true known)

is_blank_lem : (c : ℕ) → is_blank c ≡ true → c ≡ 0x20
is_blank_lem c e = blank_column (c ∷ []) 0 (column_says is_blank 31 (c ∷ []) 0 ∙ rw e)

no_blank : (c : ℕ) → 65 ≤ c → is_blank c ≡ false
no_blank c h = by (is_blank c) refl where
  by : (blank : Bool) → is_blank c ≡ blank → blank ≡ false
  by true e = absurd (omega (arith, is_blank_lem c e))
  by false e = refl

-- A line whose first column reads as a letter begins with it.
begins_with : (line : List ℕ) (letter : ℕ) → 65 ≤ letter → letter < 97 → text_in line 1 1 ≡ trimmed (capitals (letter ∷ [])) → get_or line 0 0 ≡ letter
unfolding trimmed
begins_with line letter low high e = by line (e ∙ rw (same, no_blank letter low)) where
  same : capitals (letter ∷ []) ≡ letter ∷ []
  same = capitals_already (letter ∷ []) (λ k h. let front : k ≡ 0 = omega arith in rw front high)

  one : (c : ℕ) (blank : Bool) → is_blank c ≡ blank → (if blank then [] else c ∷ []) ≡ letter ∷ [] → c ≡ letter
  one c true b e = let z : ◌≡◌ {A = ℕ} 0 1 = cc in absurd (omega arith)
  one c false b e = cc

  by : (l : List ℕ) → trimmed (take 1 l) ≡ letter ∷ [] → get_or l 0 0 ≡ letter
  by [] e = let z : ◌≡◌ {A = ℕ} 0 1 = cc in absurd (omega arith)
  by (c ∷ l) e = one c (is_blank c) refl e

-- ---- the first field
first_value : (letter : ℕ) (rows : List Field) (values texts : List ℕ) → 0 < length rows
    → get_or (map (λ (field : Filled). field.value) (fill_rows letter rows values texts)) 0 none ≡ value_by (form_in (get_or rows 0 no_row)) letter (get_or values 0 0) texts
unfolding fill_rows
first_value letter [] values texts h = absurd (not-suc-le-zero h)
first_value letter (row ∷ rows) values texts h = refl

-- ---- the theorem
module _ (letter : ℕ) (values texts out : List ℕ) (known : is_known (kind_of letter) ≡ true) (built : Built letter values texts out) where
  -- A built record is in capitals,
  pub built_capitals : capitals (building letter values texts out).out ≡ (building letter values texts out).out
  built_capitals = rw (built_slice letter values texts out built) (padded_read (given letter values texts out))

  -- and the walk reads it as the record of its letter.
  pub built_kind : kind_on (building letter values texts out).out ≡ kind_of letter
  built_kind =
      let line = (building letter values texts out).out in
      let rows = rows_for (kind_of letter) in
      let first = known_first (kind_of letter) known in
      let named = known_named (kind_of letter) known in
      let is = letter_again letter named in
      let reads = field_read_back letter values texts out known built 0 first.0 ∙ ap as_read (first_value letter rows values texts first.0) in
      let text : words (text_in line 1 1) ≡ words (trimmed (capitals (letter ∷ []))) = rw first.1 at reads in
      ap kind_of (begins_with line letter (omega arith) (omega arith) (cc))

  -- Of its edits there only those of its place, and those of its fields that have a context, may be broken.
  pub built_left_to_walk : (here : Context) (seen : Seen)
      → first_broken (text_edits here seen (building letter values texts out).out (kind_of letter))
      ≡ first_broken (placed_edits here (kind_of letter)
      ++ context_edits (around here seen (kind_of letter)) (building letter values texts out).out (rows_for (kind_of letter)) (rules_for (kind_of letter)))
  built_left_to_walk here seen =
      let line = (building letter values texts out).out in
      let kind = kind_of letter in
      let passes = built_passes letter values texts out known built in
      let fields = field_edits (around here seen kind) line (rows_for kind) (rules_for kind) in
      let left = context_edits (around here seen kind) line (rows_for kind) (rules_for kind) in
      rw (first_cons, first_cons, passes.1, known)
      (first_append (placed_edits here kind) fields
      ∙ ap (or_else (first_broken (placed_edits here kind)))
      (context_left (around here seen kind) line (rows_for kind) (rules_for kind) (each_at _ letter (rows_for kind) values texts passes.2))
      ∙ sym (first_append (placed_edits here kind) left))
