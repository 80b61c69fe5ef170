-- Laws: a record made of parts that tile its columns: each part stands in it, and no other line of its length holds them all.
use Rattle.std.specs.Prelude.{ℕ, zero, suc, ◌+◌, ◌-◌, ◌^◌, ◌<◌, ◌≤◌, Bool, true, false, ◌&&◌, ◌⊎◌, ◌≡◌, T, eqb, leb, ltb, length, get_or}
use Rattle.std.proofs.lemmas.Bool.{false≢true}
use mathlib.Core.List.{List, [], ◌∷◌, ◌++◌}
use Rattle.std.proofs.Common.{inl, inr, sym, ◌∙◌, not-suc-le-zero, le_of_suc-le-suc, arith, ext_get_or, eqb-true, leb-true, ltb-true, ltb-false}
use Rattle.std.proofs.Math.Path.{refl}
use Rattle.std.proofs.lemmas.List.{length-replicate, get_or-replicate}
use Rattle.laws.specs.ChoiceLaws.{both_hold}
use Rattle.laws.specs.Finding.{value}
use Rattle.laws.specs.Table.{every, at, is_true, both_left, both_right}
use Rattle.chars.specs.Columns.{width_of}
use Rattle.number.specs.Numbers.{number_in}
use Rattle.number.specs.NumberLaws.{number_below, read_back}
use Rattle.number.specs.NumberColumnLaws.{put_number_length, put_number_elsewhere, same_digits, number_alike, number_digits}
use Rattle.text.specs.Put.{blanks}
use Rattle.text.specs.PutLaws.{put_text_length, put_text_elsewhere, put_text_at_lem}
use Rattle.write.specs.Records.{Part, text, number, blank, put, put_all, line_of}

-- The place where a part begins, and the one where it ends.
abbrev begin : Part → ℕ
begin (text first t) = first - 1
begin (number first last v) = first - 1
begin (blank first last) = first - 1

abbrev end : Part → ℕ
end (text first t) = first - 1 + length t
end (number first last v) = last
end (blank first last) = last

-- A character that is read as it stands: permitted, and no small letter.
abbrev pub Plain : ℕ → Type 0
Plain c = (0x20 ≤ c) × (c < 97)

abbrev pub is_plain : ℕ → ℕ → Bool
is_plain k c = leb 0x20 c && ltb c 97

-- A text of such characters; a number of 1 to 19 columns.
abbrev sound : Part → Bool
sound (text first t) = every is_plain 0 0 t
sound (number first last v) = leb 1 first && leb first last && leb (width_of first last) 19
sound (blank first last) = true

-- Each part begins where the one before ended, the first at place `from`, and the last ends with a line of n characters.
abbrev pub tiles : ℕ → ℕ → List Part → Bool
tiles n from [] = eqb from n
tiles n from (part ∷ parts) = eqb (begin part) from && leb from (end part) && sound part && tiles n (end part) parts

-- A number that its columns have room for.
abbrev pub Fits : Part → Type 0
Fits (text first t) = Unit {0}
Fits (number first last v) = v < 10 ^ width_of first last
Fits (blank first last) = Unit {0}

-- A line in whose columns a part stands.
abbrev pub Holds : Part → List ℕ → Type 0
Holds (text first t) line = (k : ℕ) → k < length t → get_or line (first - 1 + k) 0 ≡ get_or t k 0
Holds (number first last v) line = number_in line first last ≡ value v
Holds (blank first last) line = (k : ℕ) → first - 1 ≤ k → k < last → get_or line k 0 ≡ 0x20

-- Of every part.
abbrev pub AllOf : (Part → Type 0) → List Part → Type 0
AllOf Q [] = Unit {0}
AllOf Q (part ∷ parts) = Q part × AllOf Q parts

abbrev pub AllFit : List Part → Type 0
AllFit parts = AllOf Fits parts

abbrev pub AllHold : List Part → List ℕ → Type 0
AllHold parts line = AllOf (λ part. Holds part line) parts

all_both : (P Q : Part → Type 0) (parts : List Part) → AllOf P parts → AllOf Q parts → AllOf (λ part. P part × Q part) parts
all_both P Q [] p q = tt
all_both P Q (part ∷ parts) p q = ((p.0, q.0), all_both P Q parts p.1 q.1)

-- Of the parts of two lists, one after the other.
pub all_join : (Q : Part → Type 0) (parts more : List Part) → AllOf Q parts → AllOf Q more → AllOf Q (parts ++ more)
all_join Q [] more first rest = rest
all_join Q (part ∷ parts) more first rest = (first.0, all_join Q parts more first.1 rest)

pub all_split : (Q : Part → Type 0) (parts more : List Part) → AllOf Q (parts ++ more) → AllOf Q parts × AllOf Q more
all_split Q [] more all = (tt, all)
all_split Q (part ∷ parts) more all = let rest = all_split Q parts more all.1 in ((all.0, rest.0), rest.1)

-- ---- one part
past_end : (line : List ℕ) (k : ℕ) → length line ≤ k → get_or line k 0 ≡ 0
past_end [] k h = refl
past_end (c ∷ line) zero h = absurd (not-suc-le-zero h)
past_end (c ∷ line) (suc k) h = past_end line k (le_of_suc-le-suc h)

record Wide (first last : ℕ) : Type 0 where
  one : 1 ≤ first
  some : first ≤ last
  short : width_of first last ≤ 19

wide : (first last : ℕ) → T (leb 1 first && leb first last && leb (width_of first last) 19) → Wide first last
wide first last t =
    let all = both_hold (leb 1 first && leb first last) (leb (width_of first last) 19) (is_true _ t) in
    let columns = both_hold (leb 1 first) (leb first last) all.0 in
    record { one = leb-true 1 first columns.0; some = leb-true first last columns.1; short = leb-true (width_of first last) 19 all.1 }

pub plain_at : (t : List ℕ) → T (every is_plain 0 0 t) → (k : ℕ) → k < length t → Plain (get_or t k 0)
plain_at t all k h =
    let both = both_hold (leb 0x20 (get_or t k 0)) (ltb (get_or t k 0) 97) (at is_plain 0 t all k h) in
    (leb-true 0x20 (get_or t k 0) both.0, ltb-true (get_or t k 0) 97 both.1)

pub put_keeps : (part : Part) (line : List ℕ) → length (put part line) ≡ length line
put_keeps (text first t) line = put_text_length line first t
put_keeps (number first last v) line = put_number_length line first last v
put_keeps (blank first last) line = refl

put_elsewhere : (part : Part) → T (sound part) → (line : List ℕ) (j : ℕ) → (j < begin part) ⊎ (end part ≤ j) → get_or (put part line) j 0 ≡ get_or line j 0
put_elsewhere (text first t) s line j h = put_text_elsewhere line first t j h
put_elsewhere (number first last v) s line j h = let w = wide first last s in put_number_elsewhere line first last v (omega (arith, w.some)) j h
put_elsewhere (blank first last) s line j h = refl

-- What is put in stands there.
put_holds : (part : Part) → T (sound part) → Fits part → (line : List ℕ) → end part ≤ length line
    → ((k : ℕ) → begin part ≤ k → k < end part → get_or line k 0 ≡ 0x20) → Holds part (put part line)
put_holds (text first t) s fits line room empty = put_text_at_lem line first t room
put_holds (number first last v) s fits line room empty =
    let w = wide first last s in
    read_back line first last v w.one w.some room w.short fits
put_holds (blank first last) s fits line room empty = empty

module _ (a b : List ℕ) where
  abbrev Alike : ℕ → ℕ → Type 0
  Alike from to = (k : ℕ) → from ≤ k → k < to → get_or a k 0 ≡ get_or b k 0

  -- It stands in every line that has the same columns,
  holds_alike : (part : Part) → T (sound part) → Alike (begin part) (end part) → Holds part b → Holds part a
  holds_alike (text first t) s same holds = λ k h. same (first - 1 + k) (omega arith) (omega arith) ∙ holds k h
  holds_alike (number first last v) s same holds = let w = wide first last s in number_alike a b first last (omega (arith, w.some)) same ∙ holds
  holds_alike (blank first last) s same holds = λ k low high. same k low high ∙ holds k low high

  -- and it fixes them.
  holds_same : (part : Part) → T (sound part) → Holds part a → Holds part b → Alike (begin part) (end part)
  holds_same (text first t) s p q k low high =
      let place : first - 1 + (k - (first - 1)) ≡ k = omega arith in
      rw place at (p (k - (first - 1)) (omega arith) ∙ sym (q (k - (first - 1)) (omega arith)))
  holds_same (number first last v) s p q k low high =
      let w = wide first last s in
      same_digits a b first last (omega (arith, w.some, w.one)) w.short v p q k low high
  holds_same (blank first last) s p q k low high = p k low high ∙ sym (q k low high)

-- A part that stands in both lines, or all of whose columns are free.
abbrev pub Shared : (ℕ → Bool) → List ℕ → List ℕ → Part → Type 0
Shared free a b part = (Holds part a × Holds part b) ⊎ ((k : ℕ) → begin part ≤ k → k < end part → free (k + 1) ≡ true)

holds_plain : (a : List ℕ) (part : Part) → T (sound part) → Holds part a → (k : ℕ) → begin part ≤ k → k < end part → Plain (get_or a k 0)
holds_plain a (text first t) s p k low high =
    let place : first - 1 + (k - (first - 1)) ≡ k = omega arith in
    let same = rw place at (p (k - (first - 1)) (omega arith)) in
    rw same (plain_at t s (k - (first - 1)) (omega arith))
holds_plain a (number first last v) s p k low high =
    let w = wide first last s in
    let digits = number_digits a first last (omega (arith, w.some, w.one)) w.short v p k low high in
    (omega arith, omega arith)
holds_plain a (blank first last) s p k low high = let e = p k low high in (omega arith, omega arith)

-- A number that stands in its columns had room there.
holds_fit : (part : Part) (line : List ℕ) → Holds part line → Fits part
holds_fit (text first t) line holds = tt
holds_fit (number first last v) line holds = number_below line first last v holds
holds_fit (blank first last) line holds = tt

-- ---- all parts
all_fit : (parts : List Part) (line : List ℕ) → AllHold parts line → AllFit parts
all_fit [] line holds = tt
all_fit (part ∷ parts) line holds = (holds_fit part line holds.0, all_fit parts line holds.1)

-- Parts that stand in both lines are shared.
pub all_shared : (free : ℕ → Bool) (a b : List ℕ) (parts : List Part) → AllHold parts a → AllHold parts b → AllOf (Shared free a b) parts
all_shared free a b [] p q = tt
all_shared free a b (part ∷ parts) p q = (inl (p.0, q.0), all_shared free a b parts p.1 q.1)

-- One part after the other.
pub put_none : (line : List ℕ) → put_all [] line ≡ line
unfolding put_all
put_none line = refl

pub put_first : (part : Part) (parts : List Part) (line : List ℕ) → put_all (part ∷ parts) line ≡ put_all parts (put part line)
unfolding put_all
put_first part parts line = refl

pub puts_keep : (parts : List Part) (line : List ℕ) → length (put_all parts line) ≡ length line
unfolding put_all
puts_keep [] line = refl
puts_keep (part ∷ parts) line = puts_keep parts (put part line) ∙ put_keeps part line

pub puts_append : (parts more : List Part) (line : List ℕ) → put_all (parts ++ more) line ≡ put_all more (put_all parts line)
unfolding put_all
puts_append [] more line = refl
puts_append (part ∷ parts) more line = puts_append parts more (put part line)

-- ---- parts that tile a line of n characters
module _ (n : ℕ) where
  -- The first of parts that tile, and the others.
  record Tiled (from : ℕ) (part : Part) (parts : List Part) : Type 0 where
    here : begin part ≡ from
    forward : from ≤ end part
    is_sound : T (sound part)
    rest : T (tiles n (end part) parts)

  tiled : (from : ℕ) (part : Part) (parts : List Part) → T (tiles n from (part ∷ parts)) → Tiled from part parts
  tiled from part parts t =
      let first = eqb (begin part) from in
      let order = leb from (end part) in
      let front = both_left (first && order && sound part) (tiles n (end part) parts) t in
      let columns = both_hold first order (is_true _ (both_left (first && order) (sound part) front)) in
      record {
        here = eqb-true (begin part) from columns.0;
        forward = leb-true from (end part) columns.1;
        is_sound = both_right (first && order) (sound part) front;
        rest = both_right (first && order && sound part) (tiles n (end part) parts) t;
      }

  tiles_end : (from : ℕ) (parts : List Part) → T (tiles n from parts) → from ≤ n
  tiles_end from [] t = omega (arith, eqb-true from n (is_true _ t))
  tiles_end from (part ∷ parts) t =
      let p = tiled from part parts t in
      omega (arith, p.forward, tiles_end (end part) parts p.rest)

  -- Parts that are put in from a place on leave what stands before it.
  puts_before : (parts : List Part) (from : ℕ) → T (tiles n from parts) → (line : List ℕ) (k : ℕ) → k < from → get_or (put_all parts line) k 0 ≡ get_or line k 0
  unfolding put_all
  puts_before [] from t line k h = refl
  puts_before (part ∷ parts) from t line k h =
      let p = tiled from part parts t in
      puts_before parts (end part) p.rest (put part line) k (omega (arith, p.forward))
      ∙ put_elsewhere part p.is_sound line k (inl (omega (arith, p.here)))

  -- All of them stand in the line, where it was blank from that place on.
  puts_hold : (parts : List Part) (from : ℕ) → T (tiles n from parts) → AllFit parts → (line : List ℕ) → length line ≡ n
      → ((k : ℕ) → from ≤ k → k < n → get_or line k 0 ≡ 0x20) → AllHold parts (put_all parts line)
  unfolding put_all
  puts_hold [] from t fit line long empty = tt
  puts_hold (part ∷ parts) from t fit line long empty =
      let p = tiled from part parts t in
      let next = put part line in
      let ends = tiles_end (end part) parts p.rest in
      let here =
      put_holds part p.is_sound fit.0 line (omega arith) (λ k low high. empty k (omega (arith, p.here)) (omega arith)) in
      let rest =
      puts_hold parts (end part) p.rest fit.1 next (put_keeps part line ∙ long)
      (λ k low high. put_elsewhere part p.is_sound line k (inr low) ∙ empty k (omega (arith, p.forward)) high) in
      (holds_alike (put_all parts next) next part p.is_sound (λ k low high. puts_before parts (end part) p.rest next k high) here, rest)

  -- What holds of each place of every part holds of each place from `from` on.
  module _ (P : ℕ → Type 0) (Q : Part → Type 0) (each : (part : Part) → T (sound part) → Q part → (k : ℕ) → begin part ≤ k → k < end part → P k) where
    everywhere : (parts : List Part) (from : ℕ) → T (tiles n from parts) → AllOf Q parts → (k : ℕ) → from ≤ k → k < n → P k
    everywhere [] from t all k low high = absurd (omega (arith, eqb-true from n (is_true _ t)))
    everywhere (part ∷ parts) from t all k low high =
        at_place (ltb k (end part)) refl (everywhere parts (end part) (tiled from part parts t).rest all.1 k) where
          at_place : (before : Bool) → ltb k (end part) ≡ before → (end part ≤ k → k < n → P k) → P k
          at_place true e later =
              let first = tiled from part parts t in
              each part first.is_sound all.0 k (omega (arith, first.here)) (ltb-true k (end part) e)
          at_place false e later = later (ltb-false k (end part) e) high

  -- ---- the record
  module _ (parts : List Part) (t : T (tiles n 0 parts)) (fit : AllFit parts) where
    pub record_length : length (line_of n parts) ≡ n
    record_length = puts_keep parts (blanks n) ∙ length-replicate {A = ℕ} n 0x20

    -- Each part stands in the record,
    pub record_holds : AllHold parts (line_of n parts)
    record_holds = puts_hold parts 0 t fit (blanks n) (length-replicate {A = ℕ} n 0x20) (λ k low high. get_or-replicate {A = ℕ} n k 0x20 0 high)

    -- and its characters are read as they stand.
    pub record_plain : (k : ℕ) → k < n → Plain (get_or (line_of n parts) k 0)
    record_plain k h =
        everywhere (λ j. Plain (get_or (line_of n parts) j 0)) (λ part. Holds part (line_of n parts)) (holds_plain (line_of n parts)) parts 0 t record_holds k (omega arith) h

  -- Two lines of its length that share each part are the same in every column that is not free.
  module _ (free : ℕ → Bool) (a b : List ℕ) (long : length a ≡ n) (long' : length b ≡ n) (parts : List Part) (t : T (tiles n 0 parts))
      (shared : AllOf (Shared free a b) parts) where
    each_shared : (part : Part) → T (sound part) → Shared free a b part → (k : ℕ) → begin part ≤ k → k < end part → free (k + 1) ≡ false
        → get_or a k 0 ≡ get_or b k 0
    each_shared part s (inl both) k low high e = holds_same a b part s both.0 both.1 k low high
    each_shared part s (inr all) k low high e = absurd (false≢true (sym e ∙ all k low high))

    pub shared_alike : (k : ℕ) → free (k + 1) ≡ false → get_or a k 0 ≡ get_or b k 0
    shared_alike k = at (ltb k n) refl where
      at : (inside : Bool) → ltb k n ≡ inside → free (k + 1) ≡ false → get_or a k 0 ≡ get_or b k 0
      at true e =
          everywhere (λ j. free (j + 1) ≡ false → get_or a j 0 ≡ get_or b j 0) (Shared free a b) each_shared parts 0 t shared k (omega arith) (ltb-true k n e)
      at false e = λ shown. let past = ltb-false k n e in past_end a k (omega arith) ∙ sym (past_end b k (omega arith))

  -- No other line of its length holds all parts.
  pub record_only : (parts : List Part) → T (tiles n 0 parts) → (line : List ℕ) → length line ≡ n → AllHold parts line → line ≡ line_of n parts
  record_only parts t line long holds =
      let same = line_of n parts in
      let fit = all_fit parts line holds in
      ext_get_or 0 line same (long ∙ sym (record_length parts t fit))
      (λ k h. everywhere (λ j. get_or line j 0 ≡ get_or same j 0) (λ part. Holds part line × Holds part same)
      (λ part s both. holds_same line same part s both.0 both.1) parts 0 t
      (all_both (λ part. Holds part line) (λ part. Holds part same) parts holds (record_holds parts t fit)) k (omega arith) (omega arith))
