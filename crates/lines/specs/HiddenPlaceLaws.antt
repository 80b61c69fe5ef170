-- Laws: files that are equal but for hidden columns of the first one's lines have lines that are changed alike;
-- and files whose lines are changed alike are equal so.
use Rattle.std.specs.Prelude.{ℕ, zero, suc, ◌+◌, ◌-◌, ◌≤◌, ◌<◌, Bool, ◌≡◌, ltb, get_or, drop}
use Rattle.std.proofs.Math.Bool.{true, false}
use Rattle.std.proofs.lemmas.Bool.{false≢true}
use mathlib.Core.List.{List, [], ◌∷◌, map}
use Rattle.std.proofs.Math.Path.{refl, sym, ap}
use Rattle.std.proofs.Common.{◌∙◌, lt-ltb, le-ltb, ltb-true, ltb-false, length-drop, get_or-drop, get_or-append-add}
use native.Mathlib.Omega.{arith}
use Rattle.std.proofs.Math.ListN.{length, length-append, get_or-eq_default, get_or-append, get_or-map}
use Rattle.std.proofs.lemmas.List.{length-map}
use Rattle.std.proofs.Math.Seq.{ext_get_or}
use Rattle.lines.specs.Changed.{text_no_end, only_end, outline, alike_cut, bytes_of}
use Rattle.lines.specs.HiddenPlaces.{hidden_in, hidden, EqualBut, Hides, MayHold, has_no_end, Keeps}
use Rattle.lines.specs.Laws.{text_at, size_positive, lines_nil, lines_cons, lines_joined}
use Rattle.lines.specs.Lines.{Line, is_end, text_of, first_line, size_of, lines_of, joined}

-- ---- line by line
abbrev first_size : List ℕ → ℕ
first_size s = size_of (first_line s)

-- What holds of no bytes, and of bytes wherever it holds after their first line, holds of every file.
by_lines : (P : List ℕ → Type 0) → P [] → ((s : List ℕ) → 0 < length s → P (drop (first_size s) s) → P s) → (s : List ℕ) → P s
by_lines P none more s = within (length s) s (omega arith) where
  within : (n : ℕ) (s : List ℕ) → length s ≤ n → P s
  within zero [] h = none
  within zero (b ∷ s) h = absurd (omega arith)
  within (suc n) [] h = none
  within (suc n) (b ∷ s) h =
      let some = size_positive (b ∷ s) (omega arith) in
      more (b ∷ s) (omega arith) (within n (drop (first_size (b ∷ s)) (b ∷ s)) (rw (length-drop (first_size (b ∷ s)) (b ∷ s)) (omega arith)))

-- A place is one of the first n, or after them.
by_place : (n : ℕ) (P : ℕ → Type 0) → ((at : ℕ) → at < n → P at) → ((at : ℕ) → P (n + at)) → (at : ℕ) → P at
by_place n P among behind at = by (ltb at n) refl where
  by : (t : Bool) → ltb at n ≡ t → P at
  by true e = among at (ltb-true at n e)
  by false e =
      let far = ltb-false at n e in
      let place : n + (at - n) ≡ at = omega arith in
      rw place at (behind (at - n))

-- In a text without ends no place has one.
none_at : (text : List ℕ) → has_no_end text → (at : ℕ) → at < length text → is_end (get_or text at 0) ≡ false
none_at [] none at h = absurd (omega arith)
none_at (b ∷ text) none zero h = none.0
none_at (b ∷ text) none (suc at) h = none_at text none.1 at (omega arith)

-- ---- a place in the first of some lines, or after it
module _ (line : Line) (lines : List Line) where
  sized : length (bytes_of line) ≡ size_of line
  sized = length-append line.text line.ending

  joined_first : (at : ℕ) → at < size_of line → get_or (joined (line ∷ lines)) at 0 ≡ get_or (bytes_of line) at 0
  unfolding joined
  joined_first at h = get_or-append (bytes_of line) (joined lines) 0 at (omega (arith, sized))

  joined_behind : (at : ℕ) → get_or (joined (line ∷ lines)) (size_of line + at) 0 ≡ get_or (joined lines) at 0
  unfolding joined
  joined_behind at = rw (← sized) (get_or-append-add (bytes_of line) (joined lines) at 0)

module _ (hides : Line → ℕ → Bool) where
  module _ (line : Line) (lines : List Line) where
    first_hidden : (at : ℕ) → at < size_of line → hidden_in hides (line ∷ lines) at ≡ hides line (at + 1)
    unfolding hidden_in
    first_hidden at h = rw (lt-ltb at (size_of line) h)

    behind_hidden : (at : ℕ) → hidden_in hides (line ∷ lines) (size_of line + at) ≡ hidden_in hides lines at
    unfolding hidden_in
    behind_hidden at =
        let place : size_of line + at - size_of line ≡ at = omega arith in
        rw (le-ltb (size_of line + at) (size_of line) (omega arith), place)

  none_hidden : (at : ℕ) → hidden_in hides [] at ≡ false
  unfolding hidden_in
  none_hidden at = refl

  -- The same of the first line of a file.
  module _ (s : List ℕ) (some : 0 < length s) where
    hidden_first : (at : ℕ) → at < first_size s → hidden hides s at ≡ hides (first_line s) (at + 1)
    hidden_first at h = rw (lines_cons s some) (first_hidden (first_line s) (lines_of (drop (first_size s) s)) at h)

    hidden_behind : (at : ℕ) → hidden hides s (first_size s + at) ≡ hidden hides (drop (first_size s) s) at
    hidden_behind at = rw (lines_cons s some) (behind_hidden (first_line s) (lines_of (drop (first_size s) s)) at)

  -- Where columns of the text alone are hidden, no end is.
  module _ (in_text : (line : Line) (column : ℕ) → hides line column ≡ true → column ≤ length line.text) where
    hidden_no_end : (s : List ℕ) (at : ℕ) → hidden hides s at ≡ true → is_end (get_or s at 0) ≡ false
    hidden_no_end = by_lines Holds nothing step where
      Holds : List ℕ → Type 0
      Holds s = (at : ℕ) → hidden hides s at ≡ true → is_end (get_or s at 0) ≡ false

      nothing : Holds []
      nothing at e = absurd (false≢true (sym (rw lines_nil (none_hidden at)) ∙ e))

      step : (s : List ℕ) → 0 < length s → Holds (drop (first_size s) s) → Holds s
      step s some rest = by_place (first_size s) (λ (at : ℕ). hidden hides s at ≡ true → is_end (get_or s at 0) ≡ false) among behind where
        among : (at : ℕ) → at < first_size s → hidden hides s at ≡ true → is_end (get_or s at 0) ≡ false
        among at h e =
            let column = in_text (first_line s) (at + 1) (sym (hidden_first s some at h) ∙ e) in
            ap is_end (sym (text_at s at (omega arith))) ∙ none_at (text_of s) (text_no_end s) at (omega arith)

        behind : (at : ℕ) → hidden hides s (first_size s + at) ≡ true → is_end (get_or s (first_size s + at) 0) ≡ false
        behind at e = ap is_end (sym (get_or-drop (first_size s) s at 0)) ∙ rest at (sym (hidden_behind s some at) ∙ e)

-- ---- two files
module _ (hides : Line → ℕ → Bool) (may : ℕ → Bool) where
  -- What is equal but for hidden columns is so after the first line,
  equal_behind : (one other : List ℕ) → 0 < length one → EqualBut hides may one other
      → EqualBut hides may (drop (first_size one) one) (drop (first_size one) other)
  equal_behind one other some equal =
      let size = first_size one in
      record {
        long = length-drop size one ∙ ap (λ (n : ℕ). n - size) equal.long ∙ sym (length-drop size other);
        elsewhere = λ at e. get_or-drop size one at 0 ∙ equal.elsewhere (size + at) (hidden_behind hides one some at ∙ e) ∙ sym (get_or-drop size other at 0);
        there = λ at e. ap may (get_or-drop size other at 0) ∙ equal.there (size + at) (hidden_behind hides one some at ∙ e);
      }

  -- and in the text of the first line, where that of the other is as long.
  texts_equal : (one other : List ℕ) → 0 < length one → EqualBut hides may one other → length (text_of one) ≡ length (text_of other)
      → (at : ℕ) → hides (first_line one) (at + 1) ≡ false → get_or (text_of one) at 0 ≡ get_or (text_of other) at 0
  texts_equal one other some equal long at e = by (ltb at (length (text_of one))) refl where
    by : (t : Bool) → ltb at (length (text_of one)) ≡ t → get_or (text_of one) at 0 ≡ get_or (text_of other) at 0
    by true t =
        let h = ltb-true at (length (text_of one)) t in
        text_at one at h ∙ equal.elsewhere at (hidden_first hides one some at (omega arith) ∙ e) ∙ sym (text_at other at (omega arith))
    by false t =
        let h = ltb-false at (length (text_of one)) t in
        get_or-eq_default (text_of one) 0 h ∙ sym (get_or-eq_default (text_of other) 0 (omega arith))

  module _ (no_end : (c : ℕ) → may c ≡ true → is_end c ≡ false) (change : Line → Line) (does : Hides hides change) where
    -- Both have their ends in the same places: in a hidden one neither has any.
    same_outline : (one other : List ℕ) → EqualBut hides may one other → outline one ≡ outline other
    unfolding only_end
    same_outline one other equal =
        ext_get_or (only_end 0) (outline one) (outline other) (length-map one only_end ∙ equal.long ∙ sym (length-map other only_end))
        (λ at h. get_or-map only_end one at 0 ∙ by at (hidden hides one at) refl ∙ sym (get_or-map only_end other at 0)) where
          by : (at : ℕ) (t : Bool) → hidden hides one at ≡ t → only_end (get_or one at 0) ≡ only_end (get_or other at 0)
          by at true e = rw (hidden_no_end hides does.in_text one at e, no_end (get_or other at 0) (equal.there at e))
          by at false e = ap only_end (equal.elsewhere at e)

    -- So they are cut alike, and the change makes the same lines of both.
    pub equal_changed : (one other : List ℕ) → EqualBut hides may one other → map change (lines_of one) ≡ map change (lines_of other)
    equal_changed = by_lines Holds nothing step where
      Holds : List ℕ → Type 0
      Holds one = (other : List ℕ) → EqualBut hides may one other → map change (lines_of one) ≡ map change (lines_of other)

      nothing : Holds []
      nothing [] equal = refl
      nothing (b ∷ other) equal = absurd (omega (arith, equal.long))

      step : (one : List ℕ) → 0 < length one → Holds (drop (first_size one) one) → Holds one
      step one some rest other equal =
          let cut = alike_cut one other (same_outline one other equal) in
          let long : length (text_of one) ≡ length (text_of other) = ap (λ (p : ℕ × List ℕ). p.0) cut in
          let ending : (first_line one).ending ≡ (first_line other).ending = ap (λ (p : ℕ × List ℕ). p.1) cut in
          let size : first_size one ≡ first_size other = omega (arith, ap length ending) in
          let first = does.nothing_left (first_line one) (first_line other) long ending (texts_equal one other some equal long) in
          let behind = rest (drop (first_size one) other) (equal_behind one other some equal) in
          rw (lines_cons one some, lines_cons other (omega (arith, equal.long)), first, behind, size)

-- ---- and back: files that are changed to the same lines are equal but for the hidden columns
module _ (hides : Line → ℕ → Bool) (may : ℕ → Bool) (change : Line → Line) (keeps : Keeps change) (does : Hides hides change) where
  module _ (one other : Line) (same : change one ≡ change other) where
    same_long : length one.text ≡ length other.text
    same_long = sym (keeps.long one) ∙ ap (λ (line : Line). length line.text) same ∙ keeps.long other

    same_ending : one.ending ≡ other.ending
    same_ending = sym (keeps.ends one) ∙ ap (λ (line : Line). line.ending) same ∙ keeps.ends other

    same_size : size_of one ≡ size_of other
    same_size = omega (arith, same_long, ap length same_ending)

    bytes_equal : (at : ℕ) → hides one (at + 1) ≡ false → get_or (bytes_of one) at 0 ≡ get_or (bytes_of other) at 0
    bytes_equal = by_place (length one.text) (λ (at : ℕ). hides one (at + 1) ≡ false → get_or (bytes_of one) at 0 ≡ get_or (bytes_of other) at 0) among behind where
      among : (at : ℕ) → at < length one.text → hides one (at + 1) ≡ false → get_or (bytes_of one) at 0 ≡ get_or (bytes_of other) at 0
      among at h e =
          get_or-append one.text one.ending 0 at h
          ∙ sym (does.others_stay one at e) ∙ ap (λ (line : Line). get_or line.text at 0) same
          ∙ does.others_stay other at (sym (does.columns_told one other same (at + 1)) ∙ e)
          ∙ sym (get_or-append other.text other.ending 0 at (omega (arith, same_long)))

      behind : (at : ℕ) → hides one (length one.text + at + 1) ≡ false
          → get_or (bytes_of one) (length one.text + at) 0 ≡ get_or (bytes_of other) (length one.text + at) 0
      behind at e =
          get_or-append-add one.text one.ending at 0 ∙ ap (λ (end : List ℕ). get_or end at 0) same_ending
          ∙ sym (rw same_long (get_or-append-add other.text other.ending at 0))

  -- Line by line: as long, with the same places hidden, and with equal bytes elsewhere.
  lines_long : (ones others : List Line) → map change ones ≡ map change others → length (joined ones) ≡ length (joined others)
  unfolding joined
  lines_long [] [] same = refl
  lines_long [] (other ∷ others) same = absurd (omega (arith, ap length same))
  lines_long (one ∷ ones) [] same = absurd (omega (arith, ap length same))
  lines_long (one ∷ ones) (other ∷ others) same =
      let first : change one ≡ change other = cc in
      let rest = lines_long ones others (cc) in
      simp length-append (omega (arith, same_size one other first))

  lines_hidden : (ones others : List Line) → map change ones ≡ map change others → (at : ℕ) → hidden_in hides ones at ≡ hidden_in hides others at
  unfolding hidden_in
  lines_hidden [] [] same at = refl
  lines_hidden [] (other ∷ others) same at = absurd (omega (arith, ap length same))
  lines_hidden (one ∷ ones) [] same at = absurd (omega (arith, ap length same))
  lines_hidden (one ∷ ones) (other ∷ others) same at =
      let first : change one ≡ change other = cc in
      rw (same_size one other first, does.columns_told one other first (at + 1), lines_hidden ones others (cc) (at - size_of other))

  lines_equal : (ones others : List Line) → map change ones ≡ map change others
      → (at : ℕ) → hidden_in hides ones at ≡ false → get_or (joined ones) at 0 ≡ get_or (joined others) at 0
  lines_equal [] [] same = λ at e. refl
  lines_equal [] (other ∷ others) same = absurd (omega (arith, ap length same))
  lines_equal (one ∷ ones) [] same = absurd (omega (arith, ap length same))
  lines_equal (one ∷ ones) (other ∷ others) same =
      by_place (size_of one) (λ (at : ℕ). hidden_in hides (one ∷ ones) at ≡ false → get_or (joined (one ∷ ones)) at 0 ≡ get_or (joined (other ∷ others)) at 0)
      among (behind (lines_equal ones others (cc))) where
        first : change one ≡ change other
        first = cc

        among : (at : ℕ) → at < size_of one → hidden_in hides (one ∷ ones) at ≡ false → get_or (joined (one ∷ ones)) at 0 ≡ get_or (joined (other ∷ others)) at 0
        among at h e =
            joined_first one ones at h ∙ bytes_equal one other first at (sym (first_hidden hides one ones at h) ∙ e)
            ∙ sym (joined_first other others at (omega (arith, same_size one other first)))

        behind : ((at : ℕ) → hidden_in hides ones at ≡ false → get_or (joined ones) at 0 ≡ get_or (joined others) at 0)
            → (at : ℕ) → hidden_in hides (one ∷ ones) (size_of one + at) ≡ false
            → get_or (joined (one ∷ ones)) (size_of one + at) 0 ≡ get_or (joined (other ∷ others)) (size_of one + at) 0
        behind rest at e =
            joined_behind one ones at ∙ rest at (sym (behind_hidden hides one ones at) ∙ e)
            ∙ sym (rw (same_size one other first) (joined_behind other others at))

  -- What lines may hold in their hidden columns, they may hold in their hidden places.
  lines_hold : (lines : List Line) → MayHold hides may lines → (at : ℕ) → hidden_in hides lines at ≡ true → may (get_or (joined lines) at 0) ≡ true
  lines_hold [] all = λ at e. absurd (false≢true (sym (none_hidden hides at) ∙ e))
  lines_hold (line ∷ lines) all =
      by_place (size_of line) (λ (at : ℕ). hidden_in hides (line ∷ lines) at ≡ true → may (get_or (joined (line ∷ lines)) at 0) ≡ true)
      among (behind (lines_hold lines all.1)) where
        among : (at : ℕ) → at < size_of line → hidden_in hides (line ∷ lines) at ≡ true → may (get_or (joined (line ∷ lines)) at 0) ≡ true
        among at h e =
            let is = sym (first_hidden hides line lines at h) ∙ e in
            let column = does.in_text line (at + 1) is in
            ap may (joined_first line lines at h ∙ get_or-append line.text line.ending 0 at (omega arith)) ∙ all.0 at is

        behind : ((at : ℕ) → hidden_in hides lines at ≡ true → may (get_or (joined lines) at 0) ≡ true)
            → (at : ℕ) → hidden_in hides (line ∷ lines) (size_of line + at) ≡ true → may (get_or (joined (line ∷ lines)) (size_of line + at) 0) ≡ true
        behind rest at e = ap may (joined_behind line lines at) ∙ rest at (sym (behind_hidden hides line lines at) ∙ e)

  pub changed_equal : (one other : List ℕ) → map change (lines_of one) ≡ map change (lines_of other) → MayHold hides may (lines_of other)
      → EqualBut hides may one other
  changed_equal one other same all =
      let ones = lines_of one in
      let others = lines_of other in
      record {
        long = ap length (sym (lines_joined one)) ∙ lines_long ones others same ∙ ap length (lines_joined other);
        elsewhere =
            λ at e. ap (λ (s : List ℕ). get_or s at 0) (sym (lines_joined one)) ∙ lines_equal ones others same at e
            ∙ ap (λ (s : List ℕ). get_or s at 0) (lines_joined other);
        there =
            λ at e. ap (λ (s : List ℕ). may (get_or s at 0)) (sym (lines_joined other))
            ∙ lines_hold others all at (sym (lines_hidden ones others same at) ∙ e);
      }
