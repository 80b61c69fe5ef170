-- Laws: the lines of a file with some of their characters changed: no line moves,
-- and files whose changed lines make the same bytes have the same changed lines.
use Prim.Native.Nat.{ℕ, zero, suc, ◌-◌, ◌<◌}
use Rattle.std.specs.Prelude.{Bool, true, false, ◌||◌, ◌≡◌, eqb, take, drop, replicate, if◌then◌else◌}
use mathlib.Core.List.{List, [], ◌∷◌, ◌++◌, map, map-append, append_assoc}
use Rattle.std.proofs.Math.Path.{refl, ap}
use Rattle.std.proofs.Common.{sym, ◌∙◌, arith}
use Rattle.std.proofs.Math.ListN.{length, length-append}
use Rattle.std.proofs.Math.Seq.{take-append_seam, drop_at}
use Rattle.lines.specs.Lines.{Line, is_end, text_of, line_feed, end_of, first_line, size_of, lines_from, lines_of, joined}
use Rattle.lines.specs.Laws.{text_in_front, size_positive, lines_cons, lines_joined}
use Rattle.lines.specs.HiddenPlaces.{has_no_end, Keeps}

-- A character that stays or gives way to a blank is no end.
pub blank_no_end : (blank : Bool) (b : ℕ) → is_end b ≡ false → is_end (if blank then 32 else b) ≡ false
unfolding is_end
blank_no_end true b e = refl
blank_no_end false b e = e

-- The text of a line holds no end.
pub text_no_end : (s : List ℕ) → has_no_end (text_of s)
unfolding text_of
text_no_end [] = tt
text_no_end (b ∷ s) = at (is_end b) refl (text_no_end s) where
  at : (t : Bool) → is_end b ≡ t → has_no_end (text_of s) → has_no_end (if t then [] else b ∷ text_of s)
  at true e h = tt
  at false e h = (e, h)

-- ---- the outline of bytes: each end where it stands, and 0 in place of any other byte. A file is cut by its outline alone.
unfoldable pub only_end : ℕ → ℕ
only_end b = if is_end b then b else 0

abbrev pub outline : List ℕ → List ℕ
outline s = map only_end s

-- Of a text without ends only its length is left.
no_end_outline : (text : List ℕ) → has_no_end text → outline text ≡ replicate (length text) 0
unfolding only_end
no_end_outline [] h = refl
no_end_outline (b ∷ text) h = rw h.0 (ap (λ (l : List ℕ). 0 ∷ l) (no_end_outline text h.1))

texts_outline : (a b : List ℕ) → has_no_end a → has_no_end b → length a ≡ length b → outline a ≡ outline b
texts_outline a b h k e = no_end_outline a h ∙ ap (λ (n : ℕ). replicate n 0) e ∙ sym (no_end_outline b k)

-- A byte and its outline are the same end, or both none.
same_end : (b : ℕ) → (eqb (only_end b) 10 ≡ eqb b 10) × (eqb (only_end b) 13 ≡ eqb b 13)
unfolding only_end is_end
same_end b = at (eqb b 10) (eqb b 13) refl refl where
  at : (t u : Bool) → eqb b 10 ≡ t → eqb b 13 ≡ u → (eqb (if t || u then b else 0) 10 ≡ t) × (eqb (if t || u then b else 0) 13 ≡ u)
  at true u e f = (e, f)
  at false true e f = (e, f)
  at false false e f = (refl, refl)

is_same_end : (b : ℕ) → is_end (only_end b) ≡ is_end b
unfolding is_end
is_same_end b = rw ((same_end b).0, (same_end b).1)

outline_feed : (s : List ℕ) → line_feed (outline s) ≡ line_feed s
outline_feed [] = refl
outline_feed (b ∷ s) = rw (same_end b).0

outline_end : (s : List ℕ) → end_of (outline s) ≡ end_of s
unfolding end_of
outline_end [] = refl
outline_end (b ∷ s) = rw ((same_end b).0, (same_end b).1, outline_feed s)

-- Where the first line is cut: how long its text is, and its end.
abbrev pub cut_at : List ℕ → ℕ × List ℕ
cut_at s = (length (text_of s), (first_line s).ending)

-- Bytes are cut where their outline is.
outline_cut : (s : List ℕ) → cut_at (outline s) ≡ cut_at s
unfolding text_of
outline_cut [] = refl
outline_cut (b ∷ s) = at (is_end b) refl (outline_cut s) where
  at : (t : Bool) → is_end b ≡ t → cut_at (outline s) ≡ cut_at s → cut_at (outline (b ∷ s)) ≡ cut_at (b ∷ s)
  at true e h = rw (is_same_end b, e) (ap (λ (end : List ℕ). (0, end)) (outline_end (b ∷ s)))
  at false e h = rw (is_same_end b, e) (ap (λ (p : ℕ × List ℕ). (suc p.0, p.1)) h)

-- So bytes of one outline are cut alike.
pub alike_cut : (s t : List ℕ) → outline s ≡ outline t → cut_at s ≡ cut_at t
alike_cut s t e = sym (outline_cut s) ∙ ap cut_at e ∙ outline_cut t

-- Bytes put together have the outlines of their parts.
same_append : (a b c d : List ℕ) → outline a ≡ outline c → outline b ≡ outline d → outline (a ++ b) ≡ outline (c ++ d)
same_append a b c d e f = rw (map-append only_end a b, map-append only_end c d, e, f)

-- ---- changed lines
abbrev pub bytes_of : Line → List ℕ
bytes_of line = line.text ++ line.ending

module _ (change : Line → Line) (keeps : Keeps change) where
  -- A changed line has the outline of the line,
  line_outline : (line : Line) → has_no_end line.text → outline (bytes_of (change line)) ≡ outline (bytes_of line)
  line_outline line h =
      let text = texts_outline (change line).text line.text (keeps.no_end line h) h (keeps.long line) in
      same_append (change line).text (change line).ending line.text line.ending text (ap outline (keeps.ends line))

  -- and the changed lines, joined, have that of the file.
  lines_outline : (n : ℕ) (s : List ℕ) → outline (joined (map change (lines_from n s))) ≡ outline (joined (lines_from n s))
  unfolding lines_from joined
  lines_outline n [] = refl
  lines_outline zero (b ∷ s) =
      let line = first_line (b ∷ s) in
      let rest = lines_from (size_of line - 1) s in
      let first = line_outline line (text_no_end (b ∷ s)) in
      same_append (bytes_of (change line)) (joined (map change rest)) (bytes_of line) (joined rest) first (lines_outline (size_of line - 1) s)
  lines_outline (suc n) (b ∷ s) = lines_outline n s

  -- So the first line that is cut off them is the first line changed,
  first_changed : (s rest : List ℕ) → outline (bytes_of (change (first_line s)) ++ rest) ≡ outline s
      → first_line (bytes_of (change (first_line s)) ++ rest) ≡ change (first_line s)
  first_changed s rest e =
      let line = change (first_line s) in
      let t = bytes_of line ++ rest in
      let alike = alike_cut t s e in
      let long : length (text_of t) ≡ length line.text = ap (λ (p : ℕ × List ℕ). p.0) alike ∙ sym (keeps.long (first_line s)) in
      let front = ap (take (length line.text)) (append_assoc line.text line.ending rest) ∙ take-append_seam line.text (line.ending ++ rest) in
      let text = text_in_front t ∙ ap (λ (n : ℕ). take n t) long ∙ front in
      let ending = ap (λ (p : ℕ × List ℕ). p.1) alike ∙ sym (keeps.ends (first_line s)) in
      λ i. record { text = text i; ending = ending i }

  -- and so on: the lines of the changed lines, joined, are the changed lines.
  lines_changed : (n : ℕ) (s : List ℕ) → lines_of (joined (map change (lines_from n s))) ≡ map change (lines_from n s)
  unfolding lines_from joined
  lines_changed n [] = refl
  lines_changed zero (b ∷ s) =
      let line = change (first_line (b ∷ s)) in
      let size = size_of (first_line (b ∷ s)) in
      let rest = joined (map change (lines_from (size - 1) s)) in
      let t = bytes_of line ++ rest in
      let first = first_changed (b ∷ s) rest (lines_outline 0 (b ∷ s) ∙ ap outline (lines_joined (b ∷ s))) in
      let some : 0 < length t = rw (length-append, length-append, keeps.long, keeps.ends) (omega (arith, size_positive (b ∷ s) (omega arith))) in
      let behind = drop_at (bytes_of line) rest (size_of line) (length-append line.text line.ending) in
      lines_cons t some ∙ ap (λ (l : Line). l ∷ lines_of (drop (size_of l) t)) first
      ∙ ap (λ (lines : List Line). line ∷ lines) (ap lines_of behind ∙ lines_changed (size - 1) s)
  lines_changed (suc n) (b ∷ s) = lines_changed n s

-- Two files whose changed lines make the same bytes have the same changed lines.
pub changed_lines : (change : Line → Line) → Keeps change → (f g : List ℕ) → joined (map change (lines_of f)) ≡ joined (map change (lines_of g))
    → map change (lines_of f) ≡ map change (lines_of g)
changed_lines change keeps f g e = sym (lines_changed change keeps 0 f) ∙ ap lines_of e ∙ lines_changed change keeps 0 g
