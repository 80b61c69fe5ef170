-- Laws: a line that is made of characters and an end, with any bytes after it, is read back as that line.
use Rattle.std.specs.Prelude.{ℕ, zero, suc, ◌+◌, ◌<◌, ◌≤◌, Bool, true, false, ◌||◌, ◌≡◌, refl, eqb, length, get_or, take, drop, if◌then◌else◌}
use mathlib.Core.List.{List, [], ◌∷◌, ◌++◌}
use Rattle.std.proofs.Common.{ap, ◌∙◌, arith, ne_eqb, length-take-le}
use Rattle.std.proofs.Math.Seq.{drop-append_seam}
use Rattle.laws.specs.Finding.{value}
use Rattle.lines.specs.Cutting.{cutting}
use Rattle.lines.specs.Lines.{is_end, text_of, line_feed, end_of, first_line, size_of}
use Rattle.lines.specs.CutOutcomes.{takes}
use Rattle.lines.specs.LineEnds.{LineEnd, end_bytes, LF, CR, CRLF}

pub no_end_at : (b : ℕ) → 13 < b → is_end b ≡ false
unfolding is_end
no_end_at b h = rw (ne_eqb b 10 (λ e. omega arith), ne_eqb b 13 (λ e. omega arith))

-- ---- a line in front of bytes, by its length: n characters that are no ends, then an end
end_there : (b : ℕ) (s : List ℕ) → 1 ≤ length (end_of (b ∷ s)) → is_end b ≡ true
unfolding end_of is_end
end_there b s = at (eqb b 10) (eqb b 13) where
  at : (lf cr : Bool) → 1 ≤ length (if lf then 10 ∷ [] else if cr then 13 ∷ line_feed s else []) → lf || cr ≡ true
  at true cr h = refl
  at false true h = refl
  at false false h = absurd (omega arith)

pub text_before_end : (n : ℕ) (s : List ℕ) → ((k : ℕ) → k < n → 13 < get_or s k 0) → 1 ≤ length (end_of (drop n s)) → text_of s ≡ take n s
unfolding text_of
text_before_end zero [] none some = refl
text_before_end zero (b ∷ s) none some = rw (end_there b s some)
text_before_end (suc n) [] none some = refl
text_before_end (suc n) (b ∷ s) none some =
    rw (no_end_at b (none 0 (omega arith))) (ap (λ (l : List ℕ). b ∷ l) (text_before_end n s (λ k h. none (suc k) (omega arith)) some))

-- It is cut off there, with its end.
pub cut_before_end : (n : ℕ) (s : List ℕ) → n ≤ length s → ((k : ℕ) → k < n → 13 < get_or s k 0) → 1 ≤ length (end_of (drop n s))
    → cutting n (first_line s) ≡ value (n + length (end_of (drop n s)))
cut_before_end n s long none some =
    let text = text_before_end n s none some in
    let size : length (text_of s) ≡ n = ap length text ∙ length-take-le n s long in
    let ending : 1 ≤ length (end_of (drop (length (text_of s)) s)) = rw size some in
    takes n (first_line s) size ending ∙ rw size

-- ---- a line put together
-- An end stops the text, and is found there.
stops : (end : LineEnd) (rest : List ℕ) → text_of (end_bytes end ++ rest) ≡ []
unfolding text_of is_end
stops LF rest = refl
stops CR rest = refl
stops CRLF rest = refl

ends : (end : LineEnd) (rest : List ℕ) → 1 ≤ length (end_of (end_bytes end ++ rest))
unfolding end_of
ends LF rest = omega arith
ends CR rest = omega arith
ends CRLF rest = omega arith

module _ (end : LineEnd) (rest : List ℕ) where
  -- Where no character is an end, the text is that of the first line,
  pub made_text : (text : List ℕ) → ((k : ℕ) → k < length text → 13 < get_or text k 0) → text_of (text ++ (end_bytes end ++ rest)) ≡ text
  unfolding text_of
  made_text [] none = stops end rest
  made_text (b ∷ text) none =
      rw (no_end_at b (none 0 (omega arith))) (ap (λ (l : List ℕ). b ∷ l) (made_text text (λ k h. none (suc k) (omega arith))))

  -- and a text of n characters is cut off as a line.
  pub made_cut : (text : List ℕ) → ((k : ℕ) → k < length text → 13 < get_or text k 0)
      → cutting (length text) (first_line (text ++ (end_bytes end ++ rest))) ≡ value (size_of (first_line (text ++ (end_bytes end ++ rest))))
  made_cut text none =
      let bytes = text ++ (end_bytes end ++ rest) in
      let same = made_text text none in
      let ending : 1 ≤ length (end_of (drop (length (text_of bytes)) bytes)) = rw (same, drop-append_seam text (end_bytes end ++ rest)) (ends end rest) in
      takes (length text) (first_line bytes) (ap length same) ending
