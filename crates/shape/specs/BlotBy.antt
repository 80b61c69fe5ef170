-- Laws: lines with some columns blotted out, whatever columns they are: where they are told by the columns that are left, blotting hides them and no others.
use Rattle.std.specs.Prelude.{ℕ, ◌+◌, ◌≤◌, Bool, true, false, ◌≡◌, refl, length, get_or}
use Rattle.std.proofs.Common.{sym, ap, ◌∙◌, arith}
use Rattle.lines.specs.HiddenPlaces.{Hides, Keeps}
use Rattle.lines.specs.Lines.{Line}
use Rattle.shape.specs.Blot.{blot_length, blot_no_end, blot_at, blot_shown, blot_told}
use Rattle.shape.specs.Hidden.{blot_from}

module _ (hides : Line → ℕ → Bool) where
  abbrev pub blot_by : Line → Line
  blot_by line = record { text = blot_from (hides line) 1 line.text; ending = line.ending }

  pub by_keeps : Keeps blot_by
  by_keeps =
      record {
        long = λ line. blot_length (hides line) 1 line.text;
        ends = λ line. refl;
        no_end = λ line. blot_no_end (hides line) 1 line.text;
      }

  -- The columns are columns of the text; and lines as long that are the same in all others have the same.
  module _ (in_text : (line : Line) (column : ℕ) → hides line column ≡ true → column ≤ length line.text)
      (told : (one other : Line) → length one.text ≡ length other.text → ((at : ℕ) → hides one (at + 1) ≡ false → get_or one.text at 0 ≡ get_or other.text at 0)
      → (column : ℕ) → hides one column ≡ hides other column) where
    others_stay : (line : Line) (at : ℕ) → hides line (at + 1) ≡ false → get_or (blot_by line).text at 0 ≡ get_or line.text at 0
    others_stay line at e = blot_at (hides line) line.text 1 at (let p : 1 + at ≡ at + 1 = omega arith in rw p e)

    nothing_left : (one other : Line) → length one.text ≡ length other.text → one.ending ≡ other.ending
        → ((at : ℕ) → hides one (at + 1) ≡ false → get_or one.text at 0 ≡ get_or other.text at 0) → blot_by one ≡ blot_by other
    nothing_left one other long ending same =
        let text = blot_shown (hides one) 1 one.text other.text long (λ at e. same at (let p : at + 1 ≡ 1 + at = omega arith in rw p e))
        ∙ blot_told (hides one) (hides other) (told one other long same) 1 other.text in
        λ i. record { text = text i; ending = ending i }

    -- A blotted line still tells them.
    still_told : (line : Line) (column : ℕ) → hides line column ≡ hides (blot_by line) column
    still_told line column = told line (blot_by line) (sym (blot_length (hides line) 1 line.text)) (λ at e. sym (others_stay line at e)) column

    pub columns_told : (one other : Line) → blot_by one ≡ blot_by other → (column : ℕ) → hides one column ≡ hides other column
    columns_told one other same column =
        still_told one column ∙ ap (λ (line : Line). hides line column) same ∙ sym (still_told other column)

    pub by_hides : Hides hides blot_by
    by_hides = record { in_text = in_text; nothing_left = nothing_left; others_stay = others_stay; columns_told = columns_told }
