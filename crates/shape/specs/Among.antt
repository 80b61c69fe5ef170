-- Laws: the verdict on a line among others, in every format: what it is made of, what holds where it passes or is refused,
-- and that neither the bytes after the line nor the part of them that is lent change it.
use Rattle.std.specs.Prelude.{ℕ, ◌≤◌, Bool, true, false, List, ◌≡◌, leb, length, take}
use Rattle.std.proofs.Common.{inl, inr, sym, ap, subst, ◌∙◌, le_of_eq, arith}
use Rattle.std.proofs.Math.Path.{refl}
use Rattle.laws.specs.Finding.{Finding, fine, broken, or_else, Reading, value, refused, finding_in}
use Rattle.lines.specs.Cutting.{cutting}
use Rattle.lines.specs.Lines.{Line, first_line, size_of}
use Rattle.lines.specs.CutOutcomes.{taken_is_size, refused_number}
use Rattle.lines.specs.Window.{lent_alike, lent_line}
use Rattle.lines.specs.Lent.{Lent}
use Rattle.chars.specs.Characters.{capitals}
use Rattle.chars.specs.CharacterLaws.{capitals_take}
use Rattle.edits.specs.Edit.{first_broken, AllFine}
use Rattle.edits.specs.EditLaws.{not_broken}
use Rattle.edits.specs.declared.Context.{Context}
use Rattle.edits.specs.declared.Phase.{Phase}
use Rattle.edits.specs.declared.Phase.TheVariants.{BeforeA, AfterA, EOpen, AfterT, AfterF}
use Rattle.edits.specs.declared.Seen.{Seen}
use Rattle.shape.specs.After.{phase_after, filed_after, open_after, used_after, totals_after}
use Rattle.shape.specs.EndOfInputLaws.{end_test, end_parts}
use Rattle.shape.specs.EndOfInput.{end_edits}
use Rattle.shape.specs.Fits.{Fits, Bounded}
use Rattle.shape.specs.Lawful.{Lawful}
use Rattle.shape.specs.Phases.{stands}
use Rattle.shape.specs.Shape.{Shape, refusal, passed, verdict_by, said_on, line_edits_by, judge_by, seen_by, judge_among_by}
use Rattle.shape.specs.Theorems.{not_passed, accepted_iff, refused_finds, line_parts, cut_refuses, taken_text}
use Rattle.shape.specs.declared.Said.{Said}

passes_as_lem : (f : Finding) (size : ℕ) (says : Said) (taken : ℕ) (said : Said) → verdict_by f size says ≡ passed taken said → (taken ≡ size) × (said ≡ says)
passes_as_lem fine size says taken said e = (cc, cc)
passes_as_lem (broken column number) size says taken said e = absurd (not_passed column number taken said e)

module _ (s : Shape) (here : Context) (seen : Seen) (line : Line) where
  pub judge_says_by : judge_by s here seen line ≡ verdict_by (first_broken (line_edits_by s here seen line)) (size_of line) (said_on s line)
  unfolding judge_by
  judge_says_by = refl

  -- Where a line passes, the bytes taken are its own, and the record says what stands in its columns.
  pub judged_size_by : (taken : ℕ) (said : Said) → judge_by s here seen line ≡ passed taken said → (taken ≡ size_of line) × (said ≡ said_on s line)
  judged_size_by taken said e = passes_as_lem (first_broken (line_edits_by s here seen line)) (size_of line) (said_on s line) taken said (sym judge_says_by ∙ e)

  text_fine : (taken : ℕ) (said : Said) → judge_by s here seen line ≡ passed taken said → AllFine (s.edits here seen (capitals line.text))
  text_fine taken said e = ((accepted_iff s here seen line).1 taken said e).1.1

module _ (s : Shape) (l : Lawful s) (here : Context) (seen : Seen) (line : Line) where
  -- ---- a line that passes
  module _ (taken : ℕ) (said : Said) (e : judge_by s here seen line ≡ passed taken said) where
    says : said_on s line ≡ said
    says = sym (judged_size_by s here seen line taken said e).1

    -- its record is in its place, has room, and says nothing too large;
    pub passed_fits_by : Fits s here said
    passed_fits_by = subst (Fits s here) says (l.fits here seen (capitals line.text) (text_fine s here seen line taken said e))

    pub passed_bounded_by : Bounded s said
    passed_bounded_by = subst (Bounded s) says (l.bounded (capitals line.text))

    -- and no clause of 72 comes to hold after it.
    pub quarter_kept_by : s.quarter_unfit here.phase here.held here.filed ≡ false
        → s.quarter_unfit (phase_after said here.phase) here.held (filed_after said here.filed) ≡ false
    quarter_kept_by fit =
        subst (λ (x : Said). s.quarter_unfit (phase_after x here.phase) here.held (filed_after x here.filed) ≡ false) says
        (l.quarter_kept here seen (capitals line.text) (text_fine s here seen line taken said e) fit)

    pub more_kept_by : (ids used : ℕ) → here.ids_full ≡ leb ids used → s.unfit_more ids used (stands EOpen here.phase) here.all here.open ≡ false
        → s.unfit_more ids (used_after said used) (stands EOpen (phase_after said here.phase)) (totals_after said here.all) (open_after said here.open) ≡ false
    more_kept_by ids used full fit =
        subst (λ (x : Said). s.unfit_more ids (used_after x used) (stands EOpen (phase_after x here.phase)) (totals_after x here.all) (open_after x here.open) ≡ false) says
        (l.more_kept here seen (capitals line.text) ids used full (text_fine s here seen line taken said e) fit)

    -- It has at least one character.
    pub passed_positive_by : 1 ≤ size_of line
    passed_positive_by = at (cutting s.length line) refl where
      at : (r : Reading) → cutting s.length line ≡ r → 1 ≤ size_of line
      at (refused column number) c = absurd (not_passed column number taken said (sym (cut_refuses s here seen line column number c) ∙ e))
      at (value bytes) c = let text = (taken_is_size s.length bytes line c).0 in omega (arith, l.some)

    -- It is as long as the format's lines are.
    pub passed_length_by : length line.text ≡ s.length
    passed_length_by = at (cutting s.length line) refl where
      at : (r : Reading) → cutting s.length line ≡ r → length line.text ≡ s.length
      at (refused column number) c = absurd (not_passed column number taken said (sym (cut_refuses s here seen line column number c) ∙ e))
      at (value bytes) c = (taken_is_size s.length bytes line c).0

  -- ---- a line that is refused: the number is one that a refusal leaves in the state
  cut_or_text : (r : Reading) → cutting s.length line ≡ r → (column number : ℕ)
      → or_else (finding_in r) (first_broken (s.edits here seen (capitals line.text))) ≡ broken column number → s.is_left number ≡ true
  cut_or_text (value taken) c column number e = l.numbered here seen (capitals line.text) column number e
  cut_or_text (refused d m) c column number e =
      let same : m ≡ number = cc in
      subst (λ (n : ℕ). s.is_left n ≡ true) same (elim (refused_number s.length line d m c) [
        | inl one ↦ rw one l.cut_left.0
        | inr two ↦ rw two l.cut_left.1
      ])

  pub refusal_left_by : (column number : ℕ) → judge_by s here seen line ≡ refusal column number → s.is_left number ≡ true
  refusal_left_by column number e =
      cut_or_text (cutting s.length line) refl column number (sym (line_parts s here seen line) ∙ refused_finds s here seen line column number e)

module _ (s : Shape) (l : Lawful s) where
  -- ---- the end of the input
  end_number : (phase : Phase) (column number : ℕ) → end_test phase ≡ broken column number → s.is_left number ≡ true
  end_number BeforeA column number e = let same : 5 ≡ number = cc in subst (λ (n : ℕ). s.is_left n ≡ true) same l.ends_left.0
  end_number AfterA column number e = let same : 6 ≡ number = cc in subst (λ (n : ℕ). s.is_left n ≡ true) same l.ends_left.1
  end_number EOpen column number e = let same : 7 ≡ number = cc in subst (λ (n : ℕ). s.is_left n ≡ true) same l.ends_left.2
  end_number AfterT column number e = let same : 8 ≡ number = cc in subst (λ (n : ℕ). s.is_left n ≡ true) same l.ends_left.3
  end_number AfterF column number e = absurd (not_broken column number e)

  pub end_left_by : (phase : Phase) (column number : ℕ) → first_broken (end_edits phase) ≡ broken column number → s.is_left number ≡ true
  end_left_by phase column number e = end_number phase column number (sym (end_parts phase) ∙ e)

  module _ (here : Context) (earlier under : ℕ → Bool) where
    -- What is asked of all the bytes is asked of the line.
    pub asked_of_bytes_by : (bytes : List ℕ) → judge_by s here (seen_by s earlier under (capitals bytes)) (first_line bytes) ≡ judge_among_by s here earlier under (first_line bytes)
    asked_of_bytes_by bytes = at (cutting s.length (first_line bytes)) refl where
      at : (r : Reading) → cutting s.length (first_line bytes) ≡ r
          → judge_by s here (seen_by s earlier under (capitals bytes)) (first_line bytes) ≡ judge_among_by s here earlier under (first_line bytes)
      at (refused column number) e = cut_refuses s here _ (first_line bytes) column number e ∙ sym (cut_refuses s here _ (first_line bytes) column number e)
      at (value taken) e =
          let text : capitals (first_line bytes).text ≡ take s.length (capitals bytes) = ap capitals (sym (taken_text s.length bytes taken e)) ∙ capitals_take s.length bytes in
          rw (text, l.in_front (capitals bytes))

    -- A call that is lent a part of the bytes answers as if it were lent all that remains.
    pub judge_lent_by : (m : ℕ) (bytes : List ℕ) → Lent s.length m bytes → judge_among_by s here earlier under (first_line (take m bytes)) ≡ judge_among_by s here earlier under (first_line bytes)
    judge_lent_by m bytes lent = at (cutting s.length (first_line bytes)) refl where
      at : (r : Reading) → cutting s.length (first_line bytes) ≡ r → judge_among_by s here earlier under (first_line (take m bytes)) ≡ judge_among_by s here earlier under (first_line bytes)
      at (refused column number) e =
          cut_refuses s here _ (first_line (take m bytes)) column number (lent_alike s.length m bytes lent ∙ e) ∙ sym (cut_refuses s here _ (first_line bytes) column number e)
      at (value taken) e = ap (judge_among_by s here earlier under) (lent_line s.length m bytes lent (le_of_eq (taken_is_size s.length taken (first_line bytes) e).0))
