-- Laws: accepted_iff and first_of_line, of one line, in every format; and the verdict part by part.
use Rattle.std.specs.Prelude.{ℕ, ◌≤◌, List, ◌≡◌, refl, length, take}
use Rattle.std.proofs.Common.{sym, ◌∙◌, arith}
use Rattle.std.proofs.Math.Path.{ap}
use Rattle.laws.specs.Finding.{Finding, fine, broken, or_else, value, refused, finding_in}
use Rattle.lines.specs.Cutting.{cutting, length_test, end_test}
use Rattle.lines.specs.Laws.{size_within, text_in_front}
use Rattle.lines.specs.Lines.{Line, first_line, size_of}
use Rattle.lines.specs.CutOutcomes.{cut_parts, taken_is_size, length_labelled, ending_labelled}
use Rattle.chars.specs.Characters.{capitals}
use Rattle.edits.specs.Edit.{first_broken, AllFine}
use Rattle.edits.specs.EditLaws.{first_cons, or_assoc, fine_all, all_fine, first_of_list}
use Rattle.edits.specs.Labels.{AllLabelled, FirstIn}
use Rattle.edits.specs.LabelLaws.{more_labelled}
use Rattle.edits.specs.declared.Context.{Context}
use Rattle.edits.specs.declared.Seen.{Seen}
use Rattle.shape.specs.Lawful.{Lawful}
use Rattle.shape.specs.Shape.{Shape, refusal, passed, verdict_by, said_on, line_edits_by, text_verdict_by, judge_by}
use Rattle.shape.specs.declared.Said.{Said}

pub not_passed : (column number taken : ℕ) (said : Said) → refusal column number ≡ passed taken said → ⊥
not_passed column number taken said e = let z : ◌≡◌ {A = ℕ} 0 1 = cc in omega arith

passes_fine : (f : Finding) (size : ℕ) (says : Said) (taken : ℕ) (said : Said) → verdict_by f size says ≡ passed taken said → f ≡ fine
passes_fine fine size says taken said e = refl
passes_fine (broken column number) size says taken said e = absurd (not_passed column number taken said e)

refuses_broken : (f : Finding) (size : ℕ) (says : Said) (column number : ℕ) → verdict_by f size says ≡ refusal column number → f ≡ broken column number
refuses_broken fine size says column number e = absurd (not_passed column number size says (sym e))
refuses_broken (broken c n) size says column number e =
    let same_column : c ≡ column = cc in
    let same_number : n ≡ number = cc in
    cc

module _ (s : Shape) (here : Context) (seen : Seen) (line : Line) where
  -- A line passes exactly if it breaks none of its edits; then the bytes taken are its own and the record says what stands in its columns.
  pub accepted_iff : (AllFine (line_edits_by s here seen line) → judge_by s here seen line ≡ passed (size_of line) (said_on s line))
      × ((taken : ℕ) (said : Said) → judge_by s here seen line ≡ passed taken said → AllFine (line_edits_by s here seen line))
  unfolding judge_by
  accepted_iff = (
    λ all. rw (all_fine (line_edits_by s here seen line) all),
    λ taken said e. fine_all (line_edits_by s here seen line) (passes_fine (first_broken (line_edits_by s here seen line)) _ _ taken said e),
  )

  -- A refusal is what the first broken edit finds.
  pub refused_finds : (column number : ℕ) → judge_by s here seen line ≡ refusal column number → first_broken (line_edits_by s here seen line) ≡ broken column number
  unfolding judge_by
  refused_finds column number e = refuses_broken (first_broken (line_edits_by s here seen line)) _ _ column number e

module _ (s : Shape) (l : Lawful s) (here : Context) (seen : Seen) (line : Line) where
  pub line_labelled_by : AllLabelled (line_edits_by s here seen line)
  line_labelled_by =
      more_labelled _ _ (length_labelled s.length line) tt refl
      (more_labelled _ _ (ending_labelled s.length line) refl refl (l.labelled here seen (capitals line.text)))

  -- A refusal is a broken edit, told by its label, and no edit before it in the stated order is broken.
  pub first_of_line : (column number : ℕ) → judge_by s here seen line ≡ refusal column number → FirstIn (line_edits_by s here seen line) column number
  first_of_line column number e = first_of_list (line_edits_by s here seen line) line_labelled_by column number (refused_finds s here seen line column number e)

-- ---- cutting, then the edits of the text
module _ (s : Shape) (here : Context) (seen : Seen) where
  pub line_parts : (line : Line) → first_broken (line_edits_by s here seen line)
      ≡ or_else (finding_in (cutting s.length line)) (first_broken (s.edits here seen (capitals line.text)))
  line_parts line =
      let n = s.length in
      let rest = first_broken (s.edits here seen (capitals line.text)) in
      first_cons _ _ ∙ ap (or_else (length_test n line)) (first_cons _ _) ∙ sym (or_assoc (length_test n line) (end_test n line) rest)
      ∙ ap (λ (f : Finding). or_else f rest) (sym (cut_parts n line))

  pub cut_breaks : (line : Line) (column number : ℕ) → cutting s.length line ≡ refused column number → first_broken (line_edits_by s here seen line) ≡ broken column number
  cut_breaks line column number e = line_parts line ∙ rw e

  judge_parts : (line : Line) → judge_by s here seen line
      ≡ verdict_by (or_else (finding_in (cutting s.length line)) (first_broken (s.edits here seen (capitals line.text)))) (size_of line) (said_on s line)
  unfolding judge_by
  judge_parts line = ap (λ (f : Finding). verdict_by f (size_of line) (said_on s line)) (line_parts line)

  pub cut_refuses : (line : Line) (column number : ℕ) → cutting s.length line ≡ refused column number → judge_by s here seen line ≡ refusal column number
  cut_refuses line column number e = judge_parts line ∙ rw e

  pub cut_takes : (line : Line) (taken : ℕ) → cutting s.length line ≡ value taken → judge_by s here seen line ≡ text_verdict_by s here seen (capitals line.text) taken
  cut_takes line taken e = judge_parts line ∙ rw (e, sym (taken_is_size s.length taken line e).1)

-- A line that is taken stands in front of the bytes.
module _ (n : ℕ) (bytes : List ℕ) (taken : ℕ) (e : cutting n (first_line bytes) ≡ value taken) where
  pub taken_fits : n ≤ length bytes
  taken_fits =
      let text = (taken_is_size n taken (first_line bytes) e).0 in
      let within = size_within bytes in
      omega arith

  pub taken_text : take n bytes ≡ (first_line bytes).text
  taken_text = sym (text_in_front bytes ∙ ap (λ (k : ℕ). take k bytes) (taken_is_size n taken (first_line bytes) e).0)
