-- Laws: written_accepted and written_only, of the amended withholding file: what is written is accepted next, and "any other T accepted there with the same
-- payments, or any other F, differs only in letter case, in ignored columns, and in T by a hyphen before thirteen zeros".
use Rattle.std.specs.Prelude.{ℕ, ◌^◌, ◌<◌, true, List, ◌≡◌, T, eqb, length}
use Rattle.std.proofs.Math.Bool.{false}
use Rattle.std.proofs.Math.Path.{refl}
use Rattle.std.proofs.Common.{sym, ap, subst, ◌∙◌, arith, leb-false}
use Rattle.std.proofs.Math.Dec.{leb}
use Rattle.std.proofs.lemmas.Bool.{lt-leb}
use Rattle.laws.specs.ChoiceLaws.{both_hold}
use Rattle.laws.specs.Finding.{fine}
use Rattle.laws.specs.Spelling.{bytes}
use Rattle.reason.specs.ReasonNumbers.{Notice}
use Rattle.lines.specs.Lines.{Line, first_line, size_of}
use Rattle.chars.specs.Characters.{capitals}
use Rattle.chars.specs.CharacterLaws.{capitals_length}
use Rattle.number.specs.NumberLaws.{number_below}
use Rattle.edits.specs.Edit.{first_broken, AllFine}
use Rattle.edits.specs.FieldEdits.{field_edits}
use Rattle.edits.specs.FieldRow.{value_at}
use Rattle.edits.specs.FormatLaws.{wham_2024_is}
use Rattle.edits.specs.Formats.{is_wham2024}
use Rattle.edits.specs.declared.Context.{Context}
use Rattle.edits.specs.declared.Phase.{Phase}
use Rattle.edits.specs.declared.Phase.TheVariants.{EOpen}
use Rattle.edits.specs.declared.Seen.{Seen}
use Rattle.edits.specs.declared.format.Format.{Format}
use Rattle.edits.specs.declared.format.Format.TheVariants.{Wham2024}
use Rattle.shape.specs.Among.{judge_says_by}
use Rattle.shape.specs.Shape.{judge_by}
use Rattle.shape.specs.declared.Said.{Said}
use Rattle.shape.specs.declared.Said.TheVariants.{OfT, OfF}
use Rattle.wham.specs.Edits.{rows_for, around, placed_edits, rules_for}
use Rattle.wham.specs.Format.{wham_shape}
use Rattle.wham.specs.Kinds.{kind_of, kind_on, is_known}
use Rattle.wham.specs.Letters.{kind_of_T, kind_of_F, kind_in, kind_said}
use Rattle.wham.specs.Says.{said_by}
use Rattle.wham.specs.Sums.{place_of_T, place_of_F, passes, passed_fields}
use Rattle.wham.specs.declared.kind.Kind.{Kind}
use Rattle.wham.specs.declared.kind.Kind.TheVariants.{Total, Final}
use Rattle.wham_fields.specs.Fields.{payments_of_t}
use Rattle.wham_fields.specs.declared.Edition.TheVariants.{Of2024}
use Rattle.record.specs.Judge.{record_on, judge}
use Rattle.record.specs.Laws.{judged_says, judged_fits}
use Rattle.record.specs.ShapeOf.{shape_of}
use Rattle.tables.specs.Room.{Tables, room_of}
use Rattle.state.specs.Unfit.{is_open, unfit}
use Rattle.state.specs.UnfitLaws.{fit_file, fit_open}
use Rattle.state.specs.Walks.{Standing, reading, Walk}
use Rattle.step.specs.Moves.{all_well, context_of}
use Rattle.step.specs.Steps.{line_step}
use Rattle.write.specs.Accepted.{open_stands, asked, reads, reading_context, judged}
use Rattle.write.specs.Made.{made_accepted}
use Rattle.write.specs.NextAccepted.{AcceptedNext}
use Rattle.write.specs.PartLaws.{tiles, AllFit, record_holds}
use Rattle.write.specs.Records.{Part, line_of}
use Rattle.write.specs.Writing.{Writing, no_tables, none_to_total}
use Rattle.write.specs.WritingLaws.{not_refused, allowed, written_is}
use Rattle.wham_write.specs.Ended.{ended_stands, stands_ended}
use Rattle.wham_write.specs.Fitting.{Small, small, not_large, total_tiles, total_fits, final_tiles, final_fits}
use Rattle.wham_write.specs.Others.{SameTotal, SameFinal}
use Rattle.wham_write.specs.Records.{parts_of_t, parts_of_f, total_record, final_record}
use Rattle.wham_write.specs.Shared.{same_total, same_final}
use Rattle.wham_write.specs.TotalFields.{total_fine, fine_total, final_fine, fine_final}
use Rattle.wham_write.specs.Writing.{total_next, is_ended, final_next, too_large, total_writing, final_writing}

judge_wham : (here : Context) (seen : Seen) (line : Line) → here.held.format ≡ Wham2024 → judge here seen line ≡ judge_by (wham_shape Of2024) here seen line
judge_wham here seen line wham =
    judged_says here seen line ∙ sym (judge_says_by (shape_of here.held.format) here seen line)
    ∙ ap (λ (format : Format). judge_by (shape_of format) here seen line) wham

-- ---- what is written is accepted
module _ (walk : Walk) (t : Tables) (fit : unfit (room_of t) walk ≡ false) where
  -- A record of parts that no edit of its fields refuses, in its place.
  wham_accepted : walk.held.format ≡ Wham2024 → (phase : Phase) → walk.standing ≡ reading phase → (parts : List Part) → T (tiles 275 0 parts) → AllFit parts
      → (kind : Kind) → is_known kind ≡ true → kind_on (line_of 275 parts) ≡ kind → first_broken (placed_edits Of2024 (context_of (room_of t) walk phase) kind) ≡ fine
      → ((seen : Seen) → AllFine (field_edits (around (context_of (room_of t) walk phase) seen kind) (line_of 275 parts) (rows_for kind) (rules_for Of2024 kind)))
      → AcceptedNext walk t (said_by kind (line_of 275 parts)) (line_of 275 parts)
  wham_accepted wham phase stands parts tile fits kind known named place fields =
      let here = context_of (room_of t) walk phase in
      let text = line_of 275 parts in
      made_accepted 275 parts tile fits walk t fit phase stands (said_by kind text)
      (λ seen line holding.
      judge_wham here seen line wham
      ∙ passes Of2024 here seen line text holding.read kind named (size_of line) holding.taken holding.permitted known place (fields seen))

  -- The S records under the open E are few.
  few_under : is_open walk.standing ≡ true → walk.open.count < 10 ^ 7
  few_under is_open = omega (arith, (fit_file (room_of t) walk fit).many, (fit_open (room_of t) walk fit is_open).under)

  module _ (payments total : ℕ) (out : List ℕ) where
    written_accepted_t : (total_writing walk payments total out).says ≡ all_well → AcceptedNext walk t OfT (total_record walk.open payments walk.open.sum)
    unfolding total_record bytes
    written_accepted_t says =
        let this = walk.open in
        let large = too_large payments this.second this.sum in
        let free = not_refused (unfit (no_tables walk) walk) (eqb (length out) 275) (total_next walk) (none_to_total this) large (ap (λ (n : Notice). n.number) says) in
        let next = both_hold (is_wham2024 walk.held.format) (is_open walk.standing) free.in_place in
        let parts = parts_of_t this payments this.sum in
        let tile = total_tiles this payments this.sum in
        let fits = total_fits this payments this.sum (few_under next.1) (small payments this.second this.sum free.small) in
        let holds = record_holds 275 parts tile fits in
        let here = context_of (room_of t) walk EOpen in
        wham_accepted (wham_2024_is walk.held.format next.0) EOpen (open_stands walk.standing next.1) parts tile fits Total refl
        (ap kind_of (holds.0 0 (omega arith)) ∙ kind_of_T) (place_of_T Of2024 here refl)
        (λ seen. total_fine here seen (line_of 275 parts) payments holds free.some)

    written_accepted_f : (final_writing walk out).says ≡ all_well → AcceptedNext walk t OfF (final_record walk.all)
    unfolding final_record bytes
    written_accepted_f says =
        let all = walk.all in
        let large = leb (10 ^ 15) all.sum in
        let free = not_refused (unfit (no_tables walk) walk) (eqb (length out) 275) (final_next walk) false large (ap (λ (n : Notice). n.number) says) in
        let next = both_hold (is_wham2024 walk.held.format) (is_ended walk.standing walk.open.follow) free.in_place in
        let ended = ended_stands walk.standing walk.open.follow next.1 in
        let file = fit_file (room_of t) walk fit in
        let fits = final_fits all (omega (arith, file.many)) (omega (arith, file.employers)) (leb-false (10 ^ 15) all.sum free.small) in
        let holds = record_holds 275 (parts_of_f all) (final_tiles all) fits in
        let here = context_of (room_of t) walk ended.phase in
        wham_accepted (wham_2024_is walk.held.format next.0) ended.phase ended.stands (parts_of_f all) (final_tiles all) fits Final refl
        (ap kind_of (holds.0 0 (omega arith)) ∙ kind_of_F) (place_of_F Of2024 here ended.ends)
        (λ seen. final_fine here seen (line_of 275 (parts_of_f all)) holds)

    -- What a call that is not refused leaves in the slice is accepted next, of T and of F.
    pub written_accepted : ((total_writing walk payments total out).says ≡ all_well → AcceptedNext walk t OfT (total_writing walk payments total out).out)
        × ((final_writing walk out).says ≡ all_well → AcceptedNext walk t OfF (final_writing walk out).out)
    written_accepted = (
      λ says. subst (λ (w : Writing). AcceptedNext walk t OfT w.out) (sym (written_is _ _ out says)) (written_accepted_t says),
      λ says. subst (λ (w : Writing). AcceptedNext walk t OfF w.out) (sym (written_is _ _ out says)) (written_accepted_f says),
    )

-- ---- no other is accepted
module _ (walk : Walk) (wham : walk.held.format ≡ Wham2024) (t : Tables) (fit : unfit (room_of t) walk ≡ false) (s : List ℕ)
    (says : (line_step walk (first_line s) t).says ≡ all_well) where
  -- The accepted line in capitals, and what it is judged by.
  abbrev text : List ℕ
  text = capitals (first_line s).text

  abbrev here : Context
  here = reading_context walk t fit s says

  abbrev seen : Seen
  seen = asked walk t (first_line s)

  abbrev taken : ℕ
  taken = (reads walk t fit s says).taken

  -- It has 275 characters, and no edit of its fields is broken.
  module _ (said : Said) (is : record_on walk.held.format (first_line s) ≡ said) where
    named : kind_on text ≡ kind_in said
    named = kind_said text said (sym (ap (λ (format : Format). record_on format (first_line s)) wham) ∙ is)

    read : (length text ≡ 275) × AllFine (field_edits (around here seen (kind_in said)) text (rows_for (kind_in said)) (rules_for Of2024 (kind_in said)))
    read =
        let fields = passed_fields Of2024 here seen (first_line s) text refl (kind_in said) named taken said
        (sym (judge_wham here seen (first_line s) wham) ∙ judged walk t fit s says said is) in
        (capitals_length (first_line s).text ∙ fields.0, fields.1)

  written_only_t : (payments total : ℕ) (out : List ℕ) → length out ≡ 275 → record_on walk.held.format (first_line s) ≡ OfT → value_at text payments_of_t ≡ payments
      → ((total_writing walk payments total out).says ≡ all_well) × SameTotal text (total_record walk.open payments walk.open.sum)
  written_only_t payments total out long is paid =
      let this = walk.open in
      let held = fine_total here seen text payments paid (named OfT is) (read OfT is).1 in
      let stands = (reads walk t fit s says).stands ∙ ap reading (judged_fits here seen (first_line s) taken OfT (judged walk t fit s says OfT is)) in
      let low : Small payments this.second this.sum =
      record {
        pays = number_below text 112 122 payments held.0.paid;
        first = number_below text 175 188 this.second held.0.original;
        whole = number_below text 213 226 this.sum held.0.amended;
      } in (
        allowed 275 walk (room_of t) fit (total_next walk) (none_to_total this) (too_large payments this.second this.sum)
            (rw (ap is_wham2024 wham, ap is_open stands)) held.1 (not_large payments this.second this.sum low) out long,
        same_total this payments (few_under walk t fit (ap is_open stands)) low text (read OfT is).0 held.0,
      )

  written_only_f : (out : List ℕ) → length out ≡ 275 → record_on walk.held.format (first_line s) ≡ OfF
      → ((final_writing walk out).says ≡ all_well) × SameFinal text (final_record walk.all)
  written_only_f out long is =
      let all = walk.all in
      let held = fine_final here seen text (named OfF is) (read OfF is).1 in
      let ends = judged_fits here seen (first_line s) taken OfF (judged walk t fit s says OfF is) in
      let ended = ap (λ (standing : Standing). is_ended standing walk.open.follow) (reads walk t fit s says).stands
      ∙ stands_ended (reads walk t fit s says).phase walk.open.follow ends in
      let file = fit_file (room_of t) walk fit in
      let below = number_below text 41 55 all.sum held.total in (
        allowed 275 walk (room_of t) fit (final_next walk) false (leb (10 ^ 15) all.sum) (rw (ap is_wham2024 wham, ended)) refl
            (lt-leb (10 ^ 15) all.sum below) out long,
        same_final all (omega (arith, file.many)) (omega (arith, file.employers)) below text (read OfF is).0 held,
      )

  -- Whatever T or F is accepted: the writing, with the T's payments, is not refused, and leaves the accepted line's characters in the slice, in capitals, but
  -- for ignored columns and a hyphen before thirteen zeros.
  pub written_only : (payments total : ℕ) (out : List ℕ) → length out ≡ 275
      → (record_on walk.held.format (first_line s) ≡ OfT → value_at (capitals (first_line s).text) payments_of_t ≡ payments
      → ((total_writing walk payments total out).says ≡ all_well) × SameTotal (capitals (first_line s).text) (total_writing walk payments total out).out)
      × (record_on walk.held.format (first_line s) ≡ OfF
      → ((final_writing walk out).says ≡ all_well) × SameFinal (capitals (first_line s).text) (final_writing walk out).out)
  written_only payments total out long = (
    λ is paid.
        let only = written_only_t payments total out long is paid in
        (only.0, subst (λ (w : Writing). SameTotal text w.out) (sym (written_is _ _ out only.0)) only.1),
    λ is.
        let only = written_only_f out long is in
        (only.0, subst (λ (w : Writing). SameFinal text w.out) (sym (written_is _ _ out only.0)) only.1),
  )
