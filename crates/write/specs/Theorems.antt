-- Laws: written_accepted and written_only, of PFML: "the record that the walk accepts next, in capitals; any other accepted one differs only in letter case".
use Rattle.std.specs.Prelude.{ℕ, ◌^◌, true, List, ◌≡◌, T, eqb, leb, length}
use Rattle.std.proofs.Math.Bool.{false}
use Rattle.std.proofs.Math.Path.{refl, ap}
use Rattle.std.proofs.Common.{sym, subst, ◌∙◌, arith, leb-false}
use Rattle.std.proofs.lemmas.Bool.{lt-leb}
use Rattle.laws.specs.ChoiceLaws.{both_hold}
use Rattle.laws.specs.Finding.{fine}
use Rattle.laws.specs.Spelling.{bytes}
use Rattle.reason.specs.ReasonNumbers.{Notice}
use Rattle.lines.specs.Lines.{first_line, size_of}
use Rattle.chars.specs.Characters.{capitals}
use Rattle.chars.specs.CharacterLaws.{capitals_length}
use Rattle.number.specs.NumberLaws.{number_below}
use Rattle.edits.specs.Edit.{first_broken, AllFine}
use Rattle.edits.specs.FormatLaws.{pfml_is}
use Rattle.edits.specs.Formats.{is_pfml}
use Rattle.edits.specs.FieldEdits.{field_edits}
use Rattle.edits.specs.declared.Context.{Context}
use Rattle.edits.specs.declared.Phase.{Phase}
use Rattle.edits.specs.declared.Phase.TheVariants.{EOpen, AfterT}
use Rattle.edits.specs.declared.Seen.{Seen}
use Rattle.edits.specs.declared.format.Format.{Format}
use Rattle.edits.specs.declared.format.Format.TheVariants.{Pfml}
use Rattle.shape.specs.Shape.{passed, judge_by}
use Rattle.shape.specs.declared.Said.{Said}
use Rattle.shape.specs.declared.Said.TheVariants.{OfT, OfF}
use Rattle.pfml.specs.Edits.{rows_for, around, placed_edits, rules_for}
use Rattle.pfml.specs.Kinds.{kind_of, kind_on, is_known}
use Rattle.pfml.specs.Letters.{kind_of_T, kind_of_F, kind_in, kind_said}
use Rattle.pfml.specs.Format.{pfml_shape}
use Rattle.pfml.specs.Passed.{final_place}
use Rattle.pfml.specs.Says.{said_by}
use Rattle.pfml.specs.Sums.{place_of_T, place_of_F, passes, passed_text, passed_fields}
use Rattle.pfml.specs.declared.kind.Kind.{Kind}
use Rattle.pfml.specs.declared.kind.Kind.TheVariants.{Total, Final}
use Rattle.record.specs.Judge.{record_on}
use Rattle.record.specs.Laws.{judged_fits, judge_pfml}
use Rattle.tables.specs.Room.{Tables, room_of}
use Rattle.state.specs.Unfit.{is_open, unfit}
use Rattle.state.specs.UnfitLaws.{fit_file, fit_open}
use Rattle.state.specs.Walks.{reading, Walk}
use Rattle.step.specs.Moves.{all_well, context_of}
use Rattle.step.specs.Steps.{line_step}
use Rattle.write.specs.Accepted.{open_stands, after_T_stands, asked, reads, reading_context, judged}
use Rattle.write.specs.TotalFields.{total_fine, fine_total, final_fine, fine_final}
use Rattle.write.specs.Made.{made_accepted}
use Rattle.write.specs.PartLaws.{tiles, AllFit, record_holds, record_only}
use Rattle.write.specs.Records.{Part, record_of, parts_of_t, parts_of_f, total_record, final_record}
use Rattle.write.specs.Writing.{Writing, no_tables, is_after_t, total_next, final_next, none_to_total, total_writing, final_writing}
use Rattle.write.specs.WritingLaws.{not_refused, allowed, written_is}
use Rattle.write.specs.NextAccepted.{AcceptedNext}

-- ---- what is written is accepted
module _ (walk : Walk) (t : Tables) (fit : unfit (room_of t) walk ≡ false) where
  -- A record of parts that no edit of its fields refuses, in its place.
  pfml_accepted : walk.held.format ≡ Pfml → (phase : Phase) → walk.standing ≡ reading phase → (parts : List Part) → T (tiles 290 0 parts) → AllFit parts
      → (kind : Kind) → is_known kind ≡ true → kind_on (record_of parts) ≡ kind → first_broken (placed_edits (context_of (room_of t) walk phase) kind) ≡ fine
      → ((seen : Seen) → AllFine (field_edits (around (context_of (room_of t) walk phase) seen kind) (record_of parts) (rows_for kind) (rules_for kind)))
      → AcceptedNext walk t (said_by kind (record_of parts)) (record_of parts)
  pfml_accepted pfml phase stands parts tile fits kind known named place fields =
      let here = context_of (room_of t) walk phase in
      made_accepted 290 parts tile fits walk t fit phase stands (said_by kind (record_of parts))
      (λ seen line holding.
      judge_pfml here seen line pfml
      ∙ passes here seen line (record_of parts) holding.read kind named (size_of line) holding.taken holding.permitted known place (fields seen))

  module _ (out : List ℕ) where
    pub written_accepted_t : (total_writing walk out).says ≡ all_well → AcceptedNext walk t OfT (total_record walk.open)
    unfolding total_record bytes
    written_accepted_t says =
        let this = walk.open in
        let zero = ap (λ (n : Notice). n.number) says in
        let free = not_refused (unfit (no_tables walk) walk) (eqb (length out) 290) (total_next walk) (none_to_total this) (leb (10 ^ 14) this.sum) zero in
        let next = both_hold (is_pfml walk.held.format) (is_open walk.standing) free.in_place in
        let many = (fit_file (room_of t) walk fit).many in
        let under = fit_open (room_of t) walk fit next.1 in
        let fits : AllFit (parts_of_t this) =
        (tt, (omega (arith, under.under), (tt, (omega (arith, under.fein), (tt, (leb-false (10 ^ 14) this.sum free.small, (tt, tt))))))) in
        let holds = record_holds 290 (parts_of_t this) tt fits in
        let here = context_of (room_of t) walk EOpen in
        pfml_accepted (pfml_is walk.held.format next.0) EOpen (open_stands walk.standing next.1) (parts_of_t this) tt fits Total refl
        (ap kind_of (holds.0 0 (omega arith)) ∙ kind_of_T) (place_of_T here refl)
        (λ seen. total_fine here seen (record_of (parts_of_t this)) holds free.some)

    pub written_accepted_f : (final_writing walk out).says ≡ all_well → AcceptedNext walk t OfF (final_record walk.all)
    unfolding final_record bytes
    written_accepted_f says =
        let all = walk.all in
        let zero = ap (λ (n : Notice). n.number) says in
        let free = not_refused (unfit (no_tables walk) walk) (eqb (length out) 290) (final_next walk) false (leb (10 ^ 15) all.sum) zero in
        let next = both_hold (is_pfml walk.held.format) (is_after_t walk.standing) free.in_place in
        let file = fit_file (room_of t) walk fit in
        let fits : AllFit (parts_of_f all) =
        (tt, (omega (arith, file.many), (omega (arith, file.employers), (tt, (tt, (leb-false (10 ^ 15) all.sum free.small, (tt, tt))))))) in
        let holds = record_holds 290 (parts_of_f all) tt fits in
        let here = context_of (room_of t) walk AfterT in
        pfml_accepted (pfml_is walk.held.format next.0) AfterT (after_T_stands walk.standing next.1) (parts_of_f all) tt fits Final refl
        (ap kind_of (holds.0 0 (omega arith)) ∙ kind_of_F) (place_of_F here refl)
        (λ seen. final_fine here seen (record_of (parts_of_f all)) holds)

    -- What a call that is not refused leaves in the slice is accepted next, of T and of F.
    pub written_accepted : ((total_writing walk out).says ≡ all_well → AcceptedNext walk t OfT (total_writing walk out).out)
        × ((final_writing walk out).says ≡ all_well → AcceptedNext walk t OfF (final_writing walk out).out)
    written_accepted = (
      λ says. subst (λ (w : Writing). AcceptedNext walk t OfT w.out) (sym (written_is _ _ out says)) (written_accepted_t says),
      λ says. subst (λ (w : Writing). AcceptedNext walk t OfF w.out) (sym (written_is _ _ out says)) (written_accepted_f says),
    )

-- ---- no other is accepted
module _ (walk : Walk) (pfml : walk.held.format ≡ Pfml) (t : Tables) (fit : unfit (room_of t) walk ≡ false) (s : List ℕ)
    (says : (line_step walk (first_line s) t).says ≡ all_well) where
  -- The accepted line in capitals, and what it is judged by.
  abbrev text : List ℕ
  text = capitals (first_line s).text

  abbrev here : Context
  here = reading_context walk t fit s says

  abbrev seen : Seen
  seen = asked walk t (first_line s)

  abbrev taken : ℕ
  taken = (reads walk t fit s says).taken

  by_pfml : (said : Said) → record_on walk.held.format (first_line s) ≡ said → judge_by pfml_shape here seen (first_line s) ≡ passed taken said
  by_pfml said is = sym (judge_pfml here seen (first_line s) pfml) ∙ judged walk t fit s says said is

  named : (said : Said) → record_on walk.held.format (first_line s) ≡ said → kind_on text ≡ kind_in said
  named said is = kind_said text said (sym (ap (λ (format : Format). record_on format (first_line s)) pfml) ∙ is)

  -- It has 290 characters, and no edit of its fields is broken.
  read : (said : Said) → record_on walk.held.format (first_line s) ≡ said
      → (length text ≡ 290) × AllFine (field_edits (around here seen (kind_in said)) text (rows_for (kind_in said)) (rules_for (kind_in said)))
  read said is =
      let fields = passed_fields here seen (first_line s) text refl (kind_in said) (named said is) taken said (by_pfml said is) in
      (capitals_length (first_line s).text ∙ fields.0, fields.1)

  pub written_only_t : record_on walk.held.format (first_line s) ≡ OfT
      → (capitals (first_line s).text ≡ total_record walk.open) × ((out : List ℕ) → length out ≡ 290 → (total_writing walk out).says ≡ all_well)
  unfolding total_record bytes
  written_only_t is =
      let this = walk.open in
      let held = fine_total here seen text (named OfT is) (read OfT is).1 in
      let stands = (reads walk t fit s says).stands ∙ ap reading (judged_fits here seen (first_line s) taken OfT (judged walk t fit s says OfT is)) in
      let below = number_below text 27 40 this.sum held.0.1.1.1.1.1.0 in (
        record_only 290 (parts_of_t this) tt text (read OfT is).0 held.0,
        allowed 290 walk (room_of t) fit (total_next walk) (none_to_total this) (leb (10 ^ 14) this.sum) (rw (ap is_pfml pfml, ap is_open stands)) held.1
            (lt-leb (10 ^ 14) this.sum below),
      )

  pub written_only_f : record_on walk.held.format (first_line s) ≡ OfF
      → (capitals (first_line s).text ≡ final_record walk.all) × ((out : List ℕ) → length out ≡ 290 → (final_writing walk out).says ≡ all_well)
  unfolding final_record bytes
  written_only_f is =
      let all = walk.all in
      let held = fine_final here seen text (named OfF is) (read OfF is).1 in
      let place = final_place here seen text (passed_text here seen (first_line s) text refl Final (named OfF is) taken OfF (by_pfml OfF is)) in
      let stands = (reads walk t fit s says).stands ∙ ap reading place in
      let below = number_below text 41 55 all.sum held.1.1.1.1.1.0 in (
        record_only 290 (parts_of_f all) tt text (read OfF is).0 held,
        allowed 290 walk (room_of t) fit (final_next walk) false (leb (10 ^ 15) all.sum) (rw (ap is_pfml pfml, ap is_after_t stands)) refl
            (lt-leb (10 ^ 15) all.sum below),
      )

  -- Whatever T or F is accepted, the writing leaves its characters in the slice, in capitals.
  pub written_only : (out : List ℕ) → length out ≡ 290
      → (record_on walk.held.format (first_line s) ≡ OfT → total_writing walk out ≡ record { says = all_well; out = capitals (first_line s).text })
      × (record_on walk.held.format (first_line s) ≡ OfF → final_writing walk out ≡ record { says = all_well; out = capitals (first_line s).text })
  written_only out long = (
    λ is. let only = written_only_t is in written_is _ _ out (only.1 out long) ∙ ap (λ (line : List ℕ). record { says = all_well; out = line }) (sym only.0),
    λ is. let only = written_only_f is in written_is _ _ out (only.1 out long) ∙ ap (λ (line : List ℕ). record { says = all_well; out = line }) (sym only.0),
  )
