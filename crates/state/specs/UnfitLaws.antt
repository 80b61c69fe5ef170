-- Laws: what a state that is not unfit is bounded by, and the other way: bounds that make a state fit.
use Rattle.std.specs.Prelude.{ℕ, ◌*◌, ◌≤◌, ◌<◌, Bool, true, false, ◌&&◌, ◌||◌, ◌≡◌, refl, if◌then◌else◌}
use Rattle.std.proofs.lemmas.Bool.{false≢true}
use Rattle.std.proofs.Common.{sym, ◌∙◌, arith}
use Rattle.std.proofs.Math.Dec.{ltb, eqb}
use borrow.Author.Tests.{le-ltb, ltb-false, ne_eqb, eqb-false}
use Rattle.laws.specs.ChoiceLaws.{neither}
use Rattle.reason.specs.ReasonNumbers.{Notice}
use Rattle.calendar.specs.Quarters.{is_allowed}
use Rattle.edits.specs.Formats.{is_known, quarter_held, may_open, opening_number, is_of_opening}
use Rattle.edits.specs.declared.Open.{Open}
use Rattle.edits.specs.declared.Opening.{Opening}
use Rattle.edits.specs.declared.Totals.{Totals}
use Rattle.edits.specs.declared.format.Format.{Format}
use Rattle.shape.specs.Limits.{most_employees, most_fein}
use Rattle.shape.specs.Shape.{Shape}
use Rattle.record.specs.ShapeOf.{shape_of}
use Rattle.record.specs.Laws.{lawful_of}
use Rattle.tables.specs.Room.{Room, entries_used}
use Rattle.state.specs.Unfit.{file_unfit, open_unfit, is_open, is_left, standing_unfit, unfit}
use Rattle.state.specs.Walks.{Walk, refused_walk}

module _ (s : Shape) where
  pub record FileSound (entries : ℕ) (all : Totals) (lines : ℕ) : Type 0 where
    pub employers : all.employers ≤ entries
    pub many : all.count ≤ most_employees
    pub sum : all.sum ≤ all.count * s.most_cents
    pub lines_read : lines ≤ s.most_lines

  pub record OpenSound (all : Totals) (this : Open) : Type 0 where
    pub under : this.count ≤ all.count
    pub under_sum : this.sum ≤ this.count * s.most_cents
    pub some : 1 ≤ all.employers
    pub fein : this.fein ≤ most_fein

  pub file_sound : (entries : ℕ) (all : Totals) (lines : ℕ) → file_unfit s entries all lines ≡ false → FileSound entries all lines
  unfolding file_unfit
  file_sound entries all lines e =
      let beyond = ltb entries all.employers in
      let many = ltb most_employees all.count in
      let high = ltb (all.count * s.most_cents) all.sum in
      let a = neither (beyond || many || high) (ltb s.most_lines lines) e in
      let b = neither (beyond || many) high a.0 in
      let c = neither beyond many b.0 in
      record {
        employers = ltb-false _ _ c.0;
        many = ltb-false _ _ c.1;
        sum = ltb-false _ _ b.1;
        lines_read = ltb-false _ _ a.1;
      }

  pub sound_file : (entries : ℕ) (all : Totals) (lines : ℕ) → FileSound entries all lines → file_unfit s entries all lines ≡ false
  unfolding file_unfit
  sound_file entries all lines sound =
      rw (
        le-ltb entries all.employers sound.employers,
        le-ltb most_employees all.count sound.many,
        le-ltb (all.count * s.most_cents) all.sum sound.sum,
        le-ltb s.most_lines lines sound.lines_read,
      )

  pub open_sound : (all : Totals) (this : Open) → open_unfit s all this ≡ false → OpenSound all this
  unfolding open_unfit
  open_sound all this e =
      let more = ltb all.count this.count in
      let high = ltb (this.count * s.most_cents) this.sum in
      let empty = eqb all.employers 0 in
      let a = neither (more || high || empty) (ltb most_fein this.fein) e in
      let b = neither (more || high) empty a.0 in
      let c = neither more high b.0 in
      let none = eqb-false all.employers 0 b.1 in
      record {
        under = ltb-false _ _ c.0;
        under_sum = ltb-false _ _ c.1;
        some = omega arith;
        fein = ltb-false _ _ a.1;
      }

  pub sound_open : (all : Totals) (this : Open) → OpenSound all this → open_unfit s all this ≡ false
  unfolding open_unfit
  sound_open all this sound =
      rw (
        le-ltb all.count this.count sound.under,
        le-ltb (this.count * s.most_cents) this.sum sound.under_sum,
        ne_eqb all.employers 0 (λ e. omega (arith, sound)),
        le-ltb most_fein this.fein sound.fein,
      )

-- Where an E is open its numbers count too.
open_part : (is held : Bool) → is && held ≡ false → is ≡ true → held ≡ false
open_part true held e h = e
open_part false held e h = absurd (false≢true h)

open_whole : (is held : Bool) → (is ≡ true → held ≡ false) → is && held ≡ false
open_whole true held h = h refl
open_whole false held h = refl

-- The four parts of the list.
module _ (room : Room) (walk : Walk) where
  abbrev s : Shape
  s = shape_of walk.held.format

  abbrev file : Bool
  file = file_unfit s (entries_used room) walk.all walk.lines

  abbrev under : Bool
  under = is_open walk.standing && open_unfit s walk.all walk.open

  abbrev more : Bool
  more = s.unfit_more room.ids walk.used (is_open walk.standing) walk.all walk.open

  abbrev standing : Bool
  standing = standing_unfit walk.standing walk.held walk.filed

  module _ (fit : unfit room walk ≡ false) where
    fit_parts : (file ≡ false) × (under ≡ false) × (more ≡ false) × (standing ≡ false)
    unfolding unfit
    fit_parts =
        let a = neither (file || under || more) standing fit in
        let b = neither (file || under) more a.0 in
        let c = neither file under b.0 in
        (c.0, c.1, b.1, a.1)

    pub fit_file : FileSound s (entries_used room) walk.all walk.lines
    fit_file = file_sound s _ _ _ fit_parts.0

    -- One line more can be counted.
    pub fit_lines : walk.lines < 4294967295
    fit_lines = omega (arith, fit_file.lines_read, (lawful_of walk.held.format).lines_small)

    pub fit_open : is_open walk.standing ≡ true → OpenSound s walk.all walk.open
    fit_open h = open_sound s _ _ (open_part (is_open walk.standing) (open_unfit s walk.all walk.open) fit_parts.1 h)

    pub fit_more : more ≡ false
    fit_more = fit_parts.2

    pub fit_standing : standing ≡ false
    fit_standing = fit_parts.3

  pub sound_fit : FileSound s (entries_used room) walk.all walk.lines → (is_open walk.standing ≡ true → OpenSound s walk.all walk.open)
      → more ≡ false → standing ≡ false → unfit room walk ≡ false
  unfolding unfit
  sound_fit sound opened own stands =
      let open_fits = open_whole (is_open walk.standing) (open_unfit s walk.all walk.open) (λ h. sound_open s _ _ (opened h)) in
      rw (sound_file s (entries_used room) walk.all walk.lines sound, open_fits, own, stands)

-- ---- the numbers that a refusal leaves
abbrev by_edit : Format → ℕ → Bool
by_edit format number = (shape_of format).is_left number

pub left_number : (format : Format) (number : ℕ) → is_known format ≡ true → by_edit format number ≡ true → is_left format number ≡ true
unfolding is_left
left_number format number known left = rw (known, left) (either (eqb number 70)) where
  either : (opening : Bool) → opening || true ≡ true
  either true = refl
  either false = refl

-- An opening that is refused leaves its own.
pub left_opening : (held : Opening) → may_open held ≡ false → is_left held.format (opening_number held) ≡ true
unfolding is_left may_open
left_opening held shut = at (is_allowed (quarter_held held)) (is_known held.format) shut where
  at : (allowed known : Bool) → allowed && known ≡ false
      → eqb (if allowed then 73 else 70) 70 || (if known then by_edit held.format (if allowed then 73 else 70) else eqb (if allowed then 73 else 70) 73) ≡ true
  at true true shut = absurd (false≢true (sym shut))
  at true false shut = refl
  at false known shut = refl

-- One that no edit leaves, and no opening, is none.
pub not_left : (format : Format) (number : ℕ) → is_of_opening number ≡ false → by_edit format number ≡ false → is_left format number ≡ true → ⊥
unfolding is_left
not_left format number opening left e =
    let none = neither (eqb number 70) (eqb number 73) opening in
    false≢true (sym (rw (none.0, none.1, left) (by (is_known format))) ∙ e) where
      by : (known : Bool) → (if known then false else false) ≡ false
      by true = refl
      by false = refl

pub left_not_72 : (format : Format) (number : ℕ) → is_left format number ≡ true → number ≡ 72 → ⊥
left_not_72 format number e same = not_left format number (rw same) (rw same (lawful_of format).others_not_left.3) e

pub left_not_0 : (format : Format) (number : ℕ) → is_left format number ≡ true → number ≡ 0 → ⊥
left_not_0 format number e same = not_left format number (rw same) (rw same (lawful_of format).others_not_left.0) e

-- An edit leaves no number of an opening, neither 71 nor 72, and not "accepted".
pub edit_not_opening : (format : Format) (number : ℕ) → by_edit format number ≡ true → is_of_opening number ≡ false
edit_not_opening format number left =
    rw (
      ne_eqb number 70 (λ same. false≢true (sym (lawful_of format).others_not_left.1 ∙ rw (← same) left)),
      ne_eqb number 73 (λ same. false≢true (sym (lawful_of format).others_not_left.4 ∙ rw (← same) left)),
    )

pub edit_not_71 : (format : Format) (number : ℕ) → by_edit format number ≡ true → number ≡ 71 → ⊥
edit_not_71 format number left same = false≢true (sym (lawful_of format).others_not_left.2 ∙ rw (← same) left)

pub edit_not_72 : (format : Format) (number : ℕ) → by_edit format number ≡ true → number ≡ 72 → ⊥
edit_not_72 format number left same = false≢true (sym (lawful_of format).others_not_left.3 ∙ rw (← same) left)

pub edit_not_0 : (format : Format) (number : ℕ) → by_edit format number ≡ true → number ≡ 0 → ⊥
edit_not_0 format number left same = false≢true (sym (lawful_of format).others_not_left.0 ∙ rw (← same) left)

-- A refused state is fit where its number is one of them.
pub refused_fit : (room : Room) (format : Format) (says : Notice) → is_left format says.number ≡ true → unfit room (refused_walk format says) ≡ false
refused_fit room format says e =
    sound_fit room (refused_walk format says)
    (record { employers = omega arith; many = omega arith; sum = omega arith; lines_read = omega arith })
    (λ o. absurd (false≢true o))
    ((lawful_of format).more_none room.ids)
    (rw e)

-- "A table the call isn't lent isn't compared": what is fit for a call that is lent tables is fit for one that is lent none.
pub fit_without : (room : Room) (walk : Walk) → unfit room walk ≡ false → unfit (record { ids = walk.used; list = walk.all.employers }) walk ≡ false
fit_without room walk e =
    let sound = fit_file room walk e in
    sound_fit (record { ids = walk.used; list = walk.all.employers }) walk
    (record { employers = omega arith; many = sound.many; sum = sound.sum; lines_read = sound.lines_read })
    (fit_open room walk e)
    ((lawful_of walk.held.format).more_unlent room.ids walk.used (is_open walk.standing) walk.all walk.open (fit_more room walk e))
    (fit_standing room walk e)
