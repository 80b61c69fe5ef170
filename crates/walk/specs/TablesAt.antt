-- Laws: tables_at_lem: what the tables hold after any lines that were taken, in a walk whose state and tables nobody altered.
use Rattle.std.specs.Prelude.{ℕ, true, List, [], ◌∷◌, ◌≡◌, refl}
use Rattle.std.proofs.Common.{sym, ap, subst, ◌∙◌}
use Rattle.lines.specs.Lines.{Line, first_line}
use Rattle.edits.specs.Formats.{may_open}
use Rattle.edits.specs.declared.Opening.{Opening}
use Rattle.shape.specs.Shape.{Judged, refusal, passed}
use Rattle.record.specs.Judge.{record_on}
use Rattle.record.specs.Laws.{passed_size}
use Rattle.shape.specs.declared.Said.{Said}
use Rattle.tables.specs.Room.{Room, Tables, room_of}
use Rattle.meaning.specs.Meaning.{context_at, on_earlier_e, under_this_e, judge_at}
use Rattle.step.specs.MoveLaws.{open_allowed}
use Rattle.step.specs.Steps.{Out, open_step, line_step}
use Rattle.walk.specs.At.{walk_at, tables_at}
use Rattle.walk.specs.GoodLaws.{good_none, Good}
use Rattle.walk.specs.WalkMeans.{from_start, line_refused, line_taken, taken_good}
use Rattle.walk.specs.CallsInRow.{AllTaken, after_lines, lent_records}

module _ (room : Room) (held : Opening) (allowed : may_open held ≡ true) where
  abbrev StandsAt : List Said → Out → Type 0
  StandsAt p o = (o.walk ≡ walk_at held p) × (o.left ≡ tables_at room p)

  one_taken : (p : List Said) → Good room held p → (o : Out) → StandsAt p o → (line : Line) → ((line_step o.walk line o.left).taken ≡ 0 → ⊥)
      → Good room held (record_on held.format line ∷ p) × StandsAt (record_on held.format line ∷ p) (line_step o.walk line o.left)
  one_taken p g o at line some = by (judge_at room held p line) refl where
    same : line_step o.walk line o.left ≡ line_step (walk_at held p) line (tables_at room p)
    same = rw (at.0, at.1)

    by : (v : Judged) → judge_at room held p line ≡ v → Good room held (record_on held.format line ∷ p) × StandsAt (record_on held.format line ∷ p) (line_step o.walk line o.left)
    by (refusal column number) e = absurd (some (ap (λ (x : Out). x.taken) (same ∙ line_refused room held allowed p g line column number e)))
    by (passed taken said) e =
        let is = (passed_size (context_at room held p) (on_earlier_e p) (under_this_e p) line taken said e).1 in
        let step = same ∙ line_taken room held allowed p g line taken said e in
        subst (λ (s : Said). Good room held (s ∷ p) × StandsAt (s ∷ p) (line_step o.walk line o.left)) is
        (taken_good room held allowed p g line taken said e, (ap (λ (x : Out). x.walk) step, ap (λ (x : Out). x.left) step))

  taken_at : (lines : List (List ℕ)) (p : List Said) → Good room held p → (o : Out) → StandsAt p o → AllTaken lines o → StandsAt (lent_records held.format p lines) (after_lines lines o)
  taken_at [] p g o at all = at
  taken_at (bytes ∷ more) p g o at all =
      let one = one_taken p g o at (first_line bytes) all.0 in
      taken_at more (record_on held.format (first_line bytes) ∷ p) one.0 (line_step o.walk (first_line bytes) o.left) one.1 all.1

pub opened_at_lem : (held : Opening) (t : Tables) → may_open held ≡ true → ((open_step held t).walk ≡ walk_at held []) × ((open_step held t).left ≡ tables_at (room_of t) [])
opened_at_lem held t e = (rw (open_allowed held e), rw (open_allowed held e) (sym (from_start (room_of t))))

-- After any lines that were taken the state and both tables are what the records before say: while an E is open the id table holds its numbers in file
-- order, then zeros, and all zeros if none is open; entries are FEIN, 0, 0 until their T (`tables_at`).
pub tables_at_lem : (held : Opening) (t : Tables) (lines : List (List ℕ)) → may_open held ≡ true → AllTaken lines (open_step held t)
    → ((after_lines lines (open_step held t)).walk ≡ walk_at held (lent_records held.format [] lines)) × ((after_lines lines (open_step held t)).left ≡ tables_at (room_of t) (lent_records held.format [] lines))
tables_at_lem held t lines allowed all = taken_at (room_of t) held allowed lines [] (good_none (room_of t) held) (open_step held t) (opened_at_lem held t allowed) all
