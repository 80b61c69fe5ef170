-- Laws: a move that is carried out on the lent tables is the step of its call.
use Rattle.std.specs.Prelude.{ℕ, Bool, List, ◌≡◌}
use Rattle.std.proofs.Common.{ap, ◌∙◌}
use Rattle.lines.specs.Lines.{first_line}
use Rattle.edits.specs.declared.Opening.{Opening}
use Rattle.tables.specs.Room.{Tables, tables, room_of}
use Rattle.tables.specs.declared.Employer.{Employer}
use Rattle.state.specs.Walks.{Walk}
use Rattle.step.specs.Moves.{Moved, moved_by, line_seen, end_moved, open_moved}
use Rattle.step.specs.QuestionLaws.{line_asked}
use Rattle.step.specs.Questions.{fein_asked_by, id_asked_by, fein_found, id_found}
use Rattle.step.specs.Steps.{ids_after, list_after, written, carried, out_of, open_step, line_step, end_step}
use Rattle.step.specs.declared.Move.{Move}

module _ (m : Move) (ids : List ℕ) (list : List Employer) where
  abbrev lent : Tables
  lent = tables ids list

  made : (moved : Moved) → moved_by m ≡ moved → out_of m.answer (written m.change lent) ≡ carried moved lent
  made moved e = ap (λ (x : Moved). carried x lent) e

  -- The tables as the two functions that carry out a change leave them.
  pub both_written : (ids' : List ℕ) (list' : List Employer) → ids' ≡ ids_after m.change ids → list' ≡ list_after m.change list
      → out_of m.answer (tables ids' list') ≡ out_of m.answer (written m.change lent)
  both_written ids' list' e₁ e₂ = λ i. out_of m.answer (tables (e₁ i) (e₂ i))

  pub open_carried : (held : Opening) → moved_by m ≡ open_moved held → out_of m.answer (written m.change lent) ≡ open_step held lent
  open_carried held e = made (open_moved held) e

  pub end_carried : (walk : Walk) → moved_by m ≡ end_moved (room_of lent) walk → out_of m.answer (written m.change lent) ≡ end_step walk lent
  end_carried walk e = made (end_moved (room_of lent) walk) e

  pub line_carried : (walk : Walk) (s : List ℕ) (repeated : Bool)
      → repeated ≡ fein_found (fein_asked_by walk.held.format s) walk.all.employers list
      → moved_by m ≡ line_seen (room_of lent) (record { fein = repeated; id = id_found (id_asked_by walk.held.format s) walk.used ids }) walk (first_line s)
      → out_of m.answer (written m.change lent) ≡ line_step walk (first_line s) lent
  line_carried walk s repeated asked e =
      let under = id_found (id_asked_by walk.held.format s) walk.used ids in
      made _
      (e
      ∙ ap (λ (b : Bool). line_seen (room_of lent) (record { fein = b; id = under }) walk (first_line s)) asked
      ∙ line_asked walk lent s)
