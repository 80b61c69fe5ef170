-- Laws: what is looked up for a line is what it asks.
use Rattle.std.specs.Prelude.{ℕ, ◌<◌, List, Option, Some, None, ◌≡◌, refl, take}
use Rattle.std.proofs.Common.{ap, subst, ◌∙◌}
use Rattle.lines.specs.Lines.{first_line}
use Rattle.chars.specs.Characters.{capitals}
use Rattle.edits.specs.declared.Seen.{Seen}
use Rattle.edits.specs.declared.format.Format.{Format}
use Rattle.shape.specs.Fits.{Bounded}
use Rattle.shape.specs.Shape.{Shape, id_asked, answered}
use Rattle.shape.specs.declared.Said.{Said}
use Rattle.shape.specs.declared.Said.TheVariants.{OfA, OfE, OfS, OfT, OfF, OfNote, OfNone}
use Rattle.record.specs.ShapeOf.{shape_of}
use Rattle.record.specs.Judge.{seen_on}
use Rattle.record.specs.Laws.{asked_of_bytes, lawful_of}
use Rattle.tables.specs.Room.{Tables, room_of}
use Rattle.tables.specs.Tables.{is_among, feins_of}
use Rattle.tables.specs.declared.Employer.{Employer}
use Rattle.state.specs.Walks.{Standing, reading, accepted, refused, Walk}
use Rattle.step.specs.MoveLaws.{line_alike}
use Rattle.step.specs.Moves.{context_of, by_verdict, by_standing, line_seen, line_moved}
use Rattle.step.specs.Questions.{fein_asked_by, id_asked_by, fein_found, id_found}
use Rattle.step.specs.Steps.{listed_fein, listed_id}

-- ---- an identity number that is asked for fits the id table's 32 bits
id_small : (s : Shape) (said : Said) (id : ℕ) → Bounded s said → id_asked said ≡ Some id → id < 1000000000
id_small s (OfA quarter) id bounded e = cc
id_small s (OfE employer) id bounded e = cc
id_small s (OfS employee) id bounded e = let same : employee.id ≡ id = cc in subst (λ n. n < 1000000000) same bounded.0
id_small s OfT id bounded e = cc
id_small s OfF id bounded e = cc
id_small s (OfNote note) id bounded e = cc
id_small s OfNone id bounded e = cc

pub asked_small : (format : Format) (bytes : List ℕ) (id : ℕ) → id_asked_by format bytes ≡ Some id → id < 1000000000
asked_small format bytes id = id_small (shape_of format) ((shape_of format).says (capitals bytes)) id ((lawful_of format).bounded (capitals bytes))

-- ---- what is found is the answer to what is asked
feins_among : (asked : Option ℕ) (employers : ℕ) (list : List Employer)
    → fein_found asked employers list ≡ answered asked (λ fein. is_among fein (feins_of (take employers list)))
feins_among None employers list = refl
feins_among (Some fein) employers list = refl

ids_among : (asked : Option ℕ) (used : ℕ) (ids : List ℕ) → id_found asked used ids ≡ answered asked (λ id. is_among id (take used ids))
ids_among None used ids = refl
ids_among (Some id) used ids = refl

module _ (walk : Walk) (t : Tables) where
  -- What the tables tell of the numbers that the record in front of the bytes asks for.
  abbrev pub looked_up : List ℕ → Seen
  looked_up bytes =
      record {
        fein = fein_found (fein_asked_by walk.held.format bytes) walk.all.employers t.list;
        id = id_found (id_asked_by walk.held.format bytes) walk.used t.ids;
      }

  looked_up_lem : (bytes : List ℕ) → looked_up bytes ≡ seen_on walk.held.format (listed_fein walk t) (listed_id walk t) (capitals bytes)
  looked_up_lem bytes =
      let fein = fein_asked_by walk.held.format bytes in
      let id = id_asked_by walk.held.format bytes in
      rw (feins_among fein walk.all.employers t.list, ids_among id walk.used t.ids)

  asked_standing : (s : List ℕ) (standing : Standing)
      → by_standing (room_of t) (seen_on walk.held.format (listed_fein walk t) (listed_id walk t) (capitals s)) (first_line s) walk standing
      ≡ by_standing (room_of t) (seen_on walk.held.format (listed_fein walk t) (listed_id walk t) (capitals (first_line s).text)) (first_line s) walk standing
  asked_standing s (reading phase) = ap (by_verdict walk) (asked_of_bytes (context_of (room_of t) walk phase) (listed_fein walk t) (listed_id walk t) s)
  asked_standing s accepted = refl
  asked_standing s (refused says) = refl

  asked_line : (s : List ℕ) → line_seen (room_of t) (seen_on walk.held.format (listed_fein walk t) (listed_id walk t) (capitals s)) walk (first_line s)
      ≡ line_moved (room_of t) (listed_fein walk t) (listed_id walk t) walk (first_line s)
  asked_line s = line_alike (room_of t) walk _ _ (first_line s) (first_line s) (asked_standing s)

  pub line_asked : (s : List ℕ) → line_seen (room_of t) (looked_up s) walk (first_line s) ≡ line_moved (room_of t) (listed_fein walk t) (listed_id walk t) walk (first_line s)
  line_asked s = ap (λ (seen : Seen). line_seen (room_of t) seen walk (first_line s)) (looked_up_lem s) ∙ asked_line s
