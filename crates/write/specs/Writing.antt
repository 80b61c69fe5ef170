-- Definitions: "Writing T or F into a lent slice": what a call answers, and what is then in the slice.
use Rattle.std.specs.Prelude.{ℕ, ◌^◌, Bool, true, false, not, ◌&&◌, List, eqb, leb, length, if◌then◌else◌, Result, Ok, Err, ⊤}
use Rattle.reason.specs.ReasonNumbers.{Notice, notice, notice_of}
use Rattle.edits.specs.Formats.{is_pfml}
use Rattle.edits.specs.declared.Open.{Open}
use Rattle.edits.specs.declared.Phase.TheVariants.{BeforeA, AfterA, EOpen, AfterT, AfterF}
use Rattle.tables.specs.Room.{Room}
use Rattle.state.specs.Unfit.{is_open, unfit}
use Rattle.state.specs.Walks.{Standing, reading, accepted, refused, Walk}
use Rattle.step.specs.Moves.{all_well}
use Rattle.write.specs.Records.{total_record, final_record}
use Rattle.reason.specs.declared.Refusal.{Refusal}

-- The answer in the paper's numbers, and the slice's bytes.
pub record Writing : Type 0 where
  pub says : Notice
  pub out : List ℕ

-- "A table the call isn't lent isn't compared": 72 is tested as if each had room for what is in use, and 65,536 employers still bind.
abbrev pub no_tables : Walk → Room
no_tables walk = record { ids = walk.used; list = walk.all.employers }

-- "F not right after a T, or a refused or ended walk"
abbrev pub is_after_t : Standing → Bool
is_after_t (reading BeforeA) = false
is_after_t (reading AfterA) = false
is_after_t (reading EOpen) = false
is_after_t (reading AfterT) = true
is_after_t (reading AfterF) = false
is_after_t accepted = false
is_after_t (refused says) = false

-- Whether T may come next, and whether F may. They are records of PFML: in a walk of another format neither may.
abbrev pub total_next : Walk → Bool
total_next walk = is_pfml walk.held.format && is_open walk.standing

abbrev pub final_next : Walk → Bool
final_next walk = is_pfml walk.held.format && is_after_t walk.standing

-- "T with no S under an E saying 1"
abbrev pub none_to_total : Open → Bool
none_to_total this = eqb this.count 0 && this.follow

-- The number of the refusal, "in order"; 0 where there is none. `long`: the slice has the record's length; `next`: the record may come next; `none`:
-- there is none to total; `large`: a number has more digits than its field. Every format refuses in this order; the words are PFML's.
unfoldable pub refusal_of : Bool → Bool → Bool → Bool → Bool → ℕ
refusal_of unfitness long next none large =
    -- "72"
    if unfitness then 72 else
    -- "slice not 290 bytes 83"
    if not long then 83 else
    -- "T with no E open, F not right after a T, or a refused or ended walk 80", or one of another format
    if not next then 80 else
    -- "T with no S under an E saying 1 81"
    if none then 81 else
    -- "T sum of 10^14 or more, F sum of 10^15 or more 82"
    if large then 82 else
    0

-- What the record's length is, when it may come next and when a number is too large is each format's own; here it is PFML's.
abbrev pub total_refusal : Walk → ℕ → ℕ
total_refusal walk size =
    refusal_of (unfit (no_tables walk) walk) (eqb size 290) (total_next walk) (none_to_total walk.open) (leb (10 ^ 14) walk.open.sum)

abbrev pub final_refusal : Walk → ℕ → ℕ
final_refusal walk size =
    refusal_of (unfit (no_tables walk) walk) (eqb size 290) (final_next walk) false (leb (10 ^ 15) walk.all.sum)

-- "Given only then, slice untouched. Otherwise the record". "80 to 83 give line 0, column 0."
abbrev pub writing : ℕ → List ℕ → List ℕ → Writing
writing number line out = record { says = notice number 0 0; out = if eqb number 0 then line else out }

abbrev pub total_writing : Walk → List ℕ → Writing
total_writing walk out = writing (total_refusal walk (length out)) (total_record walk.open) out

abbrev pub final_writing : Walk → List ℕ → Writing
final_writing walk out = writing (final_refusal walk (length out)) (final_record walk.all) out

-- What the code answers, in the paper's numbers, with what the slice then holds.
abbrev pub notice_in : Result ⊤ Refusal → Notice
notice_in (Ok _) = all_well
notice_in (Err why) = notice_of why

abbrev pub written_by : Result ⊤ Refusal → List ℕ → Writing
written_by wrote out = record { says = notice_in wrote; out = out }
