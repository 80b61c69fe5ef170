-- Definitions: "Writing T and F .. into a lent slice of 275 bytes; no list is lent": what a call answers, and what is then in the slice.
use Rattle.std.specs.Prelude.{ℕ, ◌^◌, Bool, false, not, ◌&&◌, ◌||◌, List, eqb, leb, length}
use Rattle.edits.specs.Formats.{is_wham2024}
use Rattle.state.specs.Unfit.{is_open, unfit}
use Rattle.state.specs.Walks.{Standing, Walk}
use Rattle.wham_fields.specs.declared.Edition.TheVariants.{Of2024}
use Rattle.write.specs.Writing.{Writing, no_tables, is_after_t, none_to_total, refusal_of, writing}
use Rattle.wham_write.specs.Records.{amended_total, total_record, final_record}

-- Which refusals there are, their order and that they leave the slice untouched: `refusal_of` and `writing` (crate write, Writing), as for every format. What is
-- this format's own is when each is due.

-- Where T may come next, "E open", and where F may, "after T" or "E open, says 0". They are records of edition 2024: in a walk of another format neither may.
abbrev pub total_next : Walk → Bool
total_next walk = is_wham2024 walk.held.format && is_open walk.standing

abbrev pub is_ended : Standing → Bool → Bool
is_ended standing follow = is_after_t standing || (is_open standing && not follow)

abbrev pub final_next : Walk → Bool
final_next walk = is_wham2024 walk.held.format && is_ended walk.standing walk.open.follow

-- "82: T, payments of 10^11 or more, an amount for 175-188 or 213-226 of 10^14 or more"
abbrev pub too_large : ℕ → ℕ → ℕ → Bool
too_large payments original amended = leb (10 ^ 11) payments || leb (10 ^ 14) original || leb (10 ^ 14) amended

abbrev pub total_refusal : Walk → ℕ → ℕ → ℕ → ℕ
total_refusal walk payments amended size =
    refusal_of (unfit (no_tables walk) walk) (eqb size 275) (total_next walk) (none_to_total walk.open) (too_large payments walk.open.second amended)

-- "F, sum of 10^15 or more"
abbrev pub final_refusal : Walk → ℕ → ℕ
final_refusal walk size = refusal_of (unfit (no_tables walk) walk) (eqb size 275) (final_next walk) false (leb (10 ^ 15) walk.all.sum)

-- "T needs what no S record says: payments (T 112-122) and, read in 2020 only, the total of all employees (T 213-226)"
abbrev pub total_writing : Walk → ℕ → ℕ → List ℕ → Writing
total_writing walk payments total out =
    let amended = amended_total Of2024 walk.open total in
    writing (total_refusal walk payments amended (length out)) (total_record walk.open payments amended) out

abbrev pub final_writing : Walk → List ℕ → Writing
final_writing walk out = writing (final_refusal walk (length out)) (final_record walk.all) out
