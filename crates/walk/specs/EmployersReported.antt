-- Laws: employers_are: where a walk ends accepted, the employers reported are those of the file's E records,
-- with the counts and wage totals of the S records under each.
use Rattle.std.specs.Prelude.{ℕ, Bool, true, false, List, [], ◌≡◌, refl, length}
use Rattle.std.proofs.Common.{sym, ap, subst, ◌∙◌, arith}
use Rattle.reason.specs.ReasonNumbers.{Notice}
use Rattle.lines.specs.Lines.{lines_of}
use Rattle.edits.specs.Formats.{may_open}
use Rattle.edits.specs.declared.Opening.{Opening}
use Rattle.shape.specs.declared.Said.{Said}
use Rattle.tables.specs.Pad.{pad}
use Rattle.tables.specs.Room.{Tables, room_of}
use Rattle.tables.specs.Tables.{no_employer}
use Rattle.meaning.specs.Before.{entries_in, totals_in}
use Rattle.meaning.specs.Employers.{employers_are as employers-meant}
use Rattle.meaning.specs.Meaning as meant
use Rattle.meaning.specs.Meaning.{records_onto, Outcome, meaning}
use Rattle.meaning.specs.Theorems.{accepted_iff}
use Rattle.state.specs.Walks.{accepted, refused}
use Rattle.step.specs.Moves.{opening_notice}
use Rattle.step.specs.Steps.{Out}
use Rattle.walk.specs.Calls.{Lending, walked, leaves, whole_file}
use Rattle.walk.specs.WalkMeans.{walk_means}
use Rattle.walk.specs.AsInManual.{Reported}

not_accepted : (says : Notice) → refused says ≡ accepted → ⊥
not_accepted says e = let z : ◌≡◌ {A = ℕ} 0 1 = cc in omega arith

module _ (held : Opening) (file : List ℕ) (t : Tables) where
  abbrev records : List Said
  records = records_onto held.format [] (lines_of file)

  pub reported : (outcome : Outcome) → meaning (room_of t) held file ≡ outcome → (leaves (room_of t) held records outcome).walk.standing ≡ accepted
      → Reported held.format file t (leaves (room_of t) held records outcome)
  reported (meant.accepted entries totals) e ends =
      let is = employers-meant (room_of t) held file entries totals e in
      let iff = accepted_iff (room_of t) held file in
      let same = employers-meant (room_of t) held file (entries_in records) (totals_in records) (iff.0 (iff.1 entries totals e)) in
      record {
        list = ap (pad no_employer (length t.list)) is.0;
        ids = refl;
        all = same.1;
      }
  reported (meant.refused says) e ends = absurd (not_accepted says ends)

  whole_reported : (allowed : Bool) → may_open held ≡ allowed → (whole_file held file t).walk.standing ≡ accepted → Reported held.format file t (whole_file held file t)
  whole_reported true e ends =
      let same : whole_file held file t ≡ leaves (room_of t) held records (meaning (room_of t) held file) = rw e in
      subst (Reported held.format file t) (sym same) (reported (meaning (room_of t) held file) refl (sym (ap (λ (o : Out). o.walk.standing) same) ∙ ends))
  whole_reported false e ends =
      let same : (whole_file held file t).walk.standing ≡ refused (opening_notice held) = rw e in
      absurd (not_accepted (opening_notice held) (sym same ∙ ends))

  pub employers_are : (lend : ℕ → ℕ) → Lending held.format lend → (walked lend held file t).walk.standing ≡ accepted → Reported held.format file t (walked lend held file t)
  employers_are lend lending ends =
      let same = walk_means held lend lending file t in
      subst (Reported held.format file t) (sym same) (whole_reported (may_open held) refl (sym (ap (λ (o : Out). o.walk.standing) same) ∙ ends))
