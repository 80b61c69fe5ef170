-- Laws: where F may come next: the last E has ended.
use Rattle.std.specs.Prelude.{Bool, true, false, ◌≡◌, refl}
use Rattle.std.proofs.lemmas.Bool.{false≢true}
use Rattle.std.proofs.Common.{inl, inr, ap, ap₂}
use Rattle.edits.specs.declared.Phase.{Phase}
use Rattle.edits.specs.declared.Phase.TheVariants.{BeforeA, AfterA, EOpen, AfterT, AfterF}
use Rattle.shape.specs.Fits.{EndsE}
use Rattle.state.specs.Walks.{Standing, reading, accepted, refused}
use Rattle.wham_write.specs.Writing.{is_ended}

pub record Ended (standing : Standing) (follow : Bool) : Type 0 where
  pub phase : Phase
  pub stands : standing ≡ reading phase
  pub ends : EndsE phase follow

pub ended_stands : (standing : Standing) (follow : Bool) → is_ended standing follow ≡ true → Ended standing follow
ended_stands (reading BeforeA) follow e = absurd (false≢true e)
ended_stands (reading AfterA) follow e = absurd (false≢true e)
ended_stands (reading EOpen) true e = absurd (false≢true e)
ended_stands (reading EOpen) false e = record { phase = EOpen; stands = refl; ends = inr (refl, refl) }
ended_stands (reading AfterT) follow e = record { phase = AfterT; stands = refl; ends = inl refl }
ended_stands (reading AfterF) follow e = absurd (false≢true e)
ended_stands accepted follow e = absurd (false≢true e)
ended_stands (refused says) follow e = absurd (false≢true e)

pub stands_ended : (phase : Phase) (follow : Bool) → EndsE phase follow → is_ended (reading phase) follow ≡ true
stands_ended phase follow (inl after) = ap (λ (p : Phase). is_ended (reading p) follow) after
stands_ended phase follow (inr ends) = ap₂ (λ (p : Phase) (says : Bool). is_ended (reading p) says) ends.0 ends.1
