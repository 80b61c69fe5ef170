-- Laws: what a call answers, by cases: the state is unfit, or the answer rests on where the walk stands.
use Rattle.std.specs.Prelude.{Bool, ◌≡◌, if◌then◌else◌}
use Rattle.std.proofs.Math.Bool.{true, false}
use Rattle.std.proofs.Common.{ap}
use Rattle.lines.specs.Lines.{Line}
use Rattle.tables.specs.Room.{Room}
use Rattle.edits.specs.Formats.{may_open}
use Rattle.edits.specs.declared.Opening.{Opening}
use Rattle.edits.specs.declared.Seen.{Seen}
use Rattle.state.specs.Unfit.{unfit}
use Rattle.state.specs.Walks.{Standing, Walk, opened_walk, refused_walk}
use Rattle.step.specs.Moves.{Moved, all_well, stays, by_standing, line_seen, end_standing, end_moved, opening_notice, open_moved}
use Rattle.step.specs.declared.Change.TheVariants.{Nothing, Clear}

module _ (room : Room) (walk : Walk) where
  pub line_unfit : (seen : Seen) (line : Line) → unfit room walk ≡ true → line_seen room seen walk line ≡ stays 72 walk
  unfolding line_seen
  line_unfit seen line e = rw e

  pub line_fit : (seen : Seen) (line : Line) (standing : Standing) → unfit room walk ≡ false → walk.standing ≡ standing
      → line_seen room seen walk line ≡ by_standing room seen line walk standing
  unfolding line_seen
  line_fit seen line standing e stands = rw e (ap (by_standing room seen line walk) stands)

  -- Whatever holds of 72 and of every standing holds of the line's answer.
  pub line_cases : (P : Moved → Type 0) (seen : Seen) (line : Line) → P (stays 72 walk) → ((standing : Standing) → P (by_standing room seen line walk standing))
      → P (line_seen room seen walk line)
  unfolding line_seen
  line_cases P seen line unfit-holds holds = at (unfit room walk) where
    at : (b : Bool) → P (if b then stays 72 walk else by_standing room seen line walk walk.standing)
    at true = unfit-holds
    at false = holds walk.standing

  -- Two lines that are answered the same wherever the walk stands.
  pub line_alike : (seen other : Seen) (line next : Line)
      → ((standing : Standing) → by_standing room seen line walk standing ≡ by_standing room other next walk standing)
      → line_seen room seen walk line ≡ line_seen room other walk next
  unfolding line_seen
  line_alike seen other line next same = rw (same walk.standing)

  pub end_unfit : unfit room walk ≡ true → end_moved room walk ≡ stays 72 walk
  unfolding end_moved
  end_unfit e = rw e

  pub end_fit : (standing : Standing) → unfit room walk ≡ false → walk.standing ≡ standing → end_moved room walk ≡ end_standing walk standing
  unfolding end_moved
  end_fit standing e stands = rw e (ap (end_standing walk) stands)

module _ (held : Opening) where
  pub open_allowed : may_open held ≡ true
      → open_moved held ≡ record { says = all_well; taken = 0; walk = opened_walk held; change = Clear }
  unfolding open_moved
  open_allowed e = rw e

  pub open_refused : may_open held ≡ false
      → open_moved held ≡ record { says = opening_notice held; taken = 0; walk = refused_walk held.format (opening_notice held); change = Nothing }
  unfolding open_moved
  open_refused e = rw e
