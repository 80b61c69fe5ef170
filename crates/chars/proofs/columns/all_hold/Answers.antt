-- What each sweep tells is what the columns hold.
use Rattle.std.proofs.Common.{rules}
use Rattle.chars.specs.Sweep.{anything_sweep, may_stand, none_at_0, sweep}
use Rattle.chars.specs.declared.columns.Allowed.TheVariants.{Permitted, Blanks, Digits, OfNames}
use Rattle.chars.proofs.columns.all_hold.Goals as goal

pub returns-in-Anything : goal.returns-in-Anything
returns-in-Anything c = rw (c.in-Anything.is, anything_sweep)

pub returns-in-Permitted : goal.returns-in-Permitted
returns-in-Permitted c =
    let told = c.all_pass.ensures (may_stand Permitted) (λ x passes small is. search rules) none_at_0.0 in
    rw (c.in-Permitted.is, sweep) (cc)

pub returns-in-Blanks : goal.returns-in-Blanks
returns-in-Blanks c =
    let told = c.all_pass-in-Blanks.ensures (may_stand Blanks) (λ x passes small is. search rules) none_at_0.1 in
    rw (c.in-Blanks.is, sweep) (cc)

pub returns-in-Digits : goal.returns-in-Digits
returns-in-Digits c =
    let told = c.all_pass-in-Digits.ensures (may_stand Digits) (λ x passes small is. search rules) none_at_0.2 in
    rw (c.in-Digits.is, sweep) (cc)

pub returns-in-OfNames : goal.returns-in-OfNames
returns-in-OfNames c =
    let told = c.all_pass-in-OfNames.ensures (may_stand OfNames) (λ x passes small is. search rules) none_at_0.3 in
    rw (c.in-OfNames.is, sweep) (cc)
