-- Laws: the numbers lose nothing of an answer: no second answer, and no second content of the buffer, fits a promise.
use Rattle.std.specs.Prelude.{ℕ, List, ◌≡◌, refl, eqb, if◌then◌else◌, Result, Ok, Err}
use Rattle.std.proofs.Common.{sym, ap, ◌∙◌}
use Rattle.frames.specs.Frames.{FramedNumbers, framed_numbers, Framing, framed_by}
use Rattle.frames.specs.declared.Unframed.{Unframed}
use Rattle.frames.specs.declared.Unframed.TheVariants.{Unfit, NotEnded, TooSmall}

-- The answer that has these numbers.
abbrev framed_of : FramedNumbers → Result ℕ Unframed
framed_of says =
    if eqb says.number 0 then Ok says.bytes else
    if eqb says.number 72 then Err Unfit else
    if eqb says.number 87 then Err NotEnded else
    Err TooSmall

back : (framed : Result ℕ Unframed) → framed_of (framed_numbers framed) ≡ framed
back (Ok bytes) = refl
back (Err Unfit) = refl
back (Err NotEnded) = refl
back (Err TooSmall) = refl

pub same_framed : (a b : Result ℕ Unframed) → framed_numbers a ≡ framed_numbers b → a ≡ b
same_framed a b e = sym (back a) ∙ ap framed_of e ∙ back b

pub same_framing : (a b : Result ℕ Unframed) (out other : List ℕ) → framed_by a out ≡ framed_by b other → (a ≡ b) × (out ≡ other)
same_framing a b out other e = (same_framed a b (ap (λ (f : Framing). f.says) e), ap (λ (f : Framing). f.out) e)
