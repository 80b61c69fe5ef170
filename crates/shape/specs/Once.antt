-- Laws: the promise of a verdict leaves room for one answer.
use Rattle.std.specs.Prelude.{◌≡◌, ℕ, Result, Ok, Err}
use Rattle.std.proofs.Common.{sym}
use Rattle.reason.specs.ReasonNumbers.{number_of}
use Rattle.reason.specs.Once.{same_number, same_broken}
use Rattle.shape.specs.Shape.{judged_by}
use Rattle.shape.specs.Theorems.{not_passed}
use Rattle.reason.specs.declared.Broken.{Broken}
use Rattle.shape.specs.declared.Said.{Said}

-- No second verdict on a line fits.
pub same_verdict : (a b : Result (ℕ × Said) Broken) → judged_by a ≡ judged_by b → a ≡ b
same_verdict (Ok (taken, said)) (Ok (bytes, says)) e =
    let size : taken ≡ bytes = cc in
    let record_said : said ≡ says = cc in
    cc
same_verdict (Ok (taken, said)) (Err it) e = absurd (not_passed it.0 (number_of it.1) taken said (sym e))
same_verdict (Err it) (Ok (taken, said)) e = absurd (not_passed it.0 (number_of it.1) taken said e)
same_verdict (Err a) (Err b) e =
    let column : a.0 ≡ b.0 = cc in
    let number : number_of a.1 ≡ number_of b.1 = cc in
    same_broken _ _ _ _ column (same_number a.1 b.1 number)
