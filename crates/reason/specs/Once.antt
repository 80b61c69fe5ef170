-- Laws: each number of the paper's table has one reason and each reason one number, so that a promise in numbers leaves room for one answer.
use Rattle.std.specs.Prelude.{ℕ, ◌<◌, Bool, true, List, [], ◌∷◌, ◌≡◌, refl, T, length, get_or, if◌then◌else◌, Result, Ok, Err, ⊤, false, ◌⊎◌}
use Rattle.std.proofs.Common.{sym, ap, ◌∙◌, inl, inr, eqb, arith, rules, eqb-true, eq-eqb, ne_eqb}
use Rattle.std.specs.Result.{result_unwrap_or}
use Rattle.laws.specs.Finding.{fine, broken, value, refused}
use Rattle.laws.specs.Table.{every, at}
use Rattle.reason.specs.ReasonNumbers.{number_of, reasons, having_number, reason_of, is_listed, reason_listed, finding_of, reading_of, Notice, notice_of, listed}
use Rattle.reason.specs.declared.Broken.{Broken}
use Rattle.reason.specs.declared.NotListed.{NotListed}
use Rattle.reason.specs.declared.Reason.{Reason}
use Rattle.reason.specs.declared.Refusal.{Refusal}
use Rattle.reason.specs.declared.Reason.TheVariants.{LineLength, NoLineEnd, BadCharacter, UnknownLetter, EndsBeforeA, EndsAfterA, EndsWithEOpen, EndsWithoutF, BeforeA, SecondA, SWithoutE, TWithoutE, FWithoutE, EWhileEOpen, SUnderZeroE, FWhileEOpen, SecondT, SecondF, BehindF, NotDigit, NotBlank, TextMissing, TextIndented, NotEntityCode, UnknownState, BadZip, BadZipExtension, YearTooEarly, YearTooLate, BadPeriod, PeriodTooLate, YearNotOfA, PeriodNotOfA, FeinPrefix, FeinRepeated, FeinNotOfE, BadFlag, NoDate, DateOutsideQuarter, DateNotFinal, DateMissing, IdentityPrefix, IdentityRepeated, BadNameCharacter, CountNotOfS, NoneUnderE, WagesNotOfS, FileCountNotOfS, FileCountNotOfE, FileWagesNotOfS, TooManyS, IdTableFull, EmployerListFull, FeinZero, NotFinal, BadQuarter, WalkEnded, StateUnfit, UnknownFormat, NotToBeWritten, NoneToTotal, SumTooLarge, SliceLength, BuildLength, ValueTooLong, DepositNotOfQuarter}

-- The reason is found again from its number.
pub found_again : (reason : Reason) → reason_of (number_of reason) ≡ reason
unfolding reason_of having_number
found_again LineLength = refl
found_again NoLineEnd = refl
found_again BadCharacter = refl
found_again UnknownLetter = refl
found_again EndsBeforeA = refl
found_again EndsAfterA = refl
found_again EndsWithEOpen = refl
found_again EndsWithoutF = refl
found_again BeforeA = refl
found_again SecondA = refl
found_again SWithoutE = refl
found_again TWithoutE = refl
found_again FWithoutE = refl
found_again EWhileEOpen = refl
found_again SUnderZeroE = refl
found_again FWhileEOpen = refl
found_again SecondT = refl
found_again SecondF = refl
found_again BehindF = refl
found_again NotDigit = refl
found_again NotBlank = refl
found_again TextMissing = refl
found_again TextIndented = refl
found_again NotEntityCode = refl
found_again UnknownState = refl
found_again BadZip = refl
found_again BadZipExtension = refl
found_again YearTooEarly = refl
found_again YearTooLate = refl
found_again BadPeriod = refl
found_again PeriodTooLate = refl
found_again YearNotOfA = refl
found_again PeriodNotOfA = refl
found_again FeinPrefix = refl
found_again FeinRepeated = refl
found_again FeinNotOfE = refl
found_again BadFlag = refl
found_again NoDate = refl
found_again DateOutsideQuarter = refl
found_again DateNotFinal = refl
found_again DateMissing = refl
found_again IdentityPrefix = refl
found_again IdentityRepeated = refl
found_again BadNameCharacter = refl
found_again CountNotOfS = refl
found_again NoneUnderE = refl
found_again WagesNotOfS = refl
found_again FileCountNotOfS = refl
found_again FileCountNotOfE = refl
found_again FileWagesNotOfS = refl
found_again TooManyS = refl
found_again IdTableFull = refl
found_again EmployerListFull = refl
found_again FeinZero = refl
found_again NotFinal = refl
found_again BadQuarter = refl
found_again WalkEnded = refl
found_again StateUnfit = refl
found_again UnknownFormat = refl
found_again NotToBeWritten = refl
found_again NoneToTotal = refl
found_again SumTooLarge = refl
found_again SliceLength = refl
found_again BuildLength = refl
found_again ValueTooLong = refl
found_again DepositNotOfQuarter = refl

-- Two reasons of one number are one reason.
pub same_number : (a b : Reason) → number_of a ≡ number_of b → a ≡ b
same_number a b e = sym (found_again a) ∙ ap reason_of e ∙ found_again b

-- The reason of a number is the one that has it; where no reason has it, that of 72.
pub has_number_lem : {reason : Reason} {n : ℕ} → n ≡ number_of reason → reason ≡ reason_of n
has_number_lem {reason} e = sym (ap reason_of e ∙ found_again reason)

-- That n is no number of the reasons in a list, one fact after the other, following what is known before.
abbrev NoneHas : ℕ → Type 0 → List Reason → Type 0
NoneHas n known [] = known
NoneHas n known (reason ∷ rest) = NoneHas n (known × (n ≡ number_of reason → ⊥)) rest

none_having : (n : ℕ) (known : Type 0) (list : List Reason) → NoneHas n known list → (having_number n list ≡ StateUnfit) × known
unfolding having_number
none_having n known [] facts = (refl, facts)
none_having n known (reason ∷ rest) facts =
    let later = none_having n (known × (n ≡ number_of reason → ⊥)) rest facts in
    (rw (ne_eqb n (number_of reason) later.1.1) later.0, later.1.0)

pub no_number : (n : ℕ) → NoneHas n Unit reasons → StateUnfit ≡ reason_of n
unfolding reason_of
no_number n facts = sym (none_having n Unit reasons facts).0

-- Every reason's number is in the table, and a number of the table is its reason's.
pub number_listed : (reason : Reason) → is_listed (number_of reason) ≡ true
unfolding is_listed
number_listed reason = eq-eqb _ _ (ap number_of (found_again reason))

pub listed_number : (n : ℕ) → is_listed n ≡ true → number_of (reason_of n) ≡ n
unfolding is_listed
listed_number n e = eqb-true (number_of (reason_of n)) n e

-- A number of the table has its reason; any other has none.
pub listed_lem : {reason : Reason} {n : ℕ} → n ≡ number_of reason → ◌≡◌ {A = Result Reason NotListed} (Ok reason) (reason_listed n)
listed_lem {reason} {n} e =
    let listed : is_listed n ≡ true = ap is_listed e ∙ number_listed reason in
    rw (listed, ← has_number_lem e)

pub not_listed : (n : ℕ) → NoneHas n Unit reasons → ◌≡◌ {A = Result Reason NotListed} (Err (record {})) (reason_listed n)
unfolding is_listed
not_listed n facts =
    let unfit = facts.0.0.0.0.0.0.0.0.1 in
    rw (← no_number n facts, ne_eqb 72 n (λ e. unfit (sym e)))

told_listed : (n : ℕ) (reason : Reason) (listed : Bool) → is_listed n ≡ listed
    → ◌≡◌ {A = Result Reason NotListed} (if listed then Ok (reason_of n) else Err (record {})) (Ok reason) → (is_listed n ≡ true) × (number_of reason ≡ n)
told_listed n reason true is e =
    let same : reason_of n ≡ reason = cc in
    (is, ap number_of (sym same) ∙ listed_number n is)
told_listed n reason false is e = absurd (search rules)

-- A reason that a number has is listed by that number.
pub has_listed : (n : ℕ) (reason : Reason) → reason_listed n ≡ Ok reason → (is_listed n ≡ true) × (number_of reason ≡ n)
has_listed n reason e = told_listed n reason (is_listed n) refl e

-- The reason that a list has for a number has it, or is that of 72.
having : (n : ℕ) (list : List Reason) → (number_of (having_number n list) ≡ n) ⊎ (having_number n list ≡ StateUnfit)
unfolding having_number
having n [] = inr refl
having n (reason ∷ rest) = by (having n rest) (eqb n (number_of reason)) refl
  where
    by : (number_of (having_number n rest) ≡ n) ⊎ (having_number n rest ≡ StateUnfit) → (same : Bool) → eqb n (number_of reason) ≡ same
        → (number_of (if same then reason else having_number n rest) ≡ n) ⊎ ((if same then reason else having_number n rest) ≡ StateUnfit)
    by later true e = inl (sym (eqb-true n (number_of reason) e))
    by later false e = later

-- A number that is not listed has the reason of 72.
unlisted : (n : ℕ) → is_listed n ≡ false → reason_of n ≡ StateUnfit
unfolding is_listed reason_of
unlisted n e = by (having n reasons)
  where
    by : (number_of (having_number n reasons) ≡ n) ⊎ (having_number n reasons ≡ StateUnfit) → having_number n reasons ≡ StateUnfit
    by (inl has) = absurd (search rules)
    by (inr unfit) = unfit

-- The reason of a number of the table, and of any other that of 72, is the number's reason.
pub listed_or_unfit : (n : ℕ) → result_unwrap_or (reason_listed n) StateUnfit ≡ reason_of n
listed_or_unfit n = by (is_listed n) refl
  where
    by : (listed : Bool) → is_listed n ≡ listed → result_unwrap_or {T = Reason} {E = NotListed} (if listed then Ok (reason_of n) else Err (record {})) StateUnfit ≡ reason_of n
    by true e = refl
    by false e = sym (unlisted n e)

-- 0 is "accepted": it is no reason's.
pub never_zero : (reason : Reason) → number_of reason ≡ 0 → ⊥
unfolding reason_of having_number
never_zero reason e =
    let this : reason ≡ StateUnfit = sym (found_again reason) ∙ ap reason_of e in
    let z : ◌≡◌ {A = ℕ} 0 72 = sym e ∙ ap number_of this in
    omega arith

-- Every number listed is the number of a reason.
right : ℕ → ℕ → Bool
right k n = is_listed n

all_right : T (every right 0 0 listed)
unfolding right listed is_listed reason_of having_number
all_right = tt

pub listed_has_reason : (k : ℕ) → k < length listed → number_of (reason_of (get_or listed k 0)) ≡ get_or listed k 0
unfolding right
listed_has_reason k h = listed_number (get_or listed k 0) (at right 0 listed all_right k h)

not_broken : (column number : ℕ) → fine ≡ broken column number → ⊥
not_broken column number e = let z : ◌≡◌ {A = ℕ} 0 1 = cc in omega arith

abbrev pub broken_at : ℕ → Reason → Broken
broken_at column reason = record { 0 = column; 1 = reason }

pub same_broken : {A : Type 0} (c d : ℕ) (r s : Reason) → c ≡ d → r ≡ s → ◌≡◌ {A = Result A Broken} (Err (broken_at c r)) (Err (broken_at d s))
same_broken c d r s column reason = rw (column, reason)

-- No second answer of an edit fits a finding.
pub same_finding : (a b : Result ⊤ Broken) → finding_of a ≡ finding_of b → a ≡ b
same_finding (Ok _) (Ok _) e = refl
same_finding (Ok _) (Err it) e = absurd (not_broken it.0 (number_of it.1) e)
same_finding (Err it) (Ok _) e = absurd (not_broken it.0 (number_of it.1) (sym e))
same_finding (Err a) (Err b) e =
    let column : a.0 ≡ b.0 = cc in
    let number : number_of a.1 ≡ number_of b.1 = cc in
    same_broken _ _ _ _ column (same_number a.1 b.1 number)

no_value : (column number v : ℕ) → refused column number ≡ value v → ⊥
no_value column number v e = let z : ◌≡◌ {A = ℕ} 0 1 = cc in omega arith

-- No second answer of a reader fits what it reads.
pub same_reading : (a b : Result ℕ Broken) → reading_of a ≡ reading_of b → a ≡ b
same_reading (Ok v) (Ok w) e = let same : v ≡ w = cc in cc
same_reading (Ok v) (Err it) e = absurd (no_value it.0 (number_of it.1) v (sym e))
same_reading (Err it) (Ok v) e = absurd (no_value it.0 (number_of it.1) v e)
same_reading (Err a) (Err b) e =
    let column : a.0 ≡ b.0 = cc in
    let number : number_of a.1 ≡ number_of b.1 = cc in
    same_broken _ _ _ _ column (same_number a.1 b.1 number)

abbrev refusal : ℕ → ℕ → Reason → Refusal
refusal line column reason = record { line = line; column = column; reason = reason }

same_parts : (l m c d : ℕ) (r s : Reason) → l ≡ m → c ≡ d → r ≡ s → refusal l c r ≡ refusal m d s
same_parts l m c d r s line column reason = rw (line, column, reason)

-- No second refusal fits a notice.
pub same_notice : (a b : Refusal) → notice_of a ≡ notice_of b → a ≡ b
same_notice a b e =
    same_parts a.line b.line a.column b.column a.reason b.reason
    (ap (λ (n : Notice). n.line) e) (ap (λ (n : Notice). n.column) e)
    (same_number a.reason b.reason (ap (λ (n : Notice). n.number) e))
