-- Definitions: the paper's number of each reason, the numbers of its table, and what an edit finds in the paper's numbers.
use Rattle.std.specs.Prelude.{ℕ, zero, suc, Bool, List, [], ◌∷◌, ◌++◌, eqb, if◌then◌else◌, Result, Ok, Err, ⊤}
use Rattle.laws.specs.Finding.{Finding, fine, broken, Reading, value, refused}
use Rattle.reason.specs.declared.Broken.{Broken}
use Rattle.reason.specs.declared.NotListed.{NotListed}
use Rattle.reason.specs.declared.Reason.{Reason}
use Rattle.reason.specs.declared.Refusal.{Refusal}
use Rattle.reason.specs.declared.Reason.TheVariants.{LineLength, NoLineEnd, BadCharacter, UnknownLetter, EndsBeforeA, EndsAfterA, EndsWithEOpen, EndsWithoutF, BeforeA, SecondA, SWithoutE, TWithoutE, FWithoutE, EWhileEOpen, SUnderZeroE, FWhileEOpen, SecondT, SecondF, BehindF, NotDigit, NotBlank, TextMissing, TextIndented, NotEntityCode, UnknownState, BadZip, BadZipExtension, YearTooEarly, YearTooLate, BadPeriod, PeriodTooLate, YearNotOfA, PeriodNotOfA, FeinPrefix, FeinRepeated, FeinNotOfE, BadFlag, NoDate, DateOutsideQuarter, DateNotFinal, DateMissing, IdentityPrefix, IdentityRepeated, BadNameCharacter, CountNotOfS, NoneUnderE, WagesNotOfS, FileCountNotOfS, FileCountNotOfE, FileWagesNotOfS, TooManyS, IdTableFull, EmployerListFull, FeinZero, NotFinal, BadQuarter, WalkEnded, StateUnfit, UnknownFormat, NotToBeWritten, NoneToTotal, SumTooLarge, SliceLength, BuildLength, ValueTooLong, DepositNotOfQuarter}

abbrev pub number_of : Reason → ℕ
number_of LineLength = 1
number_of NoLineEnd = 2
number_of BadCharacter = 3
number_of UnknownLetter = 4
number_of EndsBeforeA = 5
number_of EndsAfterA = 6
number_of EndsWithEOpen = 7
number_of EndsWithoutF = 8
number_of BeforeA = 10
number_of SecondA = 11
number_of SWithoutE = 12
number_of TWithoutE = 13
number_of FWithoutE = 14
number_of EWhileEOpen = 15
number_of SUnderZeroE = 16
number_of FWhileEOpen = 17
number_of SecondT = 18
number_of SecondF = 19
number_of BehindF = 20
number_of NotDigit = 30
number_of NotBlank = 31
number_of TextMissing = 32
number_of TextIndented = 33
number_of NotEntityCode = 34
number_of UnknownState = 35
number_of BadZip = 36
number_of BadZipExtension = 37
number_of YearTooEarly = 38
number_of YearTooLate = 39
number_of BadPeriod = 40
number_of PeriodTooLate = 41
number_of YearNotOfA = 42
number_of PeriodNotOfA = 43
number_of FeinPrefix = 44
number_of FeinRepeated = 45
number_of FeinNotOfE = 46
number_of BadFlag = 47
number_of NoDate = 48
number_of DateOutsideQuarter = 49
number_of DateNotFinal = 50
number_of DateMissing = 51
number_of IdentityPrefix = 52
number_of IdentityRepeated = 53
number_of BadNameCharacter = 54
number_of CountNotOfS = 55
number_of NoneUnderE = 56
number_of WagesNotOfS = 57
number_of FileCountNotOfS = 58
number_of FileCountNotOfE = 59
number_of FileWagesNotOfS = 60
number_of TooManyS = 61
number_of IdTableFull = 62
number_of EmployerListFull = 63
number_of FeinZero = 64
number_of NotFinal = 65
number_of BadQuarter = 70
number_of WalkEnded = 71
number_of StateUnfit = 72
number_of UnknownFormat = 73
number_of NotToBeWritten = 80
number_of NoneToTotal = 81
number_of SumTooLarge = 82
number_of SliceLength = 83
number_of BuildLength = 84
number_of ValueTooLong = 85
number_of DepositNotOfQuarter = 91

-- Every reason.
abbrev pub reasons : List Reason
reasons =
    LineLength ∷ NoLineEnd ∷ BadCharacter ∷ UnknownLetter ∷ EndsBeforeA ∷ EndsAfterA ∷ EndsWithEOpen ∷ EndsWithoutF ∷ BeforeA ∷ SecondA ∷ SWithoutE ∷
    TWithoutE ∷ FWithoutE ∷ EWhileEOpen ∷ SUnderZeroE ∷ FWhileEOpen ∷ SecondT ∷ SecondF ∷ BehindF ∷ NotDigit ∷ NotBlank ∷ TextMissing ∷ TextIndented ∷
    NotEntityCode ∷ UnknownState ∷ BadZip ∷ BadZipExtension ∷ YearTooEarly ∷ YearTooLate ∷ BadPeriod ∷ PeriodTooLate ∷ YearNotOfA ∷ PeriodNotOfA ∷
    FeinPrefix ∷ FeinRepeated ∷ FeinNotOfE ∷ BadFlag ∷ NoDate ∷ DateOutsideQuarter ∷ DateNotFinal ∷ DateMissing ∷ IdentityPrefix ∷ IdentityRepeated ∷
    BadNameCharacter ∷ CountNotOfS ∷ NoneUnderE ∷ WagesNotOfS ∷ FileCountNotOfS ∷ FileCountNotOfE ∷ FileWagesNotOfS ∷ TooManyS ∷ IdTableFull ∷
    EmployerListFull ∷ FeinZero ∷ NotFinal ∷ BadQuarter ∷ WalkEnded ∷ StateUnfit ∷ UnknownFormat ∷ NotToBeWritten ∷ NoneToTotal ∷ SumTooLarge ∷ SliceLength ∷ BuildLength ∷ ValueTooLong ∷
    DepositNotOfQuarter ∷ []

-- The first of them that has a number; where none has it, the reason of 72.
unfoldable pub having_number : ℕ → List Reason → Reason
having_number n [] = StateUnfit
having_number n (reason ∷ rest) = if eqb n (number_of reason) then reason else having_number n rest

-- The reason that has a number.
unfoldable pub reason_of : ℕ → Reason
reason_of n = having_number n reasons

-- Whether a number is one of the paper's table.
unfoldable pub is_listed : ℕ → Bool
is_listed n = eqb (number_of (reason_of n)) n

-- The reason of a number of the table; of no other number is there one.
abbrev pub reason_listed : ℕ → Result Reason NotListed
reason_listed n = if is_listed n then Ok (reason_of n) else Err (record {})

-- The column, and the number of the reason.
abbrev pub finding_of : Result ⊤ Broken → Finding
finding_of (Ok _) = fine
finding_of (Err it) = broken it.0 (number_of it.1)

-- The same of what is read: its number, or the column and the number of the reason.
abbrev pub reading_of : Result ℕ Broken → Reading
reading_of (Ok v) = value v
reading_of (Err it) = refused it.0 (number_of it.1)

-- What a call answers, in the paper's numbers: 0 is "accepted", with line 0 and column 0.
pub record Notice : Type 0 where
  pub number : ℕ
  pub line : ℕ
  pub column : ℕ

abbrev pub notice : ℕ → ℕ → ℕ → Notice
notice number line column = record { number = number; line = line; column = column }

-- "A refusal is a place together with the reason"
abbrev pub notice_of : Refusal → Notice
notice_of refusal = notice (number_of refusal.reason) refusal.line refusal.column

-- So many numbers from the first on.
abbrev from : ℕ → ℕ → List ℕ
from first zero = []
from first (suc count) = first ∷ from (suc first) count

-- The numbers that a reason has: 1 to 8, 10 to 20, 30 to 65, 70 to 73, 80 to 85.
unfoldable pub listed : List ℕ
listed = from 1 8 ++ from 10 11 ++ from 30 36 ++ from 70 4 ++ from 80 6
