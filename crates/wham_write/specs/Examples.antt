-- Laws: records that are written, computed: a T with an amount due, one with a credit (the amount is that of 001 at T 123-136, in fourteen columns), and an F.
use Rattle.std.specs.Prelude.{ℕ, true, false, List, ◌++◌, ◌≡◌, refl}
use Rattle.laws.specs.Spelling.{bytes}
use Rattle.number.specs.Numbers.{put_digits, put_number}
use Rattle.text.specs.Put.{blanks, put_text}
use Rattle.edits.specs.declared.Open.{Open}
use Rattle.write.specs.Records.{put_all}
use Rattle.wham_write.specs.Records.{total_record, final_record}

-- Two S records, of 90.00 first and of an amended total.
abbrev opened : ℕ → Open
opened amended =
    record {
      fein = 10203040;
      follow = true;
      count = 2;
      sum = amended;
      second = 9000;
      others = 0;
      nearest = 0;
      noted = false;
      account_head = 0;
      account_tail = 0;
    }

-- The record with what is due, or the credit, and the amended total.
abbrev total : List ℕ → List ℕ → List ℕ → List ℕ
total payments due amended =
    bytes "T0000002WHAM" ++ blanks 99 ++ payments ++ due ++ blanks 38 ++ bytes "00000000009000" ++ blanks 24 ++ amended ++ blanks 49

pub some_due : total_record (opened 10000) 1070 10000 ≡ total (bytes "00000001070") (bytes "00000000008930") (bytes "00000000010000")
unfolding total_record put_all put_text put_number put_digits bytes
some_due = refl

pub a_credit : total_record (opened 1070) 10000 1070 ≡ total (bytes "00000010000") (bytes "-0000000008930") (bytes "00000000001070")
unfolding total_record put_all put_text put_number put_digits bytes
a_credit = refl

pub an_end : final_record (record { count = 2; employers = 1; sum = 10000; second = 9000; others = 0; notes = 0 })
    ≡ bytes "F00000000020000000001WHAM" ++ blanks 15 ++ bytes "000000000010000" ++ blanks 220
unfolding final_record put_all put_text put_number put_digits bytes
an_end = refl
