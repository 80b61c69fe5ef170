-- Definitions: the numbers of the open E and of the file, with some of them set and all others kept; and a context but for its sums.
use Rattle.std.specs.Prelude.{ℕ}
use Rattle.edits.specs.declared.Context.{Context}
use Rattle.edits.specs.declared.Open.{Open}
use Rattle.edits.specs.declared.Totals.{Totals}

-- The open E with so many S records under it and these two sums.
abbrev pub open_with : Open → ℕ → ℕ → ℕ → Open
open_with this count sum second =
    record {
      fein = this.fein;
      follow = this.follow;
      count = count;
      sum = sum;
      second = second;
      others = this.others;
      nearest = this.nearest;
      noted = this.noted;
      account_head = this.account_head;
      account_tail = this.account_tail;
    }

-- The file with so many S records, so many E records and these two sums.
abbrev pub totals_with : Totals → ℕ → ℕ → ℕ → ℕ → Totals
totals_with all count employers sum second =
    record { count = count; employers = employers; sum = sum; second = second; others = all.others; notes = all.notes }

-- Each but for the amounts added up in it.
abbrev pub open_but_sums : Open → Open
open_but_sums this = open_with this this.count 0 0

abbrev pub totals_but_sums : Totals → Totals
totals_but_sums all = totals_with all all.count all.employers 0 0

-- A context but for what is added up in it.
abbrev pub without_sums : Context → Context
without_sums here =
    record {
      phase = here.phase;
      held = here.held;
      filed = here.filed;
      «open» = open_but_sums here.open;
      all = totals_but_sums here.all;
      ids_full = here.ids_full;
      list_full = here.list_full;
    }
