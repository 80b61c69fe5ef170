-- Laws: two files that are alike, after as many lines of each: what their records come to is the same,
-- but for the employees' numbers and for the sums of an E that is still open.
use Rattle.std.specs.Prelude.{ℕ, ◌+◌, List, [], ◌≡◌, leb, length}
use Rattle.std.proofs.Common.{ap, ap₂, ◌∙◌, arith}
use Rattle.calendar.specs.declared.Quarter.{Quarter}
use Rattle.lines.specs.Lines.{Line}
use Rattle.edits.specs.Counted.{without_sums, open_with, totals_with, open_but_sums, totals_but_sums}
use Rattle.edits.specs.declared.Open.{Open}
use Rattle.edits.specs.declared.Opening.{Opening}
use Rattle.edits.specs.declared.Phase.{Phase}
use Rattle.edits.specs.declared.Phase.TheVariants.{EOpen}
use Rattle.edits.specs.declared.Totals.{Totals}
use Rattle.shape.specs.Shape.{Shape}
use Rattle.shape.specs.declared.Said.{Said}
use Rattle.tables.specs.Room.{Room, entries_used}
use Rattle.tables.specs.Tables.{is_among}
use Rattle.tables.specs.declared.Employer.{Employer}
use Rattle.meaning.specs.Before.{phase_in, filed_in, open_in, ids_under, totals_in, feins_in, entries_in}
use Rattle.meaning.specs.Meaning.{context_at}
use Rattle.alike.specs.Alike.{under, repeats_after, wages_of, seconds_of}

pub record Level (p q : List Said) : Type 0 where
  pub lines : length p ≡ length q
  pub phase : phase_in p ≡ phase_in q
  pub filed : filed_in p ≡ filed_in q
  -- the open E, and the file, but for the sums
  pub this : open_but_sums (open_in p) ≡ open_but_sums (open_in q)
  pub all : totals_but_sums (totals_in p) ≡ totals_but_sums (totals_in q)
  pub used : length (ids_under p) ≡ length (ids_under q)
  pub feins : feins_in p ≡ feins_in q
  pub entries : entries_in p ≡ entries_in q
  pub sums : (totals_in p).sum + (open_in q).sum ≡ (totals_in q).sum + (open_in p).sum
  pub seconds : (totals_in p).second + (open_in q).second ≡ (totals_in q).second + (open_in p).second

-- The numbers other than zero under the open E are those that stand on the S records so far.
abbrev pub Holds : List Said → List ℕ → Type 0
Holds p earlier = (id : ℕ) → (id ≡ 0 → ⊥) → is_among id (ids_under p) ≡ is_among id earlier

-- The amounts under the open E are the same.
abbrev pub SameSums : List Said → List Said → Type 0
SameSums p q = ((open_in p).sum ≡ (open_in q).sum) × ((open_in p).second ≡ (open_in q).second)

-- No E is open; or one is, and the S records to come make its repeats and its sums alike.
pub data Run (s : Shape) (p q : List Said) (one other : List Line) : Type 0 where
  shut : (phase_in p ≡ EOpen → ⊥) → SameSums p q → ids_under p ≡ [] → ids_under q ≡ [] → Run s p q one other
  running : (earlier before : List ℕ) → Holds p earlier → Holds q before → repeats_after s earlier (under s one) ≡ repeats_after s before (under s other)
      → (open_in p).sum + wages_of s (under s one) ≡ (open_in q).sum + wages_of s (under s other)
      → (open_in p).second + seconds_of s (under s one) ≡ (open_in q).second + seconds_of s (under s other) → Run s p q one other

-- ---- what is the same
same_open : (a b : Open) → open_but_sums a ≡ open_but_sums b → a.sum ≡ b.sum → a.second ≡ b.second → a ≡ b
same_open a b rest sum second =
    ap₂ (open_with a a.count) sum second ∙ ap (λ (o : Open). open_with o o.count b.sum b.second) rest

same_totals : (a b : Totals) → totals_but_sums a ≡ totals_but_sums b → a.sum ≡ b.sum → a.second ≡ b.second → a ≡ b
same_totals a b rest sum second =
    ap₂ (totals_with a a.count a.employers) sum second ∙ ap (λ (t : Totals). totals_with t t.count t.employers b.sum b.second) rest

module _ (p q : List Said) (level : Level p q) where
  -- With the same sums under the open E all is the same.
  module _ (same : SameSums p q) where
    pub open_alike : open_in p ≡ open_in q
    open_alike = same_open (open_in p) (open_in q) level.this same.0 same.1

    pub totals_alike : totals_in p ≡ totals_in q
    totals_alike =
        same_totals (totals_in p) (totals_in q) level.all (omega (arith, level.sums, same.0)) (omega (arith, level.seconds, same.1))

    pub context_same : (room : Room) (held : Opening) → context_at room held p ≡ context_at room held q
    context_same room held = rw (level.phase, level.filed, level.used, open_alike, totals_alike)

  pub context_alike : (room : Room) (held : Opening) → without_sums (context_at room held p) ≡ without_sums (context_at room held q)
  context_alike room held =
      rw (level.phase, level.filed, level.used)
      (ap₂ (λ (this : Open) (all : Totals). record {
        phase = phase_in q;
        held = held;
        filed = filed_in q;
        «open» = this;
        all = all;
        ids_full = leb room.ids (length (ids_under q));
        list_full = leb (entries_used room) all.employers;
      }) level.this level.all)

-- All that the records come to, but for the numbers under the open E.
pub record Sum : Type 0 where
  pub lines : ℕ
  pub phase : Phase
  pub filed : Quarter
  pub this : Open
  pub all : Totals
  pub used : ℕ
  pub feins : List ℕ
  pub entries : List Employer

abbrev pub sum_of : List Said → Sum
sum_of p =
    record {
      lines = length p;
      phase = phase_in p;
      filed = filed_in p;
      this = open_in p;
      all = totals_in p;
      used = length (ids_under p);
      feins = feins_in p;
      entries = entries_in p;
    }

pub level_same : (p q : List Said) → sum_of p ≡ sum_of q → Level p q
level_same p q e =
    let this : open_in p ≡ open_in q = ap (λ (s : Sum). s.this) e in
    let all : totals_in p ≡ totals_in q = ap (λ (s : Sum). s.all) e in
    record {
      lines = ap (λ (s : Sum). s.lines) e;
      phase = ap (λ (s : Sum). s.phase) e;
      filed = ap (λ (s : Sum). s.filed) e;
      this = ap open_but_sums this;
      all = ap totals_but_sums all;
      used = ap (λ (s : Sum). s.used) e;
      feins = ap (λ (s : Sum). s.feins) e;
      entries = ap (λ (s : Sum). s.entries) e;
      sums = rw (this, all);
      seconds = rw (this, all);
    }
