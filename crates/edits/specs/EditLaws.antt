-- Laws: the first broken edit of two lists, a list with none broken, and what makes the finding the first.
use Rattle.std.specs.Prelude.{ℕ, ◌≡◌, refl, List, [], ◌∷◌, ◌++◌}
use Rattle.std.proofs.Common.{sym, ap, ◌∙◌, arith}
use Rattle.laws.specs.Finding.{Finding, fine, broken, or_else}
use Rattle.edits.specs.Edit.{Edit, first_broken, AllFine}
use Rattle.edits.specs.Labels.{ByLabel, AllLabelled, FirstIn}
use Rattle.edits.specs.LabelLaws.{labelled_first}

-- ---- the first of two findings
pub or_fine : (f : Finding) → or_else f fine ≡ f
or_fine fine = refl
or_fine (broken column number) = refl

pub or_assoc : (a b c : Finding) → or_else (or_else a b) c ≡ or_else a (or_else b c)
or_assoc fine b c = refl
or_assoc (broken column number) b c = refl

pub or_same : (a b : Finding) → or_else a (or_else a b) ≡ or_else a b
or_same fine b = refl
or_same (broken column number) b = refl

-- ---- the first broken edit of two lists, one after the other
pub first_none : first_broken [] ≡ fine
unfolding first_broken
first_none = refl

pub first_cons : (edit : Edit) (edits : List Edit) → first_broken (edit ∷ edits) ≡ or_else edit.finds (first_broken edits)
unfolding first_broken
first_cons edit edits = refl

pub first_one : (edit : Edit) → first_broken (edit ∷ []) ≡ edit.finds
unfolding first_broken
first_one edit = or_fine edit.finds

pub first_append : (a b : List Edit) → first_broken (a ++ b) ≡ or_else (first_broken a) (first_broken b)
unfolding first_broken
first_append [] b = refl
first_append (edit ∷ edits) b =
    ap (or_else edit.finds) (first_append edits b) ∙ sym (or_assoc edit.finds (first_broken edits) (first_broken b))

-- ---- a list with none broken
pub not_broken : (column number : ℕ) → fine ≡ broken column number → ⊥
not_broken column number e = let z : ◌≡◌ {A = ℕ} 0 1 = cc in omega arith

-- Of two findings that come to nothing, each is nothing.
both_fine : (a b : Finding) → or_else a b ≡ fine → (a ≡ fine) × (b ≡ fine)
both_fine fine b e = (refl, e)
both_fine (broken column number) b e = absurd (not_broken column number (sym e))

pub fine_all : (edits : List Edit) → first_broken edits ≡ fine → AllFine edits
unfolding first_broken
fine_all [] e = tt
fine_all (edit ∷ edits) e = let both = both_fine edit.finds (first_broken edits) e in (both.0, fine_all edits both.1)

pub all_fine : (edits : List Edit) → AllFine edits → first_broken edits ≡ fine
unfolding first_broken
all_fine [] all = refl
all_fine (edit ∷ edits) all = rw all.0 (all_fine edits all.1)

-- Of two lists, one after the other, each has none broken.
pub all_append : (a b : List Edit) → AllFine (a ++ b) → AllFine a × AllFine b
all_append [] b all = (tt, all)
all_append (edit ∷ edits) b all = let rest = all_append edits b all.1 in ((all.0, rest.0), rest.1)

pub append_fine : (a b : List Edit) → first_broken (a ++ b) ≡ fine → (first_broken a ≡ fine) × (first_broken b ≡ fine)
append_fine a b e = both_fine (first_broken a) (first_broken b) (sym (first_append a b) ∙ e)

-- ---- the first
here_first : (edit : Edit) (edits : List Edit) (column number : ℕ) (f : Finding) → edit.finds ≡ f → or_else f (first_broken edits) ≡ broken column number
    → (edit.finds ≡ broken column number → ByLabel edit column number)
    → (first_broken edits ≡ broken column number → FirstIn edits column number) → FirstIn (edit ∷ edits) column number
here_first edit edits column number fine told e label rest =
    let r = rest e in
    record {
      earlier = edit ∷ r.earlier;
      edit = r.edit;
      later = r.later;
      stands = ap (λ (l : List Edit). edit ∷ l) r.stands;
      none_earlier = (told, r.none_earlier);
      hit = r.hit;
      by_label = r.by_label;
    }
here_first edit edits column number (broken c n) told e label rest =
    record {
      earlier = [];
      edit = edit;
      later = edits;
      stands = refl;
      none_earlier = tt;
      hit = told ∙ e;
      by_label = label (told ∙ e);
    }

-- A broken answer is the first broken edit.
pub first_of_list : (edits : List Edit) → AllLabelled edits → (column number : ℕ) → first_broken edits ≡ broken column number → FirstIn edits column number
unfolding first_broken
first_of_list [] all column number e = absurd (not_broken column number e)
first_of_list (edit ∷ edits) all column number e =
    let labels = labelled_first edit edits all in
    here_first edit edits column number edit.finds refl e (labels.0 column number) (first_of_list edits labels.1 column number)
