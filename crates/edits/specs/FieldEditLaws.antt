-- Laws: the field loop finds the first broken edit of the list of all fields' edits.
use Rattle.std.specs.Prelude.{ℕ, zero, suc, ◌+◌, ◌<◌, List, [], ◌∷◌, ◌++◌, ◌≡◌, refl, length, get_or}
use Rattle.std.proofs.Common.{sym, ap, ap₂, ◌∙◌, zero-add, not-suc-le-zero, le_of_suc-le-suc, add-one, arith}
use Rattle.laws.specs.Finding.{Finding, fine, or_else, first_of}
use Rattle.laws.specs.First.{first_same, first_shift}
use Rattle.field.specs.declared.class.Class.{Class}
use Rattle.edits.specs.Edit.{Edit, first_broken, AllFine}
use Rattle.edits.specs.EditLaws.{first_append, all_fine, all_append}
use Rattle.edits.specs.FieldRow.{row, no_row, class_in, first_in, last_in}
use Rattle.edits.specs.declared.Around.{Around}
use Rattle.edits.specs.Tests.{field_at, fields_test, AllWide}
use Rattle.edits.specs.FieldEdits.{edits_of, field_edits, context_of, context_edits}
use Rattle.edits.specs.Own.{own}
use Rattle.edits.specs.WithContext.{with_context}
use Rattle.edits.specs.declared.Rule.{Rule}
use Rattle.edits.specs.FieldParts.{field_parts}
use Rattle.field.specs.declared.class.Field.{Field}
use Rattle.edits.specs.declared.Rule.TheVariants.{Nothing}

-- What the edits of field k find.
abbrev found : Around → List ℕ → List Field → List Rule → ℕ → Finding
found a line rows rules k = first_broken (edits_of a line (get_or rows k no_row) (get_or rules k Nothing))

-- After the first row and its rule the rest is counted from 0 again.
behind : (a : Around) (line : List ℕ) (row : Field) (rows : List Field) (which : Rule) (rules : List Rule) (k : ℕ)
    → found a line (row ∷ rows) (which ∷ rules) (k + 1) ≡ found a line rows rules k
behind a line row rows which rules k = rw (add-one k)

behind_none : (a : Around) (line : List ℕ) (row : Field) (rows : List Field) (k : ℕ) → found a line (row ∷ rows) [] (k + 1) ≡ found a line rows [] k
behind_none a line row rows k = rw (add-one k)

in_order : (a : Around) (line : List ℕ) (rows : List Field) (rules : List Rule)
    → first_of (found a line rows rules) 0 (length rows) ≡ first_broken (field_edits a line rows rules)
unfolding first_of field_edits first_broken
in_order a line [] rules = refl
in_order a line (row ∷ rows) [] =
    let f = found a line (row ∷ rows) [] in
    let tail =
    first_shift f (length rows) 0
    ∙ first_same (λ k. f (k + 1)) (found a line rows []) (length rows) 0 (λ k h. behind_none a line row rows (0 + k))
    ∙ in_order a line rows [] in
    ap (or_else (first_broken (edits_of a line row Nothing))) tail ∙ sym (first_append (edits_of a line row Nothing) (field_edits a line rows []))
in_order a line (row ∷ rows) (which ∷ rules) =
    let f = found a line (row ∷ rows) (which ∷ rules) in
    let tail =
    first_shift f (length rows) 0
    ∙ first_same (λ k. f (k + 1)) (found a line rows rules) (length rows) 0 (λ k h. behind a line row rows which rules (0 + k))
    ∙ in_order a line rows rules in
    ap (or_else (first_broken (edits_of a line row which))) tail ∙ sym (first_append (edits_of a line row which) (field_edits a line rows rules))

pub fields_parts : (a : Around) (line : List ℕ) (rows : List Field) (rules : List Rule) → AllWide rows
    → fields_test a line rows rules ≡ first_broken (field_edits a line rows rules)
unfolding fields_test field_at
fields_parts a line rows rules wide =
    first_same (field_at a line rows rules) (found a line rows rules) (length rows) 0
    (λ k h. rw (zero-add k) (field_parts a line (class_in (get_or rows k no_row)) (get_or rules k Nothing) (first_in (get_or rows k no_row)) (last_in (get_or rows k no_row)) (wide k h)))
    ∙ in_order a line rows rules

-- A record of no fields has no edits.
pub no_fields : (a : Around) (line : List ℕ) (rules : List Rule) → first_broken (field_edits a line [] rules) ≡ fine
unfolding first_broken field_edits
no_fields a line rules = refl

pub none_listed : (a : Around) (line : List ℕ) (rules : List Rule) → field_edits a line [] rules ≡ []
unfolding field_edits
none_listed a line rules = refl

-- A field's edits, then those of the fields after it.
pub fields_cons : (a : Around) (line : List ℕ) (row : Field) (rows : List Field) (which : Rule) (rules : List Rule)
    → field_edits a line (row ∷ rows) (which ∷ rules) ≡ edits_of a line row which ++ field_edits a line rows rules
unfolding field_edits
fields_cons a line row rows which rules = refl

-- Where no edit of the fields is broken, none of any field is.
pub field_fine : (a : Around) (line : List ℕ) (rows : List Field) (rules : List Rule) → AllFine (field_edits a line rows rules)
    → (k : ℕ) → k < length rows → AllFine (edits_of a line (get_or rows k no_row) (get_or rules k Nothing))
unfolding field_edits
field_fine a line [] rules all k h = absurd (not-suc-le-zero h)
field_fine a line (row ∷ rows) [] all zero h = (all_append (edits_of a line row Nothing) (field_edits a line rows []) all).0
field_fine a line (row ∷ rows) [] all (suc k) h =
    field_fine a line rows [] (all_append (edits_of a line row Nothing) (field_edits a line rows []) all).1 k (le_of_suc-le-suc h)
field_fine a line (row ∷ rows) (which ∷ rules) all zero h = (all_append (edits_of a line row which) (field_edits a line rows rules) all).0
field_fine a line (row ∷ rows) (which ∷ rules) all (suc k) h =
    field_fine a line rows rules (all_append (edits_of a line row which) (field_edits a line rows rules) all).1 k (le_of_suc-le-suc h)

-- Of a field of this class and rule, none of its own edits and none of the rule's.
pub at_row : (a : Around) (text : List ℕ) (rows : List Field) (rules : List Rule) (k : ℕ) (class : Class) (which : Rule) (first last : ℕ)
    → AllFine (field_edits a text rows rules) → k < length rows → get_or rows k no_row ≡ row class first last → get_or rules k Nothing ≡ which
    → AllFine (own a.landmarks a.code class text first last) × AllFine (with_context which a.landmarks a.here a.seen text first last)
at_row a text rows rules k class which first last all h this ruled =
    all_append (own a.landmarks a.code class text first last) (with_context which a.landmarks a.here a.seen text first last)
    (rw (this, ruled) at (field_fine a text rows rules all k h))

-- Where no own edit of any field is broken, those with a context are left.
own_passes : (own_edits context rest left : List Edit) → AllFine own_edits → first_broken rest ≡ first_broken left
    → first_broken ((own_edits ++ context) ++ rest) ≡ first_broken (context ++ left)
own_passes own_edits context rest left all e =
    first_append (own_edits ++ context) rest
    ∙ rw (first_append own_edits context, all_fine own_edits all, e) (sym (first_append context left))

pub context_left : (a : Around) (line : List ℕ) (rows : List Field) (rules : List Rule)
    → ((k : ℕ) → k < length rows → AllFine (own a.landmarks a.code (class_in (get_or rows k no_row)) line (first_in (get_or rows k no_row)) (last_in (get_or rows k no_row))))
    → first_broken (field_edits a line rows rules) ≡ first_broken (context_edits a line rows rules)
unfolding field_edits context_edits
context_left a line [] rules own_fine = refl
context_left a line (row ∷ rows) [] own_fine =
    own_passes (own a.landmarks a.code (class_in row) line (first_in row) (last_in row)) (context_of a line row Nothing) (field_edits a line rows [])
    (context_edits a line rows []) (own_fine 0 (omega arith)) (context_left a line rows [] (λ k h. own_fine (suc k) (omega arith)))
context_left a line (row ∷ rows) (which ∷ rules) own_fine =
    own_passes (own a.landmarks a.code (class_in row) line (first_in row) (last_in row)) (context_of a line row which) (field_edits a line rows rules)
    (context_edits a line rows rules) (own_fine 0 (omega arith)) (context_left a line rows rules (λ k h. own_fine (suc k) (omega arith)))

-- Where each field's edits are the same in two lines, so are those of all fields.
pub rows_same : (a b : Around) (u v : List ℕ) (rows : List Field) (rules : List Rule)
    → ((k : ℕ) → k < length rows → edits_of a u (get_or rows k no_row) (get_or rules k Nothing) ≡ edits_of b v (get_or rows k no_row) (get_or rules k Nothing))
    → field_edits a u rows rules ≡ field_edits b v rows rules
unfolding field_edits
rows_same a b u v [] rules each = refl
rows_same a b u v (row ∷ rows) [] each =
    ap₂ ◌++◌ (each 0 (omega arith)) (rows_same a b u v rows [] (λ k h. each (suc k) (omega arith)))
rows_same a b u v (row ∷ rows) (which ∷ rules) each =
    ap₂ ◌++◌ (each 0 (omega arith)) (rows_same a b u v rows rules (λ k h. each (suc k) (omega arith)))
