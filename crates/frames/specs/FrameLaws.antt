-- Laws: how many bytes frames are, how a loop writes them, and what a call writes for a walk that stands for a file's meaning.
use Rattle.std.specs.Prelude.{ℕ, ◌+◌, ◌*◌, ◌^◌, ◌≤◌, ◌<◌, true, false, ◌≡◌, length, get_or, take, set}
use mathlib.Core.List.{List, [], ◌∷◌, ◌++◌, append_assoc, append-nil}
use Rattle.std.proofs.Math.Path.{refl, sym, ap}
use Rattle.std.proofs.Common.{◌∙◌, add_comm, mul-zero, mul-suc, add-one, arith, length-append, take-suc, length-take-le, lt-ltb, le-ltb}
use Rattle.reason.specs.ReasonNumbers.{Notice}
use Rattle.edits.specs.declared.Totals.{Totals}
use Rattle.edits.specs.declared.format.Format.{Format}
use Rattle.edits.specs.declared.format.Format.TheVariants.{Pfml, Wham2024, Unknown}
use Rattle.tables.specs.Pad.{pad}
use Rattle.tables.specs.PadLaws.{take_pad}
use Rattle.tables.specs.Tables.{no_employer}
use Rattle.tables.specs.declared.Employer.{Employer}
use Rattle.meaning.specs.Meaning.{Outcome, accepted, refused}
use Rattle.state.specs.Unfit.{unfit}
use Rattle.state.specs.Walks as walks
use Rattle.state.specs.Walks.{Standing, Walk}
use Rattle.frames.specs.HexLaws.{hex_length, hex_low}
use Rattle.frames.specs.Frames.{line_end, three_numbers, employer_frame, employer_size, employer_frames, closing_frame, refusal_frame, frames_of, bound, written, untouched, fitted, standing_frames, room_without, framing}
use Rattle.frames.specs.Pasted.{pasted, pasted_none, pasted_one, pasted_front, pasted_length, pasted_behind, then_pasted}

-- ---- lengths
pub three_length : (kind a b cents : ℕ) → length (three_numbers kind a b cents) ≡ 34
three_length kind a b cents = simp (length-append, hex_length)

pub employer_length : (format : Format) (e : Employer) → length (employer_frame format e) ≡ employer_size format
employer_length Pfml e = simp (length-append, hex_length)
employer_length Wham2024 e = simp (length-append, hex_length)
employer_length Unknown e = simp (length-append, hex_length)

-- No format has a longer frame than the wage file.
pub frames_most : (format : Format) (n : ℕ) → employer_size format * n ≤ 47 * n
frames_most Pfml n = omega arith
frames_most Wham2024 n = omega arith
frames_most Unknown n = omega arith

pub frames_length : (format : Format) (list : List Employer) → length (employer_frames format list) ≡ employer_size format * length list
unfolding employer_frames
frames_length format [] = sym (mul-zero (employer_size format))
frames_length format (e ∷ list) =
    length-append (employer_frame format e) (employer_frames format list)
    ∙ rw (employer_length format e, frames_length format list, mul-suc) (add_comm (employer_size format) (employer_size format * length list))

pub closing_length : (all : Totals) → length (closing_frame all) ≡ 35
closing_length all = simp (length-append, hex_length)

pub refusal_length : (says : Notice) → length (refusal_frame says) ≡ 17
refusal_length says = simp (length-append, hex_length)

accepted_length : (format : Format) (entries : List Employer) (all : Totals)
    → length (employer_frames format entries ++ closing_frame all) ≡ employer_size format * length entries + 35
accepted_length format entries all = rw (length-append, frames_length, closing_length)

-- The frames of any outcome are as many bytes as the bound says.
pub within_bound : (format : Format) (o : Outcome) → length (frames_of format o) ≡ bound format o
within_bound format (accepted entries totals) = accepted_length format entries totals
within_bound format (refused says) = refusal_length says

-- ---- an entry that a caller has altered
-- Each number of an entry has 8 bytes. In a frame 02 FEIN, count and date have 4, a flag has 1. Those of a file are small enough; of others the frame has
-- the last bytes.
pub employer_low : (e : Employer) (i j k l m : ℕ)
    → employer_frame Pfml
    (record {
      fein = e.fein + 2 ^ 32 * i;
      count = e.count + 2 ^ 32 * j;
      cents = e.cents;
      amended = e.amended + 2 ^ 8 * k;
      final_return = e.final_return + 2 ^ 8 * l;
      cease_date = e.cease_date + 2 ^ 32 * m;
    })
    ≡ employer_frame Pfml e
employer_low e i j k l m =
    rw (hex_low 8 e.fein i, hex_low 8 e.count j, hex_low 2 e.amended k, hex_low 2 e.final_return l, hex_low 8 e.cease_date m)

-- ---- a frame written part by part
-- The line's end after the parts.
pub line_ended : (at n : ℕ) (a out now : List ℕ) → length a ≡ n → at + n < length out → now ≡ pasted at a out
    → set now (at + n) 10 ≡ pasted at (a ++ line_end) out
line_ended at n a out now e h was =
    let kept = pasted_length out at a (rw e (omega arith)) in
    let last = pasted_one now (at + n) 10 (rw (was, kept) h) in
    then_pasted out at n a line_end now _ e (omega arith) was last

-- Four parts of so many bytes, and with the line's end.
module _ (at i j k : ℕ) (a b c d out o₁ o₂ o₃ o₄ : List ℕ) (is_i : length a ≡ i) (is_j : length b ≡ j) (is_k : length c ≡ k) where
  pub four_written : at ≤ length out → o₁ ≡ pasted at a out → o₂ ≡ pasted (at + i) b o₁ → o₃ ≡ pasted (at + (i + j)) c o₂
      → o₄ ≡ pasted (at + (i + j + k)) d o₃ → o₄ ≡ pasted at (a ++ b ++ c ++ d) out
  four_written within first second third fourth =
      let size₂ : length (a ++ b) ≡ i + j = rw (length-append, is_i, is_j) in
      let size₃ : length (a ++ b ++ c) ≡ i + j + k = rw (length-append, size₂, is_k) in
      let two = then_pasted out at i a b o₁ o₂ is_i within first second in
      let three = then_pasted out at (i + j) (a ++ b) c o₂ o₃ size₂ within two third in
      then_pasted out at (i + j + k) (a ++ b ++ c) d o₃ o₄ size₃ within three fourth

  pub frame_written : (l : ℕ) → length d ≡ l → at + (i + j + k + l) < length out → o₁ ≡ pasted at a out → o₂ ≡ pasted (at + i) b o₁
      → o₃ ≡ pasted (at + (i + j)) c o₂ → o₄ ≡ pasted (at + (i + j + k)) d o₃
      → set o₄ (at + (i + j + k + l)) 10 ≡ pasted at (a ++ b ++ c ++ d ++ line_end) out
  frame_written l is-l h first second third fourth =
      let size : length (a ++ b ++ c ++ d) ≡ i + j + k + l = simp (length-append, is_i, is_j, is_k, is-l) in
      line_ended at (i + j + k + l) (a ++ b ++ c ++ d) out o₄ size h (four_written (omega arith) first second third fourth)

-- ---- a loop over the employers
module _ (format : Format) where
  frames_append : (a b : List Employer) → employer_frames format (a ++ b) ≡ employer_frames format a ++ employer_frames format b
  unfolding employer_frames
  frames_append [] b = refl
  frames_append (e ∷ a) b =
      ap (λ (t : List ℕ). employer_frame format e ++ t) (frames_append a b)
      ∙ sym (append_assoc (employer_frame format e) (employer_frames format a) (employer_frames format b))

  one_frame : (e : Employer) → employer_frames format (e ∷ []) ≡ employer_frame format e
  unfolding employer_frames
  one_frame e = append-nil (employer_frame format e)

  frames_more : (list : List Employer) (i : ℕ) → i < length list
      → employer_frames format (take (i + 1) list) ≡ employer_frames format (take i list) ++ employer_frame format (get_or list i no_employer)
  frames_more list i h = rw (add-one, take-suc list i no_employer h, frames_append, one_frame)

  pub first_frames : (list : List Employer) (n : ℕ) → n ≤ length list → length (employer_frames format (take n list)) ≡ employer_size format * n
  first_frames list n h = rw (frames_length, length-take-le n list h)

  pub none_written : (list : List Employer) (out : List ℕ) → out ≡ pasted 0 (employer_frames format (take 0 list)) out
  unfolding employer_frames
  none_written list out = sym (pasted_none out 0)

  pub one_more : (list : List Employer) (i : ℕ) (out : List ℕ) → i < length list
      → pasted (employer_size format * i) (employer_frame format (get_or list i no_employer)) (pasted 0 (employer_frames format (take i list)) out)
      ≡ pasted 0 (employer_frames format (take (i + 1) list)) out
  one_more list i out h =
      pasted_behind out (employer_size format * i) (employer_frames format (take i list)) (employer_frame format (get_or list i no_employer))
      (first_frames list i (omega arith))
      ∙ rw (frames_more list i h)

-- ---- what a call answers
module _ (frames out : List ℕ) (n : ℕ) (e : length frames ≡ n) where
  pub too_small : length out < n → fitted frames out ≡ untouched 88 out
  too_small h = rw (e, lt-ltb (length out) n h)

  pub fits : (now : List ℕ) → n ≤ length out → now ≡ pasted 0 frames out → record { says = written n; out = now } ≡ fitted frames out
  fits now h is = rw (is, e, le-ltb (length out) n h, pasted_front out frames, e)

module _ (format : Format) (list : List Employer) (all : Totals) (within : all.employers ≤ length list) where
  abbrev front : List ℕ
  front = employer_frames format (take all.employers list)

  pub all_length : length (front ++ closing_frame all) ≡ employer_size format * all.employers + 35
  all_length = accepted_length format (take all.employers list) all ∙ rw (length-take-le all.employers list within)

  pub all_written : (out now next : List ℕ) → now ≡ pasted 0 front out → next ≡ pasted (employer_size format * all.employers) (closing_frame all) now
      → next ≡ pasted 0 (front ++ closing_frame all) out
  all_written out now next was is =
      is ∙ ap (pasted (employer_size format * all.employers) (closing_frame all)) was
      ∙ pasted_behind out (employer_size format * all.employers) front (closing_frame all) (first_frames format list all.employers within)

-- ---- the whole call
module _ (walk : Walk) (list : List Employer) (out : List ℕ) (n : ℕ) (e : length list ≡ n) where
  pub framing_unfit : unfit (record { ids = walk.used; list = n }) walk ≡ true → framing walk list out ≡ untouched 72 out
  unfolding framing
  framing_unfit u = rw (e, u)

  pub framing_fit : (s : Standing) → unfit (record { ids = walk.used; list = n }) walk ≡ false → walk.standing ≡ s
      → framing walk list out ≡ standing_frames walk list out s
  unfolding framing
  framing_fit s u same = rw (e, u, same)

-- ---- the meaning
-- A walk that is accepted, over a list that holds the employers of the file, writes the frames of its meaning; so does one that is refused.
module _ (walk : Walk) (out : List ℕ) where
  pub accepted_framed : (entries : List Employer) (n : ℕ) → unfit (room_without walk (pad no_employer n entries)) walk ≡ false
      → walk.standing ≡ walks.accepted → walk.all.employers ≡ length entries
      → framing walk (pad no_employer n entries) out ≡ fitted (frames_of walk.held.format (accepted entries walk.all)) out
  accepted_framed entries n e standing count =
      framing_fit walk (pad no_employer n entries) out _ refl walks.accepted e standing ∙ rw (count, take_pad no_employer n entries)

  pub refused_framed : (list : List Employer) (says : Notice) → unfit (room_without walk list) walk ≡ false → walk.standing ≡ walks.refused says
      → framing walk list out ≡ fitted (frames_of walk.held.format (refused says)) out
  refused_framed list says e standing = framing_fit walk list out _ refl (walks.refused says) e standing
