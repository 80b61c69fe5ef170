-- Laws: a record of parts, with an end and any bytes after it, as the line that a call reads; a walk accepts it where the format's judge passes it.
use Rattle.std.specs.Prelude.{ℕ, ◌<◌, false, List, ◌++◌, ◌≡◌, T, length, get_or}
use Rattle.std.proofs.Common.{ap, sym, ◌∙◌, arith}
use Rattle.laws.specs.Finding.{fine, value}
use Rattle.lines.specs.Cutting.{cutting}
use Rattle.lines.specs.MadeLines.{made_text, made_cut}
use Rattle.lines.specs.LineEnds.{LineEnd, end_bytes}
use Rattle.lines.specs.Lines.{Line, first_line, size_of}
use Rattle.chars.specs.Characters.{capitals}
use Rattle.chars.specs.CharacterLaws.{capitals_already}
use Rattle.chars.specs.Columns.{every_column}
use Rattle.chars.specs.ColumnLaws.{columns_fine, column_permitted}
use Rattle.chars.specs.declared.columns.Allowed.TheVariants.{Permitted}
use Rattle.edits.specs.declared.Phase.{Phase}
use Rattle.edits.specs.declared.Seen.{Seen}
use Rattle.shape.specs.Shape.{passed}
use Rattle.shape.specs.declared.Said.{Said}
use Rattle.record.specs.Judge.{judge}
use Rattle.tables.specs.Room.{Tables, room_of}
use Rattle.state.specs.Unfit.{unfit}
use Rattle.state.specs.Walks.{reading, Walk}
use Rattle.step.specs.Moves.{context_of}
use Rattle.step.specs.Steps.{Out}
use Rattle.write.specs.Accepted.{asked, passing_accepted}
use Rattle.write.specs.NextAccepted.{AcceptedNext}
use Rattle.write.specs.PartLaws.{tiles, AllFit, Plain, record_length, record_plain}
use Rattle.write.specs.Records.{Part, line_of}

-- A line that holds a record of n characters: it is read so, it is cut off as a line, and its characters are permitted.
pub record Holding (n : ℕ) (text : List ℕ) (line : Line) : Type 0 where
  pub read : capitals line.text ≡ text
  pub taken : cutting n line ≡ value (size_of line)
  pub permitted : every_column Permitted text 1 n ≡ fine

module _ (n : ℕ) (parts : List Part) (tile : T (tiles n 0 parts)) (fits : AllFit parts) where
  abbrev text : List ℕ
  text = line_of n parts

  plain : (k : ℕ) → k < length text → Plain (get_or text k 0)
  plain k h = record_plain n parts tile fits k (omega (arith, record_length n parts tile fits))

  made : (end : LineEnd) (rest : List ℕ) → Holding n text (first_line (text ++ (end_bytes end ++ rest)))
  made end rest =
      record {
        read = ap capitals (made_text end rest text (λ k h. omega (arith, plain k h))) ∙ capitals_already text (λ k h. (plain k h).1);
        taken =
            ap (λ (size : ℕ). cutting size (first_line (text ++ (end_bytes end ++ rest)))) (sym (record_length n parts tile fits))
            ∙ made_cut end rest text (λ k h. omega (arith, plain k h));
        permitted =
            columns_fine Permitted text 1 n
            (λ k low high. let c = record_plain n parts tile fits k high in column_permitted text k c.0 (omega arith));
      }

  -- A walk accepts it where the format's judge passes every such line.
  pub made_accepted : (walk : Walk) (t : Tables) → unfit (room_of t) walk ≡ false → (phase : Phase) → walk.standing ≡ reading phase → (said : Said)
      → ((seen : Seen) (line : Line) → Holding n text line → judge (context_of (room_of t) walk phase) seen line ≡ passed (size_of line) said)
      → AcceptedNext walk t said text
  made_accepted walk t fit phase stands said judged end rest =
      let line = first_line (text ++ (end_bytes end ++ rest)) in
      let step = passing_accepted walk t fit line phase stands (size_of line) said (judged (asked walk t line) line (made end rest)) in
      (ap (λ (o : Out). o.says) step, ap (λ (o : Out). o.walk) step)
