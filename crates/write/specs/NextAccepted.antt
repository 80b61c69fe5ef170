-- Definitions: that the next line call accepts a text.
use Rattle.std.specs.Prelude.{ℕ, List, ◌++◌, ◌≡◌}
use Rattle.lines.specs.LineEnds.{LineEnd, end_bytes}
use Rattle.lines.specs.Lines.{first_line}
use Rattle.shape.specs.declared.Said.{Said}
use Rattle.tables.specs.Room.{Tables}
use Rattle.state.specs.Walks.{Walk}
use Rattle.step.specs.Moves.{all_well, walk_after}
use Rattle.step.specs.Steps.{line_step}

-- The next line call accepts this text, with each of the three line ends and any bytes after it, and the walk is then the one after such a record.
abbrev pub AcceptedNext : Walk → Tables → Said → List ℕ → Type 0
AcceptedNext walk t said text =
    (end : LineEnd) (rest : List ℕ)
    → ((line_step walk (first_line (text ++ (end_bytes end ++ rest))) t).says ≡ all_well)
    × ((line_step walk (first_line (text ++ (end_bytes end ++ rest))) t).walk ≡ walk_after said walk)
