-- Definitions: the three line ends, and the bytes of each.
use Rattle.std.specs.Prelude.{ℕ, List, [], ◌∷◌}

-- "LF, CR, or CR followed at once by LF"
pub data LineEnd : Type 0 where
  LF : LineEnd
  CR : LineEnd
  CRLF : LineEnd

abbrev pub end_bytes : LineEnd → List ℕ
end_bytes LF = 10 ∷ []
end_bytes CR = 13 ∷ []
end_bytes CRLF = 13 ∷ 10 ∷ []
