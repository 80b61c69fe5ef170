use Rattle.std.proofs.Common.{eqb, [], ◌∷◌, ◌∙◌, rules, tests}
use Rattle.std.proofs.lemmas.Iterator.{YieldsList-from_slice}
use Rattle.std.proofs.lemmas.Iterator.Search.{position_from_yields_List}
use Rattle.std.specs.Cmp.Lexicographic.{pointwise}
use Rattle.laws.specs.Spelling.{bytes}
use Rattle.codes.specs.Codes.{codes_in, states, provinces}
use Rattle.codes.proofs.CodeRows.{rows, same_place}
use Rattle.codes.proofs.place_of.Goals as goal

pub returns : goal.returns
unfolding states provinces codes_in bytes
returns c =
    let a = c.args.a in
    let b = c.args.b in
    position_from_yields_List (λ code. pointwise eqb code (a ∷ b ∷ [])) _ _ c.position.result c.position.ensures.ran (YieldsList-from_slice rows c.iter.ensures.rest) (λ x t q k. search (rules, tests))
    ∙ same_place a b
