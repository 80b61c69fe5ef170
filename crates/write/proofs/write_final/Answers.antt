-- What is written has the record's length, so it is the record.
use mathlib.Core.Path.{◌≡◌, ◌∙◌}
use borrow.Author.Rules.{rules}
use Rattle.write.specs.Records.{line_of, parts_of_final}
use Rattle.write.specs.WritingLaws.{written_length}
use Rattle.write.proofs.write_final.Goals as goal

pub returns : goal.returns
returns c =
    let of = c.args.of.now in
    let long = written_length of.size _ _ _ _ _ _ c.answer.ensures c.in_ok-answer.was in
    let put : c.put_f.new.out ≡ line_of of.size (parts_of_final of c.args.st.all) = c.put_f.ensures ∙ rw long in
    search rules
