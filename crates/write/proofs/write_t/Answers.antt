use Rattle.write.specs.WritingLaws.{written_length}
use Rattle.write.proofs.write_t.Goals as goal

pub put_t-requires : goal.put_t-requires
put_t-requires c =
    written_length 290 _ _ _ _ _ _ c.answer.ensures c.in_ok-answer.was
