use Rattle.write.specs.WritingLaws.{written_length}
use Rattle.wham_write.proofs.write_t.Goals as goal

pub put_t-requires : goal.put_t-requires
put_t-requires c =
    written_length 275 _ _ _ _ _ _ c.answer.ensures c.in_ok-answer.was
