-- Each turn writes one word more.
use Rattle.std.proofs.Common.{◌≡◌, refl, ap, ◌∙◌, length, set, get_or, arith}
use Rattle.state.specs.Walks.{walk_of}
use Rattle.state_words.specs.Words.{word_count, put_words, walk_in}
use Rattle.state_words.specs.Theorems.{words_back}
use Rattle.state_words.specs.WordsWritten.{words_length, one_more, too_few, all_written}
use Rattle.state_words.proofs.put_words.Goals as goal

pub returns-then-words-lt-WORDS-clause-written : goal.returns-then-words-lt-WORDS-clause-written
returns-then-words-lt-WORDS-clause-written c = too_few (walk_of c.args.st) c.args.words.now c.if-words-lt-WORDS.true

pub loop-i-init : goal.loop-i-init
loop-i-init c = refl

pub loop-i-preserved : goal.loop-i-preserved
loop-i-preserved c =
    let l = c.loop-i in
    let all = c.words_of-all in
    let count : length all.result ≡ word_count = ap length all.ensures.0 ∙ words_length (walk_of c.args.st) in
    ap (λ t. set t l.i (get_or all.result l.i 0)) l.invariant ∙ one_more all.result c.args.words.now l.i (omega arith) (omega arith)

pub returns : goal.returns
returns c =
    let l = c.loop-i in
    let all = c.words_of-all in
    let st = c.args.st in
    let words = c.args.words.now in
    let room = c.if-words-lt-WORDS.false in
    let end : l.i ≡ word_count = omega arith in
    let put : l.words ≡ put_words (walk_of st) words = l.invariant ∙ rw end (all_written (walk_of st) words room all.result all.ensures.0) in
    record { written = put; read_back = λ h. ap walk_in put ∙ words_back st words all.ensures.1 room }
