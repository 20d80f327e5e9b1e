use Rattle.std.proofs.Common.{◌+◌, arith, ◌∙◌}
use Rattle.mm_tokens.proofs.NextWord.{words_past, no_words, word_there, word_first}
use Rattle.mm_tokens.proofs.Marked.{marks_of}
use Rattle.mm_tokens.proofs.words.next_marked.Goals as goal

pub returns-then-start-text-clause-none : goal.returns-then-start-text-clause-none
returns-then-start-text-clause-none c = no_words c.args.text.now c.args.from c.white_len.result c.white_len.ensures.len c.if-start-text.true

pub returns-clause-range : goal.returns-clause-range
returns-clause-range c =
    let positive = word_there c.args.text.now c.args.from c.white_len.result c.marked_len-len.result.0 c.white_len.ensures.len (omega arith) c.marked_len-len.ensures.len in
    (omega arith, omega arith, omega arith)

pub returns-clause-first : goal.returns-clause-first
returns-clause-first c =
    let positive = word_there c.args.text.now c.args.from c.white_len.result c.marked_len-len.result.0 c.white_len.ensures.len (omega arith) c.marked_len-len.ensures.len in
    words_past c.args.text.now c.args.from c.white_len.result c.white_len.ensures.len
    ∙ word_first c.args.text.now (c.args.from + c.white_len.result) c.marked_len-len.result.0 c.marked_len-len.ensures.len positive

pub returns-clause-dollar : goal.returns-clause-dollar
returns-clause-dollar c = marks_of c.args.text.now (c.args.from + c.white_len.result) c.marked_len-len.result.0 c.marked_len-len.result.1 c.marked_len-len.ensures.dollar
