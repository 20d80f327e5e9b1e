use Rattle.mm_tokens.proofs.Marked.{marked_more, marked_end}
use Rattle.mm_tokens.proofs.words.marked_len.Goals as goal

pub returns-then-begins_with_dollar-clause-len : goal.returns-then-begins_with_dollar-clause-len
returns-then-begins_with_dollar-clause-len c =
    (marked_more c.args.bytes.now c.plain_len-plain.result c.word_len.result c.begins_with_dollar.result
    c.plain_len-plain.ensures.len c.begins_with_dollar.ensures c.if-begins_with_dollar.true c.word_len.ensures.len).0

pub returns-then-begins_with_dollar-clause-dollar : goal.returns-then-begins_with_dollar-clause-dollar
returns-then-begins_with_dollar-clause-dollar c =
    (marked_more c.args.bytes.now c.plain_len-plain.result c.word_len.result c.begins_with_dollar.result
    c.plain_len-plain.ensures.len c.begins_with_dollar.ensures c.if-begins_with_dollar.true c.word_len.ensures.len).1

pub returns-clause-len : goal.returns-clause-len
returns-clause-len c =
    (marked_end c.args.bytes.now c.plain_len-plain.result c.begins_with_dollar.result
    c.plain_len-plain.ensures.len c.begins_with_dollar.ensures c.if-begins_with_dollar.false).0

pub returns-clause-dollar : goal.returns-clause-dollar
returns-clause-dollar c =
    (marked_end c.args.bytes.now c.plain_len-plain.result c.begins_with_dollar.result
    c.plain_len-plain.ensures.len c.begins_with_dollar.ensures c.if-begins_with_dollar.false).1
