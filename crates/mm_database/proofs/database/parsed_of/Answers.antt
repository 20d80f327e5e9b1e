use Rattle.mm_database.proofs.Opening.{parsed_as_held}
use Rattle.mm_database.proofs.database.parsed_of.Goals as goal

pub returns-in-Ok-clause-parsed : goal.returns-in-Ok-clause-parsed
returns-in-Ok-clause-parsed c =
    parsed_as_held c.args.frames.now c.args.kinds.now c.args.grammar.now c.in_ok-parsed.parsed.items c.kind_codes-codes.result c.constants.result.now c.frames.result.now
    c.kind_codes-codes.ensures c.constants.ensures c.frames.ensures c.in_ok-parsed.ensures
