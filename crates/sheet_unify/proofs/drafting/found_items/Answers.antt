use Rattle.sheet_unify.proofs.DraftLaws.{are_found}
use Rattle.sheet_unify.proofs.drafting.found_items.Goals as goal

pub search_items-requires : goal.search_items-requires
search_items-requires c = c.in-Ok.ensures.sound c.requires.sound.sound

pub returns-in-Ok : goal.returns-in-Ok
returns-in-Ok c =
    are_found c.args.db.now c.args.bound.now c.args.mode c.args.filled c.in-Ok.named c.search_items.result c.in-Ok.ensures c.search_items.ensures.sound c.search_items.ensures.searched
