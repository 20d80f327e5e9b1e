use Rattle.sheet_unify.proofs.DraftLaws.{is_draft, sound_draft}
use Rattle.sheet_unify.proofs.drafting.written_items.Goals as goal

pub found_items-requires-clause-symbols : goal.found_items-requires-clause-symbols
found_items-requires-clause-symbols c = c.numbers_suffice.ensures.symbols c.args.options.now.kinds c.requires.texts.database c.args.db.now c.requires.texts.opened

pub found_items-requires-clause-read : goal.found_items-requires-clause-read
found_items-requires-clause-read c =
    c.numbers_suffice.ensures.works c.args.options.now.kinds c.requires.texts.database c.args.db.now c.args.sheet.now c.args.bound.now c.requires.texts.opened c.requires.texts.bound_sheet.binds
    c.requires.texts.bound_sheet.within_limit

pub returns-in-Ok-found_items-clause-sound : goal.returns-in-Ok-found_items-clause-sound
returns-in-Ok-found_items-clause-sound c =
    let t = c.requires.texts in
    sound_draft c.has_database_facts.ensures c.mandatory_variables_stand.ensures c.frames_have_own_expressions.ensures c.args.options.now.kinds
    t.database t.text c.args.db.now c.args.sheet.now c.args.bound.now t.opened
    c.in-Ok.filled (c.in-Ok.ensures.filled t.database t.text t.opened t.bound_sheet) c.args.options.now.dv c.in-Ok-found_items.items c.in-Ok-found_items.ensures

pub returns-in-Ok-found_items-clause-drafted : goal.returns-in-Ok-found_items-clause-drafted
returns-in-Ok-found_items-clause-drafted c = λ database text opened bound_sheet.
    is_draft c.has_database_facts.ensures c.mandatory_variables_stand.ensures c.frames_have_own_expressions.ensures c.args.options.now.kinds database
    text c.args.db.now c.args.sheet.now c.args.bound.now opened
    c.in-Ok.filled (c.in-Ok.ensures.filled database text opened bound_sheet) c.args.options.now c.in-Ok-found_items.items c.in-Ok-found_items.ensures
