use Rattle.std.proofs.Common.{sym, subst, length}
use Rattle.step_chain.specs.Grown.{AreWorksIn}
use Rattle.step_chain.proofs.AddingLaws.{grown_more, grown_longer, works_in_more}
use Rattle.step_chain.proofs.FormulaLaws.{works_are_in, blanks_are, blanks_are_in, blanks_are_many, formulas_are, listed_count}
use Rattle.step_chain.proofs.formulas.add_all.Goals as goal

pub add_formulas-requires-clause-works : goal.add_formulas-requires-clause-works
add_formulas-requires-clause-works c =
    works_are_in c.args.logic c.args.arena.now c.add_all_unknowns.new.arena c.new-table.result c.add_all_unknowns.new.works c.args.steps.now
    c.requires c.new-table.ensures c.in_ok-blanks.ensures.begun

pub add_formulas-requires-clause-count : goal.add_formulas-requires-clause-count
add_formulas-requires-clause-count c =
    blanks_are_many c.args.logic c.args.arena.now c.add_all_unknowns.new.arena c.new-table.result c.add_all_unknowns.new.works c.args.steps.now
    c.requires c.new-table.ensures c.in_ok-blanks.ensures.begun c.deref.result.now
    (blanks_are c.args.logic c.args.arena.now c.add_all_unknowns.new.arena c.new-table.result c.add_all_unknowns.new.works c.args.steps.now c.requires
    c.new-table.ensures c.in_ok-blanks.ensures.begun c.in_ok-blanks.blanks.items c.deref.result.now c.in_ok-blanks.ensures.nodes
    c.deref.ensures.value)

pub add_formulas-requires-clause-blanks : goal.add_formulas-requires-clause-blanks
add_formulas-requires-clause-blanks c =
    blanks_are_in c.args.logic c.args.arena.now c.add_all_unknowns.new.arena c.new-table.result c.add_all_unknowns.new.works c.args.steps.now
    c.requires c.new-table.ensures c.in_ok-blanks.ensures.begun c.deref.result.now
    (blanks_are c.args.logic c.args.arena.now c.add_all_unknowns.new.arena c.new-table.result c.add_all_unknowns.new.works c.args.steps.now c.requires
    c.new-table.ensures c.in_ok-blanks.ensures.begun c.in_ok-blanks.blanks.items c.deref.result.now c.in_ok-blanks.ensures.nodes
    c.deref.ensures.value)

pub returns-in_err-formulas-clause-grows : goal.returns-in_err-formulas-clause-grows
returns-in_err-formulas-clause-grows c = grown_more c.args.arena.now c.add_all_unknowns.new.arena c.add_formulas.new.arena c.in_ok-blanks.ensures.grows c.in_err-formulas.ensures.grows

pub returns-in_err-works-clause-grows : goal.returns-in_err-works-clause-grows
returns-in_err-works-clause-grows c = grown_more c.args.arena.now c.add_all_unknowns.new.arena c.add_formulas.new.arena c.in_ok-blanks.ensures.grows c.in_ok-formulas.ensures.grows

pub returns-clause-grows : goal.returns-clause-grows
returns-clause-grows c = grown_more c.args.arena.now c.add_all_unknowns.new.arena c.add_formulas.new.arena c.in_ok-blanks.ensures.grows c.in_ok-formulas.ensures.grows

pub returns-clause-formulas : goal.returns-clause-formulas
returns-clause-formulas c =
    formulas_are c.args.logic c.args.arena.now c.add_all_unknowns.new.arena c.new-table.result c.add_all_unknowns.new.works c.args.steps.now
    c.requires c.new-table.ensures c.in_ok-blanks.ensures.begun c.args.grammar.now c.deref.result.now c.add_formulas.new.arena.nodes
    c.in_ok-works.works.items c.in_ok-formulas.formulas.items
    (blanks_are c.args.logic c.args.arena.now c.add_all_unknowns.new.arena c.new-table.result c.add_all_unknowns.new.works c.args.steps.now c.requires
    c.new-table.ensures c.in_ok-blanks.ensures.begun c.in_ok-blanks.blanks.items c.deref.result.now c.in_ok-blanks.ensures.nodes
    c.deref.ensures.value)
    c.in_ok-works.ensures c.in_ok-formulas.ensures.listed

pub returns-clause-works_in : goal.returns-clause-works_in
returns-clause-works_in c =
    subst (AreWorksIn (length c.add_formulas.new.arena.nodes)) (sym c.in_ok-works.ensures)
    (works_in_more _ _ c.add_all_unknowns.new.works (grown_longer c.add_all_unknowns.new.arena c.add_formulas.new.arena c.in_ok-formulas.ensures.grows)
    (works_are_in c.args.logic c.args.arena.now c.add_all_unknowns.new.arena c.new-table.result c.add_all_unknowns.new.works c.args.steps.now
    c.requires c.new-table.ensures c.in_ok-blanks.ensures.begun))

pub returns-clause-count : goal.returns-clause-count
returns-clause-count c =
    listed_count c.args.grammar.now c.add_all_unknowns.new.works c.args.logic c.deref.result.now c.args.steps.now c.add_all_unknowns.new.arena.nodes
    c.add_formulas.new.arena.nodes c.in_ok-formulas.formulas.items
    (blanks_are_many c.args.logic c.args.arena.now c.add_all_unknowns.new.arena c.new-table.result c.add_all_unknowns.new.works c.args.steps.now
    c.requires c.new-table.ensures c.in_ok-blanks.ensures.begun c.deref.result.now
    (blanks_are c.args.logic c.args.arena.now c.add_all_unknowns.new.arena c.new-table.result c.add_all_unknowns.new.works c.args.steps.now c.requires
    c.new-table.ensures c.in_ok-blanks.ensures.begun c.in_ok-blanks.blanks.items c.deref.result.now c.in_ok-blanks.ensures.nodes
    c.deref.ensures.value))
    c.in_ok-formulas.ensures.listed
