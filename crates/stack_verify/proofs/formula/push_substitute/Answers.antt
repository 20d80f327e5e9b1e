use Rattle.std.proofs.Common.{◌∙◌, ◌++◌, List, ap, sym, drop}
use Rattle.mm_base.specs.declared.symbols.Sym.{Sym}
use Rattle.stack_verify.proofs.Substitutes.{stands_for_itself, stands_for}
use Rattle.stack_verify.proofs.formula.push_substitute.Goals as goal

pub returns-in_ok-push-in-None : goal.returns-in_ok-push-in-None
returns-in_ok-push-in-None c =
    c.in_ok-push-in-None.ensures.items
    ∙ ap (λ (x : List Sym). c.args.out.now.items ++ x)
    (sym
    (stands_for_itself c.args.entries.now.hyps.now c.args.entries.now.symbols.now c.args.entries.now.spans.now c.args.symbol c.args.entries.now.each
    (sym c.find_float.ensures ∙ c.in-None.is)))

pub returns-in_ok-extend_from_slice-in-Some : goal.returns-in_ok-extend_from_slice-in-Some
returns-in_ok-extend_from_slice-in-Some c =
    c.in_ok-extend_from_slice-in-Some.ensures.items
    ∙ ap (λ (x : List Sym). c.args.out.now.items ++ x) (
    c.behind_typecode.ensures ∙ ap (drop 1) c.formula_in.ensures
    ∙ sym (stands_for c.args.entries.now.hyps.now c.args.entries.now.symbols.now c.args.entries.now.spans.now c.args.symbol c.in-Some.place _ c.args.entries.now.each (sym c.find_float.ensures ∙ c.in-Some.is)))
