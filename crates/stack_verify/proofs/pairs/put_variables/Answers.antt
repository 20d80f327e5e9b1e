use Rattle.std.proofs.Common.{◌∙◌, ◌++◌, ◌∷◌, [], List, ap, sym, drop}
use Rattle.mm_base.specs.declared.symbols.Sym.{Sym}
use Rattle.stack_verify.specs.Pairs.{variables_in}
use Rattle.stack_verify.proofs.Substitutes.{stands_for_itself, stands_for}
use Rattle.stack_verify.proofs.pairs.put_variables.Goals as goal

pub returns-in_ok-push_variables-in-None : goal.returns-in_ok-push_variables-in-None
returns-in_ok-push_variables-in-None c =
    c.in_ok-push_variables-in-None.ensures ∙ ap (λ (l : List Sym). l ++ variables_in c.args.known.now (c.args.symbol ∷ [])) c.clear.ensures.items
    ∙ ap (variables_in c.args.known.now) (sym (stands_for_itself c.args.entries.now.hyps.now c.args.entries.now.symbols.now c.args.entries.now.spans.now c.args.symbol c.args.entries.now.each (sym c.find_float.ensures ∙ c.in-None.is)))

pub returns-in_ok-push_variables-in-Some : goal.returns-in_ok-push_variables-in-Some
returns-in_ok-push_variables-in-Some c =
    c.in_ok-push_variables-in-Some.ensures ∙ ap (λ (l : List Sym). l ++ variables_in c.args.known.now c.behind_typecode.result.now) c.clear.ensures.items
    ∙ ap (variables_in c.args.known.now) (
    c.behind_typecode.ensures ∙ ap (drop 1) c.formula_in.ensures
    ∙ sym (stands_for c.args.entries.now.hyps.now c.args.entries.now.symbols.now c.args.entries.now.spans.now c.args.symbol c.in-Some.place _ c.args.entries.now.each (sym c.find_float.ensures ∙ c.in-Some.is)))
