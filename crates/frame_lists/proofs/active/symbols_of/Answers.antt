use Rattle.std.proofs.Common.{ℕ, List, [], ◌∷◌, ◌++◌, map, take, get_or, sym, ap, ◌∙◌}
use Rattle.std.proofs.lemmas.List.{map-append, take_more}
use Rattle.mm_base.specs.declared.symbols.Sym.{Sym}
use Rattle.mm_model.specs.Names as names
use Rattle.frame_lists.proofs.active.symbols_of.Goals as goal

pub loop-number-preserved : goal.loop-number-preserved
loop-number-preserved c =
    let numbers = c.args.numbers.now in
    let i = c.loop-number.number-index in
    let last = get_or numbers i 0 in
    c.in_ok-push.ensures.items ∙ ap (λ (xs : List Sym). xs ++ names.sym last ∷ []) c.loop-number.invariant ∙ sym (map-append names.sym (take i numbers) (last ∷ []))
    ∙ ap (λ (ns : List ℕ). map names.sym ns) (sym (take_more numbers i 0 c.loop-number-test.true))
