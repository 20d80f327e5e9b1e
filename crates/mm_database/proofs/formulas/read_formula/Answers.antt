use Rattle.std.proofs.Common.{◌≡◌, ◌≤◌, ◌-◌, ◌==◌, nat_le, true, Option, Some, None, List, [], ◌∷◌, length, take, drop, arith, sym, ap, ◌∙◌}
use Rattle.std.proofs.lemmas.List.{length-take}
use Rattle.std.proofs.lemmas.Bool.{and_parts, leb-true}
use Rattle.mm_base.specs.declared.symbols.Sym.{Sym}
use Rattle.mm_database.specs.Formulas.{is_assertion, leaf_of}
use Rattle.mm_database.proofs.Lists.{length-filter_map}
use Rattle.mm_database.proofs.formulas.read_formula.Goals as goal

short : (o : Option Sym) (formula : List Sym) → is_assertion o formula ≡ true → length formula ≤ 4096
short None formula e = absurd (cc)
short (Some s) [] e = absurd (cc)
short (Some s) (c ∷ rest) e = leb-true (length (c ∷ rest)) 4096 (and_parts (c.0 == s.0) (nat_le (length (c ∷ rest)) 4096) e).1

pub tree_of-requires : goal.tree_of-requires
tree_of-requires c =
    let formula = c.args.formula.now in
    let symbols = take (length formula - 1) (drop 1 formula) in
    let fewer = length-filter_map (leaf_of c.args.scope.now.constants.now c.args.scope.now.place c.args.scope.now.vars.now) symbols in
    let own = ap length c.in_ok-leaves-in-len1-up.ensures in
    let rest = length-take (length formula - 1) (drop 1 formula) in
    let most = short c.args.kinds.provable formula (sym c.is_assertion.ensures ∙ c.if-not-is_assertion.false) in
    omega (arith, fewer, own, rest, most)
