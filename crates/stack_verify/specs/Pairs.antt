-- Pairs of variables by what is known of the theorem. This is part of the proof, and not of the claim.
use Rattle.std.specs.Prelude.{Bool, not, ◌==◌, List, [], ◌∷◌, Option, Some, None, map, flat_map, filter, nat_eq}
use Rattle.std.specs.List.{list_any}
use Rattle.mm_base.specs.declared.symbols.Sym.{Sym}
use Rattle.mm_base.specs.declared.symbols.Pair.{Pair}
use Rattle.proof_model.specs.Machine.{Entry, lesser, least, or_later, substitute}
use Rattle.stack_verify.specs.declared.known.Known.{Known}
use Rattle.stack_verify.specs.declared.pairs.Rule.{Rule}
use Rattle.stack_verify.specs.declared.pairs.Rule.TheVariants as rule
use Rattle.stack_verify.specs.Contexts.{joins}

-- two variables break the rule
abbrev pub fails : Known → Rule → Sym × Sym → Bool
fails known rule.Shared vw = vw.0.0 == vw.1.0
fails known rule.Distinct vw = not (joins known.pairs.keys vw)

abbrev pub variables_in : Known → List Sym → List Sym
variables_in known formula = filter (λ (s : Sym). list_any (nat_eq s.0) known.variables) formula

-- each of the one list with each of the other
abbrev pub products : List Sym → List Sym → List (Sym × Sym)
products vs ws = flat_map (λ v. map (λ w. (v, w)) ws) vs

-- the least of these and of what is given
abbrev pub least_onto : List (Sym × Sym) → Option (Sym × Sym) → Option (Sym × Sym)
least_onto [] later = later
least_onto (p ∷ ps) later = Some (lesser p (least_onto ps later))

-- the first of an assertion's pairs whose substitutes have variables that break the rule, and the least of these
abbrev pub first_failing : Known → Rule → List Entry → List Pair → Option (Pair × (Sym × Sym))
first_failing known rule entries [] = None
first_failing known rule entries (p ∷ ps) =
    or_later p (least (filter (fails known rule) (products (variables_in known (substitute entries p.a)) (variables_in known (substitute entries p.b))))) (first_failing known rule entries ps)
