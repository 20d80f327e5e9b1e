-- Laws of the table of work variables.
use Rattle.std.specs.Prelude.{◌≡◌, ℕ, ◌&&◌, nat_eq, Bool, true, false, List, [], ◌∷◌, ◌++◌, map, find, option_map, Option, Some, refl}
use Rattle.std.proofs.Common.{ap, ◌∙◌, cond}
use Rattle.std.proofs.lemmas.List.{map_push}
use Rattle.std.specs.Map.{lookup}
use Rattle.mm_base.specs.declared.symbols.Typecode.{Typecode}
use Rattle.chain_laws.specs.declared.leaves.WorkNode.{WorkNode}
use Rattle.chain_laws.specs.Adding.{is_work, work_at}
use Rattle.step_chain.specs.Works.{WorkName, work_of}

abbrev pub same_name : WorkName → WorkName → Bool
same_name a b = nat_eq a.0 b.0 && nat_eq a.1 b.1

abbrev pub name_of : Typecode → ℕ → WorkName
name_of c n = (c.0.0, n)

by_test : (b : Bool) (e : WorkName × ℕ) (o : Option ℕ) (w : Option WorkNode) → o ≡ option_map (λ (w : WorkNode). w.node) w
    → cond b (Some e.1) o ≡ option_map (λ (w : WorkNode). w.node) (cond b (Some (work_of e)) w)
by_test true e o w is = refl
by_test false e o w is = is

-- what is found in the table is found in the list
pub found_is : (es : List (WorkName × ℕ)) (c : Typecode) (n : ℕ) → lookup (same_name (name_of c n)) es ≡ work_at (map work_of es) c n
found_is [] c n = refl
found_is (e ∷ es) c n = by_test (same_name (name_of c n) e.0) e (lookup (same_name (name_of c n)) es) (find (is_work c n) (map work_of es)) (found_is es c n)

pub one_more : (old new : List (WorkName × ℕ)) (works : List WorkNode) (c : Typecode) (n i : ℕ) → new ≡ old ++ (name_of c n, i) ∷ [] → map work_of old ≡ works
    → map work_of new ≡ works ++ record { code = c; number = n; node = i } ∷ []
one_more old new works c n i e is = ap (map work_of) e ∙ map_push work_of old (name_of c n, i) ∙ ap (λ (ws : List WorkNode). ws ++ work_of (name_of c n, i) ∷ []) is
