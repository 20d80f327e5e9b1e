-- The values of a use.
use Rattle.std.specs.Prelude.{◌≡◌, ◌==◌, ℕ, zero, suc, Bool, true, false, List, [], ◌∷◌, find, zip, map, slice_get, Contains, Some, refl}
use Rattle.std.specs.Option.{option_map_or}
use Rattle.std.proofs.Common.{ap, ◌∙◌, arith}
use Rattle.std.proofs.lemmas.Bool.{eq-eqb, eqb-true}
use Rattle.mm_base.specs.declared.symbols.Sym.{Sym}
use Rattle.mm_base.specs.declared.tree.Tree.{Tree}
use Rattle.mm_model.specs.Productions.{TypedVariable}
use Rattle.mm_model.specs.BookFacts.{VariablesDiffer}
use Rattle.written_model.specs.WrittenSteps.{Use, value_of, no_tree}
use Rattle.again_laws.proofs.Lists.{some_same, contains_get, get_map}

abbrev find_value : List TypedVariable → List Tree → Sym → Tree
find_value vars values s = option_map_or (λ (p : TypedVariable × Tree). p.1) (find (λ (p : TypedVariable × Tree). p.0.sym.0 == s.0) (zip vars values)) no_tree

same_sym : (s t : Sym) → (s.0 == t.0) ≡ true → s ≡ t
same_sym s t e = ap (λ (n : ℕ). let x : Sym = record { 0 = n } in x) (eqb-true s.0 t.0 e)

later_by : (w : TypedVariable) (vars : List TypedVariable) (x : Tree) (values : List Tree) (j : ℕ) (v : TypedVariable) (t : Tree)
    → VariablesDiffer (w ∷ vars) → slice_get vars j ≡ Some v → find_value vars values v.sym ≡ t
    → (b : Bool) → (w.sym.0 == v.sym.0) ≡ b → find_value (w ∷ vars) (x ∷ values) v.sym ≡ t
later_by w vars x values j v t differ at rest true is = let bad : zero ≡ suc j = differ 0 (suc j) w v refl at (same_sym w.sym v.sym is) in absurd (omega (arith, bad))
later_by w vars x values j v t differ at rest false is = rw is rest

value_found : (vars : List TypedVariable) (values : List Tree) → VariablesDiffer vars → (j : ℕ) (v : TypedVariable) (t : Tree)
    → slice_get vars j ≡ Some v → slice_get values j ≡ Some t → find_value vars values v.sym ≡ t
value_found [] values differ j v t at is = absurd cc
value_found (w ∷ vars) [] differ j v t at is = absurd cc
value_found (w ∷ vars) (x ∷ values) differ zero v t at is =
    let same = some_same w v at in
    let test : (w.sym.0 == v.sym.0) ≡ true = eq-eqb w.sym.0 v.sym.0 (ap (λ (z : TypedVariable). z.sym.0) same) in
    rw test (some_same x t is)
value_found (w ∷ vars) (x ∷ values) differ (suc j) v t at is =
    later_by w vars x values j v t differ at
    (value_found vars values (λ a b p q f h s. let r : suc a ≡ suc b = differ (suc a) (suc b) p q f h s in omega (arith, r)) j v t at is)
    (w.sym.0 == v.sym.0) refl

-- the value of the variable at a place is the tree there
pub value_at : (u : Use) → VariablesDiffer u.assertion.vars → (j : ℕ) (v : TypedVariable) (t : Tree) → slice_get u.assertion.vars j ≡ Some v → slice_get u.values j ≡ Some t → value_of u v.sym ≡ t
value_at u differ j v t at is = value_found u.assertion.vars u.values differ j v t at is

-- where the values are a function of the variables, so is each
pub value_is : (u : Use) (f : TypedVariable → Tree) → VariablesDiffer u.assertion.vars → u.values ≡ map f u.assertion.vars → (v : TypedVariable) → Contains u.assertion.vars v → value_of u v.sym ≡ f v
value_is u f differ is v m =
    let r = contains_get u.assertion.vars v m in
    value_at u differ r.0 v (f v) r.1 (ap (λ ts. slice_get ts r.0) is ∙ get_map f u.assertion.vars r.0 v r.1)
