-- What pairs, variables and trees as lists say of a use.
use Rattle.std.proofs.Common.{◌≡◌, ℕ, ◌+◌, ◌<◌, ◌≤◌, ◌==◌, false, List, [], ◌∷◌, map, filter, filter_map, fold, find, zip, drop, length, get_or}
use Rattle.std.proofs.Common.{slice_get, Option, Some, None, option_map, refl, sym, ap, ◌∙◌, inl, inr, zero, suc, add-one, arith}
use Rattle.std.specs.List.{cons_option}
use Rattle.std.specs.Option.{option_map_or}
use Rattle.std.proofs.lemmas.Bool.{cases_Bool}
use Rattle.std.proofs.lemmas.List.{drop_all}
use Rattle.std.proofs.Math.Seq.{drop-cons}
use Rattle.mm_base.specs.declared.symbols.Sym.{Sym}
use Rattle.mm_base.specs.declared.symbols.Pair.{Pair}
use Rattle.mm_base.specs.declared.tree.Tree.{Tree}
use Rattle.mm_model.specs.Productions.{TypedVariable}
use Rattle.mm_model.specs.Names.{typecode, sym as symbol_of}
use Rattle.proof_model.specs.Machine.{is_shared}
use Rattle.solve_model.specs.Trees.{variables}
use Rattle.solve_model.proofs.TreeLaws.{variables-Work}
use Rattle.written_model.specs.Pairs.{lesser, shared_variable, clash_of}
use Rattle.written_model.specs.WrittenSteps.{Use, value_of, no_tree}
use Rattle.distinct_vars.specs.Clashes.{first_clash, told, first_at}
use Rattle.distinct_vars.specs.Shared.{IsLeastShared}
use Rattle.distinct_vars.specs.Uses.{IsUseOf}
use Rattle.distinct_vars.specs.Values.{value_at, variables_at, crossed, shared_at}
use Rattle.distinct_vars.proofs.SharedLaws.{symbol, least_is}

-- ---- the value of a variable

pub value_passed : (vs : List Sym) (ts : List Tree) (s d : Sym) (i : ℕ) → i < length vs → false ≡ ((get_or vs i d).0 == s.0)
    → value_at (drop i vs) (drop i ts) s ≡ value_at (drop (i + 1) vs) (drop (i + 1) ts) s
value_passed vs ts s d i h e = rw (add-one i) (by vs ts i h e)
  where
    none_left : (vs : List Sym) → value_at vs [] s ≡ None
    none_left [] = refl
    none_left (v ∷ vs) = refl

    by : (vs : List Sym) (ts : List Tree) (i : ℕ) → i < length vs → false ≡ ((get_or vs i d).0 == s.0) → value_at (drop i vs) (drop i ts) s ≡ value_at (drop (suc i) vs) (drop (suc i) ts) s
    by [] ts i h e = absurd (omega arith)
    by (w ∷ vs) [] zero h e = sym (none_left vs)
    by (w ∷ vs) (t ∷ ts) zero h e = let f : (w.0 == s.0) ≡ false = sym e in rw f refl
    by (w ∷ vs) [] (suc i) h e = none_left (drop i vs) ∙ sym (none_left (drop (suc i) vs))
    by (w ∷ vs) (t ∷ ts) (suc i) h e = by vs ts i (omega arith) e

abbrev value_in : List TypedVariable → List Tree → Sym → Tree
value_in vars values s = option_map_or (λ p. p.1) (find (λ (p : TypedVariable × Tree). p.0.sym.0 == s.0) (zip vars values)) no_tree

variables_in : (vars : List TypedVariable) (values : List Tree) (s : Sym) → variables_at (map (λ (v : TypedVariable). v.sym) vars) values s ≡ variables (value_in vars values s)
variables_in [] ts s = sym (variables-Work (typecode (symbol_of 0)) 0)
variables_in (v ∷ vs) [] s = sym (variables-Work (typecode (symbol_of 0)) 0)
variables_in (v ∷ vs) (t ∷ ts) s = elim (cases_Bool (v.sym.0 == s.0)) [ inl e ↦ rw e refl | inr e ↦ rw e (variables_in vs ts s) ]

pub variables_are : (u : Use) (pairs : List Pair) (vars : List Sym) (trees : List Tree) → IsUseOf u pairs vars trees → (s : Sym) → variables_at vars trees s ≡ variables (value_of u s)
variables_are u pairs vars trees is s =
    ap (λ vs. variables_at vs trees s) is.vars_are ∙ ap (λ ts. variables_at (map (λ (v : TypedVariable). v.sym) u.assertion.vars) ts s) is.trees_are ∙ variables_in u.assertion.vars u.values s

-- ---- the first clash

shared_of : List Sym → List Sym → Option Sym
shared_of xs ys = fold lesser None (map (λ (q : Sym × Sym). q.0) (filter is_shared (crossed xs ys)))

pub shared_are : (u : Use) (pairs : List Pair) (vars : List Sym) (trees : List Tree) → IsUseOf u pairs vars trees → (p : Pair) → shared_at vars trees p ≡ shared_variable u p
unfolding shared_of
shared_are u pairs vars trees is p =
    ap (λ xs. shared_of xs (variables_at vars trees p.b)) (variables_are u pairs vars trees is p.a) ∙ ap (λ ys. shared_of (variables (value_of u p.a)) ys) (variables_are u pairs vars trees is p.b)

pub first_none : (vars : List Sym) (trees : List Tree) (ps : List Pair) (i : ℕ) (d : Pair) → i < length ps → None ≡ shared_at vars trees (get_or ps i d)
    → first_at vars trees (drop i ps) ≡ first_at vars trees (drop (i + 1) ps)
first_none vars trees ps i d h e =
    let none : shared_at vars trees (get_or ps i d) ≡ None = sym e in
    let here : first_at vars trees (get_or ps i d ∷ drop (suc i) ps) ≡ first_at vars trees (drop (suc i) ps) = rw none refl in
    rw add-one (ap (first_at vars trees) (drop-cons ps i d h) ∙ here)

pub first_some : (vars : List Sym) (trees : List Tree) (ps : List Pair) (i : ℕ) (d : Pair) (v : Sym) → i < length ps → Some v ≡ shared_at vars trees (get_or ps i d)
    → first_at vars trees (drop i ps) ≡ Some (told (get_or ps i d) v)
first_some vars trees ps i d v h e =
    let some : shared_at vars trees (get_or ps i d) ≡ Some v = sym e in
    let here : first_at vars trees (get_or ps i d ∷ drop (suc i) ps) ≡ Some (told (get_or ps i d) v) = rw some refl in
    ap (first_at vars trees) (drop-cons ps i d h) ∙ here

pub first_end : (vars : List Sym) (trees : List Tree) (ps : List Pair) (i : ℕ) → length ps ≤ i → first_at vars trees (drop i ps) ≡ None
first_end vars trees ps i h = ap (first_at vars trees) (drop_all i ps h)

pub first_same : (vs ws : List Sym) (ts us : List Tree) (ps qs : List Pair) → vs ≡ ws → ts ≡ us → ps ≡ qs → first_at vs ts ps ≡ first_at ws us qs
first_same vs ws ts us ps qs e f g = ap (λ x. first_at x ts ps) e ∙ ap (λ x. first_at ws x ps) f ∙ ap (λ x. first_at ws us x) g

-- ---- what the values of a pair share

crossed_none : (xs : List Sym) → crossed xs [] ≡ []
crossed_none [] = refl
crossed_none (x ∷ xs) = crossed_none xs

pub shared_none : (vars : List Sym) (trees : List Tree) (p : Pair) → None ≡ value_at vars trees p.b → None ≡ shared_at vars trees p
unfolding shared_of
shared_none vars trees p e =
    let none : variables_at vars trees p.b ≡ [] = ap (λ o. option_map_or variables o []) (sym e) in
    sym (ap (λ ys. shared_of (variables_at vars trees p.a) ys) none
    ∙ ap (λ (qs : List (Sym × Sym)). fold lesser None (map (λ (q : Sym × Sym). q.0) (filter is_shared qs)))
    (crossed_none (variables_at vars trees p.a)))

pub shared_told : (vars : List Sym) (trees : List Tree) (p : Pair) (one other : Tree) (o : Option ℕ) → Some one ≡ value_at vars trees p.a → Some other ≡ value_at vars trees p.b
    → IsLeastShared (variables one) (variables other) o → option_map (λ n. symbol n) o ≡ shared_at vars trees p
unfolding shared_of
shared_told vars trees p one other o e f h =
    let first : variables_at vars trees p.a ≡ variables one = ap (λ o. option_map_or variables o []) (sym e) in
    let second : variables_at vars trees p.b ≡ variables other = ap (λ o. option_map_or variables o []) (sym f) in
    sym (least_is (variables one) (variables other) o h) ∙ sym (ap (λ xs. shared_of xs (variables_at vars trees p.b)) first ∙ ap (λ ys. shared_of (variables one) ys) second)

filter_same : {X Y : Type 0} (f g : X → Option Y) → ((x : X) → f x ≡ g x) → (xs : List X) → filter_map f xs ≡ filter_map g xs
filter_same f g e [] = refl
filter_same f g e (x ∷ xs) = ap (λ o. cons_option o (filter_map f xs)) (e x) ∙ ap (λ ys. cons_option (g x) ys) (filter_same f g e xs)

module _ (u : Use) (pairs : List Pair) (vars : List Sym) (trees : List Tree) (is : IsUseOf u pairs vars trees) where
  pub first_is : first_at vars trees pairs ≡ first_clash u
  first_is =
      ap (λ xs. slice_get xs 0) (filter_same (λ p. option_map (λ v. told p v) (shared_at vars trees p)) (λ p. option_map (λ v. told p v) (shared_variable u p))
      (λ p. ap (option_map (λ v. told p v)) (shared_are u pairs vars trees is p)) pairs)
      ∙ ap (λ ps. slice_get (filter_map (λ p. option_map (λ v. told p v) (shared_variable u p)) ps) 0) is.pairs_are

  variable_by : (p : Pair) (cs : List (Sym × Sym × Sym)) (vs : List Sym) (o : Option Sym)
      → option_map (λ (c : Sym × Sym × Sym). c.2) (slice_get cs 0) ≡ slice_get vs 0
      → option_map (λ (c : Sym × Sym × Sym). c.2) (slice_get (cons_option (option_map (λ v. told p v) o) cs) 0) ≡ slice_get (cons_option o vs) 0
  variable_by p cs vs None rest = rest
  variable_by p cs vs (Some v) rest = refl

  variable_of : (ps : List Pair)
      → option_map (λ (c : Sym × Sym × Sym). c.2) (slice_get (filter_map (λ p. option_map (λ v. told p v) (shared_variable u p)) ps) 0)
      ≡ slice_get (filter_map (shared_variable u) ps) 0
  variable_of [] = refl
  variable_of (p ∷ ps) = variable_by p (filter_map (λ p. option_map (λ v. told p v) (shared_variable u p)) ps) (filter_map (shared_variable u) ps) (shared_variable u p) (variable_of ps)

  pub variable_is : option_map (λ (c : Sym × Sym × Sym). c.2) (first_at vars trees pairs) ≡ clash_of u
  variable_is = ap (option_map (λ (c : Sym × Sym × Sym). c.2)) first_is ∙ variable_of u.assertion.frame.pairs
