-- The valuation of a chained store: it is most general, and named by the least work variables.
use Rattle.std.specs.Prelude.{◌≡◌, ℕ, ◌<◌, ◌≤◌, List, [], ◌∷◌, length, Option, Some, None, Contains, refl}
use Rattle.std.specs.List.{AllByRecursion}
use Rattle.std.proofs.Common.{zero, suc, sym, ap, subst, ◌∙◌, arith, inl, inr}
use Rattle.std.proofs.lemmas.Bool.{cases_lt}
use Rattle.mm_base.specs.declared.symbols.Sym.{Sym}
use Rattle.mm_base.specs.declared.symbols.Label.{Label}
use Rattle.mm_base.specs.declared.symbols.Typecode.{Typecode}
use Rattle.mm_base.specs.declared.tree.Tree.{Tree, out-Tree}
use Rattle.mm_base.specs.declared.tree.Tree.TheVariants as tree
use Rattle.mm_base.specs.declared.tree.Tree.TheVariants.{outs-Var, outs-Work, outs-Fresh, outs-Node}
use Rattle.mm_base.specs.declared.tree.Tree.TheOpen.{Tree-F}
use Rattle.mm_base.specs.Trees.{code_of}
use Rattle.mm_model.specs.Book.{Database}
use Rattle.mm_model.specs.declared.rows.Production.{Production}
use Rattle.mm_model.specs.Typed.{IsTyped}
use Rattle.mm_model.proofs.TypedLaws.{code-Work, typed-Work}
use Rattle.solve_model.specs.declared.bound.Bound.{Bound}
use Rattle.solve_model.specs.Trees.{Open, work, fresh, leaf_tree, open_leaves, Occurs}
use Rattle.solve_model.specs.Solutions.{Unknown, named, Valuation, IsValuation, IsUnknown, Asked, Solves, Solvable, unknown_code}
use Rattle.solve_model.specs.MostGeneral.{Refinement, refine, IsInstance, IsLeastNamed, IsNamedLeaf, IsTheValuation}
use Rattle.solve_model.proofs.TreeLaws.{replace-Work, replace-Fresh, open_leaves-Var, open_leaves-Work, open_leaves-Fresh}
use Rattle.solve_laws.proofs.ReplacedTypes.{code-Fresh, typed-Fresh}
use Rattle.term_model.specs.Terms.{Term, Var, Free, Node, term_at, term_code}
use Rattle.term_model.specs.Links.{Link, target_of, end_of}
use Rattle.term_model.specs.Ranks.{AreRanked}
use Rattle.term_model.specs.Store.{tree_at, Solution, IsClosed, IsStore, HasSolution}
use Rattle.term_model.proofs.LinkLaws.{end_of_unbound}
use Rattle.term_model.proofs.CycleLaws.{code_of_end, start_solution}
use Rattle.term_model.proofs.ClosureLaws.{agrees_refl}
use Rattle.term_model.proofs.SolutionLaws.{respects_end}
use Rattle.term_model.proofs.RankLaws.{numbered}
use Rattle.chain_laws.specs.declared.leaves.WorkNode.{WorkNode}
use Rattle.chain_laws.specs.Leaves.{least_at, named_leaf, leaf_at}
use Rattle.chain_laws.specs.Layout.{Layout, HasNode, work_node, valuation_of, IsChained}
use Rattle.chain_laws.proofs.LeastLeaves.{IsAnswerAt, IsLeastAt, NoneAt, least_at_answers}
use Rattle.chain_laws.specs.Reading.{read, made, value_of_store}
use Rattle.chain_laws.proofs.Reading.{AreMade, trees_made}
use Rattle.chain_laws.proofs.General.{HasCodes, IsLeafOf, at_same, at_code, at_typed, general_trees, tree_is, general_solves, own_leaves, refined}
use Rattle.chain_laws.proofs.Agreement.{solve_same}

-- ---- the trees of a store that has a solution

pub ranked_of : (nodes : List Term) (links : List Link) → IsStore nodes links → HasSolution nodes links → (ranks : List ℕ) × AreRanked nodes links ranks
ranked_of nodes links store s = elim (cases_lt 0 (length nodes)) [
  | inl h ↦ let above = numbered nodes links store s 0 h in (above.0, above.1)
  | inr h ↦ ([], record { falls = λ i k child below e. absurd (omega (arith, below, h)); few = λ i below. absurd (omega (arith, below, h)) })
]

-- ---- which tree is a leaf

leaf_leaves : (x : Open) → open_leaves (leaf_tree x) ≡ x ∷ []
leaf_leaves (work c n) = open_leaves-Work c n
leaf_leaves (fresh c n) = open_leaves-Fresh c n

var_no_leaf : (s : Sym) (c : Typecode) (x : Open) → tree.Var s c ≡ leaf_tree x → ⊥
var_no_leaf s c x e = let impossible : ◌≡◌ {A = List Open} [] (x ∷ []) = sym (open_leaves-Var s c) ∙ ap open_leaves e ∙ leaf_leaves x in cc

node_no_leaf : (l : Label) (c : Typecode) (ts : List Tree) (x : Open) → tree.Node l c ts ≡ leaf_tree x → ⊥
node_no_leaf l c ts (work d n) e = let impossible : ◌≡◌ {A = Tree-F Tree} (Tree-F.Node l c ts) (Tree-F.Work d n) = sym (outs-Node l c ts) ∙ ap out-Tree e ∙ outs-Work d n in cc
node_no_leaf l c ts (fresh d n) e = let impossible : ◌≡◌ {A = Tree-F Tree} (Tree-F.Node l c ts) (Tree-F.Fresh d n) = sym (outs-Node l c ts) ∙ ap out-Tree e ∙ outs-Fresh d n in cc

same_leaf : (x y : Open) → leaf_tree x ≡ leaf_tree y → x ≡ y
same_leaf x y e = let lists : x ∷ [] ≡ y ∷ [] = sym (leaf_leaves x) ∙ ap open_leaves e ∙ leaf_leaves y in cc

abbrev named_open : ℕ → Typecode → Option WorkNode → Open
named_open e c None = fresh c e
named_open e c (Some w) = work w.code w.number

named_is : (e : ℕ) (c : Typecode) (o : Option WorkNode) → named_leaf e c o ≡ leaf_tree (named_open e c o)
named_is e c None = refl
named_is e c (Some w) = refl

only_leaf : (x y : Open) → Occurs x (leaf_tree y) → y ≡ x
only_leaf x y o = one x y (subst (λ (xs : List Open). Contains xs x) (leaf_leaves y) o)
  where
    one : (x y : Open) → Contains (y ∷ []) x → y ≡ x
    one x y (zero, l, e) = e
    one x y (suc k, l, e) = absurd (omega (arith, l))

-- ---- the store

module _ (db : Database) (bound : Bound) (asked accepted : List Asked) (nodes : List Term) (links : List Link) (lay : Layout) (chained : IsChained db bound asked accepted nodes links lay) where
  abbrev On : Unknown → Type 0
  On u = IsUnknown bound asked u

  abbrev leaf : ℕ → Typecode → Tree
  leaf e c = leaf_at links lay.works e c

  abbrev at : ℕ → Tree
  at i = read nodes links leaf (length nodes) i

  ranks : (ranks : List ℕ) × AreRanked nodes links ranks
  ranks = ranked_of nodes links chained.store chained.solved.solution

  is_made : AreMade nodes links leaf at
  is_made = trees_made nodes links leaf chained.store ranks.0 ranks.1

  node : (u : Unknown) → On u → HasNode db nodes lay u
  node u on = chained.laid_out.unknowns u on

  answer : (e : ℕ) → IsAnswerAt links e lay.works (least_at links e lay.works)
  answer e = least_at_answers links e lay.works

  -- a work variable's node ends at a free node of its typecode
  work_code : (e : ℕ) (c : Typecode) (w : WorkNode) → term_at nodes e ≡ Free c → IsLeastAt links e lay.works w → w.code ≡ c
  work_code e c w is h =
      let own = chained.laid_out.works w h.is_one in
      let free : term_at nodes w.node ≡ Free w.code = subst (λ (k : ℕ). term_at nodes k ≡ Free w.code) own.node (node (named w.code w.number) own.is_unknown).free in
      let start : w.code ≡ term_code (term_at nodes w.node) = ap term_code (sym free) in
      start ∙ code_of_end nodes links w.node chained.store.codes ∙ ap (λ (k : ℕ). term_code (term_at nodes k)) h.ends ∙ ap term_code is

  leaf_code : (e : ℕ) (c : Typecode) (o : Option WorkNode) → term_at nodes e ≡ Free c → IsAnswerAt links e lay.works o → code_of (named_leaf e c o) ≡ c
  leaf_code e c None is h = code-Fresh c e
  leaf_code e c (Some w) is h = code-Work w.code w.number ∙ work_code e c w is h

  codes : HasCodes nodes links leaf
  codes = record { code = λ e c below u is. leaf_code e c (least_at links e lay.works) is (answer e) }

  leaf_typed : (rows : List Production) (before e : ℕ) (c : Typecode) (o : Option WorkNode) → IsTyped rows before (named_leaf e c o)
  leaf_typed rows before e c None = typed-Fresh rows before c e
  leaf_typed rows before e c (Some w) = typed-Work rows before w.code w.number

  abbrev trees : List Tree
  trees = general_trees nodes links leaf at chained.store is_made codes chained.solved.closed

  solution : Solution nodes links trees
  solution = general_solves nodes links leaf at chained.store is_made codes chained.solved.closed

  -- the valuation that is read off the store
  pub the_value : Valuation
  the_value = valuation_of lay trees

  pub value_is_read : the_value ≡ value_of_store nodes links lay
  unfolding the_value general_trees
  value_is_read = refl

  value_is : (u : Unknown) → On u → the_value u ≡ at (lay.node_of u)
  unfolding the_value
  value_is u on = tree_is nodes links leaf at chained.store is_made codes chained.solved.closed (lay.node_of u) (node u on).within

  the_value_typed : IsValuation db bound.place On the_value
  the_value_typed = record {
    code = λ u on. ap code_of (value_is u on) ∙ code_at u on;
    typed = λ u on. subst (IsTyped db.rows bound.place) (sym (value_is u on))
        (at_typed nodes links leaf at chained.store is_made codes ranks.0 ranks.1 db.rows bound.place chained.laid_out.typed
        (λ e c. leaf_typed db.rows bound.place e c (least_at links e lay.works)) (lay.node_of u) (node u on).within);
  }
    where
      code_at : (u : Unknown) → On u → code_of (at (lay.node_of u)) ≡ unknown_code db u
      code_at u on = at_code nodes links leaf at chained.store is_made codes (lay.node_of u) (node u on).within ∙ ap term_code (node u on).free

  the_value_solves : AllByRecursion (Solves bound the_value) accepted
  unfolding the_value
  the_value_solves = chained.exact.solves trees solution

  -- ---- the trees of a valuation

  module _ (v : Valuation) (valued : IsValuation db bound.place On v) where
    abbrev own_leaf : ℕ → Typecode → Tree
    own_leaf e c = v (lay.unknown_at e)

    bare : IsStore nodes []
    bare = record { children = chained.store.children; in_order = tt; codes = tt }

    bare_ranks : (ranks : List ℕ) × AreRanked nodes [] ranks
    bare_ranks = ranked_of nodes [] bare (start_solution nodes links chained.store)

    abbrev own_at : ℕ → Tree
    own_at i = read nodes [] own_leaf (length nodes) i

    own_made : AreMade nodes [] own_leaf own_at
    own_made = trees_made nodes [] own_leaf bare bare_ranks.0 bare_ranks.1

    own_code : (e : ℕ) (c : Typecode) → e < length nodes → term_at nodes e ≡ Free c → code_of (v (lay.unknown_at e)) ≡ c
    own_code e c below is =
        let own = chained.laid_out.free e c below is in
        let free : term_at nodes e ≡ Free (unknown_code db (lay.unknown_at e)) =
        subst (λ (k : ℕ). term_at nodes k ≡ Free (unknown_code db (lay.unknown_at e))) own.node (node (lay.unknown_at e) own.is_unknown).free in
        valued.code (lay.unknown_at e) own.is_unknown ∙ ap term_code (sym free ∙ is)

    own_codes : HasCodes nodes [] own_leaf
    own_codes = record { code = λ e c below u is. own_code e c below is }

    bare_closed : IsClosed nodes []
    bare_closed i below = agrees_refl [] (term_at nodes i)

    abbrev own_trees : List Tree
    own_trees = general_trees nodes [] own_leaf own_at bare own_made own_codes bare_closed

    own_solution : Solution nodes [] own_trees
    own_solution = general_solves nodes [] own_leaf own_at bare own_made own_codes bare_closed

    own_value : (u : Unknown) → On u → tree_at own_trees (lay.node_of u) ≡ v u
    own_value u on =
        let h = node u on in
        let i = lay.node_of u in
        tree_is nodes [] own_leaf own_at bare own_made own_codes bare_closed i h.within ∙ own_made.each i h.within
        ∙ ap (made own_leaf i own_at) h.free ∙ ap v h.own

    -- the valuation gives a solution of the store, where it solves what is accepted
    module _ (solves : AllByRecursion (Solves bound v) accepted) where
      kept_solution : Solution nodes links own_trees
      kept_solution =
          chained.exact.holds own_trees own_solution
          (solve_same bound asked v (valuation_of lay own_trees) (λ u on. sym (own_value u on)) accepted chained.among chained.sound solves)

      pub solution_of : (trees : List Tree) × Solution nodes links trees × ((u : Unknown) → On u → tree_at trees (lay.node_of u) ≡ v u)
      solution_of = (own_trees, kept_solution, own_value)

      -- the leaves of the general trees, replaced by the trees of that solution
      abbrev by : Refinement
      by (work c n) = tree_at own_trees (lay.node_of (named c n))
      by (fresh c e) = tree_at own_trees e

      leaf_refined : (e : ℕ) (c : Typecode) (o : Option WorkNode) → IsAnswerAt links e lay.works o → refine by (named_leaf e c o) ≡ tree_at own_trees e
      leaf_refined e c None h = replace-Fresh _ by c e
      leaf_refined e c (Some w) h =
          replace-Work _ by w.code w.number ∙ ap (tree_at own_trees) (chained.laid_out.works w h.is_one).node
          ∙ respects_end own_trees links w.node kept_solution.links_fit ∙ ap (tree_at own_trees) h.ends

      is_instance : IsInstance On the_value v
      is_instance = record {
        by = by;
        same = λ u on. sym (own_value u on)
            ∙ sym
            (refined nodes links leaf at chained.store is_made codes ranks.0 ranks.1 own_trees kept_solution by
            (λ e c below u' is. leaf_refined e c (least_at links e lay.works) (answer e)) (lay.node_of u) (node u on).within)
            ∙ ap (refine by) (sym (value_is u on));
      }

  -- ---- open leaves

  at_unbound : (e : ℕ) (c : Typecode) → e < length nodes → target_of links e ≡ None → term_at nodes e ≡ Free c → at e ≡ leaf e c
  at_unbound e c below u is = is_made.each e below ∙ ap (λ (k : ℕ). made leaf k at (term_at nodes k)) (end_of_unbound links e u) ∙ ap (made leaf e at) is

  -- a node whose tree is an open leaf ends at a free node with that leaf
  record EndsOpen (i : ℕ) (x : Open) : Type 0 where
    code : Typecode
    is_leaf : leaf (end_of links i) code ≡ leaf_tree x

  ends_open : (i : ℕ) (x : Open) (e : Term) → term_at nodes (end_of links i) ≡ e → made leaf (end_of links i) at e ≡ leaf_tree x → EndsOpen i x
  ends_open i x (Var s c) is h = absurd (var_no_leaf s c x h)
  ends_open i x (Free c) is h = record { code = c; is_leaf = h }
  ends_open i x (Node l c k kids) is h = absurd (node_no_leaf l c _ x h)

  open_ends : (u : Unknown) (x : Open) → On u → the_value u ≡ leaf_tree x → EndsOpen (lay.node_of u) x
  open_ends u x on h = ends_open (lay.node_of u) x (term_at nodes (end_of links (lay.node_of u))) refl (sym (is_made.each (lay.node_of u) (node u on).within) ∙ sym (value_is u on) ∙ h)

  -- a work variable whose value is the least one's ends where that ends
  same_work : (w v : WorkNode) → work w.code w.number ≡ work v.code v.number → Contains lay.works w → Contains lay.works v → w.node ≡ v.node
  same_work w v e h g =
      let c : w.code ≡ v.code = cc in
      let n : w.number ≡ v.number = cc in
      let names : named w.code w.number ≡ named v.code v.number = cc in
      sym (chained.laid_out.works w h).node ∙ ap lay.node_of names ∙ (chained.laid_out.works v g).node

  end_by_work : (e : ℕ) (w : WorkNode) (i : ℕ) (c : Typecode) (o : Option WorkNode) → IsLeastAt links e lay.works w
      → IsAnswerAt links (end_of links i) lay.works o → named_leaf (end_of links i) c o ≡ leaf_tree (work w.code w.number) → end_of links i ≡ e
  end_by_work e w i c None h a is = let impossible : fresh c (end_of links i) ≡ work w.code w.number = same_leaf (fresh c (end_of links i)) (work w.code w.number) is in absurd (cc)
  end_by_work e w i c (Some v) h a is =
      let same = same_leaf (work v.code v.number) (work w.code w.number) is in
      sym a.ends ∙ ap (end_of links) (same_work v w same a.is_one h.is_one) ∙ h.ends

  least_by_work : (e : ℕ) (w : WorkNode) → IsLeastAt links e lay.works w → (n : ℕ) → On (named w.code n) → the_value (named w.code n) ≡ tree.Work w.code w.number → w.number ≤ n
  least_by_work e w h n on is =
      let ends = open_ends (named w.code n) (work w.code w.number) on is in
      let i = lay.node_of (named w.code n) in
      h.least (work_node lay w.code n) (chained.laid_out.all_works w.code n on) (end_by_work e w i ends.code (least_at links (end_of links i) lay.works) h (answer (end_of links i)) ends.is_leaf)

  end_by_fresh : (e : ℕ) (c d : Typecode) (i : ℕ) (o : Option WorkNode) → named_leaf (end_of links i) d o ≡ leaf_tree (fresh c e) → end_of links i ≡ e
  end_by_fresh e c d i None is = let same : fresh d (end_of links i) ≡ fresh c e = same_leaf (fresh d (end_of links i)) (fresh c e) is in cc
  end_by_fresh e c d i (Some v) is = let impossible : work v.code v.number ≡ fresh c e = same_leaf (work v.code v.number) (fresh c e) is in absurd (cc)

  none_by_fresh : (e : ℕ) (c : Typecode) → NoneAt links e lay.works → (n : ℕ) → On (named c n) → the_value (named c n) ≡ tree.Fresh c e → ⊥
  none_by_fresh e c none n on is =
      let ends = open_ends (named c n) (fresh c e) on is in
      let i = lay.node_of (named c n) in
      none (work_node lay c n) (chained.laid_out.all_works c n on) (end_by_fresh e c ends.code i (least_at links (end_of links i) lay.works) ends.is_leaf)

  least_named : (e : ℕ) (c : Typecode) (o : Option WorkNode) → e < length nodes → target_of links e ≡ None → term_at nodes e ≡ Free c
      → least_at links e lay.works ≡ o → IsAnswerAt links e lay.works o → IsLeastNamed On the_value (named_open e c o)
  least_named e c None below u is l h = none_by_fresh e c h
  least_named e c (Some w) below u is l h =
      let own = chained.laid_out.works w h.is_one in
      let i = lay.node_of (named w.code w.number) in
      let ends : end_of links i ≡ end_of links e = ap (end_of links) own.node ∙ h.ends ∙ sym (end_of_unbound links e u) in
      let value : the_value (named w.code w.number) ≡ tree.Work w.code w.number =
      value_is (named w.code w.number) own.is_unknown ∙ at_same nodes links leaf at chained.store is_made codes i e (node (named w.code w.number) own.is_unknown).within below ends
      ∙ at_unbound e c below u is ∙ ap (named_leaf e c) l in
      (own.is_unknown, value, least_by_work e w h)

  named_by : (e : ℕ) (c : Typecode) → e < length nodes → target_of links e ≡ None → term_at nodes e ≡ Free c → IsNamedLeaf On the_value (named_open e c (least_at links e lay.works))
  named_by e c below u is =
      let own = chained.laid_out.free e c below is in
      record {
        holder = lay.unknown_at e;
        is_unknown = own.is_unknown;
        holds = value_is (lay.unknown_at e) own.is_unknown ∙ ap at own.node ∙ at_unbound e c below u is ∙ named_is e c (least_at links e lay.works);
        named_least = least_named e c (least_at links e lay.works) below u is refl (answer e);
      }

  by_leaf : (x : Open) → IsLeafOf nodes links leaf x → IsNamedLeaf On the_value x
  by_leaf x h =
      let o = least_at links h.node lay.works in
      let same : named_open h.node h.code o ≡ x = only_leaf x (named_open h.node h.code o) (subst (Occurs x) (named_is h.node h.code o) h.occurs) in
      subst (IsNamedLeaf On the_value) same (named_by h.node h.code h.within h.unbound h.free)

  pub the_value_canonical : (u : Unknown) (x : Open) → On u → Occurs x (the_value u) → IsNamedLeaf On the_value x
  the_value_canonical u x on o =
      by_leaf x (own_leaves nodes links leaf at chained.store is_made codes ranks.0 ranks.1 (lay.node_of u) (node u on).within x (subst (Occurs x) (value_is u on) o))

-- ---- where what is asked is what is accepted

module _ (db : Database) (bound : Bound) (accepted : List Asked) (nodes : List Term) (links : List Link) (lay : Layout) (chained : IsChained db bound accepted accepted nodes links lay) where
  abbrev value : Valuation
  value = the_value db bound accepted accepted nodes links lay chained

  pub is_the_valuation : IsTheValuation db bound accepted value
  is_the_valuation = record {
    most_general = record {
      is_valuation = the_value_typed db bound accepted accepted nodes links lay chained;
      solves = the_value_solves db bound accepted accepted nodes links lay chained;
      general = λ v valued solves. is_instance db bound accepted accepted nodes links lay chained v valued solves;
    };
    canonical = the_value_canonical db bound accepted accepted nodes links lay chained;
  }

  pub solvable : Solvable db bound accepted
  solvable = record { value = value; is_valuation = is_the_valuation.most_general.is_valuation; solves = is_the_valuation.most_general.solves }
