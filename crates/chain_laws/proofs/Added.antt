-- The nodes that a tree adds stand for it.
use Rattle.std.specs.Prelude.{◌≡◌, ℕ, ◌<◌, List, [], ◌∷◌, ◌++◌, length, map, Option, Some, refl}
use Rattle.std.specs.List.{AllByRecursion}
use Rattle.std.proofs.Common.{sym, ap, subst, ◌∙◌}
use Rattle.std.proofs.lemmas.List.{append_assoc}
use Rattle.mm_base.specs.declared.symbols.Sym.{Sym}
use Rattle.mm_base.specs.declared.symbols.Label.{Label}
use Rattle.mm_base.specs.declared.symbols.Typecode.{Typecode}
use Rattle.mm_base.specs.declared.tree.Tree.{Tree}
use Rattle.mm_base.specs.declared.tree.Tree.TheVariants as tree
use Rattle.mm_base.specs.Trees.{Each, code_of}
use Rattle.mm_base.proofs.TreeFolds.{fold-Var, fold-Work, fold-Fresh, fold-Node}
use Rattle.mm_base.proofs.TreeInduction.{tree_ind}
use Rattle.mm_model.specs.declared.rows.Production.{Production}
use Rattle.mm_model.specs.Typed.{IsTyped}
use Rattle.mm_model.proofs.TypedLaws.{code-Var, code-Work, code-Node, typed_here, typed_held}
use Rattle.solve_model.specs.Trees.{Open, work, replace}
use Rattle.solve_model.proofs.TreeLaws.{replace-Var, replace-Work, replace-Node}
use Rattle.term_model.specs.declared.shape.Id.{Id}
use Rattle.term_model.specs.Terms.{Term, Var, Free, Node, term_at, term_code}
use Rattle.term_model.specs.Store.{tree_at, trees_at}
use Rattle.chain_laws.specs.declared.leaves.WorkNode.{WorkNode}
use Rattle.chain_laws.specs.declared.leaves.VariableNode.{VariableNode}
use Rattle.chain_laws.specs.Adding.{Rooted, Listed, Adder, run, first_then, put, there_or, work_at, variable_at, constants_in, with_production, layer_adder, added}
use Rattle.chain_laws.specs.Layout.{IsTypedTerm, Fit}
use Rattle.chain_laws.proofs.Grown.{Grown, Made, new_node, standing_node, new_variable, term_front, fit_back, within_front}

module _ (rows : List Production) (works : List WorkNode) (vars : List VariableNode) where
  pub added-Var : (s : Sym) (c : Typecode) (nodes : List Term) → added rows works vars (tree.Var s c) nodes ≡ there_or (variable_at vars s c) (Var s c) nodes
  unfolding added
  added-Var s c nodes = ap (λ (f : Adder). f nodes) (fold-Var Adder (layer_adder rows works vars) s c)

  pub added-Work : (c : Typecode) (n : ℕ) (nodes : List Term) → added rows works vars (tree.Work c n) nodes ≡ there_or (work_at works c n) (Free c) nodes
  unfolding added
  added-Work c n nodes = ap (λ (f : Adder). f nodes) (fold-Work Adder (layer_adder rows works vars) c n)

  pub added-Fresh : (c : Typecode) (n : ℕ) (nodes : List Term) → added rows works vars (tree.Fresh c n) nodes ≡ put (Free c) nodes
  unfolding added
  added-Fresh c n nodes = ap (λ (f : Adder). f nodes) (fold-Fresh Adder (layer_adder rows works vars) c n)

  pub added-Node : (l : Label) (c : Typecode) (ts : List Tree) (nodes : List Term)
      → added rows works vars (tree.Node l c ts) nodes ≡ with_production l c (constants_in rows l) (run (map (added rows works vars) ts) nodes)
  unfolding added
  added-Node l c ts nodes = ap (λ (f : Adder). f nodes) (fold-Node Adder (layer_adder rows works vars) l c ts)

module _ (rows : List Production) (before : ℕ) (base : List Term) (works : List WorkNode) (vars : List VariableNode) where
  abbrev Grows : List Term → Type 0
  Grows nodes = Grown rows before base nodes

  abbrev add : Tree → Adder
  add = added rows works vars

  -- the store has grown to these nodes, one of which has this typecode and, in trees that fit, this tree
  pub record IsMade (nodes : List Term) (r : Rooted) (c : Typecode) (tree_of : List Tree → Tree) : Type 0 where
    pub more : List Term
    pub extends : r.nodes ≡ nodes ++ more
    pub grown : Grows r.nodes
    pub within : r.root < length r.nodes
    pub code : term_code (term_at r.nodes r.root) ≡ c
    pub means : (trees : List Tree) → Fit r.nodes trees → tree_at trees r.root ≡ tree_of trees

  of_made : (nodes : List Term) (c : Typecode) (f : List Tree → Tree) (m : Made rows before base nodes c f) → IsMade nodes (record { nodes = m.next; root = m.root }) c f
  of_made nodes c f m = record { more = m.more; extends = m.extends; grown = m.grown; within = m.within; code = m.code; means = m.means }

  -- a node that is found
  pub found_node : (nodes : List Term) (c : Typecode) (f : List Tree → Tree) (o : Option ℕ) (e : Term) (i : ℕ) → o ≡ Some i → Grows nodes
      → i < length nodes → term_code (term_at nodes i) ≡ c → ((trees : List Tree) → Fit nodes trees → tree_at trees i ≡ f trees)
      → IsMade nodes (there_or o e nodes) c f
  unfolding standing_node
  found_node nodes c f o e i is g h code means =
      subst (λ (p : Option ℕ). IsMade nodes (there_or p e nodes) c f) (sym is)
      (of_made nodes c f (standing_node rows before base nodes c f g i h code means))

  -- a variable of the database
  pub own_variable : (nodes : List Term) (s : Sym) (c : Typecode) → vars ≡ [] → Grows nodes → IsMade nodes (there_or (variable_at vars s c) (Var s c) nodes) c (λ us. tree.Var s c)
  unfolding new_variable
  own_variable nodes s c none g =
      subst (λ (vs : List VariableNode). IsMade nodes (there_or (variable_at vs s c) (Var s c) nodes) c (λ us. tree.Var s c)) (sym none)
      (of_made nodes c (λ us. tree.Var s c) (new_variable rows before base nodes s c g))

  module _ (a : List Tree → Sym → Typecode → Tree) (p : List Tree → Open → Tree) (Ok : Tree → Type 0)
      (ok_fresh : (c : Typecode) (n : ℕ) → Ok (tree.Fresh c n) → ⊥) (ok_node : (l : Label) (c : Typecode) (ts : List Tree) → Ok (tree.Node l c ts) → Each Ok ts)
      (at_var : (s : Sym) (c : Typecode) → Ok (tree.Var s c) → (nodes : List Term) → Grows nodes → IsMade nodes (there_or (variable_at vars s c) (Var s c) nodes) c (λ us. a us s c))
      (at_work : (c : Typecode) (n : ℕ) → Ok (tree.Work c n) → (nodes : List Term) → Grows nodes → IsMade nodes (there_or (work_at works c n) (Free c) nodes) c (λ us. p us (work c n))) where
    abbrev value : List Tree → Tree → Tree
    value us t = replace (a us) (p us) t

    abbrev Adds : Tree → Type 0
    Adds t = Ok t → IsTyped rows before t → (nodes : List Term) → Grows nodes → IsMade nodes (add t nodes) (code_of t) (λ us. value us t)

    pub record AreMade (nodes : List Term) (r : Listed) (ts : List Tree) : Type 0 where
      pub more : List Term
      pub extends : r.nodes ≡ nodes ++ more
      pub grown : Grows r.nodes
      pub within : AllByRecursion (λ (id : Id). id.0 < length r.nodes) r.roots
      pub codes : map (λ (id : Id). term_code (term_at r.nodes id.0)) r.roots ≡ map code_of ts
      pub means : (trees : List Tree) → Fit r.nodes trees → trees_at trees r.roots ≡ map (value trees) ts

    append_none : (ns : List Term) → ns ++ [] ≡ ns
    append_none [] = refl
    append_none (n ∷ ns) = ap (λ (rest : List Term). n ∷ rest) (append_none ns)

    one_then : (t : Tree) (ts : List Tree) (nodes : List Term) (one : Rooted) (rest : Listed) → IsMade nodes one (code_of t) (λ us. value us t)
        → AreMade one.nodes rest ts → AreMade nodes (first_then one rest) (t ∷ ts)
    one_then t ts nodes one rest m all =
        let code : term_code (term_at rest.nodes one.root) ≡ code_of t =
        ap (λ (ns : List Term). term_code (term_at ns one.root)) all.extends ∙ ap term_code (term_front one.nodes all.more one.root m.within)
        ∙ m.code in
        let codes = all.codes in
        record {
          more = m.more ++ all.more;
          extends = all.extends ∙ ap (λ (ns : List Term). ns ++ all.more) m.extends ∙ append_assoc nodes m.more all.more;
          grown = all.grown;
          within = (within_front rows before base one.nodes all.more rest.nodes one.root all.extends m.within, all.within);
          codes = cc;
          means = λ trees f.
              let here = m.means trees (fit_back rows before base one.nodes all.more rest.nodes trees all.extends f) in
              let later = all.means trees f in
              cc;
        }

    add_all : (ts : List Tree) → Each Adds ts → Each Ok ts → Each (IsTyped rows before) ts → (nodes : List Term) → Grows nodes → AreMade nodes (run (map add ts) nodes) ts
    add_all [] h ok ty nodes g = record { more = []; extends = sym (append_none nodes); grown = g; within = tt; codes = refl; means = λ trees f. refl }
    add_all (t ∷ ts) h ok ty nodes g =
        let one = h.0 ok.0 ty.0 nodes g in
        one_then t ts nodes (add t nodes) (run (map add ts) (add t nodes).nodes) one (add_all ts h.1 ok.1 ty.1 (add t nodes).nodes one.grown)

    made_is : (nodes : List Term) (r q : Rooted) (c d : Typecode) (f g : List Tree → Tree) → r ≡ q → c ≡ d → ((us : List Tree) → f us ≡ g us) → IsMade nodes r c f → IsMade nodes q d g
    made_is nodes r q c d f g e code same m =
        subst (λ (x : Rooted). IsMade nodes x d g) e
        (record { more = m.more; extends = m.extends; grown = m.grown; within = m.within; code = m.code ∙ code; means = λ us h. m.means us h ∙ same us })

    typed_term : (l m : Label) (c d : Typecode) (k j : ℕ) (xs ys : List Id) (nodes : List Term) → Node l c k xs ≡ Node m d j ys
        → IsTypedTerm rows before nodes l c xs → IsTypedTerm rows before nodes m d ys
    typed_term l m c d k j xs ys nodes e h =
        let one : l ≡ m = cc in
        let two : c ≡ d = cc in
        let three : xs ≡ ys = cc in
        subst (λ (x : Label). IsTypedTerm rows before nodes x d ys) one
        (subst (λ (x : Typecode). IsTypedTerm rows before nodes l x ys) two
        (subst (λ (x : List Id). IsTypedTerm rows before nodes l c x) three h))

    production_made : (l : Label) (c : Typecode) (k : ℕ) (ts : List Tree) (nodes : List Term) (r : Listed) → IsTyped rows before (tree.Node l c ts)
        → AreMade nodes r ts → IsMade nodes (with_production l c k r) c (λ us. tree.Node l c (map (value us) ts))
    unfolding new_node
    production_made l c k ts nodes r ty all =
        let here = typed_here rows before l c ts ty in
        let typed : IsTypedTerm rows before r.nodes l c r.roots = record { row = here.0; is_row = here.1; before_place = here.2; gives = here.3; slots = all.codes ∙ here.4 } in
        let m = new_node rows before base r.nodes (Node l c k r.roots) (λ us. tree.Node l c (map (value us) ts)) all.grown
        (record { children = all.within; not_free = λ d is. cc; typed = λ m' d j kids is. typed_term l m' c d k j r.roots kids r.nodes is typed })
        (λ us f h. h ∙ ap (λ xs. tree.Node l c xs) (all.means us f)) in
        record {
          more = all.more ++ m.more;
          extends = m.extends ∙ ap (λ (ns : List Term). ns ++ m.more) all.extends ∙ append_assoc nodes all.more m.more;
          grown = m.grown;
          within = m.within;
          code = m.code;
          means = m.means;
        }

    pub added_made : (t : Tree) → Adds t
    added_made = tree_ind Adds
        (λ s c ok ty nodes g. made_is nodes _ _ c (code_of (tree.Var s c)) _ _ (sym (added-Var rows works vars s c nodes)) (sym (code-Var s c))
        (λ us. sym (replace-Var (a us) (p us) s c)) (at_var s c ok nodes g))
        (λ c n ok ty nodes g. made_is nodes _ _ c (code_of (tree.Work c n)) _ _ (sym (added-Work rows works vars c n nodes)) (sym (code-Work c n))
        (λ us. sym (replace-Work (a us) (p us) c n)) (at_work c n ok nodes g))
        (λ c n ok ty nodes g. absurd (ok_fresh c n ok))
        (λ l c ts h ok ty nodes g.
        made_is nodes _ _ c (code_of (tree.Node l c ts)) _ _ (sym (added-Node rows works vars l c ts nodes)) (sym (code-Node l c ts)) (λ us. sym (replace-Node (a us) (p us) l c ts))
        (production_made l c (constants_in rows l) ts nodes (run (map add ts) nodes) ty (add_all ts h (ok_node l c ts ok) (typed_held rows before l c ts ty) nodes g)))

    -- the nodes of trees, one after the other
    pub all_made : (ts : List Tree) → Each Ok ts → Each (IsTyped rows before) ts → (nodes : List Term) → Grows nodes → AreMade nodes (run (map add ts) nodes) ts
    all_made ts ok ty nodes g = add_all ts (each ts) ok ty nodes g
      where
        each : (ts : List Tree) → Each Adds ts
        each [] = tt
        each (t ∷ ts) = (added_made t, each ts)
