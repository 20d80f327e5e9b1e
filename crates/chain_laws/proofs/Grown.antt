-- A store that grows by the nodes of trees.
use Rattle.std.specs.Prelude.{◌≡◌, ℕ, ◌<◌, ◌≤◌, List, [], ◌∷◌, ◌++◌, length, map, refl}
use Rattle.std.specs.List.{AllByRecursion}
use Rattle.std.proofs.Common.{sym, ap, subst, ◌∙◌, arith, inl, inr}
use Rattle.std.proofs.lemmas.Bool.{cases_eq}
use Rattle.std.proofs.lemmas.List.{append_assoc, get_or_append_left, length_push, get_or_push, length-append}
use Rattle.mm_base.specs.declared.symbols.Sym.{Sym}
use Rattle.mm_base.specs.declared.symbols.Label.{Label}
use Rattle.mm_base.specs.declared.symbols.Typecode.{Typecode}
use Rattle.mm_base.specs.declared.tree.Tree.{Tree}
use Rattle.mm_base.specs.declared.tree.Tree.TheVariants as tree
use Rattle.mm_base.specs.Trees.{Each, code_of}
use Rattle.mm_base.proofs.TreeInduction.{tree_ind}
use Rattle.mm_model.specs.declared.rows.Production.{Production}
use Rattle.mm_model.specs.Typed.{IsTyped}
use Rattle.mm_model.proofs.TypedLaws.{code-Var, code-Work, code-Node, typed_here, typed_held}
use Rattle.solve_model.specs.Trees.{Open, work, replace}
use Rattle.solve_model.proofs.TreeLaws.{replace-Var, replace-Work, replace-Node}
use Rattle.term_model.specs.declared.shape.Id.{Id}
use Rattle.term_model.specs.Terms.{Term, Var, Free, Node, term_at, term_code, children_of, HasChildrenBelow}
use Rattle.term_model.specs.Store.{tree_at, trees_at, Fits}
use Rattle.chain_laws.specs.Layout.{IsTypedTerm, Fit}
use Rattle.chain_laws.proofs.General.{AreTyped}

-- ---- what is behind changes nothing before

pub term_front : (nodes more : List Term) (i : ℕ) → i < length nodes → term_at (nodes ++ more) i ≡ term_at nodes i
term_front nodes more i h = get_or_append_left nodes more _ i h

pub fit_front : (nodes more : List Term) (trees : List Tree) → Fit (nodes ++ more) trees → Fit nodes trees
fit_front nodes more trees f i h =
    subst (Fits trees (tree_at trees i)) (term_front nodes more i h) (f i (omega (arith, h, length-append nodes more)))

pub codes_front : (nodes more : List Term) (kids : List Id) → AllByRecursion (λ (id : Id). id.0 < length nodes) kids
    → map (λ (id : Id). term_code (term_at (nodes ++ more) id.0)) kids ≡ map (λ (id : Id). term_code (term_at nodes id.0)) kids
codes_front nodes more [] h = refl
codes_front nodes more (x ∷ xs) h =
    let here = term_front nodes more x.0 h.0 in
    let rest = codes_front nodes more xs h.1 in
    cc

wider : (n m : ℕ) (xs : List Id) → n ≤ m → AllByRecursion (λ (id : Id). id.0 < n) xs → AllByRecursion (λ (id : Id). id.0 < m) xs
wider n m [] h a = tt
wider n m (x ∷ xs) h a = (omega (arith, a.0, h), wider n m xs h a.1)

module _ (rows : List Production) (before : ℕ) (base : List Term) where
  -- the store has more nodes than it had, none of them free
  pub record Grown (nodes : List Term) : Type 0 where
    pub added : List Term
    pub extends : nodes ≡ base ++ added
    pub children : (i : ℕ) → i < length nodes → HasChildrenBelow i (term_at nodes i)
    pub not_free : (i : ℕ) (c : Typecode) → length base ≤ i → i < length nodes → term_at nodes i ≡ Free c → ⊥
    pub typed : AreTyped rows before nodes

  -- a term that may be added
  pub record Addable (nodes : List Term) (e : Term) : Type 0 where
    pub children : HasChildrenBelow (length nodes) e
    pub not_free : (c : Typecode) → e ≡ Free c → ⊥
    pub typed : (l : Label) (c : Typecode) (k : ℕ) (kids : List Id) → e ≡ Node l c k kids → IsTypedTerm rows before nodes l c kids

  typed_front : (nodes more : List Term) (l : Label) (c : Typecode) (kids : List Id) → AllByRecursion (λ (id : Id). id.0 < length nodes) kids
      → IsTypedTerm rows before nodes l c kids → IsTypedTerm rows before (nodes ++ more) l c kids
  typed_front nodes more l c kids below h = record {
    row = h.row;
    is_row = h.is_row;
    before_place = h.before_place;
    gives = h.gives;
    slots = codes_front nodes more kids below ∙ h.slots;
  }

  pub push : (nodes : List Term) (e : Term) → Grown nodes → Addable nodes e → Grown (nodes ++ e ∷ [])
  push nodes e g a = record {
    added = g.added ++ e ∷ [];
    extends = ap (λ (ns : List Term). ns ++ e ∷ []) g.extends ∙ append_assoc base g.added (e ∷ []);
    children = λ i h. elim (cases_eq i (length nodes)) [
      | inl at ↦ let term : term_at (nodes ++ e ∷ []) i ≡ e = get_or_push nodes e _ i (sym at) in
          subst (λ (x : Term). HasChildrenBelow i x) (sym term) (subst (λ (n : ℕ). HasChildrenBelow n e) (sym at) a.children)
      | inr past ↦ let old : i < length nodes = omega (arith, h, past, length_push nodes e) in subst (λ (x : Term). HasChildrenBelow i x) (sym (term_front nodes (e ∷ []) i old)) (g.children i old)
    ];
    not_free = λ i c from h is. elim (cases_eq i (length nodes)) [
      | inl at ↦ a.not_free c (sym (get_or_push nodes e _ i (sym at)) ∙ is)
      | inr past ↦ let old : i < length nodes = omega (arith, h, past, length_push nodes e) in g.not_free i c from old (sym (term_front nodes (e ∷ []) i old) ∙ is)
    ];
    typed = λ i l c k kids h is. elim (cases_eq i (length nodes)) [
      | inl at ↦
          let same : e ≡ Node l c k kids = sym (get_or_push nodes e _ i (sym at)) ∙ is in
          typed_front nodes (e ∷ []) l c kids (subst (λ (x : Term). AllByRecursion (λ (id : Id). id.0 < length nodes) (children_of x)) same a.children) (a.typed l c k kids same)
      | inr past ↦
          let old : i < length nodes = omega (arith, h, past, length_push nodes e) in
          let same : term_at nodes i ≡ Node l c k kids = sym (term_front nodes (e ∷ []) i old) ∙ is in
          typed_front nodes (e ∷ []) l c kids
          (wider i (length nodes) kids (omega (arith, old))
          (subst (λ (x : Term). AllByRecursion (λ (id : Id). id.0 < i) (children_of x)) same (g.children i old)))
          (g.typed i l c k kids old same)
    ];
  }

  -- a store with a node more that has this typecode and, in trees that fit, this tree
  pub record Made (nodes : List Term) (c : Typecode) (tree_of : List Tree → Tree) : Type 0 where
    pub next : List Term
    pub more : List Term
    pub extends : next ≡ nodes ++ more
    pub grown : Grown next
    pub root : ℕ
    pub within : root < length next
    pub code : term_code (term_at next root) ≡ c
    pub means : (trees : List Tree) → Fit next trees → tree_at trees root ≡ tree_of trees

  pub append_none : (ns : List Term) → ns ++ [] ≡ ns
  append_none [] = refl
  append_none (n ∷ ns) = ap (λ (rest : List Term). n ∷ rest) (append_none ns)

  -- a node that is there
  unfoldable pub standing_node : (nodes : List Term) (c : Typecode) (tree_of : List Tree → Tree) → Grown nodes → (i : ℕ) → i < length nodes
      → term_code (term_at nodes i) ≡ c → ((trees : List Tree) → Fit nodes trees → tree_at trees i ≡ tree_of trees) → Made nodes c tree_of
  standing_node nodes c tree_of g i h code means = record { next = nodes; more = []; extends = sym (append_none nodes); grown = g; root = i; within = h; code = code; means = means }

  -- a new node
  unfoldable pub new_node : (nodes : List Term) (e : Term) (tree_of : List Tree → Tree) → Grown nodes → Addable nodes e
      → ((trees : List Tree) → Fit nodes trees → Fits trees (tree_at trees (length nodes)) e → tree_at trees (length nodes) ≡ tree_of trees)
      → Made nodes (term_code e) tree_of
  new_node nodes e tree_of g a means =
      let n = length nodes in
      let long : n < length (nodes ++ e ∷ []) = omega (arith, length_push nodes e) in
      let term : term_at (nodes ++ e ∷ []) n ≡ e = get_or_push nodes e _ n refl in
      record {
        next = nodes ++ e ∷ [];
        more = e ∷ [];
        extends = refl;
        grown = push nodes e g a;
        root = n;
        within = long;
        code = ap term_code term;
        means = λ trees f. means trees (fit_front nodes (e ∷ []) trees f) (subst (Fits trees (tree_at trees n)) term (f n long));
      }

  -- a variable of the database
  unfoldable pub new_variable : (nodes : List Term) (s : Sym) (c : Typecode) → Grown nodes → Made nodes c (λ trees. tree.Var s c)
  unfolding new_node
  new_variable nodes s c g = new_node nodes (Var s c) (λ trees. tree.Var s c) g (record { children = tt; not_free = λ d e. cc; typed = λ l d k kids e. absurd (cc) }) (λ trees f h. h)

  -- the same of a node that was made earlier
  pub within_front : (nodes more next : List Term) (i : ℕ) → next ≡ nodes ++ more → i < length nodes → i < length next
  within_front nodes more next i e h = let longer = length-append nodes more in let same : length next ≡ length (nodes ++ more) = ap length e in omega (arith, h, longer, same)

  pub fit_back : (nodes more next : List Term) (trees : List Tree) → next ≡ nodes ++ more → Fit next trees → Fit nodes trees
  fit_back nodes more next trees e f = fit_front nodes more trees (subst (λ (ns : List Term). Fit ns trees) e f)

  module _ (a : List Tree → Sym → Typecode → Tree) (p : List Tree → Open → Tree) (Ok : Tree → Type 0)
      (ok_fresh : (c : Typecode) (n : ℕ) → Ok (tree.Fresh c n) → ⊥) (ok_node : (l : Label) (c : Typecode) (ts : List Tree) → Ok (tree.Node l c ts) → Each Ok ts)
      (at_var : (s : Sym) (c : Typecode) → Ok (tree.Var s c) → (nodes : List Term) → Grown nodes → Made nodes c (λ us. a us s c))
      (at_work : (c : Typecode) (n : ℕ) → Ok (tree.Work c n) → (nodes : List Term) → Grown nodes → Made nodes c (λ us. p us (work c n))) where
    abbrev value : List Tree → Tree → Tree
    value us t = replace (a us) (p us) t

    abbrev Adds : Tree → Type 0
    Adds t = Ok t → IsTyped rows before t → (nodes : List Term) → Grown nodes → Made nodes (code_of t) (λ us. value us t)

    record MadeAll (nodes : List Term) (ts : List Tree) : Type 0 where
      next : List Term
      more : List Term
      extends : next ≡ nodes ++ more
      grown : Grown next
      roots : List Id
      within : AllByRecursion (λ (id : Id). id.0 < length next) roots
      codes : map (λ (id : Id). term_code (term_at next id.0)) roots ≡ map code_of ts
      means : (trees : List Tree) → Fit next trees → trees_at trees roots ≡ map (value trees) ts

    add_all : (ts : List Tree) → Each Adds ts → Each Ok ts → Each (IsTyped rows before) ts → (nodes : List Term) → Grown nodes → MadeAll nodes ts
    add_all [] h ok ty nodes g = record { next = nodes; more = []; extends = sym (append_none nodes); grown = g; roots = []; within = tt; codes = refl; means = λ trees f. refl }
    add_all (t ∷ ts) h ok ty nodes g =
        let one = h.0 ok.0 ty.0 nodes g in
        let rest = add_all ts h.1 ok.1 ty.1 one.next one.grown in
        let id : Id = record { 0 = one.root } in
        let code : term_code (term_at rest.next one.root) ≡ code_of t =
        ap (λ (ns : List Term). term_code (term_at ns one.root)) rest.extends ∙ ap term_code (term_front one.next rest.more one.root one.within)
        ∙ one.code in
        let codes = rest.codes in
        record {
          next = rest.next;
          more = one.more ++ rest.more;
          extends = rest.extends ∙ ap (λ (ns : List Term). ns ++ rest.more) one.extends ∙ append_assoc nodes one.more rest.more;
          grown = rest.grown;
          roots = id ∷ rest.roots;
          within = (within_front one.next rest.more rest.next one.root rest.extends one.within, rest.within);
          codes = cc;
          means = λ trees f.
              let here = one.means trees (fit_back one.next rest.more rest.next trees rest.extends f) in
              let more = rest.means trees f in
              cc;
        }

    made_code : (nodes : List Term) (c d : Typecode) (f g : List Tree → Tree) → c ≡ d → ((us : List Tree) → f us ≡ g us) → Made nodes c f → Made nodes d g
    made_code nodes c d f g e same m =
        record {
          next = m.next;
          more = m.more;
          extends = m.extends;
          grown = m.grown;
          root = m.root;
          within = m.within;
          code = m.code ∙ e;
          means = λ us h. m.means us h ∙ same us;
        }

    add_production : (l : Label) (c : Typecode) (ts : List Tree) → IsTyped rows before (tree.Node l c ts) → (nodes : List Term) → MadeAll nodes ts
        → Made nodes c (λ us. tree.Node l c (map (value us) ts))
    add_production l c ts ty nodes all =
        let here = typed_here rows before l c ts ty in
        let e : Term = Node l c 0 all.roots in
        let row_of' : (m : Label) (d : Typecode) (k : ℕ) (kids : List Id) → e ≡ Node m d k kids → IsTypedTerm rows before all.next m d kids = λ m d k kids is.
        let same_l : l ≡ m = cc in
        let same_c : c ≡ d = cc in
        let same_k : all.roots ≡ kids = cc in
        moved m d kids same_l same_c same_k (record { row = here.0; is_row = here.1; before_place = here.2; gives = here.3; slots = all.codes ∙ here.4 }) in
        let m =
        new_node all.next e (λ us. tree.Node l c (map (value us) ts)) all.grown
        (record { children = all.within; not_free = λ d is. cc; typed = row_of' })
        (λ us f h. h ∙ ap (λ xs. tree.Node l c xs) (all.means us f)) in
        record {
          next = m.next;
          more = all.more ++ m.more;
          extends = m.extends ∙ ap (λ (ns : List Term). ns ++ m.more) all.extends ∙ append_assoc nodes all.more m.more;
          grown = m.grown;
          root = m.root;
          within = m.within;
          code = m.code;
          means = m.means;
        }
      where
        moved : {roots : List Id} {l : Label} {c : Typecode} {next : List Term} (m : Label) (d : Typecode) (kids : List Id) → l ≡ m → c ≡ d
            → roots ≡ kids → IsTypedTerm rows before next l c roots → IsTypedTerm rows before next m d kids
        moved {roots} {l} {c} {next} m d kids e f g h =
            subst (λ (x : Label). IsTypedTerm rows before next x d kids) e
            (subst (λ (x : Typecode). IsTypedTerm rows before next l x kids) f (subst (λ (x : List Id). IsTypedTerm rows before next l c x) g h))

    -- the nodes of a tree
    pub add_tree : (t : Tree) → Adds t
    add_tree = tree_ind Adds
        (λ s c ok ty nodes g. made_code nodes c (code_of (tree.Var s c)) _ _ (sym (code-Var s c)) (λ us. sym (replace-Var (a us) (p us) s c)) (at_var s c ok nodes g))
        (λ c n ok ty nodes g. made_code nodes c (code_of (tree.Work c n)) _ _ (sym (code-Work c n)) (λ us. sym (replace-Work (a us) (p us) c n)) (at_work c n ok nodes g))
        (λ c n ok ty nodes g. absurd (ok_fresh c n ok))
        (λ l c ts h ok ty nodes g.
        made_code nodes c (code_of (tree.Node l c ts)) _ _ (sym (code-Node l c ts)) (λ us. sym (replace-Node (a us) (p us) l c ts))
        (add_production l c ts ty nodes (add_all ts h (ok_node l c ts ok) (typed_held rows before l c ts ty) nodes g)))
