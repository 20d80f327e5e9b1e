-- A store to which a candidate's nodes were added, ready for its orders to be tried.
use Rattle.std.specs.Prelude.{◌≡◌, ℕ, ◌<◌, ◌≤◌, ◌+◌, List, [], ◌∷◌, ◌++◌, length, map}
use Rattle.std.specs.List.{AllByRecursion, AllZip}
use Rattle.std.proofs.Common.{sym, ap, subst, ◌∙◌, arith}
use Rattle.std.proofs.lemmas.List.{append_assoc}
use Rattle.std.proofs.lemmas.List.Elements.{Contains-append_left}
use Rattle.mm_base.specs.declared.symbols.Sym.{Sym}
use Rattle.mm_base.specs.declared.symbols.Label.{Label}
use Rattle.mm_base.specs.declared.symbols.Typecode.{Typecode}
use Rattle.mm_base.specs.declared.tree.Tree.{Tree}
use Rattle.mm_base.specs.declared.tree.Tree.TheVariants as tree
use Rattle.mm_base.specs.Trees.{Each, code_of}
use Rattle.mm_base.proofs.TreeFacts.{node_held}
use Rattle.mm_model.specs.Typed.{IsTyped}
use Rattle.mm_model.specs.Book.{Database, Assertion}
use Rattle.sheet_text.specs.declared.sheet.Given.{Given}
use Rattle.solve_model.specs.declared.bound.Bound.{Bound}
use Rattle.solve_model.specs.Trees.{leaf_tree}
use Rattle.solve_model.specs.Solutions.{Unknown, copy, IsUnknown, Asked, instance}
use Rattle.solve_model.specs.Verdicts.{asked}
use Rattle.term_model.specs.declared.shape.Id.{Id}
use Rattle.term_model.specs.Terms.{Term, Var, Free, Node, term_at, term_code}
use Rattle.term_model.specs.Links.{Link}
use Rattle.term_model.specs.Store.{tree_at, trees_at, IsStore, IsSolved}
use Rattle.chain_laws.specs.declared.leaves.VariableNode.{VariableNode}
use Rattle.chain_laws.specs.Adding.{Rooted, Listed, run, numbered, free_of, variable_at, there_or, AreApart, added}
use Rattle.chain_laws.specs.Layout.{Layout, IsLaidOut, valuation_of, IsOver, LayerIsOver, IsChained, IsExact, IsTypedTerm, Fit, IsInstanceNode, AreFormulaNodes, AreCandidateNodes}
use Rattle.chain_laws.proofs.Agreement.{over_Var, over_Work, over_Fresh, formula_same}
use Rattle.chain_laws.proofs.Grown.{Grown, append_none, term_front, fit_back, within_front}
use Rattle.chain_laws.proofs.Growth.{exact_grows, laid_out_grows}
use Rattle.chain_laws.proofs.Copies.{with_copies, kept_node, copied_is, own_new, laid_out_copies, found, variable_with}
use Rattle.chain_laws.proofs.Added.{IsMade, AreMade, found_node, added_made, all_made}

each_of_all : (P : Tree → Type 0) (ts : List Tree) → AllByRecursion P ts → Each P ts
each_of_all P [] h = tt
each_of_all P (t ∷ ts) h = (h.0, each_of_all P ts h.1)

module _ (db : Database) (bound : Bound) (before : List Asked) (i : ℕ) (a : Assertion) (gs : List Given) (nodes : List Term) (links : List Link) (lay : Layout) (formulas : ℕ → ℕ)
    (chained : IsChained db bound before before nodes links lay) (are : AreFormulaNodes bound nodes lay formulas)
    (apart : AreApart a.vars) (fresh : (s : Sym) (c : Typecode) → IsUnknown bound before (copy i s c) → ⊥)
    (tree_over : IsOver a.vars a.tree) (hyps_over : AllByRecursion (IsOver a.vars) a.hyps) (tree_typed : IsTyped db.rows bound.place a.tree)
    (hyps_typed : AllByRecursion (IsTyped db.rows bound.place) a.hyps) where
  abbrev n : ℕ
  n = length nodes

  abbrev copied : List Term
  copied = nodes ++ map free_of a.vars

  abbrev table : List VariableNode
  table = numbered n a.vars

  abbrev lay' : Layout
  lay' = with_copies n i a.vars lay

  abbrev root : Rooted
  root = added db.rows [] table a.tree copied

  abbrev roots : Listed
  roots = run (map (added db.rows [] table) a.hyps) root.nodes

  abbrev New : Unknown → Type 0
  New u = IsUnknown bound (before ++ asked i a gs ∷ []) u

  bare : IsStore nodes []
  bare = record { children = chained.store.children; in_order = tt; codes = tt }

  copies_laid : IsLaidOut db bound.place New copied lay'
  copies_laid = laid_out_copies db bound before i a gs nodes lay chained.laid_out apart fresh bare

  module _ (copied_store : IsStore copied []) where
    grown_copies : Grown db.rows bound.place copied copied
    grown_copies =
        record {
          added = [];
          extends = sym (append_none db.rows bound.place copied copied);
          children = copied_store.children;
          not_free = λ k c from h is. omega (arith, from, h);
          typed = copies_laid.typed;
        }

    -- the node of a copy, in a store that has grown
    copy_node : (s : Sym) (c : Typecode) → IsOver a.vars (tree.Var s c) → (ns : List Term) → Grown db.rows bound.place copied ns
        → IsMade db.rows bound.place copied [] table ns (there_or (variable_at table s c) (Var s c) ns) c (λ us. valuation_of lay' us (copy i s c))
    copy_node s c over ns g =
        let there = over_Var a.vars s c over in
        let told = found n a.vars s c there in
        let own = copies_laid.unknowns (copy i s c) (own_new db bound before i a gs nodes lay chained.laid_out apart fresh (variable_with s c) there) in
        let at = copied_is db bound before i a gs nodes lay chained.laid_out apart fresh s c there in
        let within : n + told.place < length copied = subst (λ (k : ℕ). k < length copied) at own.within in
        let term : term_at ns (n + told.place) ≡ Free c =
        ap (λ (xs : List Term). term_at xs (n + told.place)) g.extends ∙ term_front copied g.added (n + told.place) within
        ∙ ap (term_at copied) (sym at) ∙ own.free in
        found_node db.rows bound.place copied [] table ns c (λ us. valuation_of lay' us (copy i s c)) (variable_at table s c) (Var s c) (n + told.place) told.node g
        (within_front db.rows bound.place copied copied g.added ns (n + told.place) g.extends within) (ap term_code term) (λ us f. ap (tree_at us) (sym at))

    root_made : IsMade db.rows bound.place copied [] table copied root (code_of a.tree) (λ us. instance (valuation_of lay' us) i a.tree)
    root_made =
        added_made db.rows bound.place copied [] table (λ us s c. valuation_of lay' us (copy i s c)) (λ us. leaf_tree) (IsOver a.vars)
        (over_Fresh a.vars) (λ l c ts h. node_held (LayerIsOver a.vars) l c ts h) copy_node (λ c m h ns g. absurd (over_Work a.vars c m h))
        a.tree tree_over tree_typed copied grown_copies

    abbrev Made' : Type 0
    Made' = AreMade db.rows bound.place copied [] table (λ us s c. valuation_of lay' us (copy i s c)) (λ us. leaf_tree) (IsOver a.vars)
        (over_Fresh a.vars) (λ l c ts h. node_held (LayerIsOver a.vars) l c ts h) copy_node (λ c m h ns g. absurd (over_Work a.vars c m h)) root.nodes roots a.hyps

    roots_made : Made'
    roots_made =
        all_made db.rows bound.place copied [] table (λ us s c. valuation_of lay' us (copy i s c)) (λ us. leaf_tree) (IsOver a.vars)
        (over_Fresh a.vars) (λ l c ts h. node_held (LayerIsOver a.vars) l c ts h) copy_node (λ c m h ns g. absurd (over_Work a.vars c m h))
        a.hyps (each_of_all (IsOver a.vars) a.hyps hyps_over) (each_of_all (IsTyped db.rows bound.place) a.hyps hyps_typed) root.nodes root_made.grown

    abbrev next : List Term
    next = roots.nodes

    all_more : List Term
    all_more = map free_of a.vars ++ (root_made.more ++ roots_made.more)

    next_is : next ≡ nodes ++ all_more
    unfolding all_more
    next_is =
        roots_made.extends ∙ ap (λ (ns : List Term). ns ++ roots_made.more) root_made.extends
        ∙ append_assoc copied root_made.more roots_made.more ∙ append_assoc nodes (map free_of a.vars) (root_made.more ++ roots_made.more)

    from_copied : next ≡ copied ++ (root_made.more ++ roots_made.more)
    from_copied = roots_made.extends ∙ ap (λ (ns : List Term). ns ++ roots_made.more) root_made.extends ∙ append_assoc copied root_made.more roots_made.more

    prepared_laid : IsLaidOut db bound.place New next lay'
    prepared_laid =
        let e = from_copied in
        let g = roots_made.grown in
        subst (λ (ns : List Term). IsLaidOut db bound.place New ns lay') (sym e)
        (laid_out_grows db bound.place New copied (root_made.more ++ roots_made.more) lay' copies_laid
        (subst (λ (ns : List Term). (k : ℕ) (c : Typecode) → length copied ≤ k → k < length ns → term_at ns k ≡ Free c → ⊥) e g.not_free)
        (subst
        (λ (ns : List Term). (k : ℕ) (l : Label) (c : Typecode) (m : ℕ) (kids : List Id) → k < length ns → term_at ns k ≡ Node l c m kids
        → IsTypedTerm db.rows bound.place ns l c kids) e g.typed))

    prepared_formulas : AreFormulaNodes bound next lay' formulas
    prepared_formulas k h =
        let old = are k h in
        record {
          within = within_front db.rows bound.place copied nodes all_more next (formulas k) next_is old.within;
          is_formula = λ us f.
              old.is_formula us (fit_back db.rows bound.place copied nodes all_more next us next_is f)
              ∙ formula_same bound before (valuation_of lay us) (valuation_of lay' us)
              (λ u on. ap (tree_at us) (sym (kept_node db bound before i a gs nodes lay chained.laid_out apart fresh u on))) k h;
        }

    zip_of : (ts : List Tree) (ids : List Id) → map (λ (id : Id). term_code (term_at next id.0)) ids ≡ map code_of ts → AllByRecursion (λ (id : Id). id.0 < length next) ids
        → ((us : List Tree) → Fit next us → trees_at us ids ≡ map (λ t. instance (valuation_of lay' us) i t) ts) → AllZip (IsInstanceNode next lay' i) ts (map (λ (id : Id). id.0) ids)
    zip_of [] [] e w m = tt
    zip_of [] (x ∷ ids) e w m = absurd (cc)
    zip_of (t ∷ ts) [] e w m = absurd (cc)
    zip_of (t ∷ ts) (x ∷ ids) e w m =
        let tail : map (λ (id : Id). term_code (term_at next id.0)) ids ≡ map code_of ts = cc in
        (record { within = w.0; is_instance = λ us f. let whole = m us f in cc }, zip_of ts ids tail w.1 (λ us f. let whole = m us f in cc))

    prepared_nodes : AreCandidateNodes next lay' i a root.root (map (λ (id : Id). id.0) roots.roots)
    prepared_nodes = record {
      conclusion = record {
        within = within_front db.rows bound.place copied root.nodes roots_made.more next root.root roots_made.extends root_made.within;
        is_instance = λ us f. root_made.means us (fit_back db.rows bound.place copied root.nodes roots_made.more next us roots_made.extends f);
      };
      hyps = zip_of a.hyps roots.roots roots_made.codes roots_made.within roots_made.means;
    }

    -- the candidate's unknowns have their nodes, and the solutions are those of what was accepted before
    pub prepared : IsStore next links → IsSolved next links → IsChained db bound (before ++ asked i a gs ∷ []) before next links lay'
    prepared store solved = record {
      store = store;
      solved = solved;
      laid_out = prepared_laid;
      exact = subst (λ (ns : List Term). IsExact bound ns links lay' before) (sym next_is)
          (exact_grows nodes all_more links chained.store bound before lay lay' (λ u on. (chained.laid_out.unknowns u on).within)
          (kept_node db bound before i a gs nodes lay chained.laid_out apart fresh) chained.sound chained.exact);
      among = λ x h. Contains-append_left before (asked i a gs ∷ []) x h;
      sound = chained.sound;
    }

    pub prepared_formula_nodes : AreFormulaNodes bound next lay' formulas
    prepared_formula_nodes = prepared_formulas

    pub prepared_candidate_nodes : AreCandidateNodes next lay' i a root.root (map (λ (id : Id). id.0) roots.roots)
    prepared_candidate_nodes = prepared_nodes
