-- What was taken is judged.
use Rattle.std.specs.Prelude.{◌≡◌, ℕ, ◌<◌, ◌≤◌, List, [], ◌∷◌, ◌++◌, length, map, slice_get, Option, Some, None, refl}
use Rattle.std.specs.List.{AllByRecursion}
use Rattle.std.proofs.Common.{zero, suc, sym, ap, subst, ◌∙◌, arith, inl, inr}
use Rattle.std.proofs.lemmas.Bool.{cases_lt}
use Rattle.std.proofs.lemmas.List.{length-map}
use Rattle.mm_base.specs.declared.symbols.Sym.{Sym}
use Rattle.mm_base.specs.declared.symbols.Typecode.{Typecode}
use Rattle.mm_model.specs.Typed.{IsTyped}
use Rattle.mm_model.specs.Productions.{TypedVariable, typed_variables}
use Rattle.mm_model.specs.Book.{Database, Assertion}
use Rattle.sheet_text.specs.declared.sheet.Given.{Given}
use Rattle.solve_model.specs.declared.bound.BoundStep.{BoundStep}
use Rattle.solve_model.specs.declared.bound.Bound.{Bound}
use Rattle.solve_model.specs.declared.verdict.Verdict.TheVariants as verdict
use Rattle.solve_model.specs.Bound.{candidate}
use Rattle.solve_model.specs.Solutions.{copy, IsUnknown, Asked, orders_of}
use Rattle.solve_model.specs.Verdicts.{asked, Judgement, accepted, stands, IsJudgement}
use Rattle.term_model.specs.declared.shape.Id.{Id}
use Rattle.term_model.specs.Terms.{Term, term_at, children_of}
use Rattle.term_model.specs.Links.{Link}
use Rattle.term_model.specs.Store.{Store, IsStore, IsSolved}
use Rattle.chain_laws.specs.Adding.{Rooted, Listed, Adder, id_of, added, run, numbered, free_of, AreApart}
use Rattle.chain_laws.specs.Layout.{Layout, IsOver, IsChained, AreFormulaNodes, AreCandidateNodes, IsSoundAsked, HasRoom, Joins, CannotJoin}
use Rattle.chain_laws.proofs.Grown.{term_front}
use Rattle.chain_laws.proofs.Copies.{with_copies}
use Rattle.chain_laws.proofs.Prepared.{prepared, prepared_formula_nodes, prepared_candidate_nodes}
use Rattle.step_chain.specs.Candidate.{root_of, roots_of}
use Rattle.step_chain.specs.Ordered.{formula_at, reordered, may_reorder, tried, id_pairs, IsFirstFit}
use Rattle.step_chain.specs.Tried.{conclusion_pairs, IsTried, IsTaken}
use Rattle.step_chain.proofs.JudgedLaws.{no_conclusion, no_order, accepted_chain, first_order}

-- a store with free nodes behind
copied_store : (nodes : List Term) (vs : List TypedVariable) → IsStore nodes [] → IsStore (nodes ++ map free_of vs) []
copied_store nodes vs store = record {
  children = λ k h. elim (cases_lt k (length nodes)) [
    | inl old ↦ subst (λ (e : Term). AllByRecursion (λ (id : Id). id.0 < k) (children_of e)) (sym (term_front nodes (map free_of vs) k old)) (store.children k old)
    | inr new ↦ no_children nodes k new
  ];
  in_order = tt;
  codes = tt;
}
  where
    leaf : (ws : List TypedVariable) (k j : ℕ) → AllByRecursion (λ (id : Id). id.0 < k) (children_of (term_at (map free_of ws) j))
    leaf [] k j = tt
    leaf (w ∷ ws) k zero = tt
    leaf (w ∷ ws) k (suc j) = leaf ws k j

    no_children : (ns : List Term) (k : ℕ) → length ns ≤ k → AllByRecursion (λ (id : Id). id.0 < k) (children_of (term_at (ns ++ map free_of vs) k))
    no_children ns k h = past ns k k h
      where
        past : (ns : List Term) (k j : ℕ) → length ns ≤ j → AllByRecursion (λ (id : Id). id.0 < k) (children_of (term_at (ns ++ map free_of vs) j))
        past [] k j h = leaf vs k j
        past (n ∷ ns) k zero h = absurd (omega (arith, h))
        past (n ∷ ns) k (suc j) h = past ns k j (omega (arith, h))

-- what is judged of a candidate that was taken
abbrev pub judged : ℕ → BoundStep → Assertion → Option (List ℕ) → Judgement
judged i s a None = stands verdict.NoFit
judged i s a (Some order) = accepted (asked i a (reordered s.places order))

-- what is accepted then
abbrev pub accepted_then : List Asked → ℕ → BoundStep → Assertion → List ℕ → List Asked
accepted_then before i s a order = before ++ asked i a (reordered s.places order) ∷ []

module _ (db : Database) (bound : Bound) (before : List Asked) (i : ℕ) (s : BoundStep) (a : Assertion) (lay : Layout) (formulas : List Id) (old new : Store)
    (chained : IsChained db bound before before old.nodes old.links lay) (are : AreFormulaNodes bound old.nodes lay (λ k. (formula_at formulas k).0))
    (vars : a.vars ≡ typed_variables a.frame.hyps) (apart : AreApart a.vars) (fresh : (v : Sym) (c : Typecode) → IsUnknown bound before (copy i v c) → ⊥)
    (tree_over : IsOver a.vars a.tree) (hyps_over : AllByRecursion (IsOver a.vars) a.hyps) (tree_typed : IsTyped db.rows bound.place a.tree)
    (hyps_typed : AllByRecursion (IsTyped db.rows bound.place) a.hyps)
    (sound : (j : ℕ) (gs : List Given) → slice_get (orders_of s a) j ≡ Some gs → IsSoundAsked bound (asked i a gs))
    (room : (j : ℕ) (gs : List Given) → slice_get (orders_of s a) j ≡ Some gs → HasRoom gs a.hyps) where
  abbrev nodes : List Term
  nodes = old.nodes

  -- the candidate's nodes, by its own list of variables
  abbrev pub root : Rooted
  root = added db.rows [] (numbered (length nodes) a.vars) a.tree (nodes ++ map free_of a.vars)

  abbrev pub roots : Listed
  roots = run (map (added db.rows [] (numbered (length nodes) a.vars)) a.hyps) root.nodes

  root_same : root_of db.rows nodes a.frame.hyps a.tree ≡ root
  root_same = ap (λ (vs : List TypedVariable). added db.rows [] (numbered (length nodes) vs) a.tree (nodes ++ map free_of vs)) (sym vars)

  pub roots_same : roots_of db.rows nodes a.frame.hyps a.tree a.hyps ≡ roots
  roots_same =
      ap (λ (vs : List TypedVariable). run (map (added db.rows [] (numbered (length nodes) vs)) a.hyps)
      (added db.rows [] (numbered (length nodes) vs) a.tree (nodes ++ map free_of vs)).nodes) (sym vars)

  bare : IsStore (nodes ++ map free_of a.vars) []
  bare = copied_store nodes a.vars (record { children = chained.store.children; in_order = tt; codes = tt })

  abbrev pub lay' : Layout
  lay' = with_copies (length nodes) i a.vars lay

  module _ (ready_store : IsStore roots.nodes old.links) (ready_solved : IsSolved roots.nodes old.links) where
    ready : IsChained db bound (before ++ asked i a s.places ∷ []) before roots.nodes old.links lay'
    ready = prepared db bound before i a s.places nodes old.links lay (λ k. (formula_at formulas k).0) chained are apart fresh tree_over hyps_over tree_typed hyps_typed bare ready_store ready_solved

    pub ready_formulas : AreFormulaNodes bound roots.nodes lay' (λ k. (formula_at formulas k).0)
    ready_formulas = prepared_formula_nodes db bound before i a s.places nodes old.links lay (λ k. (formula_at formulas k).0) chained are apart fresh tree_over hyps_over tree_typed hyps_typed bare

    pub ready_nodes : AreCandidateNodes roots.nodes lay' i a root.root (map (λ (id : Id). id.0) roots.roots)
    ready_nodes = prepared_candidate_nodes db bound before i a s.places nodes old.links lay (λ k. (formula_at formulas k).0) chained are apart fresh tree_over hyps_over tree_typed hyps_typed bare

    roots_count : length roots.roots ≡ length a.hyps
    roots_count = count (map (added db.rows [] (numbered (length nodes) a.vars)) a.hyps) root.nodes ∙ length-map a.hyps (added db.rows [] (numbered (length nodes) a.vars))
      where
        count : (fs : List Adder) (ns : List Term) → length (run fs ns).roots ≡ length fs
        count [] ns = refl
        count (f ∷ fs) ns = let rest = count fs (f ns).nodes in omega (arith, rest)

    module _ (formula : Id) (is_formula : formula ≡ formula_at formulas i) (new_links : List Link) (new_store : IsStore roots.nodes new_links) (new_solved : IsSolved roots.nodes new_links) where
      conclusion_is : conclusion_pairs (id_of root.root) formula ≡ (root.root, (formula_at formulas i).0) ∷ []
      conclusion_is = ap (λ (x : Id). (root.root, x.0) ∷ []) is_formula

      abbrev pairs : List ℕ → List (Id × Id)
      pairs order = id_pairs formulas (reordered s.places order) roots.roots

      first_is : (mid : List Link) (r : Option (List ℕ))
          → IsFirstFit roots.nodes mid new_links pairs (tried (may_reorder s.places (length roots.roots)) (length s.places)) r
          → IsFirstFit roots.nodes mid new_links pairs (tried (may_reorder s.places (length a.hyps)) (length s.places)) r
      first_is mid r h = subst (λ (k : ℕ). IsFirstFit roots.nodes mid new_links pairs (tried (may_reorder s.places k) (length s.places)) r) roots_count h

      judge : (r : Option (List ℕ)) → IsTried roots.nodes old.links new_links formulas s.places roots.roots (id_of root.root) formula r
          → IsJudgement db bound before i s (candidate a) (judged i s a r)
      judge None (inl c) =
          no_conclusion db bound before i s a roots.nodes lay' formulas root.root roots.roots ready_formulas ready_nodes old.links ready sound room
          (subst (CannotJoin roots.nodes old.links) conclusion_is c.0)
      judge (Some order) (inl c) = let impossible : ◌≡◌ {A = Option (List ℕ)} (Some order) None = c.1 in absurd (cc)
      judge None (inr j) =
          no_order db bound before i s a roots.nodes lay' formulas root.root roots.roots ready_formulas ready_nodes old.links ready sound room j.mid
          (subst (Joins roots.nodes old.links j.mid) conclusion_is j.conclusion) new_links (first_is j.mid None j.first)
      judge (Some order) (inr j) =
          first_order db bound before i s a roots.nodes lay' formulas root.root roots.roots ready_formulas ready_nodes old.links ready sound room
          j.mid
          (subst (Joins roots.nodes old.links j.mid) conclusion_is j.conclusion) new_links order
          (first_is j.mid (Some order) j.first) new_store new_solved

      -- where it fits, the store is that of the accepted candidates, this one among them
      pub taken_chain : (order : List ℕ)
          → IsTried roots.nodes old.links new_links formulas s.places roots.roots (id_of root.root) formula (Some order)
          → IsChained db bound (accepted_then before i s a order) (accepted_then before i s a order) roots.nodes new_links lay'
      taken_chain order (inl c) = let impossible : ◌≡◌ {A = Option (List ℕ)} (Some order) None = c.1 in absurd (cc)
      taken_chain order (inr j) =
          accepted_chain db bound before i s a roots.nodes lay' formulas root.root roots.roots ready_formulas ready_nodes old.links ready sound room
          j.mid
          (subst (Joins roots.nodes old.links j.mid) conclusion_is j.conclusion) new_links order
          (first_is j.mid (Some order) j.first) new_store new_solved

      -- what `take` answers, as the candidate's own lists say it
      pub own_tried : (r : Option (List ℕ)) → IsTaken db.rows a.frame.hyps a.tree a.hyps formulas formula s.places old new r → new.links ≡ new_links
          → IsTried roots.nodes old.links new_links formulas s.places roots.roots (id_of root.root) formula r
      own_tried r h e =
          subst (λ (ls : List Link). IsTried roots.nodes old.links ls formulas s.places roots.roots (id_of root.root) formula r) e
          (subst (λ (x : Listed). IsTried x.nodes old.links new.links formulas s.places x.roots (id_of root.root) formula r) roots_same
          (subst
          (λ (x : Rooted). IsTried (roots_of db.rows nodes a.frame.hyps a.tree a.hyps).nodes old.links new.links formulas s.places
          (roots_of db.rows nodes a.frame.hyps a.tree a.hyps).roots (id_of x.root) formula r) root_same h.tried))

      -- so the candidate is judged
      pub taken_judged : (r : Option (List ℕ)) → IsTaken db.rows a.frame.hyps a.tree a.hyps formulas formula s.places old new r
          → new.links ≡ new_links → IsJudgement db bound before i s (candidate a) (judged i s a r)
      taken_judged r h e = judge r (own_tried r h e)
