-- What a valuation solves rests on the unknowns alone.
use Rattle.std.specs.Prelude.{◌≡◌, ℕ, ◌<◌, List, [], ◌∷◌, length, map, slice_get, slice_index_or, Option, Some, None, Contains, refl}
use Rattle.std.specs.List.{AllByRecursion}
use Rattle.std.proofs.Common.{sym, ap, subst, ◌∙◌}
use Rattle.std.proofs.lemmas.Option.{slice_get-get_or}
use Rattle.mm_base.specs.declared.symbols.Sym.{Sym}
use Rattle.mm_base.specs.declared.symbols.Typecode.{Typecode}
use Rattle.mm_base.specs.declared.tree.Tree.{Tree}
use Rattle.mm_base.specs.declared.tree.Tree.TheVariants.{Var, Work, Fresh, Node, outs-Var, outs-Work, outs-Fresh}
use Rattle.mm_base.specs.declared.tree.Tree.TheFolds.{every_here-Tree}
use Rattle.mm_base.specs.Trees.{Each}
use Rattle.mm_base.proofs.TreeInduction.{tree_ind}
use Rattle.mm_base.proofs.TreeFacts.{node_held}
use Rattle.mm_model.specs.Productions.{TypedVariable}
use Rattle.sheet_text.specs.declared.sheet.Given.{Given}
use Rattle.sheet_text.specs.declared.sheet.Given.TheVariants as given
use Rattle.solve_model.specs.declared.bound.BoundStep.{BoundStep}
use Rattle.solve_model.specs.declared.bound.Bound.{Bound}
use Rattle.solve_model.specs.Trees.{Open, work, fresh, replace, leaf_tree, Occurs}
use Rattle.solve_model.specs.Solutions.{Unknown, named, blank, copy, Valuation, IsUnknown, in_formula, is_blank, in_frame, Asked, Solves, PlacesFit}
use Rattle.solve_model.specs.Solutions.{formula_value, formula, instance, open_value, no_step}
use Rattle.solve_model.proofs.TreeLaws.{replace-Var, replace-Node}
use Rattle.solve_laws.proofs.ReplaceLaws.{replace-agree}
use Rattle.written_model.specs.Existence.{IsPlaceIn}
use Rattle.chain_laws.specs.Layout.{LayerIsOver, IsOver, IsSoundAsked}
use Rattle.chain_laws.proofs.LeastLeaves.{first, later}

-- ---- trees over variables

module _ (vars : List TypedVariable) where
  pub over_Var : (s : Sym) (c : Typecode) → IsOver vars (Var s c) → Contains vars (record { sym = s; code = c })
  over_Var s c h = subst (LayerIsOver vars) (outs-Var s c) (every_here-Tree (LayerIsOver vars) (Var s c) h)

  pub over_Work : (c : Typecode) (n : ℕ) → IsOver vars (Work c n) → ⊥
  over_Work c n h = subst (LayerIsOver vars) (outs-Work c n) (every_here-Tree (LayerIsOver vars) (Work c n) h)

  pub over_Fresh : (c : Typecode) (n : ℕ) → IsOver vars (Fresh c n) → ⊥
  over_Fresh c n h = subst (LayerIsOver vars) (outs-Fresh c n) (every_here-Tree (LayerIsOver vars) (Fresh c n) h)

  module _ (a b : Sym → Typecode → Tree) (p q : Open → Tree) (same : (s : Sym) (c : Typecode) → Contains vars (record { sym = s; code = c }) → a s c ≡ b s c) where
    abbrev Same : Tree → Type 0
    Same t = IsOver vars t → replace a p t ≡ replace b q t

    all_same : (ts : List Tree) → Each Same ts → Each (IsOver vars) ts → map (replace a p) ts ≡ map (replace b q) ts
    all_same [] h o = refl
    all_same (t ∷ ts) h o =
        let here = h.0 o.0 in
        let rest = all_same ts h.1 o.1 in
        cc

    pub over_agree : (t : Tree) → Same t
    over_agree = tree_ind Same
        (λ s c o. replace-Var a p s c ∙ same s c (over_Var s c o) ∙ sym (replace-Var b q s c))
        (λ c n o. absurd (over_Work c n o))
        (λ c n o. absurd (over_Fresh c n o))
        (λ l c ts h o. replace-Node a p l c ts ∙ ap (λ us. Node l c us) (all_same ts h (node_held (LayerIsOver vars) l c ts o)) ∙ sym (replace-Node b q l c ts))

-- ---- formulas and candidates

module _ (bound : Bound) (asked : List Asked) (v w : Valuation) (same : (u : Unknown) → IsUnknown bound asked u → v u ≡ w u) where
  open_same : (i : ℕ) (s : BoundStep) (t : Tree) → slice_get bound.steps i ≡ Some s → s.tree ≡ Some t → (x : Open) → Occurs x t → open_value v x ≡ open_value w x
  open_same i s t at is (work c n) o = same (named c n) (in_formula i s t at is o)
  open_same i s t at is (fresh c n) o = refl

  value_same : (i : ℕ) (s : BoundStep) (o : Option Tree) → slice_get bound.steps i ≡ Some s → s.tree ≡ o → formula_value v i o ≡ formula_value w i o
  value_same i s None at is = same (blank i) (is_blank s at is)
  value_same i s (Some t) at is = replace-agree (λ x c. Var x c) (λ x c. Var x c) (open_value v) (open_value w) (λ x c. refl) t (open_same i s t at is)

  pub formula_same : (i : ℕ) → i < length bound.steps → formula bound v i ≡ formula bound w i
  formula_same i h = value_same i (slice_index_or bound.steps i no_step) (slice_index_or bound.steps i no_step).tree (slice_get-get_or bound.steps i no_step h) refl

  module _ (x : Asked) (is_asked : Contains asked x) where
    pub instance_same : (t : Tree) → IsOver x.assertion.vars t → instance v x.step t ≡ instance w x.step t
    instance_same t o =
        over_agree x.assertion.vars (λ s c. v (copy x.step s c)) (λ s c. w (copy x.step s c)) leaf_tree leaf_tree
        (λ s c is. same (copy x.step s c) (in_frame x (record { sym = s; code = c }) is_asked is)) t o

    places_same : (gs : List Given) (es : List Tree) → AllByRecursion (IsPlaceIn (length bound.steps)) gs
        → AllByRecursion (IsOver x.assertion.vars) es → PlacesFit bound v x.step gs es → PlacesFit bound w x.step gs es
    places_same [] es h o f = tt
    places_same (g ∷ gs) [] h o f = f
    places_same (given.Gap ∷ gs) (e ∷ es) h o f = places_same gs es h.1 o.1 f
    places_same (given.Step k ∷ gs) (e ∷ es) h o f = (sym (instance_same e o.0) ∙ f.0 ∙ formula_same k h.0, places_same gs es h.1 o.1 f.1)

    pub solves_same : IsSoundAsked bound x → Solves bound v x → Solves bound w x
    solves_same sound s = record {
      conclusion = sym (instance_same x.assertion.tree sound.tree) ∙ s.conclusion ∙ formula_same x.step sound.step;
      places = places_same x.places x.assertion.hyps sound.places sound.hyps s.places;
    }

  pub solve_same : (xs : List Asked) → ((x : Asked) → Contains xs x → Contains asked x) → AllByRecursion (IsSoundAsked bound) xs
      → AllByRecursion (Solves bound v) xs → AllByRecursion (Solves bound w) xs
  solve_same [] inside sound s = tt
  solve_same (x ∷ xs) inside sound s = (solves_same x (inside x (first x xs)) sound.0 s.0, solve_same xs (λ y h. inside y (later y x xs h)) sound.1 s.1)
