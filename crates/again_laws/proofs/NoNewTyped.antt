-- The variables of a most general valuation, with their typecodes, are those of the formulas that were read.
use Rattle.std.specs.Prelude.{◌≡◌, ℕ, zero, suc, Bool, true, false, Contains, List, [], ◌∷◌, flat_map, slice_get, slice_index_or, Option, Some, None, refl}
use Rattle.std.specs.List.{AllByRecursion}
use Rattle.std.proofs.Common.{sym, ap, subst, ◌∙◌, inl, inr, cond}
use Rattle.std.proofs.lemmas.Bool.{both_ways}
use Rattle.std.proofs.lemmas.List.Elements.{Contains-append_left, Contains-append_right}
use Rattle.mm_base.specs.declared.symbols.Sym.{Sym}
use Rattle.mm_base.specs.declared.symbols.Typecode.{Typecode}
use Rattle.mm_base.specs.declared.tree.Tree.{Tree}
use Rattle.mm_base.specs.declared.tree.Tree.TheVariants.{Var, Fresh}
use Rattle.mm_model.specs.Productions.{TypedVariable}
use Rattle.mm_model.specs.Book.{Database}
use Rattle.mm_model.proofs.TypedLaws.{code-Var, code-Work, typed-Var, typed-Work}
use Rattle.sheet_text.specs.declared.sheet.Given.{Given}
use Rattle.sheet_text.specs.declared.sheet.Given.TheVariants as given
use Rattle.solve_model.specs.declared.bound.Bound.{Bound}
use Rattle.solve_model.specs.declared.bound.BoundStep.{BoundStep}
use Rattle.solve_model.specs.Trees.{Open, work, fresh, leaf_tree, open_code, replace}
use Rattle.solve_model.specs.Solutions.{Unknown, copy, Valuation, Asked, Solves, PlacesFit, IsUnknown, IsValuation, formula_value, formula, instance, open_value, no_step}
use Rattle.solve_model.specs.MostGeneral.{IsMostGeneral}
use Rattle.solve_model.proofs.TreeLaws.{replace-Var, replace-Fresh}
use Rattle.solve_laws.specs.Instances.{IsClosedTree, IsClosed}
use Rattle.solve_laws.specs.ReplacedTypes.{IsTypedAs, KeepsTypes}
use Rattle.solve_laws.proofs.Elements.{nothing, only, here}
use Rattle.solve_laws.proofs.ReplaceLaws.{replace-replace, replace-agree}
use Rattle.solve_laws.proofs.ReplacedTypes.{code-Fresh, typed-Fresh, replaced_typed}
use Rattle.again_laws.specs.Leaves.{typed, typed_leaves}
use Rattle.again_laws.proofs.LeafLaws.{leaves-Var, leaves-Work, leaves-Fresh, replace-both, carries, arises}
use Rattle.again_laws.proofs.Lists.{contains_get, all_from, all_of}
use Rattle.again_laws.proofs.Loose.{same_typed, typed_same, typed_self, contains_or_not}
use Rattle.again_laws.proofs.Orders.{from_flat_map}

abbrev pub tree_leaves : Option Tree → List TypedVariable
tree_leaves None = []
tree_leaves (Some t) = typed_leaves t

no_open_variable : (x : Open) (q : TypedVariable) → Contains (typed_leaves (leaf_tree x)) q → ⊥
no_open_variable (work c n) q o = nothing q (rw leaves-Work at o)
no_open_variable (fresh c n) q o = nothing q (rw leaves-Fresh at o)

-- ---- a fresh leaf in the place of a variable

module _ (q : TypedVariable) where
  abbrev without : Sym → Typecode → Tree
  without s c = cond (same_typed (typed s c) q) (Fresh c 0) (Var s c)

  abbrev freed : Tree → Tree
  freed t = replace without leaf_tree t

  gone_by : (v : TypedVariable) (b : Bool) → same_typed v q ≡ b → Contains (typed_leaves (cond b (Fresh v.code 0) (Var v.sym v.code))) q → ⊥
  gone_by v true e o = nothing q (rw leaves-Fresh at o)
  gone_by v false e o =
      let same : v ≡ q = only q v (rw leaves-Var at o) in
      both_ways (same_typed v q) e (ap (same_typed v) (sym same) ∙ typed_self v)

  is_gone : (t : Tree) → Contains (typed_leaves (freed t)) q → ⊥
  is_gone t o = elim (arises without leaf_tree q t o) [ inl h ↦ gone_by h.0 (same_typed h.0 q) refl h.2 | inr h ↦ no_open_variable h.0 q h.2 ]

  stays_by : (v : TypedVariable) (b : Bool) → same_typed v q ≡ b → (v ≡ q → ⊥) → cond b (Fresh v.code 0) (Var v.sym v.code) ≡ Var v.sym v.code
  stays_by v true e h = absurd (h (typed_same v q e))
  stays_by v false e h = refl

  stays_other : (v : TypedVariable) → (v ≡ q → ⊥) → freed (Var v.sym v.code) ≡ Var v.sym v.code
  stays_other v h = replace-Var without leaf_tree v.sym v.code ∙ stays_by v (same_typed v q) refl h

  module _ (db : Database) (place : ℕ) where
    typed_by : (s : Sym) (c : Typecode) (b : Bool) → IsTypedAs db.rows place c (cond b (Fresh c 0) (Var s c))
    typed_by s c true = record { code = code-Fresh c 0; typed = typed-Fresh db.rows place c 0 }
    typed_by s c false = record { code = code-Var s c; typed = typed-Var db.rows place s c }

    typed_leaf : (x : Open) → IsTypedAs db.rows place (open_code x) (leaf_tree x)
    typed_leaf (work c n) = record { code = code-Work c n; typed = typed-Work db.rows place c n }
    typed_leaf (fresh c n) = record { code = code-Fresh c n; typed = typed-Fresh db.rows place c n }

    keeps : KeepsTypes db.rows place without leaf_tree
    keeps = record { variables = λ s c. typed_by s c (same_typed (typed s c) q); open_leaves = typed_leaf }

  module _ (g : Valuation) where
    abbrev other : Valuation
    other u = freed (g u)

    freed-instance : (i : ℕ) (t : Tree) → IsClosedTree t → freed (instance g i t) ≡ instance other i t
    freed-instance i t closed =
        replace-replace without (λ s c. g (copy i s c)) leaf_tree leaf_tree t
        ∙ replace-agree (λ s c. freed (g (copy i s c))) (λ s c. other (copy i s c)) (λ x. freed (leaf_tree x)) leaf_tree (λ s c. refl) t (λ x o. absurd (closed x o))

    at_open : (x : Open) → freed (open_value g x) ≡ open_value other x
    at_open (work c n) = refl
    at_open (fresh c n) = replace-Fresh without leaf_tree c n

    freed-formula_value : (i : ℕ) (o : Option Tree) → (Contains (tree_leaves o) q → ⊥) → freed (formula_value g i o) ≡ formula_value other i o
    freed-formula_value i None h = refl
    freed-formula_value i (Some t) h =
        replace-replace without (λ s c. Var s c) leaf_tree (open_value g) t
        ∙ replace-both (λ s c. freed (Var s c)) (λ s c. Var s c) (λ x. freed (open_value g x)) (open_value other) t
        (λ v o. stays_other v (λ e. h (subst (Contains (typed_leaves t)) e o))) (λ x o. at_open x)

    module _ (bound : Bound) (lacks : (i : ℕ) → Contains (tree_leaves (slice_index_or bound.steps i no_step).tree) q → ⊥) where
      freed-formula : (i : ℕ) → freed (formula bound g i) ≡ formula bound other i
      freed-formula i = freed-formula_value i (slice_index_or bound.steps i no_step).tree (lacks i)

      places_fit : (i : ℕ) (gs : List Given) (es : List Tree) → AllByRecursion IsClosedTree es → PlacesFit bound g i gs es → PlacesFit bound other i gs es
      places_fit i [] es h f = f
      places_fit i (x ∷ gs) [] h f = f
      places_fit i (given.Gap ∷ gs) (e ∷ es) h f = places_fit i gs es h.1 f
      places_fit i (given.Step k ∷ gs) (e ∷ es) h f = (sym (freed-instance i e h.0) ∙ ap freed f.0 ∙ freed-formula k, places_fit i gs es h.1 f.1)

      solves_one : (x : Asked) → IsClosed x → Solves bound g x → Solves bound other x
      solves_one x closed h = record {
        conclusion = sym (freed-instance x.step x.assertion.tree closed.0) ∙ ap freed h.conclusion ∙ freed-formula x.step;
        places = places_fit x.step x.places x.assertion.hyps closed.1 h.places;
      }

    other_valuation : (db : Database) (place : ℕ) (On : Unknown → Type 0) → IsValuation db place On g → IsValuation db place On other
    other_valuation db place On h = record {
      code = λ u on. (replaced_typed db.rows place without leaf_tree (keeps db place) (g u) (h.typed u on)).code ∙ h.code u on;
      typed = λ u on. (replaced_typed db.rows place without leaf_tree (keeps db place) (g u) (h.typed u on)).typed;
    }

module _ (db : Database) (bound : Bound) (accepted : List Asked) (g : Valuation) (general : IsMostGeneral db bound accepted g) (closed : AllByRecursion IsClosed accepted) where
  not_lacking : (u : Unknown) (q : TypedVariable) → IsUnknown bound accepted u → Contains (typed_leaves (g u)) q
      → ((i : ℕ) → Contains (tree_leaves (slice_index_or bound.steps i no_step).tree) q → ⊥) → ⊥
  not_lacking u q on o lacks =
      let solves = all_from (Solves bound (other q g)) accepted (λ x m. solves_one q g bound lacks x (all_of IsClosed accepted x closed m) (all_of (Solves bound g) accepted x general.solves m)) in
      let is = general.general (other q g) (other_valuation q g db bound.place (IsUnknown bound accepted) general.is_valuation) solves in
      is_gone q (g u) (subst (λ t. Contains (typed_leaves t) q) (sym (is.same u on)) (carries (λ s c. Var s c) is.by q q (g u) o (rw leaves-Var (here q))))

  -- the formula that has the variable
  pub record IsReadVariable (q : TypedVariable) : Type 0 where
    pub step : ℕ
    pub bound_step : BoundStep
    pub at : slice_get bound.steps step ≡ Some bound_step
    pub tree : Tree
    pub tree_is : bound_step.tree ≡ Some tree
    pub inside : Contains (typed_leaves tree) q

  read_by : (k : ℕ) (b : BoundStep) (q : TypedVariable) → slice_get bound.steps k ≡ Some b → (o : Option Tree) → b.tree ≡ o → Contains (tree_leaves o) q → IsReadVariable q
  read_by k b q at None e m = absurd (nothing q m)
  read_by k b q at (Some t) e m = record { step = k; bound_step = b; at = at; tree = t; tree_is = e; inside = m }

  index_by : (steps_ : List BoundStep) (i : ℕ) (q : TypedVariable) → Contains (tree_leaves (slice_index_or steps_ i no_step).tree) q
      → Contains (flat_map (λ (b : BoundStep). tree_leaves b.tree) steps_) q
  index_by [] i q m = absurd (nothing q m)
  index_by (b ∷ steps_) i q m = by i m (λ j. index_by steps_ j q)
    where
      by : (j : ℕ) → Contains (tree_leaves (slice_index_or (b ∷ steps_) j no_step).tree) q
          → ((n : ℕ) → Contains (tree_leaves (slice_index_or steps_ n no_step).tree) q
          → Contains (flat_map (λ (x : BoundStep). tree_leaves x.tree) steps_) q)
          → Contains (flat_map (λ (x : BoundStep). tree_leaves x.tree) (b ∷ steps_)) q
      by zero n rest = Contains-append_left (tree_leaves b.tree) (flat_map (λ (x : BoundStep). tree_leaves x.tree) steps_) q n
      by (suc j) n rest = Contains-append_right (tree_leaves b.tree) (flat_map (λ (x : BoundStep). tree_leaves x.tree) steps_) q (rest j n)

  pub read_variable : (u : Unknown) (q : TypedVariable) → IsUnknown bound accepted u → Contains (typed_leaves (g u)) q → IsReadVariable q
  read_variable u q on o = elim (contains_or_not (flat_map (λ (b : BoundStep). tree_leaves b.tree) bound.steps) q) [
    | inl m ↦
        let r = from_flat_map (λ (b : BoundStep). tree_leaves b.tree) bound.steps q m in
        let k = contains_get bound.steps r.0 r.1 in
        read_by k.0 r.0 q k.1 r.0.tree refl r.2
    | inr none ↦ absurd (not_lacking u q on o (λ i m. none (index_by bound.steps i q m)))
  ]
