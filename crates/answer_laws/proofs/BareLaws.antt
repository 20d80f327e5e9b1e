-- Trees without the numbers of their fresh leaves, and trees with other numbers.
use Rattle.std.specs.Prelude.{◌≡◌, ℕ, List, [], ◌∷◌, map, Contains, refl}
use Rattle.std.proofs.Common.{sym, ap, subst, ◌∙◌, inl, inr}
use Rattle.std.proofs.lemmas.List.Elements.{Contains-append_left, Contains-append_right, Contains-append_cases}
use Rattle.mm_base.specs.declared.symbols.Typecode.{Typecode}
use Rattle.mm_base.specs.declared.tree.Tree.{Tree}
use Rattle.mm_base.specs.declared.tree.Tree.TheVariants.{Var, Fresh}
use Rattle.mm_base.specs.Trees.{Each}
use Rattle.mm_base.proofs.TreeInduction.{tree_ind}
use Rattle.solve_model.specs.Trees.{Open, work, fresh, leaf_tree, open_leaves, flatten, Occurs}
use Rattle.solve_model.specs.MostGeneral.{Refinement, refine}
use Rattle.solve_model.proofs.TreeLaws.{replace-Var, replace-Work, replace-Fresh, replace-Node, open_leaves-Var, open_leaves-Work, open_leaves-Fresh, open_leaves-Node}
use Rattle.solve_laws.specs.OneValuation.{renumbered}
use Rattle.solve_laws.proofs.ReplaceLaws.{replace-replace, replace-agree, agree-replace, replace-self}
use Rattle.solve_laws.proofs.OneValuation.{occurs-refine, leaf_same}
use Rattle.answer_laws.proofs.Elements.{nothing, first, only}

-- refined twice is refined once
pub refine-refine : (r s : Refinement) (t : Tree) → refine r (refine s t) ≡ refine (λ x. refine r (s x)) t
refine-refine r s t =
    replace-replace (λ v c. Var v c) (λ v c. Var v c) r s t
    ∙ replace-agree (λ v c. refine r (Var v c)) (λ v c. Var v c) (λ x. refine r (s x)) (λ x. refine r (s x)) (λ v c. replace-Var _ r v c) t (λ x o. refl)

-- ---- the open leaves of a refined tree

module _ (r : Refinement) (y : Open) where
  -- a leaf whose refinement has the leaf
  pub record ComesFrom (t : Tree) : Type 0 where
    pub leaf : Open
    pub stands : Occurs leaf t
    pub has : Occurs y (r leaf)

  abbrev Comes : Tree → Type 0
  Comes t = Occurs y (refine r t) → ComesFrom t

  abbrev FromOne : List Tree → Type 0
  FromOne ts = (x : Open) × Contains (flatten (map open_leaves ts)) x × Occurs y (r x)

  from_all : (ts : List Tree) → Each Comes ts → Contains (flatten (map open_leaves (map (refine r) ts))) y → FromOne ts
  from_all [] h o = absurd (nothing y o)
  from_all (t ∷ ts) h o = elim (Contains-append_cases (open_leaves (refine r t)) (flatten (map open_leaves (map (refine r) ts))) y o) [
    | inl here ↦ let c = h.0 here in (c.leaf, Contains-append_left (open_leaves t) (flatten (map open_leaves ts)) c.leaf c.stands, c.has)
    | inr rest ↦ let c = from_all ts h.1 rest in (c.0, Contains-append_right (open_leaves t) (flatten (map open_leaves ts)) c.0 c.1, c.2)
  ]

  pub occurs_from : (t : Tree) → Comes t
  occurs_from = tree_ind Comes
      (λ s c o. absurd (nothing y (rw (replace-Var, open_leaves-Var) at o)))
      (λ c n o. record { leaf = work c n; stands = rw open_leaves-Work (first (work c n) (work c n) [] refl); has = rw replace-Work at o })
      (λ c n o. record { leaf = fresh c n; stands = rw open_leaves-Fresh (first (fresh c n) (fresh c n) [] refl); has = rw replace-Fresh at o })
      (λ l c ts h o.
      let from = from_all ts h (rw (replace-Node, open_leaves-Node) at o) in
      record { leaf = from.0; stands = rw open_leaves-Node from.1; has = from.2 })

-- ---- leaves with other numbers

pub only_leaf : (x y : Open) → Occurs y (leaf_tree x) → x ≡ y
only_leaf (work c n) y o = only y (work c n) (rw open_leaves-Work at o)
only_leaf (fresh c n) y o = only y (fresh c n) (rw open_leaves-Fresh at o)

pub leaf_occurs : (x : Open) → Occurs x (leaf_tree x)
leaf_occurs (work c n) = rw open_leaves-Work (first (work c n) (work c n) [] refl)
leaf_occurs (fresh c n) = rw open_leaves-Fresh (first (fresh c n) (fresh c n) [] refl)

module _ (f b : Typecode → ℕ → ℕ) where
  -- there and back the tree is itself
  abbrev pub Returns : Tree → Type 0
  Returns t = refine (renumbered b) (refine (renumbered f) t) ≡ t

  -- so is the number of each fresh leaf
  pub number_returns : (t : Tree) (c : Typecode) (n : ℕ) → Returns t → Occurs (fresh c n) t → b c (f c n) ≡ n
  number_returns t c n h o =
      let whole : refine (λ x. refine (renumbered b) (renumbered f x)) t ≡ refine leaf_tree t = sym (refine-refine (renumbered b) (renumbered f) t) ∙ h ∙ sym (replace-self t) in
      let leaf : refine (renumbered b) (Fresh c (f c n)) ≡ Fresh c n = agree-replace (λ v d. Var v d) (λ x. refine (renumbered b) (renumbered f x)) leaf_tree t whole (fresh c n) o in
      let same : Fresh c (b c (f c n)) ≡ Fresh c n = sym (replace-Fresh _ _ c (f c n)) ∙ leaf in
      let open_same : fresh c (b c (f c n)) ≡ fresh c n = leaf_same (fresh c (b c (f c n))) (fresh c n) same in
      cc

  pub renumbered_occurs : (t : Tree) (c : Typecode) (n : ℕ) → Occurs (fresh c n) t → Occurs (fresh c (f c n)) (refine (renumbered f) t)
  renumbered_occurs t c n o = occurs-refine (renumbered f) (fresh c n) (fresh c (f c n)) t o (leaf_occurs (fresh c (f c n)))

  abbrev IsRenumbered : Tree → Typecode → ℕ → Type 0
  IsRenumbered t c m = (n : ℕ) × Occurs (fresh c n) t × (f c n ≡ m)

  renumbered_leaf : (t : Tree) (c : Typecode) (m : ℕ) (x : Open) → Occurs x t → Occurs (fresh c m) (renumbered f x) → IsRenumbered t c m
  renumbered_leaf t c m (work d n) o h = let same : work d n ≡ fresh c m = only_leaf (work d n) (fresh c m) h in absurd (cc)
  renumbered_leaf t c m (fresh d n) o h =
      let same : fresh d (f d n) ≡ fresh c m = only_leaf (fresh d (f d n)) (fresh c m) h in
      let code : d ≡ c = cc in
      let number : f d n ≡ m = cc in
      (n, subst (λ e. Occurs (fresh e n) t) code o, ap (λ e. f e n) (sym code) ∙ number)

  pub renumbered_from : (t : Tree) (c : Typecode) (m : ℕ) → Occurs (fresh c m) (refine (renumbered f) t) → IsRenumbered t c m
  renumbered_from t c m o = let from = occurs_from (renumbered f) (fresh c m) t o in renumbered_leaf t c m from.leaf from.stands from.has
