-- One open leaf of trees bound to a tree in which it does not stand.
use Rattle.std.specs.Prelude.{◌≡◌, ◌⊎◌, ℕ, ◌<◌, ◌≤◌, ◌+◌, List, [], ◌∷◌, length, map, sum, Contains, refl}
use Rattle.std.proofs.Common.{sym, ap, subst, ◌∙◌, arith, inl, inr}
use Rattle.std.proofs.lemmas.List.Elements.{Contains-append_left, Contains-append_right, Contains-append_cases}
use Rattle.std.proofs.lemmas.List.Sums.{sum_by-cons}
use Rattle.mm_base.specs.declared.symbols.Label.{Label}
use Rattle.mm_base.specs.declared.symbols.Typecode.{Typecode}
use Rattle.mm_base.specs.declared.tree.Tree.{Tree}
use Rattle.mm_base.specs.declared.tree.Tree.TheVariants.{Var, Node}
use Rattle.mm_base.specs.Trees.{Each, code_of}
use Rattle.mm_base.proofs.TreeInduction.{tree_ind}
use Rattle.mm_model.specs.declared.rows.Production.{Production}
use Rattle.mm_model.specs.Sizes.{nodes}
use Rattle.mm_model.specs.Typed.{IsTyped}
use Rattle.mm_model.proofs.SizeLaws.{nodes-Node}
use Rattle.mm_model.proofs.TypedLaws.{code-Var, code-Work, typed-Var, typed-Work}
use Rattle.solve_model.specs.Trees.{Open, work, fresh, leaf_tree, open_code, open_leaves, flatten, Occurs}
use Rattle.solve_model.specs.MostGeneral.{Refinement, refine}
use Rattle.solve_model.proofs.TreeLaws.{replace-Var, replace-Work, replace-Fresh, replace-Node, open_leaves-Var, open_leaves-Work, open_leaves-Fresh, open_leaves-Node}
use Rattle.solve_laws.specs.ReplacedTypes.{IsTypedAs, KeepsTypes}
use Rattle.solve_laws.proofs.Elements.{nothing, first, later, parted, only, here}
use Rattle.solve_laws.proofs.ReplaceLaws.{replace-replace, replace-agree, replace-self}
use Rattle.solve_laws.proofs.ReplacedTypes.{code-Fresh, typed-Fresh, replaced_typed}
use Rattle.writing_laws.specs.Decisions.{Decided}
use Rattle.writing_laws.proofs.Decide.{both_decided, decided_with, codes_decided, numbers_decided}

-- ---- open leaves

both_same : (f : Typecode → ℕ → Open) (c d : Typecode) (n m : ℕ) → (c ≡ d) × (n ≡ m) → f c n ≡ f d m
both_same f c d n m p = ap (λ z. f z n) p.0 ∙ ap (f d) p.1

pub opens_decided : (x y : Open) → Decided (x ≡ y)
opens_decided (work c n) (work d m) = decided_with (both_same work c d n m) (λ (e : work c n ≡ work d m). (cc, cc)) (both_decided (codes_decided c d) (numbers_decided n m))
opens_decided (work c n) (fresh d m) = inr (λ (e : work c n ≡ fresh d m). cc)
opens_decided (fresh c n) (work d m) = inr (λ (e : fresh c n ≡ work d m). cc)
opens_decided (fresh c n) (fresh d m) = decided_with (both_same fresh c d n m) (λ (e : fresh c n ≡ fresh d m). (cc, cc)) (both_decided (codes_decided c d) (numbers_decided n m))

-- the leaf of a leaf's tree is that leaf
pub leaf_occurs : (x : Open) → Occurs x (leaf_tree x)
leaf_occurs (work c n) = rw open_leaves-Work (here (work c n))
leaf_occurs (fresh c n) = rw open_leaves-Fresh (here (fresh c n))

pub leaf_only : (x y : Open) → Occurs y (leaf_tree x) → x ≡ y
leaf_only (work c n) y o = only y (work c n) (rw open_leaves-Work at o)
leaf_only (fresh c n) y o = only y (fresh c n) (rw open_leaves-Fresh at o)

pub leaf_refined : (r : Refinement) (x : Open) → refine r (leaf_tree x) ≡ r x
leaf_refined r (work c n) = replace-Work _ r c n
leaf_refined r (fresh c n) = replace-Fresh _ r c n

pub leaf_typed : (rows : List Production) (before : ℕ) (x : Open) → IsTypedAs rows before (open_code x) (leaf_tree x)
leaf_typed rows before (work c n) = record { code = code-Work c n; typed = typed-Work rows before c n }
leaf_typed rows before (fresh c n) = record { code = code-Fresh c n; typed = typed-Fresh rows before c n }

-- ---- a list without a leaf

abbrev kept : (x y : Open) → Decided (x ≡ y) → List Open → List Open
kept x y (inl e) ys = ys
kept x y (inr n) ys = y ∷ ys

abbrev pub without : Open → List Open → List Open
without x [] = []
without x (y ∷ ys) = kept x y (opens_decided x y) (without x ys)

kept_has : (x y z : Open) (d : Decided (x ≡ y)) (ys zs : List Open) → (x ≡ z → ⊥) → (y ≡ z) ⊎ Contains ys z → (Contains ys z → Contains zs z) → Contains (kept x y d zs) z
kept_has x y z (inl e) ys zs n (inl f) more = absurd (n (e ∙ f))
kept_has x y z (inl e) ys zs n (inr o) more = more o
kept_has x y z (inr m) ys zs n (inl f) more = first z y zs f
kept_has x y z (inr m) ys zs n (inr o) more = later z y zs (more o)

pub without_has : (x z : Open) (ys : List Open) → (x ≡ z → ⊥) → Contains ys z → Contains (without x ys) z
without_has x z [] n o = absurd (nothing z o)
without_has x z (y ∷ ys) n o = kept_has x y z (opens_decided x y) ys (without x ys) n (parted z y ys o) (λ p. without_has x z ys n p)

kept_few : (x y : Open) (d : Decided (x ≡ y)) (ys zs : List Open) → length zs ≤ length ys → length (kept x y d zs) ≤ length (y ∷ ys)
kept_few x y (inl e) ys zs h = omega (arith, h)
kept_few x y (inr n) ys zs h = omega (arith, h)

without_few : (x : Open) (ys : List Open) → length (without x ys) ≤ length ys
without_few x [] = omega arith
without_few x (y ∷ ys) = kept_few x y (opens_decided x y) ys (without x ys) (without_few x ys)

kept_fewer : (x y : Open) (d : Decided (x ≡ y)) (ys zs : List Open) → length zs ≤ length ys → (y ≡ x) ⊎ Contains ys x
    → (Contains ys x → length zs < length ys) → length (kept x y d zs) < length (y ∷ ys)
kept_fewer x y (inl e) ys zs h o more = omega (arith, h)
kept_fewer x y (inr n) ys zs h (inl e) more = absurd (n (sym e))
kept_fewer x y (inr n) ys zs h (inr o) more = let less = more o in omega (arith, less)

pub without_fewer : (x : Open) (ys : List Open) → Contains ys x → length (without x ys) < length ys
without_fewer x [] o = absurd (nothing x o)
without_fewer x (y ∷ ys) o = kept_fewer x y (opens_decided x y) ys (without x ys) (without_few x ys) (parted x y ys o) (λ p. without_fewer x ys p)

-- ---- a leaf's tree is no larger than a tree in which it stands

module _ (r : Refinement) (x : Open) where
  abbrev IsAtMost : Tree → Type 0
  IsAtMost t = Occurs x t → nodes (r x) ≤ nodes (refine r t)

  all_at_most : (ts : List Tree) → Each IsAtMost ts → Contains (flatten (map open_leaves ts)) x → nodes (r x) ≤ sum (map nodes (map (refine r) ts))
  all_at_most [] h o = absurd (nothing x o)
  all_at_most (t ∷ ts) h o =
      let whole : sum (map nodes (map (refine r) (t ∷ ts))) ≡ nodes (refine r t) + sum (map nodes (map (refine r) ts)) =
      sum_by-cons (λ (n : ℕ). n) (nodes (refine r t)) (map nodes (map (refine r) ts)) in
      elim (Contains-append_cases (open_leaves t) (flatten (map open_leaves ts)) x o) [
        | inl p ↦ let one = h.0 p in omega (arith, whole, one)
        | inr p ↦ let rest = all_at_most ts h.1 p in omega (arith, whole, rest)
      ]

  leaf_at_most : (y : Open) → IsAtMost (leaf_tree y)
  leaf_at_most y o =
      let same : nodes (r x) ≡ nodes (refine r (leaf_tree y)) = ap (λ z. nodes (r z)) (sym (leaf_only y x o)) ∙ ap nodes (sym (leaf_refined r y)) in
      omega (arith, same)

  node_more : (l : Label) (c : Typecode) (ts : List Tree) → Each IsAtMost ts → Occurs x (Node l c ts) → nodes (r x) < nodes (refine r (Node l c ts))
  node_more l c ts h o =
      let size : nodes (refine r (Node l c ts)) ≡ sum (map nodes (map (refine r) ts)) + 1 = ap nodes (replace-Node _ r l c ts) ∙ nodes-Node l c (map (refine r) ts) in
      let below = all_at_most ts h (rw open_leaves-Node at o) in
      omega (arith, size, below)

  at_most : (t : Tree) → IsAtMost t
  at_most = tree_ind IsAtMost
      (λ s c o. absurd (nothing x (rw open_leaves-Var at o)))
      (λ c n o. leaf_at_most (work c n) o)
      (λ c n o. leaf_at_most (fresh c n) o)
      (λ l c ts h o. let less = node_more l c ts h o in omega (arith, less))

  each_at_most : (ts : List Tree) → Each IsAtMost ts
  each_at_most [] = tt
  each_at_most (t ∷ ts) = (at_most t, each_at_most ts)

  -- no refinement makes it equal to a larger tree in which it stands
  abbrev CannotBe : Tree → Type 0
  CannotBe t = Occurs x t → (leaf_tree x ≡ t → ⊥) → refine r (leaf_tree x) ≡ refine r t → ⊥

  no_leaf : (y : Open) → CannotBe (leaf_tree y)
  no_leaf y o n e = n (ap leaf_tree (sym (leaf_only y x o)))

  pub cannot_be : (t : Tree) → CannotBe t
  cannot_be = tree_ind CannotBe
      (λ s c o n e. nothing x (rw open_leaves-Var at o))
      (λ c m o n e. no_leaf (work c m) o n e)
      (λ c m o n e. no_leaf (fresh c m) o n e)
      (λ l c ts h o n e.
      let less = node_more l c ts (each_at_most ts) o in
      let same : nodes (r x) ≡ nodes (refine r (Node l c ts)) = ap nodes (sym (leaf_refined r x) ∙ e) in
      omega (arith, less, same))

-- ---- where the leaves of a refined tree come from

record IsFrom (r : Refinement) (xs : List Open) (y : Open) : Type 0 where
  leaf : Open
  stands : Contains xs leaf
  occurs : Occurs y (r leaf)

module _ (r : Refinement) (y : Open) where
  abbrev Comes : Tree → Type 0
  Comes t = Occurs y (refine r t) → IsFrom r (open_leaves t) y

  all_come : (ts : List Tree) → Each Comes ts → Contains (flatten (map open_leaves (map (refine r) ts))) y → IsFrom r (flatten (map open_leaves ts)) y
  all_come [] h o = absurd (nothing y o)
  all_come (t ∷ ts) h o = elim (Contains-append_cases (open_leaves (refine r t)) (flatten (map open_leaves (map (refine r) ts))) y o) [
    | inl p ↦ let f = h.0 p in record { leaf = f.leaf; stands = Contains-append_left (open_leaves t) (flatten (map open_leaves ts)) f.leaf f.stands; occurs = f.occurs }
    | inr p ↦ let f = all_come ts h.1 p in record { leaf = f.leaf; stands = Contains-append_right (open_leaves t) (flatten (map open_leaves ts)) f.leaf f.stands; occurs = f.occurs }
  ]

  leaf_comes : (x : Open) → Comes (leaf_tree x)
  leaf_comes x o = record { leaf = x; stands = leaf_occurs x; occurs = subst (Occurs y) (leaf_refined r x) o }

  comes : (t : Tree) → Comes t
  comes = tree_ind Comes
      (λ s c o. absurd (nothing y (rw (replace-Var, open_leaves-Var) at o)))
      (λ c n o. leaf_comes (work c n) o)
      (λ c n o. leaf_comes (fresh c n) o)
      (λ l c ts h o.
      let f = all_come ts h (rw (replace-Node, open_leaves-Node) at o) in
      record { leaf = f.leaf; stands = rw open_leaves-Node f.stands; occurs = f.occurs })

-- ---- the binding

abbrev bound_by : (x y : Open) → Decided (x ≡ y) → Tree → Tree
bound_by x y (inl e) t = t
bound_by x y (inr n) t = leaf_tree y

-- the tree at the leaf, and each other leaf at itself
abbrev pub bind : Open → Tree → Refinement
bind x t y = bound_by x y (opens_decided x y) t

-- typed refinements
abbrev pub IsFine : List Production → ℕ → Refinement → Type 0
IsFine rows before r = (x : Open) → IsTypedAs rows before (open_code x) (r x)

module _ (rows : List Production) (before : ℕ) (r : Refinement) (fine : IsFine rows before r) where
  keeps : KeepsTypes rows before (λ s c. Var s c) r
  keeps = record { variables = λ s c. record { code = code-Var s c; typed = typed-Var rows before s c }; open_leaves = fine }

  pub refined_typed : (t : Tree) → IsTyped rows before t → IsTypedAs rows before (code_of t) (refine r t)
  refined_typed t h = replaced_typed rows before (λ s c. Var s c) r keeps t h

module _ (x : Open) (t : Tree) where
  -- a refinement under which the leaf is the tree sees no binding
  module _ (r : Refinement) (same : refine r (leaf_tree x) ≡ refine r t) where
    seen_by : (y : Open) (d : Decided (x ≡ y)) → refine r (bound_by x y d t) ≡ r y
    seen_by y (inl e) = sym same ∙ leaf_refined r x ∙ ap r e
    seen_by y (inr n) = leaf_refined r y

    pub unseen : (u : Tree) → refine r (refine (bind x t) u) ≡ refine r u
    unseen u =
        replace-replace (λ s c. Var s c) (λ s c. Var s c) r (bind x t) u
        ∙ replace-agree (λ s c. refine r (Var s c)) (λ s c. Var s c) (λ y. refine r (bind x t y)) r (λ s c. replace-Var (λ s c. Var s c) r s c) u (λ y o. seen_by y (opens_decided x y))

  -- the binding, and then a refinement
  module _ (r : Refinement) where
    abbrev pub composed : Refinement
    composed y = refine r (bind x t y)

    pub composed_is : (u : Tree) → refine composed u ≡ refine r (refine (bind x t) u)
    composed_is u =
        sym (replace-replace (λ s c. Var s c) (λ s c. Var s c) r (bind x t) u
        ∙ replace-agree (λ s c. refine r (Var s c)) (λ s c. Var s c) composed composed (λ s c. replace-Var (λ s c. Var s c) r s c) u (λ y o. refl))

    bound_here : (d : Decided (x ≡ x)) → bound_by x x d t ≡ t
    bound_here (inl e) = refl
    bound_here (inr n) = absurd (n refl)

    module _ (off : Occurs x t → ⊥) where
      stays_by : (y : Open) → Occurs y t → (d : Decided (x ≡ y)) → bound_by x y d t ≡ leaf_tree y
      stays_by y o (inl e) = absurd (off (subst (λ z. Occurs z t) (sym e) o))
      stays_by y o (inr n) = refl

      tree_stays : refine (bind x t) t ≡ t
      tree_stays =
          replace-agree (λ s c. Var s c) (λ s c. Var s c) (bind x t) leaf_tree (λ s c. refl) t (λ y o. stays_by y o (opens_decided x y)) ∙ replace-self t

      -- it makes the leaf and the tree one
      pub composed_joins : refine composed (leaf_tree x) ≡ refine composed t
      composed_joins =
          leaf_refined composed x ∙ ap (refine r) (bound_here (opens_decided x x)) ∙ sym (composed_is t ∙ ap (refine r) tree_stays)

  module _ (rows : List Production) (before : ℕ) (typed : IsTypedAs rows before (open_code x) t) where
    fine_by : (y : Open) (d : Decided (x ≡ y)) → IsTypedAs rows before (open_code y) (bound_by x y d t)
    fine_by y (inl e) = subst (λ z. IsTypedAs rows before (open_code z) t) e typed
    fine_by y (inr n) = leaf_typed rows before y

    pub bind_fine : IsFine rows before (bind x t)
    bind_fine y = fine_by y (opens_decided x y)

    pub composed_fine : (r : Refinement) → IsFine rows before r → IsFine rows before (composed r)
    composed_fine r fine y =
        let b = bind_fine y in
        let k = refined_typed rows before r fine (bind x t y) b.typed in
        record { code = k.code ∙ b.code; typed = k.typed }

  -- bound, a tree has the other leaves alone
  module _ (xs : List Open) (off : Occurs x t → ⊥) (within : (y : Open) → Occurs y t → Contains xs y) where
    left_by : (y z : Open) (d : Decided (x ≡ z)) → Contains xs z → Occurs y (bound_by x z d t) → Contains (without x xs) y
    left_by y z (inl e) h o = without_has x y xs (λ f. off (subst (λ w. Occurs w t) (sym f) o)) (within y o)
    left_by y z (inr n) h o =
        let same = leaf_only z y o in
        without_has x y xs (λ f. n (f ∙ sym same)) (subst (Contains xs) same h)

    pub leaves_left : (u : Tree) → ((y : Open) → Occurs y u → Contains xs y) → (y : Open) → Occurs y (refine (bind x t) u) → Contains (without x xs) y
    leaves_left u h y o =
        let f = comes (bind x t) y u o in
        left_by y f.leaf (opens_decided x f.leaf) (h f.leaf f.stands) f.occurs
