-- A most general valuation has no variable, with its typecode, that the formulas as they were read lack.
use Rattle.std.specs.Prelude.{◌≡◌, ℕ, zero, suc, Bool, true, false, List, [], ◌∷◌, map, slice_get, slice_index_or, Contains, Option, Some, None, refl}
use Rattle.std.specs.List.{AllByRecursion}
use Rattle.std.proofs.Common.{sym, ap, subst, ◌∙◌, cond, inl, inr}
use Rattle.mm_base.specs.declared.symbols.Sym.{Sym}
use Rattle.mm_base.specs.declared.symbols.Typecode.{Typecode}
use Rattle.mm_base.specs.declared.tree.Tree.{Tree, out-Tree}
use Rattle.mm_base.specs.declared.tree.Tree.TheVariants.{Var, Fresh, outs-Var, outs-Fresh}
use Rattle.mm_base.specs.declared.tree.Tree.TheOpen.{Tree-F}
use Rattle.mm_base.proofs.TreeInduction.{tree_ind}
use Rattle.mm_base.proofs.TreeFacts.{same_node}
use Rattle.mm_model.specs.declared.rows.Leaf.TheVariants as leaf
use Rattle.mm_model.specs.Texts.{text, row_of}
use Rattle.mm_model.specs.Typed.{IsTyped}
use Rattle.mm_model.specs.Book.{Database}
use Rattle.mm_model.proofs.TextLaws.{text-Var, text-Work, text-Fresh}
use Rattle.mm_model.proofs.TypedLaws.{code-Var, code-Work, typed-Var, typed-Work}
use Rattle.sheet_text.specs.declared.sheet.Given.{Given}
use Rattle.sheet_text.specs.declared.sheet.Given.TheVariants as given
use Rattle.solve_model.specs.declared.bound.Bound.{Bound}
use Rattle.solve_model.specs.Trees.{Open, work, fresh, leaf_tree, open_code, replace}
use Rattle.solve_model.specs.Solutions.{Unknown, copy, Valuation, Asked, Solves, PlacesFit, IsUnknown, IsValuation, formula_value, formula, instance, open_value, no_step}
use Rattle.solve_model.specs.MostGeneral.{Refinement, refine, IsMostGeneral}
use Rattle.solve_model.proofs.TreeLaws.{replace-Var, replace-Fresh, replace-Node}
use Rattle.solve_laws.specs.Instances.{IsClosedTree, IsClosed}
use Rattle.solve_laws.specs.ReplacedTypes.{IsTypedAs, KeepsTypes}
use Rattle.solve_laws.proofs.ReplaceLaws.{replace-replace, replace-agree}
use Rattle.solve_laws.proofs.ReplacedTypes.{code-Fresh, typed-Fresh, replaced_typed}
use Rattle.push_laws.proofs.Facts.{IsBook}
use Rattle.push_laws.proofs.Lists.{nothing, parted}
use Rattle.push_laws.proofs.Parts.{node_leaf, each_at}
use Rattle.push_laws.proofs.Replaced.{HasVar, replace_alike}

map_same_at : (f g : Tree → Tree) (ts : List Tree) (k : ℕ) (t : Tree) → map f ts ≡ map g ts → slice_get ts k ≡ Some t → f t ≡ g t
map_same_at f g [] k t e i = absurd cc
map_same_at f g (u ∷ ts) zero t e i = let same : u ≡ t = cc in subst (λ x. f x ≡ g x) same (let one : f u ≡ g u = cc in one)
map_same_at f g (u ∷ ts) (suc k) t e i = map_same_at f g ts k t (let rest : map f ts ≡ map g ts = cc in rest) i

module _ (db : Database) (book : IsBook db) (test : Sym → Typecode → Bool) where
  abbrev without : Sym → Typecode → Tree
  without v c = cond (test v c) (Fresh c 0) (Var v c)

  abbrev freed : Tree → Tree
  freed t = replace without leaf_tree t

  stays_other : (v : Sym) (c : Typecode) → test v c ≡ false → freed (Var v c) ≡ Var v c
  stays_other v c e = replace-Var without leaf_tree v c ∙ ap (λ (b : Bool). cond b (Fresh c 0) (Var v c)) e

  module _ (place : ℕ) where
    typed_by : (v : Sym) (c : Typecode) (b : Bool) → IsTypedAs db.rows place c (cond b (Fresh c 0) (Var v c))
    typed_by v c true = record { code = code-Fresh c 0; typed = typed-Fresh db.rows place c 0 }
    typed_by v c false = record { code = code-Var v c; typed = typed-Var db.rows place v c }

    typed_leaf : (x : Open) → IsTypedAs db.rows place (open_code x) (leaf_tree x)
    typed_leaf (work c n) = record { code = code-Work c n; typed = typed-Work db.rows place c n }
    typed_leaf (fresh c n) = record { code = code-Fresh c n; typed = typed-Fresh db.rows place c n }

    keeps : KeepsTypes db.rows place without leaf_tree
    keeps = record { variables = λ v c. typed_by v c (test v c); open_leaves = typed_leaf }

  -- ---- what is freed and is a refinement too has no such variable

  fresh_no_var : (c d : Typecode) (s : Sym) → Fresh c 0 ≡ Var s d → ⊥
  fresh_no_var c d s e =
      let out : ◌≡◌ {A = Tree-F Tree} (Tree-F.Fresh c 0) (Tree-F.Var s d) = sym (outs-Fresh c 0) ∙ ap out-Tree e ∙ outs-Var s d in
      cc

  module _ (r : Refinement) where
    abbrev IsKept : Tree → Type 0
    IsKept t = freed t ≡ refine r t → (s : Sym) (c : Typecode) → Contains (text db.rows t) (leaf.Var s c) → test s c ≡ false

    var_kept : (v : Sym) (d : Typecode) (b : Bool) → test v d ≡ b → cond b (Fresh d 0) (Var v d) ≡ Var v d → test v d ≡ false
    var_kept v d false e i = e
    var_kept v d true e i = absurd (fresh_no_var d d v i)

    is_var : (v s : Sym) (d c : Typecode) → Contains (leaf.Var v d ∷ []) (leaf.Var s c) → (v ≡ s) × (d ≡ c)
    is_var v s d c h = elim (parted (leaf.Var s c) (leaf.Var v d) [] h) [ inl e ↦ (let a : v ≡ s = cc in a, let b : d ≡ c = cc in b) | inr l ↦ absurd (nothing (leaf.Var s c) l) ]

    no_var : (s : Sym) (c d : Typecode) (n : ℕ) → Contains (leaf.Work d n ∷ []) (leaf.Var s c) → ⊥
    no_var s c d n h = elim (parted (leaf.Var s c) (leaf.Work d n) [] h) [ inl e ↦ cc | inr l ↦ nothing (leaf.Var s c) l ]

    const_var : (s v : Sym) (c : Typecode) → leaf.Var s c ≡ leaf.Const v → ⊥
    const_var s v c e = cc

    all_kept : (t : Tree) → IsKept t
    all_kept = tree_ind IsKept
        (λ v d e s c h.
        let it = is_var v s d c (subst (λ xs. Contains xs (leaf.Var s c)) (text-Var db.rows v d) h) in
        let one = var_kept v d (test v d) refl (sym (replace-Var without leaf_tree v d) ∙ e ∙ replace-Var (λ x y. Var x y) r v d) in
        subst (λ x. test x c ≡ false) it.0 (subst (λ x. test v x ≡ false) it.1 one))
        (λ d n e s c h. absurd (no_var s c d n (subst (λ xs. Contains xs (leaf.Var s c)) (text-Work db.rows d n) h)))
        (λ d n e s c h. absurd (nothing (leaf.Var s c) (subst (λ xs. Contains xs (leaf.Var s c)) (text-Fresh db.rows d n) h)))
        (λ l d ts each e s c h. elim (node_leaf db l d ts (leaf.Var s c) (row_of db.rows l) refl h) [
          | inl k ↦ absurd (const_var s k.0 c k.1)
          | inr k ↦
              let children = (same_node _ _ _ _ _ _ (sym (replace-Node without leaf_tree l d ts) ∙ e ∙ replace-Node (λ x y. Var x y) r l d ts)).children in
              each_at IsKept ts k.0 k.1 each k.2 (map_same_at freed (refine r) ts k.0 k.1 children k.2) s c k.3
        ])

  -- ---- the valuation with it solves what the valuation solves

  module _ (bound : Bound) (g : Valuation)
      (reads : (i : ℕ) (t : Tree) → (slice_index_or bound.steps i no_step).tree ≡ Some t
      → IsTyped db.rows bound.place t × ((s : Sym) (c : Typecode) → HasVar db book bound.place t s c → test s c ≡ false)) where
    abbrev other : Valuation
    other u = freed (g u)

    freed-instance : (i : ℕ) (t : Tree) → IsClosedTree t → freed (instance g i t) ≡ instance other i t
    freed-instance i t closed =
        replace-replace without (λ v c. g (copy i v c)) leaf_tree leaf_tree t
        ∙ replace-agree (λ v c. freed (g (copy i v c))) (λ v c. other (copy i v c)) (λ x. freed (leaf_tree x)) leaf_tree (λ v c. refl) t (λ x o. absurd (closed x o))

    at_open : (x : Open) → freed (open_value g x) ≡ open_value other x
    at_open (work c n) = refl
    at_open (fresh c n) = replace-Fresh without leaf_tree c n

    freed-formula_value : (i : ℕ) (o : Option Tree) → (slice_index_or bound.steps i no_step).tree ≡ o → freed (formula_value g i o) ≡ formula_value other i o
    freed-formula_value i None e = refl
    freed-formula_value i (Some t) e =
        let r = reads i t e in
        replace-replace without (λ v c. Var v c) leaf_tree (open_value g) t
        ∙ replace_alike db book bound.place (λ v c. freed (Var v c)) (λ v c. Var v c) (λ x. freed (open_value g x)) (open_value other) t r.0
        (λ v c h. stays_other v c (r.1 v c h)) (λ x o. at_open x)

    freed-formula : (i : ℕ) → freed (formula bound g i) ≡ formula bound other i
    freed-formula i = freed-formula_value i (slice_index_or bound.steps i no_step).tree refl

    places_fit : (i : ℕ) (gs : List Given) (es : List Tree) → AllByRecursion IsClosedTree es → PlacesFit bound g i gs es → PlacesFit bound other i gs es
    places_fit i [] es h f = f
    places_fit i (x ∷ gs) [] h f = f
    places_fit i (given.Gap ∷ gs) (e ∷ es) h f = places_fit i gs es h.1 f
    places_fit i (given.Step k ∷ gs) (e ∷ es) h f = (sym (freed-instance i e h.0) ∙ ap freed f.0 ∙ freed-formula k, places_fit i gs es h.1 f.1)

    solves_one : (x : Asked) → IsClosed x → Solves bound g x → Solves bound other x
    solves_one x closed h = record {
      conclusion = sym (freed-instance x.step x.assertion.tree closed.0) ∙ ap freed h.conclusion ∙ freed-formula x.step;
      places = places_fit x.step x.places x.assertion.hyps closed.1 h.places;
    }

    solves_all : (xs : List Asked) → AllByRecursion IsClosed xs → AllByRecursion (Solves bound g) xs → AllByRecursion (Solves bound other) xs
    solves_all [] closed h = h
    solves_all (x ∷ xs) closed h = (solves_one x closed.0 h.0, solves_all xs closed.1 h.1)

    other_valuation : (On : Unknown → Type 0) → IsValuation db bound.place On g → IsValuation db bound.place On other
    other_valuation On h = record {
      code = λ u on. (replaced_typed db.rows bound.place without leaf_tree (keeps bound.place) (g u) (h.typed u on)).code ∙ h.code u on;
      typed = λ u on. (replaced_typed db.rows bound.place without leaf_tree (keeps bound.place) (g u) (h.typed u on)).typed;
    }

    -- no variable of a value passes, where none of the formulas does
    pub no_other : (accepted : List Asked) → IsMostGeneral db bound accepted g → AllByRecursion IsClosed accepted → (u : Unknown) → IsUnknown bound accepted u
        → (s : Sym) (c : Typecode) → HasVar db book bound.place (g u) s c → test s c ≡ false
    no_other accepted general closed u on s c h =
        let is = general.general other (other_valuation (IsUnknown bound accepted) general.is_valuation) (solves_all accepted closed general.solves) in
        all_kept is.by (g u) (is.same u on) s c h
