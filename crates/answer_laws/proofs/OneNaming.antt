-- The names of fresh leaves do not rest on their numbers.
use Rattle.std.specs.Prelude.{◌≡◌, ◌==◌, ◌++◌, ℕ, true, false, List, [], ◌∷◌, map, flat_map, Contains, Option, Some, None, option_map, refl}
use Rattle.std.specs.List.{filter_map, cons_option, AllByRecursion}
use Rattle.std.proofs.Common.{sym, ap, subst, ◌∙◌, inl, inr, ◌⊎◌}
use Rattle.std.proofs.lemmas.Bool.{cases_Bool, both_ways, eqb-true, eq-eqb}
use Rattle.std.proofs.lemmas.List.Elements.{filter_map-append}
use Rattle.mm_base.specs.declared.symbols.Typecode.{Typecode}
use Rattle.mm_base.specs.declared.tree.Tree.{Tree}
use Rattle.mm_base.specs.declared.tree.Tree.TheVariants.{Var, Work}
use Rattle.mm_model.specs.Rows.{IsGrammar}
use Rattle.mm_model.specs.Texts.{text}
use Rattle.mm_model.specs.Typed.{IsTyped}
use Rattle.mm_model.specs.Book.{Database}
use Rattle.mm_model.proofs.TextLaws.{text-Var, text-Work, text-Fresh}
use Rattle.solve_model.specs.declared.bound.Bound.{Bound}
use Rattle.solve_model.specs.Trees.{Open, work, fresh, Occurs}
use Rattle.solve_model.specs.MostGeneral.{Refinement, refine}
use Rattle.solve_model.proofs.TreeLaws.{replace-Work, replace-Fresh}
use Rattle.solve_laws.specs.OneValuation.{renumbered}
use Rattle.solve_laws.proofs.ReplaceLaws.{replace-agree}
use Rattle.written_model.specs.Named.{WorkVariable, work_variable, is_in, work_leaf, works_in, read_works, not_seen, new_works, Naming, name_fresh, name_leaf, name_tree, IsWrittenLeaf, IsNaming}
use Rattle.answer_laws.specs.Bare.{unnumbered_leaf, bare}
use Rattle.answer_laws.proofs.Elements.{in_mapped, mapped_from, piece_of, in_pieces, all_contained, contained_has}
use Rattle.answer_laws.proofs.Marks.{Mark, variable, open_leaf, marks, told}
use Rattle.answer_laws.proofs.Covered.{of_tree, of_text, occurs_mark, mark_occurs}
use Rattle.answer_laws.proofs.BareLaws.{refine-refine, Returns, number_returns, renumbered_occurs, renumbered_from}
use Rattle.answer_laws.proofs.NamedAlike.{NamesOnce, IsLeastAt, Named, unnamed, was_read, is_new, alike}

-- the work variable that a leaf is written as
abbrev pub by_names : Naming → Mark → Option WorkVariable
by_names k (variable s c) = None
by_names k (open_leaf (work c n)) = Some (work_variable c n)
by_names k (open_leaf (fresh c n)) = option_map (work_variable c) (k c n)

module _ (db : Database) where
  pub named_text : (c : Typecode) (n : ℕ) (o : Option ℕ) → filter_map work_leaf (text db.rows (name_fresh c n o)) ≡ cons_option (option_map (work_variable c) o) []
  named_text c n None = ap (filter_map work_leaf) (text-Fresh db.rows c n)
  named_text c n (Some k) = ap (filter_map work_leaf) (text-Work db.rows c k)

  module _ (h : Refinement) (k : Naming) (leaf : (x : Open) → filter_map work_leaf (text db.rows (h x)) ≡ cons_option (by_names k (open_leaf x)) []) where
    pub works_named : (t : Tree) → works_in db (refine h t) ≡ filter_map (by_names k) (marks db.rows t)
    works_named = told db.rows (λ s c. Var s c) h work_leaf (by_names k) (λ s. refl) (λ s c. ap (filter_map work_leaf) (text-Var db.rows s c)) leaf

    pub all_works : (ts : List Tree) → flat_map (works_in db) (map (refine h) ts) ≡ filter_map (by_names k) (flat_map (marks db.rows) ts)
    all_works [] = refl
    all_works (t ∷ ts) =
        ap (λ ws. ws ++ flat_map (works_in db) (map (refine h) ts)) (works_named t)
        ∙ ap (λ ws. filter_map (by_names k) (marks db.rows t) ++ ws) (all_works ts)
        ∙ sym (filter_map-append (by_names k) (marks db.rows t) (flat_map (marks db.rows) ts))

-- what is mapped to a value
pub mapped_some : {A B : Type 0} (g : A → B) (o : Option A) (y : B) → option_map g o ≡ Some y → (x : A) × (o ≡ Some x) × (g x ≡ y)
mapped_some g None y e = absurd (cc)
mapped_some g (Some x) y e = (x, refl, cc)

pub same_or_other : (o q : Option ℕ) → (o ≡ q) ⊎ (o ≡ q → ⊥)
same_or_other None None = inl refl
same_or_other None (Some m) = inr (λ e. cc)
same_or_other (Some n) None = inr (λ e. cc)
same_or_other (Some n) (Some m) = elim (cases_Bool (n == m)) [
  | inl e ↦ inl (ap Some (eqb-true n m e))
  | inr e ↦ inr (λ same. let number : n ≡ m = cc in both_ways (n == m) e (eq-eqb n m number))
]

module _ (db : Database) (bound : Bound) (M : List Mark) (k : Naming)
    (read : (c : Typecode) (n : ℕ) → Contains M (open_leaf (work c n)) → is_in (read_works db bound) (work_variable c n) ≡ true)
    (once : (c : Typecode) (n m j : ℕ) → Contains M (open_leaf (fresh c n)) → Contains M (open_leaf (fresh c m)) → k c n ≡ Some j → k c m ≡ Some j → n ≡ m) where
  was_unread : (c : Typecode) (n : ℕ) (w : WorkVariable) → Contains M (open_leaf (work c n)) → is_in (read_works db bound) w ≡ false → Some (work_variable c n) ≡ Some w → ⊥
  was_unread c n w o unread e =
      let same : work_variable c n ≡ w = cc in
      both_ways (is_in (read_works db bound) w) unread (subst (λ v. is_in (read_works db bound) v ≡ true) same (read c n o))

  code_is : (c d : Typecode) (n m : ℕ) → work_variable c n ≡ work_variable d m → c ≡ d
  code_is c d n m e = ap (λ (v : WorkVariable). v.code) e

  number_is : (c d : Typecode) (n m : ℕ) → work_variable c n ≡ work_variable d m → n ≡ m
  number_is c d n m e = ap (λ (v : WorkVariable). v.number) e

  fresh_once : (c d : Typecode) (n m : ℕ) (w : WorkVariable) → Contains M (open_leaf (fresh c n)) → Contains M (open_leaf (fresh d m))
      → option_map (work_variable c) (k c n) ≡ Some w → option_map (work_variable d) (k d m) ≡ Some w → open_leaf (fresh c n) ≡ open_leaf (fresh d m)
  fresh_once c d n m w o r e g =
      let one = mapped_some (work_variable c) (k c n) w e in
      let two = mapped_some (work_variable d) (k d m) w g in
      let same = one.2 ∙ sym two.2 in
      let code = code_is c d one.0 two.0 same in
      let number = number_is c d one.0 two.0 same in
      let moved : k c m ≡ Some one.0 = subst (λ x. k x m ≡ Some one.0) (sym code) (two.1 ∙ ap Some (sym number)) in
      let there = subst (λ x. Contains M (open_leaf (fresh x m))) (sym code) r in
      let n_is = once c n m one.0 o there one.1 moved in
      ap (λ x. open_leaf (fresh x n)) code ∙ ap (λ x. open_leaf (fresh d x)) n_is

  pub names_once : NamesOnce db bound (by_names k) (by_names k) (by_names k) M
  names_once (variable s c) y w o r unread e g = absurd (cc)
  names_once (open_leaf (work c n)) y w o r unread e g = absurd (was_unread c n w o unread e)
  names_once (open_leaf (fresh c n)) (variable s d) w o r unread e g = absurd (cc)
  names_once (open_leaf (fresh c n)) (open_leaf (work d m)) w o r unread e g = absurd (was_unread d m w r unread g)
  names_once (open_leaf (fresh c n)) (open_leaf (fresh d m)) w o r unread e g = fresh_once c d n m w o r e g

module _ (db : Database) (bound : Bound) (grammar : IsGrammar db.rows) (before : ℕ) (ts : List Tree) (f b : Typecode → ℕ → ℕ) (names other : Naming)
    (typed : (t : Tree) → Contains ts t → IsTyped db.rows before t)
    (returns : (t : Tree) → Contains ts t → Returns f b t)
    (read : (t : Tree) (c : Typecode) (n : ℕ) → Contains ts t → Occurs (work c n) t → is_in (read_works db bound) (work_variable c n) ≡ true)
    (one : IsNaming db bound ts names) (two : IsNaming db bound (map (refine (renumbered f)) ts) other) where
  abbrev M : List Mark
  M = flat_map (marks db.rows) ts

  abbrev moved : Naming
  moved c n = other c (f c n)

  -- a leaf of the text of one of the trees
  pub record OfTree (x : Open) : Type 0 where
    pub tree : Tree
    pub stands : Contains ts tree
    pub occurs : Occurs x tree

  of_list : (x : Open) → Contains M (open_leaf x) → OfTree x
  of_list x o =
      let p = piece_of (marks db.rows) ts (open_leaf x) o in
      record { tree = p.0; stands = p.1; occurs = mark_occurs p.0 x (of_tree (open_leaf x) db.rows p.0 p.2) }

  in_list : (t : Tree) (x : Open) → Contains ts t → Occurs x t → Contains M (open_leaf x)
  in_list t x o h =
      in_pieces (marks db.rows) ts t (open_leaf x) o (of_text (open_leaf x) db.rows grammar before t (typed t o) (occurs_mark t x h))

  is_read : (c : Typecode) (n : ℕ) → Contains M (open_leaf (work c n)) → is_in (read_works db bound) (work_variable c n) ≡ true
  is_read c n o = let t = of_list (work c n) o in read t.tree c n t.stands t.occurs

  back_is : (c : Typecode) (n : ℕ) → Contains M (open_leaf (fresh c n)) → b c (f c n) ≡ n
  back_is c n o = let t = of_list (fresh c n) o in number_returns f b t.tree c n (returns t.tree t.stands) t.occurs

  moved_once : (c : Typecode) (n m j : ℕ) → Contains M (open_leaf (fresh c n)) → Contains M (open_leaf (fresh c m)) → moved c n ≡ Some j → moved c m ≡ Some j → n ≡ m
  moved_once c n m j o r e g = sym (back_is c n o) ∙ ap (b c) (two.once c (f c n) (f c m) j e g) ∙ back_is c m r

  first_leaf : (x : Open) → filter_map work_leaf (text db.rows (name_leaf names x)) ≡ cons_option (by_names names (open_leaf x)) []
  first_leaf (work c n) = ap (filter_map work_leaf) (text-Work db.rows c n)
  first_leaf (fresh c n) = named_text db c n (names c n)

  second_leaf : (x : Open) → filter_map work_leaf (text db.rows (refine (name_leaf other) (renumbered f x))) ≡ cons_option (by_names moved (open_leaf x)) []
  second_leaf (work c n) = ap (λ t. filter_map work_leaf (text db.rows t)) (replace-Work _ (name_leaf other) c n) ∙ ap (filter_map work_leaf) (text-Work db.rows c n)
  second_leaf (fresh c n) = ap (λ t. filter_map work_leaf (text db.rows t)) (replace-Fresh _ (name_leaf other) c (f c n)) ∙ named_text db c (f c n) (other c (f c n))

  twice : (us : List Tree) → map (name_tree other) (map (refine (renumbered f)) us) ≡ map (refine (λ x. refine (name_leaf other) (renumbered f x))) us
  twice [] = refl
  twice (u ∷ us) = ap (λ v. v ∷ map (name_tree other) (map (refine (renumbered f)) us)) (refine-refine (name_leaf other) (renumbered f) u)
      ∙ ap (λ vs. refine (λ x. refine (name_leaf other) (renumbered f x)) u ∷ vs) (twice us)

  first_works : new_works db bound (map (name_tree names) ts) ≡ not_seen (read_works db bound) (filter_map (by_names names) M)
  first_works = ap (not_seen (read_works db bound)) (all_works db (name_leaf names) names first_leaf ts)

  second_works : new_works db bound (map (name_tree other) (map (refine (renumbered f)) ts)) ≡ not_seen (read_works db bound) (filter_map (by_names moved) M)
  second_works = ap (λ us. new_works db bound us) (twice ts)
      ∙ ap (not_seen (read_works db bound)) (all_works db (λ x. refine (name_leaf other) (renumbered f x)) moved second_leaf ts)

  abbrev AreNamed : Mark → Type 0
  AreNamed m = Named db bound (by_names names) (by_names moved) m

  each_named : (m : Mark) → Contains M m → AreNamed m
  each_named (variable s c) o = unnamed refl refl
  each_named (open_leaf (work c n)) o = was_read (work_variable c n) refl refl (is_read c n o)
  each_named (open_leaf (fresh c n)) o =
      let t = of_list (fresh c n) o in
      let mine = one.named c n (t.tree, t.stands, t.occurs) in
      let its = two.named c (f c n) (refine (renumbered f) t.tree, in_mapped (refine (renumbered f)) ts t.tree t.stands, renumbered_occurs f b t.tree c n t.occurs) in
      is_new (work_variable c mine.0) (work_variable c its.0) (ap (option_map (work_variable c)) mine.1) (ap (option_map (work_variable c)) its.1) mine.2 its.2 refl

  all_alike : AllByRecursion (λ m. by_names names m ≡ by_names moved m) M
  all_alike = alike db bound (by_names names) (by_names moved) M
      (names_once db bound M names is_read (λ c n m j o r e g. one.once c n m j e g))
      (names_once db bound M moved is_read moved_once)
      (subst (IsLeastAt db bound (by_names names) (by_names moved)) first_works one.least)
      (subst (IsLeastAt db bound (by_names names) (by_names moved)) second_works two.least)
      (all_contained AreNamed M each_named)

  unmap : (c : Typecode) (o q : Option ℕ) → option_map (work_variable c) o ≡ option_map (work_variable c) q → o ≡ q
  unmap c None None e = refl
  unmap c None (Some m) e = absurd (cc)
  unmap c (Some n) None e = absurd (cc)
  unmap c (Some n) (Some m) e =
      let same : work_variable c n ≡ work_variable c m = cc in
      ap (λ (v : WorkVariable). Some v.number) same

  -- a written leaf has one name
  pub one_name : (c : Typecode) (n : ℕ) → IsWrittenLeaf ts c n → names c n ≡ other c (f c n)
  one_name c n w = unmap c (names c n) (other c (f c n)) (contained_has (λ m. by_names names m ≡ by_names moved m) M (open_leaf (fresh c n)) all_alike (in_list w.0 (fresh c n) w.1 w.2))

  leaf_alike : (t : Tree) → Contains ts t → (x : Open) → Occurs x t → name_leaf names x ≡ refine (name_leaf other) (renumbered f x)
  leaf_alike t o (work c n) h = sym (replace-Work _ (name_leaf other) c n)
  leaf_alike t o (fresh c n) h =
      let w : IsWrittenLeaf ts c n = (t, o, h) in
      let k = one.named c n w in
      ap (name_fresh c n) k.1 ∙ ap (name_fresh c (f c n)) (sym k.1 ∙ one_name c n w) ∙ sym (replace-Fresh _ (name_leaf other) c (f c n))

  -- the named trees are one
  pub named_alike : (t : Tree) → Contains ts t → name_tree names t ≡ name_tree other (refine (renumbered f) t)
  named_alike t o =
      replace-agree (λ v c. Var v c) (λ v c. Var v c) (name_leaf names) (λ x. refine (name_leaf other) (renumbered f x)) (λ v c. refl) t (leaf_alike t o)
      ∙ sym (refine-refine (name_leaf other) (renumbered f) t)

  -- ---- a tree that is not written: its fresh leaves keep what number they have

  not_moved : (t : Tree) (c : Typecode) (n : ℕ) → Returns f b t → Occurs (fresh c n) t → (IsWrittenLeaf ts c n → ⊥) → IsWrittenLeaf (map (refine (renumbered f)) ts) c (f c n) → ⊥
  not_moved t c n h o none w =
      let from = mapped_from (refine (renumbered f)) ts w.0 w.1 in
      let leaf = renumbered_from f b from.0 c (f c n) (subst (λ u. Occurs (fresh c (f c n)) u) (sym from.2) w.2) in
      let same : leaf.0 ≡ n = sym (number_returns f b from.0 c leaf.0 (returns from.0 from.1) leaf.1) ∙ ap (b c) leaf.2 ∙ number_returns f b t c n h o in
      none (from.0, from.1, subst (λ m. Occurs (fresh c m) from.0) same leaf.1)

  any_name : (t : Tree) (c : Typecode) (n : ℕ) → Returns f b t → Occurs (fresh c n) t → names c n ≡ other c (f c n)
  any_name t c n h o = elim (same_or_other (names c n) (other c (f c n))) [
    | inl e ↦ e
    | inr d ↦
        let none : IsWrittenLeaf ts c n → ⊥ = λ w. d (one_name c n w) in
        absurd (d (one.others c n none ∙ sym (two.others c (f c n) (not_moved t c n h o none))))
  ]

  bare_fresh : (c : Typecode) (n m : ℕ) (o q : Option ℕ) → o ≡ q → bare (name_fresh c n o) ≡ bare (name_fresh c m q)
  bare_fresh c n m None None e = replace-Fresh _ unnumbered_leaf c n ∙ sym (replace-Fresh _ unnumbered_leaf c m)
  bare_fresh c n m None (Some k) e = absurd (cc)
  bare_fresh c n m (Some j) None e = absurd (cc)
  bare_fresh c n m (Some j) (Some k) e = let same : j ≡ k = cc in ap (λ i. bare (Work c i)) same

  bare_leaf : (t : Tree) → Returns f b t → (x : Open) → Occurs x t → bare (name_leaf names x) ≡ bare (refine (name_leaf other) (renumbered f x))
  bare_leaf t h (work c n) o = ap bare (sym (replace-Work _ (name_leaf other) c n))
  bare_leaf t h (fresh c n) o = bare_fresh c n (f c n) (names c n) (other c (f c n)) (any_name t c n h o) ∙ ap bare (sym (replace-Fresh _ (name_leaf other) c (f c n)))

  pub bare_alike : (t : Tree) → Returns f b t → bare (name_tree names t) ≡ bare (name_tree other (refine (renumbered f) t))
  bare_alike t h =
      refine-refine unnumbered_leaf (name_leaf names) t
      ∙ replace-agree (λ v c. Var v c) (λ v c. Var v c) (λ x. bare (name_leaf names x)) (λ x. bare (refine (name_leaf other) (renumbered f x))) (λ v c. refl) t (bare_leaf t h)
      ∙ sym (refine-refine unnumbered_leaf (λ x. refine (name_leaf other) (renumbered f x)) t)
      ∙ ap bare (sym (refine-refine (name_leaf other) (renumbered f) t))
