-- What is known of the steps of a worksheet whose missing places are filled.
use Rattle.std.specs.Prelude.{◌≡◌, ◌+◌, ℕ, zero, suc, Bool, true, false, List, [], ◌∷◌, ◌++◌, length, map, zip, find, slice_get, unwrap_or, Contains, Option, Some, None, codes, decimal, not, refl}
use Rattle.std.specs.List.{AllByRecursion, list_any, position_or_len, flat_map, range_with_len}
use Rattle.std.proofs.Common.{sym, ap, subst, ◌∙◌, cond, arith, inl, inr, append_assoc, get_or}
use Rattle.std.proofs.lemmas.Bool.{cases_Bool, or_left, or_right, or_from, both_ways, not-true, false_from_ne_true}
use Rattle.std.proofs.lemmas.Slice.Eq.{bytes_eq-Decides}
use Rattle.std.proofs.lemmas.List.Elements.{Contains-append_cases}
use Rattle.std.proofs.lemmas.List.Folds.{list_any-append}
use Rattle.std.proofs.lemmas.List.Sums.{passes_at_first}
use Rattle.std.proofs.lemmas.Option.{slice_get-get_or}
use Rattle.mm_base.specs.declared.tree.Tree.{Tree}
use Rattle.std.specs.Str.{bytes_eq}
use Rattle.mm_model.specs.Names.{Name, contains}
use Rattle.model_laws.proofs.Listed.{first_within}
use Rattle.sheet_text.specs.declared.sheet.Given.{Given}
use Rattle.solve_model.specs.Trees.{same_tree}
use Rattle.solve_model.specs.Firsts.{orders, picks}
use Rattle.solve_laws.proofs.SameTrees.{same_tree-Decides}
use Rattle.written_model.specs.WrittenSteps.{WrittenStep, step, steps_in, trees}
use Rattle.written_model.specs.Filled.{new_trees, derived_name, derived_names, made_step}
use Rattle.push_laws.proofs.Lists.{first, later, nothing, parted}

-- ---- lists

pub get_left : {X : Type 0} (xs ys : List X) (k : ℕ) (x : X) → slice_get xs k ≡ Some x → slice_get (xs ++ ys) k ≡ Some x
get_left [] ys k x e = absurd cc
get_left (y ∷ xs) ys zero x e = e
get_left (y ∷ xs) ys (suc k) x e = get_left xs ys k x e

pub get_mid : {X : Type 0} (xs : List X) (y : X) (ys : List X) → slice_get (xs ++ (y ∷ ys)) (length xs) ≡ Some y
get_mid [] y ys = refl
get_mid (x ∷ xs) y ys = get_mid xs y ys

-- an element of two lists stands in the first, or in the second by so many places before
pub get_parts : {X : Type 0} (P : ℕ → X → Type 0) (xs ys : List X) (n : ℕ) → ((k : ℕ) (x : X) → slice_get xs k ≡ Some x → P (n + k) x)
    → ((k : ℕ) (x : X) → slice_get ys k ≡ Some x → P (n + length xs + k) x)
    → (k : ℕ) (x : X) → slice_get (xs ++ ys) k ≡ Some x → P (n + k) x
get_parts P [] ys n f g k x e = subst (λ (m : ℕ). P m x) (let q : n + 0 + k ≡ n + k = omega arith in q) (g k x e)
get_parts P (y ∷ xs) ys n f g zero x e = f 0 x e
get_parts P (y ∷ xs) ys n f g (suc k) x e =
    subst (λ (m : ℕ). P m x) (let q : n + 1 + k ≡ n + suc k = omega arith in q)
    (get_parts P xs ys (n + 1) (λ j z i. subst (λ (m : ℕ). P m z) (let q : n + suc j ≡ n + 1 + j = omega arith in q) (f (suc j) z i))
    (λ j z i. subst (λ (m : ℕ). P m z) (let q : n + suc (length xs) + j ≡ n + 1 + length xs + j = omega arith in q) (g j z i)) k x e)

pub get_two : {X : Type 0} (P : ℕ → X → Type 0) (xs ys : List X) → ((k : ℕ) (x : X) → slice_get xs k ≡ Some x → P k x) → ((k : ℕ) (x : X) → slice_get ys k ≡ Some x → P (length xs + k) x)
    → (k : ℕ) (x : X) → slice_get (xs ++ ys) k ≡ Some x → P k x
get_two P xs ys f g k x e =
    subst (λ (m : ℕ). P m x) (let q : 0 + k ≡ k = omega arith in q)
    (get_parts P xs ys 0 (λ j z i. subst (λ (m : ℕ). P m z) (let q : j ≡ 0 + j = omega arith in q) (f j z i))
    (λ j z i. subst (λ (m : ℕ). P m z) (let q : length xs + j ≡ 0 + length xs + j = omega arith in q) (g j z i)) k x e)

-- ---- orders of places

pub mapped_from : {X Y : Type 0} (f : X → Y) (xs : List X) (y : Y) → Contains (map f xs) y → (x : X) × Contains xs x × (f x ≡ y)
mapped_from f [] y h = absurd (nothing y h)
mapped_from f (x ∷ xs) y h = elim (parted y (f x) (map f xs) h) [
  | inl e ↦ (x, first x x xs refl, e)
  | inr l ↦ let r = mapped_from f xs y l in (r.0, later r.0 x xs r.1, r.2)
]

pub flat_from : {X Y : Type 0} (f : X → List Y) (xs : List X) (y : Y) → Contains (flat_map f xs) y → (x : X) × Contains xs x × Contains (f x) y
flat_from f [] y h = absurd (nothing y h)
flat_from f (x ∷ xs) y h = elim (Contains-append_cases (f x) (flat_map f xs) y h) [
  | inl l ↦ (x, first x x xs refl, l)
  | inr r ↦ let q = flat_from f xs y r in (q.0, later q.0 x xs q.1, q.2)
]

picks_all : {X : Type 0} (xs : List X) (p : X × List X) (x : X) → Contains (picks xs) p → Contains (p.0 ∷ p.1) x → Contains xs x
picks_all [] p x h i = absurd (nothing p h)
picks_all (y ∷ ys) p x h i = elim (parted p (y, ys) (map (λ q. (q.0, y ∷ q.1)) (picks ys)) h) [
  | inl e ↦ subst (λ q. Contains (q.0 ∷ q.1) x) (sym e) i
  | inr l ↦
      let q = mapped_from (λ q. (q.0, y ∷ q.1)) (picks ys) p l in
      let i' : Contains (q.0.0 ∷ (y ∷ q.0.1)) x = subst (λ r. Contains (r.0 ∷ r.1) x) (sym q.2) i in
      elim (parted x q.0.0 (y ∷ q.0.1) i') [
        | inl e ↦ later x y ys (picks_all ys q.0 x q.1 (first x q.0.0 q.0.1 e))
        | inr m ↦ elim (parted x y q.0.1 m) [
          | inl e ↦ first x y ys e
          | inr r ↦ later x y ys (picks_all ys q.0 x q.1 (later x q.0.0 q.0.1 r))
        ]
      ]
]

pub orders_all : (n : ℕ) (xs ys : List Given) (x : Given) → Contains (orders n xs) ys → Contains ys x → Contains xs x
orders_all zero xs ys x h i = elim (parted ys [] [] h) [ inl e ↦ absurd (nothing x (subst (λ zs. Contains zs x) (sym e) i)) | inr l ↦ absurd (nothing ys l) ]
orders_all (suc n) xs ys x h i =
    let p = flat_from (λ (p : Given × List Given). map (λ rest. p.0 ∷ rest) (orders n p.1)) (picks xs) ys h in
    let rest = mapped_from (λ rest. p.0.0 ∷ rest) (orders n p.0.1) ys p.2 in
    let i' : Contains (p.0.0 ∷ rest.0) x = subst (λ zs. Contains zs x) (sym rest.2) i in
    picks_all xs p.0 x p.1 (elim (parted x p.0.0 rest.0 i') [
      | inl e ↦ first x p.0.0 p.0.1 e
      | inr l ↦ later x p.0.0 p.0.1 (orders_all n p.0.1 rest.0 x rest.1 l)
    ])

pub order_by : (b : Bool) (n : ℕ) (xs ys : List Given) (x : Given) → Contains (cond b (orders n xs) (xs ∷ [])) ys → Contains ys x → Contains xs x
order_by true n xs ys x h i = orders_all n xs ys x h i
order_by false n xs ys x h i = elim (parted ys xs [] h) [ inl e ↦ subst (λ zs. Contains zs x) (sym e) i | inr l ↦ absurd (nothing ys l) ]

-- ---- wanted trees

pub wanted_stands : (ws seen : List Tree) (w : Tree) → Contains ws w → list_any (same_tree w) (seen ++ new_trees seen ws) ≡ true
wanted_stands [] seen w h = absurd (nothing w h)
wanted_stands (v ∷ ws) seen w h = elim (cases_Bool (list_any (same_tree v) seen)) [
  | inl d ↦ subst (λ (b : Bool). list_any (same_tree w) (seen ++ cond b (new_trees seen ws) (v ∷ new_trees (seen ++ v ∷ []) ws)) ≡ true) (sym d) (elim (parted w v ws h) [
    | inl e ↦ list_any-append (same_tree w) seen (new_trees seen ws) ∙ or_left _ _ (subst (λ x. list_any (same_tree x) seen ≡ true) e d)
    | inr l ↦ wanted_stands ws seen w l
  ])
  | inr d ↦ subst (λ (b : Bool). list_any (same_tree w) (seen ++ cond b (new_trees seen ws) (v ∷ new_trees (seen ++ v ∷ []) ws)) ≡ true) (sym d)
      (ap (list_any (same_tree w)) (sym (append_assoc seen (v ∷ []) (new_trees (seen ++ v ∷ []) ws))) ∙ elim (parted w v ws h) [
        | inl e ↦
            list_any-append (same_tree w) (seen ++ v ∷ []) (new_trees (seen ++ v ∷ []) ws)
            ∙ or_left _ _ (list_any-append (same_tree w) seen (v ∷ []) ∙ or_right _ _ (or_left (same_tree w v) false ((same_tree-Decides w v).1 (sym e))))
        | inr l ↦ wanted_stands ws (seen ++ v ∷ []) w l
      ])
]

-- the place of a wanted tree
pub wanted_at : (xs : List Tree) (w : Tree) → list_any (same_tree w) xs ≡ true → slice_get xs (position_or_len (same_tree w) xs) ≡ Some w
wanted_at xs w e =
    let less = first_within (same_tree w) xs e in
    let same = passes_at_first (same_tree w) xs w less in
    slice_get-get_or xs (position_or_len (same_tree w) xs) w less ∙ ap (λ t. Some t) (sym ((same_tree-Decides w (get_or xs (position_or_len (same_tree w) xs) w)).0 same))

pub new_all : (P : Tree → Type 0) (ws seen : List Tree) → AllByRecursion P ws → AllByRecursion P (new_trees seen ws)
new_all P [] seen a = tt
new_all P (w ∷ ws) seen a = elim (cases_Bool (list_any (same_tree w) seen)) [
  | inl d ↦ subst (λ (b : Bool). AllByRecursion P (cond b (new_trees seen ws) (w ∷ new_trees (seen ++ w ∷ []) ws))) (sym d) (new_all P ws seen a.1)
  | inr d ↦ subst (λ (b : Bool). AllByRecursion P (cond b (new_trees seen ws) (w ∷ new_trees (seen ++ w ∷ []) ws))) (sym d) (a.0, new_all P ws (seen ++ w ∷ []) a.1)
]

pub derived_length : (n : ℕ) (used : List Name) → length (derived_names n used) ≡ n
derived_length zero used = refl
derived_length (suc n) used = ap suc (derived_length n (derived_name used ∷ used))

-- a derived name is not `qed`, where that is used
one_quiet : (used : List Name) → contains used (codes "qed") ≡ true → bytes_eq (codes "qed") (derived_name used) ≡ false
one_quiet used h = by_find (map (λ n. codes "d" ++ decimal n) (range_with_len 1 (suc (length used))))
  where
    by_name : (n : Name) → not (contains used n) ≡ true → bytes_eq (codes "qed") n ≡ false
    by_name n i =
        false_from_ne_true (bytes_eq (codes "qed") n)
        (λ e. both_ways (contains used n) (not-true (contains used n) i)
        (subst (λ m. contains used m ≡ true) ((bytes_eq-Decides (codes "qed") n).0 e) h))

    by_test : (n : Name) (b : Bool) (o : Option Name) → not (contains used n) ≡ b → bytes_eq (codes "qed") (unwrap_or o []) ≡ false → bytes_eq (codes "qed") (unwrap_or (cond b (Some n) o) []) ≡ false
    by_test n true o i k = by_name n i
    by_test n false o i k = k

    by_find : (ns : List Name) → bytes_eq (codes "qed") (unwrap_or (find (λ name. not (contains used name)) ns) []) ≡ false
    by_find [] = refl
    by_find (n ∷ ns) = by_test n (not (contains used n)) (find (λ name. not (contains used name)) ns) refl (by_find ns)

pub derived_quiet : (n : ℕ) (used : List Name) → contains used (codes "qed") ≡ true → contains (derived_names n used) (codes "qed") ≡ false
derived_quiet zero used h = refl
derived_quiet (suc n) used h =
    or_from (bytes_eq (codes "qed") (derived_name used)) (contains (derived_names n (derived_name used ∷ used)) (codes "qed")) (one_quiet used h)
    (derived_quiet n (derived_name used ∷ used) (or_right (bytes_eq (codes "qed") (derived_name used)) (contains used (codes "qed")) h))

pub made_trees : (names : List Name) (ts : List Tree) → length names ≡ length ts → trees (map made_step (zip names ts)) ≡ ts
made_trees [] [] e = refl
made_trees [] (t ∷ ts) e = let bad : ⊥ = omega (arith, e) in absurd bad
made_trees (n ∷ names) [] e = let bad : ⊥ = omega (arith, e) in absurd bad
made_trees (n ∷ names) (t ∷ ts) e = ap (λ us. t ∷ us) (made_trees names ts (omega (arith, e)))

pub record IsMade (P : Tree → Type 0) (e : WrittenStep) : Type 0 where
  pub no_hyp : e.hyp ≡ false
  pub places : e.places ≡ []
  pub no_use : e.by ≡ None
  pub tree : P e.tree

pub made_all : (P : Tree → Type 0) (names : List Name) (ts : List Tree) → AllByRecursion P ts → AllByRecursion (IsMade P) (map made_step (zip names ts))
made_all P [] ts a = tt
made_all P (n ∷ names) [] a = tt
made_all P (n ∷ names) (t ∷ ts) a = (record { no_hyp = refl; places = refl; no_use = refl; tree = a.0 }, made_all P names ts a.1)

pub steps_made : (es : List WrittenStep) → steps_in (map step es) ≡ es
steps_made [] = refl
steps_made (e ∷ es) = ap (λ xs. e ∷ xs) (steps_made es)
