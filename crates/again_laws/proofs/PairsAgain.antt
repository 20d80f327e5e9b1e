-- The written pairs, read again.
use Rattle.std.specs.Prelude.{◌≡◌, ◌⊎◌, ◌&&◌, ◌||◌, ◌==◌, not, nat_lt, ℕ, suc, Bool, true, false, List, [], ◌∷◌, ◌++◌, map, filter, filter_map, find}
use Rattle.std.specs.Prelude.{flat_map, fold, zip, slice_get, Contains, Option, Some, None, option_map, refl}
use Rattle.std.specs.List.{AllByRecursion, list_all, list_any}
use Rattle.std.specs.Option.{option_map_or}
use Rattle.std.proofs.Common.{sym, ap, subst, ◌∙◌, arith, inl, inr, cond, append_assoc}
use Rattle.std.proofs.lemmas.Bool.{cases_Bool}
use Rattle.std.proofs.lemmas.Bool.Decides.{nat_tests}
use Rattle.std.proofs.lemmas.List.Elements.{Contains-append_left, Contains-append_right, Contains-append_cases}
use Rattle.mm_base.specs.declared.symbols.Sym.{Sym}
use Rattle.mm_base.specs.declared.symbols.Pair.{Pair}
use Rattle.mm_base.specs.declared.symbols.Typecode.{Typecode}
use Rattle.mm_base.specs.declared.tree.Tree.{Tree}
use Rattle.mm_base.specs.Trees.{Each}
use Rattle.mm_base.proofs.TreeInduction.{tree_ind}
use Rattle.mm_model.specs.declared.rows.Leaf.{Leaf}
use Rattle.mm_model.specs.declared.rows.Leaf.TheVariants as leaf
use Rattle.mm_model.specs.Names.{sym as symbol, typecode}
use Rattle.mm_model.specs.Productions.{TypedVariable}
use Rattle.mm_model.specs.Texts.{text}
use Rattle.mm_model.specs.Book.{Database, symbol_of, symbol_name, declared_leaf, float_of}
use Rattle.sheet_text.specs.declared.sheet.PairLine.{PairLine}
use Rattle.solve_model.specs.PairSets.{ordered, stands_before, same_pair, put_pair, pair_set}
use Rattle.solve_model.specs.BindFaults.{BindFaultAt, is_variable_at, not_variable}
use Rattle.solve_model.specs.Binding.{place_of, two_of, given_pairs}
use Rattle.solve_model.specs.Bound.{Binds}
use Rattle.solve_model.specs.Formulas.{leaf_of, leaf_by, work_of, work_codes}
use Rattle.solve_model.specs.Trees.{leaf_tree, variables, flatten}
use Rattle.solve_model.proofs.TreeLaws.{variables-Var, variables-Work, variables-Fresh, variables-Node}
use Rattle.solve_laws.specs.PairSetLaws.{StandsBeforeNext, AreInOrder}
use Rattle.solve_laws.proofs.Elements.{nothing, only, here, first, later, parted}
use Rattle.solve_laws.proofs.PairSetLaws.{holds_same, is_in_order}
use Rattle.proof_model.specs.Machine.{is_shared}
use Rattle.written_model.specs.declared.options.Options.{Options}
use Rattle.written_model.specs.declared.options.DvMode.{DvMode}
use Rattle.written_model.specs.declared.options.DvMode.TheVariants as dv
use Rattle.written_model.specs.WrittenSteps.{Use, WrittenStep, trees, value_of, no_tree}
use Rattle.written_model.specs.Found.{valued}
use Rattle.written_model.specs.Pairs.{crossings, needed, needed_by, pairs_of}
use Rattle.written_model.specs.Written.{Writing, leaf_name, written_pair, written_pairs}
use Rattle.again_laws.specs.Leaves.{typed, typed_leaves}
use Rattle.again_laws.specs.Shown.{shown_leaves, shown_by}
use Rattle.again_laws.proofs.GeneralAgain.{shown_place}
use Rattle.again_laws.proofs.LeafLaws.{leaves-Var, leaves-Fresh, leaves-Node, carries}
use Rattle.again_laws.proofs.Lists.{get_contains, contains_get, contains_mapped, from_filter_map, get_map}
use Rattle.again_laws.proofs.Loose.{contains_or_not}
use Rattle.again_laws.proofs.Orders.{from_flat_map, all_passes}
use Rattle.again_laws.proofs.Setting.{Setting}
use Rattle.again_laws.proofs.Accepted.{es_typed}
use Rattle.again_laws.proofs.TextLeaves.{variable_leaf, variable_shown}
use Rattle.again_laws.proofs.TokenLaws.{symbol_told, symbol_found, declared_variable, work_told}
use Rattle.again_laws.proofs.Uses.{IsUse, written_steps}
use Rattle.again_laws.proofs.Values.{value_at}
use Rattle.again_laws.proofs.WrittenKinds.{use_written}

-- ---- a set of pairs in order is itself

abbrev numbers_before : ℕ → ℕ → ℕ → ℕ → Bool
numbers_before c d a b = nat_lt c a || ((c == a) && nat_lt d b)

not_same : (c d a b : ℕ) → numbers_before c d a b ≡ true → ((a == c) && (b == d)) ≡ false
not_same c d a b h = grind (arith, nat_tests, h)

not_before : (c d a b : ℕ) → numbers_before c d a b ≡ true → numbers_before a b c d ≡ false
not_before c d a b h = grind (arith, nat_tests, h)

before_both : (a b c d x y : ℕ) → numbers_before a b c d ≡ true → numbers_before c d x y ≡ true → numbers_before a b x y ≡ true
before_both a b c d x y h k = grind (arith, nat_tests, h, k)

abbrev Low : List Pair → Pair → Type 0
Low acc p = AllByRecursion (λ q. stands_before q p ≡ true) acc

put_last : (acc : List Pair) (p : Pair) → Low acc p → put_pair acc p ≡ acc ++ p ∷ []
put_last [] p h = refl
put_last (q ∷ acc) p h =
    let one : same_pair p q ≡ false = not_same q.a.0 q.b.0 p.a.0 p.b.0 h.0 in
    let two : stands_before p q ≡ false = not_before q.a.0 q.b.0 p.a.0 p.b.0 h.0 in
    rw (one, two) (ap (λ ps. q ∷ ps) (put_last acc p h.1))

low_more : (acc : List Pair) (p q : Pair) → Low acc p → stands_before p q ≡ true → Low (acc ++ p ∷ []) q
low_more [] p q h e = (e, tt)
low_more (x ∷ acc) p q h e = (before_both x.a.0 x.b.0 p.a.0 p.b.0 q.a.0 q.b.0 h.0 e, low_more acc p q h.1 e)

abbrev LowNext : List Pair → List Pair → Type 0
LowNext acc [] = Unit {0}
LowNext acc (p ∷ ps) = Low acc p

next_low : (acc : List Pair) (p : Pair) (ps : List Pair) → Low acc p → StandsBeforeNext p ps → LowNext (acc ++ p ∷ []) ps
next_low acc p [] h e = tt
next_low acc p (q ∷ ps) h e = low_more acc p q h e

fold_last : (ps acc : List Pair) → AreInOrder ps → LowNext acc ps → fold put_pair acc ps ≡ acc ++ ps
fold_last [] acc o l = sym (append-nil acc)
  where
    append-nil : (xs : List Pair) → xs ++ [] ≡ xs
    append-nil [] = refl
    append-nil (x ∷ xs) = ap (λ ys. x ∷ ys) (append-nil xs)
fold_last (p ∷ ps) acc o l = ap (λ xs. fold put_pair xs ps) (put_last acc p l) ∙ fold_last ps (acc ++ p ∷ []) o.1 (next_low acc p ps l o.0) ∙ append_assoc acc (p ∷ []) ps

low_none : (ps : List Pair) → LowNext [] ps
low_none [] = tt
low_none (p ∷ ps) = tt

pub set_of_ordered : (ps : List Pair) → AreInOrder ps → pair_set ps ≡ ps
set_of_ordered ps o = fold_last ps [] o (low_none ps)

-- ---- pairs of two variables

ordered_again : (v w : Sym) → ordered (ordered v w).a (ordered v w).b ≡ ordered v w
ordered_again v w = by (nat_lt v.0 w.0) refl
  where
    by : (t : Bool) → nat_lt v.0 w.0 ≡ t → ordered (ordered v w).a (ordered v w).b ≡ ordered v w
    by true e = rw e (rw e refl)
    by false e = rw e (turned (nat_lt w.0 v.0) refl)
      where
        sym_of : ℕ → Sym
        sym_of n = record { 0 = n }

        equal : nat_lt w.0 v.0 ≡ false → w.0 ≡ v.0
        equal f = grind (arith, nat_tests, e, f)

        turned : (t : Bool) → nat_lt w.0 v.0 ≡ t → ordered w v ≡ record { a = w; b = v }
        turned true f = rw f refl
        turned false f =
            let same : w ≡ v = ap (λ (n : ℕ). let x : Sym = record { 0 = n } in x) (equal f) in
            rw f (ap (λ (x : Sym). let p : Pair = record { a = x; b = w } in p) (sym same) ∙ ap (λ (x : Sym). let p : Pair = record { a = w; b = x } in p) same)

ordered_parts : (P : Sym → Type 0) (v w : Sym) → P v → P w → P (ordered v w).a × P (ordered v w).b
ordered_parts P v w pv pw = by (nat_lt v.0 w.0)
  where
    by : (t : Bool)
        → P (cond t (let p : Pair = record { a = v; b = w } in p) (let p : Pair = record { a = w; b = v } in p)).a
        × P (cond t (let p : Pair = record { a = v; b = w } in p) (let p : Pair = record { a = w; b = v } in p)).b
    by true = (pv, pw)
    by false = (pw, pv)

two_source : (vs : List Sym) (p : Pair) → Contains (two_of vs) p → (v : Sym) × (w : Sym) × Contains vs v × Contains vs w × (ordered v w ≡ p)
two_source [] p m = absurd (nothing p m)
two_source (v ∷ vs) p m = elim (Contains-append_cases (map (ordered v) vs) (two_of vs) p m) [
  | inl h ↦ let r = contains_mapped (ordered v) vs p h in (v, r.0, first v v vs refl, later r.0 v vs r.1, r.2)
  | inr h ↦ let r = two_source vs p h in (r.0, r.1, later r.0 v vs r.2, later r.1 v vs r.3, r.4)
]

-- ---- the variables of a tree

module _ (v : Sym) where
  abbrev Coded : Tree → Type 0
  Coded t = Contains (variables t) v → (q : TypedVariable) × Contains (typed_leaves t) q × (q.sym ≡ v)

  all_coded : (ts : List Tree) → Each Coded ts → Contains (flatten (map variables ts)) v → (q : TypedVariable) × Contains (flatten (map typed_leaves ts)) q × (q.sym ≡ v)
  all_coded [] h m = absurd (nothing v m)
  all_coded (t ∷ ts) h m = elim (Contains-append_cases (variables t) (flatten (map variables ts)) v m) [
    | inl o ↦ let r = h.0 o in (r.0, Contains-append_left (typed_leaves t) (flatten (map typed_leaves ts)) r.0 r.1, r.2)
    | inr o ↦ let r = all_coded ts h.1 o in (r.0, Contains-append_right (typed_leaves t) (flatten (map typed_leaves ts)) r.0 r.1, r.2)
  ]

  coded : (t : Tree) → Coded t
  coded = tree_ind Coded
      (λ s c m. (typed s c, rw leaves-Var (here (typed s c)), only v s (rw variables-Var at m)))
      (λ c n m. absurd (nothing v (rw variables-Work at m)))
      (λ c n m. absurd (nothing v (rw variables-Fresh at m)))
      (λ l c ts h m. rw leaves-Node (all_coded ts h (rw variables-Node at m)))

-- ---- the value of a symbol is that of a variable, or none

find_zip : (vars : List TypedVariable) (values : List Tree) (s : Sym)
    → (option_map_or (λ (p : TypedVariable × Tree). p.1) (find (λ (p : TypedVariable × Tree). p.0.sym.0 == s.0) (zip vars values)) no_tree ≡ no_tree)
    ⊎ ((j : ℕ) × (x : TypedVariable) × (t : Tree) × (slice_get vars j ≡ Some x) × (slice_get values j ≡ Some t)
    × (option_map_or (λ (p : TypedVariable × Tree). p.1) (find (λ (p : TypedVariable × Tree). p.0.sym.0 == s.0) (zip vars values)) no_tree ≡ t))
find_zip [] values s = inl refl
find_zip (x ∷ vars) [] s = inl refl
find_zip (x ∷ vars) (t ∷ values) s = by (x.sym.0 == s.0) refl (find_zip vars values s)
  where
    by : (b : Bool) → (x.sym.0 == s.0) ≡ b → ((option_map_or (λ (p : TypedVariable × Tree). p.1) (find (λ (p : TypedVariable × Tree). p.0.sym.0 == s.0) (zip vars values)) no_tree ≡ no_tree)
        ⊎ ((j : ℕ) × (y : TypedVariable) × (u : Tree) × (slice_get vars j ≡ Some y) × (slice_get values j ≡ Some u)
        × (option_map_or (λ (p : TypedVariable × Tree). p.1) (find (λ (p : TypedVariable × Tree). p.0.sym.0 == s.0) (zip vars values)) no_tree
        ≡ u)))
        → (option_map_or (λ (p : TypedVariable × Tree). p.1) (find (λ (p : TypedVariable × Tree). p.0.sym.0 == s.0) (zip (x ∷ vars) (t ∷ values))) no_tree ≡ no_tree)
        ⊎ ((j : ℕ) × (y : TypedVariable) × (u : Tree) × (slice_get (x ∷ vars) j ≡ Some y) × (slice_get (t ∷ values) j ≡ Some u)
        × (option_map_or (λ (p : TypedVariable × Tree). p.1)
        (find (λ (p : TypedVariable × Tree). p.0.sym.0 == s.0) (zip (x ∷ vars) (t ∷ values))) no_tree
        ≡ u))
    by true e rest = inr (0, x, t, refl, refl, rw e refl)
    by false e (inl h) = inl (rw e h)
    by false e (inr h) = inr (suc h.0, h.1, h.2, h.3, h.4, rw e h.5)

module _ (db : Database) (options : Options) (w : Writing) (numbers : List ℕ) (ds : List WrittenStep) (S : Setting db options w numbers ds) (rd : Binds db w.read w.bound)
    (back : (i : ℕ) (t : Tree) → slice_get (trees (written_steps db options w numbers ds S)) i ≡ Some t → (x : Leaf) → Contains (text db.rows t) x
    → leaf_of db w.bound.place (leaf_name db x) ≡ Some x) where
  abbrev es : List WrittenStep
  es = written_steps db options w numbers ds S

  abbrev place : ℕ
  place = w.bound.place

  -- an active variable that its name finds
  pub record IsActive (v : Sym) : Type 0 where
    pub found : symbol_of db (symbol_name db v) ≡ Some v
    pub active : list_any (λ (x : Sym). x.0 == v.0) (db.active_at place).variables ≡ true

  pub record IsGoodPair (p : Pair) : Type 0 where
    pub left : IsActive p.a
    pub right : IsActive p.b
    pub order : ordered p.a p.b ≡ p

  of_two : (v w_ : Sym) → IsActive v → IsActive w_ → IsGoodPair (ordered v w_)
  of_two v w_ a b = let parts = ordered_parts IsActive v w_ a b in record { left = parts.0; right = parts.1; order = ordered_again v w_ }

  -- ---- the given pairs

  given_variable : (p : PairLine) → Contains w.read.pairs p → (v : Sym) → Contains (filter_map (symbol_of db) p.names) v → IsActive v
  given_variable p m v o =
      let token = from_filter_map (symbol_of db) p.names v o in
      let k = contains_get w.read.pairs p m in
      let ok : not_variable db w.read p ≡ false = elim (cases_Bool (not_variable db w.read p)) [ inl d ↦ absurd (rd.sound p.line 70 (BindFaultAt.at_pairs k.0 {p = p} k.1 d)) | inr d ↦ d ] in
      let all : list_all (is_variable_at db (place_of db w.read)) p.names ≡ true = from_not (list_all (is_variable_at db (place_of db w.read)) p.names) ok in
      let one = all_passes (is_variable_at db (place_of db w.read)) p.names token.0 all token.1 in
      let told = symbol_told db token.0 v token.2 in
      let tested : list_any (λ (x : Sym). x.0 == v.0) (db.active_at (place_of db w.read)).variables ≡ true =
      ap (λ o. option_map_or (λ (z : Sym). list_any (λ (x : Sym). x.0 == z.0) (db.active_at (place_of db w.read)).variables) o false)
      (sym token.2)
      ∙ one in
      record {
        found = symbol_found db S.facts v told.within;
        active = subst (λ n. list_any (λ (x : Sym). x.0 == v.0) (db.active_at n).variables ≡ true) (sym rd.place) tested;
      }
    where
      from_not : (b : Bool) → not b ≡ false → b ≡ true
      from_not true e = refl
      from_not false e = absurd cc

  given_good : (p : Pair) → Contains w.bound.pairs p → IsGoodPair p
  given_good p m =
      let m' : Contains (given_pairs db w.read) p = subst (λ ps. Contains ps p) rd.pairs m in
      let inside = (holds_same (flat_map (λ (x : PairLine). two_of (filter_map (symbol_of db) x.names)) w.read.pairs) p).0 m' in
      let line = from_flat_map (λ (x : PairLine). two_of (filter_map (symbol_of db) x.names)) w.read.pairs p inside in
      let two = two_source (filter_map (symbol_of db) line.0.names) p line.2 in
      subst IsGoodPair two.4 (of_two two.0 two.1 (given_variable line.0 line.1 two.0 two.2) (given_variable line.0 line.1 two.1 two.3))

  -- ---- the needed pairs

  active_by : (s : Sym) (v : Sym) (c : Typecode) → declared_leaf db place s ≡ Some (leaf.Var v c) → list_any (λ (x : Sym). x.0 == s.0) (db.active_at place).variables ≡ true
  active_by s v c e = by_constant (db.is_constant_at s place) refl
    where
      by_active : (b : Bool) → list_any (λ (x : Sym). x.0 == s.0) (db.active_at place).variables ≡ b
          → cond b (option_map (λ (d : Typecode). leaf.Var s d) (float_of s (db.active_at place).hyps)) None ≡ Some (leaf.Var v c)
          → list_any (λ (x : Sym). x.0 == s.0) (db.active_at place).variables ≡ true
      by_active true is h = is
      by_active false is h = absurd cc

      by_constant : (b : Bool) → db.is_constant_at s place ≡ b → list_any (λ (x : Sym). x.0 == s.0) (db.active_at place).variables ≡ true
      by_constant true is = let h : Some (leaf.Const s) ≡ Some (leaf.Var v c) = rw is at e in absurd cc
      by_constant false is = by_active _ refl (rw is at e)

  leaf_active : (v : Sym) (c : Typecode) → leaf_of db place (symbol_name db v) ≡ Some (leaf.Var v c) → IsActive v
  leaf_active v c e = by (symbol_of db (symbol_name db v)) refl e
    where
      by : (o : Option Sym) → symbol_of db (symbol_name db v) ≡ o → leaf_by db place (symbol_name db v) o ≡ Some (leaf.Var v c) → IsActive v
      by (Some s) is h =
          let same = declared_variable db place s v c h in
          record { found = is ∙ ap (λ x. Some x) same; active = subst (λ (z : Sym). list_any (λ (x : Sym). x.0 == z.0) (db.active_at place).variables ≡ true) same (active_by s v c h) }
      by None is h =
          let m = get_contains (filter_map (work_of db (symbol_name db v)) (work_codes db place)) 0 (leaf.Var v c) h in
          let d = from_filter_map (work_of db (symbol_name db v)) (work_codes db place) (leaf.Var v c) m in
          absurd (clash d.0 (work_told db (symbol_name db v) d.0 (leaf.Var v c) d.2).number (work_told db (symbol_name db v) d.0 (leaf.Var v c) d.2).is)
        where
          clash : (d : Typecode) (n : ℕ) → leaf.Var v c ≡ leaf.Work d n → ⊥
          clash d n q = cc

  tree_active : (i : ℕ) (t : Tree) → slice_get (trees es) i ≡ Some t → (q : TypedVariable) → Contains (typed_leaves t) q → IsActive q.sym
  tree_active i t at q o = leaf_active q.sym q.code (back i t at (variable_leaf q) (variable_shown db.rows place S.facts.grammar.rows_hold q t (es_typed db options w numbers ds S i t at) o))

  module _ (i : ℕ) (e : WrittenStep) (u : Use) (at : slice_get es i ≡ Some e) (by : e.by ≡ Some u) where
    use_ : IsUse db options w numbers ds S i e u
    use_ = use_written db options w numbers ds S i e u at by

    value_active : (x : TypedVariable) → Contains u.assertion.vars x → (q : TypedVariable) → Contains (typed_leaves (value_of u x.sym)) q → IsActive q.sym
    value_active x m q o = elim (contains_or_not (shown_by u.assertion e.places) x) [
      | inl h ↦ shown h
      | inr h ↦ let l = use_.loose x m h in absurd (nothing q (subst (λ ts. Contains ts q) (ap typed_leaves l.value ∙ leaves-Fresh x.code l.is.number) o))
    ]
      where
        inside : (k : ℕ) (t : Tree) → slice_get (trees es) k ≡ Some (valued u t) → Contains (typed_leaves t) x → IsActive q.sym
        inside k t there own = tree_active k (valued u t) there q (carries (λ s c. value_of u s) leaf_tree x q t own o)

        shown : Contains (shown_by u.assertion e.places) x → IsActive q.sym
        shown h = elim (Contains-append_cases (typed_leaves u.assertion.tree) (shown_leaves e.places u.assertion.hyps) x h) [
          | inl k ↦ inside i u.assertion.tree (get_map (λ (z : WrittenStep). z.tree) es i e at ∙ ap (λ t. Some t) (sym use_.conclusion)) k
          | inr k ↦ let r = shown_place (trees es) u e.places u.assertion.hyps x use_.places k in inside r.0 r.1 r.2 r.3
        ]

    variable_active : (s v : Sym) → Contains (variables (value_of u s)) v → IsActive v
    variable_active s v m = elim (find_zip u.assertion.vars u.values s) [
      | inl none ↦ absurd (nothing v (subst (λ vs. Contains vs v) (ap variables none ∙ variables-Work (typecode (symbol 0)) 0) m))
      | inr r ↦
          let whole = S.whole use_.candidate_is.label u.assertion use_.candidate_is.usable in
          let same : value_of u s ≡ value_of u r.1.sym = r.5 ∙ sym (value_at u whole.differ r.0 r.1 r.2 r.3 r.4) in
          let q = coded v (value_of u s) m in
          subst IsActive q.2 (value_active r.1 (get_contains u.assertion.vars r.0 r.1 r.3) q.0 (subst (λ t. Contains (typed_leaves t) q.0) same q.1))
    ]

    crossed : (p : Pair) (c : Sym × Sym) → Contains (crossings u p) c → IsActive c.0 × IsActive c.1
    crossed p c m =
        let one = from_flat_map (λ v. map (λ w_. let z : Sym × Sym = (v, w_) in z) (variables (value_of u p.b))) (variables (value_of u p.a)) c m in
        let two = contains_mapped (λ w_. let z : Sym × Sym = (one.0, w_) in z) (variables (value_of u p.b)) c one.2 in
        (subst (λ (z : Sym × Sym). IsActive z.0) two.2 (variable_active p.a one.0 one.1), subst (λ (z : Sym × Sym). IsActive z.1) two.2 (variable_active p.b two.0 two.1))

    needed_good : (p : Pair) → Contains (needed u) p → IsGoodPair p
    needed_good p m =
        let kept = filter (λ q. not (is_shared q)) (flat_map (crossings u) u.assertion.frame.pairs) in
        let inside = (holds_same (map (λ (q : Sym × Sym). ordered q.0 q.1) kept) p).0 m in
        let r = contains_mapped (λ (q : Sym × Sym). ordered q.0 q.1) kept p inside in
        let c = from_filter (λ q. not (is_shared q)) (flat_map (crossings u) u.assertion.frame.pairs) r.0 r.1 in
        let f = from_flat_map (crossings u) u.assertion.frame.pairs r.0 c in
        let both = crossed f.0 r.0 f.2 in
        subst IsGoodPair r.2 (of_two r.0.0 r.0.1 both.0 both.1)
      where
        from_filter : {X : Type 0} (test : X → Bool) (xs : List X) (x : X) → Contains (filter test xs) x → Contains xs x
        from_filter test [] x k = k
        from_filter test (y ∷ xs) x k = by_test (test y) refl (λ j. from_filter test xs x j)
          where
            by_test : (b : Bool) → test y ≡ b → (Contains (filter test xs) x → Contains xs x) → Contains (y ∷ xs) x
            by_test true z rest = elim (parted x y (filter test xs) (rw z at k)) [ inl q ↦ first x y xs q | inr q ↦ later x y xs (rest q) ]
            by_test false z rest = later x y xs (rest (rw z at k))

  -- ---- the written pairs

  by_good : (i : ℕ) (e : WrittenStep) → slice_get es i ≡ Some e → (o : Option Use) → e.by ≡ o → (p : Pair) → Contains (needed_by o) p → IsGoodPair p
  by_good i e at None is p m = absurd (nothing p m)
  by_good i e at (Some u) is p m = needed_good i e u at is p m

  all_good : (mode : DvMode) (p : Pair) → Contains (pairs_of mode w.bound.pairs es) p → IsGoodPair p
  all_good dv.Given p m = given_good p m
  all_good dv.Add p m =
      elim
      (Contains-append_cases w.bound.pairs (flat_map (λ (e : WrittenStep). needed_by e.by) es) p
      ((holds_same (w.bound.pairs ++ flat_map (λ (e : WrittenStep). needed_by e.by) es) p).0 m)) [
        | inl h ↦ given_good p h
        | inr h ↦
            let e = from_flat_map (λ (x : WrittenStep). needed_by x.by) es p h in
            let k = contains_get es e.0 e.1 in
            by_good k.0 e.0 k.1 e.0.by refl p e.2
      ]

  in_order : (mode : DvMode) → AreInOrder (pairs_of mode w.bound.pairs es)
  in_order dv.Given = subst AreInOrder (sym rd.pairs) (is_in_order (flat_map (λ (x : PairLine). two_of (filter_map (symbol_of db) x.names)) w.read.pairs))
  in_order dv.Add = is_in_order (w.bound.pairs ++ flat_map (λ (e : WrittenStep). needed_by e.by) es)

  read_pairs : (ps : List Pair) → ((p : Pair) → Contains ps p → IsGoodPair p) → flat_map (λ (x : PairLine). two_of (filter_map (symbol_of db) x.names)) (map (written_pair db) ps) ≡ ps
  read_pairs [] h = refl
  read_pairs (p ∷ ps) h =
      let good = h p (first p p ps refl) in
      let one = good.left.found in
      let two = good.right.found in
      let names : filter_map (symbol_of db) (symbol_name db p.a ∷ symbol_name db p.b ∷ []) ≡ p.a ∷ p.b ∷ [] = rw (one, two) refl in
      let rest = read_pairs ps (λ q m. h q (later q p ps m)) in
      ap (λ vs. two_of vs ++ flat_map (λ (x : PairLine). two_of (filter_map (symbol_of db) x.names)) (map (written_pair db) ps)) names
      ∙ ap (λ q. q ∷ flat_map (λ (x : PairLine). two_of (filter_map (symbol_of db) x.names)) (map (written_pair db) ps)) good.order ∙ ap (λ qs. p ∷ qs) rest

  pub pairs_again : written_pairs db options w ≡ pair_set (flat_map (λ (x : PairLine). two_of (filter_map (symbol_of db) x.names)) (map (written_pair db) (written_pairs db options w)))
  pairs_again = sym (ap pair_set (read_pairs (written_pairs db options w) (all_good options.dv)) ∙ set_of_ordered (written_pairs db options w) (in_order options.dv))

  variable_named : (n : ℕ) → n ≡ place → (v : Sym) → IsActive v → is_variable_at db n (symbol_name db v) ≡ true
  variable_named n e v h = let found = h.found in rw found (subst (λ k. list_any (λ (x : Sym). x.0 == v.0) (db.active_at k).variables ≡ true) (sym e) h.active)

  -- no pair has a symbol that is no active variable
  pub pairs_sound : (i : ℕ) (p : PairLine) → slice_get (map (written_pair db) (written_pairs db options w)) i ≡ Some p → not (list_all (is_variable_at db (place_of db w.read)) p.names) ≡ false
  pairs_sound i p at =
      let q = contains_mapped (written_pair db) (written_pairs db options w) p (get_contains (map (written_pair db) (written_pairs db options w)) i p at) in
      let good = all_good options.dv q.0 q.1 in
      let one = variable_named (place_of db w.read) (sym rd.place) q.0.a good.left in
      let two = variable_named (place_of db w.read) (sym rd.place) q.0.b good.right in
      let all : list_all (is_variable_at db (place_of db w.read)) (symbol_name db q.0.a ∷ symbol_name db q.0.b ∷ []) ≡ true = rw (one, two) refl in
      ap (λ (x : PairLine). not (list_all (is_variable_at db (place_of db w.read)) x.names)) (sym q.2) ∙ ap not all
