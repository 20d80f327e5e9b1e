-- Where the machine finds no fault of an assertion's entries, nothing clashes, and the needed pairs are active.
use Rattle.std.specs.Prelude.{◌≡◌, ◌<◌, ◌==◌, ◌&&◌, ℕ, Bool, true, false, not, List, [], ◌∷◌, length, map, flat_map, filter, filter_map, find, fold, zip}
use Rattle.std.specs.Prelude.{slice_get, Contains, nat_lt, Option, Some, None, option_map, refl}
use Rattle.std.specs.List.{AllZip, AllByRecursion, list_any, cons_option}
use Rattle.std.specs.Option.{option_or}
use Rattle.std.proofs.Common.{sym, ap, subst, ◌∙◌, cond, arith, inl, inr}
use Rattle.std.proofs.lemmas.Bool.{cases_Bool, and_parts, and_from, or_cases, eq-eqb, not-false}
use Rattle.std.proofs.lemmas.Bool.Decides.{nat_tests}
use Rattle.mm_base.specs.declared.symbols.Sym.{Sym}
use Rattle.mm_base.specs.declared.symbols.Pair.{Pair}
use Rattle.mm_base.specs.declared.symbols.Typecode.{Typecode}
use Rattle.mm_base.specs.declared.tree.Tree.{Tree}
use Rattle.mm_base.proofs.TreeInduction.{tree_ind}
use Rattle.mm_model.specs.declared.frames.Frame.{Frame}
use Rattle.mm_model.specs.declared.rows.Leaf.TheVariants as leaf
use Rattle.mm_model.specs.Texts.{text}
use Rattle.mm_model.specs.Typed.{IsTyped}
use Rattle.mm_model.specs.Book.{Database, float_of, symbol_of}
use Rattle.mm_model.proofs.TextLaws.{text-Var}
use Rattle.mm_model.proofs.TypedLaws.{typed_held}
use Rattle.proof_model.specs.declared.theorem.Theorem.{Theorem}
use Rattle.proof_model.specs.Machine.{Formula, Entry, is_float_of, is_variable, substitute, variable_pairs, least, or_later, first_pair}
use Rattle.proof_model.specs.Machine.{is_shared, is_active_pair, type_fault, hyp_fault, shared_fault, distinct_fault, entries_fault}
use Rattle.sheet_text.specs.declared.sheet.PairLine.{PairLine}
use Rattle.solve_model.specs.Binding.{two_of}
use Rattle.solve_model.specs.PairSets.{ordered, same_pair, is_pair_in, pair_set}
use Rattle.solve_model.specs.Trees.{variables, flatten}
use Rattle.solve_model.proofs.TreeLaws.{variables-Var, variables-Work, variables-Fresh, variables-Node}
use Rattle.solve_laws.proofs.PairSetLaws.{holds_same}
use Rattle.written_model.specs.ProofsPush.{leaf_symbols}
use Rattle.written_model.specs.WrittenSteps.{Use, value_of}
use Rattle.written_model.specs.declared.options.DvMode.TheVariants as dv
use Rattle.written_model.specs.Pairs.{crossings, lesser, shared_variable, clash_of, needed, lack_of}
use Rattle.written_model.specs.Written.{written_pair}
use Rattle.answer_laws.proofs.Elements.{nothing, first, later, parted, only, piece_of, in_pieces, mapped_from, in_mapped}
use Rattle.push_laws.proofs.Distinct.{joins, written_is_active}
use Rattle.push_laws.proofs.Entries.{IsTaken, substitute-float, same_symbol}
use Rattle.push_laws.proofs.Facts.{IsBook, PairHasFloats}
use Rattle.push_laws.proofs.Lists.{filter_contains, any_contains, contains_get, all_of, any_of_contains}
use Rattle.push_laws.proofs.Parts.{each_at}
use Rattle.push_laws.proofs.Replaced.{text_child}
use Rattle.push_laws.proofs.Substituted.{typed_float}
use Rattle.push_laws.proofs.TreeProofs.{tree_symbols}
use Rattle.export_laws.proofs.GoodTrees.{IsGood}

-- the pairs of the worksheet
abbrev pub given_of : Database → Theorem → List Pair
given_of db thm = pair_set (flat_map (λ (l : PairLine). two_of (filter_map (symbol_of db) l.names)) (map (written_pair db) thm.pairs))

-- ---- the faults of entries

first_none : {X : Type 0} (o p : Option X) → option_or o p ≡ None → (o ≡ None) × (p ≡ None)
first_none None p e = (refl, e)
first_none (Some x) p e = absurd cc

pub mapped_none : {X Y : Type 0} (f : X → Y) (o : Option X) → option_map f o ≡ None → o ≡ None
mapped_none f None e = refl
mapped_none f (Some x) e = absurd cc

pub record HasNoFault (thm : Theorem) (f : Frame) (entries : List Entry) : Type 0 where
  pub types : type_fault entries ≡ None
  pub hyps : hyp_fault entries ≡ None
  pub shares : shared_fault thm entries f.pairs ≡ None
  pub distinct : distinct_fault thm entries f.pairs ≡ None

pub has_no_fault : (thm : Theorem) (f : Frame) (entries : List Entry) → entries_fault thm f entries ≡ None → HasNoFault thm f entries
has_no_fault thm f entries e =
    let a = first_none (type_fault entries) (option_or (hyp_fault entries) (option_or (shared_fault thm entries f.pairs) (distinct_fault thm entries f.pairs))) e in
    let b = first_none (hyp_fault entries) (option_or (shared_fault thm entries f.pairs) (distinct_fault thm entries f.pairs)) a.1 in
    let c = first_none (shared_fault thm entries f.pairs) (distinct_fault thm entries f.pairs) b.1 in
    record { types = a.0; hyps = b.0; shares = c.0; distinct = c.1 }

least_none : (xs : List (Sym × Sym)) → least xs ≡ None → xs ≡ []
least_none [] e = refl
least_none (x ∷ xs) e = absurd cc

later_none : (p : Pair) (o : Option (Sym × Sym)) (r : Option (Pair × (Sym × Sym))) → or_later p o r ≡ None → (o ≡ None) × (r ≡ None)
later_none p None r e = (refl, e)
later_none p (Some x) r e = absurd cc

none_kept : {X : Type 0} (test : X → Bool) (xs : List X) (x : X) → filter test xs ≡ [] → Contains xs x → test x ≡ false
none_kept test xs x e c = elim (cases_Bool (test x)) [
  | inl d ↦ absurd (nothing x (subst (λ ys. Contains ys x) e (filter_contains test xs x c d)))
  | inr d ↦ d
]

no_pair : (test : Sym × Sym → Bool) (thm : Theorem) (entries : List Entry) (ps : List Pair) (p : Pair) (vw : Sym × Sym) → first_pair test thm entries ps ≡ None → Contains ps p
    → Contains (variable_pairs thm entries p) vw → test vw ≡ false
no_pair test thm entries [] p vw e c h = absurd (nothing p c)
no_pair test thm entries (q ∷ ps) p vw e c h =
    let two = later_none q (least (filter test (variable_pairs thm entries q))) (first_pair test thm entries ps) e in
    elim (parted p q ps c) [
      | inl is ↦ none_kept test (variable_pairs thm entries p) vw (subst (λ (x : Pair). filter test (variable_pairs thm entries x) ≡ []) is (least_none _ two.0)) h
      | inr l ↦ no_pair test thm entries ps p vw two.1 l h
    ]

pair_stands : (thm : Theorem) (entries : List Entry) (p : Pair) (v w : Sym) → Contains (substitute entries p.a) v → is_variable thm v ≡ true → Contains (substitute entries p.b) w
    → is_variable thm w ≡ true
    → Contains (variable_pairs thm entries p) (v, w)
pair_stands thm entries p v w c i d j =
    in_pieces (λ (x : Sym). map (λ (y : Sym). let q : Sym × Sym = (x, y) in q) (filter (is_variable thm) (substitute entries p.b))) (filter (is_variable thm) (substitute entries p.a)) v (v, w)
    (filter_contains (is_variable thm) (substitute entries p.a) v c i)
    (in_mapped (λ (y : Sym). let q : Sym × Sym = (v, y) in q) (filter (is_variable thm) (substitute entries p.b)) w (filter_contains (is_variable thm) (substitute entries p.b) w d j))

-- two variables are different ones, and an active pair
pub record AreApart (thm : Theorem) (v w : Sym) : Type 0 where
  pub differ : is_shared (v, w) ≡ false
  pub active : is_active_pair thm (v, w) ≡ true

are_apart : (thm : Theorem) (f : Frame) (entries : List Entry) → HasNoFault thm f entries → (p : Pair) (v w : Sym) → Contains f.pairs p
    → Contains (substitute entries p.a) v → is_variable thm v ≡ true → Contains (substitute entries p.b) w → is_variable thm w ≡ true → AreApart thm v w
are_apart thm f entries none p v w h c i d j =
    let stands = pair_stands thm entries p v w c i d j in
    record {
      differ = no_pair is_shared thm entries f.pairs p (v, w) (mapped_none _ _ none.shares) h stands;
      active = not-false _ (no_pair (λ vw. not (is_active_pair thm vw)) thm entries f.pairs p (v, w) (mapped_none _ _ none.distinct) h stands);
    }

-- ---- the variables of a tree stand in its text

child_of : (ts : List Tree) (s : Sym) → Contains (flatten (map variables ts)) s → (k : ℕ) × (t : Tree) × (slice_get ts k ≡ Some t) × Contains (variables t) s
child_of ts s h =
    let xs = piece_of (λ (x : List Sym). x) (map variables ts) s h in
    let t = mapped_from variables ts xs.0 xs.1 in
    let at = contains_get ts t.0 t.1 in
    (at.0, t.0, at.1, subst (λ x. Contains x s) (sym t.2) xs.2)

module _ (db : Database) (book : IsBook db) (place : ℕ) where
  abbrev IsShown : Tree → Type 0
  IsShown t = IsTyped db.rows place t → (s : Sym) → Contains (variables t) s → (c : Typecode) × Contains (text db.rows t) (leaf.Var s c)

  shown : (t : Tree) → IsShown t
  shown = tree_ind IsShown
      (λ v c typed s h.
      let same : v ≡ s = only s v (subst (λ xs. Contains xs s) (variables-Var v c) h) in
      (c, subst (λ xs. Contains xs (leaf.Var s c)) (sym (text-Var db.rows v c)) (first (leaf.Var s c) (leaf.Var v c) [] (ap (λ (x : Sym). leaf.Var x c) same))))
      (λ c n typed s h. absurd (nothing s (subst (λ xs. Contains xs s) (variables-Work c n) h)))
      (λ c n typed s h. absurd (nothing s (subst (λ xs. Contains xs s) (variables-Fresh c n) h)))
      (λ l c ts each typed s h.
      let k = child_of ts s (subst (λ xs. Contains xs s) (variables-Node l c ts) h) in
      let d = each_at IsShown ts k.0 k.1 each k.2 (each_at (IsTyped db.rows place) ts k.0 k.1 (typed_held db.rows place l c ts typed) k.2) s k.3 in
      (d.0, text_child db book place l c ts k.0 k.1 (leaf.Var s d.0) typed k.2 d.1))

declared_by : (s : Sym) (c : Typecode) (a b : Bool) (o : Option Typecode) → cond a (Some (leaf.Const s)) (cond b (option_map (λ (d : Typecode). leaf.Var s d) o) None) ≡ Some (leaf.Var s c)
    → o ≡ Some c
declared_by s c true b o e = absurd cc
declared_by s c false true None e = absurd cc
declared_by s c false true (Some d) e = let same : d ≡ c = cc in ap (λ x. Some x) same
declared_by s c false false o e = absurd cc

same_self : (p : Pair) → same_pair p p ≡ true
same_self p = and_from (p.a.0 == p.a.0) (p.b.0 == p.b.0) (eq-eqb p.a.0 p.a.0 refl) (eq-eqb p.b.0 p.b.0 refl)

-- ---- orders of two

turned : (v w : Sym) → (v.0 == w.0) ≡ false → ordered w v ≡ ordered v w
turned v w differ = elim (cases_Bool (nat_lt v.0 w.0)) [
  | inl d ↦
      let e : nat_lt w.0 v.0 ≡ false = grind (arith, nat_tests, d) in
      ap (λ (b : Bool). let x : Pair = cond b (record { a = w; b = v }) (record { a = v; b = w }) in x) e
      ∙ sym (ap (λ (b : Bool). let x : Pair = cond b (record { a = v; b = w }) (record { a = w; b = v }) in x) d)
  | inr d ↦
      let e : nat_lt w.0 v.0 ≡ true = grind (arith, nat_tests, d, differ) in
      ap (λ (b : Bool). let x : Pair = cond b (record { a = w; b = v }) (record { a = v; b = w }) in x) e
      ∙ sym (ap (λ (b : Bool). let x : Pair = cond b (record { a = v; b = w }) (record { a = w; b = v }) in x) d)
]

same_ordered : (v w : Sym) (p : Pair) → (v.0 == w.0) ≡ false → joins (v, w) p ≡ true → ordered p.a p.b ≡ ordered v w
same_ordered v w p differ e = elim (or_cases (p.a.0 == v.0 && p.b.0 == w.0) (p.a.0 == w.0 && p.b.0 == v.0) e) [
  | inl d ↦
      let two = and_parts (p.a.0 == v.0) (p.b.0 == w.0) d in
      ap (λ (x : Sym). ordered x p.b) (same_symbol p.a v two.0) ∙ ap (ordered v) (same_symbol p.b w two.1)
  | inr d ↦
      let two = and_parts (p.a.0 == w.0) (p.b.0 == v.0) d in
      ap (λ (x : Sym). ordered x p.b) (same_symbol p.a w two.0) ∙ ap (ordered w) (same_symbol p.b v two.1) ∙ turned v w differ
]

ends_within : (n : ℕ) (v w : Sym) (p : Pair) → joins (v, w) p ≡ true → v.0 < n → w.0 < n → (p.a.0 < n) × (p.b.0 < n)
ends_within n v w p e l m = elim (or_cases (p.a.0 == v.0 && p.b.0 == w.0) (p.a.0 == w.0 && p.b.0 == v.0) e) [
  | inl d ↦
      let two = and_parts (p.a.0 == v.0) (p.b.0 == w.0) d in
      (subst (λ (x : Sym). x.0 < n) (sym (same_symbol p.a v two.0)) l, subst (λ (x : Sym). x.0 < n) (sym (same_symbol p.b w two.1)) m)
  | inr d ↦
      let two = and_parts (p.a.0 == w.0) (p.b.0 == v.0) d in
      (subst (λ (x : Sym). x.0 < n) (sym (same_symbol p.a w two.0)) m, subst (λ (x : Sym). x.0 < n) (sym (same_symbol p.b v two.1)) l)
]

-- ---- lists without such elements

all_fail : {X : Type 0} (test : X → Bool) (xs : List X) → ((x : X) → Contains xs x → test x ≡ false) → filter test xs ≡ []
all_fail test [] f = refl
all_fail test (x ∷ xs) f = ap (λ (b : Bool). cond b (x ∷ filter test xs) (filter test xs)) (f x (first x x xs refl)) ∙ all_fail test xs (λ y c. f y (later y x xs c))

none_found : {X : Type 0} (test : X → Bool) (xs : List X) → ((x : X) → Contains xs x → test x ≡ false) → find test xs ≡ None
none_found test [] f = refl
none_found test (x ∷ xs) f = ap (λ (b : Bool). cond b (Some x) (find test xs)) (f x (first x x xs refl)) ∙ none_found test xs (λ y c. f y (later y x xs c))

none_given : {X Y : Type 0} (h : X → Option Y) (xs : List X) → ((x : X) → Contains xs x → h x ≡ None) → filter_map h xs ≡ []
none_given h [] f = refl
none_given h (x ∷ xs) f = ap (λ o. cons_option o (filter_map h xs)) (f x (first x x xs refl)) ∙ none_given h xs (λ y c. f y (later y x xs c))

pub kept_in : {X : Type 0} (test : X → Bool) (xs : List X) (x : X) → Contains (filter test xs) x → Contains xs x
kept_in test [] x h = absurd (nothing x h)
kept_in test (y ∷ xs) x h = elim (cases_Bool (test y)) [
  | inl d ↦
      let k : Contains (y ∷ filter test xs) x = subst (λ (b : Bool). Contains (cond b (y ∷ filter test xs) (filter test xs)) x) d h in
      elim (parted x y (filter test xs) k) [ inl e ↦ first x y xs e | inr l ↦ later x y xs (kept_in test xs x l) ]
  | inr d ↦ later x y xs (kept_in test xs x (subst (λ (b : Bool). Contains (cond b (y ∷ filter test xs) (filter test xs)) x) d h))
]

-- ---- a use whose values are good trees

record IsCrossing (u : Use) (p : Pair) (q : Sym × Sym) : Type 0 where
  v : Sym
  w : Sym
  in_one : Contains (variables (value_of u p.a)) v
  in_other : Contains (variables (value_of u p.b)) w
  same : (v, w) ≡ q

is_crossing : (u : Use) (p : Pair) (q : Sym × Sym) → Contains (crossings u p) q → IsCrossing u p q
is_crossing u p q h =
    let v = piece_of (λ (x : Sym). map (λ (y : Sym). let z : Sym × Sym = (x, y) in z) (variables (value_of u p.b))) (variables (value_of u p.a)) q h in
    let w = mapped_from (λ (y : Sym). let z : Sym × Sym = (v.0, y) in z) (variables (value_of u p.b)) q v.2 in
    record { v = v.0; w = w.0; in_one = v.1; in_other = w.1; same = w.2 }

module _ (db : Database) (book : IsBook db) (thm : Theorem) (same_hyps : thm.hyps ≡ (db.active_at thm.at).hyps) (u : Use) (gs : List Formula)
    (taken : AllZip (IsTaken (λ s. tree_symbols db (value_of u s))) u.assertion.frame.hyps gs)
    (floats : AllByRecursion (PairHasFloats u.assertion.frame.hyps) u.assertion.frame.pairs)
    (good : (s : Sym) → list_any (is_float_of s) u.assertion.frame.hyps ≡ true → IsGood db thm.at (value_of u s))
    (none : HasNoFault thm u.assertion.frame (zip u.assertion.frame.hyps gs)) where
  abbrev f : Frame
  f = u.assertion.frame

  record StandsIn (s v : Sym) : Type 0 where
    stands : Contains (substitute (zip f.hyps gs) s) v
    variable : is_variable thm v ≡ true
    within : v.0 < length db.symbols

  stands_in : (s v : Sym) → list_any (is_float_of s) f.hyps ≡ true → Contains (variables (value_of u s)) v → StandsIn s v
  stands_in s v e h =
      let t = value_of u s in
      let g = good s e in
      let c = shown db book thm.at t g.typed v h in
      let is = g.vars v c.0 c.1 in
      let float : float_of v (db.active_at thm.at).hyps ≡ Some c.0 =
      declared_by v c.0 (db.is_constant_at v thm.at) (list_any (λ (x : Sym). x.0 == v.0) (db.active_at thm.at).variables) (float_of v (db.active_at thm.at).hyps) is.declared in
      record {
        stands = subst (λ xs. Contains xs v) (sym (substitute-float (λ x. tree_symbols db (value_of u x)) s f.hyps gs taken e))
            (in_pieces leaf_symbols (text db.rows t) (leaf.Var v c.0) v c.1 (first v v [] refl));
        variable = subst (λ hs. list_any (is_float_of v) hs ≡ true) (sym same_hyps) (typed_float v (db.active_at thm.at).hyps c.0 float);
        within = is.within;
      }

  record IsApartAt (q : Sym × Sym) : Type 0 where
    apart : AreApart thm q.0 q.1
    one_within : q.0.0 < length db.symbols
    other_within : q.1.0 < length db.symbols

  apart_at : (p : Pair) (q : Sym × Sym) → Contains f.pairs p → Contains (crossings u p) q → IsApartAt q
  apart_at p q c h =
      let x = is_crossing u p q h in
      let two = all_of (PairHasFloats f.hyps) f.pairs p floats c in
      let a = stands_in p.a x.v two.0 x.in_one in
      let b = stands_in p.b x.w two.1 x.in_other in
      subst IsApartAt x.same (record {
        apart = are_apart thm f (zip f.hyps gs) none p x.v x.w c a.stands a.variable b.stands b.variable;
        one_within = a.within;
        other_within = b.within;
      })

  pub no_clash : clash_of u ≡ None
  no_clash = ap (λ (xs : List Sym). slice_get xs 0) (none_given (shared_variable u) f.pairs (λ p c.
      ap (λ (xs : List (Sym × Sym)). fold lesser None (map (λ (q : Sym × Sym). q.0) xs)) (all_fail is_shared (crossings u p) (λ q h. (apart_at p q c h).apart.differ))))

  abbrev given : List Pair
  given = given_of db thm

  is_given : (q : Sym × Sym) → IsApartAt q → is_pair_in given (ordered q.0 q.1) ≡ true
  is_given q a =
      let r = any_contains (joins q) thm.pairs a.apart.active in
      let within = ends_within _ q.0 q.1 r.0 r.2 a.one_within a.other_within in
      let stands = written_is_active db book.facts.symbols thm.pairs r.0 (record { a = within.0; b = within.1 }) r.1 in
      let there : Contains given (ordered q.0 q.1) = subst (Contains given) (same_ordered q.0 q.1 r.0 a.apart.differ r.2) stands in
      any_of_contains (same_pair (ordered q.0 q.1)) given (ordered q.0 q.1) there (same_self (ordered q.0 q.1))

  needed_given : (p : Pair) → Contains (needed u) p → is_pair_in given p ≡ true
  needed_given p h =
      let all = flat_map (crossings u) f.pairs in
      let listed = (holds_same (map (λ (q : Sym × Sym). ordered q.0 q.1) (filter (λ q. not (is_shared q)) all)) p).0 h in
      let q = mapped_from (λ (x : Sym × Sym). ordered x.0 x.1) (filter (λ x. not (is_shared x)) all) p listed in
      let from = piece_of (crossings u) f.pairs q.0 (kept_in (λ x. not (is_shared x)) all q.0 q.1) in
      subst (λ x. is_pair_in given x ≡ true) q.2 (is_given q.0 (apart_at from.0 q.0 from.1 from.2))

  pub no_lack : lack_of dv.Given given u ≡ None
  no_lack = none_found (λ p. not (is_pair_in given p)) (needed u) (λ p h. ap not (needed_given p h))
