-- The hypotheses of a written theorem: each is found by its label, and each variable of its formulas by its `$f`.
use Rattle.std.specs.Prelude.{◌≡◌, ◌<◌, ◌≤◌, ◌⊎◌, ◌+◌, ◌-◌, ◌==◌, ◌&&◌, ◌||◌, ℕ, zero, suc, Bool, true, false, List, [], ◌∷◌, ◌++◌, length, map, drop}
use Rattle.std.specs.Prelude.{find, flat_map, slice_get, unwrap_or, Contains, Option, Some, None, option_map, option_and_then, refl}
use Rattle.std.specs.List.{AllZip, AllByRecursion, list_any}
use Rattle.std.specs.Str.{bytes_eq}
use Rattle.std.proofs.Common.{sym, ap, subst, ◌∙◌, cond, arith, inl, inr}
use Rattle.std.proofs.lemmas.Bool.{cases_Bool, and_from, or_left, false_from_ne_true}
use Rattle.std.proofs.lemmas.List.Elements.{Contains-append_cases}
use Rattle.std.proofs.lemmas.List.Folds.{list_any-append}
use Rattle.std.proofs.lemmas.Slice.Eq.{bytes_eq-Decides}
use Rattle.mm_base.specs.declared.symbols.Sym.{Sym}
use Rattle.mm_base.specs.declared.symbols.Typecode.{Typecode}
use Rattle.mm_model.specs.declared.frames.Hyp.{Hyp}
use Rattle.mm_model.specs.declared.rows.Leaf.TheVariants as leaf
use Rattle.mm_model.specs.Labels.{is_label}
use Rattle.mm_model.specs.Names.{Name, typecode}
use Rattle.mm_model.specs.Productions.{TypedVariable, typed_by, typed_variables, floats}
use Rattle.mm_model.specs.Book.{Database, label_of, float_of}
use Rattle.model_laws.proofs.Listed.{Pairwise}
use Rattle.proof_model.specs.Machine.{is_float_of}
use Rattle.proof_laws.specs.Labels.{IsNoGap}
use Rattle.sheet_text.specs.declared.sheet.Sheet.{Sheet}
use Rattle.sheet_text.specs.declared.sheet.SheetStep.{SheetStep}
use Rattle.solve_model.specs.Binding.{place_of, given_hyps, names_of, new_hyp}
use Rattle.solve_model.specs.BindFaults.{BindFaultAt}
use Rattle.written_model.specs.WrittenSteps.{WrittenStep}
use Rattle.written_model.specs.ProofsPush.{HasFloat, AreApart}
use Rattle.written_model.specs.Written.{frames_of, written_step}
use Rattle.push_laws.proofs.Declared.{label_spelled, spelled_plain}
use Rattle.push_laws.proofs.Facts.{IsBook, HypsAreApart, ShortHyp, ShortFormula, NamesUnlike}
use Rattle.push_laws.proofs.Lists.{first, later, nothing, parted, all_of, all_in, get_contains, contains_get, get_mapped, map_get, zip_get}
use Rattle.push_laws.proofs.ReadHyps.{hyp_steps, given_is, new_label, labels_differ, given_active, label_found}
use Rattle.push_laws.proofs.ReadTrees.{IsDeclared}
use Rattle.push_laws.proofs.Runs.{is_named}
use Rattle.push_laws.proofs.Entries.{same_symbol}

-- ---- what is found

pub find_left : {X : Type 0} (p : X → Bool) (xs ys : List X) (x : X) → find p xs ≡ Some x → find p (xs ++ ys) ≡ Some x
find_left p [] ys x e = absurd cc
find_left p (y ∷ xs) ys x e = elim (cases_Bool (p y)) [
  | inl d ↦ ap (λ (b : Bool). cond b (Some y) (find p (xs ++ ys))) d ∙ sym (ap (λ (b : Bool). cond b (Some y) (find p xs)) d) ∙ e
  | inr d ↦ ap (λ (b : Bool). cond b (Some y) (find p (xs ++ ys))) d ∙ find_left p xs ys x (sym (ap (λ (b : Bool). cond b (Some y) (find p xs)) d) ∙ e)
]

find_right : {X : Type 0} (p : X → Bool) (xs ys : List X) → AllByRecursion (λ x. p x ≡ false) xs → find p (xs ++ ys) ≡ find p ys
find_right p [] ys a = refl
find_right p (x ∷ xs) ys a = ap (λ (b : Bool). cond b (Some x) (find p (xs ++ ys))) a.0 ∙ find_right p xs ys a.1

find_at : {X : Type 0} (p : X → Bool) (xs : List X) (k : ℕ) (x : X) → slice_get xs k ≡ Some x → p x ≡ true
    → ((j : ℕ) (y : X) → j < k → slice_get xs j ≡ Some y → p y ≡ false) → find p xs ≡ Some x
find_at p [] k x e h f = absurd cc
find_at p (y ∷ xs) zero x e h f = let same : y ≡ x = cc in ap (λ (b : Bool). cond b (Some y) (find p xs)) (ap p same ∙ h) ∙ ap (λ z. Some z) same
find_at p (y ∷ xs) (suc k) x e h f =
    ap (λ (b : Bool). cond b (Some y) (find p xs)) (f 0 y (omega arith) refl) ∙ find_at p xs k x e h (λ j z l i. f (suc j) z (omega (arith, l)) i)

get_drop : {X : Type 0} (n k : ℕ) (xs : List X) → slice_get (drop n xs) k ≡ slice_get xs (n + k)
get_drop zero k xs = let e : k ≡ 0 + k = omega arith in ap (slice_get xs) e
get_drop (suc n) k [] = refl
get_drop (suc n) k (x ∷ xs) = get_drop n k xs ∙ (let e : suc (n + k) ≡ suc n + k = omega arith in ap (slice_get (x ∷ xs)) e)

same_name : (a b : Name) → bytes_eq a b ≡ true → a ≡ b
same_name a b e = (bytes_eq-Decides a b).0 e

-- in a list of hypotheses with different labels each is found by its own
find_self : (hs : List Hyp) (h : Hyp) → Pairwise NamesUnlike hs → Contains hs h → find (is_named h.name) hs ≡ Some h
find_self [] h a c = absurd (nothing h c)
find_self (k ∷ hs) h a c = elim (parted h k hs c) [
  | inl e ↦
      let own : is_named h.name k ≡ true = ap (λ (x : Hyp). bytes_eq x.name h.name) e ∙ (bytes_eq-Decides h.name h.name).1 refl in
      ap (λ (b : Bool). cond b (Some k) (find (is_named h.name) hs)) own ∙ ap (λ z. Some z) e
  | inr l ↦
      let other : is_named h.name k ≡ false = false_from_ne_true (is_named h.name k) (λ t. all_of (NamesUnlike k) hs h a.0 l (same_name k.name h.name t)) in
      ap (λ (b : Bool). cond b (Some k) (find (is_named h.name) hs)) other ∙ find_self hs h a.1 l
]

-- ---- the `$f` of a declared variable

record FloatFound (hs : List Hyp) (s : Sym) (c : Typecode) : Type 0 where
  hyp : Hyp
  found_is : find (is_float_of s) hs ≡ Some hyp
  formula : hyp.formula ≡ c.0 ∷ s ∷ []
  member : Contains hs hyp

abbrev code_in : Sym → List TypedVariable → Option Typecode
code_in s vs = option_map (λ (v : TypedVariable). v.code) (find (λ (v : TypedVariable). v.sym.0 == s.0) vs)

skip : (h : Hyp) (hs : List Hyp) (s : Sym) (c : Typecode) → is_float_of s h ≡ false → FloatFound hs s c → FloatFound (h ∷ hs) s c
skip h hs s c e f = record {
  hyp = f.hyp;
  found_is = ap (λ (b : Bool). cond b (Some h) (find (is_float_of s) hs)) e ∙ f.found_is;
  formula = f.formula;
  member = later f.hyp h hs f.member;
}

float_by : (h : Hyp) (hs : List Hyp) (s : Sym) (c : Typecode) (g : List Sym) → h.floating ≡ true → h.formula ≡ g → ShortFormula g → code_in s (typed_by g ++ typed_variables hs) ≡ Some c
    → (code_in s (typed_variables hs) ≡ Some c → FloatFound hs s c) → FloatFound (h ∷ hs) s c
float_by h hs s c [] fl is short e f = skip h hs s c (and_false h.floating _ (ap (λ g. list_any (λ (v : Sym). v.0 == s.0) (drop 1 g)) is)) (f e)
  where
    and_false : (a b : Bool) → b ≡ false → (a && b) ≡ false
    and_false true b i = i
    and_false false b i = refl
float_by h hs s c (a ∷ []) fl is short e f = skip h hs s c (and_false h.floating _ (ap (λ g. list_any (λ (v : Sym). v.0 == s.0) (drop 1 g)) is)) (f e)
  where
    and_false : (a b : Bool) → b ≡ false → (a && b) ≡ false
    and_false true b i = i
    and_false false b i = refl
float_by h hs s c (a ∷ v ∷ []) fl is short e f = elim (cases_Bool (v.0 == s.0)) [
  | inl d ↦
      let same : v ≡ s = same_symbol v s d in
      let one : Some (typecode a) ≡ Some c =
      subst
      (λ (b : Bool). option_map (λ (x : TypedVariable). x.code)
      (cond b (Some (record { sym = v; code = typecode a })) (find (λ (x : TypedVariable). x.sym.0 == s.0) (typed_variables hs)))
      ≡ Some c) d e in
      let code : typecode a ≡ c = cc in
      let test : is_float_of s h ≡ true = and_from h.floating _ fl (ap (λ g. list_any (λ (x : Sym). x.0 == s.0) (drop 1 g)) is ∙ or_left (v.0 == s.0) false d) in
      record {
        hyp = h;
        found_is = ap (λ (b : Bool). cond b (Some h) (find (is_float_of s) hs)) test;
        formula = is ∙ ap (λ (x : Sym). a ∷ x ∷ []) same ∙ ap (λ (t : Typecode). t.0 ∷ s ∷ []) code;
        member = first h h hs refl;
      }
  | inr d ↦
      let rest : code_in s (typed_variables hs) ≡ Some c =
      subst
      (λ (b : Bool). option_map (λ (x : TypedVariable). x.code)
      (cond b (Some (record { sym = v; code = typecode a })) (find (λ (x : TypedVariable). x.sym.0 == s.0) (typed_variables hs)))
      ≡ Some c) d e in
      let test : list_any (λ (x : Sym). x.0 == s.0) (drop 1 h.formula) ≡ false = ap (λ g. list_any (λ (x : Sym). x.0 == s.0) (drop 1 g)) is ∙ ap (λ (b : Bool). b || false) d in
      skip h hs s c (and_false h.floating _ test) (f rest)
]
  where
    and_false : (a b : Bool) → b ≡ false → (a && b) ≡ false
    and_false true b i = i
    and_false false b i = refl
float_by h hs s c (a ∷ v ∷ x ∷ g) fl is short e f = absurd short

float_found : (hs : List Hyp) (s : Sym) (c : Typecode) → AllByRecursion ShortHyp hs → float_of s hs ≡ Some c → FloatFound hs s c
float_found [] s c a e = absurd cc
float_found (h ∷ hs) s c a e = elim (cases_Bool h.floating) [
  | inl d ↦
      let split : code_in s (typed_by h.formula ++ typed_variables hs) ≡ Some c =
      subst (λ (b : Bool). code_in s (flat_map (λ (x : Hyp). typed_by x.formula) (cond b (h ∷ floats hs) (floats hs))) ≡ Some c) d e in
      float_by h hs s c h.formula d refl (a.0 d) split (λ i. float_found hs s c a.1 i)
  | inr d ↦
      let rest : float_of s hs ≡ Some c = subst (λ (b : Bool). code_in s (flat_map (λ (x : Hyp). typed_by x.formula) (cond b (h ∷ floats hs) (floats hs))) ≡ Some c) d e in
      let test : is_float_of s h ≡ false = ap (λ (b : Bool). b && list_any (λ (x : Sym). x.0 == s.0) (drop 1 h.formula)) d in
      skip h hs s c test (float_found hs s c a.1 rest)
]

-- ---- the theorem

module _ (db : Database) (book : IsBook db) (s : Sheet) (sound : (line code : ℕ) → BindFaultAt db s line code → ⊥) where
  -- a written hypothesis with the step that was read
  pub record IsRead (e : WrittenStep) (t : SheetStep) : Type 0 where
    pub name : e.name ≡ t.name
    pub reference : e.reference ≡ t.reference
    pub label : Name
    pub label_is : t.reference ≡ Some label
    pub spelled : is_label label ≡ true

  abbrev active : List Hyp
  active = (db.active_at (place_of db s)).hyps

  abbrev n : ℕ
  n = length (given_hyps db s)

  abbrev new_of : WrittenStep → Hyp
  new_of e = new_hyp db (written_step db e)

  hyps_apart : HypsAreApart db (place_of db s)
  hyps_apart = book.hyps_apart (place_of db s)

  module _ (written : List WrittenStep) (read : AllZip IsRead written (hyp_steps db book s sound)) where
    abbrev pub all_hyps : List Hyp
    all_hyps = active ++ map new_of (drop n written)

    past : (hs : List Hyp) (m : ℕ) → length hs ≤ m → slice_get hs m ≡ None
    past [] m l = refl
    past (h ∷ hs) zero l = let bad : ⊥ = omega (arith, l) in absurd bad
    past (h ∷ hs) (suc m) l = past hs m (omega (arith, l))

    beyond : (hs : List Hyp) (m : ℕ) → slice_get hs m ≡ None → length hs ≤ m
    beyond [] m e = omega arith
    beyond (h ∷ hs) zero e = absurd cc
    beyond (h ∷ hs) (suc m) e = let r = beyond hs m e in omega (arith, r)

    -- the step of a new hypothesis, and its label
    record NewAt (k : ℕ) (e : WrittenStep) : Type 0 where
      step : SheetStep
      stands : slice_get (hyp_steps db book s sound) (n + k) ≡ Some step
      is_read : IsRead e step
      lacks : label_of db is_read.label ≡ None

    new_at : (k : ℕ) (e : WrittenStep) → slice_get (drop n written) k ≡ Some e → NewAt k e
    new_at k e at =
        let t = zip_get IsRead written (hyp_steps db book s sound) (n + k) e read (sym (get_drop n k written) ∙ at) in
        record {
          step = t.0;
          stands = t.1;
          is_read = t.2;
          lacks = new_label db book s sound (n + k) t.0 t.2.label (past (given_hyps db s) (n + k) (omega arith)) t.1 t.2.label_is;
        }

    reference_is : (e : WrittenStep) (t : SheetStep) → (r : IsRead e t) → unwrap_or e.reference [] ≡ r.label
    reference_is e t r = ap (λ o. unwrap_or o []) (r.reference ∙ r.label_is)

    -- the theorem's hypotheses have labels of no assertion
    pub are_apart : AreApart db all_hyps
    are_apart h c = elim (Contains-append_cases active (map new_of (drop n written)) h c) [
      | inl a ↦ all_of (λ (x : Hyp). frames_of db x.name ≡ None) active h hyps_apart.no_frames a
      | inr b ↦
          let at = contains_get (map new_of (drop n written)) h b in
          let e = get_mapped new_of (drop n written) at.0 h at.1 in
          let k = new_at at.0 e.0 e.1 in
          subst (λ (x : Hyp). frames_of db x.name ≡ None) e.2
          (ap (λ l. option_and_then db.frame (label_of db l)) (reference_is e.0 k.step k.is_read) ∙ ap (option_and_then db.frame) k.lacks)
    ]

    -- and all are labels
    pub are_labels : (h : Hyp) → Contains all_hyps h → is_label h.name ≡ true
    are_labels h c = elim (Contains-append_cases active (map new_of (drop n written)) h c) [
      | inl a ↦ book.labels_are h.name (all_of (λ (x : Hyp). Contains db.labels x.name) active h hyps_apart.labels a)
      | inr b ↦
          let at = contains_get (map new_of (drop n written)) h b in
          let e = get_mapped new_of (drop n written) at.0 h at.1 in
          let k = new_at at.0 e.0 e.1 in
          subst (λ (x : Hyp). is_label x.name ≡ true) e.2 (subst (λ l. is_label l ≡ true) (sym (reference_is e.0 k.step k.is_read)) k.is_read.spelled)
    ]

    no_new_floats : (x : Sym) (es : List WrittenStep) → list_any (is_float_of x) (map new_of es) ≡ false
    no_new_floats x [] = refl
    no_new_floats x (e ∷ es) = no_new_floats x es

    -- no constant of the place has a `$f` among them
    pub constants_apart : (x : Sym) → db.is_constant_at x (place_of db s) ≡ true → list_any (is_float_of x) all_hyps ≡ false
    constants_apart x c =
        list_any-append (is_float_of x) active (map new_of (drop n written)) ∙ ap (λ (b : Bool). b || list_any (is_float_of x) (map new_of (drop n written))) (hyps_apart.constants x c)
        ∙ no_new_floats x (drop n written)

    active_found : (h : Hyp) → Contains active h → find (is_named h.name) all_hyps ≡ Some h
    active_found h c = find_left (is_named h.name) active (map new_of (drop n written)) h (find_self active h hyps_apart.differ c)

    active_plain : (h : Hyp) → Contains active h → IsNoGap h.name
    active_plain h c = book.plain h.name (all_of (λ (x : Hyp). Contains db.labels x.name) active h hyps_apart.labels c)

    leaf_float : (x : Sym) (c : Typecode) (a b : Bool) (o : Option Typecode) → cond a (Some (leaf.Const x)) (cond b (option_map (λ d. leaf.Var x d) o) None) ≡ Some (leaf.Var x c) → o ≡ Some c
    leaf_float x c true b o e = absurd cc
    leaf_float x c false true None e = absurd cc
    leaf_float x c false true (Some d) e = let same : d ≡ c = cc in ap (λ z. Some z) same
    leaf_float x c false false o e = absurd cc

    -- a declared variable has its `$f` among them
    pub declared_float : (x : Sym) (c : Typecode) → IsDeclared db (place_of db s) x c → HasFloat all_hyps x c
    declared_float x c d =
        let code = leaf_float x c (db.is_constant_at x (place_of db s)) (list_any (λ (v : Sym). v.0 == x.0) (db.active_at (place_of db s)).variables) (float_of x active) d.leaf_is in
        let f = float_found active x c hyps_apart.short code in
        record {
          hyp = f.hyp;
          is_float = find_left (is_float_of x) active (map new_of (drop n written)) f.hyp f.found_is;
          formula = f.formula;
          named = active_found f.hyp f.member;
          no_gap = active_plain f.hyp f.member;
        }

    -- the hypothesis of a written step: a given one, or its own
    pub record HypFound (e : WrittenStep) : Type 0 where
      pub hyp : Hyp
      pub stands : find (is_named (unwrap_or e.reference [])) all_hyps ≡ Some hyp
      pub plain : IsNoGap (unwrap_or e.reference [])
      pub source : (hyp ≡ new_of e)
          ⊎ ((t : SheetStep) × (m : ℕ) × Contains active hyp × (slice_get (hyp_steps db book s sound) m ≡ Some t) × (slice_get written m ≡ Some e)
          × (t.formula ≡ names_of db hyp.formula))

    given_found : (m : ℕ) (e : WrittenStep) (t : SheetStep) (h : Hyp) → slice_get written m ≡ Some e
        → slice_get (hyp_steps db book s sound) m ≡ Some t → IsRead e t → slice_get (given_hyps db s) m ≡ Some h → HypFound e
    given_found m e t h at stands r g =
        let is = given_is db book s sound m h t g stands in
        let member = all_of (Contains active) (given_hyps db s) h (given_active db book s sound) (get_contains (given_hyps db s) m h g) in
        let name : unwrap_or e.reference [] ≡ h.name = ap (λ o. unwrap_or o []) (r.reference ∙ is.0) in
        record {
          hyp = h;
          stands = ap (λ l. find (is_named l) all_hyps) name ∙ active_found h member;
          plain = subst IsNoGap (sym name) (active_plain h member);
          source = inr (t, m, member, stands, at, is.1);
        }

    active_unlike : (l : Name) → label_of db l ≡ None → AllByRecursion (λ h. is_named l h ≡ false) active
    active_unlike l lacks = all_in (λ h. is_named l h ≡ false) active (λ h c. false_from_ne_true (is_named l h) (λ e.
        let there = all_of (λ (x : Hyp). Contains db.labels x.name) active h hyps_apart.labels c in
        label_found db.labels l (subst (Contains db.labels) (same_name h.name l e) there) lacks))

    new_found : (m : ℕ) (e : WrittenStep) → slice_get written m ≡ Some e → slice_get (given_hyps db s) m ≡ None → HypFound e
    new_found m e at g =
        let less = beyond (given_hyps db s) m g in
        let k : ℕ = m - n in
        let place : n + k ≡ m = omega (arith, less) in
        let here : slice_get (drop n written) k ≡ Some e = get_drop n k written ∙ ap (slice_get written) place ∙ at in
        let new = new_at k e here in
        let name : unwrap_or e.reference [] ≡ new.is_read.label = reference_is e new.step new.is_read in
        let own : is_named new.is_read.label (new_of e) ≡ true = ap (λ l. bytes_eq l new.is_read.label) name ∙ (bytes_eq-Decides new.is_read.label new.is_read.label).1 refl in
        let found' : find (is_named new.is_read.label) (map new_of (drop n written)) ≡ Some (new_of e) =
        find_at (is_named new.is_read.label) (map new_of (drop n written)) k (new_of e) (map_get new_of (drop n written) k e here) own
        (λ j h l i. false_from_ne_true (is_named new.is_read.label h) (λ t.
        let other = get_mapped new_of (drop n written) j h i in
        let o = new_at j other.0 other.1 in
        let same : o.is_read.label ≡ new.is_read.label = sym (reference_is other.0 o.step o.is_read) ∙ ap (λ (x : Hyp). x.name) other.2 ∙ same_name h.name new.is_read.label t in
        labels_differ db book s sound (n + j) (n + k) o.step new.step new.is_read.label (omega (arith, l)) o.stands new.stands (o.is_read.label_is ∙ ap (λ x. Some x) same) new.is_read.label_is)) in
        record {
          hyp = new_of e;
          stands = ap (λ l. find (is_named l) all_hyps) name ∙ find_right (is_named new.is_read.label) active (map new_of (drop n written)) (active_unlike new.is_read.label new.lacks) ∙ found';
          plain = subst IsNoGap (sym name) (spelled_plain new.is_read.label (label_spelled new.is_read.label new.is_read.spelled));
          source = inl refl;
        }

    pub hyp_found : (e : WrittenStep) → Contains written e → HypFound e
    hyp_found e c =
        let at = contains_get written e c in
        let t = zip_get IsRead written (hyp_steps db book s sound) at.0 e read at.1 in
        go at.0 at.1 t.0 t.1 t.2 (slice_get (given_hyps db s) at.0) refl
      where
        go : (m : ℕ) → slice_get written m ≡ Some e → (t : SheetStep) → slice_get (hyp_steps db book s sound) m ≡ Some t → IsRead e t
            → (o : Option Hyp) → slice_get (given_hyps db s) m ≡ o → HypFound e
        go m at t stands r None g = new_found m e at g
        go m at t stands r (Some h) g = given_found m e t h at stands r g
