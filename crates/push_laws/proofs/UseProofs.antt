-- The proof of a use of an assertion pushes the formula of its conclusion.
use Rattle.std.specs.Prelude.{◌≡◌, ◌<◌, ◌⊎◌, ◌==◌, ℕ, suc, Bool, true, false, not, ◌&&◌, ◌||◌, List, [], ◌∷◌, length, drop, map, flat_map, zip}
use Rattle.std.specs.Prelude.{slice_get, slice_index_or, Contains, nat_lt, is_some, Option, Some, None, option_map, option_and_then, refl}
use Rattle.std.specs.List.{AllZip, AllByRecursion, list_any}
use Rattle.std.proofs.Common.{sym, ap, subst, ◌∙◌, cond, arith, inl, inr}
use Rattle.std.proofs.lemmas.Bool.{cases_Bool, and_parts, or_cases, lt-ltb, both_ways, not-true, eq-eqb}
use Rattle.std.proofs.lemmas.List.{length-map}
use Rattle.mm_base.specs.declared.symbols.Sym.{Sym}
use Rattle.mm_base.specs.declared.symbols.Pair.{Pair}
use Rattle.mm_base.specs.declared.symbols.Label.{Label}
use Rattle.mm_base.specs.declared.symbols.Typecode.{Typecode}
use Rattle.mm_base.specs.declared.tree.Tree.{Tree}
use Rattle.mm_base.specs.Trees.{code_of}
use Rattle.mm_model.specs.declared.frames.Hyp.{Hyp}
use Rattle.mm_model.specs.declared.frames.Frame.{Frame}
use Rattle.mm_model.specs.declared.rows.Leaf.{Leaf}
use Rattle.mm_model.specs.declared.rows.Leaf.TheVariants as leaf
use Rattle.mm_model.specs.Names.{Name, sym as symbol}
use Rattle.mm_model.specs.Texts.{text}
use Rattle.mm_model.specs.Productions.{TypedVariable, typed_variables, essentials, floats}
use Rattle.mm_model.specs.Book.{Database, Assertion, IsUsable, IsRead, label_of, symbol_of, position_of, float_of}
use Rattle.mm_model.specs.BookFacts.{float_formula, VariablesDiffer}
use Rattle.model_laws.specs.FrameLaws.{own_leaf, own_expression}
use Rattle.model_laws.proofs.Listed.{all_pass, all-filter}
use Rattle.proof_model.specs.declared.theorem.Theorem.{Theorem}
use Rattle.proof_model.specs.Machine.{Formula, Entry, is_float_of, is_variable, substituted, entries_fault}
use Rattle.proof_model.specs.Proofs.{Proof, by, proofs}
use Rattle.solve_model.specs.Trees.{variables}
use Rattle.written_model.specs.WrittenSteps.{Use, value_of, no_tree}
use Rattle.written_model.specs.Found.{valued}
use Rattle.written_model.specs.ProofTrees.{syntax_proof, no_proof, hyp_proofs, float_variable}
use Rattle.written_model.specs.ProofsPush.{tree_formula, leaf_symbols, AreApart}
use Rattle.written_model.specs.Written.{frames_of}
use Rattle.push_laws.proofs.ActiveHyps.{label_stands_at}
use Rattle.push_laws.proofs.Entries.{IsTaken, IsFloatTaken, IsEssentialTaken, substitute-float, no_type_fault, no_hyp_fault, no_entries_fault, same_symbol}
use Rattle.push_laws.proofs.Facts.{IsBook, FrameIsApart, IsUsed, PairHasFloats, Begins, stands_in, IsOwnFormula}
use Rattle.push_laws.proofs.Lists.{first, later, nothing, parted, all_of, all_in, get_contains, contains_get, filter_contains, any_contains}
use Rattle.push_laws.proofs.Lists.{any_of_contains, filter_map_contains, map_get, get_mapped, zip_get, zip_left, zip_length, zip_weaker, zip_mapped}
use Rattle.push_laws.proofs.Pairs.{AreDistinct, PairIsDistinct, no_shared_fault, no_distinct_fault}
use Rattle.push_laws.proofs.Parts.{IsGood, good_part, fine_text}
use Rattle.push_laws.proofs.Runs.{IsProofOf, frame_proof}
use Rattle.push_laws.proofs.Substituted.{formula_valued, typed_any}
use Rattle.push_laws.proofs.TreeProofs.{tree_symbols, tree_proof, not_named}
use Rattle.push_laws.proofs.Values.{all_beside}

-- ---- what is taken for the hypotheses of a frame, in order

-- of a `$f` its own formula, of each `$e` the next of these
abbrev pub hyp_formulas : (Hyp → Formula) → List Hyp → List Formula → List Formula
hyp_formulas g [] fs = []
hyp_formulas g (h ∷ hs) [] = cond h.floating (g h ∷ hyp_formulas g hs []) ([] ∷ hyp_formulas g hs [])
hyp_formulas g (h ∷ hs) (f ∷ fs) = cond h.floating (g h ∷ hyp_formulas g hs (f ∷ fs)) (f ∷ hyp_formulas g hs fs)

module _ (S : Hyp → Formula → Type 0) (g : Hyp → Formula) where
  -- the `$e` of the rest, where the first is a `$f`, or none
  rest_by : (h : Hyp) (hs : List Hyp) (fs : List Formula) (b : Bool) → h.floating ≡ b → AllZip S (essentials (h ∷ hs)) fs → AllZip S (cond (not b) (h ∷ essentials hs) (essentials hs)) fs
  rest_by h hs fs b e z = subst (λ (x : Bool). AllZip S (cond (not x) (h ∷ essentials hs) (essentials hs)) fs) e z

  both_by : (h : Hyp) (hs : List Hyp) (x y : List Formula) (b : Bool) → h.floating ≡ b → AllZip S (h ∷ hs) (cond b x y) → AllZip S (h ∷ hs) (cond h.floating x y)
  both_by h hs x y b e z = subst (λ (c : Bool). AllZip S (h ∷ hs) (cond c x y)) (sym e) z

  pub hyps_taken : (hs : List Hyp) (fs : List Formula) → AllByRecursion (λ (h : Hyp). h.floating ≡ true → S h (g h)) hs → AllZip S (essentials hs) fs → AllZip S hs (hyp_formulas g hs fs)
  hyps_taken [] fs a z = tt
  hyps_taken (h ∷ hs) [] a z = elim (cases_Bool h.floating) [
    | inl d ↦ both_by h hs (g h ∷ hyp_formulas g hs []) ([] ∷ hyp_formulas g hs []) true d (a.0 d, hyps_taken hs [] a.1 (rest_by h hs [] true d z))
    | inr d ↦ absurd (rest_by h hs [] false d z)
  ]
  hyps_taken (h ∷ hs) (f ∷ fs) a z = elim (cases_Bool h.floating) [
    | inl d ↦ both_by h hs (g h ∷ hyp_formulas g hs (f ∷ fs)) (f ∷ hyp_formulas g hs fs) true d (a.0 d, hyps_taken hs (f ∷ fs) a.1 (rest_by h hs (f ∷ fs) true d z))
    | inr d ↦
        let z' : S h f × AllZip S (essentials hs) fs = rest_by h hs (f ∷ fs) false d z in
        both_by h hs (g h ∷ hyp_formulas g hs (f ∷ fs)) (f ∷ hyp_formulas g hs fs) false d (z'.0, hyps_taken hs fs a.1 z'.1)
  ]

count_by : (h : Hyp) (hs : List Hyp) (n : ℕ) (b : Bool) → h.floating ≡ b → length (essentials (h ∷ hs)) ≡ n → length (cond (not b) (h ∷ essentials hs) (essentials hs)) ≡ n
count_by h hs n b e l = subst (λ (x : Bool). length (cond (not x) (h ∷ essentials hs) (essentials hs)) ≡ n) e l

module _ (R : Proof → Formula → Type 0) (value : Sym → Proof) (g : Hyp → Formula) where
  proved_by : (h : Hyp) (ps qs : List Proof) (x y : List Formula) (b : Bool) → h.floating ≡ b → AllZip R (cond b ps qs) (cond b x y) → AllZip R (cond h.floating ps qs) (cond h.floating x y)
  proved_by h ps qs x y b e z = subst (λ (c : Bool). AllZip R (cond c ps qs) (cond c x y)) (sym e) z

  pub hyps_proved : (hs : List Hyp) (ps : List Proof) (fs : List Formula) → AllByRecursion (λ (h : Hyp). h.floating ≡ true → R (value (float_variable h)) (g h)) hs
      → length (essentials hs) ≡ length ps → AllZip R ps fs → AllZip R (hyp_proofs value hs ps) (hyp_formulas g hs fs)
  hyps_proved [] ps fs a l z = tt
  hyps_proved (h ∷ hs) [] [] a l z = elim (cases_Bool h.floating) [
    | inl d ↦
        proved_by h (value (float_variable h) ∷ hyp_proofs value hs []) (no_proof ∷ hyp_proofs value hs []) (g h ∷ hyp_formulas g hs []) ([] ∷ hyp_formulas g hs []) true d
        (a.0 d, hyps_proved hs [] [] a.1 (count_by h hs 0 true d l) z)
    | inr d ↦ let bad : suc (length (essentials hs)) ≡ 0 = count_by h hs 0 false d l in let no : ⊥ = omega (arith, bad) in absurd no
  ]
  hyps_proved (h ∷ hs) [] (f ∷ fs) a l z = absurd z
  hyps_proved (h ∷ hs) (p ∷ ps) [] a l z = absurd z
  hyps_proved (h ∷ hs) (p ∷ ps) (f ∷ fs) a l z = elim (cases_Bool h.floating) [
    | inl d ↦
        proved_by h (value (float_variable h) ∷ hyp_proofs value hs (p ∷ ps)) (p ∷ hyp_proofs value hs ps) (g h ∷ hyp_formulas g hs (f ∷ fs)) (f ∷ hyp_formulas g hs fs) true d
        (a.0 d, hyps_proved hs (p ∷ ps) (f ∷ fs) a.1 (count_by h hs (suc (length ps)) true d l) z)
    | inr d ↦
        let long : suc (length (essentials hs)) ≡ suc (length ps) = count_by h hs (suc (length ps)) false d l in
        proved_by h (value (float_variable h) ∷ hyp_proofs value hs (p ∷ ps)) (p ∷ hyp_proofs value hs ps) (g h ∷ hyp_formulas g hs (f ∷ fs)) (f ∷ hyp_formulas g hs fs) false d
        (z.0, hyps_proved hs ps fs a.1 (omega (arith, long)) z.1)
  ]

-- ---- a use

-- the use is one of a label before the place, with values whose conclusion and `$e` can be proved, and which are apart
pub record IsUse (db : Database) (book : IsBook db) (thm : Theorem) (apart : AreApart db thm.hyps) (u : Use) (name : Name) : Type 0 where
  pub label : Label
  pub named : label_of db name ≡ Some label
  pub usable : db.usable label ≡ Some u.assertion
  pub earlier : position_of db label < thm.at
  pub codes : map code_of u.values ≡ map (λ (v : TypedVariable). v.code) u.assertion.vars
  pub conclusion : IsGood db book thm apart (valued u u.assertion.tree)
  pub hyps : AllByRecursion (λ t. IsGood db book thm apart (valued u t)) u.assertion.hyps
  pub distinct : (p : Pair) → Contains u.assertion.frame.pairs p → (v w : Sym) → Contains (variables (value_of u p.a)) v → Contains (variables (value_of u p.b)) w
      → v.0 < length db.symbols → w.0 < length db.symbols → AreDistinct thm v w

module _ (db : Database) (book : IsBook db) (thm : Theorem) (apart : AreApart db thm.hyps) (constants : (x : Sym) → db.is_constant_at x thm.at ≡ true → is_variable thm x ≡ false)
    (u : Use) (name : Name) (use' : IsUse db book thm apart u name) where
  abbrev a : Assertion
  a = u.assertion

  abbrev f : Frame
  f = u.assertion.frame

  abbrev vars : List TypedVariable
  vars = typed_variables f.hyps

  abbrev The : Proof → Formula → Type 0
  The p g = IsProofOf (frames_of db) thm p g

  is_usable : IsUsable db use'.label a
  is_usable = book.facts.usable use'.label a use'.usable

  frame : db.frame use'.label ≡ Some f
  frame = is_usable.frame

  frame_is_apart : FrameIsApart db f
  frame_is_apart = book.frames_apart use'.label f frame

  -- ---- values

  abbrev value : Sym → Tree
  value s = value_of u s

  values_beside : AllZip (λ (v : TypedVariable) t. value v.sym ≡ t) a.vars u.values
  values_beside =
      let long : length a.vars ≡ length u.values = sym (length-map a.vars (λ (v : TypedVariable). v.code)) ∙ ap (λ xs. length xs) (sym use'.codes) ∙ length-map u.values code_of in
      all_beside (λ t. t) no_tree a.vars u.values (subst VariablesDiffer (sym is_usable.vars) (book.facts.frames use'.label f frame).variables) long

  -- the value of a variable has its typecode
  value_code : (k : ℕ) (v : TypedVariable) → slice_get vars k ≡ Some v → code_of (value v.sym) ≡ v.code
  value_code k v e =
      let at : slice_get a.vars k ≡ Some v = ap (λ vs. slice_get vs k) is_usable.vars ∙ e in
      let t = zip_get (λ (v : TypedVariable) t. value v.sym ≡ t) a.vars u.values k v values_beside at in
      let both : Some (code_of t.0) ≡ Some v.code = sym (map_get code_of u.values k t.0 t.1) ∙ ap (λ xs. slice_get xs k) use'.codes ∙ map_get (λ (x : TypedVariable). x.code) a.vars k v at in
      let code : code_of t.0 ≡ v.code = cc in
      ap code_of t.2 ∙ code

  float_any : (k : ℕ) (v : TypedVariable) → slice_get vars k ≡ Some v → list_any (is_float_of v.sym) f.hyps ≡ true
  float_any k v e = typed_any v.sym f.hyps (any_of_contains (λ (w : TypedVariable). w.sym.0 == v.sym.0) vars v (get_contains vars k v e) (eq-eqb v.sym.0 v.sym.0 refl))

  -- a variable that stands in a formula stands in the text of its tree
  stands_in_text : (g : Formula) (t : Tree) (s : Sym) → own_expression db f g ≡ text db.rows t
      → AllByRecursion (λ x. is_some (own_leaf db f x) ≡ true) (drop 1 g) → list_any (is_float_of s) f.hyps ≡ true
      → stands_in s g ≡ true → (c : Typecode) × Contains (text db.rows t) (leaf.Var s c)
  stands_in_text g t s e some float h =
      let x = any_contains (λ (v : Sym). v.0 == s.0) (drop 1 g) h in
      let same : x.0 ≡ s = same_symbol x.0 s x.2 in
      let stands : Contains (drop 1 g) s = subst (Contains (drop 1 g)) same x.1 in
      let there = all_of (λ y. is_some (own_leaf db f y) ≡ true) (drop 1 g) s some stands in
      let c = go (db.is_constant_at s f.at) (float_of s f.hyps) refl there in
      (c.0, subst (λ xs. Contains xs (leaf.Var s c.0)) e (filter_map_contains (own_leaf db f) (drop 1 g) s (leaf.Var s c.0) stands c.1))
    where
      go : (b : Bool) (o : Option Typecode) → db.is_constant_at s f.at ≡ b → is_some (cond b (Some (leaf.Const s)) (option_map (λ c. leaf.Var s c) o)) ≡ true
          → (c : Typecode) × (cond b (Some (leaf.Const s)) (option_map (λ c. leaf.Var s c) o) ≡ Some (leaf.Var s c))
      go true o i j = absurd (both_ways (list_any (is_float_of s) f.hyps) (frame_is_apart.constants s i) float)
      go false None i j = absurd cc
      go false (Some c) i j = (c, refl)

  read_text : (g : Formula) (t : Tree) → IsRead db f.at g t → IsOwnFormula db f g → own_expression db f g ≡ text db.rows t
  read_text g t r own = own.expression ∙ sym r.tree.parses.written

  -- so its value can be proved
  value_good : (k : ℕ) (v : TypedVariable) → slice_get vars k ≡ Some v → IsGood db book thm apart (value v.sym)
  value_good k v e =
      elim
      (or_cases (stands_in v.sym f.formula) (list_any (λ (h : Hyp). not h.floating && stands_in v.sym h.formula) f.hyps)
      (all_of (IsUsed f) vars v frame_is_apart.used (get_contains vars k v e))) [
        | inl d ↦
            let own = (book.own use'.label f frame).formula in
            let c = stands_in_text f.formula a.tree v.sym (read_text f.formula a.tree is_usable.conclusion own) own.leaves (float_any k v e) d in
            good_part db book thm apart value a.tree v.sym c.0 c.1 use'.conclusion
        | inr d ↦
            let h = any_contains (λ (h : Hyp). not h.floating && stands_in v.sym h.formula) f.hyps d in
            let two = and_parts (not h.0.floating) (stands_in v.sym h.0.formula) h.2 in
            let at = contains_get (essentials f.hyps) h.0 (filter_contains (λ (x : Hyp). not x.floating) f.hyps h.0 h.1 two.0) in
            let t = zip_get (λ (x : Hyp) y. IsRead db f.at x.formula y) (essentials f.hyps) a.hyps at.0 h.0 is_usable.hyps at.1 in
            let own = all_of (λ (x : Hyp). IsOwnFormula db f x.formula) (essentials f.hyps) h.0 (book.own use'.label f frame).hyps (get_contains (essentials f.hyps) at.0 h.0 at.1) in
            let c = stands_in_text h.0.formula t.0 v.sym (read_text h.0.formula t.0 t.2 own) own.leaves (float_any k v e) two.1 in
            good_part db book thm apart value t.0 v.sym c.0 c.1 (all_of (λ x. IsGood db book thm apart (valued u x)) a.hyps t.0 use'.hyps (get_contains a.hyps at.0 t.0 t.1))
      ]

  -- ---- the `$f` of the frame

  record FloatOf (h : Hyp) : Type 0 where
    place : ℕ
    variable : TypedVariable
    stands : slice_get vars place ≡ Some variable
    formula : h.formula ≡ float_formula variable

  float_of_hyp : (h : Hyp) → Contains f.hyps h → h.floating ≡ true → FloatOf h
  float_of_hyp h c e =
      let at = contains_get (floats f.hyps) h (filter_contains (λ (x : Hyp). x.floating) f.hyps h c e) in
      let formula : slice_get (map float_formula vars) at.0 ≡ Some h.formula =
      ap (λ fs. slice_get fs at.0) (sym (book.facts.frames use'.label f frame).floats) ∙ map_get (λ (x : Hyp). x.formula) (floats f.hyps) at.0 h at.1 in
      let v = get_mapped float_formula vars at.0 h.formula formula in
      record { place = at.0; variable = v.0; stands = v.1; formula = sym v.2 }

  abbrev values : Sym → Formula
  values s = tree_symbols db (value s)

  abbrev float_formula_of : Hyp → Formula
  float_formula_of h = tree_formula db (value (float_variable h))

  variable_is : (h : Hyp) (v : TypedVariable) → h.formula ≡ float_formula v → float_variable h ≡ v.sym
  variable_is h v e = ap (λ (g : Formula). slice_index_or g 1 (symbol 0)) e

  float_taken : (h : Hyp) → Contains f.hyps h → h.floating ≡ true → IsFloatTaken values h (float_formula_of h)
  float_taken h c e =
      let v = float_of_hyp h c e in
      let is = variable_is h v.variable v.formula in
      record {
        code = v.variable.code.0;
        variable = v.variable.sym;
        formula = v.formula;
        taken = ap (λ (s : Sym). tree_formula db (value s)) is ∙ ap (λ (d : Typecode). d.0 ∷ values v.variable.sym) (value_code v.place v.variable v.stands);
      }

  float_proved : (h : Hyp) → Contains f.hyps h → h.floating ≡ true → The (syntax_proof db thm.hyps (value (float_variable h))) (float_formula_of h)
  float_proved h c e =
      let v = float_of_hyp h c e in
      let good = subst (λ s. IsGood db book thm apart (value s)) (sym (variable_is h v.variable v.formula)) (value_good v.place v.variable v.stands) in
      tree_proof db book thm apart (value (float_variable h)) good.typed good.closed good.floats

  -- ---- the entries

  module _ (p : Sym) (provable : symbol_of db db.provable ≡ Some p) where
    abbrev hyp_formula : Tree → Formula
    hyp_formula t = p ∷ tree_symbols db (valued u t)

    abbrev taken_formulas : List Formula
    taken_formulas = hyp_formulas float_formula_of f.hyps (map hyp_formula a.hyps)

    abbrev entries : List Entry
    entries = zip f.hyps taken_formulas

    taken : AllZip (IsTaken values) f.hyps taken_formulas
    taken =
        hyps_taken (IsTaken values) float_formula_of f.hyps (map hyp_formula a.hyps)
        (all_in (λ (h : Hyp). h.floating ≡ true → IsTaken values h (float_formula_of h)) f.hyps (λ h c e i. float_taken h c e))
        (zip_mapped (IsTaken values) hyp_formula (essentials f.hyps) a.hyps
        (zip_left (λ (h : Hyp) t. IsRead db f.at h.formula t) (λ h t. IsTaken values h (hyp_formula t)) (λ (h : Hyp). not h.floating ≡ true)
        (λ h t n r i. absurd (both_ways h.floating (not-true h.floating n) i))
        (essentials f.hyps) a.hyps (all_pass (λ (h : Hyp). not h.floating) f.hyps) is_usable.hyps))

    begins_provable : (g : Formula) (t : Tree) → IsRead db f.at g t → Begins db f.at g → (rest : Formula) × (g ≡ p ∷ rest) × (db.is_constant_at p f.at ≡ true)
    begins_provable g t r b =
        let s = r.provable.begins in
        let both : Some s.0 ≡ Some p = sym s.3 ∙ provable in
        let same : s.0 ≡ p = cc in
        let is : g ≡ p ∷ s.1 = s.2 ∙ ap (λ x. x ∷ s.1) same in
        (s.1, is, subst (λ x. Begins db f.at x) is b)

    -- a formula that was read is, substituted, that of its valued tree
    read_valued : (g : Formula) (t : Tree) → IsRead db f.at g t → Begins db f.at g → IsOwnFormula db f g → substituted entries g ≡ hyp_formula t
    read_valued g t r b own =
        let s = begins_provable g t r b in
        formula_valued db f frame_is_apart value taken_formulas taken g p s.0 t s.1 s.2 own (read_text g t r own)

    essential_taken : AllZip (λ (h : Hyp) t. hyp_formula t ≡ substituted entries h.formula) (essentials f.hyps) a.hyps
    essential_taken =
        zip_left (λ (h : Hyp) t. IsRead db f.at h.formula t) (λ (h : Hyp) t. hyp_formula t ≡ substituted entries h.formula) (λ (h : Hyp). Begins db f.at h.formula × IsOwnFormula db f h.formula)
        (λ h t k r. sym (read_valued h.formula t r k.0 k.1)) (essentials f.hyps) a.hyps
        (all_in (λ (h : Hyp). Begins db f.at h.formula × IsOwnFormula db f h.formula) (essentials f.hyps)
        (λ h c. (
          all_of (λ (x : Hyp). Begins db f.at x.formula) (essentials f.hyps) h (all-filter (λ (x : Hyp). Begins db f.at x.formula) (λ (x : Hyp). not x.floating) f.hyps frame_is_apart.hyps_begin) c,
          all_of (λ (x : Hyp). IsOwnFormula db f x.formula) (essentials f.hyps) h (book.own use'.label f frame).hyps c,
        ))) is_usable.hyps

    hyps_are : AllZip (IsEssentialTaken entries) f.hyps taken_formulas
    hyps_are =
        hyps_taken (IsEssentialTaken entries) float_formula_of f.hyps (map hyp_formula a.hyps)
        (all_in (λ (h : Hyp). h.floating ≡ true → IsEssentialTaken entries h (float_formula_of h)) f.hyps (λ h c e i. absurd (both_ways h.floating i e)))
        (zip_mapped (IsEssentialTaken entries) hyp_formula (essentials f.hyps) a.hyps
        (zip_weaker (λ (h : Hyp) t. hyp_formula t ≡ substituted entries h.formula) (λ h t. IsEssentialTaken entries h (hyp_formula t)) (λ h t e i. e) (essentials f.hyps) a.hyps essential_taken))

    -- ---- pairs

    in_text : (xs : List Leaf) (s : Sym) → Contains (flat_map leaf_symbols xs) s → Contains xs (leaf.Const s) ⊎ ((c : Typecode) × Contains xs (leaf.Var s c))
    in_text [] s h = absurd (nothing s h)
    in_text (leaf.Const v ∷ xs) s h = elim (parted s v (flat_map leaf_symbols xs) h) [
      | inl e ↦ inl (first (leaf.Const s) (leaf.Const v) xs (ap (λ x. leaf.Const x) e))
      | inr l ↦ elim (in_text xs s l) [ inl c ↦ inl (later (leaf.Const s) (leaf.Const v) xs c) | inr c ↦ inr (c.0, later (leaf.Var s c.0) (leaf.Const v) xs c.1) ]
    ]
    in_text (leaf.Var v d ∷ xs) s h = elim (parted s v (flat_map leaf_symbols xs) h) [
      | inl e ↦ inr (d, first (leaf.Var s d) (leaf.Var v d) xs (ap (λ x. leaf.Var x d) e))
      | inr l ↦ elim (in_text xs s l) [ inl c ↦ inl (later (leaf.Const s) (leaf.Var v d) xs c) | inr c ↦ inr (c.0, later (leaf.Var s c.0) (leaf.Var v d) xs c.1) ]
    ]
    in_text (leaf.Work c n ∷ xs) s h = elim (in_text xs s h) [ inl d ↦ inl (later (leaf.Const s) (leaf.Work c n) xs d) | inr d ↦ inr (d.0, later (leaf.Var s d.0) (leaf.Work c n) xs d.1) ]

    -- a variable of the theorem in the text of a value is a variable of the value
    variable_in : (t : Tree) → IsGood db book thm apart t → (s : Sym) → Contains (tree_symbols db t) s → is_variable thm s ≡ true → Contains (variables t) s × (s.0 < length db.symbols)
    variable_in t good s h v = elim (in_text (text db.rows t) s h) [
      | inl c ↦ absurd (both_ways (is_variable thm s) (constants s (fine_text db book thm apart t good.typed (leaf.Const s) c)) v)
      | inr c ↦ (fine_text db book thm apart t good.typed (leaf.Var s c.0) c.1, good.named s c.0 c.1)
    ]

    float_good : (s : Sym) → list_any (is_float_of s) f.hyps ≡ true → IsGood db book thm apart (value s)
    float_good s e =
        let h = any_contains (is_float_of s) f.hyps e in
        let two = and_parts h.0.floating (list_any (λ (v : Sym). v.0 == s.0) (drop 1 h.0.formula)) h.2 in
        let v = float_of_hyp h.0 h.1 two.0 in
        let it : ((v.variable.sym.0 == s.0) || false) ≡ true = sym (ap (λ (g : Formula). list_any (λ (x : Sym). x.0 == s.0) (drop 1 g)) v.formula) ∙ two.1 in
        subst (λ x. IsGood db book thm apart (value x)) (the_symbol v.variable.sym s it) (value_good v.place v.variable v.stands)
      where
        the_symbol : (v s : Sym) → ((v.0 == s.0) || false) ≡ true → v ≡ s
        the_symbol v s e = elim (or_cases (v.0 == s.0) false e) [ inl d ↦ same_symbol v s d | inr d ↦ let bad : false ≡ true = d in absurd cc ]

    pairs_are : AllByRecursion (PairIsDistinct thm entries) f.pairs
    pairs_are = all_in (PairIsDistinct thm entries) f.pairs (λ q c v w i d j k.
        let two = all_of (PairHasFloats f.hyps) f.pairs q frame_is_apart.pairs c in
        let one = subst (λ g. Contains g v) (substitute-float values q.a f.hyps taken_formulas taken two.0) i in
        let other = subst (λ g. Contains g w) (substitute-float values q.b f.hyps taken_formulas taken two.1) j in
        let in_one = variable_in (value q.a) (float_good q.a two.0) v one d in
        let in_other = variable_in (value q.b) (float_good q.b two.1) w other k in
        use'.distinct q c v w in_one.0 in_other.0 in_one.1 in_other.1)

    no_fault : entries_fault thm f entries ≡ None
    no_fault = no_entries_fault thm f entries (no_type_fault values f.hyps taken_formulas taken) (no_hyp_fault f.hyps taken_formulas hyps_are)
        (no_shared_fault thm entries f.pairs pairs_are) (no_distinct_fault thm entries f.pairs pairs_are)

    -- ---- the proof

    pub use_is_proof : (ps : List Proof) → AllZip The ps (map hyp_formula a.hyps) → The (by name (proofs (hyp_proofs (λ s. syntax_proof db thm.hyps (value s)) f.hyps ps))) (hyp_formula a.tree)
    use_is_proof ps z =
        let by_name : frames_of db name ≡ Some f = ap (option_and_then db.frame) use'.named ∙ frame in
        let before : nat_lt f.at thm.at ≡ true = lt-ltb f.at thm.at (subst (λ (n : ℕ). n < thm.at) (sym (book.facts.frames use'.label f frame).at) use'.earlier) in
        let stands = get_contains db.labels use'.label.0 name (label_stands_at db.labels name use'.label use'.named) in
        let count : length (essentials f.hyps) ≡ length ps =
        zip_length (λ (h : Hyp) t. IsRead db f.at h.formula t) (essentials f.hyps) a.hyps is_usable.hyps ∙ sym (length-map a.hyps hyp_formula) ∙ sym (zip_length The ps (map hyp_formula a.hyps) z) in
        let below = hyps_proved The (λ s. syntax_proof db thm.hyps (value s)) float_formula_of f.hyps ps (map hyp_formula a.hyps)
        (all_in (λ (h : Hyp). h.floating ≡ true → The (syntax_proof db thm.hyps (value (float_variable h))) (float_formula_of h)) f.hyps float_proved) count z in
        let own = (book.own use'.label f frame).formula in
        subst (The (by name (proofs (hyp_proofs (λ s. syntax_proof db thm.hyps (value s)) f.hyps ps)))) (read_valued f.formula a.tree is_usable.conclusion frame_is_apart.begins own)
        (frame_proof (frames_of db) thm name f (hyp_proofs (λ s. syntax_proof db thm.hyps (value s)) f.hyps ps) taken_formulas below (not_named db book thm apart name f by_name) by_name before
        (sym (zip_length (IsTaken values) f.hyps taken_formulas taken)) no_fault (book.plain name stands))
