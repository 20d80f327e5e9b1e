-- The entries of the stack: formulas of another typecode than the provable one, which are texts of trees, and provable formulas, which
-- are given or pushed before.
use Rattle.std.specs.Prelude.{◌≡◌, ◌&&◌, ℕ, Bool, true, false, not, List, [], ◌∷◌, length, map, filter, find, take, zip, slice_get, Contains, Some, None, refl}
use Rattle.std.specs.List.{AllZip, AllByRecursion, list_any}
use Rattle.std.specs.Str.{bytes_eq}
use Rattle.std.proofs.Common.{sym, ap, subst, ◌∙◌, cond, arith}
use Rattle.std.proofs.lemmas.Bool.{and_parts, both_ways, not-false, not-true}
use Rattle.mm_base.specs.declared.symbols.Sym.{Sym}
use Rattle.mm_base.specs.declared.tree.Tree.{Tree}
use Rattle.mm_model.specs.declared.frames.Hyp.{Hyp}
use Rattle.mm_model.specs.Names.{typecode}
use Rattle.mm_model.specs.Productions.{typed_variables, floats, essentials}
use Rattle.mm_model.specs.Book.{Database, symbol_name}
use Rattle.mm_model.specs.BookFacts.{float_formula}
use Rattle.proof_model.specs.Machine.{Formula, Entry, same_formula, differs_in_type, type_differs, type_fault, differs_in_formula, hyp_differs, hyp_fault, substituted}
use Rattle.proof_laws.proofs.AcceptedLaw.{formulas_are}
use Rattle.export_model.specs.Exported.{is_provable}
use Rattle.push_laws.proofs.Lists.{later, all_in, filter_contains, contains_get, map_get, get_mapped}
use Rattle.push_laws.proofs.TreeProofs.{tree_symbols}
use Rattle.call_answers.specs.Exportable.{has_no_provable_float}
use Rattle.export_laws.proofs.GoodTrees.{IsGoodAs}
use Rattle.export_laws.proofs.FloatValues.{IsFloatEntry, IsEntryOf}
use Rattle.export_laws.proofs.PushPairs.{mapped_none}

-- whether a formula is provable rests on its first symbol
pub same_start : (db : Database) (g h : Formula) → take 1 g ≡ take 1 h → is_provable db g ≡ is_provable db h
same_start db g h e = ap (list_any (λ (s : Sym). bytes_eq (symbol_name db s) db.provable)) e

-- an element that a search passes over
pub none_first : {X : Type 0} (p : X → Bool) (x : X) (xs : List X) → find p (x ∷ xs) ≡ None → (p x ≡ false) × (find p xs ≡ None)
none_first p x xs e = go (p x) refl e
  where
    go : (b : Bool) → p x ≡ b → cond b (Some x) (find p xs) ≡ None → (p x ≡ false) × (find p xs ≡ None)
    go true i j = absurd cc
    go false i j = (i, j)

-- two symbols, a typecode and a variable
pub record HasTwo (g : Formula) : Type 0 where
  pub code : Sym
  pub variable : Sym
  pub formula : g ≡ code ∷ variable ∷ []

-- each `$f` of a frame has two symbols
pub floats_have_two : (hs : List Hyp) → map (λ (h : Hyp). h.formula) (floats hs) ≡ map float_formula (typed_variables hs) → AllByRecursion (λ (h : Hyp). h.floating ≡ true → HasTwo h.formula) hs
floats_have_two hs e = all_in (λ (h : Hyp). h.floating ≡ true → HasTwo h.formula) hs (λ h c i.
    let at = contains_get (floats hs) h (filter_contains (λ (x : Hyp). x.floating) hs h c i) in
    let formula : slice_get (map float_formula (typed_variables hs)) at.0 ≡ Some h.formula = ap (λ fs. slice_get fs at.0) (sym e) ∙ map_get (λ (x : Hyp). x.formula) (floats hs) at.0 h at.1 in
    let v = get_mapped float_formula (typed_variables hs) at.0 h.formula formula in
    record { code = v.0.code.0; variable = v.0.sym; formula = sym v.2 })

module _ (db : Database) (place : ℕ) where
  pub data IsEntry (seen : List Formula) (g : Formula) : Type 0 where
    of_tree : (code : Sym) (t : Tree) → IsGoodAs db place (typecode code) t → g ≡ code ∷ tree_symbols db t → is_provable db g ≡ false → IsEntry seen g
    of_step : is_provable db g ≡ true → Contains seen g → IsEntry seen g

  pub entry_later : (x : Formula) (seen : List Formula) (g : Formula) → IsEntry seen g → IsEntry (x ∷ seen) g
  entry_later x seen g (of_tree code t good e n) = of_tree code t good e n
  entry_later x seen g (of_step p c) = of_step p (later g x seen c)

  -- a provable entry is one of the formulas
  pub provable_seen : (seen : List Formula) (g : Formula) → IsEntry seen g → is_provable db g ≡ true → Contains seen g
  provable_seen seen g (of_tree code t good e n) p = absurd (both_ways (is_provable db g) n p)
  provable_seen seen g (of_step p c) q = c

  other_tree : (seen : List Formula) (g : Formula) (c v : Sym) → IsEntry seen g → is_provable db g ≡ false → take 1 g ≡ c ∷ []
      → (t : Tree) × IsGoodAs db place (typecode c) t × (g ≡ c ∷ tree_symbols db t)
  other_tree seen g c v (of_tree code t good e n) p s =
      let starts : code ∷ [] ≡ c ∷ [] = sym (ap (take 1) e) ∙ s in
      let same : code ≡ c = cc in
      (t, subst (λ x. IsGoodAs db place (typecode x) t) same good, e ∙ ap (λ x. x ∷ tree_symbols db t) same)
  other_tree seen g c v (of_step p q) n s = absurd (both_ways (is_provable db g) n p)

  same_type : (h : Hyp) (g : Formula) → differs_in_type (h, g) ≡ false → h.floating ≡ true → take 1 g ≡ take 1 h.formula
  same_type h g e f =
      let test : not (same_formula (take 1 g) (take 1 h.formula)) ≡ false = subst (λ (b : Bool). (b && not (same_formula (take 1 g) (take 1 h.formula))) ≡ false) f e in
      formulas_are (take 1 g) (take 1 h.formula) (not-false _ test)

  float_entry : (seen : List Formula) (h : Hyp) (g : Formula) → HasTwo h.formula → h.floating ≡ true → not (h.floating && is_provable db h.formula) ≡ true → differs_in_type (h, g) ≡ false
      → IsEntry seen g
      → IsFloatEntry db place h g
  float_entry seen h g two f n d e =
      let starts = same_type h g d f in
      let other : is_provable db h.formula ≡ false = not-true _ (subst (λ (b : Bool). not (b && is_provable db h.formula) ≡ true) f n) in
      let t = other_tree seen g two.code two.variable e (same_start db g h.formula starts ∙ other) (starts ∙ ap (take 1) two.formula) in
      record { code = two.code; variable = two.variable; formula = two.formula; tree = t.0; good = t.1; taken = t.2 }

  -- what the `$f` of a frame take is texts of trees
  pub entries_are : (seen : List Formula) (hs : List Hyp) (gs : List Formula) → length hs ≡ length gs → AllByRecursion (λ (h : Hyp). h.floating ≡ true → HasTwo h.formula) hs
      → has_no_provable_float db hs ≡ true → find differs_in_type (zip hs gs) ≡ None → AllByRecursion (IsEntry seen) gs → AllZip (IsEntryOf db place) hs gs
  entries_are seen [] [] l two n d e = tt
  entries_are seen [] (g ∷ gs) l two n d e = let bad : ⊥ = omega (arith, l) in absurd bad
  entries_are seen (h ∷ hs) [] l two n d e = let bad : ⊥ = omega (arith, l) in absurd bad
  entries_are seen (h ∷ hs) (g ∷ gs) l two n d e =
      let here = none_first differs_in_type (h, g) (zip hs gs) d in
      let none = and_parts (not (h.floating && is_provable db h.formula)) (has_no_provable_float db hs) n in (
        (λ f. float_entry seen h g (two.0 f) f none.0 here.0 e.0),
        entries_are seen hs gs (omega (arith, l)) two.1 none.1 here.1 e.1,
      )

  pub no_type_differs : (entries : List Entry) → type_fault entries ≡ None → find differs_in_type entries ≡ None
  no_type_differs entries e = mapped_none (λ (x : Entry). type_differs) (find differs_in_type entries) e

  pub no_hyp_differs : (entries : List Entry) → hyp_fault entries ≡ None → find (differs_in_formula entries) entries ≡ None
  no_hyp_differs entries e = mapped_none (λ (x : Entry). hyp_differs (substituted entries x.0.formula) x.1) (find (differs_in_formula entries) entries) e

  -- ---- the `$e`

  -- what a frame takes for its `$e`
  abbrev pub taken_of : List Hyp → List Formula → List Formula
  taken_of hs gs = map (λ (e : Entry). e.1) (filter (λ (e : Entry). not e.0.floating) (zip hs gs))

  module _ (seen : List Formula) (entries : List Entry) (c : Sym) (provable : (ss : Formula) → is_provable db (c ∷ ss) ≡ true) (symbols : Tree → Formula) (Good : Tree → Type 0) where
    -- what is taken for a `$e` with this tree
    pub record IsTakenFor (t : Tree) (g : Formula) : Type 0 where
      pub formula : g ≡ c ∷ symbols t
      pub good : Good t
      pub stands : Contains seen g

    abbrev Says : Hyp → Tree → Type 0
    Says h t = (substituted entries h.formula ≡ c ∷ symbols t) × Good t

    one_taken : (h : Hyp) (g : Formula) (t : Tree) → h.floating ≡ false → differs_in_formula entries (h, g) ≡ false → IsEntry seen g → Says h t → IsTakenFor t g
    one_taken h g t f d e s =
        let test : not (same_formula g (substituted entries h.formula)) ≡ false = subst (λ (b : Bool). (not b && not (same_formula g (substituted entries h.formula))) ≡ false) f d in
        let is : g ≡ c ∷ symbols t = formulas_are g (substituted entries h.formula) (not-false _ test) ∙ s.0 in
        record { formula = is; good = s.1; stands = provable_seen seen g e (ap (is_provable db) is ∙ provable (symbols t)) }

    pub all_taken_for : (hs : List Hyp) (gs : List Formula) (ts : List Tree) → length hs ≡ length gs → find (differs_in_formula entries) (zip hs gs) ≡ None
        → AllByRecursion (IsEntry seen) gs → AllZip Says (essentials hs) ts → AllZip IsTakenFor ts (taken_of hs gs)
    all_taken_for [] [] [] l d e s = tt
    all_taken_for [] [] (t ∷ ts) l d e s = absurd s
    all_taken_for [] (g ∷ gs) ts l d e s = let bad : ⊥ = omega (arith, l) in absurd bad
    all_taken_for (h ∷ hs) [] ts l d e s = let bad : ⊥ = omega (arith, l) in absurd bad
    all_taken_for (h ∷ hs) (g ∷ gs) ts l d e s =
        let here = none_first (differs_in_formula entries) (h, g) (zip hs gs) d in
        by h.floating refl here.0 (λ us r. all_taken_for hs gs us (omega (arith, l)) here.1 e.1 r) ts s
      where
        by : (b : Bool) → h.floating ≡ b → differs_in_formula entries (h, g) ≡ false → ((us : List Tree) → AllZip Says (essentials hs) us → AllZip IsTakenFor us (taken_of hs gs))
            → (us : List Tree) → AllZip Says (cond (not b) (h ∷ essentials hs) (essentials hs)) us
            → AllZip IsTakenFor us (map (λ (x : Entry). x.1) (cond (not b) ((h, g) ∷ filter (λ (x : Entry). not x.0.floating) (zip hs gs)) (filter (λ (x : Entry). not x.0.floating) (zip hs gs))))
        by true f i r us z = r us z
        by false f i r [] z = absurd z
        by false f i r (u ∷ us) z = (one_taken h g u f i e.0 z.0, r us z.1)
