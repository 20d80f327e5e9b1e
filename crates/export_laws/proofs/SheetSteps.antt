-- The steps of an exported worksheet, where each push fits over the formulas before it.
use Rattle.std.specs.Prelude.{◌≡◌, ◌<◌, ◌+◌, ◌==◌, ◌||◌, ℕ, zero, suc, Bool, true, false, List, [], ◌∷◌, ◌++◌, length, map, filter, take, slice_get, Contains}
use Rattle.std.specs.Prelude.{Option, Some, None, option_map, decimal, codes, refl}
use Rattle.std.specs.List.{AllZip, AllByRecursion, list_any, last_or}
use Rattle.std.specs.Option.{option_map_or}
use Rattle.std.proofs.Common.{sym, ap, subst, ◌∙◌, cond, arith, inl, inr}
use Rattle.std.proofs.lemmas.Bool.{cases_Bool, eq-eqb, false_from_ne_true, eqb-true}
use Rattle.std.proofs.lemmas.List.{append_assoc, append-nil}
use Rattle.mm_base.specs.declared.symbols.Sym.{Sym}
use Rattle.mm_base.specs.declared.tree.Tree.{Tree}
use Rattle.mm_model.specs.declared.frames.Hyp.{Hyp}
use Rattle.mm_model.specs.Names.{Name, first_number}
use Rattle.mm_model.specs.Book.{Database, symbol_of, logic_code}
use Rattle.mm_model.specs.BookFacts.{IsKnownAt}
use Rattle.proof_laws.proofs.AcceptedLaw.{formulas_are, formula_self}
use Rattle.proof_model.specs.declared.theorem.Theorem.{Theorem}
use Rattle.proof_model.specs.Machine.{Formula, same_formula}
use Rattle.sheet_text.specs.declared.sheet.Given.TheVariants as given
use Rattle.sheet_text.specs.declared.sheet.SheetStep.{SheetStep}
use Rattle.solve_model.specs.Binding.{names_of}
use Rattle.solve_model.specs.Formulas.{IsTheTree, IsTreeOf}
use Rattle.written_model.specs.Found.{valued as valued_by}
use Rattle.export_model.specs.Exported.{Push, is_provable, number_name, place_in, step_with, hyp_steps, push_step, push_steps}
use Rattle.push_laws.proofs.Facts.{IsBook}
use Rattle.push_laws.proofs.Lists.{first, later, nothing, parted, any_contains, zip_mapped, zip_weaker}
use Rattle.push_laws.proofs.TreeProofs.{tree_symbols}
use Rattle.fitting_laws.specs.FitsAsWritten.{numbered_name, IsHypStep, earlier_tree, FitsAsListed}
use Rattle.export_laws.proofs.GoodTrees.{IsGoodAs}
use Rattle.export_laws.proofs.PushPairs.{given_of}
use Rattle.export_laws.proofs.FramePush.{IsPush}
use Rattle.export_laws.proofs.Run.{AreFine}
use Rattle.export_laws.proofs.Reading.{good_is_read, IsActiveFormula, good_is_active, known_is_active}

-- ---- lists

stands_later : {X : Type 0} (x y : X) (xs : List X) → Contains xs x → Contains (xs ++ y ∷ []) x
stands_later x y [] h = absurd (nothing x h)
stands_later x y (z ∷ xs) h = elim (parted x z xs h) [ inl e ↦ first x z (xs ++ y ∷ []) e | inr l ↦ later x z (xs ++ y ∷ []) (stands_later x y xs l) ]

stands_last : {X : Type 0} (x : X) (xs : List X) → Contains (xs ++ x ∷ []) x
stands_last x [] = first x x [] refl
stands_last x (y ∷ xs) = later x y (xs ++ x ∷ []) (stands_last x xs)

zip_push : {X Y : Type 0} (R : X → Y → Type 0) (xs : List X) (ys : List Y) (x : X) (y : Y) → AllZip R xs ys → R x y → AllZip R (xs ++ x ∷ []) (ys ++ y ∷ [])
zip_push R [] [] x y z r = (r, tt)
zip_push R [] (w ∷ ys) x y z r = absurd z
zip_push R (v ∷ xs) [] x y z r = absurd z
zip_push R (v ∷ xs) (w ∷ ys) x y z r = (z.0, zip_push R xs ys x y z.1 r)

module _ (db : Database) (book : IsBook db) (thm : Theorem) where
  abbrev HasTree : SheetStep → Tree → Type 0
  HasTree s t = IsTheTree db thm.at s.formula t

  abbrev IsTreeOfFormula : Formula → Tree → Type 0
  IsTreeOfFormula g t = IsTheTree db thm.at (names_of db g) t

  abbrev Fits : List Tree → SheetStep → Tree → Type 0
  Fits earlier s t = FitsAsListed db thm.at (given_of db thm) earlier s t

  -- each step but the hypotheses fits over the trees before it
  abbrev pub EachFits : List Tree → List SheetStep → List Tree → Type 0
  EachFits earlier [] ts = Unit {0}
  EachFits earlier (s ∷ ss) [] = ⊥
  EachFits earlier (s ∷ ss) (t ∷ ts) = (s.hyp ≡ false → Fits earlier s t) × EachFits (earlier ++ t ∷ []) ss ts

  pub fits_at : (earlier : List Tree) (ss : List SheetStep) (ts : List Tree) → EachFits earlier ss ts → (i : ℕ) (s : SheetStep) (t : Tree) → slice_get ss i ≡ Some s → slice_get ts i ≡ Some t
      → s.hyp ≡ false
      → Fits (earlier ++ take i ts) s t
  fits_at earlier [] ts f i s t e h n = absurd cc
  fits_at earlier (x ∷ ss) [] f i s t e h n = absurd f
  fits_at earlier (x ∷ ss) (u ∷ ts) f zero s t e h n =
      let one : x ≡ s = cc in
      let two : u ≡ t = cc in
      subst (λ es. Fits es s t) (sym (append-nil earlier)) (subst (Fits earlier s) two (subst (λ y. Fits earlier y u) one (f.0 (ap (λ (y : SheetStep). y.hyp) one ∙ n))))
  fits_at earlier (x ∷ ss) (u ∷ ts) f (suc i) s t e h n = subst (λ es. Fits es s t) (append_assoc earlier (u ∷ []) (take i ts)) (fits_at (earlier ++ u ∷ []) ss ts f.1 i s t e h n)

  -- ---- the places of a push

  record IsPlace (earlier : List Tree) (steps : List Formula) (g : Formula) : Type 0 where
    number : ℕ
    found : first_number (same_formula g) steps ≡ Some number
    tree : Tree
    stands : slice_get earlier number ≡ Some tree
    is_tree : IsTreeOfFormula g tree

  place_of_formula : (steps : List Formula) (earlier : List Tree) (g : Formula) → AllZip IsTreeOfFormula steps earlier → Contains steps g → IsPlace earlier steps g
  place_of_formula [] earlier g z c = absurd (nothing g c)
  place_of_formula (x ∷ steps) [] g z c = absurd z
  place_of_formula (x ∷ steps) (t ∷ earlier) g z c = elim (cases_Bool (same_formula g x)) [
    | inl d ↦ record {
      number = 0;
      found = ap (λ (b : Bool). cond b (Some 0) (option_map suc (first_number (same_formula g) steps))) d;
      tree = t;
      stands = refl;
      is_tree = subst (λ y. IsTreeOfFormula y t) (sym (formulas_are g x d)) z.0;
    }
    | inr d ↦ elim (parted g x steps c) [
      | inl e ↦ let bad : true ≡ false = sym (formula_self g) ∙ ap (same_formula g) (sym e) ∙ d in absurd cc
      | inr l ↦
          let p = place_of_formula steps earlier g z.1 l in
          record {
            number = suc p.number;
            found = ap (λ (b : Bool). cond b (Some 0) (option_map suc (first_number (same_formula g) steps))) d ∙ ap (option_map suc) p.found;
            tree = p.tree;
            stands = p.stands;
            is_tree = p.is_tree;
          }
    ]
  ]

  -- a push as a step
  step_fits : (seen steps : List Formula) (earlier : List Tree) (name : Name) (p : Push) (t : Tree) → AllZip IsTreeOfFormula steps earlier → ((g : Formula) → Contains seen g → Contains steps g)
      → IsPush db thm seen p → HasTree (push_step db steps name p) t → Fits earlier (push_step db steps name p) t
  step_fits seen steps earlier name p t z inside push is = record {
    name = p.label;
    reference = refl;
    label = push.label;
    is_label = push.is_label;
    by = push.by;
    is_usable = push.usable;
    before = push.before;
    typecodes = push.typecodes;
    conclusion = is.only (valued_by push.by push.by.assertion.tree) (read p.formula push.by.assertion.tree push.formula push.good);
    hyps = zip_mapped (λ h g. earlier_tree earlier g ≡ Some (valued_by push.by h)) (place_in steps) push.by.assertion.hyps p.taken
        (zip_weaker (λ h g. (g ≡ push.provable ∷ tree_symbols db (valued_by push.by h)) × IsGoodAs db thm.at (logic_code db) (valued_by push.by h) × Contains seen g)
        (λ h g. earlier_tree earlier (place_in steps g) ≡ Some (valued_by push.by h))
        (λ h g x. at h g x.0 x.1 (place_of_formula steps earlier g z (inside g x.2))) push.by.assertion.hyps p.taken push.hyps);
    no_clash = push.clash;
    no_lack = push.lack;
  }
    where
      read : (g : Formula) (h : Tree) → g ≡ push.provable ∷ tree_symbols db (valued_by push.by h) → IsGoodAs db thm.at (logic_code db) (valued_by push.by h)
          → IsTreeOf db thm.at (names_of db g) (valued_by push.by h)
      read g h e good = subst (λ x. IsTreeOf db thm.at (names_of db x) (valued_by push.by h)) (sym e) (good_is_read db book thm.at push.provable (valued_by push.by h) good)

      at : (h : Tree) (g : Formula) → g ≡ push.provable ∷ tree_symbols db (valued_by push.by h) → IsGoodAs db thm.at (logic_code db) (valued_by push.by h) → IsPlace earlier steps g
          → earlier_tree earlier (place_in steps g) ≡ Some (valued_by push.by h)
      at h g e good x =
          ap (λ o. earlier_tree earlier (option_map_or (λ k. given.Step k) o given.Gap)) x.found ∙ x.stands ∙ ap (λ u. Some u) (sym (x.is_tree.only (valued_by push.by h) (read g h e good)))

  -- ---- the steps of pushes

  abbrev thm_formula : Formula
  thm_formula = thm.formula

  abbrev gives : Push → Bool
  gives p = same_formula p.formula thm.formula

  abbrev the_rest : List Formula → List Push → List SheetStep
  the_rest steps ps = push_steps db thm.formula steps ps

  -- those of a push and of the ones behind it, by whether it gives the theorem's formula, and whether its formula was there
  abbrev with_push : Bool → Bool → Push → List Formula → List Push → List SheetStep
  with_push a b p steps ps =
      cond a (push_step db steps (codes "qed") p ∷ [])
      (cond b (the_rest steps ps) (push_step db steps (number_name (length steps)) p ∷ the_rest (steps ++ p.formula ∷ []) ps))

  pub pushes_fit : (ps : List Push) (seen steps : List Formula) (earlier : List Tree) → AllZip IsTreeOfFormula steps earlier → ((g : Formula) → Contains seen g → Contains steps g)
      → AreFine db thm seen ps → list_any gives ps ≡ true → (ts : List Tree) → AllZip HasTree (the_rest steps ps) ts → EachFits earlier (the_rest steps ps) ts
  pushes_fit [] seen steps earlier z inside fine some ts h = absurd cc
  pushes_fit (p ∷ ps) seen steps earlier z inside fine some ts h =
      by (gives p) (list_any (same_formula p.formula) steps) refl refl
      (λ s e f i o us k. pushes_fit ps (p.formula ∷ seen) s e f i fine.1 o us k) some ts h
    where
      by : (a b : Bool) → gives p ≡ a → list_any (same_formula p.formula) steps ≡ b
          → ((s : List Formula) (e : List Tree) → AllZip IsTreeOfFormula s e → ((g : Formula) → Contains (p.formula ∷ seen) g → Contains s g) → list_any gives ps ≡ true
          → (us : List Tree) → AllZip HasTree (the_rest s ps) us → EachFits e (the_rest s ps) us)
          → (a || list_any gives ps) ≡ true → (us : List Tree)
          → AllZip HasTree (with_push a b p steps ps) us
          → EachFits earlier (with_push a b p steps ps) us
      by true b i j rest o [] k = absurd k
      by true b i j rest o (u ∷ us) k = ((λ n. step_fits seen steps earlier (codes "qed") p u z inside fine.0 k.0), tt)
      by false true i j rest o us k =
          let x = any_contains (same_formula p.formula) steps j in
          let stands : Contains steps p.formula = subst (Contains steps) (sym (formulas_are p.formula x.0 x.2)) x.1 in
          rest steps earlier z (λ g c. elim (parted g p.formula seen c) [ inl e ↦ subst (Contains steps) e stands | inr l ↦ inside g l ]) o us k
      by false false i j rest o [] k = absurd k
      by false false i j rest o (u ∷ us) k = (
        (λ n. step_fits seen steps earlier (number_name (length steps)) p u z inside fine.0 k.0),
        rest (steps ++ p.formula ∷ []) (earlier ++ u ∷ []) (zip_push IsTreeOfFormula steps earlier p.formula u z k.0)
            (λ g c. elim (parted g p.formula seen c) [
              | inl e ↦ subst (Contains (steps ++ p.formula ∷ [])) e (stands_last p.formula steps)
              | inr l ↦ stands_later g p.formula steps
                  (inside g l)
            ]) o us k.1,
      )

  -- ---- and of the hypotheses before them

  abbrev formulas : List Hyp → List Formula
  formulas hs = map (λ (h : Hyp). h.formula) hs

  pub hyps_fit : (n : ℕ) (hs : List Hyp) (steps : List Formula) (earlier : List Tree) (tail : List SheetStep) (ts : List Tree) → AllZip IsTreeOfFormula steps earlier
      → AllZip HasTree (hyp_steps db n hs ++ tail) ts
      → ((more us : List Tree) → AllZip IsTreeOfFormula (steps ++ formulas hs) more → AllZip HasTree tail us → EachFits more tail us)
      → EachFits earlier (hyp_steps db n hs ++ tail) ts
  hyps_fit n [] steps earlier tail ts z h rest = rest earlier ts (subst (λ ss. AllZip IsTreeOfFormula ss earlier) (sym (append-nil steps)) z) h
  hyps_fit n (x ∷ hs) steps earlier tail [] z h rest = absurd h
  hyps_fit n (x ∷ hs) steps earlier tail (t ∷ ts) z h rest = (
    (λ e. absurd (not_both e)),
    hyps_fit (suc n) hs (steps ++ x.formula ∷ []) (earlier ++ t ∷ []) tail ts (zip_push IsTreeOfFormula steps earlier x.formula t z h.0) h.1
        (λ more us k l. rest more us (subst (λ ss. AllZip IsTreeOfFormula ss more) (append_assoc steps (x.formula ∷ []) (formulas hs)) k) l),
  )
    where
      not_both : true ≡ false → ⊥
      not_both e = cc

  -- ---- names

  abbrev pub AreNamed : ℕ → ℕ → List SheetStep → Type 0
  AreNamed n count [] = Unit {0}
  AreNamed n count (s ∷ ss) = (s.name ≡ numbered_name count n) × AreNamed (suc n) count ss

  pub named_at : (n count : ℕ) (ss : List SheetStep) → AreNamed n count ss → (i : ℕ) (s : SheetStep) → slice_get ss i ≡ Some s → s.name ≡ numbered_name count (n + i)
  named_at n count [] a i s e = absurd cc
  named_at n count (x ∷ ss) a zero s e =
      let same : x ≡ s = cc in
      let sum : n ≡ n + 0 = omega arith in
      ap (λ (y : SheetStep). y.name) (sym same) ∙ a.0 ∙ ap (numbered_name count) sum
  named_at n count (x ∷ ss) a (suc i) s e =
      let sum : suc n + i ≡ n + suc i = omega arith in
      named_at (suc n) count ss a.1 i s e ∙ ap (numbered_name count) sum

  last_name : (count n : ℕ) → n + 1 ≡ count → codes "qed" ≡ numbered_name count n
  last_name count n e = sym (ap (λ (b : Bool). cond b (codes "qed") (decimal (suc n))) (eq-eqb (suc n) count (omega (arith, e))))

  inner_name : (count n : ℕ) → suc n < count → number_name n ≡ numbered_name count n
  inner_name count n l = sym (ap (λ (b : Bool). cond b (codes "qed") (decimal (suc n)))
      (false_from_ne_true (suc n == count) (λ e. let same : suc n ≡ count = eqb-true (suc n) count e in omega (arith, same, l))))

  pub some_rest : (steps : List Formula) (ps : List Push) → 0 < length (the_rest steps ps)
  some_rest steps [] = omega arith
  some_rest steps (p ∷ ps) = by (gives p) (list_any (same_formula p.formula) steps) (some_rest steps ps)
    where
      by : (a b : Bool) → 0 < length (the_rest steps ps)
          → 0 < length (with_push a b p steps ps)
      by true b l = omega arith
      by false true l = l
      by false false l = omega arith

  length_push : (xs : List Formula) (x : Formula) → length (xs ++ x ∷ []) ≡ suc (length xs)
  length_push [] x = refl
  length_push (y ∷ xs) x = ap suc (length_push xs x)

  pub pushes_named : (ps : List Push) (steps : List Formula) (count : ℕ) → length steps + length (the_rest steps ps) ≡ count → AreNamed (length steps) count (the_rest steps ps)
  pushes_named [] steps count e = (last_name count (length steps) e, tt)
  pushes_named (p ∷ ps) steps count e =
      by (gives p) (list_any (same_formula p.formula) steps) (pushes_named ps steps count) (pushes_named ps (steps ++ p.formula ∷ []) count) e
    where
      by : (a b : Bool) → (length steps + length (the_rest steps ps) ≡ count → AreNamed (length steps) count (the_rest steps ps))
          → (length (steps ++ p.formula ∷ []) + length (the_rest (steps ++ p.formula ∷ []) ps) ≡ count → AreNamed (length (steps ++ p.formula ∷ [])) count (the_rest (steps ++ p.formula ∷ []) ps))
          → length steps + length (with_push a b p steps ps) ≡ count
          → AreNamed (length steps) count (with_push a b p steps ps)
      by true b f g i = (last_name count (length steps) i, tt)
      by false true f g i = f i
      by false false f g i =
          let l = length_push steps p.formula in
          let some = some_rest (steps ++ p.formula ∷ []) ps in (
            inner_name count (length steps) (omega (arith, i, some)),
            subst (λ n. AreNamed n count (the_rest (steps ++ p.formula ∷ []) ps)) l (g (omega (arith, l, i))),
          )

  pub hyps_named : (n : ℕ) (hs : List Hyp) (tail : List SheetStep) (count : ℕ) → 0 < length tail → n + length (hyp_steps db n hs ++ tail) ≡ count → AreNamed (n + length hs) count tail
      → AreNamed n count (hyp_steps db n hs ++ tail)
  hyps_named n [] tail count l e a = let sum : n + 0 ≡ n = omega arith in subst (λ m. AreNamed m count tail) sum a
  hyps_named n (h ∷ hs) tail count l e a =
      let more = some_more (suc n) hs tail l in
      let sum : n + suc (length hs) ≡ suc n + length hs = omega arith in
      (inner_name count n (omega (arith, e, more)), hyps_named (suc n) hs tail count l (omega (arith, e)) (subst (λ m. AreNamed m count tail) sum a))
    where
      some_more : (m : ℕ) (ks : List Hyp) (xs : List SheetStep) → 0 < length xs → 0 < length (hyp_steps db m ks ++ xs)
      some_more m [] xs k = k
      some_more m (k ∷ ks) xs i = omega arith

  -- ---- the last step

  pub record IsQed (s : SheetStep) : Type 0 where
    pub no_hyp : s.hyp ≡ false
    pub formula : s.formula ≡ names_of db thm.formula

  pub record HasQed (ss : List SheetStep) : Type 0 where
    pub qed : SheetStep
    pub stands : (o : Option SheetStep) → last_or o ss ≡ Some qed
    pub is_qed : IsQed qed

  pub last_push : (ps : List Push) (steps : List Formula) → HasQed (the_rest steps ps)
  last_push [] steps = record { qed = step_with db false (codes "qed") [] None thm.formula; stands = λ o. refl; is_qed = record { no_hyp = refl; formula = refl } }
  last_push (p ∷ ps) steps = by (gives p) (list_any (same_formula p.formula) steps) refl (last_push ps steps) (last_push ps (steps ++ p.formula ∷ []))
    where
      by : (a b : Bool) → gives p ≡ a → HasQed (the_rest steps ps) → HasQed (the_rest (steps ++ p.formula ∷ []) ps)
          → HasQed (with_push a b p steps ps)
      by true b i f g = record {
        qed = push_step db steps (codes "qed") p;
        stands = λ o. refl;
        is_qed = record { no_hyp = refl; formula = ap (names_of db) (formulas_are p.formula thm.formula i) };
      }
      by false true i f g = f
      by false false i f g = record { qed = g.qed; stands = λ o. g.stands (Some (push_step db steps (number_name (length steps)) p)); is_qed = g.is_qed }

  pub last_of_all : (n : ℕ) (hs : List Hyp) (tail : List SheetStep) → HasQed tail → HasQed (hyp_steps db n hs ++ tail)
  last_of_all n [] tail q = q
  last_of_all n (h ∷ hs) tail q =
      let r = last_of_all (suc n) hs tail q in
      record { qed = r.qed; stands = λ o. r.stands (Some (step_with db true (number_name n) [] (Some h.name) h.formula)); is_qed = r.is_qed }

  -- ---- the hypotheses among the steps

  no_hyps : (ps : List Push) (steps : List Formula) → filter (λ (s : SheetStep). s.hyp) (the_rest steps ps) ≡ []
  no_hyps [] steps = refl
  no_hyps (p ∷ ps) steps = by (gives p) (list_any (same_formula p.formula) steps) (no_hyps ps steps) (no_hyps ps (steps ++ p.formula ∷ []))
    where
      by : (a b : Bool) → filter (λ (s : SheetStep). s.hyp) (the_rest steps ps) ≡ [] → filter (λ (s : SheetStep). s.hyp) (the_rest (steps ++ p.formula ∷ []) ps) ≡ []
          → filter (λ (s : SheetStep). s.hyp) (with_push a b p steps ps) ≡ []
      by true b f g = refl
      by false true f g = f
      by false false f g = g

  pub hyps_are : (n : ℕ) (hs : List Hyp) (ps : List Push) (steps : List Formula) → AllZip (IsHypStep db) hs (filter (λ (s : SheetStep). s.hyp) (hyp_steps db n hs ++ the_rest steps ps))
  hyps_are n [] ps steps = subst (AllZip (IsHypStep db) []) (sym (no_hyps ps steps)) tt
  hyps_are n (h ∷ hs) ps steps = (record { reference = refl; places = refl; formula = refl }, hyps_are (suc n) hs ps steps)

  -- ---- active formulas

  module _ (p : Sym) (provable : symbol_of db db.provable ≡ Some p) where
    -- the step has a formula of active symbols
    pub record IsActiveStep (s : SheetStep) : Type 0 where
      pub said : Formula
      pub tokens : s.formula ≡ names_of db said
      pub active : IsActiveFormula db book thm.at p said

    push_active : (seen : List Formula) (q : Push) → IsPush db thm seen q → IsActiveFormula db book thm.at p q.formula
    push_active seen q is =
        let both : Some is.provable ≡ Some p = sym is.provable_is ∙ provable in
        let same : is.provable ≡ p = cc in
        good_is_active db book thm.at p q.formula (valued_by is.by is.by.assertion.tree) is.good.good (is.formula ∙ ap (λ (x : Sym). x ∷ tree_symbols db (valued_by is.by is.by.assertion.tree)) same)

    pub pushes_active : (ps : List Push) (seen steps : List Formula) → AreFine db thm seen ps → list_any gives ps ≡ true → AllByRecursion IsActiveStep (the_rest steps ps)
    pushes_active [] seen steps fine some = absurd cc
    pushes_active (q ∷ ps) seen steps fine some =
        by (gives q) (list_any (same_formula q.formula) steps) (pushes_active ps (q.formula ∷ seen) steps fine.1) (pushes_active ps (q.formula ∷ seen) (steps ++ q.formula ∷ []) fine.1) some
      where
        by : (a b : Bool) → (list_any gives ps ≡ true → AllByRecursion IsActiveStep (the_rest steps ps))
            → (list_any gives ps ≡ true → AllByRecursion IsActiveStep (the_rest (steps ++ q.formula ∷ []) ps))
            → (a || list_any gives ps) ≡ true
            → AllByRecursion IsActiveStep (with_push a b q steps ps)
        by true b f g o = (record { said = q.formula; tokens = refl; active = push_active seen q fine.0 }, tt)
        by false true f g o = f o
        by false false f g o = (record { said = q.formula; tokens = refl; active = push_active seen q fine.0 }, g o)

    pub hyps_active : (n : ℕ) (hs : List Hyp) (tail : List SheetStep) → AllByRecursion (λ (h : Hyp). (is_provable db h.formula ≡ true) × IsKnownAt db thm.at h.formula) hs
        → AllByRecursion IsActiveStep tail
        → AllByRecursion IsActiveStep (hyp_steps db n hs ++ tail)
    hyps_active n [] tail a t = t
    hyps_active n (h ∷ hs) tail a t = (record { said = h.formula; tokens = refl; active = known_is_active db book thm.at p provable h.formula a.0.0 a.0.1 }, hyps_active (suc n) hs tail a.1 t)
