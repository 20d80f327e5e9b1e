-- Each step of a worksheet whose missing places are filled is sound.
use Rattle.std.specs.Prelude.{◌≡◌, ◌<◌, ◌≤◌, ◌⊎◌, ◌||◌, ◌+◌, ℕ, zero, suc, Bool, true, false, List, [], ◌∷◌, ◌++◌, length, map, drop, filter, zip}
use Rattle.std.specs.Prelude.{slice_get, slice_index_or, Contains, Some, None, codes, refl}
use Rattle.std.specs.List.{AllZip, AllByRecursion, position_or_len}
use Rattle.std.proofs.Common.{sym, ap, subst, ◌∙◌, cond, arith, inl, inr}
use Rattle.std.proofs.lemmas.Bool.{cases_lt, or_parts, or_from}
use Rattle.std.proofs.lemmas.List.{append-nil, length-append, length-map, map-append}
use Rattle.std.proofs.lemmas.List.Elements.{filter-append}
use Rattle.std.proofs.lemmas.List.Folds.{list_any-append}
use Rattle.std.proofs.lemmas.Option.{slice_get_within}
use Rattle.mm_base.specs.declared.symbols.Sym.{Sym}
use Rattle.mm_base.specs.declared.symbols.Label.{Label}
use Rattle.mm_base.specs.declared.symbols.Typecode.{Typecode}
use Rattle.mm_base.specs.declared.tree.Tree.{Tree}
use Rattle.mm_base.specs.Trees.{code_of}
use Rattle.std.specs.Str.{bytes_eq}
use Rattle.mm_model.specs.Names.{Name, contains}
use Rattle.mm_model.specs.Productions.{TypedVariable}
use Rattle.mm_model.specs.Book.{Database}
use Rattle.mm_model.specs.BookFacts.{VariablesDiffer}
use Rattle.sheet_text.specs.declared.sheet.Given.{Given}
use Rattle.sheet_text.specs.declared.sheet.Given.TheVariants as given
use Rattle.sheet_text.specs.declared.sheet.SheetStep.{SheetStep}
use Rattle.solve_model.specs.declared.bound.Bound.{Bound}
use Rattle.solve_model.specs.declared.bound.BoundStep.{BoundStep}
use Rattle.solve_model.specs.Trees.{same_tree, leaf_tree}
use Rattle.solve_model.specs.Bound.{IsBoundStep}
use Rattle.solve_model.specs.Solutions.{copy, in_frame, Valuation, Asked, PlacesFit, formula, instance}
use Rattle.solve_model.specs.Verdicts.{Judgement, accepted_in, AreJudged}
use Rattle.solve_model.specs.MostGeneral.{IsTheValuation}
use Rattle.written_model.specs.declared.filled.Filled.{Filled}
use Rattle.written_model.specs.WrittenSteps.{Use, WrittenStep, trees, value_of, no_tree}
use Rattle.written_model.specs.Filled.{fill, derived_names, made_step, written_place, use_of}
use Rattle.written_model.specs.Found.{valued}
use Rattle.push_laws.proofs.Facts.{IsBook}
use Rattle.push_laws.proofs.Lists.{first, later, all_of, all_in, get_contains, contains_get, index_get, map_get, zip_get}
use Rattle.push_laws.proofs.Filling.{get_left, get_mid, get_two, wanted_stands, wanted_at, new_all, derived_length, derived_quiet, made_trees, IsMade, made_all}
use Rattle.push_laws.proofs.Replaced.{replace_alike}
use Rattle.push_laws.proofs.Solved.{IsSoundTree, IsAssertionTree, formula_sound}
use Rattle.push_laws.proofs.StepProofs.{IsBefore, PlaceIs, PlacesAre, HasUse}
use Rattle.push_laws.proofs.Values.{all_beside}

module _ (db : Database) (book : IsBook db) (bound : Bound) (judgements : List Judgement) (judged : AreJudged db bound judgements) (g : Valuation)
    (the : IsTheValuation db bound (accepted_in judgements) g) (steps : List SheetStep) (bounds : AllZip (IsBoundStep db bound.place) steps bound.steps)
    (spelled : (i : ℕ) (s : SheetStep) → slice_get steps i ≡ Some s → AllByRecursion (IsBefore i) s.places) where
  abbrev pub IsSound : Tree → Type 0
  IsSound t = IsSoundTree db book bound judgements judged g the steps bounds t

  pub record IsFilledStep (es : List WrittenStep) (j : ℕ) (e : WrittenStep) : Type 0 where
    pub earlier : AllByRecursion (IsBefore j) e.places
    pub sound : IsSound e.tree
    pub no_use : e.hyp ≡ true → e.by ≡ None
    pub fits : (u : Use) → e.by ≡ Some u → HasUse es db bound.place e u

  -- a hypothesis is that of a step that was read
  pub record IsHypOf (e : WrittenStep) (s : SheetStep) : Type 0 where
    pub name : e.name ≡ s.name
    pub reference : e.reference ≡ s.reference
    pub place : ℕ
    pub stands : slice_get steps place ≡ Some s
    pub tree : e.tree ≡ formula bound g place

  -- the last step is the last that was read, and where no earlier one that was read is named `qed`, no earlier one is
  pub data HasShape : List WrittenStep → List SheetStep → Type 0 where
    empty : HasShape [] []
    ends : (pre : List WrittenStep) (e : WrittenStep) (before : List SheetStep) (s : SheetStep) → e.name ≡ s.name
        → (contains (map (λ (t : SheetStep). t.name) before) (codes "qed") ≡ false → contains (map (λ (x : WrittenStep). x.name) pre) (codes "qed") ≡ false)
        → HasShape (pre ++ e ∷ []) (before ++ s ∷ [])

  pub record IsFilling (es : List WrittenStep) (numbers : List ℕ) (front : List SheetStep) : Type 0 where
    pub each : (j : ℕ) (e : WrittenStep) → slice_get es j ≡ Some e → IsFilledStep es j e
    pub own : (k : ℕ) → k < length numbers → (j : ℕ) × (slice_get numbers k ≡ Some j) × (slice_get (trees es) j ≡ Some (formula bound g k))
    pub count : length numbers ≡ length front
    pub hyps : AllZip IsHypOf (filter (λ (e : WrittenStep). e.hyp) es) (filter (λ (s : SheetStep). s.hyp) front)
    pub shape : HasShape es front

  -- ---- more steps behind

  more_place : (es more : List WrittenStep) (t : Tree) (p : Given) → PlaceIs es t p → PlaceIs (es ++ more) t p
  more_place es more t given.Gap h = tt
  more_place es more t (given.Step k) h = ap (λ ts. slice_get ts k) (map-append (λ (e : WrittenStep). e.tree) es more) ∙ get_left (trees es) (trees more) k t h

  more_places : (es more : List WrittenStep) (ts : List Tree) (gs : List Given) → PlacesAre es ts gs → PlacesAre (es ++ more) ts gs
  more_places es more ts [] h = tt
  more_places es more [] (p ∷ gs) h = absurd h
  more_places es more (t ∷ ts) (p ∷ gs) h = (more_place es more t p h.0, more_places es more ts gs h.1)

  more_steps : (es more : List WrittenStep) (j : ℕ) (e : WrittenStep) → IsFilledStep es j e → IsFilledStep (es ++ more) j e
  more_steps es more j e h = record {
    earlier = h.earlier;
    sound = h.sound;
    no_use = h.no_use;
    fits = λ u by'. let x = h.fits u by' in record {
      label = x.label;
      named = x.named;
      usable = x.usable;
      earlier = x.earlier;
      codes = x.codes;
      conclusion = x.conclusion;
      places = more_places es more (map (valued u) u.assertion.hyps) e.places x.places;
    };
  }

  -- ---- the values of a use

  module _ (x : Asked) (h : Contains (accepted_in judgements) x) (l : Label) (usable : db.usable l ≡ Some x.assertion) where
    vars_differ : VariablesDiffer x.assertion.vars
    vars_differ = let u = book.facts.usable l x.assertion usable in subst VariablesDiffer (sym u.vars) (book.facts.frames l x.assertion.frame u.frame).variables

    abbrev value_at : TypedVariable → Tree
    value_at v = g (copy x.step v.sym v.code)

    value_is : (s : Sym) (c : Typecode) → ((v : TypedVariable) × Contains x.assertion.vars v × (v.sym ≡ s) × (v.code ≡ c)) → value_of (use_of g x) s ≡ g (copy x.step s c)
    value_is s c (v, m, e, d) =
        let at = contains_get x.assertion.vars v m in
        let all = all_beside (λ t. t) no_tree x.assertion.vars (map value_at x.assertion.vars) vars_differ (sym (length-map x.assertion.vars value_at)) in
        let t = zip_get (λ (w : TypedVariable) t. value_of (use_of g x) w.sym ≡ t) x.assertion.vars (map value_at x.assertion.vars) at.0 v all at.1 in
        let both : Some t.0 ≡ Some (value_at v) = sym t.1 ∙ map_get value_at x.assertion.vars at.0 v at.1 in
        let same : t.0 ≡ value_at v = cc in
        ap (value_of (use_of g x)) (sym e) ∙ t.2 ∙ same ∙ ap (λ y. g (copy x.step y v.code)) e ∙ ap (λ y. g (copy x.step s y)) d

    pub valued_is : (t : Tree) → IsAssertionTree db book l x.assertion usable t → valued (use_of g x) t ≡ instance g x.step t
    valued_is t is =
        replace_alike db book x.assertion.frame.at (λ s c. value_of (use_of g x) s) (λ s c. g (copy x.step s c)) leaf_tree leaf_tree t is.typed
        (λ s c k. value_is s c (is.vars s c k)) (λ y o. refl)

    pub valued_all : (ts : List Tree) → AllByRecursion (IsAssertionTree db book l x.assertion usable) ts → map (valued (use_of g x)) ts ≡ map (instance g x.step) ts
    valued_all [] a = refl
    valued_all (t ∷ ts) a = let one = valued_is t a.0 in let rest = valued_all ts a.1 in cc

    codes_by : (vs : List TypedVariable) → ((v : TypedVariable) → Contains vs v → Contains x.assertion.vars v) → map code_of (map value_at vs) ≡ map (λ (v : TypedVariable). v.code) vs
    codes_by [] f = refl
    codes_by (v ∷ vs) f =
        let one : code_of (value_at v) ≡ v.code = the.most_general.is_valuation.code (copy x.step v.sym v.code) (in_frame x v h (f v (first v v vs refl))) in
        let rest = codes_by vs (λ w c. f w (later w v vs c)) in
        cc

    pub codes_are : map code_of (use_of g x).values ≡ map (λ (v : TypedVariable). v.code) x.assertion.vars
    codes_are = codes_by x.assertion.vars (λ v c. c)

  -- ---- places

  module _ (es : List WrittenStep) (numbers : List ℕ) (front : List SheetStep) (filling : IsFilling es numbers front) where
    place_front : (more : List WrittenStep) (inst : Tree → Tree) (i : ℕ) (t : Tree) (k : ℕ) → k < length numbers → inst t ≡ formula bound g k
        → PlaceIs (es ++ more) (inst t) (written_place numbers (given.Step k))
    place_front more inst i t k l e =
        let j = filling.own k l in
        let at : slice_index_or numbers k 0 ≡ j.0 = index_get numbers k 0 j.0 j.1 in
        subst (λ (m : ℕ). slice_get (trees (es ++ more)) m ≡ Some (inst t)) (sym at)
        (more_place es more (inst t) (given.Step j.0) (j.2 ∙ ap (λ z. Some z) (sym e)))

    pub places_front : (more : List WrittenStep) (i : ℕ) (hs : List Tree) (gs behind : List Given) → PlacesFit bound g i gs hs → ((k : ℕ) → Contains gs (given.Step k) → k < length numbers)
        → PlacesAre (es ++ more) (map (instance g i) (drop (length gs) hs)) behind → PlacesAre (es ++ more) (map (instance g i) hs) (map (written_place numbers) gs ++ behind)
    places_front more i hs [] behind f l h = h
    places_front more i [] (p ∷ gs) behind f l h = absurd f
    places_front more i (t ∷ hs) (given.Gap ∷ gs) behind f l h = (tt, places_front more i hs gs behind f (λ k c. l k (later (given.Step k) given.Gap gs c)) h)
    places_front more i (t ∷ hs) (given.Step k ∷ gs) behind f l h = (
      place_front more (instance g i) i t k (l k (first (given.Step k) (given.Step k) gs refl)) f.0,
      places_front more i hs gs behind f.1 (λ j c. l j (later (given.Step j) (given.Step k) gs c)) h,
    )

    pub places_before : (j : ℕ) (gs : List Given) → length es ≤ j → ((k : ℕ) → Contains gs (given.Step k) → k < length numbers) → AllByRecursion (IsBefore j) (map (written_place numbers) gs)
    places_before j [] less l = tt
    places_before j (given.Gap ∷ gs) less l = (tt, places_before j gs less (λ k c. l k (later (given.Step k) given.Gap gs c)))
    places_before j (given.Step k ∷ gs) less l =
        let own = filling.own k (l k (first (given.Step k) (given.Step k) gs refl)) in
        let at : slice_index_or numbers k 0 ≡ own.0 = index_get numbers k 0 own.0 own.1 in
        let within = slice_get_within (trees es) own.0 (formula bound g k) own.2 in
        let long = length-map es (λ (e : WrittenStep). e.tree) in
        (omega (arith, at, within, long, less), places_before j gs less (λ m c. l m (later (given.Step m) (given.Step k) gs c)))

  -- the places of wanted trees
  pub places_behind : (all : List WrittenStep) (ws : List Tree) (place : Tree → ℕ) → AllByRecursion (λ w. slice_get (trees all) (place w) ≡ Some w) ws
      → PlacesAre all ws (map (λ k. given.Step k) (map place ws))
  places_behind all [] place a = tt
  places_behind all (w ∷ ws) place a = (a.0, places_behind all ws place a.1)

  pub behind_before : (j : ℕ) (ws : List Tree) (place : Tree → ℕ) → AllByRecursion (λ w. place w < j) ws → AllByRecursion (IsBefore j) (map (λ k. given.Step k) (map place ws))
  behind_before j [] place a = tt
  behind_before j (w ∷ ws) place a = (a.0, behind_before j ws place a.1)

  pub append_before : (j : ℕ) (xs ys : List Given) → AllByRecursion (IsBefore j) xs → AllByRecursion (IsBefore j) ys → AllByRecursion (IsBefore j) (xs ++ ys)
  append_before j [] ys a b = b
  append_before j (x ∷ xs) ys a b = (a.0, append_before j xs ys a.1 b)

  -- ---- one more step

  quiet : (es : List WrittenStep) (front : List SheetStep) → HasShape es front → contains (map (λ (t : SheetStep). t.name) front) (codes "qed") ≡ false
      → contains (map (λ (x : WrittenStep). x.name) es) (codes "qed") ≡ false
  quiet [] [] empty h = refl
  quiet es front (ends pre e before s named f) h =
      let split : (contains (map (λ (t : SheetStep). t.name) before) (codes "qed") || contains (s.name ∷ []) (codes "qed")) ≡ false =
      sym (list_any-append (bytes_eq (codes "qed")) (map (λ (t : SheetStep). t.name) before) (s.name ∷ []))
      ∙ sym (ap (λ ns. contains ns (codes "qed")) (map-append (λ (t : SheetStep). t.name) before (s ∷ []))) ∙ h in
      let two = or_parts (contains (map (λ (t : SheetStep). t.name) before) (codes "qed")) (contains (s.name ∷ []) (codes "qed")) split in
      ap (λ ns. contains ns (codes "qed")) (map-append (λ (x : WrittenStep). x.name) pre (e ∷ []))
      ∙ list_any-append (bytes_eq (codes "qed")) (map (λ (x : WrittenStep). x.name) pre) (e.name ∷ [])
      ∙ or_from (contains (map (λ (x : WrittenStep). x.name) pre) (codes "qed")) (contains (e.name ∷ []) (codes "qed")) (f two.0) (ap (λ n. contains (n ∷ []) (codes "qed")) named ∙ two.1)

  quiet_made : (ns : List Name) (ts : List Tree) → contains ns (codes "qed") ≡ false → contains (map (λ (x : WrittenStep). x.name) (map made_step (zip ns ts))) (codes "qed") ≡ false
  quiet_made [] ts h = refl
  quiet_made (n ∷ ns) [] h = refl
  quiet_made (n ∷ ns) (t ∷ ts) h =
      let two = or_parts (bytes_eq (codes "qed") n) (contains ns (codes "qed")) h in
      or_from (bytes_eq (codes "qed") n) (contains (map (λ (x : WrittenStep). x.name) (map made_step (zip ns ts))) (codes "qed")) two.0 (quiet_made ns ts two.1)

  no_made_hyps : (es : List WrittenStep) → AllByRecursion (IsMade IsSound) es → filter (λ (e : WrittenStep). e.hyp) es ≡ []
  no_made_hyps [] a = refl
  no_made_hyps (e ∷ es) a = ap (λ (b : Bool). cond b (e ∷ filter (λ (x : WrittenStep). x.hyp) es) (filter (λ (x : WrittenStep). x.hyp) es)) a.0.no_hyp ∙ no_made_hyps es a.1

  zip-append : {X Y : Type 0} (R : X → Y → Type 0) (xs zs : List X) (ys ws : List Y) → AllZip R xs ys → AllZip R zs ws → AllZip R (xs ++ zs) (ys ++ ws)
  zip-append R [] zs [] ws a b = b
  zip-append R [] zs (y ∷ ys) ws a b = absurd a
  zip-append R (x ∷ xs) zs [] ws a b = absurd a
  zip-append R (x ∷ xs) zs (y ∷ ys) ws a b = (a.0, zip-append R xs zs ys ws a.1 b)

  one_hyp : (e : WrittenStep) (s : SheetStep) (b : Bool) → e.hyp ≡ b → s.hyp ≡ b → IsHypOf e s
      → AllZip IsHypOf (filter (λ (x : WrittenStep). x.hyp) (e ∷ [])) (filter (λ (x : SheetStep). x.hyp) (s ∷ []))
  one_hyp e s true p q h =
      subst (λ (b : Bool). AllZip IsHypOf (cond b (e ∷ []) []) (filter (λ (x : SheetStep). x.hyp) (s ∷ []))) (sym p)
      (subst (λ (b : Bool). AllZip IsHypOf (e ∷ []) (cond b (s ∷ []) [])) (sym q) (h, tt))
  one_hyp e s false p q h =
      subst (λ (b : Bool). AllZip IsHypOf (cond b (e ∷ []) []) (filter (λ (x : SheetStep). x.hyp) (s ∷ []))) (sym p)
      (subst (λ (b : Bool). AllZip IsHypOf [] (cond b (s ∷ []) [])) (sym q) tt)

  module _ (es : List WrittenStep) (numbers : List ℕ) (front rest : List SheetStep) (s : SheetStep) (filling : IsFilling es numbers front) (whole : steps ≡ front ++ (s ∷ rest)) where
    abbrev pub i : ℕ
    i = length numbers

    pub step_stands : slice_get steps i ≡ Some s
    step_stands = ap (λ ss. slice_get ss i) whole ∙ ap (λ (n : ℕ). slice_get (front ++ (s ∷ rest)) n) filling.count ∙ get_mid front s rest

    pub bound_stands : (b : BoundStep) × (slice_get bound.steps i ≡ Some b) × IsBoundStep db bound.place s b
    bound_stands = zip_get (IsBoundStep db bound.place) steps bound.steps i s bounds step_stands

    pub formula_ok : IsSound (formula bound g i)
    formula_ok = formula_sound db book bound judgements judged g the steps bounds i bound_stands.0 bound_stands.1

    pub place_known : (k : ℕ) → Contains s.places (given.Step k) → k < i
    place_known k c = all_of (IsBefore i) s.places (given.Step k) (spelled i s step_stands) c

    module _ (wanted : List Tree) (wanted_ok : AllByRecursion IsSound wanted) (used : List Name) where
      abbrev pub filled : Filled
      filled = fill (trees es) wanted

      abbrev pub made : List WrittenStep
      made = map made_step (zip (derived_names (length filled.made) used) filled.made)

      made_ok : AllByRecursion (IsMade IsSound) made
      made_ok = made_all IsSound (derived_names (length filled.made) used) filled.made (new_all IsSound wanted (trees es) wanted_ok)

      trees_made : trees (es ++ made) ≡ trees es ++ filled.made
      trees_made =
          map-append (λ (e : WrittenStep). e.tree) es made
          ∙ ap (λ ts. trees es ++ ts) (made_trees (derived_names (length filled.made) used) filled.made (derived_length (length filled.made) used))

      pub wanted_found : AllByRecursion (λ w. slice_get (trees (es ++ made)) (position_or_len (same_tree w) (trees es ++ filled.made)) ≡ Some w) wanted
      wanted_found = all_in (λ w. slice_get (trees (es ++ made)) (position_or_len (same_tree w) (trees es ++ filled.made)) ≡ Some w) wanted (λ w c.
          ap (λ ts. slice_get ts (position_or_len (same_tree w) (trees es ++ filled.made))) trees_made
          ∙ wanted_at (trees es ++ filled.made) w (wanted_stands wanted (trees es) w c))

      pub count_made : length (es ++ made) ≡ length es + length filled.made
      count_made =
          sym (length-map (es ++ made) (λ (e : WrittenStep). e.tree)) ∙ ap (λ ts. length ts) trees_made ∙ length-append (trees es) filled.made
          ∙ ap (λ (n : ℕ). n + length filled.made) (length-map es (λ (e : WrittenStep). e.tree))

      pub wanted_before : AllByRecursion (λ w. position_or_len (same_tree w) (trees es ++ filled.made) < length (es ++ made)) wanted
      wanted_before = all_in (λ w. position_or_len (same_tree w) (trees es ++ filled.made) < length (es ++ made)) wanted (λ w c.
          let at = slice_get_within (trees (es ++ made)) (position_or_len (same_tree w) (trees es ++ filled.made)) w
          (all_of (λ v. slice_get (trees (es ++ made)) (position_or_len (same_tree v) (trees es ++ filled.made)) ≡ Some v) wanted w wanted_found c) in
          let long = length-map (es ++ made) (λ (e : WrittenStep). e.tree) in
          omega (arith, at, long))

      made_filled : (j : ℕ) (e : WrittenStep) (all : List WrittenStep) → IsMade IsSound e → IsFilledStep all j e
      made_filled j e all m = record {
        earlier = subst (AllByRecursion (IsBefore j)) (sym m.places) tt;
        sound = m.tree;
        no_use = λ h. m.no_use;
        fits = λ u by'. let bad : None ≡ Some u = sym m.no_use ∙ by' in absurd cc;
      }

      -- the steps with one more, where that is filled
      module _ (e : WrittenStep) (e_tree : e.tree ≡ formula bound g i) (e_hyp : e.hyp ≡ s.hyp) (e_name : e.name ≡ s.name) (e_reference : e.reference ≡ s.reference)
          (e_filled : IsFilledStep (es ++ made) (length (es ++ made)) e)
          (used_qed : contains used (codes "qed") ≡ true) where
        abbrev all : List WrittenStep
        all = (es ++ made) ++ e ∷ []

        all_filled : (j : ℕ) (x : WrittenStep) → slice_get all j ≡ Some x → IsFilledStep all j x
        all_filled j x at =
            get_two (IsFilledStep all) (es ++ made) (e ∷ [])
            (λ k y p. get_two (IsFilledStep all) es made (λ m z q. more_steps (es ++ made) (e ∷ []) m z (more_steps es made m z (filling.each m z q)))
            (λ m z q. made_filled (length es + m) z all (all_of (IsMade IsSound) made z made_ok (get_contains made m z q))) k y p)
            last j x at
          where
            last : (k : ℕ) (y : WrittenStep) → slice_get (e ∷ []) k ≡ Some y → IsFilledStep all (length (es ++ made) + k) y
            last zero y p =
                let same : e ≡ y = cc in
                subst (λ z. IsFilledStep all (length (es ++ made) + 0) z) same
                (subst (λ (m : ℕ). IsFilledStep all m e) (let q : length (es ++ made) ≡ length (es ++ made) + 0 = omega arith in q)
                (more_steps (es ++ made) (e ∷ []) (length (es ++ made)) e e_filled))
            last (suc k) y p = absurd cc

        own_tree : slice_get (trees all) (length es + length filled.made) ≡ Some (formula bound g i)
        own_tree =
            ap (λ ts. slice_get ts (length es + length filled.made)) (map-append (λ (x : WrittenStep). x.tree) (es ++ made) (e ∷ []))
            ∙ ap (λ (n : ℕ). slice_get (trees (es ++ made) ++ (e.tree ∷ [])) n) (sym count_made ∙ sym (length-map (es ++ made) (λ (x : WrittenStep). x.tree)))
            ∙ get_mid (trees (es ++ made)) e.tree [] ∙ ap (λ t. Some t) e_tree

        pub one_more : IsFilling all (numbers ++ (length es + length filled.made) ∷ []) (front ++ s ∷ [])
        one_more = record {
          each = all_filled;
          own = λ k l. elim (parts_of k l) [
            | inl less ↦ let j = filling.own k less in (
              j.0,
              get_left numbers ((length es + length filled.made) ∷ []) k j.0 j.1,
              more_place (es ++ made) (e ∷ []) (formula bound g k) (given.Step j.0) (more_place es made (formula bound g k) (given.Step j.0) j.2),
            )
            | inr same ↦ (
              length es + length filled.made,
              ap (slice_get (numbers ++ (length es + length filled.made) ∷ [])) same ∙ get_mid numbers (length es + length filled.made) [],
              own_tree ∙ ap (λ (n : ℕ). Some (formula bound g n)) (sym same),
            )
          ];
          count = length-append numbers ((length es + length filled.made) ∷ []) ∙ ap (λ (n : ℕ). n + 1) filling.count ∙ sym (length-append front (s ∷ []));
          hyps =
              subst (λ xs. AllZip IsHypOf xs (filter (λ (x : SheetStep). x.hyp) (front ++ s ∷ []))) (sym hyps_split)
              (subst (AllZip IsHypOf (filter (λ (x : WrittenStep). x.hyp) es ++ filter (λ (x : WrittenStep). x.hyp) (e ∷ []))) (sym (filter-append (λ (x : SheetStep). x.hyp) front (s ∷ [])))
              (zip-append IsHypOf (filter (λ (x : WrittenStep). x.hyp) es) (filter (λ (x : WrittenStep). x.hyp) (e ∷ []))
              (filter (λ (x : SheetStep). x.hyp) front) (filter (λ (x : SheetStep). x.hyp) (s ∷ []))
              filling.hyps (one_hyp e s s.hyp e_hyp refl (record { name = e_name; reference = e_reference; place = i; stands = step_stands; tree = e_tree }))));
          shape = ends (es ++ made) e front s e_name (λ h.
              ap (λ ns. contains ns (codes "qed")) (map-append (λ (x : WrittenStep). x.name) es made)
              ∙ list_any-append (bytes_eq (codes "qed")) (map (λ (x : WrittenStep). x.name) es) (map (λ (x : WrittenStep). x.name) made)
              ∙ or_from (contains (map (λ (x : WrittenStep). x.name) es) (codes "qed")) (contains (map (λ (x : WrittenStep). x.name) made) (codes "qed")) (quiet es front filling.shape h)
              (quiet_made (derived_names (length filled.made) used) filled.made (derived_quiet (length filled.made) used used_qed)));
        }
          where
            parts_of : (k : ℕ) → k < length (numbers ++ (length es + length filled.made) ∷ []) → (k < length numbers) ⊎ (k ≡ length numbers)
            parts_of k l = elim (cases_lt k (length numbers)) [
              | inl a ↦ inl a
              | inr b ↦ inr (let n = length-append numbers ((length es + length filled.made) ∷ []) in omega (arith, l, n, b))
            ]

            hyps_split : filter (λ (x : WrittenStep). x.hyp) all ≡ filter (λ (x : WrittenStep). x.hyp) es ++ filter (λ (x : WrittenStep). x.hyp) (e ∷ [])
            hyps_split =
                filter-append (λ (x : WrittenStep). x.hyp) (es ++ made) (e ∷ [])
                ∙ ap (λ xs. xs ++ filter (λ (x : WrittenStep). x.hyp) (e ∷ [])) (filter-append (λ (x : WrittenStep). x.hyp) es made
                ∙ ap (λ xs. filter (λ (x : WrittenStep). x.hyp) es ++ xs) (no_made_hyps made made_ok) ∙ append-nil (filter (λ (x : WrittenStep). x.hyp) es))
