-- The search for references is a function of the trees and the words of the steps.
use Rattle.std.specs.Prelude.{◌≡◌, ◌==◌, ◌&&◌, not, ℕ, suc, Bool, true, false, List, [], ◌∷◌, length, map, find, zip, slice_get, is_none, Contains, Option, Some, None, option_map, refl}
use Rattle.std.specs.List.{AllByRecursion, AllZip, list_all}
use Rattle.std.specs.Option.{option_map_or}
use Rattle.std.proofs.Common.{sym, ap, subst, ◌∙◌, arith, inl, inr}
use Rattle.std.proofs.lemmas.Bool.{cases_Bool, eqb-true, eq-eqb}
use Rattle.std.proofs.lemmas.List.{length-map}
use mathlib.Core.Path.{fun_ext}
use Rattle.mm_base.specs.declared.symbols.Sym.{Sym}
use Rattle.mm_base.specs.declared.symbols.Pair.{Pair}
use Rattle.mm_base.specs.declared.tree.Tree.{Tree}
use Rattle.mm_base.specs.Trees.{code_of}
use Rattle.mm_model.specs.Productions.{TypedVariable}
use Rattle.mm_model.specs.BookFacts.{VariablesDiffer}
use Rattle.mm_model.specs.Book.{Database, Assertion, label_name}
use Rattle.sheet_text.specs.declared.sheet.Given.{Given}
use Rattle.sheet_text.specs.declared.sheet.Given.TheVariants as given
use Rattle.solve_model.specs.Trees.{leaf_tree}
use Rattle.solve_model.specs.Firsts.{IsFirstOrNone}
use Rattle.solve_laws.proofs.OneJudgement.{first_or_none_is_one}
use Rattle.written_model.specs.declared.options.DvMode.{DvMode}
use Rattle.written_model.specs.declared.options.Options.{Options}
use Rattle.written_model.specs.declared.report.ReportVerdict.TheVariants as report
use Rattle.written_model.specs.WrittenSteps.{Use, WrittenStep, WrittenItem, comment, step, steps_in, over_step, trees, place_tree, no_tree, value_of}
use Rattle.written_model.specs.Found.{is_ground, is_to_be_searched, Choice, choices, valued, FitsUse, Fits, IsFound, IsSearched}
use Rattle.written_model.specs.Written.{Writing, ItemIsSearched, after_naming}
use Rattle.answer_laws.specs.Bare.{bare}
use Rattle.answer_laws.proofs.Elements.{first, later, contained_has}
use Rattle.answer_laws.proofs.Marks.{variable}
use Rattle.answer_laws.proofs.Covered.{variable_mark}
use Rattle.answer_laws.proofs.Moved.{move_use}
use Rattle.answer_laws.proofs.Placed.{told_on}
use Rattle.answer_laws.proofs.Plain.{IsTreeIn, ArePlain}

-- the step without the numbers of the fresh leaves of its values
abbrev pub bare_step : WrittenStep → WrittenStep
bare_step e = record e { by = option_map (move_use bare) e.by }

abbrev pub bare_items : List WrittenItem → List WrittenItem
bare_items is = map (over_step bare_step) is

-- ---- the values of a use by its variables

abbrev looked_up : List TypedVariable → List Tree → Sym → Tree
looked_up vars ts s = option_map_or (λ p. p.1) (find (λ (p : TypedVariable × Tree). p.0.sym.0 == s.0) (zip vars ts)) no_tree

sym_with : ℕ → Sym
sym_with n = record { 0 = n }

pub same_sym : (s t : Sym) → (s.0 == t.0) ≡ true → s ≡ t
unfolding sym_with
same_sym s t e = ap sym_with (eqb-true s.0 t.0 e)

first_found : (v : TypedVariable) (vs : List TypedVariable) (t : Tree) (ts : List Tree) → looked_up (v ∷ vs) (t ∷ ts) v.sym ≡ t
first_found v vs t ts = rw (eq-eqb v.sym.0 v.sym.0 refl) refl

later_found : (v : TypedVariable) (vs : List TypedVariable) (t : Tree) (ts : List Tree) (s : Sym) → (v.sym ≡ s → ⊥) → looked_up (v ∷ vs) (t ∷ ts) s ≡ looked_up vs ts s
later_found v vs t ts s d = elim (cases_Bool (v.sym.0 == s.0)) [ inl e ↦ absurd (d (same_sym v.sym s e)) | inr e ↦ rw e refl ]

others_found : (v : TypedVariable) (vs : List TypedVariable) (t : Tree) (ts : List Tree) (ws : List TypedVariable) → AllByRecursion (λ (w : TypedVariable). v.sym ≡ w.sym → ⊥) ws
    → map (λ (w : TypedVariable). looked_up (v ∷ vs) (t ∷ ts) w.sym) ws ≡ map (λ (w : TypedVariable). looked_up vs ts w.sym) ws
others_found v vs t ts [] d = refl
others_found v vs t ts (w ∷ ws) d =
    ap (λ u. u ∷ map (λ (x : TypedVariable). looked_up (v ∷ vs) (t ∷ ts) x.sym) ws) (later_found v vs t ts w.sym d.0)
    ∙ ap (λ us. looked_up vs ts w.sym ∷ us) (others_found v vs t ts ws d.1)

all_at : {X : Type 0} (P : X → Type 0) (xs : List X) → ((k : ℕ) (x : X) → slice_get xs k ≡ Some x → P x) → AllByRecursion P xs
all_at P [] h = tt
all_at P (x ∷ xs) h = (h 0 x refl, all_at P xs (λ k y e. h (suc k) y e))

first_differs : (v : TypedVariable) (vs : List TypedVariable) → VariablesDiffer (v ∷ vs) → AllByRecursion (λ (w : TypedVariable). v.sym ≡ w.sym → ⊥) vs
first_differs v vs d = all_at _ vs (λ k w e same. let none : 0 ≡ suc k = d 0 (suc k) v w refl e same in omega (arith, none))

rest_differ : (v : TypedVariable) (vs : List TypedVariable) → VariablesDiffer (v ∷ vs) → VariablesDiffer vs
rest_differ v vs d i j x y e f same = let next : suc i ≡ suc j = d (suc i) (suc j) x y e f same in omega (arith, next)

-- the values of variables that differ are those that are looked up
pub values_are : (vars : List TypedVariable) (ts : List Tree) → length ts ≡ length vars → VariablesDiffer vars → ts ≡ map (λ (v : TypedVariable). looked_up vars ts v.sym) vars
values_are [] [] l d = refl
values_are [] (t ∷ ts) l d = absurd (omega (arith, l))
values_are (v ∷ vs) [] l d = absurd (omega (arith, l))
values_are (v ∷ vs) (t ∷ ts) l d =
    ap (λ us. t ∷ us) (values_are vs ts (omega (arith, l)) (rest_differ v vs d) ∙ sym (others_found v vs t ts vs (first_differs v vs d)))
    ∙ ap (λ u. u ∷ map (λ (w : TypedVariable). looked_up (v ∷ vs) (t ∷ ts) w.sym) vs) (sym (first_found v vs t ts))

maps_same : {X Y : Type 0} (f g : X → Y) (xs : List X) → ((x : X) → Contains xs x → f x ≡ g x) → map f xs ≡ map g xs
maps_same f g [] h = refl
maps_same f g (x ∷ xs) h = ap (λ y. y ∷ map f xs) (h x (first x x xs refl)) ∙ ap (λ ys. g x ∷ ys) (maps_same f g xs (λ y o. h y (later y x xs o)))

-- ---- the first that has a property

pub first_with : {X : Type 0} (P R : X → Type 0) → ((x : X) → P x → R x) → ((x : X) → R x → P x) → (xs : List X) (o : Option X) → IsFirstOrNone P xs o → IsFirstOrNone R xs o
first_with P R f g [] o h = h
first_with P R f g (x ∷ xs) o (inl h) = inl (h.0, f x h.1)
first_with P R f g (x ∷ xs) o (inr h) = inr ((λ r. h.0 (g x r)), first_with P R f g xs o h.1)

-- ---- one search

module _ (db : Database) (place : ℕ) (mode : DvMode) (allowed : List Pair) (plain : ArePlain db) where
  module _ (es : List WrittenStep) (e : WrittenStep) (c : Choice) where
    abbrev HypsFit : Use → List Tree → List Given → Type 0
    HypsFit u hs gs = AllZip (λ (h : Tree) (g : Given). place_tree es g ≡ Some (valued u h)) hs gs

    hyps_same : (u v : Use) (hs : List Tree) (gs : List Given) → HypsFit u hs gs → HypsFit v hs gs → AllByRecursion (λ h. valued u h ≡ valued v h) hs
    hyps_same u v [] gs k m = tt
    hyps_same u v (h ∷ hs) [] k m = absurd k
    hyps_same u v (h ∷ hs) (g ∷ gs) k m = (one (sym k.0 ∙ m.0), hyps_same u v hs gs k.1 m.1)
      where
        one : {t r : Tree} → Some t ≡ Some r → t ≡ r
        one x = cc

    module _ (a : Assertion) (ts us : List Tree) where
      abbrev first_use : Use
      first_use = record { assertion = a; values = ts }

      abbrev second_use : Use
      second_use = record { assertion = a; values = us }

      values_same : FitsUse db place mode allowed es e c first_use → FitsUse db place mode allowed es e c second_use → ts ≡ us
      values_same k m =
          let its = plain c.label a k.is_usable in
          let counted =
          λ (xs : List Tree) (q : map code_of xs ≡ map (λ (v : TypedVariable). v.code) a.vars). sym (length-map xs code_of) ∙ ap length q
          ∙ length-map a.vars (λ (v : TypedVariable). v.code) in
          let hyps = hyps_same first_use second_use a.hyps c.places k.hyps m.hyps in
          let trees_same = λ (t : Tree) (o : IsTreeIn a t). contained_has (λ h. valued first_use h ≡ valued second_use h) (a.tree ∷ a.hyps) t (k.conclusion ∙ sym m.conclusion, hyps) o in
          let found = λ (v : TypedVariable) (o : Contains a.vars v).
          let s = its.stand v o in
          let mark = variable_mark s.0 v.sym s.2 in
          told_on (λ x d. value_of first_use x) (λ x d. value_of second_use x) leaf_tree leaf_tree s.0 (trees_same s.0 s.1) (variable v.sym mark.0) mark.1 in
          values_are a.vars ts (counted ts k.codes) its.differ
          ∙ maps_same (λ (v : TypedVariable). value_of first_use v.sym) (λ (v : TypedVariable). value_of second_use v.sym) a.vars found
          ∙ sym (values_are a.vars us (counted us m.codes) its.differ)

    assertion_same : (a b : Assertion) → Some a ≡ Some b → a ≡ b
    assertion_same a b x = cc

    -- an assertion fits in one way
    pub use_is_one : (u v : Use) → FitsUse db place mode allowed es e c u → FitsUse db place mode allowed es e c v → u ≡ v
    use_is_one u v k m =
        let same = assertion_same u.assertion v.assertion (sym k.is_usable ∙ m.is_usable) in
        let moved = subst (λ (a : Assertion). FitsUse db place mode allowed es e c (record { assertion = a; values = v.values })) (sym same) m in
        ap (λ ts. let w : Use = record { assertion = u.assertion; values = ts } in w) (values_same u.assertion u.values v.values k moved)
        ∙ ap (λ a. let w : Use = record { assertion = a; values = v.values } in w) same

  -- ---- steps that say the same

  module _ (es fs : List WrittenStep) (same : trees es ≡ trees fs) where
    place_same : (g : Given) → place_tree es g ≡ place_tree fs g
    place_same given.Gap = refl
    place_same (given.Step k) = ap (λ ts. slice_get ts k) same

    places_same : place_tree es ≡ place_tree fs
    places_same = fun_ext place_same

    abbrev tested : (Given → Option Tree) → WrittenStep → Bool
    tested p e = not e.hyp && is_none e.reference && is_ground e.tree && list_all (λ g. option_map_or is_ground (p g) false) e.places

    module _ (e f : WrittenStep) (alike : bare_step e ≡ bare_step f) where
      test_same : is_to_be_searched es e ≡ is_to_be_searched fs f
      test_same = ap (λ p. tested p e) places_same ∙ ap (λ x. tested (place_tree fs) x) alike

      choices_same : choices db e ≡ choices db f
      choices_same = ap (λ x. choices db x) alike

      fits_moved : (c : Choice) (u : Use) → FitsUse db place mode allowed es e c u → FitsUse db place mode allowed fs f c u
      fits_moved c u k = record {
        is_usable = k.is_usable;
        earlier = k.earlier;
        codes = k.codes;
        conclusion = k.conclusion ∙ ap (λ (x : WrittenStep). x.tree) alike;
        hyps = subst (λ p. AllZip (λ (h : Tree) (g : Given). p g ≡ Some (valued u h)) u.assertion.hyps c.places) places_same k.hyps;
        no_clash = k.no_clash;
        no_lack = k.no_lack;
      }

  module _ (es fs : List WrittenStep) (same : trees es ≡ trees fs) (e f : WrittenStep) (alike : bare_step e ≡ bare_step f) where
    found_moved : (o : Option Choice) → IsFound db place mode allowed es e o → IsFound db place mode allowed fs f o
    found_moved o k =
        subst (λ cs. IsFirstOrNone (Fits db place mode allowed fs f) cs o) (choices_same es fs same e f alike)
        (first_with (Fits db place mode allowed es e) (Fits db place mode allowed fs f)
        (λ c x. (x.0, fits_moved es fs same e f alike c x.0 x.1)) (λ c x. (x.0, fits_moved fs es (sym same) f e (sym alike) c x.0 x.1)) (choices db e) o k)

    one_found : (o q : Option Choice) → IsFound db place mode allowed es e o → IsFound db place mode allowed fs f q → o ≡ q
    one_found o q k m = first_or_none_is_one (Fits db place mode allowed fs f) (choices db f) o q (found_moved o k) m

    abbrev with_found : Choice → Use → WrittenStep → WrittenStep
    with_found c u x = bare_step (record x { reference = Some (label_name db c.label); places = c.places; verdict = report.Found; by = Some u })

    two_tests : is_to_be_searched es e ≡ false → is_to_be_searched fs f ≡ true → ⊥
    two_tests h k = let bad : false ≡ true = sym h ∙ test_same es fs same e f alike ∙ k in cc

    other_tests : is_to_be_searched es e ≡ true → is_to_be_searched fs f ≡ false → ⊥
    other_tests h k = let bad : true ≡ false = sym h ∙ test_same es fs same e f alike ∙ k in cc

    pub search_alike : (x y : WrittenStep) → IsSearched db place mode allowed es e x → IsSearched db place mode allowed fs f y → bare_step x ≡ bare_step y
    search_alike x y (IsSearched.not_searched h) (IsSearched.not_searched k) = alike
    search_alike x y (IsSearched.not_searched h) (IsSearched.none k m) = absurd (two_tests h k)
    search_alike x y (IsSearched.not_searched h) (IsSearched.found k m n) = absurd (two_tests h k)
    search_alike x y (IsSearched.none h i) (IsSearched.not_searched k) = absurd (other_tests h k)
    search_alike x y (IsSearched.none h i) (IsSearched.none k m) = alike
    search_alike x y (IsSearched.none h i) (IsSearched.found {c = d} k m n) = let bad : None ≡ Some d = one_found None (Some d) i m in absurd (cc)
    search_alike x y (IsSearched.found h i j) (IsSearched.not_searched k) = absurd (other_tests h k)
    search_alike x y (IsSearched.found {c = c} h i j) (IsSearched.none k m) = let bad : Some c ≡ None = one_found (Some c) None i m in absurd (cc)
    search_alike x y (IsSearched.found {c = c} {u = u} h i j) (IsSearched.found {c = d} {u = v} k m n) =
        let chosen : Some c ≡ Some d = one_found (Some c) (Some d) i m in
        let choice : c ≡ d = cc in
        let moved = subst (λ q. FitsUse db place mode allowed fs f q u) choice (fits_moved es fs same e f alike c u j) in
        let use_same = use_is_one fs f d u v moved n in
        ap (λ z. with_found c u z) alike ∙ ap (λ q. with_found q u f) choice ∙ ap (λ q. with_found d q f) use_same

-- ---- all items

module _ (db : Database) (plain : ArePlain db) (options : Options) (w v : Writing) (place : w.bound.place ≡ v.bound.place) (pairs : w.bound.pairs ≡ v.bound.pairs)
    (same : bare_items (after_naming db options w) ≡ bare_items (after_naming db options v)) where
  bare_trees : (is : List WrittenItem) → trees (steps_in (bare_items is)) ≡ trees (steps_in is)
  bare_trees [] = refl
  bare_trees (comment lines ∷ is) = bare_trees is
  bare_trees (step e ∷ is) = ap (λ ts. e.tree ∷ ts) (bare_trees is)

  trees_same : trees (steps_in (after_naming db options w)) ≡ trees (steps_in (after_naming db options v))
  trees_same = sym (bare_trees (after_naming db options w)) ∙ ap (λ is. trees (steps_in is)) same ∙ bare_trees (after_naming db options v)

  at_place : (e x : WrittenStep) → IsSearched db v.bound.place options.dv v.bound.pairs (steps_in (after_naming db options v)) e x
      → IsSearched db w.bound.place options.dv w.bound.pairs (steps_in (after_naming db options v)) e x
  at_place e x h =
      subst (λ p. IsSearched db p options.dv w.bound.pairs (steps_in (after_naming db options v)) e x) (sym place)
      (subst (λ ps. IsSearched db v.bound.place options.dv ps (steps_in (after_naming db options v)) e x) (sym pairs) h)

  heads : {A : Type 0} (x y : A) (xs ys : List A) → x ∷ xs ≡ y ∷ ys → x ≡ y
  heads x y xs ys e = cc

  tails : {A : Type 0} (x y : A) (xs ys : List A) → x ∷ xs ≡ y ∷ ys → xs ≡ ys
  tails x y xs ys e = cc

  item_alike : (i j x y : WrittenItem) → over_step bare_step i ≡ over_step bare_step j → ItemIsSearched db options w i x
      → ItemIsSearched db options v j y → over_step bare_step x ≡ over_step bare_step y
  item_alike (comment lines) (comment more) x y e h k = ap (over_step bare_step) h ∙ e ∙ ap (over_step bare_step) (sym k)
  item_alike (comment lines) (step f) x y e h k = absurd (cc)
  item_alike (step f) (comment more) x y e h k = absurd (cc)
  item_alike (step f) (step g) x y e h k =
      let alike : bare_step f ≡ bare_step g = cc in
      let one =
      search_alike db w.bound.place options.dv w.bound.pairs plain (steps_in (after_naming db options w))
      (steps_in (after_naming db options v)) trees_same f g alike h.0 k.0 h.2 (at_place g k.0 k.2) in
      ap (over_step bare_step) h.1 ∙ ap step one ∙ ap (over_step bare_step) (sym k.1)

  pub searched_alike : (is js xs ys : List WrittenItem) → bare_items is ≡ bare_items js → AllZip (ItemIsSearched db options w) is xs
      → AllZip (ItemIsSearched db options v) js ys → bare_items xs ≡ bare_items ys
  searched_alike [] [] [] [] e h k = refl
  searched_alike [] [] [] (y ∷ ys) e h k = absurd k
  searched_alike [] [] (x ∷ xs) ys e h k = absurd h
  searched_alike [] (j ∷ js) xs ys e h k = absurd (cc)
  searched_alike (i ∷ is) [] xs ys e h k = absurd (cc)
  searched_alike (i ∷ is) (j ∷ js) [] ys e h k = absurd h
  searched_alike (i ∷ is) (j ∷ js) (x ∷ xs) [] e h k = absurd k
  searched_alike (i ∷ is) (j ∷ js) (x ∷ xs) (y ∷ ys) e h k =
      ap (λ z. z ∷ bare_items xs) (item_alike i j x y (heads _ _ _ _ e) h.0 k.0)
      ∙ ap (λ zs. over_step bare_step y ∷ zs) (searched_alike is js xs ys (tails _ _ _ _ e) h.1 k.1)
