-- Whether an assertion fits a step is decided, and so the search has an answer.
use Rattle.std.specs.Prelude.{◌≡◌, ◌<◌, ℕ, true, List, [], ◌∷◌, map, flat_map, length, unwrap_or, Contains, Option, Some, None, refl}
use Rattle.std.specs.List.{AllByRecursion, AllZip}
use Rattle.std.proofs.Common.{sym, ap, subst, ◌∙◌, inl, inr}
use Rattle.std.proofs.lemmas.Bool.{cases_Bool}
use Rattle.std.proofs.lemmas.List.{length-map}
use Rattle.mm_base.specs.declared.symbols.Pair.{Pair}
use Rattle.mm_base.specs.declared.tree.Tree.{Tree}
use Rattle.mm_base.specs.Trees.{code_of}
use Rattle.mm_model.specs.Productions.{TypedVariable}
use Rattle.mm_model.specs.Book.{Database, Assertion, position_of}
use Rattle.sheet_text.specs.declared.sheet.Given.{Given}
use Rattle.solve_model.specs.Trees.{leaf_tree}
use Rattle.written_model.specs.declared.options.DvMode.{DvMode}
use Rattle.written_model.specs.WrittenSteps.{Use, WrittenStep, place_tree, no_tree, value_of}
use Rattle.written_model.specs.Pairs.{clash_of, lack_of}
use Rattle.written_model.specs.Found.{is_to_be_searched, Choice, choices, valued, FitsUse, Fits, IsFound, IsSearched}
use Rattle.answer_laws.proofs.Elements.{first, later}
use Rattle.answer_laws.proofs.Plain.{ArePlain}
use Rattle.answer_laws.proofs.SearchedAlike.{values_are}
use Rattle.writing_laws.specs.Decisions.{Decided}
use Rattle.writing_laws.specs.HasSearch.{HasSearch}
use Rattle.writing_laws.proofs.Decide.{both_decided, decided_with, less_decided, none_decided, trees_decided, some_tree_decided, codes_decided, lists_decided, zip_decided, first_or_none, first_holds}
use Rattle.writing_laws.proofs.Matching.{Match, matches, looked, IsDone, told}

module _ (db : Database) (plain : ArePlain db) (place : ℕ) (mode : DvMode) (allowed : List Pair) (es : List WrittenStep) (e : WrittenStep) (c : Choice) where
  -- the `$e` and the formulas of the places
  abbrev hyp_jobs : List Tree → List Given → List (Tree × Tree)
  hyp_jobs [] gs = []
  hyp_jobs (h ∷ hs) [] = []
  hyp_jobs (h ∷ hs) (g ∷ gs) = (h, unwrap_or (place_tree es g) no_tree) ∷ hyp_jobs hs gs

  abbrev jobs : Assertion → List (Tree × Tree)
  jobs a = (a.tree, e.tree) ∷ hyp_jobs a.hyps c.places

  abbrev told_matches : Assertion → List Match
  told_matches a = flat_map (λ (j : Tree × Tree). matches j.0 j.1) (jobs a)

  -- the only use that can fit
  abbrev only_use : Assertion → Use
  only_use a = record { assertion = a; values = map (λ (v : TypedVariable). looked (told_matches a) v.sym) a.vars }

  abbrev Fit : Use → Type 0
  Fit u = FitsUse db place mode allowed es e c u

  abbrev HypFits : Use → Tree → Given → Type 0
  HypFits u h g = place_tree es g ≡ Some (valued u h)

  module _ (u : Use) where
    abbrev Done : Tree × Tree → Type 0
    Done j = IsDone (value_of u) leaf_tree j

    some_or : (o : Option Tree) (t : Tree) → o ≡ Some t → unwrap_or o no_tree ≡ t
    some_or o t k = ap (λ x. unwrap_or x no_tree) k

    hyps_done : (hs : List Tree) (gs : List Given) → AllZip (HypFits u) hs gs → AllByRecursion Done (hyp_jobs hs gs)
    hyps_done [] gs h = tt
    hyps_done (x ∷ xs) [] h = absurd h
    hyps_done (x ∷ xs) (g ∷ gs) h = (some_or (place_tree es g) (valued u x) h.0, hyps_done xs gs h.1)

    hyps_same : (hs : List Tree) (gs : List Given) → AllZip (HypFits u) hs gs → map (λ (j : Tree × Tree). j.0) (hyp_jobs hs gs) ≡ hs
    hyps_same [] gs h = refl
    hyps_same (x ∷ xs) [] h = absurd h
    hyps_same (x ∷ xs) (g ∷ gs) h = ap (λ ts. x ∷ ts) (hyps_same xs gs h.1)

    all_done : Fit u → AllByRecursion Done (jobs u.assertion)
    all_done f = (sym f.conclusion, hyps_done u.assertion.hyps c.places f.hyps)

    jobs_same : Fit u → map (λ (j : Tree × Tree). j.0) (jobs u.assertion) ≡ u.assertion.tree ∷ u.assertion.hyps
    jobs_same f = ap (λ ts. u.assertion.tree ∷ ts) (hyps_same u.assertion.hyps c.places f.hyps)

    value_told : Fit u → (v : TypedVariable) → Contains u.assertion.vars v → looked (told_matches u.assertion) v.sym ≡ value_of u v.sym
    value_told f v o =
        let s = (plain c.label u.assertion f.is_usable).stand v o in
        told (value_of u) leaf_tree (jobs u.assertion) s.0 v.sym (all_done f) (subst (λ ts. Contains ts s.0) (sym (jobs_same f)) s.1) s.2

    maps_same : {X Y : Type 0} (f g : X → Y) (xs : List X) → ((x : X) → Contains xs x → f x ≡ g x) → map f xs ≡ map g xs
    maps_same f g [] h = refl
    maps_same f g (x ∷ xs) h = ap (λ y. y ∷ map f xs) (h x (first x x xs refl)) ∙ ap (λ ys. g x ∷ ys) (maps_same f g xs (λ y o. h y (later y x xs o)))

    counted : Fit u → length u.values ≡ length u.assertion.vars
    counted f = let codes = f.codes in sym (length-map u.values code_of) ∙ ap length codes ∙ length-map u.assertion.vars (λ (v : TypedVariable). v.code)

    values_told : Fit u → map (λ (v : TypedVariable). looked (told_matches u.assertion) v.sym) u.assertion.vars ≡ u.values
    values_told f =
        maps_same (λ (v : TypedVariable). looked (told_matches u.assertion) v.sym) (λ (v : TypedVariable). value_of u v.sym) u.assertion.vars (value_told f)
        ∙ sym (values_are u.assertion.vars u.values (counted f) (plain c.label u.assertion f.is_usable).differ)

    is_only : Fit u → only_use u.assertion ≡ u
    is_only f = ap (λ ts. let w : Use = record { assertion = u.assertion; values = ts } in w) (values_told f)

  -- ---- whether a use fits

  abbrev Rest : Use → Type 0
  Rest u = (position_of db c.label < place) × ((map code_of u.values ≡ map (λ (v : TypedVariable). v.code) u.assertion.vars) × ((valued u u.assertion.tree ≡ e.tree)
      × (AllZip (HypFits u) u.assertion.hyps c.places × ((clash_of u ≡ None) × (lack_of mode allowed u ≡ None)))))

  rest_decided : (u : Use) → Decided (Rest u)
  rest_decided u =
      both_decided (less_decided (position_of db c.label) place) (both_decided (lists_decided codes_decided (map code_of u.values) (map (λ (v : TypedVariable). v.code) u.assertion.vars))
      (both_decided (trees_decided (valued u u.assertion.tree) e.tree)
      (both_decided (zip_decided (HypFits u) (λ h g. some_tree_decided (place_tree es g) (valued u h)) u.assertion.hyps c.places)
      (both_decided (none_decided (clash_of u)) (none_decided (lack_of mode allowed u))))))

  use_decided : (u : Use) → db.usable c.label ≡ Some u.assertion → Decided (Fit u)
  use_decided u k =
      decided_with
      (λ r. record { is_usable = k; earlier = r.0; codes = r.1.0; conclusion = r.1.1.0; hyps = r.1.1.1.0; no_clash = r.1.1.1.1.0; no_lack = r.1.1.1.1.1 })
      (λ f. (f.earlier, (f.codes, (f.conclusion, (f.hyps, (f.no_clash, f.no_lack))))))
      (rest_decided u)

  some_same : (a b : Assertion) → Some a ≡ Some b → a ≡ b
  some_same a b k = cc

  only_fits : (a : Assertion) → db.usable c.label ≡ Some a → (u : Use) → Fit u → Fit (only_use a)
  only_fits a k u f =
      let same = some_same u.assertion a (sym f.is_usable ∙ k) in
      subst (λ b. Fit (only_use b)) same (subst Fit (sym (is_only u f)) f)

  by_usable : (o : Option Assertion) → db.usable c.label ≡ o → Decided (Fits db place mode allowed es e c)
  by_usable None k = inr (λ p. let bad = sym k ∙ p.1.is_usable in cc)
  by_usable (Some a) k = decided_with (λ f. (only_use a, f)) (λ p. only_fits a k p.0 p.1) (use_decided (only_use a) k)

  pub fits_decided : Decided (Fits db place mode allowed es e c)
  fits_decided = by_usable (db.usable c.label) refl

module _ (db : Database) (plain : ArePlain db) (place : ℕ) (mode : DvMode) (allowed : List Pair) (es : List WrittenStep) (e : WrittenStep) where
  abbrev Fitting : Choice → Type 0
  Fitting c = Fits db place mode allowed es e c

  pub found : (o : Option Choice) × IsFound db place mode allowed es e o
  found = first_or_none Fitting (fits_decided db plain place mode allowed es e) (choices db e)

  abbrev Becomes : Type 0
  Becomes = (f : WrittenStep) × IsSearched db place mode allowed es e f

  by_found : is_to_be_searched es e ≡ true → (o : Option Choice) → IsFound db place mode allowed es e o → Becomes
  by_found h None k = (e, IsSearched.none h k)
  by_found h (Some c) k = let u = first_holds Fitting (choices db e) c k in (_, IsSearched.found h k u.1)

  pub searched : Becomes
  searched = elim (cases_Bool (is_to_be_searched es e)) [
    | inl h ↦ by_found h found.0 found.1
    | inr h ↦ (e, IsSearched.not_searched h)
  ]

  pub has_search : HasSearch db place mode allowed es e
  has_search = record { decides = fits_decided db plain place mode allowed es e; finds = found; becomes = searched }
