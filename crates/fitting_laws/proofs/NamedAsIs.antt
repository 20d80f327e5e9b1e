-- Nothing is named and nothing searched where every step fits as it is written.
use Rattle.std.specs.Prelude.{◌≡◌, ◌&&◌, not, ℕ, true, false, List, [], ◌∷◌, map, take, is_none, Contains, slice_get, Some, None, refl}
use Rattle.std.specs.List.{AllZip, list_all}
use Rattle.std.proofs.Common.{sym, ap, ◌∙◌}
use Rattle.mm_base.specs.declared.symbols.Pair.{Pair}
use Rattle.mm_base.specs.declared.tree.Tree.{Tree}
use Rattle.mm_base.specs.declared.tree.Tree.TheVariants.{Var}
use Rattle.mm_model.specs.Book.{Database}
use Rattle.sheet_text.specs.declared.sheet.SheetStep.{SheetStep}
use Rattle.solve_model.specs.declared.bound.Bound.{Bound}
use Rattle.solve_model.specs.Trees.{leaf_tree}
use Rattle.solve_laws.specs.Instances.{IsClosedTree}
use Rattle.solve_laws.proofs.Elements.{first, later}
use Rattle.solve_laws.proofs.ReplaceLaws.{replace-agree, replace-self}
use Rattle.written_model.specs.declared.options.DvMode.{DvMode}
use Rattle.written_model.specs.declared.report.ReportVerdict.TheVariants as report
use Rattle.written_model.specs.WrittenSteps.{Use, WrittenStep}
use Rattle.written_model.specs.Named.{Naming, name_leaf, name_tree, name_use, name_step}
use Rattle.written_model.specs.Found.{is_ground, is_ground_place, is_to_be_searched, IsSearched}
use Rattle.again_laws.proofs.Lists.{contains_get}
use Rattle.fitting_laws.proofs.Expected.{step_of, IsExpected}
use Rattle.fitting_laws.proofs.Scenes.{Scene, used, values_closed}

named_tree : (names : Naming) (t : Tree) → IsClosedTree t → name_tree names t ≡ t
named_tree names t closed = replace-agree (λ s c. Var s c) (λ s c. Var s c) (name_leaf names) leaf_tree (λ s c. refl) t (λ x o. absurd (closed x o)) ∙ replace-self t

named_all : (names : Naming) (ts : List Tree) → ((t : Tree) → Contains ts t → IsClosedTree t) → map (name_tree names) ts ≡ ts
named_all names [] h = refl
named_all names (t ∷ ts) h = ap (λ x. x ∷ map (name_tree names) ts) (named_tree names t (h t (first t t ts refl))) ∙ ap (λ xs. t ∷ xs) (named_all names ts (λ x m. h x (later x t ts m)))

maps_stay : {X : Type 0} (f : X → X) (xs : List X) → ((x : X) → Contains xs x → f x ≡ x) → map f xs ≡ xs
maps_stay f [] h = refl
maps_stay f (x ∷ xs) h = ap (λ y. y ∷ map f xs) (h x (first x x xs refl)) ∙ ap (λ ys. x ∷ ys) (maps_stay f xs (λ y m. h y (later y x xs m)))

module _ (db : Database) (bound : Bound) (pairs : List Pair) (ss : List SheetStep) (ts : List Tree) (es : List WrittenStep) (S : Scene db bound pairs ss ts es) where
  named_step : (names : Naming) (k : ℕ) (e : WrittenStep) → slice_get es k ≡ Some e → name_step names e ≡ e
  named_step names k e at = let r = S.view.rows k e at in from r.source r.tree r.tree_at e at r.is
    where
      from : (s : SheetStep) (t : Tree) → slice_get ts k ≡ Some t → (x : WrittenStep) → slice_get es k ≡ Some x → IsExpected db bound.place pairs (take k ts) s t x → name_step names x ≡ x
      from s t t_at _ x_at (IsExpected.hyp h) = ap (λ y. step_of s y report.Hyp None) (named_tree names t (S.closed k t t_at))
      from s t t_at _ x_at (IsExpected.fits h f) =
          let e' : WrittenStep = step_of s t report.Fits (Some f.by) in
          let U = used db bound pairs ss ts es S k e' f.by x_at refl in
          ap (λ y. step_of s y report.Fits (name_use names (Some f.by))) (named_tree names t (S.closed k t t_at))
          ∙ ap (λ vs. step_of s t report.Fits (Some (let y : Use = record { assertion = f.by.assertion; values = vs } in y)))
          (named_all names f.by.values (values_closed db bound pairs ss ts es S k e' f.by U))

  pub named_as_is : (names : Naming) → map (name_step names) es ≡ es
  named_as_is names = maps_stay (name_step names) es (λ e m. let r = contains_get es e m in named_step names r.0 e r.1)

  not_searched : (all : List WrittenStep) (k : ℕ) (e : WrittenStep) → slice_get es k ≡ Some e → is_to_be_searched all e ≡ false
  not_searched all k e at = let r = S.view.rows k e at in from r.source r.tree e r.is
    where
      from : (s : SheetStep) (t : Tree) (x : WrittenStep) → IsExpected db bound.place pairs (take k ts) s t x → is_to_be_searched all x ≡ false
      from s t _ (IsExpected.hyp h) = ap (λ b. not b && is_none s.reference && is_ground t && list_all (is_ground_place all) s.places) h
      from s t _ (IsExpected.fits h f) =
          ap (λ b. not b && is_none s.reference && is_ground t && list_all (is_ground_place all) s.places) h
          ∙ ap (λ o. is_none o && is_ground t && list_all (is_ground_place all) s.places) f.reference

  module _ (place : ℕ) (mode : DvMode) (allowed : List Pair) (all : List WrittenStep) where
    one_stays : (e d : WrittenStep) → is_to_be_searched all e ≡ false → IsSearched db place mode allowed all e d → d ≡ e
    one_stays e _ h (IsSearched.not_searched q) = refl
    one_stays e _ h (IsSearched.none q f) = absurd (clash (sym h ∙ q))
      where
        clash : false ≡ true → ⊥
        clash c = cc
    one_stays e _ h (IsSearched.found q f u) = absurd (clash (sym h ∙ q))
      where
        clash : false ≡ true → ⊥
        clash c = cc

    all_stay : (xs ys : List WrittenStep) → ((e : WrittenStep) → Contains xs e → is_to_be_searched all e ≡ false) → AllZip (IsSearched db place mode allowed all) xs ys → ys ≡ xs
    all_stay [] [] h z = refl
    all_stay [] (y ∷ ys) h z = absurd z
    all_stay (x ∷ xs) [] h z = absurd z
    all_stay (x ∷ xs) (y ∷ ys) h z = ap (λ w. w ∷ ys) (one_stays x y (h x (first x x xs refl)) z.0) ∙ ap (λ ws. x ∷ ws) (all_stay xs ys (λ e m. h e (later e x xs m)) z.1)

    pub searched_as_is : (ys : List WrittenStep) → AllZip (IsSearched db place mode allowed all) es ys → ys ≡ es
    searched_as_is ys z = all_stay es ys (λ e m. let r = contains_get es e m in not_searched all r.0 e r.1) z
