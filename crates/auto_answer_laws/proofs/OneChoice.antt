-- What a step is filled with depends on the trees of the steps, the place and the pairs alone, and so is one in two writings of these.
use Rattle.std.specs.Prelude.{◌≡◌, ℕ, zero, suc, Bool, false, List, [], ◌∷◌, filter, slice_get, Option, refl}
use Rattle.std.specs.List.{range_with_len}
use Rattle.std.specs.Option.{option_map_or}
use Rattle.std.proofs.Common.{sym, ap, subst, ◌∙◌}
use mathlib.Core.Path.{fun_ext}
use Rattle.mm_base.specs.declared.tree.Tree.{Tree}
use Rattle.mm_model.specs.Book.{Database}
use Rattle.solve_model.specs.Firsts.{IsFirstOrNone}
use Rattle.solve_laws.proofs.OneJudgement.{first_or_none_is_one}
use Rattle.written_model.specs.declared.options.Options.{Options}
use Rattle.written_model.specs.Found.{Choice, Fits, is_ground}
use Rattle.written_model.specs.WrittenSteps.{WrittenStep, steps_in, trees}
use Rattle.written_model.specs.Written.{Writing}
use Rattle.answer_laws.proofs.SameText.{SameParts}
use Rattle.answer_laws.proofs.SearchedAlike.{first_with}
use Rattle.select_laws.proofs.OneSelection.{trees_same, does_fit}
use Rattle.auto_model.specs.AutoFilled.{IsAutoChoice, auto_choices, earlier_steps, is_ground_number}

-- whether a step is ground, by the trees
abbrev ground_in : List Tree → ℕ → Bool
ground_in ts k = option_map_or is_ground (slice_get ts k) false

ground_by_trees : (es : List WrittenStep) (k : ℕ) → is_ground_number es k ≡ ground_in (trees es) k
ground_by_trees [] k = refl
ground_by_trees (e ∷ es) zero = refl
ground_by_trees (e ∷ es) (suc k) = ground_by_trees es k

module _ (es fs : List WrittenStep) (same : trees es ≡ trees fs) where
  earlier_same : (k : ℕ) → earlier_steps es k ≡ earlier_steps fs k
  earlier_same k =
      ap (λ p. filter p (range_with_len 0 k)) (fun_ext (λ n. ground_by_trees es n ∙ ap (λ ts. ground_in ts n) same ∙ sym (ground_by_trees fs n)))

module _ (db : Database) (options : Options) (w v : Writing) (parts : SameParts w v) (k : ℕ) (e f : WrittenStep) (tree : e.tree ≡ f.tree) where
  same : trees (steps_in w.items) ≡ trees (steps_in v.items)
  same = trees_same db options w v parts

  choice_moved : (o : Option Choice) → IsAutoChoice db options w k e o → IsAutoChoice db options v k f o
  choice_moved o h =
      subst (λ ks. IsFirstOrNone (Fits db v.bound.place options.dv v.bound.pairs (steps_in v.items) f) (auto_choices db ks) o)
      (earlier_same (steps_in w.items) (steps_in v.items) same k)
      (first_with (Fits db w.bound.place options.dv w.bound.pairs (steps_in w.items) e) (Fits db v.bound.place options.dv v.bound.pairs (steps_in v.items) f)
      (does_fit db options w v parts.place parts.pairs same e f tree)
      (does_fit db options v w (sym parts.place) (sym parts.pairs) (sym same) f e (sym tree)) (auto_choices db (earlier_steps (steps_in w.items) k)) o h)

  pub one_choice : (o q : Option Choice) → IsAutoChoice db options w k e o → IsAutoChoice db options v k f q → o ≡ q
  one_choice o q h i =
      first_or_none_is_one (Fits db v.bound.place options.dv v.bound.pairs (steps_in v.items) f) (auto_choices db (earlier_steps (steps_in v.items) k)) o q (choice_moved o h) i
