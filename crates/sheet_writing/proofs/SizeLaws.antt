-- The size by what is kept is the work size of the definitions.
use Rattle.std.specs.Prelude.{◌≡◌, ◌+◌, ℕ, List, [], ◌∷◌, map, sum, refl}
use Rattle.std.proofs.Common.{sym, ap, ◌∙◌, zero-add}
use Rattle.std.proofs.lemmas.List.Sums.{sum-map, sum_by-cons}
use Rattle.mm_base.specs.declared.kinds.Kinds.{Kinds}
use Rattle.mm_model.specs.Book.{Database}
use Rattle.mm_database.specs.Opened.{Opened, IsOpened}
use Rattle.solve_model.specs.Bound.{step_size, work_size}
use Rattle.sheet_bind.proofs.ShownLaws.{size_in_book}
use Rattle.written_model.specs.declared.options.Options.{Options}
use Rattle.written_model.specs.WrittenSteps.{WrittenItem, steps_in}
use Rattle.written_model.specs.Written.{Writing, bound_step, written_bound}
use Rattle.written_steps.specs.declared.draft.DraftItem.{DraftItem}
use Rattle.written_steps.specs.declared.draft.DraftItem.TheVariants as draft
use Rattle.written_steps.specs.Drafts.{book, step_in, items_in}
use Rattle.sheet_writing.specs.Sizes.{step_size_in, item_size_in, size_in}

total_cons : {X : Type 0} (f : X → ℕ) (x : X) (xs : List X) → sum (map f (x ∷ xs)) ≡ f x + sum (map f xs)
total_cons f x xs = sum-map f (x ∷ xs) ∙ sum_by-cons f x xs ∙ ap (λ n. f x + n) (sym (sum-map f xs))

module _ (kinds : Kinds) (text : List ℕ) (d : Opened) (opened : IsOpened kinds text d) (options : Options) (w : Writing) where
  abbrev db : Database
  db = book kinds text d

  abbrev sizes : ℕ → List WrittenItem → ℕ
  sizes place items = sum (map (step_size db place) (map (bound_step db options w) (steps_in items)))

  sizes_are : (place : ℕ) (items : List DraftItem) → size_in d place items ≡ sizes place (items_in d items)
  sizes_are place [] = refl
  sizes_are place (draft.Comment lines ∷ items) = total_cons (item_size_in d place) (draft.Comment lines) items ∙ zero-add (size_in d place items) ∙ sizes_are place items
  sizes_are place (draft.Step s ∷ items) =
      let one : step_size_in d place s ≡ step_size db place (bound_step db options w (step_in d s)) = size_in_book kinds text d opened place (bound_step db options w (step_in d s)) in
      total_cons (item_size_in d place) (draft.Step s) items ∙ ap (λ n. n + size_in d place items) one
      ∙ ap (λ n. step_size db place (bound_step db options w (step_in d s)) + n) (sizes_are place items)
      ∙ sym (total_cons (step_size db place) (bound_step db options w (step_in d s)) (map (bound_step db options w) (steps_in (items_in d items))))

  pub size_is : (place : ℕ) (items : List DraftItem) → w.bound.place ≡ place → w.items ≡ items_in d items → size_in d place items ≡ work_size db (written_bound db options w)
  size_is place items e f = sizes_are place items ∙ ap (λ p. sizes p (items_in d items)) (sym e) ∙ ap (λ (xs : List WrittenItem). sizes w.bound.place xs) (sym f)
