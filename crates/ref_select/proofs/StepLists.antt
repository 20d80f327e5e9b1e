-- The steps among the first items of a worksheet, and the trees of the first places of a step.
use Rattle.std.specs.Prelude.{◌≡◌, ℕ, ◌+◌, ◌<◌, List, [], ◌∷◌, ◌++◌, length, take, get_or, filter_map, Option, Some, None, refl}
use Rattle.std.specs.Borrow.{Bor}
use Rattle.std.specs.Option.{option_copied}
use Rattle.std.proofs.Common.{sym, ap, ◌∙◌}
use Rattle.std.proofs.lemmas.List.{map-append}
use Rattle.mm_base.specs.declared.tree.Tree.{Tree}
use Rattle.mm_database.proofs.Lists.{filter_map_found, filter_map_none}
use Rattle.sheet_text.specs.declared.sheet.Given.{Given}
use Rattle.sheet_text.specs.declared.sheet.SheetItem.{SheetItem}
use Rattle.sheet_text.specs.declared.sheet.SheetItem.TheVariants as item
use Rattle.sheet_text.specs.declared.sheet.SheetStep.{SheetStep}
use Rattle.sheet_text.specs.Layout.{step_of_item}
use Rattle.ref_select.specs.Asked.{refs, tree_at}

pub step_more : (items : List SheetItem) (k : ℕ) (d : SheetItem) (steps more : List (Bor SheetStep)) (r : Bor SheetStep) (s : SheetStep)
    → k < length items → get_or items k d ≡ item.Step s → r.now ≡ s
    → refs steps ≡ filter_map step_of_item (take k items) → more ≡ steps ++ r ∷ [] → refs more ≡ filter_map step_of_item (take (k + 1) items)
step_more items k d steps more r s l e n h m =
    let found = filter_map_found step_of_item items k d l s (ap step_of_item e) in
    let split : refs (steps ++ r ∷ []) ≡ refs steps ++ r.now ∷ [] = map-append (λ (b : Bor SheetStep). b.now) steps (r ∷ []) in
    ap refs m ∙ split ∙ ap (λ xs. xs ++ r.now ∷ []) h ∙ ap (λ x. filter_map step_of_item (take k items) ++ x ∷ []) n ∙ sym found

pub comment_more : (items : List SheetItem) (k : ℕ) (d : SheetItem) (steps : List (Bor SheetStep)) → k < length items → step_of_item (get_or items k d) ≡ None
    → refs steps ≡ filter_map step_of_item (take k items) → refs steps ≡ filter_map step_of_item (take (k + 1) items)
comment_more items k d steps l e h = h ∙ sym (filter_map_none step_of_item items k d l e)

-- ---- the trees that places name

pub hyp_more : (ts : List Tree) (gs : List Given) (k : ℕ) (g : Given) (hyps new : List Tree) (t u : Tree) → k < length gs → tree_at ts (get_or gs k g) ≡ Some t → u ≡ t
    → hyps ≡ filter_map (tree_at ts) (take k gs) → new ≡ hyps ++ u ∷ [] → new ≡ filter_map (tree_at ts) (take (k + 1) gs)
hyp_more ts gs k g hyps new t u l e c h n = n ∙ ap (λ xs. xs ++ u ∷ []) h ∙ ap (λ x. filter_map (tree_at ts) (take k gs) ++ x ∷ []) c ∙ sym (filter_map_found (tree_at ts) gs k g l t e)

pub hyp_same : (ts : List Tree) (gs : List Given) (k : ℕ) (g : Given) (hyps : List Tree) → k < length gs → tree_at ts (get_or gs k g) ≡ None → hyps ≡ filter_map (tree_at ts) (take k gs)
    → hyps ≡ filter_map (tree_at ts) (take (k + 1) gs)
hyp_same ts gs k g hyps l e h = h ∙ sym (filter_map_none (tree_at ts) gs k g l e)

pub copied_none : (o : Option (Bor Tree)) → ((t : Bor Tree) → o ≡ Some t → ⊥) → option_copied o ≡ None
copied_none None h = refl
copied_none (Some t) h = absurd (h t refl)
