-- Names of steps behind a mark.
use Rattle.std.proofs.Common.{◌≡◌, ◌≤◌, ◌<◌, ℕ, ◌+◌, ◌-◌, List, [], ◌∷◌, ◌++◌, ap, sym, ◌∙◌, length, take, drop, set, get_or, replicate, length-append, arith, subst}
use Rattle.std.specs.List.{All}
use Rattle.std.proofs.lemmas.List.{get_or-append_right, take-append-drop}
use Rattle.std.proofs.lemmas.Grind.{common_steps}
use Rattle.std.proofs.lemmas.List.Elements.{All-set, All-replicate}
use Rattle.sheet_text.specs.declared.sheet.SheetStep.{SheetStep}
use Rattle.sheet_text.specs.declared.sheet.SheetItem.{SheetItem}
use Rattle.sheet_text.specs.declared.sheet.SheetItem.TheVariants as item
use Rattle.sheet_print.specs.declared.index.Mark.{Mark}
use Rattle.sheet_print.specs.Marks.{IsMark}
use Rattle.sheet_print.specs.Pieces.{names_of}
use Rattle.sheet_print.proofs.Pieces.{names_of-append, more_names}

-- what is left of a list from a place on
pub rest : {X : Type 0} (xs : List X) (i : ℕ) → take (length xs - i) (drop i xs) ≡ drop i xs
rest xs i = grind (arith, common_steps)

-- the name of a step at or behind a mark
pub later_name : (items : List SheetItem) (m : Mark) (k : ℕ) → IsMark items m → m.number ≤ k → get_or (names_of (drop m.place items)) (k - m.number) [] ≡ get_or (names_of items) k []
later_name items m k is le =
    sym (get_or-append_right (names_of (take m.place items)) (names_of (drop m.place items)) m.number k [] is.1 le)
    ∙ ap (λ l. get_or l k []) (sym (names_of-append (take m.place items) (drop m.place items)) ∙ ap names_of (take-append-drop m.place items))

pub step_counted : (items : List SheetItem) (i : ℕ) (it : SheetItem) (s : SheetStep) (n : ℕ) → i < length items → it ≡ get_or items i it → it ≡ item.Step s
    → n ≡ length (names_of (take i items)) → n + 1 ≡ length (names_of (take (i + 1) items))
step_counted items i it s n h e f k =
    ap (λ m. m + 1) k ∙ sym (ap length (more_names items i it h e ∙ ap (λ t. names_of (take i items) ++ names_of (t ∷ [])) f) ∙ length-append (names_of (take i items)) (s.name ∷ []))

pub comment_counted : (items : List SheetItem) (i : ℕ) (it : SheetItem) (lines : List (List ℕ)) (n : ℕ) → i < length items → it ≡ get_or items i it → it ≡ item.Comment lines
    → n ≡ length (names_of (take i items)) → n ≡ length (names_of (take (i + 1) items))
comment_counted items i it lines n h e f k =
    k ∙ sym (ap length (more_names items i it h e ∙ ap (λ t. names_of (take i items) ++ names_of (t ∷ [])) f) ∙ length-append (names_of (take i items)) [] ∙ omega arith)

pub marked : (items : List SheetItem) (marks after : List Mark) (at : ℕ) (m : Mark) → All (IsMark items) marks → IsMark items m → after ≡ set marks at m → All (IsMark items) after
marked items marks after at m a is e = subst (All (IsMark items)) (sym e) (All-set (IsMark items) marks at m is a)

pub names_count : (items : List SheetItem) → length (names_of items) ≤ length items
names_count [] = omega arith
names_count (item.Comment lines ∷ items) = omega (arith, names_count items)
names_count (item.Step s ∷ items) = omega (arith, names_count items)

pub steps_before : (items : List SheetItem) (i : ℕ) → length (names_of (take i items)) ≤ i
steps_before items i = omega (arith, names_count (take i items), length_taken items i)
  where
    length_taken : (items : List SheetItem) (i : ℕ) → length (take i items) ≤ i
    length_taken items i = grind (arith, common_steps)

none_before : (items : List SheetItem) (place number : ℕ) → place ≡ 0 → number ≡ 0 → length (names_of (take place items)) ≡ number
none_before items place number p q = ap (λ (k : ℕ). length (names_of (take k items))) p ∙ sym q

pub cleared : (n : ℕ) (m : Mark) (after : List Mark) → m.place ≡ 0 → m.number ≡ 0 → after ≡ replicate n m → (items : List SheetItem) → All (IsMark items) after
cleared n m after p q e items = subst (All (IsMark items)) (sym e) (All-replicate (IsMark items) n m (omega (arith, p), none_before items m.place m.number p q))
