-- Lists of bytes that are put together.
use Rattle.std.proofs.Common.{◌≡◌, ℕ, List, [], ◌∷◌, ◌++◌, ◌+◌, ◌<◌, take, get_or, refl, ap, sym, ◌∙◌, append_assoc, append-nil, codes, map, Option}
use Rattle.std.specs.Prelude.{flat_map, length}
use Rattle.std.specs.List.{join_with_byte}
use Rattle.std.specs.Borrow.{Bor}
use Rattle.std.proofs.lemmas.Grind.{flat_map-append}
use Rattle.std.proofs.lemmas.List.{map-append, take_more}
use Rattle.std.proofs.lemmas.List.Elements.{filter_map-append}
use Rattle.std.proofs.lemmas.List.Folds.{flat_map-map}
use Rattle.sheet_text.specs.declared.sheet.SheetStep.{SheetStep}
use Rattle.sheet_text.specs.declared.sheet.SheetItem.{SheetItem}
use Rattle.sheet_text.specs.declared.sheet.Sheet.{Sheet}
use Rattle.sheet_text.specs.declared.sheet.SheetItem.TheVariants as item
use Rattle.sheet_text.specs.Layout.{ended, spaced, header_line, item_lines, pair_line, proof_lines, step_names, step_of_item, layout}
use Rattle.sheet_print.specs.Pieces.{behind_spaces, behind_commas, names_of, item_text, pair_text, shown}

-- texts joined by a byte are the first, and the others behind that byte
pub joined : (c : ℕ) (x : List ℕ) (xs : List (List ℕ)) → join_with_byte c (x ∷ xs) ≡ x ++ flat_map (λ t. c ∷ t) xs
joined c x [] = sym (append-nil x)
joined c x (y ∷ ys) = ap (λ t. x ++ (c ∷ t)) (joined c y ys)

-- pieces, one behind the other
pub three : {X : Type 0} (old a b e t u x : List X) → t ≡ old ++ a → u ≡ t ++ b → x ≡ u ++ e → x ≡ old ++ ((a ++ b) ++ e)
three old a b e t u x g h k = k ∙ ap (λ y. y ++ e) (h ∙ ap (λ y. y ++ b) g) ∙ simp append_assoc

pub five : {X : Type 0} (old a b c d e t u v w x : List X) → t ≡ old ++ a → u ≡ t ++ b → v ≡ u ++ c → w ≡ v ++ d → x ≡ w ++ e → x ≡ old ++ ((a ++ (b ++ (c ++ d))) ++ e)
five old a b c d e t u v w x g h i j k =
    k ∙ ap (λ y. y ++ e) (j ∙ ap (λ y. y ++ d) (i ∙ ap (λ y. y ++ c) (h ∙ ap (λ y. y ++ b) g))) ∙ simp append_assoc

-- a token, more tokens and an LF are a line
pub line_parts : (old token : List ℕ) (tokens : List (List ℕ)) (a b d : List ℕ)
    → a ≡ old ++ token → b ≡ a ++ behind_spaces tokens → d ≡ b ++ 10 ∷ [] → d ≡ old ++ ended (spaced (token ∷ tokens))
line_parts old token tokens a b d e f g = three old token (behind_spaces tokens) (10 ∷ []) a b d e f g ∙ ap (λ t. old ++ ended t) (sym (joined 32 token tokens))

-- the places, where there is a first
pub places_parts : {X : Type 0} (f : X → List ℕ) (old : List ℕ) (first : X) (more places : List X) (a b : List ℕ)
    → places ≡ first ∷ more → a ≡ old ++ f first → b ≡ a ++ behind_commas (map f more) → b ≡ old ++ join_with_byte 44 (map f places)
places_parts f old first more places a b e g h =
    h ∙ ap (λ t. t ++ behind_commas (map f more)) g ∙ append_assoc old (f first) (behind_commas (map f more))
    ∙ ap (λ t. old ++ t) (sym (joined 44 (f first) (map f more)) ∙ ap (λ t. join_with_byte 44 (map f t)) (sym e))

pub flat_map-flat_map : {A B : Type 0} (f : B → List ℕ) (g : A → List B) (xs : List A) → flat_map f (flat_map g xs) ≡ flat_map (λ x. flat_map f (g x)) xs
flat_map-flat_map f g [] = refl
flat_map-flat_map f g (x ∷ xs) = flat_map-append f (g x) (flat_map g xs) ∙ ap (λ t. flat_map f (g x) ++ t) (flat_map-flat_map f g xs)

pub names_of-append : (xs ys : List SheetItem) → names_of (xs ++ ys) ≡ names_of xs ++ names_of ys
names_of-append xs ys = ap (map (λ (s : SheetStep). s.name)) (filter_map-append step_of_item xs ys) ∙ map-append _ _ _

-- the names of one item more
pub more_names : (items : List SheetItem) (i : ℕ) (it : SheetItem) → i < length items → it ≡ get_or items i it → names_of (take (i + 1) items) ≡ names_of (take i items) ++ names_of (it ∷ [])
more_names items i it h e = ap names_of (take_more items i it h) ∙ names_of-append (take i items) _ ∙ ap (λ t. names_of (take i items) ++ names_of (t ∷ [])) (sym e)

pub step_noted : (names : List (Bor (List ℕ))) (x : Bor (List ℕ)) (more : List (Bor (List ℕ))) (items : List SheetItem) (i : ℕ) (it : SheetItem) (s : SheetStep) → i < length items
    → it ≡ get_or items i it → it ≡ item.Step s → x.now ≡ s.name → more ≡ names ++ x ∷ [] → shown names ≡ names_of (take i items) → shown more ≡ names_of (take (i + 1) items)
step_noted names x more items i it s h e f g k v =
    ap shown k ∙ map-append _ names (x ∷ []) ∙ ap (λ t. t ++ x.now ∷ []) v ∙ ap (λ t. names_of (take i items) ++ t ∷ []) g
    ∙ sym (more_names items i it h e ∙ ap (λ t. names_of (take i items) ++ names_of (t ∷ [])) f)

pub comment_passed : (names : List (Bor (List ℕ))) (items : List SheetItem) (i : ℕ) (it : SheetItem) (lines : List (List ℕ)) → i < length items
    → it ≡ get_or items i it → it ≡ item.Comment lines → shown names ≡ names_of (take i items) → shown names ≡ names_of (take (i + 1) items)
comment_passed names items i it lines h e f v =
    v ∙ sym (more_names items i it h e ∙ ap (λ t. names_of (take i items) ++ names_of (t ∷ [])) f ∙ append-nil _)

-- the layout, part by part
pub layout_parts : (s : Sheet) (proof : Option (List ℕ))
    → layout s proof ≡ (((ended (header_line s) ++ flat_map (item_text (step_names s)) s.items) ++ flat_map ended (proof_lines proof)) ++ flat_map pair_text s.pairs) ++ 36 ∷ 41 ∷ 10 ∷ []
layout_parts s proof =
    let items = flat_map (item_lines (step_names s)) s.items in let tail = proof_lines proof in let pairs = map pair_line s.pairs in
    flat_map-append ended (((header_line s ∷ items) ++ tail) ++ pairs) (codes "$)" ∷ [])
    ∙ ap (λ t. t ++ 36 ∷ 41 ∷ 10 ∷ []) (flat_map-append ended ((header_line s ∷ items) ++ tail) pairs
    ∙ ap (λ t. t ++ flat_map ended pairs)
    (flat_map-append ended (header_line s ∷ items) tail
    ∙ ap (λ t. (ended (header_line s) ++ t) ++ flat_map ended tail) (flat_map-flat_map ended (item_lines (step_names s)) s.items))
    ∙ ap (λ t. ((ended (header_line s) ++ flat_map (item_text (step_names s)) s.items) ++ flat_map ended tail) ++ t) (flat_map-map ended pair_line s.pairs))

-- the layout, where each part is put behind the others
pub layout_put : (s : Sheet) (proof : Option (List ℕ)) (names : List (List ℕ)) (a b d e f text : List ℕ) → names ≡ names_of s.items → a ≡ [] ++ ended (header_line s)
    → b ≡ a ++ flat_map (item_text names) s.items → d ≡ b ++ flat_map ended (proof_lines proof) → e ≡ d ++ flat_map pair_text s.pairs → f ≡ e ++ 36 ∷ 41 ∷ 10 ∷ [] → text ≡ f
    → text ≡ layout s proof
layout_put s proof names a b d e f text n g h i j k l =
    l ∙ k ∙ ap (λ t. t ++ 36 ∷ 41 ∷ 10 ∷ []) (j ∙ ap (λ t. t ++ flat_map pair_text s.pairs) (i ∙ ap (λ t. t ++ flat_map ended (proof_lines proof))
    (h ∙ ap (λ t. t ++ flat_map (item_text names) s.items) g ∙ ap (λ t. ended (header_line s) ++ flat_map (item_text t) s.items) n))) ∙ sym (layout_parts s proof)
