-- The variables of a frame, as the definitions have them.
use Rattle.std.specs.Prelude.{◌≡◌, ◌==◌, ◌+◌, ◌++◌, not, nat_lt, length, option_and_then, ℕ, suc, Bool, true, false, List, [], ◌∷◌, map, find, position, Option, Some, None, option_map, refl}
use Rattle.std.specs.List.{flat_map, cons_option, prefix_len}
use Rattle.std.proofs.Common.{sym, ap, ◌∙◌, cond}
use Rattle.mm_base.specs.declared.symbols.Sym.{Sym}
use Rattle.mm_base.specs.declared.symbols.Typecode.{Typecode}
use Rattle.mm_model.specs.declared.frames.Hyp.{Hyp}
use Rattle.mm_model.specs.declared.frames.Frame.{Frame}
use Rattle.mm_model.specs.declared.rows.Item.{Item}
use Rattle.mm_model.specs.declared.rows.Production.{Production}
use Rattle.mm_model.specs.Names.{typecode}
use Rattle.mm_model.specs.Rows.{slot_order}
use Rattle.mm_model.specs.Productions.{TypedVariable, typed_by, typed_variables, floats, row_of_frame, row_with, is_syntax, has_repeats}
use Rattle.mm_model.specs.Productions as model
use Rattle.mm_database.specs.declared.variables.FrameVariable.{FrameVariable}
use Rattle.mm_database.specs.Variables.{frame_variables, second_typed}
use Rattle.mm_database.specs.Productions.{item_of, item_at, with_text}

abbrev pub typed_as : FrameVariable → TypedVariable
typed_as v = record { sym = v.sym; code = v.code }

abbrev typed_in : Hyp → List TypedVariable
typed_in h = typed_by h.formula

one_typed : (b : Bool) (formula : List Sym) (h : Hyp) (hs : List Hyp) (ws : List FrameVariable) → h.formula ≡ formula → flat_map typed_in hs ≡ map typed_as ws
    → flat_map typed_in (cond b (h ∷ hs) hs) ≡ map typed_as (cons_option (cond b (second_typed formula) None) ws)
one_typed true [] h hs ws is e = ap (λ xs. typed_by xs ++ flat_map typed_in hs) is ∙ e
one_typed true (c ∷ []) h hs ws is e = ap (λ xs. typed_by xs ++ flat_map typed_in hs) is ∙ e
one_typed true (c ∷ v ∷ rest) h hs ws is e = ap (λ xs. typed_by xs ++ flat_map typed_in hs) is ∙ ap (λ l. record { sym = v; code = typecode c } ∷ l) e
one_typed false formula h hs ws is e = e

pub typed_are : (hyps : List Hyp) → typed_variables hyps ≡ map typed_as (frame_variables hyps)
typed_are [] = refl
typed_are (h ∷ hs) = one_typed h.floating h.formula h (floats hs) (frame_variables hs) refl (typed_are hs)

prefix_map : {X Y : Type 0} (p : Y → Bool) (f : X → Y) (xs : List X) → prefix_len p (map f xs) ≡ prefix_len (λ x. p (f x)) xs
prefix_map p f [] = refl
prefix_map p f (x ∷ xs) = ap (λ n. cond (p (f x)) (1 + n) 0) (prefix_map p f xs)

pub length_map : {X Y : Type 0} (f : X → Y) (xs : List X) → length (map f xs) ≡ length xs
length_map f [] = refl
length_map f (x ∷ xs) = ap suc (length_map f xs)

position_map : {X Y : Type 0} (p : Y → Bool) (f : X → Y) (xs : List X) → position p (map f xs) ≡ position (λ x. p (f x)) xs
position_map p f xs =
    ap (λ n. cond (nat_lt n (length (map f xs))) (Some n) None) (prefix_map (λ y. not (p y)) f xs)
    ∙ ap (λ l. cond (nat_lt (prefix_len (λ x. not (p (f x))) xs) l) (Some (prefix_len (λ x. not (p (f x))) xs)) None) (length_map f xs)

found_either : {X Y : Type 0} (b : Bool) (f : X → Y) (x : X) (o : Option Y) (o' : Option X) → o ≡ option_map f o' → cond b (Some (f x)) o ≡ option_map f (cond b (Some x) o')
found_either true f x o o' e = refl
found_either false f x o o' e = e

pub find_map : {X Y : Type 0} (p : Y → Bool) (f : X → Y) (xs : List X) → find p (map f xs) ≡ option_map f (find (λ x. p (f x)) xs)
find_map p f [] = refl
find_map p f (x ∷ xs) = found_either (p (f x)) f x (find p (map f xs)) (find (λ y. p (f y)) xs) (find_map p f xs)

pub map_map : {X Y Z : Type 0} (g : Y → Z) (f : X → Y) (xs : List X) → map g (map f xs) ≡ map (λ x. g (f x)) xs
map_map g f [] = refl
map_map g f (x ∷ xs) = ap (λ l. g (f x) ∷ l) (map_map g f xs)

map_with : {X Y : Type 0} (f g : X → Y) → ((x : X) → f x ≡ g x) → (xs : List X) → map f xs ≡ map g xs
map_with f g e [] = refl
map_with f g e (x ∷ xs) = ap (λ y. y ∷ map f xs) (e x) ∙ ap (λ l. g x ∷ l) (map_with f g e xs)

item_is : (s : Sym) (o : Option ℕ) (vars : List TypedVariable) → position (λ (v : TypedVariable). v.sym.0 == s.0) vars ≡ o → model.item_of vars s ≡ item_at s o
item_is s None vars e = rw e refl
item_is s (Some k) vars e = rw e refl

same_item : (hyps : List Hyp) (s : Sym) → model.item_of (typed_variables hyps) s ≡ item_of (frame_variables hyps) s
same_item hyps s =
    item_is s (position (λ (v : FrameVariable). v.sym.0 == s.0) (frame_variables hyps)) (typed_variables hyps)
    (ap (position (λ (v : TypedVariable). v.sym.0 == s.0)) (typed_are hyps) ∙ position_map (λ (v : TypedVariable). v.sym.0 == s.0) typed_as (frame_variables hyps))

module _ (f : Frame) where
  abbrev unrepeated : Production → Option Production
  unrepeated r = cond (has_repeats (slot_order r.items)) None (Some r)

  abbrev built : Sym → List Item → List Typecode → Option Production
  built code items slots = unrepeated (record { label = f.label; at = f.at; gives = typecode code; items = items; slots = slots })

  rows_alike : (code : Sym) (text : List Sym) → with_text f code text ≡ option_and_then unrepeated (row_with f (code ∷ text))
  rows_alike code [] = refl
  rows_alike code (s ∷ rest) =
      ap (λ items. built code items (map (λ (v : FrameVariable). v.code) (frame_variables f.hyps)))
      (sym (map_with (model.item_of (typed_variables f.hyps)) (item_of (frame_variables f.hyps)) (same_item f.hyps) (s ∷ rest)))
      ∙ ap (built code (map (model.item_of (typed_variables f.hyps)) (s ∷ rest)))
      (sym (ap (map (λ (v : TypedVariable). v.code)) (typed_are f.hyps) ∙ map_map (λ (v : TypedVariable). v.code) typed_as (frame_variables f.hyps)))

pub with_text_is : (provable : Sym) (f : Frame) (code : Sym) (text : List Sym) → is_syntax provable f ≡ true → f.formula ≡ code ∷ text → with_text f code text ≡ row_of_frame provable f
with_text_is provable f code text s is =
    rows_alike f code text ∙ ap (λ formula. option_and_then (unrepeated f) (row_with f formula)) (sym is)
    ∙ ap (λ b. cond b (option_and_then (unrepeated f) (row_with f f.formula)) None) (sym s)
