-- A worksheet is bound in one way, but for the numbers of lines, and what is filled does not rest on those either.
use Rattle.std.specs.Prelude.{◌≡◌, ◌<◌, ◌+◌, ◌++◌, ℕ, zero, suc, List, [], ◌∷◌, length, map, fold, zip, filter_map, slice_get, slice_index_or, Option, Some, None, refl}
use Rattle.std.specs.List.{AllZip}
use Rattle.std.proofs.Common.{sym, ap, subst, ◌∙◌, arith}
use Rattle.std.proofs.lemmas.List.{length-map}
use Rattle.mm_base.specs.declared.symbols.Label.{Label}
use Rattle.mm_base.specs.declared.symbols.Typecode.{Typecode}
use Rattle.mm_base.specs.declared.tree.Tree.{Tree}
use Rattle.mm_base.specs.declared.tree.Tree.TheVariants.{Node}
use Rattle.mm_base.specs.Trees.{Each, code_of}
use Rattle.mm_base.proofs.TreeInduction.{tree_ind}
use Rattle.mm_model.specs.declared.rows.Item.{Item}
use Rattle.mm_model.specs.declared.rows.Item.TheVariants as slot
use Rattle.mm_model.specs.declared.rows.Leaf.{Leaf}
use Rattle.mm_model.specs.declared.rows.Production.{Production}
use Rattle.mm_model.specs.Names.{Name}
use Rattle.mm_model.specs.Rows.{slot_order, IsGrammar}
use Rattle.mm_model.specs.Texts.{row_text, items_text, text}
use Rattle.mm_model.specs.Typed.{IsTyped, HasNoFresh}
use Rattle.mm_model.specs.Book.{Database}
use Rattle.mm_model.proofs.RowLaws.{is_row, row_stands}
use Rattle.mm_model.proofs.TextLaws.{text-Var, text-Work, text-Node}
use Rattle.mm_model.proofs.TypedLaws.{typed_here, typed_held, named_held, fresh_is_not_named}
use Rattle.sheet_text.specs.declared.sheet.Sheet.{Sheet}
use Rattle.sheet_text.specs.declared.sheet.SheetItem.{SheetItem}
use Rattle.sheet_text.specs.declared.sheet.SheetItem.TheVariants as item
use Rattle.sheet_text.specs.declared.sheet.SheetStep.{SheetStep}
use Rattle.sheet_text.specs.Layout.{steps, step_names, step_of_item}
use Rattle.sheet_text.specs.Reads.{unnumbered, unnumbered_item}
use Rattle.solve_model.specs.declared.bound.Bound.{Bound}
use Rattle.solve_model.specs.declared.bound.BoundStep.{BoundStep}
use Rattle.solve_model.specs.declared.verdict.Verdict.TheVariants as verdict
use Rattle.solve_model.specs.Bound.{HasTree, IsBoundStep, Binds}
use Rattle.solve_model.specs.Binding.{place_of}
use Rattle.solve_model.specs.Solutions.{Valuation, formula}
use Rattle.solve_model.specs.Verdicts.{Judgement, accepted, stands}
use Rattle.written_model.specs.WrittenSteps.{WrittenStep, step, steps_in, trees}
use Rattle.written_model.specs.Filled.{Filling, fill, derived_names, made_step, wanted_by, filled_step, fill_item, filled_items}
use Rattle.answer_laws.proofs.Covered.{each_at}
use Rattle.answer_laws.proofs.Plain.{TreesAreRead}
use Rattle.answer_laws.proofs.SameBound.{unlined, SameBound}

-- ---- a tree without a fresh leaf has a text

child_at : {X : Type 0} (xs : List X) (k : ℕ) → k < length xs → (x : X) × (slice_get xs k ≡ Some x)
child_at [] k l = absurd (omega (arith, l))
child_at (x ∷ xs) zero l = (x, refl)
child_at (x ∷ xs) (suc k) l = child_at xs k (omega (arith, l))

module _ (rows : List Production) (grammar : IsGrammar rows) (before : ℕ) where
  abbrev HasText : Tree → Type 0
  HasText t = IsTyped rows before t → HasNoFresh t → text rows t ≡ [] → ⊥

  front_empty : {X : Type 0} (xs ys : List X) → xs ++ ys ≡ [] → xs ≡ []
  front_empty [] ys e = refl
  front_empty (x ∷ xs) ys e = absurd (cc)

  some_leaf : (x : Leaf) (xs : List Leaf) → x ∷ xs ≡ [] → ⊥
  some_leaf x xs e = cc

  text_at : (ts : List Tree) (k : ℕ) (t : Tree) → slice_get ts k ≡ Some t → slice_index_or (map (text rows) ts) k [] ≡ text rows t
  text_at [] k t e = absurd (cc)
  text_at (u ∷ us) zero t e = let same : u ≡ t = cc in ap (text rows) same
  text_at (u ∷ us) (suc k) t e = text_at us k t e

  items_have : (ts : List Tree) → Each HasText ts → Each (IsTyped rows before) ts → Each HasNoFresh ts → (is : List Item) → (is ≡ [] → ⊥)
      → ((j : ℕ) → j < length (slot_order is) → slice_index_or (slot_order is) j 0 < length ts)
      → items_text (map (text rows) ts) is ≡ [] → ⊥
  items_have ts h typed named [] some within e = some refl
  items_have ts h typed named (slot.Const s ∷ is) some within e = some_leaf _ _ e
  items_have ts h typed named (slot.Slot k ∷ is) some within e =
      let l : k < length ts = within 0 (omega arith) in
      let child = child_at ts k l in
      let empty = front_empty (slice_index_or (map (text rows) ts) k []) (items_text (map (text rows) ts) is) e in
      each_at HasText ts k child.0 h child.1 (each_at (IsTyped rows before) ts k child.0 typed child.1) (each_at HasNoFresh ts k child.0 named child.1) (sym (text_at ts k child.0 child.1) ∙ empty)

  at_node : (l : Label) (c : Typecode) (ts : List Tree) → Each HasText ts → HasText (Node l c ts)
  at_node l c ts h typed named e =
      let layer = typed_here rows before l c ts typed in
      let place = row_stands rows l layer.0 layer.1 in
      let row = is_row rows grammar.rows_hold place.place layer.0 place.stands in
      let count : length layer.0.slots ≡ length ts = sym (ap length layer.4) ∙ length-map ts code_of in
      let within = λ (j : ℕ) (l : j < length (slot_order layer.0.items)). subst (λ n. slice_index_or (slot_order layer.0.items) j 0 < n) count (row.each_once.within j l) in
      items_have ts h (typed_held rows before l c ts typed) (named_held l c ts named) layer.0.items row.written within
      (sym (ap (row_text (map (text rows) ts)) layer.1) ∙ sym (text-Node rows l c ts) ∙ e)

  pub has_text : (t : Tree) → HasText t
  has_text = tree_ind HasText
      (λ s c typed named e. some_leaf _ _ (sym (text-Var rows s c) ∙ e))
      (λ c n typed named e. some_leaf _ _ (sym (text-Work rows c n) ∙ e))
      (λ c n typed named e. fresh_is_not_named c n named)
      at_node

-- ---- the trees are one

module _ (db : Database) (grammar : IsGrammar db.rows) (place : ℕ) where
  no_blank : (tokens : List Name) (t : Tree) → tokens ≡ [] → HasTree db place tokens (Some t) → ⊥
  no_blank tokens t e h =
      let there = subst (λ ts. HasTree db place ts (Some t)) e h in
      has_text db.rows grammar place t there.parses.typed there.parses.named there.parses.written

  tree_is_one : (tokens : List Name) (o q : Option Tree) → HasTree db place tokens o → HasTree db place tokens q → o ≡ q
  tree_is_one tokens None None h k = refl
  tree_is_one tokens None (Some t) h k = absurd (no_blank tokens t h k)
  tree_is_one tokens (Some t) None h k = absurd (no_blank tokens t k h)
  tree_is_one tokens (Some t) (Some u) h k = ap Some (k.only t h.parses)

  step_is_one : (s : SheetStep) (b c : BoundStep) → IsBoundStep db place s b → IsBoundStep db place s c → unlined b ≡ unlined c
  step_is_one s b c h k =
      let hyp = h.hyp ∙ sym k.hyp in
      let name = h.name ∙ sym k.name in
      let places = h.places ∙ sym k.places in
      let reference = h.reference ∙ sym k.reference in
      let tree = tree_is_one s.formula b.tree c.tree h.tree k.tree in
      ap (λ x. unlined (record b { hyp = x })) hyp
      ∙ ap (λ x. unlined (record b { hyp = c.hyp; name = x })) name
      ∙ ap (λ x. unlined (record b { hyp = c.hyp; name = c.name; places = x })) places
      ∙ ap (λ x. unlined (record b { hyp = c.hyp; name = c.name; places = c.places; reference = x })) reference
      ∙ ap (λ x. unlined (record b { hyp = c.hyp; name = c.name; places = c.places; reference = c.reference; tree = x })) tree

  steps_are_one : (ss : List SheetStep) (bs cs : List BoundStep) → AllZip (IsBoundStep db place) ss bs → AllZip (IsBoundStep db place) ss cs → map unlined bs ≡ map unlined cs
  steps_are_one [] [] [] h k = refl
  steps_are_one [] [] (c ∷ cs) h k = absurd k
  steps_are_one [] (b ∷ bs) cs h k = absurd h
  steps_are_one (s ∷ ss) [] cs h k = absurd h
  steps_are_one (s ∷ ss) (b ∷ bs) [] h k = absurd k
  steps_are_one (s ∷ ss) (b ∷ bs) (c ∷ cs) h k = ap (λ x. x ∷ map unlined bs) (step_is_one s b c h.0 k.0) ∙ ap (λ xs. unlined c ∷ xs) (steps_are_one ss bs cs h.1 k.1)

-- a worksheet is bound in one way, but for the numbers of its lines
pub bound_is_one : (db : Database) → IsGrammar db.rows → (s : Sheet) (b c : Bound) → Binds db s b → Binds db s c → SameBound b c
bound_is_one db grammar s b c h k = record { place = h.place ∙ sym k.place; steps = steps_are_one db grammar (place_of db s) (steps s) b.steps c.steps h.steps k.steps }

-- ---- the trees of a bound worksheet

pub zip_at : {A B : Type 0} (R : A → B → Type 0) (xs : List A) (ys : List B) (i : ℕ) (y : B) → AllZip R xs ys → slice_get ys i ≡ Some y → (x : A) × R x y
zip_at R [] [] i y h e = absurd (cc)
zip_at R [] (z ∷ zs) i y h e = absurd h
zip_at R (x ∷ xs) [] i y h e = absurd h
zip_at R (x ∷ xs) (z ∷ zs) zero y h e = let same : z ≡ y = cc in (x, subst (R x) same h.0)
zip_at R (x ∷ xs) (z ∷ zs) (suc i) y h e = zip_at R xs zs i y h.1 e

pub zip_length : {A B : Type 0} (R : A → B → Type 0) (xs : List A) (ys : List B) → AllZip R xs ys → length xs ≡ length ys
zip_length R [] [] h = refl
zip_length R [] (y ∷ ys) h = absurd h
zip_length R (x ∷ xs) [] h = absurd h
zip_length R (x ∷ xs) (y ∷ ys) h = ap suc (zip_length R xs ys h.1)

pub trees_are_read : (db : Database) (s : Sheet) (b : Bound) → Binds db s b → TreesAreRead db b
trees_are_read db s b h i r t e k =
    let at = zip_at (IsBoundStep db (place_of db s)) (steps s) b.steps i r h.steps e in
    let has : HasTree db (place_of db s) at.0.formula (Some t) = subst (HasTree db (place_of db s) at.0.formula) k at.1.tree in
    record { typed = subst (λ p. IsTyped db.rows p t) (sym h.place) has.parses.typed; no_fresh = has.parses.named }

-- ---- what is filled does not rest on line numbers

module _ (names : List Name) (b : Bound) (v : Valuation) (js : List Judgement) where
  step_unnumbered : (ns more : List ℕ) (s : SheetStep) (t : Tree) (o : Judgement) → filled_step ns more (record s { line = 0 }) t v o ≡ filled_step ns more s t v o
  step_unnumbered ns more s t (stands x) = refl
  step_unnumbered ns more s t (accepted x) = refl

  item_unnumbered : (f : Filling) (i : SheetItem) → fill_item names b v js f (unnumbered_item i) ≡ fill_item names b v js f i
  item_unnumbered f (item.Comment lines) = refl
  item_unnumbered f (item.Step s) =
      let o = slice_index_or js (length f.numbers) (stands verdict.NoRef) in
      let made = fill (trees (steps_in f.items)) (wanted_by v o) in
      let used = names ++ map (λ (e : WrittenStep). e.name) (steps_in f.items) in
      ap (λ (e : WrittenStep). let x : Filling = record {
        items = f.items ++ map step (map made_step (zip (derived_names (length made.made) used) made.made)) ++ step e ∷ [];
        numbers = f.numbers ++ (length (steps_in f.items) + length made.made) ∷ [];
      } in x) (step_unnumbered f.numbers made.places s (formula b v (length f.numbers)) o)

  all_unnumbered : (is : List SheetItem) (f : Filling) → fold (fill_item names b v js) f (map unnumbered_item is) ≡ fold (fill_item names b v js) f is
  all_unnumbered [] f = refl
  all_unnumbered (i ∷ is) f = ap (λ x. fold (fill_item names b v js) x (map unnumbered_item is)) (item_unnumbered f i) ∙ all_unnumbered is (fill_item names b v js f i)

  pub filled_unnumbered : (is : List SheetItem) → filled_items names b v js (map unnumbered_item is) ≡ filled_items names b v js is
  filled_unnumbered is = ap (λ (f : Filling). f.items) (all_unnumbered is (record { items = []; numbers = [] }))

names_unnumbered : (is : List SheetItem) → map (λ (t : SheetStep). t.name) (filter_map step_of_item (map unnumbered_item is)) ≡ map (λ (t : SheetStep). t.name) (filter_map step_of_item is)
names_unnumbered [] = refl
names_unnumbered (item.Comment lines ∷ is) = names_unnumbered is
names_unnumbered (item.Step s ∷ is) = ap (λ ns. s.name ∷ ns) (names_unnumbered is)

pub step_names_unnumbered : (s : Sheet) → step_names (unnumbered s) ≡ step_names s
step_names_unnumbered s = names_unnumbered s.items

-- sheets that are one but for the numbers of lines are filled alike
pub filled_by_sheet : (s t : Sheet) → unnumbered s ≡ unnumbered t → (b : Bound) (v : Valuation) (js : List Judgement)
    → filled_items (step_names s) b v js s.items ≡ filled_items (step_names t) b v js t.items
filled_by_sheet s t e b v js =
    ap (λ ns. filled_items ns b v js s.items) (sym (step_names_unnumbered s)) ∙ sym (filled_unnumbered (step_names (unnumbered s)) b v js s.items)
    ∙ ap (λ (u : Sheet). filled_items (step_names u) b v js u.items) e
    ∙ filled_unnumbered (step_names (unnumbered t)) b v js t.items ∙ ap (λ ns. filled_items ns b v js t.items) (step_names_unnumbered t)

count_unnumbered : (is : List SheetItem) → length (filter_map step_of_item (map unnumbered_item is)) ≡ length (filter_map step_of_item is)
count_unnumbered [] = refl
count_unnumbered (item.Comment lines ∷ is) = count_unnumbered is
count_unnumbered (item.Step s ∷ is) = ap suc (count_unnumbered is)

pub count_same : (s t : Sheet) → unnumbered s ≡ unnumbered t → length (steps s) ≡ length (steps t)
count_same s t e = sym (count_unnumbered s.items) ∙ ap (λ (u : Sheet). length (steps u)) e ∙ count_unnumbered t.items
