-- Items put in one after the other.
use Rattle.std.specs.Prelude.{◌≡◌, ℕ, ◌+◌, ◌<◌, ◌≤◌, List, [], ◌∷◌, ◌++◌, length, map, fold, take, filter_map, get_or, refl}
use Rattle.std.proofs.Common.{zero, suc, sym, ap, subst, ◌∙◌, arith}
use Rattle.std.proofs.lemmas.List.{append-nil, length-append, map-append, take_more}
use Rattle.std.proofs.lemmas.List.Sums.{fold-append}
use Rattle.std.proofs.lemmas.List.Elements.{filter_map-append}
use Rattle.mm_model.specs.Names.{Name}
use Rattle.sheet_text.specs.declared.sheet.SheetItem.{SheetItem}
use Rattle.sheet_text.specs.declared.sheet.SheetItem.TheVariants as item
use Rattle.sheet_text.specs.declared.sheet.Sheet.{Sheet}
use Rattle.sheet_text.specs.Layout.{step_of_item, steps, step_names}
use Rattle.written_model.specs.WrittenSteps.{WrittenStep, WrittenItem, comment, step_of, steps_in, trees}
use Rattle.written_model.specs.Filled.{Filling, fill_item}
use Rattle.hyp_derive.specs.Naming.{HaveSameNames}
use Rattle.written_steps.specs.declared.draft.DraftItem.{DraftItem}
use Rattle.written_steps.specs.declared.draft.DraftItem.TheVariants as draft
use Rattle.written_steps.specs.Drafts.{item_in, items_in, AreSound}
use Rattle.step_chain.specs.Held.{Held, judgements_of}
use Rattle.step_chain.specs.Values.{value_of}
use Rattle.step_chain.specs.Answers.{constants_of}
use Rattle.step_filling.specs.declared.fault.FillFault.{FillFault}
use Rattle.step_filling.specs.declared.fault.FillFault.TheVariants as fault
use Rattle.step_filling.specs.Kept.{Kept, IsBegun, with_comment, filling_in, IsInStep}
use Rattle.step_filling.specs.Wanted.{AreShort}
use Rattle.step_filling.specs.Filled.{step_count, IsPut, ArePut, IsItemFault, IsLongNext, IsLongValueNext, IsFaultAmong, filled_behind}
use Rattle.step_filling.specs.Answers.{AreFilled, IsFillFault}
use Rattle.step_filling.proofs.DraftLaws.{sound_join}

abbrev filling : List WrittenItem → List ℕ → Filling
filling is ns = record { items = is; numbers = ns }

-- ---- a comment

module _ (h : Held) (old : Kept) (lines : List Name) where
  abbrev put : Kept
  put = with_comment old lines

  items_are : items_in h.book put.items ≡ items_in h.book old.items ++ comment lines ∷ []
  items_are = map-append (item_in h.book) old.items (draft.Comment lines ∷ [])

  steps_are : steps_in (items_in h.book put.items) ≡ steps_in (items_in h.book old.items)
  steps_are = ap steps_in items_are ∙ filter_map-append step_of (items_in h.book old.items) (comment lines ∷ []) ∙ append-nil (steps_in (items_in h.book old.items))

  comment_is : IsPut h old put (item.Comment lines)
  comment_is = record {
    count = omega arith;
    with_names = λ used in_step. record {
      in_step = record {
        trees = in_step.trees ∙ ap trees (sym steps_are);
        names = subst (λ (es : List WrittenStep). HaveSameNames old.names (used ++ map (λ (e : WrittenStep). e.name) es)) (sym steps_are) in_step.names;
        sound = sound_join h.book old.items (draft.Comment lines ∷ []) in_step.sound (tt, tt);
      };
      filled = λ kinds text sheet opened binds code. ap (λ (is : List WrittenItem). filling is old.numbers) items_are;
    };
    short = λ kinds text sheet opened binds code short. short;
  }

  pub comment_put : (new : Kept) → new ≡ put → IsPut h old new (item.Comment lines)
  comment_put new e = subst (λ (k : Kept). IsPut h old k (item.Comment lines)) (sym e) comment_is

-- ---- several items

module _ (h : Held) where
  pub put_nothing : (k : Kept) → ArePut h k k []
  put_nothing k = record {
    count = omega arith;
    with_names = λ used in_step. record { in_step = in_step; filled = λ kinds text sheet opened binds code. refl };
    short = λ kinds text sheet opened binds code short. short;
  }

  counted : (i : SheetItem) → length (filter_map step_of_item (i ∷ [])) ≡ step_count i
  counted (item.Comment lines) = refl
  counted (item.Step s) = refl

  pub put_item : (k mid new : Kept) (front all : List SheetItem) (i : SheetItem) → ArePut h k mid front → IsPut h mid new i → all ≡ front ++ i ∷ [] → ArePut h k new all
  put_item k mid new front all i are is e = record {
    count =
        let one = are.count in
        let two = is.count in
        let parts : length (filter_map step_of_item all) ≡ length (filter_map step_of_item front ++ filter_map step_of_item (i ∷ [])) =
        ap (λ (xs : List SheetItem). length (filter_map step_of_item xs)) e ∙ ap length (filter_map-append step_of_item front (i ∷ [])) in
        let long = length-append (filter_map step_of_item front) (filter_map step_of_item (i ∷ [])) in
        let here = counted i in
        omega (arith, one, two, parts, long, here);
    with_names = λ used in_step.
        let first = are.with_names used in_step in
        let second = is.with_names used first.in_step in
        record {
          in_step = second.in_step;
          filled = λ kinds text sheet opened binds code.
              let f = fill_item used h.bound (value_of h) (judgements_of h) in
              second.filled kinds text sheet opened binds code ∙ ap (λ (x : Filling). f x i) (first.filled kinds text sheet opened binds code)
              ∙ sym (fold-append f (filling_in h.book k) front (i ∷ [])) ∙ ap (fold f (filling_in h.book k)) (sym e);
        };
    short = λ kinds text sheet opened binds code short. is.short kinds text sheet opened binds code (are.short kinds text sheet opened binds code short);
  }

  pub fault_item : (k mid : Kept) (front rest items : List SheetItem) (i : SheetItem) → ArePut h k mid front → items ≡ front ++ i ∷ rest
      → (e : FillFault) → IsItemFault h mid i e → IsFaultAmong h k items e
  fault_item k mid front rest items (item.Comment lines) are split (fault.TooLong name n) f = absurd f
  fault_item k mid front rest items (item.Comment lines) are split fault.LongValue f = absurd f
  fault_item k mid front rest items (item.Comment lines) are split fault.Memory f = tt
  fault_item k mid front rest items (item.Step s) are split (fault.TooLong name n) f = record {
    front = front;
    step = s;
    rest = rest;
    items_are = split;
    long = λ used in_step kinds text sheet opened binds code short.
        let with_names = are.with_names used in_step in
        let same = with_names.filled kinds text sheet opened binds code in (
          subst (λ (g : Filling). AreShort (constants_of h) (trees (steps_in g.items))) same
              (subst (AreShort (constants_of h)) with_names.in_step.trees (are.short kinds text sheet opened binds code short)),
          subst (λ (g : Filling). IsLongNext h g used s name n) same (f used with_names.in_step kinds text sheet opened binds code),
        );
  }
  fault_item k mid front rest items (item.Step s) are split fault.LongValue f = record {
    front = front;
    step = s;
    rest = rest;
    items_are = split;
    long = λ used in_step kinds text sheet opened binds code short.
        let with_names = are.with_names used in_step in
        let same = with_names.filled kinds text sheet opened binds code in (
          subst (λ (g : Filling). AreShort (constants_of h) (trees (steps_in g.items))) same
              (subst (AreShort (constants_of h)) with_names.in_step.trees (are.short kinds text sheet opened binds code short)),
          subst (IsLongValueNext h) same (f kinds text sheet opened binds code),
        );
  }
  fault_item k mid front rest items (item.Step s) are split fault.Memory f = tt

-- ---- by numbers

pub split_at : (items : List SheetItem) (k : ℕ) (i : SheetItem) → i ≡ get_or items k i → k < length items → (rest : List SheetItem) × (items ≡ take k items ++ i ∷ rest)
split_at [] k i e h = absurd (omega (arith, h))
split_at (x ∷ xs) zero i e h = (xs, ap (λ (y : SheetItem). y ∷ xs) (sym e))
split_at (x ∷ xs) (suc k) i e h = let told = split_at xs k i e (omega (arith, h)) in (told.0, ap (λ (ys : List SheetItem). x ∷ ys) told.1)

pub room_left : (h : Held) (items : List SheetItem) (k : ℕ) (i : SheetItem) → i ≡ get_or items k i → k < length items
    → length (filter_map step_of_item (take k items)) + step_count i ≤ length (filter_map step_of_item items)
room_left h items k i e below =
    let parts = split_at items k i e below in
    let all : length (filter_map step_of_item items) ≡ length (filter_map step_of_item (take k items) ++ filter_map step_of_item (i ∷ parts.0)) =
    ap (λ (xs : List SheetItem). length (filter_map step_of_item xs)) parts.1
    ∙ ap length (filter_map-append step_of_item (take k items) (i ∷ parts.0)) in
    let long = length-append (filter_map step_of_item (take k items)) (filter_map step_of_item (i ∷ parts.0)) in
    let more : length (filter_map step_of_item (i ∷ parts.0)) ≡ length (filter_map step_of_item (i ∷ []) ++ filter_map step_of_item parts.0) =
    ap length (filter_map-append step_of_item (i ∷ []) parts.0) in
    let two = length-append (filter_map step_of_item (i ∷ [])) (filter_map step_of_item parts.0) in
    let here = counted h i in
    omega (arith, all, long, more, two, here)

pub take_next : (items : List SheetItem) (k : ℕ) (i : SheetItem) → i ≡ get_or items k i → k < length items → take (k + 1) items ≡ take k items ++ i ∷ []
take_next items k i e below = take_more items k i below ∙ ap (λ (x : SheetItem). take k items ++ x ∷ []) (sym e)

-- ---- a whole worksheet

module _ (h : Held) (sheet : Sheet) (k : Kept) (begun : IsBegun sheet k) where
  at_first : IsInStep h.book (step_names sheet) k
  at_first = record {
    trees = begun.trees ∙ sym (ap (λ (is : List DraftItem). trees (steps_in (items_in h.book is))) begun.items);
    names =
        subst (HaveSameNames k.names)
        (sym
        (ap (λ (is : List DraftItem). step_names sheet ++ map (λ (e : WrittenStep). e.name) (steps_in (items_in h.book is))) begun.items
        ∙ append-nil (step_names sheet))) begun.names;
    sound = subst (AreSound h.book) (sym begun.items) tt;
  }

  empty_is : filling_in h.book k ≡ filling [] []
  empty_is = ap (λ (is : List DraftItem). filling (items_in h.book is) k.numbers) begun.items ∙ ap (λ (ns : List ℕ). filling [] ns) begun.numbers

  short_first : AreShort (constants_of h) k.trees
  short_first = subst (AreShort (constants_of h)) (sym begun.trees) tt

  pub room_all : length (steps sheet) ≡ length h.bound.steps → length k.numbers + length (filter_map step_of_item sheet.items) ≤ length h.bound.steps
  room_all all = let none = ap length begun.numbers in omega (arith, all, none)

  pub whole_filled : (new : Kept) → ArePut h k new sheet.items → (items : List DraftItem) → items ≡ new.items → AreFilled h sheet items
  whole_filled new are items e =
      let all = are.with_names (step_names sheet) at_first in
      subst (AreFilled h sheet) (sym e) (record {
        sound = all.in_step.sound;
        filled = λ kinds text s opened binds code.
            ap (λ (f : Filling). f.items) (all.filled kinds text s opened binds code ∙ ap (λ (f : Filling). filled_behind h (step_names sheet) f sheet.items) empty_is);
        short = λ kinds text s opened binds code. subst (AreShort (constants_of h)) all.in_step.trees (are.short kinds text s opened binds code short_first);
      })

  pub whole_fault : (e : FillFault) → IsFaultAmong h k sheet.items e → IsFillFault h sheet e
  whole_fault (fault.TooLong name n) f = record {
    front = f.front;
    step = f.step;
    rest = f.rest;
    items_are = f.items_are;
    short = λ kinds text s opened binds code.
        subst (λ (g : Filling). AreShort (constants_of h) (trees (steps_in (filled_behind h (step_names sheet) g f.front).items))) empty_is
        (f.long (step_names sheet) at_first kinds text s opened binds code short_first).0;
    long = λ kinds text s opened binds code.
        subst (λ (g : Filling). IsLongNext h (filled_behind h (step_names sheet) g f.front) (step_names sheet) f.step name n) empty_is
        (f.long (step_names sheet) at_first kinds text s opened binds code short_first).1;
  }
  whole_fault fault.LongValue f = record {
    front = f.front;
    step = f.step;
    rest = f.rest;
    items_are = f.items_are;
    short = λ kinds text s opened binds code.
        subst (λ (g : Filling). AreShort (constants_of h) (trees (steps_in (filled_behind h (step_names sheet) g f.front).items))) empty_is
        (f.long (step_names sheet) at_first kinds text s opened binds code short_first).0;
    value = λ kinds text s opened binds code.
        subst (λ (g : Filling). IsLongValueNext h (filled_behind h (step_names sheet) g f.front)) empty_is (f.long (step_names sheet) at_first kinds text s opened binds code short_first).1;
  }
  whole_fault fault.Memory f = tt
