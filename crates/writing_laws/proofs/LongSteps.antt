-- The first formula that is too long is known by the front of a worksheet.
use Rattle.std.specs.Prelude.{◌≡◌, ◌<◌, ◌++◌, ◌⊎◌, ℕ, zero, suc, true, false, List, [], ◌∷◌, length, map, fold, zip, slice_get, Contains, Some, refl}
use Rattle.std.specs.List.{AllByRecursion, AllZip, list_any}
use Rattle.std.proofs.Common.{sym, ap, subst, ◌∙◌, inl, inr, append_assoc}
use Rattle.std.proofs.lemmas.Bool.{cases_Bool, or_cases}
use Rattle.std.proofs.lemmas.List.Sums.{fold-append}
use Rattle.std.proofs.lemmas.List.Elements.{filter_map-append}
use Rattle.mm_base.specs.declared.tree.Tree.{Tree}
use Rattle.mm_base.specs.Limits.{most_formula_tokens}
use Rattle.mm_model.specs.Names.{Name}
use Rattle.mm_model.specs.Book.{Database}
use Rattle.sheet_text.specs.declared.sheet.SheetItem.{SheetItem}
use Rattle.sheet_text.specs.declared.sheet.SheetItem.TheVariants as item
use Rattle.sheet_text.specs.declared.sheet.SheetStep.{SheetStep}
use Rattle.sheet_text.specs.Layout.{step_names}
use Rattle.solve_model.specs.declared.bound.Bound.{Bound}
use Rattle.solve_model.specs.Firsts.{IsFirstIn}
use Rattle.solve_model.specs.Trees.{same_tree}
use Rattle.solve_model.specs.Solutions.{Valuation, formula}
use Rattle.solve_model.specs.Verdicts.{Judgement, accepted, stands}
use Rattle.solve_laws.proofs.SameTrees.{same_tree-Decides}
use Rattle.written_model.specs.declared.options.Options.{Options}
use Rattle.written_model.specs.WrittenSteps.{WrittenStep, WrittenItem, comment, step, step_of, steps_in, trees}
use Rattle.written_model.specs.Filled.{Filling, new_trees, fill, derived_name, derived_names, made_step, filled_step, fill_item, filled_items}
use Rattle.written_model.specs.Named.{name_step, name_items}
use Rattle.written_model.specs.Found.{IsSearched}
use Rattle.fault_lines.specs.Refusals.{formula_too_long, told_number}
use Rattle.written_model.specs.Written.{Writing, Writes, formula_tokens, step_tokens, IsTooLong, IsLate, ItemIsSearched, after_filling, after_naming}
use Rattle.answer_laws.proofs.Elements.{first, later, nothing, parted}
use Rattle.answer_laws.proofs.Moved.{new_by}
use Rattle.answer_laws.proofs.Settled.{steps-made}
use Rattle.writing_laws.specs.TokenCounts.{formula_count, IsLong}
use Rattle.writing_laws.specs.HasLong.{AreShort, IsLongStep, filled_front, next_number, next_judgement, next_wanted, front_trees, used_names}
use Rattle.writing_laws.specs.HasLong.{IsFirstLong, own, wanted, IsFrontOf, FrontStays, FrontIsLate, GrowsShort, ShortIsNotLate}
use Rattle.writing_laws.proofs.Decide.{less_decided}
use Rattle.writing_laws.proofs.Counts.{formula_counted}
use Rattle.writing_laws.proofs.Fronts.{first_in_front, first_behind, first_there}
use Rattle.writing_laws.proofs.LateFaults.{long_late}

-- ---- what one step adds

-- the steps of what is filled, with the new ones and the last one behind them
pub steps_are : (is : List WrittenItem) (made : List WrittenStep) (last : WrittenStep) → steps_in (is ++ map step made ++ step last ∷ []) ≡ (steps_in is ++ made) ++ last ∷ []
steps_are is made last =
    filter_map-append step_of (is ++ map step made) (step last ∷ []) ∙ ap (λ xs. xs ++ last ∷ []) (filter_map-append step_of is (map step made) ∙ ap (λ xs. steps_in is ++ xs) (steps-made made))

pub tree_is : (numbers more : List ℕ) (s : SheetStep) (t : Tree) (g : Valuation) (o : Judgement) → (filled_step numbers more s t g o).tree ≡ t
tree_is numbers more s t g (stands v) = refl
tree_is numbers more s t g (accepted x) = refl

-- ---- what is filled of a front is a front of what is filled

append_nil : {X : Type 0} (xs : List X) → xs ≡ xs ++ []
append_nil [] = refl
append_nil (x ∷ xs) = ap (λ ys. x ∷ ys) (append_nil xs)

module _ (names : List Name) (bound : Bound) (g : Valuation) (judgements : List Judgement) where
  one_item : (f : Filling) (i : SheetItem) → IsFrontOf f.items (fill_item names bound g judgements f i).items
  one_item f (item.Comment lines) = (_, refl)
  one_item f (item.Step s) = (_, append_assoc f.items _ _)

  all_items : (is : List SheetItem) (f : Filling) → IsFrontOf f.items (fold (fill_item names bound g judgements) f is).items
  all_items [] f = ([], append_nil f.items)
  all_items (i ∷ is) f =
      let one = one_item f i in
      let rest = all_items is (fill_item names bound g judgements f i) in
      (one.0 ++ rest.0, rest.1 ∙ ap (λ xs. xs ++ rest.0) one.1 ∙ append_assoc f.items one.0 rest.0)

pub front_stays : FrontStays
front_stays names bound g judgements front rest =
    let empty : Filling = record { items = []; numbers = [] } in
    let more = all_items names bound g judgements rest (fold (fill_item names bound g judgements) empty front) in
    (more.0, ap (λ (f : Filling). f.items) (fold-append (fill_item names bound g judgements) empty front rest) ∙ more.1)

-- ---- filled, named and searched

-- a filled step and what it becomes: the name stays, and the number of tokens
record IsKept (db : Database) (d e : WrittenStep) : Type 0 where
  name : e.name ≡ d.name
  count : length (formula_tokens db e.tree) ≡ formula_count db d.tree

module _ (db : Database) (options : Options) (w : Writing) (text : List ℕ) (writes : Writes db text options w) where
  searched_step : (place : ℕ) (d e f : WrittenStep) → IsKept db d e → IsSearched db w.bound.place options.dv w.bound.pairs (steps_in (after_naming db options w)) e f → IsKept db d f
  searched_step place d e f h (IsSearched.not_searched k) = h
  searched_step place d e f h (IsSearched.none k m) = h
  searched_step place d e f h (IsSearched.found k m n) = record { name = h.name; count = h.count }

  named_step : (d : WrittenStep) → Contains (trees (steps_in (after_filling db options w))) d.tree → IsKept db d (name_step w.names d)
  named_step d o = record {
    name = refl;
    count = formula_counted db w.names d.tree (λ c n k. let named = writes.naming.named c n (d.tree, o, k) in (named.0, named.1));
  }

  all_kept : (is js : List WrittenItem) → ((t : Tree) → Contains (trees (steps_in is)) t → Contains (trees (steps_in (after_filling db options w))) t)
      → AllZip (ItemIsSearched db options w) (name_items w.names is) js → AllZip (IsKept db) (steps_in is) (steps_in js)
  all_kept [] [] o h = tt
  all_kept [] (j ∷ js) o h = absurd h
  all_kept (i ∷ is) [] o h = absurd h
  all_kept (comment lines ∷ is) (j ∷ js) o h = subst (λ x. AllZip (IsKept db) (steps_in is) (steps_in (x ∷ js))) (sym h.0) (all_kept is js o h.1)
  all_kept (step d ∷ is) (j ∷ js) o h =
      subst (λ x. AllZip (IsKept db) (d ∷ steps_in is) (steps_in (x ∷ js))) (sym h.0.1) (
        searched_step 0 d (name_step w.names d) h.0.0 (named_step d (o d.tree (first d.tree d.tree (trees (steps_in is)) refl))) h.0.2,
        all_kept is js (λ t k. o t (later t d.tree (trees (steps_in is)) k)) h.1,
      )

  longer : (d e : WrittenStep) → IsKept db d e → IsLongStep db d → IsTooLong db options w e
  longer d e h l = subst (λ n. most_formula_tokens < n) (sym h.count) l

  shorter : (d e : WrittenStep) → IsKept db d e → IsTooLong db options w e → IsLongStep db d
  shorter d e h l = subst (λ n. most_formula_tokens < n) h.count l

  refusal_is : (d e : WrittenStep) → IsKept db d e → formula_too_long e.name (told_number (length (step_tokens db options w e))) ≡ formula_too_long d.name (told_number (formula_count db d.tree))
  refusal_is d e h =
      ap (λ n. formula_too_long n (told_number (length (formula_tokens db e.tree)))) h.name
      ∙ ap (λ n. formula_too_long d.name (told_number n)) h.count

  pub filled_late : (d : WrittenStep) → IsFirstIn (IsLongStep db) (steps_in (after_filling db options w)) d
      → IsLate db options w (formula_too_long d.name (told_number (formula_count db d.tree)))
  filled_late d h =
      let there = first_there (IsLongStep db) (IsTooLong db options w) (IsKept db) longer shorter (steps_in (after_filling db options w)) (steps_in w.items) d
      (all_kept (after_filling db options w) w.items (λ t o. o) writes.searched) h in
      subst (IsLate db options w) (refusal_is d there.other there.related) (long_late db options w there.other there.is_first)

-- ---- new trees

module _ (db : Database) where
  -- a tree that is too long is none of those that are not
  not_same : (t : Tree) (ts : List Tree) → IsLong db t → AreShort db ts → list_any (same_tree t) ts ≡ false
  not_same t [] l h = refl
  not_same t (u ∷ us) l h = elim (cases_Bool (list_any (same_tree t) (u ∷ us))) [
    | inl e ↦ elim (or_cases (same_tree t u) (list_any (same_tree t) us) e) [
      | inl same ↦ absurd (h.0 (subst (IsLong db) ((same_tree-Decides t u).0 same) l))
      | inr rest ↦ let none = not_same t us l h.1 in let bad : true ≡ false = sym rest ∙ none in absurd (cc)
    ]
    | inr e ↦ e
  ]

  short_append : (ts us : List Tree) → AreShort db ts → AreShort db us → AreShort db (ts ++ us)
  short_append [] us h k = k
  short_append (t ∷ ts) us h k = (h.0, short_append ts us h.1 k)

  short_map : (es : List WrittenStep) → AreShort db (trees es) → AllByRecursion (λ e. IsLongStep db e → ⊥) es
  short_map [] h = tt
  short_map (e ∷ es) h = (h.0, short_map es h.1)

  -- the new trees up to the first that is too long
  pub new_before : (seen before : List Tree) (t : Tree) (more : List Tree) → AreShort db seen → AreShort db before → IsLong db t
      → (rest : List Tree) × (new_trees seen (before ++ t ∷ more) ≡ new_trees seen before ++ t ∷ rest)
  new_before seen [] t more h k l = (new_trees (seen ++ t ∷ []) more, rw (not_same t seen l h) refl)
  new_before seen (w ∷ ws) t more h k l = elim (cases_Bool (list_any (same_tree w) seen)) [
    | inl e ↦ rw e (new_before seen ws t more h k.1 l)
    | inr e ↦
        let rest = new_before (seen ++ w ∷ []) ws t more (short_append seen (w ∷ []) h (k.0, tt)) k.1 l in
        rw e (rest.0, ap (λ ts. w ∷ ts) rest.1)
  ]

  -- ---- new steps

  some_is : (x y : Name) → Some x ≡ Some y → x ≡ y
  some_is x y e = cc

  at_made : (before : List Tree) (t : Tree) (more : List Tree) (used : List Name) (name : Name) → AreShort db before → IsLong db t
      → slice_get (derived_names (suc (length before)) used) (length before) ≡ Some name
      → IsFirstIn (IsLongStep db) (map made_step (zip (derived_names (length (before ++ t ∷ more)) used) (before ++ t ∷ more))) (made_step (name, t))
  at_made [] t more used name h l e = inl (ap (λ n. Some (made_step (n, t))) (sym (some_is (derived_name used) name e)), l)
  at_made (b ∷ bs) t more used name h l e = inr (h.0, at_made bs t more (derived_name used ∷ used) name h.1 l e)

  all_short : (names : List Name) (ts : List Tree) → AreShort db ts → AllByRecursion (λ e. IsLongStep db e → ⊥) (map made_step (zip names ts))
  all_short [] ts h = tt
  all_short (n ∷ ns) [] h = tt
  all_short (n ∷ ns) (t ∷ ts) h = (h.0, all_short ns ts h.1)

  name_is : (numbers more : List ℕ) (s : SheetStep) (t : Tree) (g : Valuation) (o : Judgement) → (filled_step numbers more s t g o).name ≡ s.name
  name_is numbers more s t g (stands v) = refl
  name_is numbers more s t g (accepted x) = refl

  module _ (names : List Name) (bound : Bound) (g : Valuation) (judgements : List Judgement) (front : List SheetItem) (s : SheetStep)
      (short : AreShort db (front_trees db names bound g judgements front)) where
    abbrev f : Filling
    f = filled_front db names bound g judgements front

    abbrev behind : Filling
    behind = fill_item names bound g judgements f (item.Step s)

    abbrev new : List Tree
    new = new_trees (trees (steps_in f.items)) (next_wanted db names bound g judgements front)

    abbrev used : List Name
    used = used_names db names bound g judgements front

    abbrev made : List WrittenStep
    made = map made_step (zip (derived_names (length new) used) new)

    abbrev last : WrittenStep
    last =
        filled_step f.numbers (fill (trees (steps_in f.items)) (next_wanted db names bound g judgements front)).places s (formula bound g (next_number db names bound g judgements front)) g
        (next_judgement db names bound g judgements front)

    -- the first step that is too long, with its name and its tree
    record IsFirstStep (name : Name) (t : Tree) : Type 0 where
      long : WrittenStep
      is_first : IsFirstIn (IsLongStep db) (steps_in behind.items) long
      is_name : long.name ≡ name
      is_tree : long.tree ≡ t

    at_own : AreShort db (next_wanted db names bound g judgements front) → IsLong db (formula bound g (next_number db names bound g judgements front))
        → IsFirstStep s.name (formula bound g (next_number db names bound g judgements front))
    at_own h l =
        let i = next_number db names bound g judgements front in
        let o = next_judgement db names bound g judgements front in
        let places = (fill (trees (steps_in f.items)) (next_wanted db names bound g judgements front)).places in
        let tree = tree_is f.numbers places s (formula bound g i) g o in
        record {
          long = last;
          is_first = subst (λ es. IsFirstIn (IsLongStep db) es last) (sym (steps_are f.items made last))
              (first_behind (IsLongStep db) (steps_in f.items ++ made) (last ∷ []) last
              (all_append (steps_in f.items) made (short_map (steps_in f.items) short)
              (all_short (derived_names (length new) used) new (new_by (λ t. IsLong db t → ⊥) (trees (steps_in f.items)) (next_wanted db names bound g judgements front) h)))
              (inl (refl, subst (IsLong db) (sym tree) l)));
          is_name = name_is f.numbers places s (formula bound g i) g o;
          is_tree = tree;
        }
      where
        all_append : (xs ys : List WrittenStep) → AllByRecursion (λ e. IsLongStep db e → ⊥) xs → AllByRecursion (λ e. IsLongStep db e → ⊥) ys → AllByRecursion (λ e. IsLongStep db e → ⊥) (xs ++ ys)
        all_append [] ys h k = k
        all_append (x ∷ xs) ys h k = (h.0, all_append xs ys h.1 k)

    abbrev made_by : List Tree → List WrittenStep
    made_by ts = map made_step (zip (derived_names (length ts) used) ts)

    at_wanted : (before : List Tree) (t : Tree) (more : List Tree) (name : Name) → next_wanted db names bound g judgements front ≡ before ++ t ∷ more → AreShort db before → IsLong db t
        → slice_get (derived_names (suc (length (new_trees (front_trees db names bound g judgements front) before))) used)
        (length (new_trees (front_trees db names bound g judgements front) before))
        ≡ Some name
        → IsFirstStep name t
    at_wanted before t more name e h l n =
        let seen = front_trees db names bound g judgements front in
        let rest = new_before seen before t more short h l in
        let new_is : new ≡ new_trees seen before ++ t ∷ rest.0 = ap (new_trees seen) e ∙ rest.1 in
        let here = at_made (new_trees seen before) t rest.0 used name (new_by (λ u. IsLong db u → ⊥) seen before h) l n in
        let first_made : IsFirstIn (IsLongStep db) made (made_step (name, t)) = subst (λ ts. IsFirstIn (IsLongStep db) (made_by ts) (made_step (name, t))) (sym new_is) here in
        record {
          long = made_step (name, t);
          is_first = subst (λ es. IsFirstIn (IsLongStep db) es (made_step (name, t))) (sym (steps_are f.items made last))
              (first_in_front (IsLongStep db) (steps_in f.items ++ made) (last ∷ []) (made_step (name, t))
              (first_behind (IsLongStep db) (steps_in f.items) made (made_step (name, t)) (short_map (steps_in f.items) short) first_made));
          is_name = refl;
          is_tree = refl;
        }

    first_step : (name : Name) (t : Tree) → IsFirstLong db names bound g judgements front s name t → IsFirstStep name t
    first_step name t (own h l) = at_own h l
    first_step name t (wanted before u more n e h l k) = at_wanted before u more n e h l k

    front_items : (rest : List SheetItem) → IsFrontOf behind.items (filled_items names bound g judgements (front ++ item.Step s ∷ rest))
    front_items rest =
        let empty : Filling = record { items = []; numbers = [] } in
        let more = all_items names bound g judgements rest behind in
        (more.0, ap (λ (x : Filling). x.items) (fold-append (fill_item names bound g judgements) empty front (item.Step s ∷ rest)) ∙ more.1)

    first_of_all : (rest : List SheetItem) (d : WrittenStep) → IsFirstIn (IsLongStep db) (steps_in behind.items) d
        → IsFirstIn (IsLongStep db) (steps_in (filled_items names bound g judgements (front ++ item.Step s ∷ rest))) d
    first_of_all rest d h =
        let more = front_items rest in
        subst (λ is. IsFirstIn (IsLongStep db) (steps_in is) d) (sym more.1)
        (subst (λ es. IsFirstIn (IsLongStep db) es d) (sym (filter_map-append step_of behind.items more.0)) (first_in_front (IsLongStep db) (steps_in behind.items) (steps_in more.0) d h))

pub front_late : (db : Database) (options : Options) (w : Writing) → FrontIsLate db options w
front_late db options w text front rest s name t writes items h =
    let d = first_step db (step_names w.read) w.bound w.value w.judgements front s h.0 name t h.1 in
    let all = first_of_all db (step_names w.read) w.bound w.value w.judgements front s h.0 rest d.long d.is_first in
    let here = subst (λ is. IsFirstIn (IsLongStep db) (steps_in (filled_items (step_names w.read) w.bound w.value w.judgements is)) d.long) (sym items) all in
    subst (IsLate db options w) (ap (λ n. formula_too_long n (told_number (formula_count db d.long.tree))) d.is_name ∙ ap (λ u. formula_too_long name (told_number (formula_count db u))) d.is_tree)
    (filled_late db options w text writes d.long here)

-- ---- a front grows

module _ (db : Database) (names : List Name) (bound : Bound) (g : Valuation) (judgements : List Judgement) where
  abbrev trees_of : List SheetItem → List Tree
  trees_of front = front_trees db names bound g judgements front

  one_more : (front : List SheetItem) (i : SheetItem)
      → filled_front db names bound g judgements (front ++ i ∷ [])
      ≡ fill_item names bound g judgements (filled_front db names bound g judgements front) i
  one_more front i = let empty : Filling = record { items = []; numbers = [] } in fold-append (fill_item names bound g judgements) empty front (i ∷ [])

  trees_append : (es fs : List WrittenStep) → trees (es ++ fs) ≡ trees es ++ trees fs
  trees_append [] fs = refl
  trees_append (e ∷ es) fs = ap (λ ts. e.tree ∷ ts) (trees_append es fs)

  short_made : (ns : List Name) (ts : List Tree) → AreShort db ts → AreShort db (trees (map made_step (zip ns ts)))
  short_made [] ts h = tt
  short_made (n ∷ ns) [] h = tt
  short_made (n ∷ ns) (t ∷ ts) h = (h.0, short_made ns ts h.1)

  at_comment : (front : List SheetItem) (lines : List Name) → AreShort db (trees_of front) → AreShort db (trees_of (front ++ item.Comment lines ∷ []))
  at_comment front lines h =
      subst (λ (f : Filling). AreShort db (trees (steps_in f.items))) (sym (one_more front (item.Comment lines)))
      (subst (λ es. AreShort db (trees es))
      (sym
      (filter_map-append step_of (filled_front db names bound g judgements front).items (comment lines ∷ [])
      ∙ sym (append_nil (steps_in (filled_front db names bound g judgements front).items)))) h)

  at_step : (front : List SheetItem) (s : SheetStep) → AreShort db (trees_of front) → AreShort db (next_wanted db names bound g judgements front)
      → (IsLong db (formula bound g (next_number db names bound g judgements front)) → ⊥) → AreShort db (trees_of (front ++ item.Step s ∷ []))
  at_step front s h k l =
      let f : Filling = filled_front db names bound g judgements front in
      let ts = next_wanted db names bound g judgements front in
      let new = new_trees (trees (steps_in f.items)) ts in
      let i = next_number db names bound g judgements front in
      let o = next_judgement db names bound g judgements front in
      let places = (fill (trees (steps_in f.items)) ts).places in
      let made = map made_step (zip (derived_names (length new) (used_names db names bound g judgements front)) new) in
      let last = filled_step f.numbers places s (formula bound g i) g o in
      let short_new = short_made (derived_names (length new) (used_names db names bound g judgements front)) new (new_by (λ t. IsLong db t → ⊥) (trees (steps_in f.items)) ts k) in
      let short_last : AreShort db (trees (last ∷ [])) = ((λ n. l (subst (IsLong db) (tree_is f.numbers places s (formula bound g i) g o) n)), tt) in
      let whole : AreShort db (trees ((steps_in f.items ++ made) ++ last ∷ [])) =
      subst (AreShort db) (sym (trees_append (steps_in f.items ++ made) (last ∷ [])))
      (short_append db (trees (steps_in f.items ++ made)) (trees (last ∷ []))
      (subst (AreShort db) (sym (trees_append (steps_in f.items) made)) (short_append db (trees (steps_in f.items)) (trees made) h short_new)) short_last) in
      subst (λ (x : Filling). AreShort db (trees (steps_in x.items))) (sym (one_more front (item.Step s)))
      (subst (λ es. AreShort db (trees es)) (sym (steps_are f.items made last)) whole)

  -- the first of some trees that is too long, or none is
  record LongIn (ts : List Tree) : Type 0 where
    before : List Tree
    tree : Tree
    more : List Tree
    is : ts ≡ before ++ tree ∷ more
    short : AreShort db before
    long : IsLong db tree

  long_in : (ts : List Tree) → LongIn ts ⊎ AreShort db ts
  long_in [] = inr tt
  long_in (t ∷ ts) = elim (less_decided most_formula_tokens (formula_count db t)) [
    | inl l ↦ inl (record { before = []; tree = t; more = ts; is = refl; short = tt; long = l })
    | inr n ↦ elim (long_in ts) [
      | inl h ↦ inl (record { before = t ∷ h.before; tree = h.tree; more = h.more; is = ap (λ us. t ∷ us) h.is; short = (n, h.short); long = h.long })
      | inr h ↦ inr (n, h)
    ]
  ]

  last_name : (n : ℕ) (used : List Name) → (name : Name) × (slice_get (derived_names (suc n) used) n ≡ Some name)
  last_name zero used = (derived_name used, refl)
  last_name (suc n) used = last_name n (derived_name used ∷ used)

  next_told : (front : List SheetItem) (s : SheetStep) → AreShort db (trees_of front)
      → ((name : Name) × (t : Tree) × IsFirstLong db names bound g judgements front s name t) ⊎ AreShort db (trees_of (front ++ item.Step s ∷ []))
  next_told front s h = elim (long_in (next_wanted db names bound g judgements front)) [
    | inl l ↦
        let n = last_name (length (new_trees (trees_of front) l.before)) (used_names db names bound g judgements front) in
        inl (n.0, l.tree, wanted l.before l.tree l.more n.0 l.is l.short l.long n.1)
    | inr k ↦ elim (less_decided most_formula_tokens (formula_count db (formula bound g (next_number db names bound g judgements front)))) [
      | inl l ↦ inl (s.name, formula bound g (next_number db names bound g judgements front), own k l)
      | inr l ↦ inr (at_step front s h k l)
    ]
  ]

  pub grows_short : GrowsShort db names bound g judgements
  grows_short = record { comment = at_comment; step = at_step; told = next_told }

-- ---- where no filled formula is too long, no written one is

pub short_not_late : (db : Database) (options : Options) (w : Writing) → ShortIsNotLate db options w
short_not_late db options w text writes short e o l =
    by (steps_in (after_filling db options w)) (steps_in w.items) (all_kept db options w text writes (after_filling db options w) w.items (λ t k. k) writes.searched) short o
  where
    by : (ds es : List WrittenStep) → AllZip (IsKept db) ds es → AreShort db (trees ds) → Contains es e → ⊥
    by [] [] z h k = nothing e k
    by [] (x ∷ es) z h k = z
    by (d ∷ ds) [] z h k = z
    by (d ∷ ds) (x ∷ es) z h k = elim (parted e x es k) [
      | inl same ↦ h.0 (shorter db options w text writes d x z.0 (subst (IsTooLong db options w) (sym same) l))
      | inr rest ↦ by ds es z.1 h.1 rest
    ]
