-- The steps of a written worksheet can be spelled.
use Rattle.std.specs.Prelude.{◌≡◌, ◌≤◌, ◌++◌, ◌&&◌, ◌||◌, ◌==◌, not, nat_lt, ℕ, zero, suc, Bool, true, false, List, [], ◌∷◌, length, map, flat_map}
use Rattle.std.specs.Prelude.{filter_map, slice_get, Option, Some, None, codes, refl}
use Rattle.std.specs.List.{AllByRecursion, AllZip, list_all, last_or}
use Rattle.std.specs.Str.{bytes_eq}
use Rattle.std.proofs.Common.{sym, ap, subst, ◌∙◌, arith, length-append, lt-ltb}
use Rattle.std.proofs.lemmas.Bool.{and_from, and_parts, or_right, both_ways}
use Rattle.std.proofs.lemmas.Slice.Eq.{bytes_eq-Decides}
use Rattle.mm_base.specs.declared.symbols.Label.{Label}
use Rattle.mm_model.specs.Labels.{is_label}
use Rattle.mm_model.specs.Names.{Name}
use Rattle.mm_model.specs.BookFacts.{IsDatabase}
use Rattle.mm_model.specs.Book.{Database, label_name}
use Rattle.model_laws.specs.DatabaseLaws.{IsSymbolName}
use Rattle.sheet_text.specs.Forms.{marked_name}
use Rattle.sheet_text.specs.declared.sheet.Given.{Given}
use Rattle.sheet_text.specs.declared.sheet.Given.TheVariants as given
use Rattle.sheet_text.specs.declared.sheet.Sheet.{Sheet}
use Rattle.sheet_text.specs.declared.sheet.SheetItem.{SheetItem}
use Rattle.sheet_text.specs.declared.sheet.SheetItem.TheVariants as item
use Rattle.sheet_text.specs.declared.sheet.SheetStep.{SheetStep}
use Rattle.sheet_text.specs.Layout.{ended, steps, step_names, step_of_item, item_lines, proof_lines, lines_of, layout, header_line, pair_line}
use Rattle.sheet_text.specs.Spellable.{IsSpellable, is_token, is_place_below, is_step_spellable, are_steps_spellable, is_item_spellable, is_comment_spellable}
use Rattle.solve_model.specs.Binding.{is_qed}
use Rattle.solve_model.specs.BindFaults.{BindFaultAt, at_step, is_blank, begins_with_token, not_provable, wants_formula}
use Rattle.written_model.specs.declared.options.Options.{Options}
use Rattle.written_model.specs.WrittenSteps.{Use, WrittenStep, WrittenItem, comment, step, steps_in, trees}
use Rattle.written_model.specs.Named.{Naming, name_items}
use Rattle.written_model.specs.Found.{IsSearched}
use Rattle.written_model.specs.Written.{Writing, ItemIsSearched, after_naming, written_step, written_item}
use Rattle.answer_laws.proofs.Settled.{PlacesBelow, IsSettled, AreSettled}
use Rattle.answer_laws.proofs.WellTrees.{IsWell}
use Rattle.answer_laws.proofs.WellWritten.{IsToken, tokens_written}
use Rattle.answer_laws.proofs.Wordy.{IsWordy, IsWordyRead, HasGoodComment, HasReadComment, names_of, hyps_of}

-- ---- read steps and comments

read_wordy : (n : ℕ) (ss : List SheetStep) → are_steps_spellable n ss ≡ true → AllByRecursion IsWordyRead ss
read_wordy n [] h = tt
read_wordy n (s ∷ ss) h =
    let both = and_parts (is_step_spellable n s) (are_steps_spellable (suc n) ss) h in
    let a = and_parts _ _ both.0 in
    let b = and_parts _ _ a.0 in
    let c = and_parts _ _ b.0 in
    let d = and_parts _ _ c.0 in
    (record { name = d.0; mark = d.1; reference = b.1 }, read_wordy (suc n) ss both.1)

pub wordy_read : (s : Sheet) → IsSpellable s → AllByRecursion IsWordyRead (steps s)
wordy_read s h = read_wordy 0 (steps s) h.each_step

pub comments_read : (is : List SheetItem) → list_all is_item_spellable is ≡ true → AllByRecursion HasReadComment is
comments_read [] h = tt
comments_read (item.Comment lines ∷ is) h = let both = and_parts (is_comment_spellable lines) (list_all is_item_spellable is) h in (both.0, comments_read is both.1)
comments_read (item.Step s ∷ is) h = (tt, comments_read is h)

-- ---- naming and the search

-- what names, marks, references and comments say of items
pub record AreWordy (is : List WrittenItem) : Type 0 where
  pub steps : AllByRecursion IsWordy (steps_in is)
  pub comments : AllByRecursion HasGoodComment is

module _ (names : Naming) where
  pub named_steps : (is : List WrittenItem) → AreWordy is → AreWordy (name_items names is)
  named_steps [] h = record { steps = tt; comments = tt }
  named_steps (comment lines ∷ is) h = let r = named_steps is (record { steps = h.steps; comments = h.comments.1 }) in record { steps = r.steps; comments = (h.comments.0, r.comments) }
  named_steps (step e ∷ is) h =
      let r = named_steps is (record { steps = h.steps.1; comments = h.comments.1 }) in
      record { steps = (record { name = h.steps.0.name; mark = h.steps.0.mark; reference = h.steps.0.reference }, r.steps); comments = (tt, r.comments) }

  pub named_names : (is : List WrittenItem) → names_of (steps_in (name_items names is)) ≡ names_of (steps_in is)
  named_names [] = refl
  named_names (comment lines ∷ is) = named_names is
  named_names (step e ∷ is) = ap (λ ns. e.name ∷ ns) (named_names is)

  pub named_hyps : (is : List WrittenItem) → hyps_of (steps_in (name_items names is)) ≡ hyps_of (steps_in is)
  named_hyps [] = refl
  named_hyps (comment lines ∷ is) = named_hyps is
  named_hyps (step e ∷ is) = ap (λ ns. e.hyp ∷ ns) (named_hyps is)

module _ (db : Database) (labelled : (l : Label) (u : Use) → db.usable l ≡ Some u.assertion → is_label (label_name db l) ≡ true) (options : Options) (w : Writing) where
  abbrev es : List WrittenStep
  es = steps_in (after_naming db options w)

  step_searched : (e f : WrittenStep) → IsWordy e → IsSearched db w.bound.place options.dv w.bound.pairs es e f → IsWordy f
  step_searched e f h (IsSearched.not_searched k) = h
  step_searched e f h (IsSearched.none k m) = h
  step_searched e f h (IsSearched.found {c = c} {u = u} k m fits) = record { name = h.name; mark = h.mark; reference = labelled c.label u fits.is_usable }

  name_searched : (e f : WrittenStep) → IsSearched db w.bound.place options.dv w.bound.pairs es e f → (f.name ≡ e.name) × (f.hyp ≡ e.hyp)
  name_searched e f (IsSearched.not_searched k) = (refl, refl)
  name_searched e f (IsSearched.none k m) = (refl, refl)
  name_searched e f (IsSearched.found k m fits) = (refl, refl)

  pub items_searched : (is js : List WrittenItem) → AllZip (ItemIsSearched db options w) is js → AreWordy is → AreWordy js
  items_searched [] [] h k = record { steps = tt; comments = tt }
  items_searched [] (j ∷ js) h k = absurd h
  items_searched (i ∷ is) [] h k = absurd h
  items_searched (comment lines ∷ is) (j ∷ js) h k =
      let r = items_searched is js h.1 (record { steps = k.steps; comments = k.comments.1 }) in
      subst (λ x. AreWordy (x ∷ js)) (sym h.0) (record { steps = r.steps; comments = (k.comments.0, r.comments) })
  items_searched (step e ∷ is) (j ∷ js) h k =
      let r = items_searched is js h.1 (record { steps = k.steps.1; comments = k.comments.1 }) in
      subst (λ x. AreWordy (x ∷ js)) (sym h.0.1) (record { steps = (step_searched e h.0.0 k.steps.0 h.0.2, r.steps); comments = (tt, r.comments) })

  pub names_searched : (is js : List WrittenItem) → AllZip (ItemIsSearched db options w) is js → names_of (steps_in js) ≡ names_of (steps_in is)
  names_searched [] [] h = refl
  names_searched [] (j ∷ js) h = absurd h
  names_searched (i ∷ is) [] h = absurd h
  names_searched (comment lines ∷ is) (j ∷ js) h = ap (λ x. names_of (steps_in (x ∷ js))) h.0 ∙ names_searched is js h.1
  names_searched (step e ∷ is) (j ∷ js) h =
      ap (λ x. names_of (steps_in (x ∷ js))) h.0.1 ∙ ap (λ n. n ∷ names_of (steps_in js)) (name_searched e h.0.0 h.0.2).0 ∙ ap (λ ns. e.name ∷ ns) (names_searched is js h.1)

  pub hyps_searched : (is js : List WrittenItem) → AllZip (ItemIsSearched db options w) is js → hyps_of (steps_in js) ≡ hyps_of (steps_in is)
  hyps_searched [] [] h = refl
  hyps_searched [] (j ∷ js) h = absurd h
  hyps_searched (i ∷ is) [] h = absurd h
  hyps_searched (comment lines ∷ is) (j ∷ js) h = ap (λ x. hyps_of (steps_in (x ∷ js))) h.0 ∙ hyps_searched is js h.1
  hyps_searched (step e ∷ is) (j ∷ js) h =
      ap (λ x. hyps_of (steps_in (x ∷ js))) h.0.1 ∙ ap (λ n. n ∷ hyps_of (steps_in js)) (name_searched e h.0.0 h.0.2).1 ∙ ap (λ ns. e.hyp ∷ ns) (hyps_searched is js h.1)

-- ---- the steps of the written worksheet

pub written_steps : (db : Database) (is : List WrittenItem) → filter_map step_of_item (map (written_item db) is) ≡ map (written_step db) (steps_in is)
written_steps db [] = refl
written_steps db (comment lines ∷ is) = written_steps db is
written_steps db (step e ∷ is) = ap (λ ss. written_step db e ∷ ss) (written_steps db is)

below_all : (n : ℕ) (gs : List Given) → PlacesBelow n gs → list_all (is_place_below n) gs ≡ true
below_all n [] h = refl
below_all n (given.Gap ∷ gs) h = below_all n gs h.1
below_all n (given.Step k ∷ gs) h = and_from (nat_lt k n) (list_all (is_place_below n) gs) (lt-ltb k n h.0) (below_all n gs h.1)

module _ (db : Database) (named : AllByRecursion IsSymbolName db.symbols) (facts : IsDatabase db) (place : ℕ) (provable : IsToken db.provable) where
  step_spelled : (n : ℕ) (e : WrittenStep) → IsSettled n e → IsWordy e → IsWell db place e.tree → is_step_spellable n (written_step db e) ≡ true
  step_spelled n e a b c =
      and_from _ _ (and_from _ _ (and_from _ _ (and_from (is_label e.name) (e.hyp || not (marked_name e.name).0) b.name b.mark) (below_all n e.places a.places)) b.reference)
      (tokens_written db named facts place e.tree provable c)

  pub steps_spelled : (n : ℕ) (es : List WrittenStep) → AreSettled n es → AllByRecursion IsWordy es → AllByRecursion (IsWell db place) (trees es)
      → are_steps_spellable n (map (written_step db) es) ≡ true
  steps_spelled n [] a b c = refl
  steps_spelled n (e ∷ es) a b c =
      and_from (is_step_spellable n (written_step db e)) (are_steps_spellable (suc n) (map (written_step db) es)) (step_spelled n e a.0 b.0 c.0) (steps_spelled (suc n) es a.1 b.1 c.1)

pub comments_spelled : (db : Database) (is : List WrittenItem) → AllByRecursion HasGoodComment is → list_all is_item_spellable (map (written_item db) is) ≡ true
comments_spelled db [] h = refl
comments_spelled db (comment lines ∷ is) h = and_from (is_comment_spellable lines) (list_all is_item_spellable (map (written_item db) is)) h.0 (comments_spelled db is h.1)
comments_spelled db (step e ∷ is) h = comments_spelled db is h.1

-- ---- the provable typecode is a token

last_of : {X : Type 0} (o : Option X) (f : SheetStep → X) (s : SheetStep) (ss : List SheetStep)
    → (t : SheetStep) × (i : ℕ) × (slice_get (s ∷ ss) i ≡ Some t) × (last_or o (map f (s ∷ ss)) ≡ Some (f t))
last_of o f s [] = (s, 0, refl, refl)
last_of o f s (r ∷ rs) = let k = last_of (Some (f s)) f r rs in (k.0, suc k.1, k.2, k.3)

some_names : (a b : Name) → Some a ≡ Some b → a ≡ b
some_names a b e = cc

module _ (db : Database) (s : Sheet) (spellable : IsSpellable s) (sound : (line code : ℕ) → BindFaultAt db s line code → ⊥) where
  at_number : (n : ℕ) (ss : List SheetStep) (i : ℕ) (t : SheetStep) → are_steps_spellable n ss ≡ true → slice_get ss i ≡ Some t → list_all is_token t.formula ≡ true
  at_number n [] i t h e = absurd (cc)
  at_number n (r ∷ rs) zero t h e = let same : r ≡ t = cc in
      subst (λ (x : SheetStep). list_all is_token x.formula ≡ true) same
      (and_parts _ _ (and_parts (is_step_spellable n r) (are_steps_spellable (suc n) rs) h).0).1
  at_number n (r ∷ rs) (suc i) t h e = at_number (suc n) rs i t (and_parts (is_step_spellable n r) (are_steps_spellable (suc n) rs) h).1 e

  false_by : (b : Bool) → (b ≡ true → ⊥) → b ≡ false
  false_by true h = absurd (h refl)
  false_by false h = refl

  first_token : (t : SheetStep) (ts : List Name) → t.formula ≡ ts → list_all is_token ts ≡ true → is_blank t ≡ false → not_provable db t ≡ false → IsToken db.provable
  first_token t [] e h b p = absurd (both_ways (is_blank t) b (ap (λ xs. length xs == 0) e))
  first_token t (x ∷ xs) e h b p =
      let begins : begins_with_token db.provable t.formula ≡ true = not_not (is_blank t) (begins_with_token db.provable t.formula) b p in
      let same : bytes_eq x db.provable ≡ true = ap (begins_with_token db.provable) (sym e) ∙ begins in
      subst IsToken ((bytes_eq-Decides x db.provable).0 same) (and_parts (is_token x) (list_all is_token xs) h).0
    where
      not_not : (a c : Bool) → a ≡ false → (not a && not c) ≡ false → c ≡ true
      not_not true c h k = absurd (cc)
      not_not false true h k = refl
      not_not false false h k = absurd (cc)

  by_steps : (ss : List SheetStep) → steps s ≡ ss → IsToken db.provable
  by_steps [] e = let bad : None ≡ Some (codes "qed") = ap (λ (ts : List SheetStep). last_or None (map (λ (t : SheetStep). t.name) ts)) (sym e) ∙ spellable.qed_last in absurd (cc)
  by_steps (r ∷ rs) e =
      let q = last_of None (λ (t : SheetStep). t.name) r rs in
      let at : slice_get (steps s) q.1 ≡ Some q.0 = ap (λ ts. slice_get ts q.1) e ∙ q.2 in
      let name : q.0.name ≡ codes "qed" = some_names q.0.name (codes "qed") (sym q.3 ∙ ap (λ (ts : List SheetStep). last_or None (map (λ (t : SheetStep). t.name) ts)) (sym e) ∙ spellable.qed_last) in
      let qed : is_qed q.0 ≡ true = (bytes_eq-Decides q.0.name (codes "qed")).1 name in
      let wants : wants_formula q.0 ≡ false = false_by (wants_formula q.0) (λ y. sound q.0.line 69 (at_step 5 q.1 {rule = λ i t. wants_formula t} refl at y)) in
      let blank : is_blank q.0 ≡ false = second_false (q.0.hyp || is_qed q.0) (is_blank q.0) (or_right q.0.hyp (is_qed q.0) qed) wants in
      let provable : not_provable db q.0 ≡ false = false_by (not_provable db q.0) (λ y. sound q.0.line 65 (at_step 3 q.1 {rule = λ i t. not_provable db t} refl at y)) in
      first_token q.0 q.0.formula refl (at_number 0 (steps s) q.1 q.0 spellable.each_step at) blank provable
    where
      second_false : (a c : Bool) → a ≡ true → (a && c) ≡ false → c ≡ false
      second_false true c h k = k
      second_false false c h k = absurd (cc)

  pub provable_token : IsToken db.provable
  provable_token = by_steps (steps s) refl

-- ---- a text has a byte for each step

ended_length : (ls : List (List ℕ)) → length ls ≤ length (flat_map ended ls)
ended_length [] = omega arith
ended_length (l ∷ ls) =
    let rest = ended_length ls in
    let whole = length-append (ended l) (flat_map ended ls) in
    let mine = length-append l (10 ∷ []) in
    omega (arith, rest, whole, mine)

lines_length : (names : List Name) (is : List SheetItem) → length (filter_map step_of_item is) ≤ length (flat_map (item_lines names) is)
lines_length names [] = omega arith
lines_length names (item.Comment lines ∷ is) = let rest = lines_length names is in let whole = length-append lines (flat_map (item_lines names) is) in omega (arith, rest, whole)
lines_length names (item.Step s ∷ is) = let rest = lines_length names is in let whole = length-append (item_lines names (item.Step s)) (flat_map (item_lines names) is) in omega (arith, rest, whole)

pub steps_within : (s : Sheet) (proof : Option (List ℕ)) → length (steps s) ≤ length (layout s proof)
steps_within s proof =
    let front = header_line s ∷ flat_map (item_lines (step_names s)) s.items in
    let one = ended_length (lines_of s proof) in
    let two = lines_length (step_names s) s.items in
    let three = length-append ((front ++ proof_lines proof) ++ map pair_line s.pairs) (codes "$)" ∷ []) in
    let four = length-append (front ++ proof_lines proof) (map pair_line s.pairs) in
    let five = length-append front (proof_lines proof) in
    omega (arith, one, two, three, four, five)
