-- The names, the marks, the references and the comments of a filled worksheet.
use Rattle.std.specs.Prelude.{◌≡◌, ◌≤◌, ◌+◌, ◌^◌, ◌++◌, ◌||◌, not, ℕ, Bool, true, false, List, [], ◌∷◌, length, map, fold, zip, filter_map, slice_index_or, Option, Some, None, refl}
use Rattle.std.specs.List.{AllByRecursion, last_or}
use Rattle.std.specs.Option.{option_map_or}
use Rattle.std.specs.Str.{bytes_eq}
use Rattle.std.proofs.Common.{sym, ap, subst, ◌∙◌, arith, inl, inr, ◌⊎◌, append_assoc, length-append}
use Rattle.std.proofs.lemmas.Bool.{cases_Bool, or_cases, or_parts, or_left, or_right, both_ways}
use Rattle.std.proofs.lemmas.List.{map-append, length-map}
use Rattle.std.proofs.lemmas.Slice.Eq.{bytes_eq-Decides}
use Rattle.std.proofs.lemmas.List.Elements.{filter_map-append}
use Rattle.mm_base.specs.declared.tree.Tree.{Tree}
use Rattle.mm_model.specs.Labels.{is_label}
use Rattle.mm_model.specs.Names.{Name, contains, has_twice}
use Rattle.sheet_text.specs.Forms.{marked_name}
use Rattle.sheet_text.specs.declared.sheet.SheetItem.{SheetItem}
use Rattle.sheet_text.specs.declared.sheet.SheetItem.TheVariants as item
use Rattle.sheet_text.specs.declared.sheet.SheetStep.{SheetStep}
use Rattle.sheet_text.specs.Layout.{step_of_item}
use Rattle.sheet_text.specs.Spellable.{is_comment_spellable}
use Rattle.solve_model.specs.declared.bound.Bound.{Bound}
use Rattle.solve_model.specs.declared.verdict.Verdict.TheVariants as verdict
use Rattle.solve_model.specs.Solutions.{Valuation, formula}
use Rattle.solve_model.specs.Verdicts.{Judgement, accepted, stands}
use Rattle.written_model.specs.WrittenSteps.{WrittenStep, WrittenItem, comment, step, step_of, steps_in, trees}
use Rattle.written_model.specs.Filled.{Filling, fill, derived_name, derived_names, made_step, wanted_by, filled_step, fill_item}
use Rattle.answer_laws.proofs.Settled.{made_count, steps-made}
use Rattle.answer_laws.proofs.DerivedNames.{same_name, contains-append, contained_in, not_contained_in, twice_push, IsNewName, derived_extend}
use Rattle.answer_laws.proofs.Elements.{all_by-append}

-- the name, the mark and the reference of a written step
pub record IsWordy (e : WrittenStep) : Type 0 where
  pub name : is_label e.name ≡ true
  pub mark : (e.hyp || not (marked_name e.name).0) ≡ true
  pub reference : option_map_or is_label e.reference (not e.hyp) ≡ true

-- and of a step that was read
pub record IsWordyRead (s : SheetStep) : Type 0 where
  pub name : is_label s.name ≡ true
  pub mark : (s.hyp || not (marked_name s.name).0) ≡ true
  pub reference : option_map_or is_label s.reference (not s.hyp) ≡ true

abbrev pub HasGoodComment : WrittenItem → Type 0
HasGoodComment (comment lines) = is_comment_spellable lines ≡ true
HasGoodComment (step e) = Unit {0}

abbrev pub HasReadComment : SheetItem → Type 0
HasReadComment (item.Comment lines) = is_comment_spellable lines ≡ true
HasReadComment (item.Step s) = Unit {0}

abbrev pub names_of : List WrittenStep → List Name
names_of es = map (λ (e : WrittenStep). e.name) es

abbrev pub hyps_of : List WrittenStep → List Bool
hyps_of es = map (λ (e : WrittenStep). e.hyp) es

abbrev pub read_names : List SheetStep → List Name
read_names ss = map (λ (s : SheetStep). s.name) ss

abbrev pub read_hyps : List SheetStep → List Bool
read_hyps ss = map (λ (s : SheetStep). s.hyp) ss

-- ---- lists

pub last_push : {X : Type 0} (o : Option X) (xs : List X) (x : X) → last_or o (xs ++ x ∷ []) ≡ Some x
last_push o [] x = refl
last_push o (y ∷ ys) x = last_push (Some y) ys x

twice_before : (xs : List Name) (x : Name) (ys : List Name) → has_twice (xs ++ x ∷ ys) ≡ false → contains xs x ≡ false
twice_before [] x ys h = refl
twice_before (z ∷ zs) x ys h =
    let parts = or_parts (contains (zs ++ x ∷ ys) z) (has_twice (zs ++ x ∷ ys)) h in
    let apart = sym (contains-append zs (x ∷ ys) z) ∙ parts.0 in
    let inner = or_parts (contains zs z) (bytes_eq z x || contains ys z) apart in
    let differ : bytes_eq z x ≡ false = (or_parts (bytes_eq z x) (contains ys z) inner.1).0 in
    elim (cases_Bool (bytes_eq x z)) [
      | inl e ↦ absurd (both_ways (bytes_eq z x) differ (subst (λ y. bytes_eq z y ≡ true) (sym (same_name x z e)) (itself z)))
      | inr e ↦ rw e (twice_before zs x ys parts.1)
    ]
  where
    itself : (a : Name) → bytes_eq a a ≡ true
    itself a = (bytes_eq-Decides a a).1 refl

stands_there : (xs : List Name) (x : Name) (ys : List Name) → contains (xs ++ x ∷ ys) x ≡ true
stands_there xs x ys =
    contains-append xs (x ∷ ys) x ∙ or_right (contains xs x) (bytes_eq x x || contains ys x) (or_left (bytes_eq x x) (contains ys x) ((bytes_eq-Decides x x).1 refl))

made_names : (used : List Name) (ts : List Tree) → names_of (map made_step (zip (derived_names (length ts) used) ts)) ≡ derived_names (length ts) used
made_names used [] = refl
made_names used (t ∷ ts) = ap (λ ns. derived_name used ∷ ns) (made_names (derived_name used ∷ used) ts)

new_wordy : (used ds : List Name) (ts : List Tree) → AllByRecursion (IsNewName used) ds → AllByRecursion IsWordy (map made_step (zip ds ts))
new_wordy used [] ts h = tt
new_wordy used (d ∷ ds) [] h = tt
new_wordy used (d ∷ ds) (t ∷ ts) h = (record { name = h.0.label; mark = ap not h.0.unmarked; reference = refl }, new_wordy used ds ts h.1)

comments_made : (es : List WrittenStep) → AllByRecursion HasGoodComment (map step es)
comments_made [] = tt
comments_made (e ∷ es) = (tt, comments_made es)

none_new : (used ds : List Name) (n : Name) → AllByRecursion (IsNewName used) ds → contains ds n ≡ true → contains used n ≡ false
none_new used [] n h k = absurd (cc)
none_new used (d ∷ ds) n h k = elim (or_cases (bytes_eq n d) (contains ds n) k) [
  | inl e ↦ ap (contains used) (same_name n d e) ∙ h.0.is_new
  | inr l ↦ none_new used ds n h.1 l
]

module _ (bound : Bound) (g : Valuation) (judgements : List Judgement) (all : List SheetStep) where
  abbrev names : List Name
  names = read_names all

  abbrev one : Filling → SheetItem → Filling
  one f i = fill_item names bound g judgements f i

  -- what is kept, where these steps were passed
  pub record Wordy (f : Filling) (done : List SheetStep) : Type 0 where
    pub steps : AllByRecursion IsWordy (steps_in f.items)
    pub comments : AllByRecursion HasGoodComment f.items
    pub differ : has_twice (names_of (steps_in f.items)) ≡ false
    pub origin : (n : Name) → contains (names_of (steps_in f.items)) n ≡ true → (contains (read_names done) n ≡ true) ⊎ (contains names n ≡ false)
    pub last : last_or None (names_of (steps_in f.items)) ≡ last_or None (read_names done)
    pub last_hyp : last_or None (hyps_of (steps_in f.items)) ≡ last_or None (read_hyps done)

  step_wordy : (ns more : List ℕ) (s : SheetStep) (t : Tree) (o : Judgement) → IsWordyRead s → IsWordy (filled_step ns more s t g o)
  step_wordy ns more s t (stands v) h = record { name = h.name; mark = h.mark; reference = h.reference }
  step_wordy ns more s t (accepted x) h = record { name = h.name; mark = h.mark; reference = h.reference }

  step_name : (ns more : List ℕ) (s : SheetStep) (t : Tree) (o : Judgement) → (filled_step ns more s t g o).name ≡ s.name
  step_name ns more s t (stands v) = refl
  step_name ns more s t (accepted x) = refl

  step_hyp : (ns more : List ℕ) (s : SheetStep) (t : Tree) (o : Judgement) → (filled_step ns more s t g o).hyp ≡ s.hyp
  step_hyp ns more s t (stands v) = refl
  step_hyp ns more s t (accepted x) = refl

  module _ (f : Filling) (s : SheetStep) where
    abbrev i : ℕ
    i = length f.numbers

    abbrev o : Judgement
    o = slice_index_or judgements i (stands verdict.NoRef)

    abbrev es : List WrittenStep
    es = steps_in f.items

    abbrev ts : List Tree
    ts = (fill (trees es) (wanted_by g o)).made

    abbrev used : List Name
    used = names ++ names_of es

    abbrev made : List WrittenStep
    made = map made_step (zip (derived_names (length ts) used) ts)

    abbrev last_step : WrittenStep
    last_step = filled_step f.numbers (fill (trees es) (wanted_by g o)).places s (formula bound g i) g o

    pub steps_are : steps_in (one f (item.Step s)).items ≡ es ++ made ++ last_step ∷ []
    steps_are =
        filter_map-append step_of (f.items ++ map step made) (step last_step ∷ []) ∙ ap (λ xs. xs ++ last_step ∷ []) (filter_map-append step_of f.items (map step made))
        ∙ ap (λ xs. es ++ xs ++ last_step ∷ []) (steps-made made)

    pub steps_count : length (steps_in (one f (item.Step s)).items) ≡ length es + length ts + 1
    steps_count = ap length steps_are ∙ length-append (es ++ made) (last_step ∷ []) ∙ ap (λ n. n + 1) (length-append es made ∙ ap (λ n. length es + n) (made_count used ts))

    names_are : names_of (steps_in (one f (item.Step s)).items) ≡ names_of es ++ derived_names (length ts) used ++ s.name ∷ []
    names_are =
        ap names_of steps_are ∙ map-append (λ (e : WrittenStep). e.name) (es ++ made) (last_step ∷ []) ∙ ap (λ xs. xs ++ last_step.name ∷ []) (map-append (λ (e : WrittenStep). e.name) es made)
        ∙ ap (λ xs. names_of es ++ xs ++ last_step.name ∷ []) (made_names used ts) ∙ ap (λ n. names_of es ++ derived_names (length ts) used ++ n ∷ []) (step_name f.numbers _ s (formula bound g i) o)

    hyps_are : hyps_of (steps_in (one f (item.Step s)).items) ≡ hyps_of (es ++ made) ++ s.hyp ∷ []
    hyps_are =
        ap hyps_of steps_are ∙ map-append (λ (e : WrittenStep). e.hyp) (es ++ made) (last_step ∷ []) ∙ ap (λ b. hyps_of (es ++ made) ++ b ∷ []) (step_hyp f.numbers _ s (formula bound g i) o)

    pub at_step : (done : List SheetStep) → Wordy f done → IsWordyRead s → contains (read_names done) s.name ≡ false → contains names s.name ≡ true
        → length names + length es + length ts + 1 ≤ 2 ^ 64 → Wordy (one f (item.Step s)) (done ++ s ∷ [])
    at_step done h read fresh listed small =
        let count = length-append names (names_of es) in
        let es_count : length (names_of es) ≡ length es = length-map es (λ (e : WrittenStep). e.name) in
        let ds = derived_names (length ts) used in
        let new = derived_extend (length ts) used (names_of es) (omega (arith, count, es_count, small))
        (λ n k. contains-append names (names_of es) n ∙ or_right (contains names n) (contains (names_of es) n) k) h.differ in
        let in_used : contains used s.name ≡ true = contains-append names (names_of es) s.name ∙ or_left (contains names s.name) (contains (names_of es) s.name) listed in
        let not_before : contains (names_of es) s.name ≡ false = elim (cases_Bool (contains (names_of es) s.name)) [
          | inl e ↦ elim (h.origin s.name e) [ inl d ↦ absurd (both_ways (contains (read_names done) s.name) fresh d) | inr d ↦ absurd (both_ways (contains names s.name) d listed) ]
          | inr e ↦ e
        ] in
        let not_new : contains ds s.name ≡ false = elim (cases_Bool (contains ds s.name)) [
          | inl e ↦ absurd (both_ways (contains used s.name) (none_new used ds s.name new.are_new e) in_used)
          | inr e ↦ e
        ] in
        let whole = twice_push (names_of es ++ ds) s.name new.differ (not_contained_in (names_of es) ds s.name not_before not_new) in
        let done_names : read_names (done ++ s ∷ []) ≡ read_names done ++ s.name ∷ [] = map-append (λ (r : SheetStep). r.name) done (s ∷ []) in
        let done_hyps : read_hyps (done ++ s ∷ []) ≡ read_hyps done ++ s.hyp ∷ [] = map-append (λ (r : SheetStep). r.hyp) done (s ∷ []) in
        record {
          steps = subst (AllByRecursion IsWordy) (sym steps_are)
              (all_by-append IsWordy (es ++ made) (last_step ∷ []) (all_by-append IsWordy es made h.steps (new_wordy used ds ts new.are_new))
              (step_wordy f.numbers _ s (formula bound g i) o read, tt));
          comments = all_by-append HasGoodComment (f.items ++ map step made) (step last_step ∷ []) (all_by-append HasGoodComment f.items (map step made) h.comments (comments_made made)) (tt, tt);
          differ = ap has_twice names_are ∙ whole;
          origin = λ n k. elim (contained_in (names_of es ++ ds) (s.name ∷ []) n (ap (λ ns. contains ns n) (sym names_are) ∙ k)) [
            | inl l ↦ elim (contained_in (names_of es) ds n l) [
              | inl a ↦ elim (h.origin n a) [
                | inl d ↦ inl (ap (λ ns. contains ns n) done_names ∙ contains-append (read_names done) (s.name ∷ []) n ∙ or_left (contains (read_names done) n) (contains (s.name ∷ []) n) d)
                | inr d ↦ inr d
              ]
              | inr a ↦ inr (or_parts (contains names n) (contains (names_of es) n) (sym (contains-append names (names_of es) n) ∙ none_new used ds n new.are_new a)).0
            ]
            | inr l ↦ inl (ap (λ ns. contains ns n) done_names ∙ contains-append (read_names done) (s.name ∷ []) n ∙ or_right (contains (read_names done) n) (contains (s.name ∷ []) n) l)
          ];
          last = ap (last_or None) names_are ∙ last_push None (names_of es ++ ds) s.name ∙ sym (ap (last_or None) done_names ∙ last_push None (read_names done) s.name);
          last_hyp = ap (last_or None) hyps_are ∙ last_push None (hyps_of (es ++ made)) s.hyp ∙ sym (ap (last_or None) done_hyps ∙ last_push None (read_hyps done) s.hyp);
        }

  comment_steps : (f : Filling) (lines : List Name) → steps_in (one f (item.Comment lines)).items ≡ steps_in f.items
  comment_steps f lines = filter_map-append step_of f.items (comment lines ∷ []) ∙ nil (steps_in f.items)
    where
      nil : (xs : List WrittenStep) → xs ++ [] ≡ xs
      nil [] = refl
      nil (x ∷ xs) = ap (λ ys. x ∷ ys) (nil xs)

  at_comment : (f : Filling) (lines : List Name) (done : List SheetStep) → is_comment_spellable lines ≡ true → Wordy f done → Wordy (one f (item.Comment lines)) done
  at_comment f lines done c h =
      let same = comment_steps f lines in
      record {
        steps = subst (AllByRecursion IsWordy) (sym same) h.steps;
        comments = all_by-append HasGoodComment f.items (comment lines ∷ []) h.comments (c, tt);
        differ = ap (λ xs. has_twice (names_of xs)) same ∙ h.differ;
        origin = λ n k. h.origin n (ap (λ xs. contains (names_of xs) n) (sym same) ∙ k);
        last = ap (λ xs. last_or None (names_of xs)) same ∙ h.last;
        last_hyp = ap (λ xs. last_or None (hyps_of xs)) same ∙ h.last_hyp;
      }

  -- ---- all items

  more_steps : (is : List SheetItem) (f : Filling) → length (steps_in f.items) ≤ length (steps_in (fold one f is).items)
  more_steps [] f = omega arith
  more_steps (item.Comment lines ∷ is) f = let same = ap length (comment_steps f lines) in let rest = more_steps is (one f (item.Comment lines)) in omega (arith, same, rest)
  more_steps (item.Step s ∷ is) f = let count = steps_count f s in let rest = more_steps is (one f (item.Step s)) in omega (arith, count, rest)

  -- each step that was read is written
  pub all_count : (is : List SheetItem) (f : Filling) → length (steps_in f.items) + length (filter_map step_of_item is) ≤ length (steps_in (fold one f is).items)
  all_count [] f = plus_zero (length (steps_in f.items))
    where
      plus_zero : (n : ℕ) → n + 0 ≤ n
      plus_zero n = omega arith
  all_count (item.Comment lines ∷ is) f = let same = ap length (comment_steps f lines) in let rest = all_count is (one f (item.Comment lines)) in omega (arith, same, rest)
  all_count (item.Step s ∷ is) f = let count = steps_count f s in let rest = all_count is (one f (item.Step s)) in omega (arith, count, rest)

  all_wordy : (is : List SheetItem) (f : Filling) (done : List SheetStep) → all ≡ done ++ filter_map step_of_item is → has_twice names ≡ false
      → AllByRecursion IsWordyRead (filter_map step_of_item is) → AllByRecursion HasReadComment is
      → length names + length (steps_in (fold one f is).items) ≤ 2 ^ 64 → Wordy f done → Wordy (fold one f is) all
  all_wordy [] f done e twice steps comments small h = subst (Wordy f) (sym (e ∙ nil done)) h
    where
      nil : (xs : List SheetStep) → xs ++ [] ≡ xs
      nil [] = refl
      nil (x ∷ xs) = ap (λ ys. x ∷ ys) (nil xs)
  all_wordy (item.Comment lines ∷ is) f done e twice steps comments small h =
      all_wordy is (one f (item.Comment lines)) done e twice steps comments.1 small (at_comment f lines done comments.0 h)
  all_wordy (item.Step s ∷ is) f done e twice steps comments small h =
      let rest = filter_map step_of_item is in
      let split : names ≡ read_names done ++ s.name ∷ read_names rest = ap read_names e ∙ map-append (λ (r : SheetStep). r.name) done (s ∷ rest) in
      let fresh = twice_before (read_names done) s.name (read_names rest) (ap has_twice (sym split) ∙ twice) in
      let listed : contains names s.name ≡ true = ap (λ ns. contains ns s.name) split ∙ stands_there (read_names done) s.name (read_names rest) in
      let count = steps_count f s in
      let more = more_steps is (one f (item.Step s)) in
      all_wordy is (one f (item.Step s)) (done ++ s ∷ []) (e ∙ sym (append_assoc done (s ∷ []) rest)) twice steps.1 comments.1 small
      (at_step f s done h steps.0 fresh listed (omega (arith, count, more, small)))

  pub filled_wordy : (is : List SheetItem) → filter_map step_of_item is ≡ all → has_twice names ≡ false → AllByRecursion IsWordyRead all → AllByRecursion HasReadComment is
      → length names + length (steps_in (fold one (record { items = []; numbers = [] }) is).items) ≤ 2 ^ 64 → Wordy (fold one (record { items = []; numbers = [] }) is) all
  filled_wordy is e twice steps comments small =
      all_wordy is (record { items = []; numbers = [] }) [] (sym e) twice (subst (AllByRecursion IsWordyRead) (sym e) steps) comments small
      (record { steps = tt; comments = tt; differ = refl; origin = λ n k. absurd (cc); last = refl; last_hyp = refl })
