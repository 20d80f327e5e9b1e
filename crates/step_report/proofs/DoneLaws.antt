-- A worksheet whose steps are done is finished.
use Rattle.std.specs.Prelude.{◌≡◌, ◌<◌, ◌↔◌, ◌&&◌, ◌||◌, ◌≤◌, ℕ, zero, suc, Bool, true, false, not, IsTrue, List, [], ◌∷◌, length, map, slice_get, slice_index_or, get_or, Some, refl}
use Rattle.std.specs.Borrow.{Bor}
use Rattle.std.proofs.Common.{sym, ap, subst, ◌∙◌, arith, inl, inr}
use Rattle.std.proofs.lemmas.Bool.{cases_lt}
use Rattle.std.proofs.lemmas.Option.{slice_get_within, slice_get-get_or, get_or_from_slice_get}
use Rattle.mm_base.specs.declared.symbols.Pair.{Pair}
use Rattle.mm_database.specs.Opened.{Opened}
use Rattle.written_model.specs.declared.options.DvMode.{DvMode}
use Rattle.written_model.specs.declared.report.ReportLine.{ReportLine}
use Rattle.written_model.specs.Found.{is_ground}
use Rattle.written_model.specs.Report.{report_of}
use Rattle.written_model.specs.ProofTrees.{Below, is_complete, Finished}
use Rattle.written_model.specs.WrittenSteps.{WrittenStep, steps_in}
use Rattle.writing_laws.specs.HasEnd.{PlacesAreEarlier}
use Rattle.written_steps.specs.declared.draft.DraftItem.{DraftItem}
use Rattle.written_steps.specs.declared.draft.DraftStep.{DraftStep}
use Rattle.written_steps.specs.Drafts.{drafts_in, items_in, refs, step_in}
use Rattle.step_report.specs.Marks.{is_done, IsDoneAt, AreDone, AreMarked}
use Rattle.written_steps.proofs.DraftLists.{steps_are}
use Rattle.step_report.proofs.MarkLaws.{count_is, step_there}

-- ---- the steps

-- the claims at a step
and_left : (a b : Bool) → (a && b) ≡ true → a ≡ true
and_left true b h = refl
and_left false b h = absurd (cc)

and_right : (a b : Bool) → (a && b) ≡ true → b ≡ true
and_right true b h = h
and_right false b h = absurd (cc)

or_not : (a b : Bool) → (not a || b) ≡ true → a ≡ true → b ≡ true
or_not true b h e = h
or_not false b h e = absurd (cc)

not_or : (a b : Bool) → (a ≡ true → b ≡ true) → (not a || b) ≡ true
not_or true b f = f refl
not_or false b f = refl

module _ (mode : DvMode) (allowed : List Pair) (es : List WrittenStep) (marks : List Bool) (marked : AreMarked es marks) where
  abbrev mark_of : ℕ → Bool
  mark_of i = slice_index_or marks i false

  mark_below : (i : ℕ) → i < length es → mark_of i ≡ true → Below es i
  mark_below i l h = marked.sound i (slice_get-get_or marks i false (subst (λ n. i < n) (sym marked.count) l) ∙ ap Some h)

  below_mark : (i : ℕ) → Below es i → mark_of i ≡ true
  below_mark i b = get_or_from_slice_get marks i true false (marked.whole i b)

  done_hyp : (b : Bool) (e : WrittenStep) → is_done mode allowed b e ≡ true → e.hyp ≡ true → is_ground e.tree ≡ true
  done_hyp true e h k = and_left (is_ground e.tree) (is_complete mode allowed e) h
  done_hyp false e h k = or_not e.hyp (is_ground e.tree) h k

  done_below : (b : Bool) (e : WrittenStep) → b ≡ true → is_done mode allowed b e ≡ true → (is_ground e.tree && is_complete mode allowed e) ≡ true
  done_below true e k h = h
  done_below false e k h = absurd (cc)

  pub done_finished : AreDone mode allowed es marks (length es) → Finished mode allowed es
  done_finished d = record {
    hyps = λ i e s h. done_hyp (mark_of i) e (at i e s) h;
    no_work = λ i e s b. and_left (is_ground e.tree) (is_complete mode allowed e) (done_below (mark_of i) e (below_mark i b) (at i e s));
    complete = λ i e s b. and_right (is_ground e.tree) (is_complete mode allowed e) (done_below (mark_of i) e (below_mark i b) (at i e s));
  }
    where
      at : (i : ℕ) (e : WrittenStep) → slice_get es i ≡ Some e → is_done mode allowed (mark_of i) e ≡ true
      at i e s = d.each i (slice_get_within es i e s) e s

  done_by : (b : Bool) (e : WrittenStep) → (e.hyp ≡ true → is_ground e.tree ≡ true) → (b ≡ true → is_ground e.tree ≡ true) → (b ≡ true → is_complete mode allowed e ≡ true)
      → is_done mode allowed b e ≡ true
  done_by true e h g k = rw (g refl, k refl) refl
  done_by false e h g k = not_or e.hyp (is_ground e.tree) h

  pub finished_done : Finished mode allowed es → AreDone mode allowed es marks (length es)
  finished_done f = record {
    each = λ i l e s.
        done_by (mark_of i) e (f.hyps i e s) (λ h. f.no_work i e s (mark_below i l h)) (λ h. f.complete i e s (mark_below i l h));
  }

-- ---- up to a number

pub done_none : (mode : DvMode) (allowed : List Pair) (es : List WrittenStep) (marks : List Bool) → AreDone mode allowed es marks zero
done_none mode allowed es marks = record { each = λ i l e s. absurd (omega (arith, l)) }

pub done_more : (mode : DvMode) (allowed : List Pair) (es : List WrittenStep) (marks : List Bool) (n m : ℕ) → m ≡ suc n → AreDone mode allowed es marks n → IsDoneAt mode allowed es marks n
    → AreDone mode allowed es marks m
done_more mode allowed es marks n m g d h = record {
  each = λ i l e s. elim (cases_lt i n) [
    | inl low ↦ d.each i low e s
    | inr high ↦ let same : n ≡ i = last_is i l high in subst (λ k. IsDoneAt mode allowed es marks k) same h e s
  ];
}
  where
    last_is : (i : ℕ) → i < m → n ≤ i → n ≡ i
    last_is i l h = omega (arith, g, l, h)

-- the steps of a draft below a number are done, by a report on them
pub record AreDoneTo (d : Opened) (steps : List (Bor DraftStep)) (report : List ReportLine) (marks : List Bool) (n : ℕ) : Type 0 where
  pub each : (mode : DvMode) (allowed : List Pair) → report ≡ map (report_of mode allowed) (map (step_in d) (refs steps)) → AreDone mode allowed (map (step_in d) (refs steps)) marks n

some_is : {X : Type 0} {x y : X} → Some x ≡ Some y → x ≡ y
some_is e = cc

map_there : (f : WrittenStep → ReportLine) (es : List WrittenStep) (n : ℕ) (e : WrittenStep) → slice_get es n ≡ Some e → slice_get (map f es) n ≡ Some (f e)
map_there f [] n e h = absurd (cc)
map_there f (x ∷ es) zero e h = ap (λ y. Some (f y)) (some_is h)
map_there f (x ∷ es) (suc n) e h = map_there f es n e h

pub done_at : (d : Opened) (steps : List (Bor DraftStep)) (report : List ReportLine) (marks : List Bool) (n : ℕ) (r : Bor DraftStep) (line : ReportLine) (b : Bool) → n < length steps
    → r ≡ get_or steps n r
    → line ≡ get_or report n line → ((mode : DvMode) (allowed : List Pair) → line ≡ report_of mode allowed (step_in d r.now)
    → b ≡ is_done mode allowed (slice_index_or marks n false) (step_in d r.now))
    → (mode : DvMode) (allowed : List Pair) → report ≡ map (report_of mode allowed) (map (step_in d) (refs steps)) → IsTrue b ↔ IsDoneAt mode allowed (map (step_in d) (refs steps)) marks n
done_at d steps report marks n r line b inside g l h mode allowed told = (to, from)
  where
    there : slice_get (map (step_in d) (refs steps)) n ≡ Some (step_in d r.now)
    there = step_there d steps n r inside ∙ ap (λ (x : Bor DraftStep). Some (step_in d x.now)) (sym g)

    line_is : line ≡ report_of mode allowed (step_in d r.now)
    line_is =
        l ∙ ap (λ xs. get_or xs n line) told
        ∙ get_or_from_slice_get (map (report_of mode allowed) (map (step_in d) (refs steps))) n (report_of mode allowed (step_in d r.now)) line
        (map_there (report_of mode allowed) (map (step_in d) (refs steps)) n (step_in d r.now) there)

    to : b ≡ true → IsDoneAt mode allowed (map (step_in d) (refs steps)) marks n
    to e x s = subst (λ y. is_done mode allowed (slice_index_or marks n false) y ≡ true) (some_is (sym there ∙ s)) (sym (h mode allowed line_is) ∙ e)

    from : IsDoneAt mode allowed (map (step_in d) (refs steps)) marks n → b ≡ true
    from f = h mode allowed line_is ∙ f (step_in d r.now) there

-- ---- all steps

pub finished_is : (d : Opened) (items : List DraftItem) (first steps : List (Bor DraftStep)) (lines report : List ReportLine) (marks marks_in : List Bool) (b : Bool)
    → refs first ≡ drafts_in items → refs steps ≡ drafts_in items → lines ≡ report → marks_in ≡ marks
    → (PlacesAreEarlier (map (step_in d) (refs first)) → AreMarked (map (step_in d) (refs first)) marks)
    → ((mode : DvMode) (allowed : List Pair) → lines ≡ map (report_of mode allowed) (map (step_in d) (refs steps))
    → IsTrue b ↔ AreDone mode allowed (map (step_in d) (refs steps)) marks_in (length steps))
    → (mode : DvMode) (allowed : List Pair) → report ≡ map (report_of mode allowed) (steps_in (items_in d items)) → PlacesAreEarlier (steps_in (items_in d items))
    → IsTrue b ↔ Finished mode allowed (steps_in (items_in d items))
finished_is d items first steps lines report marks marks_in b ef es el em hm hd mode allowed told earlier =
    (λ h. done_finished mode allowed (steps_in (items_in d items)) marks marked (done.0 h), λ h. done.1 (finished_done mode allowed (steps_in (items_in d items)) marks marked h))
  where
    same : (xs : List (Bor DraftStep)) → refs xs ≡ drafts_in items → map (step_in d) (refs xs) ≡ steps_in (items_in d items)
    same xs e = ap (map (step_in d)) e ∙ sym (steps_are d items)

    marked : AreMarked (steps_in (items_in d items)) marks
    marked = subst (λ ws. AreMarked ws marks) (same first ef) (hm (subst PlacesAreEarlier (sym (same first ef)) earlier))

    counted : lines ≡ map (report_of mode allowed) (map (step_in d) (refs steps))
        → IsTrue b ↔ AreDone mode allowed (map (step_in d) (refs steps)) marks_in (length (map (step_in d) (refs steps)))
    counted h = subst (λ n. IsTrue b ↔ AreDone mode allowed (map (step_in d) (refs steps)) marks_in n) (sym (count_is d steps)) (hd mode allowed h)

    at_steps : lines ≡ map (report_of mode allowed) (steps_in (items_in d items)) → IsTrue b ↔ AreDone mode allowed (steps_in (items_in d items)) marks_in (length (steps_in (items_in d items)))
    at_steps = subst (λ ws. lines ≡ map (report_of mode allowed) ws → IsTrue b ↔ AreDone mode allowed ws marks_in (length ws)) (same steps es) counted

    done : IsTrue b ↔ AreDone mode allowed (steps_in (items_in d items)) marks (length (steps_in (items_in d items)))
    done = subst (λ ms. IsTrue b ↔ AreDone mode allowed (steps_in (items_in d items)) ms (length (steps_in (items_in d items)))) em (at_steps (el ∙ told))
