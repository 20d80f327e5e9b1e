-- Marks from the last step down are those of the steps below `qed`.
use Rattle.std.specs.Prelude.{◌≡◌, ◌<◌, ◌≤◌, ◌⊎◌, ℕ, zero, suc, Bool, true, false, List, [], ◌∷◌, length, map, replicate, slice_get, slice_set}
use Rattle.std.specs.Prelude.{slice_index_or, get_or, Contains, Some, codes, refl}
use Rattle.std.specs.Borrow.{Bor}
use Rattle.std.proofs.Common.{sym, ap, subst, ◌∙◌, arith, inl, inr}
use Rattle.std.proofs.lemmas.Bool.{cases_lt}
use Rattle.std.proofs.lemmas.List.{length-replicate, get_or-replicate}
use Rattle.std.proofs.lemmas.Option.{slice_get_within, slice_get-get_or, get_or_from_slice_get}
use Rattle.mm_database.specs.Opened.{Opened}
use Rattle.sheet_text.specs.declared.sheet.Given.{Given}
use Rattle.sheet_text.specs.declared.sheet.Given.TheVariants as given
use Rattle.solve_laws.proofs.Elements.{nothing, first, later, parted}
use Rattle.written_model.specs.WrittenSteps.{WrittenStep}
use Rattle.written_model.specs.ProofTrees.{Below, at_qed, listed}
use Rattle.writing_laws.specs.HasEnd.{PlacesAreEarlier}
use Rattle.written_steps.specs.declared.draft.DraftStep.{DraftStep}
use Rattle.written_steps.specs.Drafts.{refs, step_in}
use Rattle.step_report.specs.Marks.{mark_places, mark_step, IsReached, IsStepMarked, AreMarked}

IsMarked : List Bool → ℕ → Type 0
IsMarked marks i = slice_get marks i ≡ Some true

-- ---- one mark more

put_stays : (ms : List Bool) (k i : ℕ) → slice_get ms i ≡ Some true → slice_get (slice_set ms k true) i ≡ Some true
put_stays [] k i h = absurd (cc)
put_stays (m ∷ ms) zero zero h = refl
put_stays (m ∷ ms) zero (suc i) h = h
put_stays (m ∷ ms) (suc k) zero h = h
put_stays (m ∷ ms) (suc k) (suc i) h = put_stays ms k i h

put_there : (ms : List Bool) (k : ℕ) → k < length ms → slice_get (slice_set ms k true) k ≡ Some true
put_there [] k l = absurd (omega (arith, l))
put_there (m ∷ ms) zero l = refl
put_there (m ∷ ms) (suc k) l = put_there ms k (omega (arith, l))

put_only : (ms : List Bool) (k i : ℕ) → slice_get (slice_set ms k true) i ≡ Some true → (i ≡ k) ⊎ (slice_get ms i ≡ Some true)
put_only [] k i h = absurd (cc)
put_only (m ∷ ms) zero zero h = inl refl
put_only (m ∷ ms) zero (suc i) h = inr h
put_only (m ∷ ms) (suc k) zero h = inr h
put_only (m ∷ ms) (suc k) (suc i) h = elim (put_only ms k i h) [ inl e ↦ inl (ap (λ n. suc n) e) | inr r ↦ inr r ]

put_count : (ms : List Bool) (k : ℕ) → length (slice_set ms k true) ≡ length ms
put_count [] k = refl
put_count (m ∷ ms) zero = refl
put_count (m ∷ ms) (suc k) = ap (λ n. suc n) (put_count ms k)

-- ---- the marks of places

places_stay : (ps : List Given) (ms : List Bool) (i : ℕ) → slice_get ms i ≡ Some true → slice_get (mark_places ms ps) i ≡ Some true
places_stay [] ms i h = h
places_stay (given.Gap ∷ ps) ms i h = places_stay ps ms i h
places_stay (given.Step k ∷ ps) ms i h = places_stay ps (slice_set ms k true) i (put_stays ms k i h)

places_count : (ps : List Given) (ms : List Bool) → length (mark_places ms ps) ≡ length ms
places_count [] ms = refl
places_count (given.Gap ∷ ps) ms = places_count ps ms
places_count (given.Step k ∷ ps) ms = places_count ps (slice_set ms k true) ∙ put_count ms k

number_of : (n : ℕ) → Given → ℕ
number_of n given.Gap = n
number_of n (given.Step k) = k

places_there : (ps : List Given) (ms : List Bool) (k : ℕ) → Contains ps (given.Step k) → k < length ms → slice_get (mark_places ms ps) k ≡ Some true
unfolding number_of
places_there [] ms k c l = absurd (nothing (given.Step k) c)
places_there (given.Gap ∷ ps) ms k c l = elim (parted (given.Step k) given.Gap ps c) [
  | inl e ↦ absurd (cc)
  | inr r ↦ places_there ps ms k r l
]
places_there (given.Step m ∷ ps) ms k c l = elim (parted (given.Step k) (given.Step m) ps c) [
  | inl e ↦
      let same : m ≡ k = ap (number_of 0) e in
      places_stay ps (slice_set ms m true) k (subst (λ n. slice_get (slice_set ms n true) k ≡ Some true) (sym same) (put_there ms k l))
  | inr r ↦ places_there ps (slice_set ms m true) k r (subst (λ n. k < n) (sym (put_count ms m)) l)
]

places_only : (ps : List Given) (ms : List Bool) (i : ℕ) → slice_get (mark_places ms ps) i ≡ Some true → Contains ps (given.Step i) ⊎ (slice_get ms i ≡ Some true)
places_only [] ms i h = inr h
places_only (given.Gap ∷ ps) ms i h = elim (places_only ps ms i h) [ inl c ↦ inl (later (given.Step i) given.Gap ps c) | inr r ↦ inr r ]
places_only (given.Step k ∷ ps) ms i h = elim (places_only ps (slice_set ms k true) i h) [
  | inl c ↦ inl (later (given.Step i) (given.Step k) ps c)
  | inr r ↦ elim (put_only ms k i r) [
    | inl e ↦ inl (first (given.Step i) (given.Step k) ps (ap (λ n. given.Step n) (sym e)))
    | inr s ↦ inr s
  ]
]

-- ---- the steps from a number on

-- what is marked is below `qed`; each step from the number on that is below `qed` is marked, and so is what it lists
pub record IsMarkedTo (es : List WrittenStep) (n : ℕ) (marks : List Bool) : Type 0 where
  pub sound : (i : ℕ) → slice_get marks i ≡ Some true → Below es i
  pub whole : (i : ℕ) → n ≤ i → Below es i → slice_get marks i ≡ Some true
  pub lists : (i j : ℕ) (e : WrittenStep) → n ≤ j → Below es j → slice_get es j ≡ Some e → Contains e.places (given.Step i) → slice_get marks i ≡ Some true

module _ (es : List WrittenStep) (earlier : PlacesAreEarlier es) where
  abbrev IsQed : ℕ → Type 0
  IsQed k = (e : WrittenStep) × (slice_get es k ≡ Some e) × (e.name ≡ codes "qed")

  abbrev IsListed : ℕ → Type 0
  IsListed k = (j : ℕ) × (e : WrittenStep) × (k < j) × Below es j × (slice_get es j ≡ Some e) × Contains e.places (given.Step k)

  inverted : (k : ℕ) → Below es k → IsQed k ⊎ IsListed k
  inverted k (at_qed i {e = e} s n) = inl (e, s, n)
  inverted k (listed j {e = e} b s o) = inr (j, e, earlier j e _ s o, b, s, o)

  within : (k : ℕ) → Below es k → k < length es
  within k b = elim (inverted k b) [
    | inl q ↦ slice_get_within es k q.0 q.1
    | inr p ↦ let low = p.2 in let high = slice_get_within es p.0 p.1 p.4 in omega (arith, low, high)
  ]

  pub starts : (marks : List Bool) (n : ℕ) → n ≡ length es → marks ≡ replicate n false → IsMarkedTo es n marks
  starts marks n l e = record {
    sound = λ i h. absurd (no_mark n i (ap (λ ms. slice_get ms i) (sym e) ∙ h));
    whole = λ i low b. absurd (let high = within i b in omega (arith, l, low, high));
    lists = λ i j x low b s c. absurd (let high = within j b in omega (arith, l, low, high));
  }
    where
      no_mark : (n i : ℕ) → slice_get (replicate n false) i ≡ Some true → ⊥
      no_mark n i h =
          let inside : i < n = subst (λ m. i < m) (length-replicate n false) (slice_get_within (replicate n false) i true h) in
          let one : get_or (replicate n false) i false ≡ true = get_or_from_slice_get (replicate n false) i true false h in
          let other : get_or (replicate n false) i false ≡ false = get_or-replicate n i false false inside in
          let bad : true ≡ false = sym one ∙ other in
          cc

  pub ends : (marks : List Bool) → length marks ≡ length es → IsMarkedTo es zero marks → AreMarked es marks
  ends marks c m = record { count = c; sound = m.sound; whole = λ i b. m.whole i (omega arith) b }

  module _ (n : ℕ) (marks : List Bool) (e : WrittenStep) (count : length marks ≡ length es) (s : slice_get es n ≡ Some e) (m : IsMarkedTo es (suc n) marks) where
    same_step : (x : WrittenStep) → slice_get es n ≡ Some x → e ≡ x
    same_step x h = some_is (sym s ∙ h)
      where
        some_is : {X : Type 0} {x y : X} → Some x ≡ Some y → x ≡ y
        some_is e = cc

    mark_at : slice_index_or marks n false ≡ true → slice_get marks n ≡ Some true
    mark_at h = slice_get-get_or marks n false (subst (λ k. n < k) (sym count) (slice_get_within es n e s)) ∙ ap Some h

    reached_below : IsReached marks n e.name → Below es n
    reached_below (inl h) = m.sound n (mark_at h)
    reached_below (inr h) = at_qed n s h

    below_reached : Below es n → IsReached marks n e.name
    below_reached b = elim (inverted n b) [
      | inl q ↦ inr (ap (λ (x : WrittenStep). x.name) (same_step q.0 q.1) ∙ q.2)
      | inr p ↦ inl (get_or_from_slice_get marks n true false (m.lists n p.0 p.1 (let low = p.2 in omega (arith, low)) p.3 p.4 p.5))
    ]

    at_or_above : (i : ℕ) → n ≤ i → (n ≡ i) ⊎ (suc n ≤ i)
    at_or_above i l = elim (cases_lt n i) [ inl h ↦ inr (omega (arith, h)) | inr h ↦ inl (omega (arith, l, h)) ]

    with_reached : IsReached marks n e.name → IsMarkedTo es n (mark_places (slice_set marks n true) e.places)
    with_reached r = record { sound = sound; whole = whole; lists = lists }
      where
        sound : (i : ℕ) → slice_get (mark_places (slice_set marks n true) e.places) i ≡ Some true → Below es i
        sound i h = elim (places_only e.places (slice_set marks n true) i h) [
          | inl c ↦ listed n (reached_below r) s c
          | inr k ↦ elim (put_only marks n i k) [ inl same ↦ subst (Below es) (sym same) (reached_below r) | inr old ↦ m.sound i old ]
        ]

        stays : (i : ℕ) → slice_get marks i ≡ Some true → slice_get (mark_places (slice_set marks n true) e.places) i ≡ Some true
        stays i h = places_stay e.places (slice_set marks n true) i (put_stays marks n i h)

        whole : (i : ℕ) → n ≤ i → Below es i → slice_get (mark_places (slice_set marks n true) e.places) i ≡ Some true
        whole i l b = elim (at_or_above i l) [
          | inl same ↦
              subst (λ k. slice_get (mark_places (slice_set marks n true) e.places) k ≡ Some true) same
              (places_stay e.places (slice_set marks n true) n (put_there marks n (subst (λ k. n < k) (sym count) (slice_get_within es n e s))))
          | inr above ↦ stays i (m.whole i above b)
        ]

        lists : (i j : ℕ) (x : WrittenStep) → n ≤ j → Below es j → slice_get es j ≡ Some x → Contains x.places (given.Step i)
            → slice_get (mark_places (slice_set marks n true) e.places) i ≡ Some true
        lists i j x l b h c = elim (at_or_above j l) [
          | inl same ↦
              let at : slice_get es n ≡ Some x = subst (λ k. slice_get es k ≡ Some x) (sym same) h in
              let own : Contains e.places (given.Step i) = subst (λ (y : WrittenStep). Contains y.places (given.Step i)) (sym (same_step x at)) c in
              let low : i < n = earlier n x i at c in
              let high : n < length marks = subst (λ k. n < k) (sym count) (slice_get_within es n e s) in
              let inside : i < length (slice_set marks n true) = subst (λ k. i < k) (sym (put_count marks n)) (omega (arith, low, high)) in
              places_there e.places (slice_set marks n true) i own inside
          | inr above ↦ stays i (m.lists i j x above b h c)
        ]

    not_reached : (IsReached marks n e.name → ⊥) → IsMarkedTo es n marks
    not_reached r = record { sound = m.sound; whole = whole; lists = lists }
      where
        whole : (i : ℕ) → n ≤ i → Below es i → slice_get marks i ≡ Some true
        whole i l b = elim (at_or_above i l) [
          | inl same ↦ absurd (r (below_reached (subst (Below es) (sym same) b)))
          | inr above ↦ m.whole i above b
        ]

        lists : (i j : ℕ) (x : WrittenStep) → n ≤ j → Below es j → slice_get es j ≡ Some x → Contains x.places (given.Step i) → slice_get marks i ≡ Some true
        lists i j x l b h c = elim (at_or_above j l) [
          | inl same ↦ absurd (r (below_reached (subst (Below es) (sym same) b)))
          | inr above ↦ m.lists i j x above b h c
        ]

    by_test : (reached : Bool) → (reached ≡ true → IsReached marks n e.name) → (IsReached marks n e.name → reached ≡ true) → IsMarkedTo es n (mark_step reached marks n e.places)
    by_test true f g = with_reached (f refl)
    by_test false f g = not_reached (λ r. let bad = g r in cc)

    pub one_more : (new : List Bool) → IsStepMarked marks n e.name e.places new → IsMarkedTo es n new
    one_more new h = subst (IsMarkedTo es n) (sym h.new_is) (by_test h.reached h.is_reached.0 h.is_reached.1)

-- ---- the steps of a draft

-- so for the steps from a number on, in any database
pub record IsMarking (steps : List (Bor DraftStep)) (left : ℕ) (marks : List Bool) : Type 0 where
  pub fits : left ≤ length steps
  pub count : length marks ≡ length steps
  pub marked : (d : Opened) → PlacesAreEarlier (map (step_in d) (refs steps)) → IsMarkedTo (map (step_in d) (refs steps)) left marks

pub count_is : (d : Opened) (steps : List (Bor DraftStep)) → length (map (step_in d) (refs steps)) ≡ length steps
count_is d [] = refl
count_is d (s ∷ steps) = ap (λ n. suc n) (count_is d steps)

pub step_there : (d : Opened) (steps : List (Bor DraftStep)) (k : ℕ) (r : Bor DraftStep) → k < length steps → slice_get (map (step_in d) (refs steps)) k ≡ Some (step_in d (get_or steps k r).now)
step_there d [] k r l = absurd (omega (arith, l))
step_there d (s ∷ steps) zero r l = refl
step_there d (s ∷ steps) (suc k) r l = step_there d steps k r (omega (arith, l))

pub marking_starts : (steps : List (Bor DraftStep)) (marks : List Bool) → marks ≡ replicate (length steps) false → IsMarking steps (length steps) marks
marking_starts steps marks e = record {
  fits = omega arith;
  count = ap length e ∙ length-replicate (length steps) false;
  marked = λ d earlier. starts (map (step_in d) (refs steps)) earlier marks (length steps) (sym (count_is d steps)) e;
}

pub marking_goes : (steps : List (Bor DraftStep)) (left n : ℕ) (marks new : List Bool) (r : Bor DraftStep) → IsMarking steps left marks → left ≡ suc n → get_or steps n r ≡ r
    → IsStepMarked marks n r.now.name r.now.places new → length new ≡ length marks → IsMarking steps n new
marking_goes steps left n marks new r m l g h c =
    let inside : n < length steps = let fits = m.fits in omega (arith, fits, l) in
    record {
      fits = omega (arith, inside);
      count = c ∙ m.count;
      marked = λ d earlier.
          one_more (map (step_in d) (refs steps)) earlier n marks (step_in d r.now) (m.count ∙ sym (count_is d steps))
          (step_there d steps n r inside ∙ ap (λ (x : Bor DraftStep). Some (step_in d x.now)) g) (subst (λ k. IsMarkedTo (map (step_in d) (refs steps)) k marks) l (m.marked d earlier)) new h;
    }

pub marking_ends : (steps : List (Bor DraftStep)) (marks : List Bool) (d : Opened) → IsMarking steps zero marks → PlacesAreEarlier (map (step_in d) (refs steps))
    → AreMarked (map (step_in d) (refs steps)) marks
marking_ends steps marks d m earlier = ends (map (step_in d) (refs steps)) earlier marks (m.count ∙ sym (count_is d steps)) (m.marked d earlier)
