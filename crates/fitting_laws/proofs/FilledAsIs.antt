-- Nothing is filled where every step fits as it is written.
use Rattle.std.specs.Prelude.{◌≡◌, ◌<◌, ◌+◌, nat_lt, ℕ, zero, suc, Bool, true, false, List, [], ◌∷◌, length, map, take, Contains, slice_get, slice_index_or}
use Rattle.std.specs.Prelude.{Option, Some, None, refl}
use Rattle.std.specs.List.{AllByRecursion, AllZip}
use Rattle.std.proofs.Common.{sym, ap, subst, ◌∙◌, arith, inl, inr, append-nil, drop_of_length-le, ltb-true, ltb-false}
use Rattle.mm_base.specs.declared.symbols.Pair.{Pair}
use Rattle.mm_base.specs.declared.tree.Tree.{Tree}
use Rattle.mm_model.specs.Book.{Database}
use Rattle.sheet_text.specs.declared.sheet.Given.{Given}
use Rattle.sheet_text.specs.declared.sheet.Given.TheVariants as given
use Rattle.sheet_text.specs.declared.sheet.SheetStep.{SheetStep}
use Rattle.solve_model.specs.declared.bound.Bound.{Bound}
use Rattle.solve_model.specs.Solutions.{Valuation, Solves, formula, instance}
use Rattle.solve_model.specs.Verdicts.{Judgement, asked, accepted_in}
use Rattle.solve_laws.proofs.Elements.{nothing}
use Rattle.written_model.specs.declared.report.ReportVerdict.TheVariants as report
use Rattle.written_model.specs.Filled.{filled_step, wanted_by, written_place, use_of}
use Rattle.written_model.specs.WrittenSteps.{Use, WrittenStep, trees}
use Rattle.written_model.specs.Again.{judgement_by, judgements_from}
use Rattle.again_laws.proofs.Filling.{IsFilling, IsOwn, IsMade, FillsAt}
use Rattle.again_laws.proofs.Lists.{get_below, get_within, index_from_get, some_same, zip_long}
use Rattle.again_laws.proofs.Setting.{SameStep}
use Rattle.again_laws.proofs.ValuesStay.{judgement_there}
use Rattle.fitting_laws.proofs.Expected.{step_of, IsExpected}
use Rattle.fitting_laws.proofs.Scenes.{Scene, AreBelow, formula_stays}
use Rattle.fitting_laws.proofs.Values.{use_is}

-- ---- numbers that rise and leave none out

module _ (ns : List ℕ) (m : ℕ) (rise : (j k a b : ℕ) → slice_get ns j ≡ Some a → slice_get ns k ≡ Some b → j < k → a < b)
    (hit : (i : ℕ) → i < m → (k : ℕ) × (slice_get ns k ≡ Some i)) (within : (k a : ℕ) → slice_get ns k ≡ Some a → a < m) where
  abbrev Own : ℕ → Type 0
  Own k = (a : ℕ) → slice_get ns k ≡ Some a → a ≡ k

  not_less : (k : ℕ) → ((j : ℕ) → j < k → Own j) → (a : ℕ) → slice_get ns k ≡ Some a → a < k → ⊥
  not_less k ih a at less =
      let long = get_within ns k a at in
      let there = get_below ns a (omega (arith, less, long)) in
      let same : there.0 ≡ a = ih a less there.0 there.1 in
      let up : there.0 < a = rise a k there.0 a there.1 at less in
      omega (arith, same, up)

  not_more : (k : ℕ) → ((j : ℕ) → j < k → Own j) → (a : ℕ) → slice_get ns k ≡ Some a → k < a → ⊥
  not_more k ih a at more =
      let bound = within k a at in
      let h = hit k (omega (arith, more, bound)) in
      by h.0 h.1 (nat_lt h.0 k) refl (nat_lt k h.0) refl
    where
      by : (j : ℕ) → slice_get ns j ≡ Some k → (b : Bool) → nat_lt j k ≡ b → (c : Bool) → nat_lt k j ≡ c → ⊥
      by j j_at true e c f = let less = ltb-true j k e in let same : k ≡ j = ih j less k j_at in omega (arith, less, same)
      by j j_at false e true f = let less = ltb-true k j f in let up : a < k = rise k j a k at j_at less in omega (arith, up, more)
      by j j_at false e false f =
          let one = ltb-false j k e in
          let two = ltb-false k j f in
          let same : j ≡ k = omega (arith, one, two) in
          let equal : a ≡ k = some_same a k (sym at ∙ ap (slice_get ns) (sym same) ∙ j_at) in
          omega (arith, equal, more)

  own_step : (k : ℕ) → ((j : ℕ) → j < k → Own j) → Own k
  own_step k ih a at = by (nat_lt a k) refl (nat_lt k a) refl
    where
      by : (b : Bool) → nat_lt a k ≡ b → (c : Bool) → nat_lt k a ≡ c → a ≡ k
      by true e c f = absurd (not_less k ih a at (ltb-true a k e))
      by false e true f = absurd (not_more k ih a at (ltb-true k a f))
      by false e false f = let one = ltb-false a k e in let two = ltb-false k a f in omega (arith, one, two)

  own_below : (n k : ℕ) → k < n → Own k
  own_below zero k l = absurd (omega (arith, l))
  own_below (suc n) k l = own_step k (λ j less. own_below n j (omega (arith, l, less)))

  pub numbers_own : (k a : ℕ) → slice_get ns k ≡ Some a → a ≡ k
  numbers_own k = own_below (suc k) k (omega arith)

-- lists with the same element at each place are one
pub lists_same : {X : Type 0} (xs ys : List X) → ((k : ℕ) (x : X) → slice_get xs k ≡ Some x → slice_get ys k ≡ Some x) → ((k : ℕ) (y : X) → slice_get ys k ≡ Some y → slice_get xs k ≡ Some y) → xs ≡ ys
lists_same [] [] f h = refl
lists_same [] (y ∷ ys) f h = absurd (clash (h 0 y refl))
  where
    clash : None ≡ Some y → ⊥
    clash q = cc
lists_same (x ∷ xs) [] f h = absurd (clash (f 0 x refl))
  where
    clash : None ≡ Some x → ⊥
    clash q = cc
lists_same (x ∷ xs) (y ∷ ys) f h = ap (λ z. z ∷ xs) (sym (some_same y x (f 0 x refl))) ∙ ap (λ zs. y ∷ zs) (lists_same xs ys (λ k. f (suc k)) (λ k. h (suc k)))

taken_index : (k n : ℕ) (ns : List ℕ) → k < n → k < length ns → slice_index_or (take n ns) k 0 ≡ slice_index_or ns k 0
taken_index k zero ns l m = absurd (omega (arith, l))
taken_index k (suc n) [] l m = absurd (omega (arith, m))
taken_index zero (suc n) (x ∷ ns) l m = refl
taken_index (suc k) (suc n) (x ∷ ns) l m = taken_index k n ns (omega (arith, l)) (omega (arith, m))

places_stay : (front : List ℕ) (n : ℕ) (gs : List Given) → ((k : ℕ) → k < n → slice_index_or front k 0 ≡ k) → AreBelow n gs → map (written_place front) gs ≡ gs
places_stay front n [] h b = refl
places_stay front n (given.Gap ∷ gs) h b = absurd b
places_stay front n (given.Step k ∷ gs) h b = ap (λ m. given.Step m ∷ map (written_place front) gs) (h k b.0) ∙ ap (λ xs. given.Step k ∷ xs) (places_stay front n gs h b.1)

module _ (db : Database) (bound : Bound) (pairs : List Pair) (ss : List SheetStep) (ts : List Tree) (es : List WrittenStep) (S : Scene db bound pairs ss ts es)
    (g : Valuation) (solved : AllByRecursion (Solves bound g) (accepted_in (judgements_from 0 es)))
    (read : List SheetStep) (same : (k : ℕ) (r : SheetStep) → slice_get read k ≡ Some r → (s : SheetStep) × (slice_get ss k ≡ Some s) × SameStep s r)
    (ds : List WrittenStep) (numbers : List ℕ) (F : IsFilling bound g (judgements_from 0 es) read ds numbers) (count : length numbers ≡ length es) where
  abbrev J : List Judgement
  J = judgements_from 0 es

  nothing_wanted : (k : ℕ) (e : WrittenStep) → slice_get es k ≡ Some e → wanted_by g (judgement_by k e e.by) ≡ []
  nothing_wanted k e at = let r = S.view.rows k e at in from r.source r.tree e r.is
    where
      from : (s : SheetStep) (t : Tree) (x : WrittenStep) → IsExpected db bound.place pairs (take k ts) s t x → wanted_by g (judgement_by k x x.by) ≡ []
      from s t _ (IsExpected.hyp h) = refl
      from s t _ (IsExpected.fits h f) =
          let long = zip_long _ f.by.assertion.hyps s.places f.hyps in
          ap (map (instance g k)) (drop_of_length-le f.by.assertion.hyps (omega (arith, long)))

  judged_at : (k : ℕ) (o : Judgement) → slice_get J k ≡ Some o → (e : WrittenStep) × (slice_get es k ≡ Some e) × (o ≡ judgement_by k e e.by)
  judged_at k o at = let r = judgement_there 0 es k o at in let place : 0 + k ≡ k = omega arith in (r.0, r.1, r.2 ∙ ap (λ n. judgement_by n r.0 r.0.by) place)

  none_made : (d : WrittenStep) → IsMade bound g J read d → ⊥
  none_made d m =
      let r = judged_at m.by m.judgement m.judgement_at in
      let empty : wanted_by g m.judgement ≡ [] = ap (wanted_by g) r.2 ∙ nothing_wanted m.by r.0 r.1 in
      nothing d.tree (subst (λ xs. Contains xs d.tree) empty m.wanted)

  number_of : (i : ℕ) (d : WrittenStep) → slice_get ds i ≡ Some d → (k : ℕ) × (slice_get numbers k ≡ Some i)
  number_of i d at = elim (F.from i d at) [ inl r ↦ r | inr m ↦ absurd (none_made d m) ]

  numbers_are : (k a : ℕ) → slice_get numbers k ≡ Some a → a ≡ k
  numbers_are = numbers_own numbers (length ds) F.rise (λ i l. let d = get_below ds i l in number_of i d.0 d.1) (λ k a at. let r = F.own k a at in get_within ds a r.0 r.1)

  front_is : (n k : ℕ) → k < n → k < length numbers → slice_index_or (take n numbers) k 0 ≡ k
  front_is n k l m = let r = get_below numbers k m in taken_index k n numbers l m ∙ index_from_get numbers k r.0 0 r.1 ∙ numbers_are k r.0 r.1

  -- a step that is filled is the one that is expected
  own_is : (k : ℕ) (d : WrittenStep) → IsOwn bound g J read (trees ds) numbers k k d → (e : WrittenStep) × (slice_get es k ≡ Some e) × (d ≡ e)
  own_is k d o =
      let j = judged_at k o.judgement o.judgement_at in
      let wanted : wanted_by g o.judgement ≡ [] = ap (wanted_by g) j.2 ∙ nothing_wanted k j.0 j.1 in
      let more : o.more ≡ [] = none (wanted_by g o.judgement) o.more wanted o.fills in
      let s = same k o.source o.source_at in
      let r = S.view.rows k j.0 j.1 in
      let source : s.0 ≡ r.source = some_same s.0 r.source (sym s.1 ∙ r.source_at) in
      let tree : formula bound g k ≡ r.tree = (let b = S.tree_bound k r.tree r.tree_at in formula_stays db bound pairs ss ts es S g k r.tree r.tree_at b.0 b.1) in
      let within : k < length numbers = (let e = get_within es k j.0 j.1 in let c = count in omega (arith, e, c)) in (
        j.0,
        j.1,
        o.is ∙ ap (λ m. filled_step (take k numbers) m o.source (formula bound g k) g o.judgement) more
            ∙ ap (λ p. filled_step (take k numbers) [] o.source (formula bound g k) g p) j.2
            ∙ ap (λ t. filled_step (take k numbers) [] o.source t g (judgement_by k j.0 j.0.by)) tree
            ∙ filled_is k within r.source r.tree j.0 j.1 (S.below k r.source r.source_at) o.source (subst (λ x. SameStep x o.source) source s.2) r.is,
      )
    where
      none : (ws : List Tree) (ms : List ℕ) → ws ≡ [] → AllZip (FillsAt (trees ds) k) ws ms → ms ≡ []
      none [] [] q z = refl
      none [] (n ∷ ms) q z = absurd z
      none (w ∷ ws) ms q z = absurd (clash q)
        where
          clash : w ∷ ws ≡ [] → ⊥
          clash c = cc

      filled_is : (k : ℕ) → k < length numbers → (s : SheetStep) (t : Tree) (e : WrittenStep) → slice_get es k ≡ Some e → AreBelow k s.places → (r : SheetStep) → SameStep s r
          → IsExpected db bound.place pairs (take k ts) s t e → filled_step (take k numbers) [] r t g (judgement_by k e e.by) ≡ e
      filled_is k within s t e at low r q x = from e at x
        where
          stay : map (written_place (take k numbers)) r.places ≡ s.places
          stay = ap (map (written_place (take k numbers))) (sym q.places) ∙ places_stay (take k numbers) k s.places (λ n l. front_is k n l (omega (arith, l, within))) low

          made : List Given → Option Use → Bool → List ℕ → Option (List ℕ) → WrittenStep
          made gs o h n f = record { hyp = h; name = n; places = gs; reference = f; tree = t; verdict = report.Fits; by = o }

          made_hyp : List Given → Bool → List ℕ → Option (List ℕ) → WrittenStep
          made_hyp gs h n f = record { hyp = h; name = n; places = gs; reference = f; tree = t; verdict = report.Hyp; by = None }

          from : (y : WrittenStep) → slice_get es k ≡ Some y → IsExpected db bound.place pairs (take k ts) s t y → filled_step (take k numbers) [] r t g (judgement_by k y y.by) ≡ y
          from _ y_at (IsExpected.hyp h) =
              ap (λ gs. made_hyp gs r.hyp r.name r.reference) stay
              ∙ ap (λ b. made_hyp s.places b r.name r.reference) (sym q.hyp)
              ∙ ap (λ n. made_hyp s.places s.hyp n r.reference) (sym q.name)
              ∙ ap (λ f. made_hyp s.places s.hyp s.name f) (sym q.reference)
          from _ y_at (IsExpected.fits h f) =
              let e : WrittenStep = step_of s t report.Fits (Some f.by) in
              let value : use_of g (asked k f.by.assertion s.places) ≡ f.by = use_is db bound pairs ss ts es S g solved k e f.by y_at refl in
              ap (λ gs. made gs (Some (use_of g (asked k f.by.assertion s.places))) r.hyp r.name r.reference)
              (append-nil (map (written_place (take k numbers)) s.places) ∙ ap (map (written_place (take k numbers))) q.places ∙ stay)
              ∙ ap (λ u. made s.places (Some u) r.hyp r.name r.reference) value
              ∙ ap (λ b. made s.places (Some f.by) b r.name r.reference) (sym q.hyp)
              ∙ ap (λ n. made s.places (Some f.by) s.hyp n r.reference) (sym q.name)
              ∙ ap (λ x. made s.places (Some f.by) s.hyp s.name x) (sym q.reference)

  there : (i : ℕ) (d : WrittenStep) → slice_get ds i ≡ Some d → slice_get es i ≡ Some d
  there i d at =
      let n = number_of i d at in
      let place : i ≡ n.0 = numbers_are n.0 i n.1 in
      let own = F.own n.0 i n.1 in
      let mine : own.0 ≡ d = some_same own.0 d (sym own.1 ∙ at) in
      let r = own_is n.0 own.0 (subst (λ x. IsOwn bound g J read (trees ds) numbers n.0 x own.0) place own.2) in
      subst (λ x. slice_get es x ≡ Some d) (sym place) (r.1 ∙ ap (λ x. Some x) (sym r.2 ∙ mine))

  back : (k : ℕ) (e : WrittenStep) → slice_get es k ≡ Some e → slice_get ds k ≡ Some e
  back k e at =
      let e_in = get_within es k e at in
      let c = count in
      let n = get_below numbers k (omega (arith, e_in, c)) in
      let place : n.0 ≡ k = numbers_are k n.0 n.1 in
      let own = F.own k n.0 n.1 in
      let d_at : slice_get ds k ≡ Some own.0 = subst (λ x. slice_get ds x ≡ Some own.0) place own.1 in
      let r = own_is k own.0 (subst (λ x. IsOwn bound g J read (trees ds) numbers k x own.0) place own.2) in
      let same_e : r.0 ≡ e = some_same r.0 e (sym r.1 ∙ at) in
      subst (λ x. slice_get ds k ≡ Some x) (r.2 ∙ same_e) d_at

  pub filled_as_is : ds ≡ es
  filled_as_is = lists_same ds es there back
