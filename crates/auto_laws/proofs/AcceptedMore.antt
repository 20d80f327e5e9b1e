-- What is accepted where ground steps get references: what was accepted before, and the added uses.
use Rattle.std.specs.Prelude.{◌≡◌, ◌⊎◌, ◌<◌, ◌+◌, ℕ, zero, suc, List, [], ◌∷◌, take, Contains, slice_get, Option, Some, None, refl}
use Rattle.std.proofs.Common.{sym, ap, subst, ◌∙◌, arith, inl, inr}
use Rattle.mm_model.specs.Book.{Database}
use Rattle.solve_model.specs.Solutions.{Asked}
use Rattle.solve_model.specs.Verdicts.{Judgement, accepted, asked, asked_of, accepted_in}
use Rattle.written_model.specs.declared.options.Options.{Options}
use Rattle.written_model.specs.WrittenSteps.{Use, WrittenStep, steps_in}
use Rattle.written_model.specs.Found.{Choice}
use Rattle.written_model.specs.Written.{Writing}
use Rattle.written_model.specs.Again.{judgement_by, judgements_from}
use Rattle.again_laws.proofs.Accepted.{asked_is}
use Rattle.again_laws.proofs.Lists.{contains_get, get_contains, from_filter_map, into_filter_map, some_same}
use Rattle.again_laws.proofs.ValuesStay.{judgement_there, judgement_here}
use Rattle.auto_laws.proofs.Added.{IsAddedUse, with_use, IsAdded, stays, added, AreAdded}

-- ---- accepted, by number

taken_there : {X : Type 0} (n m : ℕ) (xs : List X) (x : X) → slice_get xs m ≡ Some x → m < n → slice_get (take n xs) m ≡ Some x
taken_there zero m xs x e l = absurd (omega (arith, l))
taken_there (suc n) m [] x e l = absurd cc
taken_there (suc n) zero (y ∷ xs) x e l = e
taken_there (suc n) (suc m) (y ∷ xs) x e l = taken_there n m xs x e (omega (arith, l))

taken : {X : Type 0} (n m : ℕ) (xs : List X) (x : X) → slice_get (take n xs) m ≡ Some x → (slice_get xs m ≡ Some x) × (m < n)
taken zero m xs x e = absurd cc
taken (suc n) m [] x e = absurd cc
taken (suc n) zero (y ∷ xs) x e = (e, omega arith)
taken (suc n) (suc m) (y ∷ xs) x e = let r = taken n m xs x e in let less = r.1 in (r.0, omega (arith, less))

pub accepted_at : (js : List Judgement) (x : Asked) → Contains (accepted_in js) x → (k : ℕ) × (slice_get js k ≡ Some (accepted x))
accepted_at js x m =
    let r = from_filter_map asked_of js x m in
    let k = contains_get js r.0 r.1 in
    (k.0, k.1 ∙ ap (λ o. Some o) (asked_is r.0 x r.2))

pub accepted_there : (js : List Judgement) (k : ℕ) (x : Asked) → slice_get js k ≡ Some (accepted x) → Contains (accepted_in js) x
accepted_there js k x e = into_filter_map asked_of js (accepted x) x (get_contains js k (accepted x) e) refl

pub accepted_before : (n : ℕ) (js : List Judgement) (x : Asked) → Contains (accepted_in (take n js)) x → (k : ℕ) × (slice_get js k ≡ Some (accepted x)) × (k < n)
accepted_before n js x m = let k = accepted_at (take n js) x m in let r = taken n k.0 js (accepted x) k.1 in (k.0, r.0, r.1)

pub before_accepted : (n : ℕ) (js : List Judgement) (k : ℕ) (x : Asked) → slice_get js k ≡ Some (accepted x) → k < n → Contains (accepted_in (take n js)) x
before_accepted n js k x e l = accepted_there (take n js) k x (taken_there n k js (accepted x) e l)

module _ (db : Database) (options : Options) (w : Writing) (fs : List WrittenStep) (A : AreAdded db w.bound.place options.dv w.bound.pairs (steps_in w.items) fs) where
  abbrev es : List WrittenStep
  es = steps_in w.items

  -- the step of a number has an added use
  pub record New (i : ℕ) (u : Use) : Type 0 where
    pub step : WrittenStep
    pub at : slice_get es i ≡ Some step
    pub choice : Choice
    pub is : IsAddedUse db w.bound.place options.dv w.bound.pairs es i step choice u
    pub there : slice_get fs i ≡ Some (with_use db w.bound.place options.dv w.bound.pairs es step choice u)

  abbrev pub NotNew : ℕ → Type 0
  NotNew i = (u : Use) → New i u → ⊥

  -- what is asked by an added use
  pub record IsNewAsked (x : Asked) : Type 0 where
    pub number : ℕ
    pub use_ : Use
    pub new : New number use_
    pub is : x ≡ asked number use_.assertion new.choice.places

  pub not_new : (i : ℕ) (e : WrittenStep) → slice_get es i ≡ Some e → slice_get fs i ≡ Some e → NotNew i
  not_new i e at there u n =
      let one : n.step ≡ e = some_same n.step e (sym n.at ∙ at) in
      let two : with_use db w.bound.place options.dv w.bound.pairs es n.step n.choice u ≡ e =
      some_same (with_use db w.bound.place options.dv w.bound.pairs es n.step n.choice u) e (sym n.there ∙ there) in
      let bad : Some u ≡ None = ap (λ (x : WrittenStep). x.by) two ∙ ap (λ (x : WrittenStep). x.by) (sym one) ∙ n.is.not_used in
      cc

  asked_step : (i : ℕ) (e : WrittenStep) (o : Option Use) (x : Asked) → accepted x ≡ judgement_by i e o → x.step ≡ i
  asked_step i e None x h = absurd cc
  asked_step i e (Some u) x h = ap (λ (y : Asked). y.step) (same x (asked i u.assertion e.places) h)
    where
      same : (y z : Asked) → accepted y ≡ accepted z → y ≡ z
      same y z k = cc

  accepted_same : (y z : Asked) → accepted y ≡ accepted z → y ≡ z
  accepted_same y z k = cc

  zero_plus : (k : ℕ) → 0 + k ≡ k
  zero_plus k = omega arith

  -- what is accepted was accepted before, or is an added use
  pub classified : (k : ℕ) (x : Asked) → slice_get (judgements_from 0 fs) k ≡ Some (accepted x)
      → ((slice_get (judgements_from 0 es) k ≡ Some (accepted x)) × NotNew x.step) ⊎ IsNewAsked x
  classified k x h =
      let j = judgement_there 0 fs k (accepted x) h in
      let b = A.back k j.0 j.1 in
      by b.0 b.1 j.0 j.1 b.2 j.2
    where
      by : (e : WrittenStep) → slice_get es k ≡ Some e → (f : WrittenStep) → slice_get fs k ≡ Some f → IsAdded db w.bound.place options.dv w.bound.pairs es k e f
          → accepted x ≡ judgement_by (0 + k) f f.by → ((slice_get (judgements_from 0 es) k ≡ Some (accepted x)) × NotNew x.step) ⊎ IsNewAsked x
      by e at _ there stays is = inl (judgement_here 0 es k e at ∙ ap (λ o. Some o) (sym is), subst NotNew (sym (asked_step (0 + k) e e.by x is ∙ zero_plus k)) (not_new k e at there))
      by e at _ there (added c u h) is =
          let same : x ≡ asked (0 + k) u.assertion c.places = accepted_same x (asked (0 + k) u.assertion c.places) is in
          inr (record { number = k; use_ = u; new = record { step = e; at = at; choice = c; is = h; there = there }; is = same ∙ ap (λ n. asked n u.assertion c.places) (zero_plus k) })

  -- what was accepted is accepted, and is no added use
  pub kept : (k : ℕ) (x : Asked) → slice_get (judgements_from 0 es) k ≡ Some (accepted x) → (slice_get (judgements_from 0 fs) k ≡ Some (accepted x)) × NotNew x.step
  kept k x h =
      let j = judgement_there 0 es k (accepted x) h in
      let f = A.there k j.0 j.1 in
      by j.0 j.1 f.0 f.1 f.2 j.2
    where
      by : (e : WrittenStep) → slice_get es k ≡ Some e → (f : WrittenStep) → slice_get fs k ≡ Some f → IsAdded db w.bound.place options.dv w.bound.pairs es k e f
          → accepted x ≡ judgement_by (0 + k) e e.by → (slice_get (judgements_from 0 fs) k ≡ Some (accepted x)) × NotNew x.step
      by e at _ there stays is =
          (judgement_here 0 fs k e there ∙ ap (λ o. Some o) (sym is), subst NotNew (sym (asked_step (0 + k) e e.by x is ∙ zero_plus k)) (not_new k e at there))
      by e at _ there (added c u h) is = let bad = is ∙ ap (judgement_by (0 + k) e) h.not_used in absurd cc
