-- Hypotheses by their labels, put in one after the other.
use Rattle.std.proofs.Common.{◌≡◌, ◌<◌, ℕ, zero, suc, ◌+◌, Bool, true, false, cond, List, [], ◌∷◌, ◌++◌, length, length-append, position, take}
use Rattle.std.proofs.Common.{get_or, Option, Some, None, option_map, refl, sym, ap, ◌∙◌, arith, subst, inl, inr}
use Rattle.std.specs.Prelude.{slice_get}
use Rattle.std.specs.List.{list_any}
use Rattle.std.specs.Str.{bytes_eq}
use Rattle.std.proofs.lemmas.Bool.{cases_Bool}
use Rattle.std.proofs.lemmas.Slice.Eq.{bytes_eq-Decides}
use Rattle.std.proofs.Math.Seq.{take-suc}
use Rattle.mm_model.specs.declared.frames.Hyp.{Hyp}
use Rattle.stack_verify.specs.declared.found.HypLabels.{HypLabels}
use Rattle.stack_verify.specs.Lookups.{IsIndexOf, look, place_of}
use Rattle.mm_base.proofs.Positions.{position-cons}
use Rattle.stack_verify.proofs.Substitutes.{cond_then, cond_else, position_within}

-- the first, or else the second
abbrev pub or_at : Option ℕ → Option ℕ → Option ℕ
or_at (Some k) o = Some k
or_at None o = o

mapped : (a b : Option ℕ) → option_map (λ (n : ℕ). suc n) (or_at a b) ≡ or_at (option_map (λ (n : ℕ). suc n) a) (option_map (λ (n : ℕ). suc n) b)
mapped (Some k) b = refl
mapped None b = refl

chosen : (t : Bool) (n : ℕ) → option_map (λ (n : ℕ). suc n) (cond t (Some n) None) ≡ cond t (Some (suc n)) None
chosen true n = refl
chosen false n = refl

pub position_more : {X : Type 0} (p : X → Bool) (xs : List X) (x : X) → position p (xs ++ x ∷ []) ≡ or_at (position p xs) (cond (p x) (Some (length xs)) None)
position_more p [] x = position-cons p x []
position_more p (y ∷ xs) x =
    let next : Option ℕ → Option ℕ = option_map (λ (n : ℕ). suc n) in
    let end : Option ℕ = cond (p x) (Some (length xs)) None in
    let on : next (position p (xs ++ x ∷ [])) ≡ or_at (next (position p xs)) (cond (p x) (Some (suc (length xs))) None) =
    ap next (position_more p xs x) ∙ mapped (position p xs) end ∙ ap (or_at (next (position p xs))) (chosen (p x) (length xs)) in
    elim (cases_Bool (p y)) [
      | inl t ↦
          position-cons p y (xs ++ x ∷ []) ∙ cond_then (p y) (Some 0) (next (position p (xs ++ x ∷ []))) t
          ∙ ap (λ (o : Option ℕ). or_at o (cond (p x) (Some (suc (length xs))) None)) (sym (position-cons p y xs ∙ cond_then (p y) (Some 0) (next (position p xs)) t))
      | inr t ↦
          position-cons p y (xs ++ x ∷ []) ∙ cond_else (p y) (Some 0) (next (position p (xs ++ x ∷ []))) t ∙ on
          ∙ ap (λ (o : Option ℕ). or_at o (cond (p x) (Some (suc (length xs))) None)) (sym (position-cons p y xs ∙ cond_else (p y) (Some 0) (next (position p xs)) t))
    ]

-- a place that is there
there_kept : (places : List ℕ) (k i : ℕ) (o : Option ℕ) → k < length places → slice_get (places ++ i ∷ []) k ≡ or_at (slice_get places k) o
there_kept [] k i o low = absurd (omega arith)
there_kept (p ∷ places) zero i o low = refl
there_kept (p ∷ places) (suc k) i o low = there_kept places k i o (omega arith)

there_same : (places : List ℕ) (k : ℕ) (o : Option ℕ) → k < length places → slice_get places k ≡ or_at (slice_get places k) o
there_same [] k o low = absurd (omega arith)
there_same (p ∷ places) zero o low = refl
there_same (p ∷ places) (suc k) o low = there_same places k o (omega arith)

the_last : (places : List ℕ) (i n : ℕ) → n ≡ length places → slice_get (places ++ i ∷ []) n ≡ Some i
the_last [] i zero e = refl
the_last [] i (suc n) e = absurd (omega arith)
the_last (p ∷ places) i zero e = absurd (omega arith)
the_last (p ∷ places) i (suc n) e = the_last places i n (omega arith)

put_look : (places : List ℕ) (found : Option ℕ) (t : Bool) (i n : ℕ) → n ≡ length places → ((k : ℕ) → found ≡ Some k → k < length places)
    → look (places ++ i ∷ []) (or_at found (cond t (Some n) None)) ≡ or_at (look places found) (cond t (Some i) None)
put_look places (Some k) t i n e low = there_kept places k i (cond t (Some i) None) (low k refl)
put_look places None true i n e low = the_last places i n e
put_look places None false i n e low = refl

pub label_put : (labels : List (List ℕ)) (places : List ℕ) (hyps : List Hyp) (h : Hyp) (i : ℕ) (label : List ℕ) → length places ≡ length labels → length hyps ≡ i
    → look places (position (bytes_eq label) labels) ≡ place_of hyps label → look (places ++ i ∷ []) (position (bytes_eq label) (labels ++ h.name ∷ [])) ≡ place_of (hyps ++ h ∷ []) label
label_put labels places hyps h i label n m e =
    let t = bytes_eq label h.name in
    let low : (k : ℕ) → position (bytes_eq label) labels ≡ Some k → k < length places =
    λ (k : ℕ) (q : position (bytes_eq label) labels ≡ Some k). let w = position_within (bytes_eq label) labels k q in
    omega arith in
    ap (look (places ++ i ∷ [])) (position_more (bytes_eq label) labels h.name)
    ∙ put_look places (position (bytes_eq label) labels) t i (length labels) (sym n) low
    ∙ ap (λ (o : Option ℕ). or_at o (cond t (Some i) None)) e ∙ ap (λ (j : ℕ). or_at (place_of hyps label) (cond t (Some j) None)) (sym m)
    ∙ sym (position_more (λ (x : Hyp). bytes_eq label x.name) hyps h)

clash : (n : ℕ) → Some n ≡ None → ⊥
clash n e = cc

pub none_there : {X : Type 0} (p : X → Bool) (xs : List X) → position p xs ≡ None → list_any p xs ≡ false
none_there p [] e = refl
none_there p (x ∷ xs) e =
    elim (cases_Bool (p x)) [
      | inl t ↦ absurd (clash 0 (sym (position-cons p x xs ∙ cond_then (p x) (Some 0) (option_map (λ (n : ℕ). suc n) (position p xs)) t) ∙ e))
      | inr t ↦
          let rest : option_map (λ (n : ℕ). suc n) (position p xs) ≡ None = sym (position-cons p x xs ∙ cond_else (p x) (Some 0) (option_map (λ (n : ℕ). suc n) (position p xs)) t) ∙ e in
          rw t (none_there p xs (no_map (position p xs) rest))
    ]
  where
    no_map : (o : Option ℕ) → option_map (λ (n : ℕ). suc n) o ≡ None → o ≡ None
    no_map None e = refl
    no_map (Some n) e = absurd cc

same_look : (places : List ℕ) (found : Option ℕ) (t : Bool) (i : ℕ) → ((k : ℕ) → found ≡ Some k → k < length places) → (found ≡ None → t ≡ false)
    → look places found ≡ or_at (look places found) (cond t (Some i) None)
same_look places (Some k) t i low none = there_same places k (cond t (Some i) None) (low k refl)
same_look places None t i low none = sym (cond_else t (Some i) None (none refl))

pub label_there : (labels : List (List ℕ)) (places : List ℕ) (hyps : List Hyp) (h : Hyp) (label : List ℕ) → length places ≡ length labels → list_any (bytes_eq h.name) labels ≡ true
    → look places (position (bytes_eq label) labels) ≡ place_of hyps label → look places (position (bytes_eq label) labels) ≡ place_of (hyps ++ h ∷ []) label
label_there labels places hyps h label n there e =
    let t = bytes_eq label h.name in
    let low : (k : ℕ) → position (bytes_eq label) labels ≡ Some k → k < length places =
    λ (k : ℕ) (q : position (bytes_eq label) labels ≡ Some k). let w = position_within (bytes_eq label) labels k q in
    omega arith in
    let other : position (bytes_eq label) labels ≡ None → t ≡ false =
    λ (q : position (bytes_eq label) labels ≡ None).
    elim (cases_Bool t) [
      | inl s ↦
          let is : label ≡ h.name = (bytes_eq-Decides label h.name).0 s in
          let both : true ≡ false = sym there ∙ ap (λ (x : List ℕ). list_any (bytes_eq x) labels) (sym is) ∙ none_there (bytes_eq label) labels q in
          absurd cc
      | inr s ↦ s
    ] in
    same_look places (position (bytes_eq label) labels) t (length hyps) low other ∙ ap (λ (o : Option ℕ). or_at o (cond t (Some (length hyps)) None)) e
    ∙ sym (position_more (λ (x : Hyp). bytes_eq label x.name) hyps h)

-- ---- the whole index

pub index_put : (old new : HypLabels) (hyps : List Hyp) (h : Hyp) (name : List ℕ) (i : ℕ) → name ≡ h.name → new.labels ≡ old.labels ++ name ∷ []
    → new.places.items ≡ old.places.items ++ i ∷ [] → length hyps ≡ i → IsIndexOf hyps old → IsIndexOf (hyps ++ h ∷ []) new
index_put old new hyps h name i en el ep m x =
    let labels : new.labels ≡ old.labels ++ h.name ∷ [] = el ∙ ap (λ (n : List ℕ). old.labels ++ n ∷ []) en in
    record {
      count = omega (arith, ap length labels, ap length ep, x.count, length-append old.labels (h.name ∷ []), length-append old.places.items (i ∷ []));
      each = λ label. ap (λ (l : List (List ℕ)). look new.places.items (position (bytes_eq label) l)) labels
          ∙ ap (λ (p : List ℕ). look p (position (bytes_eq label) (old.labels ++ h.name ∷ []))) ep ∙ label_put old.labels old.places.items hyps h i label x.count m (x.each label);
    }

pub index_kept : (old : HypLabels) (hyps : List Hyp) (h : Hyp) (name : List ℕ) → name ≡ h.name → list_any (bytes_eq name) old.labels ≡ true → IsIndexOf hyps old → IsIndexOf (hyps ++ h ∷ []) old
index_kept old hyps h name en there x = record {
  count = x.count;
  each = λ label. label_there old.labels old.places.items hyps h label x.count (ap (λ (n : List ℕ). list_any (bytes_eq n) old.labels) (sym en) ∙ there) (x.each label);
}

pub index_more : (new : HypLabels) (hyps : List Hyp) (i : ℕ) (h : Hyp) → i < length hyps → h ≡ get_or hyps i h → IsIndexOf (take i hyps ++ h ∷ []) new → IsIndexOf (take (i + 1) hyps) new
index_more new hyps i h low is x =
    let one : suc i ≡ i + 1 = omega arith in
    subst (λ (l : List Hyp). IsIndexOf l new) (ap (λ (y : Hyp). take i hyps ++ y ∷ []) is ∙ sym (take-suc hyps i h low) ∙ ap (λ (j : ℕ). take j hyps) one) x
