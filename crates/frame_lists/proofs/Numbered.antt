-- The active statements with their numbers and the numbers of their labels, the nearest first.
use Rattle.std.proofs.Common.{◌≡◌, ℕ, zero, suc, ◌+◌, ◌<◌, ◌≤◌, Bool, true, false, cond, List, [], ◌∷◌, ◌++◌, length, drop, map, if◌then◌else◌, refl}
use Rattle.std.proofs.Common.{sym, ap, ◌∙◌, arith, inl, inr, subst, codes, nat_eq}
use Rattle.std.proofs.lemmas.Bool.{cases_Bool}
use Rattle.std.specs.List.{ends_with}
use Rattle.mm_model.specs.Statements.{Statement, has_keyword, path, active_on, labels_in}
use Rattle.mm_model.proofs.Scopes.{Below, ends_with-new, cond_then, cond_else, ends_with-same, ends_with-longer, path-below, path-open, path-close, path-plain, length-drop-lt, drop-tail}

-- how many labels statements have
abbrev pub count : List Statement → ℕ
count [] = 0
count (s ∷ e) = count e + length (labels_in s)

pub record Numbered : Type 0 where
  -- the number of the statement, and of its first label
  pub at : ℕ
  pub label : ℕ
  pub statement : Statement

abbrev pub item : Statement → List Statement → Numbered
item s e = record { at = length e; label = count e; statement = s }

-- those on a path
abbrev pub on : List ℕ → List Statement → List Numbered
on p [] = []
on p (s ∷ e) = if ends_with nat_eq p (path e) then item s e ∷ on p e else on p e

abbrev pub here : List Statement → List Numbered
here e = on (path e) e

pub on-is : (p : List ℕ) (e : List Statement) → map (λ (i : Numbered). i.statement) (on p e) ≡ active_on p e
on-is p [] = refl
on-is p (s ∷ e) =
    let later = on-is p e in
    elim (cases_Bool (ends_with nat_eq p (path e))) [
      | inl h ↦ rw h (ap (λ l. s ∷ l) later)
      | inr h ↦ rw h later
    ]

-- ---- paths that end alike

below-more : (n m : ℕ) (q : List ℕ) → n ≤ m → Below n q → Below m q
below-more n m [] h b = tt
below-more n m (k ∷ q) h b = (omega (arith, b.0), below-more n m q h b.1)

-- ---- on a path, as statements are added

pub on-skip : (q : List ℕ) (s : Statement) (e : List Statement) → length q < length (path e) → on q (s ∷ e) ≡ on q e
on-skip q s e h = cond_else (ends_with nat_eq q (path e)) (item s e ∷ on q e) (on q e) (ends_with-longer q (path e) h)

pub on-keep : (s : Statement) (e : List Statement) → on (path e) (s ∷ e) ≡ item s e ∷ here e
on-keep s e = cond_then (ends_with nat_eq (path e) (path e)) (item s e ∷ here e) (here e) (ends_with-same (path e))

on-new : (n : ℕ) (p : List ℕ) (e : List Statement) → length e ≤ n → on (n ∷ p) e ≡ on p e
on-new n p [] h = refl
on-new n p (s ∷ e) h =
    let same = ends_with-new n p (path e) (below-more (length e) n (path e) (omega arith) (path-below e)) in
    let later : on (n ∷ p) e ≡ on p e = on-new n p e (omega arith) in
    ap (λ (b : Bool). cond b (item s e ∷ on (n ∷ p) e) (on (n ∷ p) e)) same ∙ ap (λ (l : List Numbered). cond (ends_with nat_eq p (path e)) (item s e ∷ l) l) later

on-fresh : (s : Statement) (e : List Statement) → on (length e ∷ path e) (s ∷ e) ≡ item s e ∷ here e
on-fresh s e =
    let same : ends_with nat_eq (length e ∷ path e) (path e) ≡ true = ends_with-new (length e) (path e) (path e) (path-below e) ∙ ends_with-same (path e) in
    cond_then (ends_with nat_eq (length e ∷ path e) (path e)) (item s e ∷ on (length e ∷ path e) e) (on (length e ∷ path e) e) same
    ∙ ap (λ (l : List Numbered). item s e ∷ l) (on-new (length e) (path e) e (omega arith))

pub here-open : (s : Statement) (e : List Statement) → has_keyword (codes "${") s ≡ true → here (s ∷ e) ≡ item s e ∷ here e
here-open s e h = ap (λ (p : List ℕ). on p (s ∷ e)) (path-open s e h) ∙ on-fresh s e

pub here-plain : (s : Statement) (e : List Statement) → has_keyword (codes "${") s ≡ false → has_keyword (codes "$}") s ≡ false → here (s ∷ e) ≡ item s e ∷ here e
here-plain s e h k = ap (λ (p : List ℕ). on p (s ∷ e)) (path-plain s e h k) ∙ on-keep s e

drop-shorter : (p : List ℕ) → 0 < length p → length (drop 1 p) < length p
drop-shorter [] h = let bad : ⊥ = omega arith in absurd bad
drop-shorter (n ∷ p) h = omega arith

pub here-close : (s : Statement) (e : List Statement) → has_keyword (codes "${") s ≡ false → has_keyword (codes "$}") s ≡ true → 0 < length (path e) → here (s ∷ e) ≡ on (drop 1 (path e)) e
here-close s e h k open_ = ap (λ (p : List ℕ). on p (s ∷ e)) (path-close s e h k) ∙ on-skip (drop 1 (path e)) s e (drop-shorter (path e) open_)

none-left : (p : List ℕ) → length p ≡ 0 → p ≡ []
none-left [] h = refl
none-left (n ∷ p) h = let bad : ⊥ = omega (arith, h) in absurd bad

-- a `$}` that closes nothing
pub here-astray : (s : Statement) (e : List Statement) → has_keyword (codes "${") s ≡ false → has_keyword (codes "$}") s ≡ true → length (path e) ≡ 0 → here (s ∷ e) ≡ item s e ∷ here e
here-astray s e h k none =
    let empty = none-left (path e) none in
    let same : path (s ∷ e) ≡ path e = path-close s e h k ∙ ap (λ (p : List ℕ). drop 1 p) empty ∙ sym empty in
    ap (λ (p : List ℕ). on p (s ∷ e)) same ∙ on-keep s e

-- ---- what a block began with is the end of what is active in it

pub record EndsIn (whole end_ : List Numbered) : Type 0 where
  pub front : List Numbered
  pub eq : whole ≡ front ++ end_

abbrev Nested : List Statement → List ℕ → Type 0
Nested e p = (k : ℕ) → k < length p → EndsIn (on (drop k p) e) (on (drop (suc k) p) e)

nested-plain : (s : Statement) (e : List Statement) → Nested e (path e) → Nested (s ∷ e) (path e)
nested-plain s e nest zero h =
    let i = nest zero h in
    record {
      front = item s e ∷ i.front;
      eq =
          on-keep s e ∙ ap (λ (l : List Numbered). item s e ∷ l) i.eq
          ∙ ap (λ (l : List Numbered). item s e ∷ i.front ++ l) (sym (on-skip (drop 1 (path e)) s e (length-drop-lt 0 (path e) h)));
    }
nested-plain s e nest (suc k) h =
    let i = nest (suc k) h in
    let there : 0 < length (path e) = omega arith in
    record {
      front = i.front;
      eq =
          on-skip (drop (suc k) (path e)) s e (length-drop-lt k (path e) there) ∙ i.eq
          ∙ ap (λ (l : List Numbered). i.front ++ l) (sym (on-skip (drop (suc (suc k)) (path e)) s e (length-drop-lt (suc k) (path e) there)));
    }

nested-open : (s : Statement) (e : List Statement) → Nested e (path e) → Nested (s ∷ e) (length e ∷ path e)
nested-open s e nest zero h = record { front = []; eq = on-fresh s e ∙ sym (on-keep s e) }
nested-open s e nest (suc k) h = nested-plain s e nest k (omega arith)

nested-close : (s : Statement) (e : List Statement) → Nested e (path e) → Nested (s ∷ e) (drop 1 (path e))
nested-close s e nest k h =
    let less = shorter (path e) k h in
    let there : 0 < length (path e) = omega (arith, less) in
    let i = nest (suc k) less in
    let past = λ (j : ℕ). ap (λ (p : List ℕ). on p (s ∷ e)) (drop-tail j (path e)) ∙ on-skip (drop (suc j) (path e)) s e (length-drop-lt j (path e) there) in
    record { front = i.front; eq = past k ∙ i.eq ∙ ap (λ (l : List Numbered). i.front ++ l) (sym (past (suc k))) }
  where
    shorter : (p : List ℕ) (k : ℕ) → k < length (drop 1 p) → suc k < length p
    shorter [] k h = let bad : ⊥ = omega arith in absurd bad
    shorter (n ∷ p) k h = omega arith

pub nested : (e : List Statement) → Nested e (path e)
nested [] k h = record { front = []; eq = refl }
nested (s ∷ e) k h =
    elim (cases_Bool (has_keyword (codes "${") s)) [
      | inl o ↦ subst (λ (p : List ℕ). Nested (s ∷ e) p) (sym (path-open s e o)) (nested-open s e (nested e)) k h
      | inr o ↦ elim (cases_Bool (has_keyword (codes "$}") s)) [
        | inl c ↦ subst (λ (p : List ℕ). Nested (s ∷ e) p) (sym (path-close s e o c)) (nested-close s e (nested e)) k h
        | inr c ↦ subst (λ (p : List ℕ). Nested (s ∷ e) p) (sym (path-plain s e o c)) (nested-plain s e (nested e)) k h
      ]
    ]
