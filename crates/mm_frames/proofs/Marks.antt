-- What the reader keeps of the active statements, as a list that is cut back at `$}`.
use Rattle.std.proofs.Common.{◌≡◌, ℕ, suc, ◌<◌, true, false, List, [], ◌∷◌, ◌++◌, length, take, drop, reverse, refl, sym, ap, ◌∙◌, subst, arith, codes, flat_map}
use Rattle.std.proofs.lemmas.Grind.{flat_map-append}
use Rattle.std.proofs.lemmas.List.{reverse-append, length-reverse}
use Rattle.mm_model.specs.Statements.{Statement, has_keyword, path, active_on, active}
use Rattle.mm_model.proofs.Scopes.{active_on-skip, active_on-keep, active-open, active-plain, active-close, path-open, path-close, path-plain, nested, length-drop-lt, drop-tail}
use Rattle.mm_model.proofs.Lists.{added, listed, listed-cons}

-- what g takes of each active statement, the nearest first
abbrev pub kept : {X : Type 0} → (Statement → List X) → List Statement → List X
kept g e = flat_map g (active e)

-- the filters of the definitions are of this form
pub listed-is : (k : List ℕ) (f : Statement → List (List ℕ)) (ss : List Statement) → listed k f ss ≡ flat_map (added k f) ss
listed-is k f [] = refl
listed-is k f (s ∷ ss) = listed-cons k f s ss ∙ ap (λ l. added k f s ++ l) (listed-is k f ss)

pub kept-plain : {X : Type 0} (g : Statement → List X) (s : Statement) (e : List Statement) → has_keyword (codes "${") s ≡ false
    → has_keyword (codes "$}") s ≡ false → kept g (s ∷ e) ≡ g s ++ kept g e
kept-plain g s e o c = ap (λ ss. flat_map g ss) (active-plain s e o c)

pub kept-open : {X : Type 0} (g : Statement → List X) (s : Statement) (e : List Statement) → has_keyword (codes "${") s ≡ true → kept g (s ∷ e) ≡ g s ++ kept g e
kept-open g s e o = ap (λ ss. flat_map g ss) (active-open s e o)

-- the lengths that were noted where the open blocks began, the innermost first; k of them are passed already
abbrev pub Marks : {X : Type 0} → (Statement → List X) → List Statement → ℕ → List ℕ → Type 0
Marks g e k [] = length (path e) ≡ k
Marks g e k (m ∷ ms) = (k < length (path e)) × (m ≡ length (flat_map g (active_on (drop (suc k) (path e)) e))) × Marks g e (suc k) ms

-- a statement that opens and closes no block leaves the marks
pub marks-plain : {X : Type 0} (g : Statement → List X) (s : Statement) (e : List Statement) (k : ℕ) (ms : List ℕ)
    → has_keyword (codes "${") s ≡ false → has_keyword (codes "$}") s ≡ false → Marks g e k ms → Marks g (s ∷ e) k ms
marks-plain g s e k [] o c h = ap (λ (p : List ℕ). length p) (path-plain s e o c) ∙ h
marks-plain g s e k (m ∷ ms) o c h =
    let there : 0 < length (path e) = omega (arith, h.0) in
    let deep : k < length (path (s ∷ e)) = subst (λ (p : List ℕ). k < length p) (sym (path-plain s e o c)) h.0 in
    let same : active_on (drop (suc k) (path (s ∷ e))) (s ∷ e) ≡ active_on (drop (suc k) (path e)) e =
    ap (λ (p : List ℕ). active_on (drop (suc k) p) (s ∷ e)) (path-plain s e o c)
    ∙ active_on-skip (drop (suc k) (path e)) s e (length-drop-lt k (path e) there) in
    (deep, h.1 ∙ ap (λ (ss : List Statement). length (flat_map g ss)) (sym same), marks-plain g s e (suc k) ms o c h.2)

pub marks-back : {X : Type 0} (g : Statement → List X) (s : Statement) (e : List Statement) (k : ℕ) (ms : List ℕ) → has_keyword (codes "${") s ≡ false
    → has_keyword (codes "$}") s ≡ false → Marks g (s ∷ e) k ms → Marks g e k ms
marks-back g s e k [] o c h = sym (ap (λ (p : List ℕ). length p) (path-plain s e o c)) ∙ h
marks-back g s e k (m ∷ ms) o c h =
    let deep : k < length (path e) = subst (λ (p : List ℕ). k < length p) (path-plain s e o c) h.0 in
    let there : 0 < length (path e) = omega (arith, deep) in
    let same : active_on (drop (suc k) (path (s ∷ e))) (s ∷ e) ≡ active_on (drop (suc k) (path e)) e =
    ap (λ (p : List ℕ). active_on (drop (suc k) p) (s ∷ e)) (path-plain s e o c)
    ∙ active_on-skip (drop (suc k) (path e)) s e (length-drop-lt k (path e) there) in
    (deep, h.1 ∙ ap (λ (ss : List Statement). length (flat_map g ss)) same, marks-back g s e (suc k) ms o c h.2)

-- `${` notes the length that is there
marks-under : {X : Type 0} (g : Statement → List X) (s : Statement) (e : List Statement) (k : ℕ) (ms : List ℕ) → has_keyword (codes "${") s ≡ true → Marks g e k ms → Marks g (s ∷ e) (suc k) ms
marks-under g s e k [] o h = ap (λ (p : List ℕ). length p) (path-open s e o) ∙ ap (λ (n : ℕ). suc n) h
marks-under g s e k (m ∷ ms) o h =
    let there : 0 < length (path e) = omega (arith, h.0) in
    let more : suc k < length (length e ∷ path e) = omega (arith, h.0) in
    let deep : suc k < length (path (s ∷ e)) = subst (λ (p : List ℕ). suc k < length p) (sym (path-open s e o)) more in
    let same : active_on (drop (suc (suc k)) (path (s ∷ e))) (s ∷ e) ≡ active_on (drop (suc k) (path e)) e =
    ap (λ (p : List ℕ). active_on (drop (suc (suc k)) p) (s ∷ e)) (path-open s e o)
    ∙ active_on-skip (drop (suc k) (path e)) s e (length-drop-lt k (path e) there) in
    (deep, h.1 ∙ ap (λ (ss : List Statement). length (flat_map g ss)) (sym same), marks-under g s e (suc k) ms o h.2)

pub marks-open : {X : Type 0} (g : Statement → List X) (s : Statement) (e : List Statement) (m : ℕ) (ms : List ℕ) → has_keyword (codes "${") s ≡ true
    → g s ≡ [] → m ≡ length (kept g e) → Marks g e 0 ms → Marks g (s ∷ e) 0 (m ∷ ms)
marks-open g s e m ms o none h marks =
    let first : 0 < length (length e ∷ path e) = omega arith in
    let deep : 0 < length (path (s ∷ e)) = subst (λ (p : List ℕ). 0 < length p) (sym (path-open s e o)) first in
    let here : active_on (drop 1 (path (s ∷ e))) (s ∷ e) ≡ s ∷ active e = ap (λ (p : List ℕ). active_on (drop 1 p) (s ∷ e)) (path-open s e o) ∙ active_on-keep s e in
    let same : flat_map g (active_on (drop 1 (path (s ∷ e))) (s ∷ e)) ≡ kept g e = ap (λ (ss : List Statement). flat_map g ss) here ∙ ap (λ l. l ++ kept g e) none in
    (deep, h ∙ ap (λ l. length l) (sym same), marks-under g s e 0 ms o marks)

-- `$}` takes the innermost mark off
marks-over : {X : Type 0} (g : Statement → List X) (s : Statement) (e : List Statement) (k : ℕ) (ms : List ℕ) → has_keyword (codes "${") s ≡ false
    → has_keyword (codes "$}") s ≡ true → 0 < length (path e) → Marks g e (suc k) ms → Marks g (s ∷ e) k ms
marks-over g s e k [] o c there h = ap (λ (p : List ℕ). length p) (path-close s e o c) ∙ shorter (path e) k h
  where
    shorter : (p : List ℕ) (k : ℕ) → length p ≡ suc k → length (drop 1 p) ≡ k
    shorter [] k h = let bad : ⊥ = omega arith in absurd bad
    shorter (n ∷ p) k h = omega arith
marks-over g s e k (m ∷ ms) o c there h =
    let less : k < length (drop 1 (path e)) = within (path e) k h.0 in
    let deep : k < length (path (s ∷ e)) = subst (λ (p : List ℕ). k < length p) (sym (path-close s e o c)) less in
    let same : active_on (drop (suc k) (path (s ∷ e))) (s ∷ e) ≡ active_on (drop (suc (suc k)) (path e)) e =
    ap (λ (p : List ℕ). active_on (drop (suc k) p) (s ∷ e)) (path-close s e o c)
    ∙ ap (λ (p : List ℕ). active_on p (s ∷ e)) (drop-tail (suc k) (path e))
    ∙ active_on-skip (drop (suc (suc k)) (path e)) s e (length-drop-lt (suc k) (path e) there) in
    (deep, h.1 ∙ ap (λ (ss : List Statement). length (flat_map g ss)) (sym same), marks-over g s e (suc k) ms o c there h.2)
  where
    within : (p : List ℕ) (k : ℕ) → suc k < length p → k < length (drop 1 p)
    within [] k h = let bad : ⊥ = omega arith in absurd bad
    within (n ∷ p) k h = omega arith

pub marks-close : {X : Type 0} (g : Statement → List X) (s : Statement) (e : List Statement) (m : ℕ) (ms : List ℕ)
    → has_keyword (codes "${") s ≡ false → has_keyword (codes "$}") s ≡ true → Marks g e 0 (m ∷ ms) → Marks g (s ∷ e) 0 ms
marks-close g s e m ms o c marks = marks-over g s e 0 ms o c marks.0 marks.2

-- `$}` cuts a list that the reader keeps back to the innermost mark
take-front : {X : Type 0} (xs ys : List X) → take (length xs) (xs ++ ys) ≡ xs
take-front [] ys = refl
take-front (x ∷ xs) ys = ap (λ l. x ∷ l) (take-front xs ys)

pub kept-close : {X : Type 0} (g : Statement → List X) (s : Statement) (e : List Statement) (m : ℕ) (ms : List ℕ) → has_keyword (codes "${") s ≡ false
    → has_keyword (codes "$}") s ≡ true → Marks g e 0 (m ∷ ms) → take m (reverse (kept g e)) ≡ reverse (kept g (s ∷ e))
kept-close g s e m ms o c marks =
    let i = nested e 0 marks.0 in
    let outer = flat_map g (active_on (drop 1 (path e)) e) in
    let inner = flat_map g i.front in
    let split : kept g e ≡ inner ++ outer = ap (λ ss. flat_map g ss) i.eq ∙ flat_map-append g i.front (active_on (drop 1 (path e)) e) in
    let after : kept g (s ∷ e) ≡ outer = ap (λ ss. flat_map g ss) (active-close s e o c marks.0) in
    let turned : reverse (kept g e) ≡ reverse outer ++ reverse inner = ap (λ l. reverse l) split ∙ reverse-append inner outer in
    let long : m ≡ length (reverse outer) = marks.1 ∙ sym (length-reverse outer) in
    ap (λ l. take m l) turned ∙ ap (λ (j : ℕ). take j (reverse outer ++ reverse inner)) long ∙ take-front (reverse outer) (reverse inner) ∙ ap (λ l. reverse l) (sym after)
