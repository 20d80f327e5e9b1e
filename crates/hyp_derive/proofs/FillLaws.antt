-- New trees and places, one wanted tree after the other.
use Rattle.std.proofs.Common.{◌≡◌, ℕ, ◌+◌, ◌<◌, ◌≤◌, Bool, true, false, List, [], ◌∷◌, ◌++◌, map, fold, length, take, get_or, Some, None, nat_lt}
use Rattle.std.proofs.Common.{position, append_assoc, refl, sym, ap, ◌∙◌, inl, inr, arith}
use Rattle.std.specs.List.{list_any, position_or_len}
use Rattle.std.proofs.lemmas.Bool.{cases_Bool}
use Rattle.std.proofs.lemmas.Bool.Decides.{nat_tests}
use Rattle.std.proofs.lemmas.List.{append-nil, length-append, take_all}
use Rattle.std.proofs.lemmas.List.Sums.{fold_more}
use Rattle.std.proofs.lemmas.List.Folds.{list_any-append}
use Rattle.mm_base.specs.declared.tree.Tree.{Tree}
use Rattle.solve_model.specs.Trees.{same_tree}
use Rattle.written_model.specs.Filled.{new_trees, fill}
use Rattle.written_model.specs.declared.filled.Filled.{Filled}
use Rattle.hyp_derive.specs.Filling.{with_tree}

-- ---- the first place that passes

module _ {X : Type 0} (p : X → Bool) where
  place_kept : (xs ys : List X) → list_any p xs ≡ true → position_or_len p (xs ++ ys) ≡ position_or_len p xs
  place_kept [] ys h = absurd (cc)
  place_kept (x ∷ xs) ys h = elim (cases_Bool (p x)) [
    | inl e ↦ rw e refl
    | inr e ↦ let later : list_any p xs ≡ true = rw e at h in rw e (ap (λ n. 1 + n) (place_kept xs ys later))
  ]

  place_behind : (xs : List X) (y : X) (ys : List X) → list_any p xs ≡ false → p y ≡ true → position_or_len p (xs ++ y ∷ ys) ≡ position_or_len p xs
  place_behind [] y ys h e = rw e refl
  place_behind (x ∷ xs) y ys h e = elim (cases_Bool (p x)) [
    | inl f ↦ let bad : true ≡ false = rw f at h in absurd (cc)
    | inr f ↦ let later : list_any p xs ≡ false = rw f at h in rw f (ap (λ n. 1 + n) (place_behind xs y ys later e))
  ]

  place_past : (xs ys : List X) → list_any p xs ≡ false → position_or_len p (xs ++ ys) ≡ length xs + position_or_len p ys
  place_past [] ys h = sym (omega arith)
  place_past (x ∷ xs) ys h = elim (cases_Bool (p x)) [
    | inl f ↦ let bad : true ≡ false = rw f at h in absurd (cc)
    | inr f ↦ let later : list_any p xs ≡ false = rw f at h in let rest = place_past xs ys later in rw f (omega (arith, rest))
  ]

  place_there : (xs : List X) → list_any p xs ≡ true → position_or_len p xs < length xs
  place_there [] h = absurd (cc)
  place_there (x ∷ xs) h = elim (cases_Bool (p x)) [
    | inl e ↦ rw e (omega arith)
    | inr e ↦ let later : list_any p xs ≡ true = rw e at h in let rest = place_there xs later in rw e (omega (arith, rest))
  ]

  place_none : (xs : List X) → list_any p xs ≡ false → position_or_len p xs ≡ length xs
  place_none [] h = refl
  place_none (x ∷ xs) h = elim (cases_Bool (p x)) [
    | inl f ↦ let bad : true ≡ false = rw f at h in absurd (cc)
    | inr f ↦ let later : list_any p xs ≡ false = rw f at h in let rest = place_none xs later in rw f (omega (arith, rest))
  ]

  -- ---- the place as an option

  pos_some : (xs : List X) → list_any p xs ≡ true → position p xs ≡ Some (position_or_len p xs)
  pos_some xs h = let less : nat_lt (position_or_len p xs) (length xs) ≡ true = told (position_or_len p xs) (length xs) (place_there xs h) in rw less refl
    where
      told : (a b : ℕ) → a < b → nat_lt a b ≡ true
      told a b l = grind (arith, nat_tests)

  pos_none : (xs : List X) → list_any p xs ≡ false → position p xs ≡ None
  pos_none xs h = let more : nat_lt (position_or_len p xs) (length xs) ≡ false = told (position_or_len p xs) (length xs) (place_none xs h) in rw more refl
    where
      told : (a b : ℕ) → a ≡ b → nat_lt a b ≡ false
      told a b l = grind (arith, nat_tests)

  pub some_told : (xs : List X) (n : ℕ) → Some n ≡ position p xs → (list_any p xs ≡ true) × (n ≡ position_or_len p xs)
  some_told xs n e = elim (cases_Bool (list_any p xs)) [
    | inl h ↦ let is = e ∙ pos_some xs h in (h, cc)
    | inr h ↦ let is : Some n ≡ None = e ∙ pos_none xs h in absurd (cc)
  ]

  pub none_told : (xs : List X) → None ≡ position p xs → list_any p xs ≡ false
  none_told xs e = elim (cases_Bool (list_any p xs)) [ inl h ↦ let is : None ≡ Some (position_or_len p xs) = e ∙ pos_some xs h in absurd (cc) | inr h ↦ h ]

  pub none_place : (xs : List X) → None ≡ position p xs → position_or_len p xs ≡ length xs
  none_place xs e = place_none xs (none_told xs e)

  any_first : (xs ys : List X) → list_any p xs ≡ true → list_any p (xs ++ ys) ≡ true
  any_first xs ys h = rw (list_any-append p xs ys, h) refl

  any_second : (xs ys : List X) → list_any p xs ≡ false → list_any p (xs ++ ys) ≡ list_any p ys
  any_second xs ys h = rw (list_any-append p xs ys, h) refl

  pub pos_first : (xs ys : List X) (n : ℕ) → Some n ≡ position p xs → Some n ≡ position p (xs ++ ys)
  pos_first xs ys n e =
      let t = some_told xs n e in
      ap (λ (k : ℕ). Some k) (t.1 ∙ sym (place_kept xs ys t.0)) ∙ sym (pos_some (xs ++ ys) (any_first xs ys t.0))

  pub pos_second : (xs ys : List X) (n : ℕ) → None ≡ position p xs → Some n ≡ position p ys → Some (length xs + n) ≡ position p (xs ++ ys)
  pos_second xs ys n e f =
      let none = none_told xs e in
      let t = some_told ys n f in
      ap (λ (k : ℕ). Some (length xs + k)) t.1 ∙ ap (λ (k : ℕ). Some k) (sym (place_past xs ys none)) ∙ sym (pos_some (xs ++ ys) (any_second xs ys none ∙ t.0))

  pub pos_neither : (xs ys : List X) → None ≡ position p xs → None ≡ position p ys → None ≡ position p (xs ++ ys)
  pos_neither xs ys e f = sym (pos_none (xs ++ ys) (any_second xs ys (none_told xs e) ∙ none_told ys f))

-- ---- one wanted tree after the other

pub record State : Type 0 where
  pub made : List Tree
  pub places : List ℕ

abbrev pub state : List Tree → List ℕ → State
state made places = record { made = made; places = places }

pub tree_kept : (earlier made : List Tree) (w : Tree) → list_any (same_tree w) (earlier ++ made) ≡ true → with_tree earlier made w ≡ made
tree_kept earlier made w h = rw h refl

pub tree_put : (earlier made : List Tree) (w : Tree) → list_any (same_tree w) (earlier ++ made) ≡ false → with_tree earlier made w ≡ made ++ w ∷ []
tree_put earlier made w h = rw h refl

new_kept : (seen : List Tree) (w : Tree) (ws : List Tree) → list_any (same_tree w) seen ≡ true → new_trees seen (w ∷ ws) ≡ new_trees seen ws
new_kept seen w ws h = rw h refl

new_put : (seen : List Tree) (w : Tree) (ws : List Tree) → list_any (same_tree w) seen ≡ false → new_trees seen (w ∷ ws) ≡ w ∷ new_trees (seen ++ w ∷ []) ws
new_put seen w ws h = rw h refl

module _ (earlier : List Tree) where
  abbrev pub at : List Tree → Tree → ℕ
  at all w = position_or_len (same_tree w) (earlier ++ all)

  abbrev all_made : List Tree → List Tree → List Tree
  all_made made ws = made ++ new_trees (earlier ++ made) ws

  all_kept : (made : List Tree) (w : Tree) (ws : List Tree) → list_any (same_tree w) (earlier ++ made) ≡ true → all_made made (w ∷ ws) ≡ all_made made ws
  all_kept made w ws h = ap (λ ts. made ++ ts) (new_kept (earlier ++ made) w ws h)

  all_put : (made : List Tree) (w : Tree) (ws : List Tree) → list_any (same_tree w) (earlier ++ made) ≡ false → all_made made (w ∷ ws) ≡ all_made (made ++ w ∷ []) ws
  all_put made w ws h =
      ap (λ ts. made ++ ts) (new_put (earlier ++ made) w ws h ∙ ap (λ seen. w ∷ new_trees seen ws) (append_assoc earlier made (w ∷ [])))
      ∙ sym (append_assoc made (w ∷ []) (new_trees (earlier ++ (made ++ w ∷ [])) ws))

  at_kept : (made : List Tree) (w : Tree) (ws : List Tree) → list_any (same_tree w) (earlier ++ made) ≡ true → at made w ≡ at (all_made made ws) w
  at_kept made w ws h =
      sym (place_kept (same_tree w) (earlier ++ made) (new_trees (earlier ++ made) ws) h) ∙ ap (position_or_len (same_tree w)) (append_assoc earlier made (new_trees (earlier ++ made) ws))

  abbrev pub step : State → Tree → State
  step s w = state (with_tree earlier s.made w) (s.places ++ at s.made w ∷ [])

module _ (itself : (t : Tree) → same_tree t t ≡ true) (earlier : List Tree) where
  at_put : (made : List Tree) (w : Tree) (ws : List Tree) → list_any (same_tree w) (earlier ++ made) ≡ false → at earlier made w ≡ at earlier (all_made earlier (made ++ w ∷ []) ws) w
  at_put made w ws h =
      let rest = new_trees (earlier ++ (made ++ w ∷ [])) ws in
      sym (place_behind (same_tree w) (earlier ++ made) w rest h (itself w)) ∙ ap (position_or_len (same_tree w)) (append_assoc earlier made (w ∷ rest))
      ∙ ap (λ ts. position_or_len (same_tree w) (earlier ++ ts)) (sym (append_assoc made (w ∷ []) rest))

  pub made_all : (ws made : List Tree) (places : List ℕ) → (fold (step earlier) (state made places) ws).made ≡ all_made earlier made ws
  made_all [] made places = sym (append-nil made)
  made_all (w ∷ ws) made places = elim (cases_Bool (list_any (same_tree w) (earlier ++ made))) [
    | inl e ↦
        ap (λ m. (fold (step earlier) (state m (places ++ at earlier made w ∷ [])) ws).made) (tree_kept earlier made w e)
        ∙ made_all ws made (places ++ at earlier made w ∷ []) ∙ sym (all_kept earlier made w ws e)
    | inr e ↦
        ap (λ m. (fold (step earlier) (state m (places ++ at earlier made w ∷ [])) ws).made) (tree_put earlier made w e)
        ∙ made_all ws (made ++ w ∷ []) (places ++ at earlier made w ∷ []) ∙ sym (all_put earlier made w ws e)
  ]

  pub places_all : (ws made : List Tree) (places : List ℕ) → (fold (step earlier) (state made places) ws).places ≡ places ++ map (at earlier (all_made earlier made ws)) ws
  places_all [] made places = sym (append-nil places)
  places_all (w ∷ ws) made places = elim (cases_Bool (list_any (same_tree w) (earlier ++ made))) [
    | inl e ↦
        ap (λ m. (fold (step earlier) (state m (places ++ at earlier made w ∷ [])) ws).places) (tree_kept earlier made w e)
        ∙ places_all ws made (places ++ at earlier made w ∷ [])
        ∙ append_assoc places (at earlier made w ∷ []) (map (at earlier (all_made earlier made ws)) ws)
        ∙ ap (λ k. places ++ k ∷ map (at earlier (all_made earlier made ws)) ws) (at_kept earlier made w ws e)
        ∙ ap (λ all. places ++ at earlier all w ∷ map (at earlier all) ws) (sym (all_kept earlier made w ws e))
    | inr e ↦
        ap (λ m. (fold (step earlier) (state m (places ++ at earlier made w ∷ [])) ws).places) (tree_put earlier made w e)
        ∙ places_all ws (made ++ w ∷ []) (places ++ at earlier made w ∷ [])
        ∙ append_assoc places (at earlier made w ∷ []) (map (at earlier (all_made earlier (made ++ w ∷ []) ws)) ws)
        ∙ ap (λ k. places ++ k ∷ map (at earlier (all_made earlier (made ++ w ∷ []) ws)) ws) (at_put made w ws e)
        ∙ ap (λ all. places ++ at earlier all w ∷ map (at earlier all) ws) (sym (all_put earlier made w ws e))
  ]

-- ---- a turn of the loop, and the end

pub one_more : (earlier ts : List Tree) (i : ℕ) (w : Tree) (made made' : List Tree) (places places' : List ℕ) (place : ℕ) → i < length ts → w ≡ get_or ts i w
    → made ≡ (fold (step earlier) (state [] []) (take i ts)).made → places ≡ (fold (step earlier) (state [] []) (take i ts)).places
    → made' ≡ with_tree earlier made w → place ≡ at earlier made w → places' ≡ places ++ place ∷ []
    → (made' ≡ (fold (step earlier) (state [] []) (take (i + 1) ts)).made) × (places' ≡ (fold (step earlier) (state [] []) (take (i + 1) ts)).places)
one_more earlier ts i w made made' places places' place h is m p m' k p' =
    let next : fold (step earlier) (state [] []) (take (i + 1) ts) ≡ step earlier (state made places) w =
    fold_more (step earlier) (state [] []) ts i w h ∙ ap (λ t. step earlier (fold (step earlier) (state [] []) (take i ts)) t) (sym is)
    ∙ ap (λ x. step earlier (state x (fold (step earlier) (state [] []) (take i ts)).places) w) (sym m) ∙ ap (λ x. step earlier (state made x) w) (sym p) in
    (m' ∙ sym (ap (λ (s : State). s.made) next), p' ∙ ap (λ n. places ++ n ∷ []) k ∙ sym (ap (λ (s : State). s.places) next))

filled : List Tree → List ℕ → Filled
filled made places = record { made = made; places = places }

pub filled_is : (itself : (t : Tree) → same_tree t t ≡ true) (known earlier ts wanted made : List Tree) (places : List ℕ) (i : ℕ) → known ≡ earlier → ts ≡ wanted → length ts ≤ i
    → made ≡ (fold (step known) (state [] []) (take i ts)).made → places ≡ (fold (step known) (state [] []) (take i ts)).places
    → record { made = made; places = places } ≡ fill earlier wanted
unfolding filled
filled_is itself known earlier ts wanted made places i a b h m p =
    let all : fold (step known) (state [] []) (take i ts) ≡ fold (step earlier) (state [] []) wanted =
    ap (fold (step known) (state [] [])) (take_all i ts h ∙ b) ∙ ap (λ x. fold (step x) (state [] []) wanted) a in
    let none : all_made earlier [] wanted ≡ new_trees earlier wanted = ap (λ seen. new_trees seen wanted) (append-nil earlier) in
    ap (λ x. filled x places) (m ∙ ap (λ (s : State). s.made) all ∙ made_all itself earlier wanted [] [] ∙ none)
    ∙ ap (λ x. filled (new_trees earlier wanted) x) (p ∙ ap (λ (s : State). s.places) all ∙ places_all itself earlier wanted [] [] ∙ ap (λ x. map (at earlier x) wanted) none)

-- ---- one wanted tree

pub kept_told : (earlier made slice : List Tree) (w : Tree) (n : ℕ) → slice ≡ made → Some n ≡ position (same_tree w) (earlier ++ slice) → made ≡ with_tree earlier made w
kept_told earlier made slice w n e h = sym (tree_kept earlier made w (ap (λ ts. list_any (same_tree w) (earlier ++ ts)) (sym e) ∙ (some_told (same_tree w) (earlier ++ slice) n h).0))

pub put_told : (earlier made slice : List Tree) (w : Tree) → slice ≡ made → None ≡ position (same_tree w) (earlier ++ slice) → made ++ w ∷ [] ≡ with_tree earlier made w
put_told earlier made slice w e h = sym (tree_put earlier made w (ap (λ ts. list_any (same_tree w) (earlier ++ ts)) (sym e) ∙ none_told (same_tree w) (earlier ++ slice) h))

pub place_told : (earlier made slice : List Tree) (w : Tree) (n : ℕ) → slice ≡ made → None ≡ position (same_tree w) (earlier ++ slice) → n ≡ length earlier + length made
    → n ≡ position_or_len (same_tree w) (earlier ++ made)
place_told earlier made slice w n e h is =
    is ∙ sym (length-append earlier made) ∙ ap (λ ts. length (earlier ++ ts)) (sym e) ∙ sym (none_place (same_tree w) (earlier ++ slice) h)
    ∙ ap (λ ts. position_or_len (same_tree w) (earlier ++ ts)) e
