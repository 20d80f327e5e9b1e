-- The pairs of places in an order, and how many orders there are.
use Rattle.std.specs.Prelude.{◌≡◌, ◌==◌, ℕ, ◌<◌, ◌≤◌, ◌+◌, ◌*◌, ◌&&◌, Bool, true, false, List, [], ◌∷◌, ◌++◌, length, map, take, nat_le, slice_get, Some, refl}
use Rattle.std.specs.List.{AllByRecursion, flat_map, range_with_len}
use Rattle.std.proofs.Common.{zero, suc, get_or, ap, subst, ◌∙◌, arith}
use Rattle.std.proofs.lemmas.Bool.Decides.{nat_tests}
use Rattle.std.proofs.lemmas.List.{length-append, length-map}
use Rattle.std.proofs.lemmas.List.FromFn.{length-range_with_len}
use Rattle.std.proofs.lemmas.Option.{slice_get_within}
use Rattle.sheet_text.specs.declared.sheet.Given.{Given}
use Rattle.sheet_text.specs.declared.sheet.Given.TheVariants as given
use Rattle.solve_model.specs.Firsts.{orders, picks}
use Rattle.written_model.specs.Existence.{IsPlaceIn}
use Rattle.term_model.specs.declared.shape.Id.{Id}
use Rattle.step_chain.specs.Grown.{AreIdsIn}
use Rattle.step_chain.specs.Joined.{ArePairsIn}
use Rattle.step_chain.specs.Ordered.{may_reorder, place_at, formula_at, reordered, one_pair, id_pairs, tried}

pub reorder_by : (n hyps : ℕ) (b : Bool) → n ≡ hyps → 2 ≤ n → n ≤ 6 → b ≡ ((n == hyps) && nat_le 2 n && nat_le n 6 && b)
reorder_by n hyps b e f g =
    let one : (n == hyps) ≡ true = grind (arith, nat_tests) in
    let two : nat_le 2 n ≡ true = grind (arith, nat_tests) in
    let three : nat_le n 6 ≡ true = grind (arith, nat_tests) in
    rw (one, two, three) refl

take_none : (n : ℕ) → ◌≡◌ {A = List Given} (take n []) []
take_none zero = refl
take_none (suc n) = refl

module _ (formulas : List Id) where
  one_first : (g : Given) (h : Id) → id_pairs formulas (g ∷ []) (h ∷ []) ≡ one_pair formulas g h
  one_first given.Gap h = refl
  one_first (given.Step k) h = refl

  -- one `$e` more
  pairs_next : (gs : List Given) (hs : List Id) (k : ℕ) (d : Id) → k < length hs
      → id_pairs formulas (take (suc k) gs) (take (suc k) hs)
      ≡ id_pairs formulas (take k gs) (take k hs) ++ one_pair formulas (place_at gs k) (get_or hs k d)
  pairs_next [] hs k d h = rw (take_none k) refl
  pairs_next (g ∷ gs) [] k d h = absurd (omega (arith, h))
  pairs_next (g ∷ gs) (x ∷ hs) zero d h = one_first g x
  pairs_next (given.Gap ∷ gs) (x ∷ hs) (suc k) d h = pairs_next gs hs k d (omega (arith, h))
  pairs_next (given.Step j ∷ gs) (x ∷ hs) (suc k) d h = ap (λ (ps : List (Id × Id)). (x, formula_at formulas j) ∷ ps) (pairs_next gs hs k d (omega (arith, h)))

  pub pairs_more : (gs : List Given) (hs : List Id) (k : ℕ) (d : Id) → k < length hs
      → id_pairs formulas (take (k + 1) gs) (take (k + 1) hs)
      ≡ id_pairs formulas (take k gs) (take k hs) ++ one_pair formulas (place_at gs k) (get_or hs k d)
  pairs_more gs hs k d h =
      let up : suc k ≡ k + 1 = omega arith in
      subst (λ (n : ℕ). id_pairs formulas (take n gs) (take n hs) ≡ id_pairs formulas (take k gs) (take k hs) ++ one_pair formulas (place_at gs k) (get_or hs k d)) up (pairs_next gs hs k d h)

  -- places past the last `$e` join nothing
  pub pairs_past : (gs : List Given) (hs : List Id) (k : ℕ) → length hs ≤ k → id_pairs formulas (take k gs) hs ≡ id_pairs formulas gs hs
  pairs_past [] hs k h = rw (take_none k) refl
  pairs_past (g ∷ gs) [] zero h = refl
  pairs_past (g ∷ gs) [] (suc k) h = refl
  pairs_past (g ∷ gs) (x ∷ hs) zero h = absurd (omega (arith, h))
  pairs_past (given.Gap ∷ gs) (x ∷ hs) (suc k) h = pairs_past gs hs k (omega (arith, h))
  pairs_past (given.Step j ∷ gs) (x ∷ hs) (suc k) h = ap (λ (ps : List (Id × Id)). (x, formula_at formulas j) ∷ ps) (pairs_past gs hs k (omega (arith, h)))

  formula_inside : (n k : ℕ) (fs : List Id) → k < length fs → AreIdsIn n fs → (formula_at fs k).0 < n
  formula_inside n k [] h a = absurd (omega (arith, h))
  formula_inside n zero (f ∷ fs) h a = a.0
  formula_inside n (suc k) (f ∷ fs) h a = formula_inside n k fs (omega (arith, h)) a.1

  pub pairs_inside : (n : ℕ) (gs : List Given) (hs : List Id) → AreIdsIn n formulas → AreIdsIn n hs → AllByRecursion (IsPlaceIn (length formulas)) gs → ArePairsIn n (id_pairs formulas gs hs)
  pairs_inside n [] hs f h p = tt
  pairs_inside n (g ∷ gs) [] f h p = tt
  pairs_inside n (given.Gap ∷ gs) (x ∷ hs) f h p = pairs_inside n gs hs f h.1 p.1
  pairs_inside n (given.Step k ∷ gs) (x ∷ hs) f h p = ((h.0, formula_inside n k formulas p.0 f), pairs_inside n gs hs f h.1 p.1)

place_inside : (m k : ℕ) (gs : List Given) → AllByRecursion (IsPlaceIn m) gs → IsPlaceIn m (place_at gs k)
place_inside m k [] h = tt
place_inside m zero (g ∷ gs) h = h.0
place_inside m (suc k) (g ∷ gs) h = place_inside m k gs h.1

pub reordered_inside : (m : ℕ) (gs : List Given) (order : List ℕ) → AllByRecursion (IsPlaceIn m) gs → AllByRecursion (IsPlaceIn m) (reordered gs order)
reordered_inside m gs [] h = tt
reordered_inside m gs (k ∷ ks) h = (place_inside m k gs h, reordered_inside m gs ks h)

-- ---- how many orders there are

factorial : ℕ → ℕ
factorial zero = 1
factorial (suc n) = suc n * factorial n

picks_shorter : {X : Type 0} (xs : List X) → AllByRecursion (λ (p : X × List X). length p.1 + 1 ≡ length xs) (picks xs)
picks_shorter [] = tt
picks_shorter {X = X} (x ∷ xs) = (omega arith, later (picks xs) (picks_shorter xs))
  where
    later : (ps : List (X × List X)) → AllByRecursion (λ (p : X × List X). length p.1 + 1 ≡ length xs) ps
        → AllByRecursion (λ (p : X × List X). length p.1 + 1 ≡ length (x ∷ xs)) (map (λ p. (p.0, x ∷ p.1)) ps)
    later [] h = tt
    later (p ∷ ps) h = (omega (arith, h.0), later ps h.1)

length-picks : {X : Type 0} (xs : List X) → length (picks xs) ≡ length xs
length-picks [] = refl
length-picks {X = X} (x ∷ xs) =
    let rest = length-picks xs in
    let f : X × List X → X × List X = λ p. (p.0, x ∷ p.1) in
    let same = length-map (picks xs) f in
    omega (arith, rest, same)

flat_count : {X Y : Type 0} (f : X → List Y) (m : ℕ) (xs : List X) → AllByRecursion (λ x. length (f x) ≡ m) xs → length (flat_map f xs) ≡ length xs * m
flat_count f m [] h = omega arith
flat_count f m (x ∷ xs) h =
    let rest = flat_count f m xs h.1 in
    let here = h.0 in
    length-append (f x) (flat_map f xs) ∙ omega (arith, here, rest)

module _ (X : Type 0) where
  abbrev IsCounted : ℕ → Type 0
  IsCounted n = (xs : List X) → length xs ≡ n → length (orders n xs) ≡ factorial n

  each_counted : (n : ℕ) (xs : List X) → IsCounted n → length xs ≡ suc n → (ps : List (X × List X))
      → AllByRecursion (λ (p : X × List X). length p.1 + 1 ≡ length xs) ps
      → AllByRecursion (λ (p : X × List X). length (map (λ rest. p.0 ∷ rest) (orders n p.1)) ≡ factorial n) ps
  each_counted n xs h e [] a = tt
  each_counted n xs h e (p ∷ ps) a = (length-map (orders n p.1) (λ rest. p.0 ∷ rest) ∙ h p.1 (omega (arith, a.0, e)), each_counted n xs h e ps a.1)

  orders_count : (n : ℕ) → IsCounted n
  unfolding factorial
  orders_count zero xs e = refl
  orders_count (suc n) xs e =
      flat_count (λ (p : X × List X). map (λ rest. p.0 ∷ rest) (orders n p.1)) (factorial n) (picks xs) (each_counted n xs (orders_count n) e (picks xs) (picks_shorter xs))
      ∙ ap (λ (k : ℕ). k * factorial n) (length-picks xs ∙ e)

few_orders : (n : ℕ) → n ≤ 6 → factorial n ≤ 720
unfolding factorial
few_orders zero h = omega arith
few_orders (suc zero) h = omega arith
few_orders (suc (suc zero)) h = omega arith
few_orders (suc (suc (suc zero))) h = omega arith
few_orders (suc (suc (suc (suc zero)))) h = omega arith
few_orders (suc (suc (suc (suc (suc zero))))) h = omega arith
few_orders (suc (suc (suc (suc (suc (suc zero)))))) h = omega arith
few_orders (suc (suc (suc (suc (suc (suc (suc n))))))) h = absurd (omega (arith, h))

few_by : (n : ℕ) (b : Bool) → (b ≡ true → n ≤ 6) → length (tried b n) ≤ 720
few_by n true h = let count = orders_count ℕ n (range_with_len 0 n) (length-range_with_len 0 n) in let few = few_orders n (h refl) in omega (arith, count, few)
few_by n false h = omega arith

and_last : (a b : Bool) → (a && b) ≡ true → b ≡ true
and_last true b e = e
and_last false b e = absurd (cc)

and_first : (a b : Bool) → (a && b) ≡ true → a ≡ true
and_first true b e = refl
and_first false b e = e

free_few : (places : List Given) (hyps : ℕ) → may_reorder places hyps ≡ true → length places ≤ 6
free_few places hyps e = grind (arith, nat_tests, e)

pub few_tried : (places : List Given) (hyps k : ℕ) (o : List ℕ) → slice_get (tried (may_reorder places hyps) (length places)) k ≡ Some o → k < 720
few_tried places hyps k o e =
    let few = few_by (length places) (may_reorder places hyps) (λ h. free_few places hyps h) in
    omega (arith, few, slice_get_within (tried (may_reorder places hyps) (length places)) k o e)
