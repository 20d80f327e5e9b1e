-- Lists that are read hypothesis by hypothesis, and the only list that is.
use Rattle.std.specs.Prelude.{◌≡◌, ◌<◌, ◌+◌, ◌++◌, ℕ, zero, suc, Bool, true, false, not, List, [], ◌∷◌, length, take, drop, slice_get, Some, refl}
use Rattle.std.specs.List.{AllZip}
use Rattle.std.proofs.Common.{arith, ap, ◌∙◌, subst, cond, append-nil, get_or}
use Rattle.std.proofs.lemmas.List.{take_more}
use Rattle.mm_model.specs.declared.frames.Hyp.{Hyp}
use Rattle.mm_model.specs.Productions.{essentials}
use Rattle.mm_database.specs.Formulas.{IsAnswer}

module _ {A B : Type 0} (R : A → B → Type 0) where
  -- the parts of a list that belong to the parts of another
  pub record Parted (xs zs : List A) (ys : List B) : Type 0 where
    pub front : List B
    pub back : List B
    pub is : ys ≡ front ++ back
    pub first : AllZip R xs front
    pub rest : AllZip R zs back

  pub zip_append : (xs zs : List A) (ys ws : List B) → AllZip R xs ys → AllZip R zs ws → AllZip R (xs ++ zs) (ys ++ ws)
  zip_append [] zs [] ws h k = k
  zip_append [] zs (y ∷ ys) ws h k = absurd h
  zip_append (x ∷ xs) zs [] ws h k = absurd h
  zip_append (x ∷ xs) zs (y ∷ ys) ws h k = (h.0, zip_append xs zs ys ws h.1 k)

  -- what stands beside an element
  pub record Beside (xs : List A) (ys : List B) (k : ℕ) (x : A) : Type 0 where
    pub other : B
    pub stands : slice_get ys k ≡ Some other
    pub belongs : R x other

  pub zip_at : (xs : List A) (ys : List B) → AllZip R xs ys → (k : ℕ) (x : A) → slice_get xs k ≡ Some x → Beside xs ys k x
  zip_at [] ys h k x e = absurd (cc)
  zip_at (a ∷ xs) [] h k x e = absurd h
  zip_at (a ∷ xs) (b ∷ ys) h zero x e = let same : a ≡ x = cc in record { other = b; stands = refl; belongs = subst (λ y. R y b) same h.0 }
  zip_at (a ∷ xs) (b ∷ ys) h (suc k) x e = let z = zip_at xs ys h.1 k x e in record { other = z.other; stands = z.stands; belongs = z.belongs }

  -- what stands beside a value of the second list
  pub record Before (xs : List A) (k : ℕ) (y : B) : Type 0 where
    pub other : A
    pub stands : slice_get xs k ≡ Some other
    pub belongs : R other y

  pub zip_back : (xs : List A) (ys : List B) → AllZip R xs ys → (k : ℕ) (y : B) → slice_get ys k ≡ Some y → Before xs k y
  zip_back xs [] h k y e = absurd (cc)
  zip_back [] (b ∷ ys) h k y e = absurd h
  zip_back (a ∷ xs) (b ∷ ys) h zero y e = let same : b ≡ y = cc in record { other = a; stands = refl; belongs = subst (λ z. R a z) same h.0 }
  zip_back (a ∷ xs) (b ∷ ys) h (suc k) y e = let z = zip_back xs ys h.1 k y e in record { other = z.other; stands = z.stands; belongs = z.belongs }

  zip_parts_more : (x : A) (xs zs : List A) (y : B) (ys : List B) → R x y → Parted xs zs ys → Parted (x ∷ xs) zs (y ∷ ys)
  zip_parts_more x xs zs y ys r p = record { front = y ∷ p.front; back = p.back; is = ap (λ l. y ∷ l) p.is; first = (r, p.first); rest = p.rest }

  pub zip_parts : (xs zs : List A) (ys : List B) → AllZip R (xs ++ zs) ys → Parted xs zs ys
  zip_parts [] zs ys h = record { front = []; back = ys; is = refl; first = tt; rest = h }
  zip_parts (x ∷ xs) zs [] h = absurd h
  zip_parts (x ∷ xs) zs (y ∷ ys) h = zip_parts_more x xs zs y ys h.0 (zip_parts xs zs ys h.1)

  -- the only value that belongs to one more is put behind
  one_back : (x : A) (y : B) → ((z : B) → R x z → z ≡ y) → (ws : List B) → AllZip R (x ∷ []) ws → ws ≡ y ∷ []
  one_back x y only [] h = absurd h
  one_back x y only (w ∷ []) h = ap (λ z. z ∷ []) (only w h.0)
  one_back x y only (w ∷ v ∷ ws) h = absurd h.1

  pub one_more : (xs : List A) (ys : List B) (x : A) (y : B) → IsAnswer (AllZip R xs) (Some ys) → IsAnswer (R x) (Some y) → IsAnswer (AllZip R (xs ++ x ∷ [])) (Some (ys ++ y ∷ []))
  one_more xs ys x y h r = (
    zip_append xs (x ∷ []) ys (y ∷ []) h.0 (r.0, tt),
    λ ws z.
        let p = zip_parts xs (x ∷ []) ws z in
        p.is ∙ ap (λ l. l ++ p.back) (h.1 p.front p.first) ∙ ap (λ l. ys ++ l) (one_back x y r.1 p.back p.rest),
  )

  -- where one has no value, the lists have none
  pub none_there : (xs zs : List A) (x : A) → ((y : B) → R x y → ⊥) → (ws : List B) → AllZip R (xs ++ x ∷ zs) ws → ⊥
  none_there xs zs x none ws z = last (zip_parts xs (x ∷ zs) ws z).back (zip_parts xs (x ∷ zs) ws z).rest
    where
      last : (vs : List B) → AllZip R (x ∷ zs) vs → ⊥
      last [] h = h
      last (v ∷ vs) h = none v h.0

-- ---- the `$e` among hypotheses

kept_first : (b : Bool) (h : Hyp) (all front back : List Hyp) → all ≡ front ++ back → cond (not b) (h ∷ all) all ≡ cond (not b) (h ∷ front) front ++ back
kept_first true h all front back e = e
kept_first false h all front back e = ap (λ l. h ∷ l) e

essentials-append : (hs ks : List Hyp) → essentials (hs ++ ks) ≡ essentials hs ++ essentials ks
essentials-append [] ks = refl
essentials-append (h ∷ hs) ks = kept_first h.floating h (essentials (hs ++ ks)) (essentials hs) (essentials ks) (essentials-append hs ks)

essential_alone : (b : Bool) (h : Hyp) → b ≡ false → cond (not b) (h ∷ []) [] ≡ h ∷ []
essential_alone true h e = absurd (cc)
essential_alone false h e = refl

floating_alone : (b : Bool) (h : Hyp) → b ≡ true → cond (not b) (h ∷ []) [] ≡ []
floating_alone true h e = refl
floating_alone false h e = absurd (cc)

pub essential_more : (hs : List Hyp) (k : ℕ) (d : Hyp) → k < length hs → (get_or hs k d).floating ≡ false → essentials (take (k + 1) hs) ≡ essentials (take k hs) ++ get_or hs k d ∷ []
essential_more hs k d l e =
    ap essentials (take_more hs k d l) ∙ essentials-append (take k hs) (get_or hs k d ∷ []) ∙ ap (λ l. essentials (take k hs) ++ l) (essential_alone (get_or hs k d).floating (get_or hs k d) e)

pub floating_more : (hs : List Hyp) (k : ℕ) (d : Hyp) → k < length hs → (get_or hs k d).floating ≡ true → essentials (take (k + 1) hs) ≡ essentials (take k hs)
floating_more hs k d l e =
    ap essentials (take_more hs k d l) ∙ essentials-append (take k hs) (get_or hs k d ∷ []) ∙ ap (λ l. essentials (take k hs) ++ l) (floating_alone (get_or hs k d).floating (get_or hs k d) e)
    ∙ append-nil (essentials (take k hs))

split_at : {X : Type 0} (xs : List X) (k : ℕ) (d : X) → k < length xs → xs ≡ take k xs ++ get_or xs k d ∷ drop (k + 1) xs
split_at [] k d l = absurd (omega arith)
split_at (x ∷ xs) zero d l = refl
split_at (x ∷ xs) (suc k) d l =
    ap (λ ys. x ∷ ys)
    (split_at xs k d (omega (arith, l)) ∙ ap (λ n. take k xs ++ get_or xs k d ∷ drop n xs) (let same : k + 1 ≡ suc k = omega arith in same))
    ∙ ap (λ n. x ∷ (take k xs ++ get_or xs k d ∷ drop n (x ∷ xs))) (let same : suc (suc k) ≡ suc k + 1 = omega arith in same)

pub essential_split : (hs : List Hyp) (k : ℕ) (d : Hyp) → k < length hs → (get_or hs k d).floating ≡ false → essentials hs ≡ essentials (take k hs) ++ get_or hs k d ∷ essentials (drop (k + 1) hs)
essential_split hs k d l e =
    ap essentials (split_at hs k d l) ∙ essentials-append (take k hs) (get_or hs k d ∷ drop (k + 1) hs)
    ∙ ap (λ l. essentials (take k hs) ++ l) (behind (get_or hs k d).floating (get_or hs k d) (essentials (drop (k + 1) hs)) e)
  where
    behind : (b : Bool) (h : Hyp) (rest : List Hyp) → b ≡ false → cond (not b) (h ∷ rest) rest ≡ h ∷ rest
    behind true h rest e = absurd (cc)
    behind false h rest e = refl
