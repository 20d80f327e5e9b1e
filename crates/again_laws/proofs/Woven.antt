-- A list woven from the images of another list's elements, in order, and new elements.
use Rattle.std.specs.Prelude.{◌≡◌, ◌⊎◌, ◌+◌, ◌||◌, ℕ, zero, suc, Bool, true, false, List, [], ◌∷◌, ◌++◌, length, take, filter, slice_get, Some, refl}
use Rattle.std.specs.List.{AllZip, AllByRecursion, list_any}
use Rattle.std.proofs.Common.{ap, subst, ◌∙◌, arith, inl, inr, cond}
use Rattle.again_laws.proofs.Lists.{some_same}

module _ {A B : Type 0} (Own : ℕ → A → B → Type 0) (New : B → Type 0) where
  -- the elements from a number on
  abbrev pub Woven : ℕ → List A → List B → Type 0
  Woven k [] [] = Unit {0}
  Woven k (a ∷ xa) [] = ⊥
  Woven k [] (b ∷ bs) = New b × Woven k [] bs
  Woven k (a ∷ xa) (b ∷ bs) = (New b × Woven k (a ∷ xa) bs) ⊎ (Own k a b × Woven (suc k) xa bs)

  weave_new : (k : ℕ) (xa : List A) (b : B) (bs : List B) → New b → Woven k xa bs → Woven k xa (b ∷ bs)
  weave_new k [] b bs n h = (n, h)
  weave_new k (a ∷ xa) b bs n h = inl (n, h)

  pub weave_all : (k : ℕ) (xa : List A) (xs bs : List B) → AllByRecursion New xs → Woven k xa bs → Woven k xa (xs ++ bs)
  weave_all k xa [] bs n h = h
  weave_all k xa (x ∷ xs) bs n h = weave_new k xa x (xs ++ bs) n.0 (weave_all k xa xs bs n.1 h)

  pub woven-append : (k : ℕ) (xa cs : List A) (bs ds : List B) → Woven k xa bs → Woven (k + length xa) cs ds → Woven k (xa ++ cs) (bs ++ ds)
  woven-append k [] cs [] ds h r = let e : k + 0 ≡ k = omega arith in subst (λ n. Woven n cs ds) e r
  woven-append k (a ∷ xa) cs [] ds h r = absurd h
  woven-append k [] cs (b ∷ bs) ds h r = weave_new k cs b (bs ++ ds) h.0 (woven-append k [] cs bs ds h.1 r)
  woven-append k (a ∷ xa) cs (b ∷ bs) ds (inl h) r = inl (h.0, woven-append k (a ∷ xa) cs bs ds h.1 r)
  woven-append k (a ∷ xa) cs (b ∷ bs) ds (inr h) r = let e : k + suc (length xa) ≡ suc k + length xa = omega arith in inr (h.0, woven-append (suc k) xa cs bs ds h.1 (subst (λ n. Woven n cs ds) e r))

  -- an element is new, or the image of one, and so are those before it
  abbrev pub At : ℕ → List A → ℕ → List B → B → Type 0
  At k xa i bs b = (j : ℕ) × (a : A) × (slice_get xa j ≡ Some a) × Own (k + j) a b × Woven k (take j xa) (take i bs)

  pub woven_at : (k : ℕ) (xa : List A) (bs : List B) → Woven k xa bs → (i : ℕ) (b : B) → slice_get bs i ≡ Some b → New b ⊎ At k xa i bs b
  woven_at k xa [] h i b e = absurd (none i e)
    where
      none : (n : ℕ) → slice_get [] n ≡ Some b → ⊥
      none n q = cc
  woven_at k [] (x ∷ bs) h zero b e = inl (subst New (some_same x b e) h.0)
  woven_at k [] (x ∷ bs) h (suc i) b e = elim (woven_at k [] bs h.1 i b e) [ inl n ↦ inl n | inr r ↦ absurd (none r.0 r.1 r.2) ]
    where
      none : (n : ℕ) (a : A) → slice_get [] n ≡ Some a → ⊥
      none n a q = cc
  woven_at k (a ∷ xa) (x ∷ bs) (inl h) zero b e = inl (subst New (some_same x b e) h.0)
  woven_at k (a ∷ xa) (x ∷ bs) (inr h) zero b e = let p : k ≡ k + 0 = omega arith in inr (0, a, refl, subst (λ n. Own n a b) p (subst (Own k a) (some_same x b e) h.0), tt)
  woven_at k (a ∷ xa) (x ∷ bs) (inl h) (suc i) b e = elim (woven_at k (a ∷ xa) bs h.1 i b e) [
    | inl n ↦ inl n
    | inr r ↦ inr (r.0, r.1, r.2, r.3, weave_new k (take r.0 (a ∷ xa)) x (take i bs) h.0 r.4)
  ]
  woven_at k (a ∷ xa) (x ∷ bs) (inr h) (suc i) b e = elim (woven_at (suc k) xa bs h.1 i b e) [
    | inl n ↦ inl n
    | inr r ↦ let p : suc k + r.0 ≡ k + suc r.0 = omega arith in inr (suc r.0, r.1, r.2, subst (λ n. Own n r.1 b) p r.3, inr (h.0, r.4))
  ]

  -- counts and tests of what is new and what is not
  module _ (p : A → Bool) (q : B → Bool) (own : (k : ℕ) (a : A) (b : B) → Own k a b → q b ≡ p a) (new : (b : B) → New b → q b ≡ false) where
    pub woven_count : (k : ℕ) (xa : List A) (bs : List B) → Woven k xa bs → length (filter q bs) ≡ length (filter p xa)
    woven_count k [] [] h = refl
    woven_count k (a ∷ xa) [] h = absurd h
    woven_count k [] (b ∷ bs) h = let off = new b h.0 in rw off (woven_count k [] bs h.1)
    woven_count k (a ∷ xa) (b ∷ bs) (inl h) = let off = new b h.0 in rw off (woven_count k (a ∷ xa) bs h.1)
    woven_count k (a ∷ xa) (b ∷ bs) (inr h) = ap (λ t. length (cond t (b ∷ filter q bs) (filter q bs))) (own k a b h.0) ∙ by (p a) (woven_count (suc k) xa bs h.1)
      where
        by : (t : Bool) → length (filter q bs) ≡ length (filter p xa) → length (cond t (b ∷ filter q bs) (filter q bs)) ≡ length (cond t (a ∷ filter p xa) (filter p xa))
        by true e = ap (λ n. suc n) e
        by false e = e

    pub woven_any : (k : ℕ) (xa : List A) (bs : List B) → Woven k xa bs → list_any q bs ≡ list_any p xa
    woven_any k [] [] h = refl
    woven_any k (a ∷ xa) [] h = absurd h
    woven_any k [] (b ∷ bs) h = let off = new b h.0 in rw off (woven_any k [] bs h.1)
    woven_any k (a ∷ xa) (b ∷ bs) (inl h) = let off = new b h.0 in rw off (woven_any k (a ∷ xa) bs h.1)
    woven_any k (a ∷ xa) (b ∷ bs) (inr h) = ap (λ t. t || list_any q bs) (own k a b h.0) ∙ ap (λ t. p a || t) (woven_any (suc k) xa bs h.1)

-- other images
pub woven_zip : {A B C : Type 0} (Own : ℕ → A → B → Type 0) (New : B → Type 0) (Own_ : ℕ → A → C → Type 0) (New_ : C → Type 0) (R : B → C → Type 0)
    → ((k : ℕ) (a : A) (b : B) (c : C) → Own k a b → R b c → Own_ k a c) → ((b : B) (c : C) → New b → R b c → New_ c)
    → (k : ℕ) (xa : List A) (bs : List B) (cs : List C) → Woven Own New k xa bs → AllZip R bs cs → Woven Own_ New_ k xa cs
woven_zip Own New Own_ New_ R f g k xa [] [] h z = same xa h
  where
    same : (xs : List _) → Woven Own New k xs [] → Woven Own_ New_ k xs []
    same [] h' = tt
    same (x ∷ xs) h' = h'
woven_zip Own New Own_ New_ R f g k xa [] (c ∷ cs) h z = absurd z
woven_zip Own New Own_ New_ R f g k xa (b ∷ bs) [] h z = absurd z
woven_zip Own New Own_ New_ R f g k [] (b ∷ bs) (c ∷ cs) h z = (g b c h.0 z.0, woven_zip Own New Own_ New_ R f g k [] bs cs h.1 z.1)
woven_zip Own New Own_ New_ R f g k (a ∷ xa) (b ∷ bs) (c ∷ cs) (inl h) z = inl (g b c h.0 z.0, woven_zip Own New Own_ New_ R f g k (a ∷ xa) bs cs h.1 z.1)
woven_zip Own New Own_ New_ R f g k (a ∷ xa) (b ∷ bs) (c ∷ cs) (inr h) z = inr (f k a b c h.0 z.0, woven_zip Own New Own_ New_ R f g (suc k) xa bs cs h.1 z.1)
