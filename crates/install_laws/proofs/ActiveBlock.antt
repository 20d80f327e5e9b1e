-- A block that is closed again changes nothing of what is active behind it; lists of statements have the nearest first.
use Rattle.std.proofs.Common.{◌≡◌, ◌<◌, ◌≤◌, ℕ, zero, suc, ◌+◌, ◌-◌, Bool, true, false, cond, ◌&&◌, List, [], ◌∷◌, ◌++◌, length, drop, map}
use Rattle.std.proofs.Common.{refl, sym, ap, ◌∙◌, codes, nat_eq, arith, inl, inr, subst, length-append}
use Rattle.std.specs.Prelude.{filter}
use Rattle.std.specs.Cmp.Lexicographic.{pointwise}
use Rattle.std.specs.List.{ends_with, AllByRecursion, drop-map}
use Rattle.std.proofs.lemmas.Bool.{cases_Bool}
use Rattle.std.proofs.lemmas.Bool.Decides.{nat_tests}
use Rattle.std.proofs.lemmas.List.{length-map}
use Rattle.mm_model.specs.Names.{Name}
use Rattle.mm_model.proofs.Scopes.{cond_else, ends_with-longer}
use Rattle.install_laws.proofs.ActiveNames.{has_kw, path_of, on_path, active_of}

-- neither `${` nor `$}`
abbrev pub IsNoBrace : List Name → Type 0
IsNoBrace s = (has_kw (codes "${") s ≡ false) × (has_kw (codes "$}") s ≡ false)

abbrev pub opened : List Name
opened = codes "${" ∷ []

abbrev pub closed : List Name
closed = codes "$}" ∷ []

-- ---- numbers that are all below, or all not below, a bound

abbrev pub AllBelow : ℕ → List ℕ → Type 0
AllBelow n p = AllByRecursion (λ k. k < n) p

abbrev pub AllFrom : ℕ → List ℕ → Type 0
AllFrom n p = AllByRecursion (λ k. n ≤ k) p

below_more : (n m : ℕ) (p : List ℕ) → n ≤ m → AllBelow n p → AllBelow m p
below_more n m [] h b = tt
below_more n m (k ∷ p) h b = let first : k < m = let l = b.0 in omega (arith, h, l) in (first, below_more n m p h b.1)

tail_below : (n : ℕ) (p : List ℕ) → AllBelow n p → AllBelow n (drop 1 p)
tail_below n [] b = tt
tail_below n (k ∷ p) b = b.1

path_below : (e : List (List Name)) → AllBelow (length e) (path_of e)
path_below [] = tt
path_below (s ∷ e) = by (has_kw (codes "${") s) (has_kw (codes "$}") s) (below_more (length e) (suc (length e)) (path_of e) (omega arith) (path_below e))
  where
    by : (a b : Bool) → AllBelow (suc (length e)) (path_of e) → AllBelow (suc (length e)) (cond a (length e ∷ path_of e) (cond b (drop 1 (path_of e)) (path_of e)))
    by true b h = let first : length e < suc (length e) = omega arith in (first, h)
    by false true h = tail_below (suc (length e)) (path_of e) h
    by false false h = h

drop_from : (n d : ℕ) (p : List ℕ) → AllFrom n p → AllFrom n (drop d p)
drop_from n zero p h = h
drop_from n (suc d) [] h = tt
drop_from n (suc d) (k ∷ p) h = drop_from n d p h.1

-- a path that is not empty is no end of one whose numbers are greater
no_end : (n : ℕ) (p : List ℕ) (k : ℕ) (q : List ℕ) → AllFrom n p → k < n → ends_with nat_eq p (k ∷ q) ≡ false
no_end n p k q h l = by (drop (length p - suc (length q)) p) (drop_from n (length p - suc (length q)) p h)
  where
    by : (r : List ℕ) → AllFrom n r → pointwise nat_eq (k ∷ q) r ≡ false
    by [] f = refl
    by (m ∷ r) f = let differ : nat_eq k m ≡ false = let g = f.0 in grind (arith, nat_tests, l, g) in rw differ refl

-- so there only what stands in no block is active
pub only_outside : (n : ℕ) (p : List ℕ) (e : List (List Name)) → AllFrom n p → length e ≤ n → on_path p e ≡ on_path [] e
only_outside n p [] h l = refl
only_outside n p (s ∷ e) h l =
    let shorter : length e ≤ n = omega (arith, l) in
    ap (λ b. cond b (s ∷ on_path p e) (on_path p e)) (same (path_of e) (path_below e))
    ∙ ap (λ ss. cond (ends_with nat_eq [] (path_of e)) (s ∷ ss) ss) (only_outside n p e h shorter)
  where
    whole : (q : List ℕ) → ends_with nat_eq q [] ≡ true
    whole q = all_end (drop (length q - 0) q) (ends_empty q)
      where
        ends_empty : (r : List ℕ) → drop (length r - 0) r ≡ []
        ends_empty r = let all : length r - 0 ≡ length r = omega arith in ap (λ d. drop d r) all ∙ drop_all r
          where
            drop_all : (t : List ℕ) → drop (length t) t ≡ []
            drop_all [] = refl
            drop_all (x ∷ t) = drop_all t

        all_end : (r : List ℕ) → r ≡ [] → pointwise nat_eq [] r ≡ true
        all_end r is = ap (pointwise nat_eq []) is

    same : (q : List ℕ) → AllBelow (length e) q → ends_with nat_eq p q ≡ ends_with nat_eq [] q
    same [] b = whole p ∙ sym (whole [])
    same (k ∷ q) b =
        let less : k < n = let f = b.0 in omega (arith, f, l) in
        let longer : 0 < suc (length q) = omega arith in
        no_end n p k q h less ∙ sym (ends_with-longer [] (k ∷ q) longer)

-- ---- a block

module _ (inner before : List (List Name)) (plain : AllByRecursion IsNoBrace inner) (outside : path_of before ≡ []) where
  abbrev pub block : List (List Name)
  block = closed ∷ inner ++ opened ∷ []

  abbrev n : ℕ
  n = length before

  abbrev m : ℕ
  m = length block

  -- within the block its own number is the path
  pub within : (i : List (List Name)) → AllByRecursion IsNoBrace i → path_of ((i ++ opened ∷ []) ++ before) ≡ n ∷ []
  within [] h = ap (λ p. n ∷ p) outside
  within (s ∷ i) h =
      let rest = path_of ((i ++ opened ∷ []) ++ before) in
      cond_else (has_kw (codes "${") s) (length ((i ++ opened ∷ []) ++ before) ∷ rest) (cond (has_kw (codes "$}") s) (drop 1 rest) rest) h.0.0
      ∙ cond_else (has_kw (codes "$}") s) (drop 1 rest) rest h.0.1 ∙ within i h.1

  path_behind : path_of (block ++ before) ≡ []
  path_behind = ap (drop 1) (within inner plain)

  hidden : (s : List Name) (i : List (List Name)) → AllByRecursion IsNoBrace i → on_path [] (s ∷ ((i ++ opened ∷ []) ++ before)) ≡ on_path [] ((i ++ opened ∷ []) ++ before)
  hidden s i h =
      let longer : 0 < suc 0 = omega arith in
      let no : ends_with nat_eq [] (path_of ((i ++ opened ∷ []) ++ before)) ≡ false = ap (ends_with nat_eq []) (within i h) ∙ ends_with-longer [] (n ∷ []) longer in
      cond_else (ends_with nat_eq [] (path_of ((i ++ opened ∷ []) ++ before))) (s ∷ on_path [] ((i ++ opened ∷ []) ++ before)) (on_path [] ((i ++ opened ∷ []) ++ before)) no

  inner_hidden : (i : List (List Name)) → AllByRecursion IsNoBrace i → on_path [] ((i ++ opened ∷ []) ++ before) ≡ opened ∷ on_path [] before
  inner_hidden [] h = ap (λ p. cond (ends_with nat_eq [] p) (opened ∷ on_path [] before) (on_path [] before)) outside
  inner_hidden (s ∷ i) h = hidden s i h.1 ∙ inner_hidden i h.1

  block_hidden : on_path [] (block ++ before) ≡ opened ∷ on_path [] before
  block_hidden = hidden closed inner plain ∙ inner_hidden inner plain

  -- ---- behind it

  abbrev further : List ℕ → List ℕ
  further p = map (λ k. m + k) p

  longer_by : (y : List (List Name)) → length (y ++ (block ++ before)) ≡ m + length (y ++ before)
  longer_by y =
      let a = length-append y (block ++ before) in let b = length-append block before in let c = length-append y before in
      omega (arith, a, b, c)

  pub path_over : (y : List (List Name)) → path_of (y ++ (block ++ before)) ≡ further (path_of (y ++ before))
  path_over [] = path_behind ∙ sym (ap further outside)
  path_over (s ∷ y) =
      ap (λ k. cond (has_kw (codes "${") s) (k ∷ path_of (y ++ (block ++ before)))
      (cond (has_kw (codes "$}") s) (drop 1 (path_of (y ++ (block ++ before)))) (path_of (y ++ (block ++ before))))) (longer_by y)
      ∙ ap (λ p. cond (has_kw (codes "${") s) ((m + length (y ++ before)) ∷ p) (cond (has_kw (codes "$}") s) (drop 1 p) p)) (path_over y)
      ∙ ap
      (λ p. cond (has_kw (codes "${") s) ((m + length (y ++ before)) ∷ further (path_of (y ++ before)))
      (cond (has_kw (codes "$}") s) p (further (path_of (y ++ before)))))
      (drop-map (λ k. m + k) 1 (path_of (y ++ before)))
      ∙ by (has_kw (codes "${") s) (has_kw (codes "$}") s)
    where
      by : (a b : Bool)
          → cond a ((m + length (y ++ before)) ∷ further (path_of (y ++ before)))
          (cond b (further (drop 1 (path_of (y ++ before)))) (further (path_of (y ++ before))))
          ≡ further (cond a (length (y ++ before) ∷ path_of (y ++ before)) (cond b (drop 1 (path_of (y ++ before))) (path_of (y ++ before))))
      by true b = refl
      by false true = refl
      by false false = refl

  pointwise_further : (q r : List ℕ) → pointwise nat_eq (further q) (further r) ≡ pointwise nat_eq q r
  pointwise_further [] [] = refl
  pointwise_further [] (x ∷ r) = refl
  pointwise_further (k ∷ q) [] = refl
  pointwise_further (k ∷ q) (x ∷ r) = ap (λ b. b && pointwise nat_eq (further q) (further r)) same ∙ ap (λ b. nat_eq k x && b) (pointwise_further q r)
    where
      same : nat_eq (m + k) (m + x) ≡ nat_eq k x
      same = elim (cases_Bool (nat_eq k x)) [
        | inl e ↦ let yes : nat_eq (m + k) (m + x) ≡ true = grind (arith, nat_tests, e) in yes ∙ sym e
        | inr e ↦ let not_so : nat_eq (m + k) (m + x) ≡ false = grind (arith, nat_tests, e) in not_so ∙ sym e
      ]

  ends_further : (p q : List ℕ) → ends_with nat_eq (further p) (further q) ≡ ends_with nat_eq p q
  ends_further p q =
      ap (λ k. pointwise nat_eq (further q) (drop (k - length (further q)) (further p))) (length-map p (λ k. m + k))
      ∙ ap (λ k. pointwise nat_eq (further q) (drop (length p - k) (further p))) (length-map q (λ k. m + k))
      ∙ ap (pointwise nat_eq (further q)) (drop-map (λ k. m + k) (length p - length q) p)
      ∙ pointwise_further q (drop (length p - length q) p)

  further_from : (p : List ℕ) → AllFrom n p → AllFrom (length (block ++ before)) (further p)
  further_from [] h = tt
  further_from (k ∷ p) h =
      let first : length (block ++ before) ≤ m + k = let f = h.0 in let g = length-append block before in omega (arith, f, g) in
      (first, further_from p h.1)

  -- of each kind of statement but `${` the same are active
  module _ (kind : List Name → Bool) (no_brace : kind opened ≡ false) where
    kept_on : (y : List (List Name)) (p : List ℕ) → AllFrom n p → filter kind (on_path (further p) (y ++ (block ++ before))) ≡ filter kind (on_path p (y ++ before))
    kept_on [] p h =
        let all : length (block ++ before) ≤ length (block ++ before) = omega arith in
        let own : n ≤ n = omega arith in
        ap (filter kind) (only_outside (length (block ++ before)) (further p) (block ++ before) (further_from p h) all ∙ block_hidden)
        ∙ cond_else (kind opened) (opened ∷ filter kind (on_path [] before)) (filter kind (on_path [] before)) no_brace
        ∙ ap (filter kind) (sym (only_outside n p before h own))
    kept_on (s ∷ y) p h =
        ap (λ q. filter kind
        (cond (ends_with nat_eq (further p) q) (s ∷ on_path (further p) (y ++ (block ++ before)))
        (on_path (further p) (y ++ (block ++ before)))))
        (path_over y)
        ∙ ap (λ b. filter kind (cond b (s ∷ on_path (further p) (y ++ (block ++ before))) (on_path (further p) (y ++ (block ++ before))))) (ends_further p (path_of (y ++ before)))
        ∙ by (ends_with nat_eq p (path_of (y ++ before))) (kept_on y p h)
      where
        by : (b : Bool) → filter kind (on_path (further p) (y ++ (block ++ before))) ≡ filter kind (on_path p (y ++ before))
            → filter kind (cond b (s ∷ on_path (further p) (y ++ (block ++ before))) (on_path (further p) (y ++ (block ++ before))))
            ≡ filter kind (cond b (s ∷ on_path p (y ++ before)) (on_path p (y ++ before)))
        by true e = ap (λ xs. cond (kind s) (s ∷ xs) xs) e
        by false e = e

    path_from : (y : List (List Name)) → AllFrom n (path_of (y ++ before))
    path_from [] = subst (AllFrom n) (sym outside) tt
    path_from (s ∷ y) = by (has_kw (codes "${") s) (has_kw (codes "$}") s) (path_from y)
      where
        more : n ≤ length (y ++ before)
        more = let l = length-append y before in omega (arith, l)

        by : (a b : Bool) → AllFrom n (path_of (y ++ before))
            → AllFrom n
            (cond a (length (y ++ before) ∷ path_of (y ++ before)) (cond b (drop 1 (path_of (y ++ before))) (path_of (y ++ before))))
        by true b f = (more, f)
        by false true f = drop_from n 1 (path_of (y ++ before)) f
        by false false f = f

    pub kept_behind : (y : List (List Name)) → filter kind (active_of (y ++ (block ++ before))) ≡ filter kind (active_of (y ++ before))
    kept_behind y = ap (λ p. filter kind (on_path p (y ++ (block ++ before)))) (path_over y) ∙ kept_on y (path_of (y ++ before)) (path_from y)
