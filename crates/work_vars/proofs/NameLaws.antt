-- Names of work variables: a token has one reading as the part before the number and the number.
use Rattle.std.proofs.Common.{◌≡◌, ℕ, zero, suc, ◌-◌, ◌<◌, ◌≤◌, ◌^◌, ◌⊎◌, Bool, true, false, ◌&&◌, ◌==◌, if◌then◌else◌, Some, None, lit<, List, []}
use Rattle.std.proofs.Common.{◌∷◌, ◌++◌, length, take, drop, get_or, codes, decimal, append_assoc, refl, sym, ap, subst, ◌∙◌, inl, inr, arith}
use Rattle.std.specs.Char.{is_ascii_digit}
use Rattle.std.specs.Str.{bytes_eq, all_ascii_digits}
use Rattle.std.proofs.lemmas.Bool.{cases_Bool}
use Rattle.std.proofs.lemmas.Fmt.{digits_decimal, decimal_injective}
use Rattle.std.proofs.lemmas.List.{append_cancel_left, append_cancel_right, length-drop, take-append-drop, take_all}
use Rattle.std.proofs.lemmas.Slice.Eq.{bytes_eq-Decides}
use Rattle.std.proofs.lemmas.Str.Parse.{IsNumeralModel, numerals_by_value, tells_all_ascii_digits}
use Rattle.std.specs.Str.Parse.{digits_value}
use Rattle.mm_model.specs.Names.{Name}
use Rattle.solve_model.specs.Formulas.{prefix_of, spelling}
use Rattle.work_vars.specs.Spelled.{has_letter, IsNameOf, IsNamedBy}

-- ---- what stands before the number

-- the names of a typecode's work variables begin with a letter's prefix, or with the typecode between `&` and `.`
abbrev Prefixed : Name → Type 0
Prefixed c = ((c ≡ codes "wff") × (prefix_of c ≡ codes "&W")) ⊎ (((c ≡ codes "setvar") × (prefix_of c ≡ codes "&S"))
    ⊎ (((c ≡ codes "class") × (prefix_of c ≡ codes "&C")) ⊎ ((has_letter c ≡ false) × (prefix_of c ≡ codes "&" ++ (c ++ codes ".")))))

is_same : (xs ys : List ℕ) → bytes_eq xs ys ≡ true → xs ≡ ys
is_same xs ys e = (bytes_eq-Decides xs ys).0 e

prefixed : (c : Name) → Prefixed c
prefixed c = elim (cases_Bool (bytes_eq c (codes "wff"))) [
  | inl h ↦ inl (is_same c (codes "wff") h, rw h refl)
  | inr h ↦ elim (cases_Bool (bytes_eq c (codes "setvar"))) [
    | inl k ↦ inr (inl (is_same c (codes "setvar") k, rw (h, k) refl))
    | inr k ↦ elim (cases_Bool (bytes_eq c (codes "class"))) [
      | inl l ↦ inr (inr (inl (is_same c (codes "class") l, rw (h, k, l) refl)))
      | inr l ↦ inr (inr (inr (rw (h, k, l) refl, rw (h, k, l) (append_assoc (codes "&") c (codes ".")))))
    ]
  ]
]

-- a prefix that is none of the three letters' is that of a typecode without a letter
pub no_code : (p : List ℕ) → (p ≡ codes "&W" → ⊥) → (p ≡ codes "&S" → ⊥) → (p ≡ codes "&C" → ⊥) → ((c : Name) → has_letter c ≡ false → p ≡ codes "&" ++ (c ++ codes ".") → ⊥)
    → (c : Name) → prefix_of c ≡ p → ⊥
no_code p w s k other c e = elim (prefixed c) [
  | inl h ↦ w (sym e ∙ h.1)
  | inr h ↦ elim h [ inl g ↦ s (sym e ∙ g.1) | inr g ↦ elim g [ inl f ↦ k (sym e ∙ f.1) | inr f ↦ other c f.0 (sym e ∙ f.1) ] ]
]

pub is_code : (p c : Name) → has_letter c ≡ false → p ≡ codes "&" ++ (c ++ codes ".") → prefix_of c ≡ p
is_code p c none e = elim (prefixed c) [
  | inl h ↦ let has : has_letter c ≡ true = rw h.0 refl in absurd (cc)
  | inr h ↦ elim h [
    | inl g ↦ let has : has_letter c ≡ true = rw g.0 refl in absurd (cc)
    | inr g ↦ elim g [ inl f ↦ let has : has_letter c ≡ true = rw f.0 refl in absurd (cc) | inr f ↦ f.1 ∙ sym e ]
  ]
]

pub other_code : (c d : Name) → has_letter d ≡ true → has_letter c ≡ false → codes "&" ++ (d ++ codes ".") ≡ codes "&" ++ (c ++ codes ".") → ⊥
other_code c d has none e = let same : d ≡ c = append_cancel_right d c (codes ".") (append_cancel_left (codes "&") (d ++ codes ".") (c ++ codes ".") e) in cc

-- a text parted from what it begins and ends with
pub first_parted : (p f x : List ℕ) → bytes_eq (take (length f) p) f ≡ true → x ≡ drop (length f) p → p ≡ f ++ x
first_parted p f x e is = sym (take-append-drop (length f) p) ∙ ap (λ l. l ++ drop (length f) p) (is_same (take (length f) p) f e) ∙ ap (λ l. f ++ l) (sym is)

pub last_parted : (x f y : List ℕ) → bytes_eq (drop (length x - length f) x) f ≡ true → y ≡ take (length x - length f) x → x ≡ y ++ f
last_parted x f y e is =
    sym (take-append-drop (length x - length f) x) ∙ ap (λ l. l ++ drop (length x - length f) x) (sym is) ∙ ap (λ l. y ++ l) (is_same (drop (length x - length f) x) f e)

pub code_parted : (p x c f g : List ℕ) → f ≡ 38 ∷ [] → g ≡ 46 ∷ [] → has_letter c ≡ false → bytes_eq (take (length f) p) f ≡ true → x ≡ drop (length f) p
    → bytes_eq (drop (length x - length g) x) g ≡ true → c ≡ take (length x - length g) x → prefix_of c ≡ p
code_parted p x c f g ef eg none a b d e =
    is_code p c none (first_parted p f x a b ∙ ap (λ l. l ++ x) ef ∙ ap (λ l. (38 ∷ []) ++ l) (last_parted x g c d e ∙ ap (λ l. c ++ l) eg))

-- ---- the place where the number begins

-- no bytes, or the last one is no digit
abbrev EndsPlain : List ℕ → Type 0
EndsPlain [] = Unit {0}
EndsPlain (x ∷ []) = is_ascii_digit x ≡ false
EndsPlain (x ∷ y ∷ ys) = EndsPlain (y ∷ ys)

digits_parts : (x : ℕ) (xs : List ℕ) → all_ascii_digits (x ∷ xs) ≡ true → (is_ascii_digit x ≡ true) × (all_ascii_digits xs ≡ true)
digits_parts x xs e = (and_left (is_ascii_digit x) (all_ascii_digits xs) e, and_right (is_ascii_digit x) (all_ascii_digits xs) e)
  where
    and_left : (a b : Bool) → (a && b) ≡ true → a ≡ true
    and_left true b h = refl
    and_left false b h = h

    and_right : (a b : Bool) → (a && b) ≡ true → b ≡ true
    and_right true b h = h
    and_right false b h = absurd (cc)

-- digits do not begin with a part that ends in another byte
not_digits : (y : ℕ) (ys es : List ℕ) → EndsPlain (y ∷ ys) → all_ascii_digits (y ∷ (ys ++ es)) ≡ true → ⊥
not_digits y [] es h d = let is = (digits_parts y es d).0 in cc
not_digits y (z ∷ zs) es h d = not_digits z zs es h (digits_parts y ((z ∷ zs) ++ es) d).1

abbrev Parted : List ℕ → List ℕ → List ℕ → List ℕ → Type 0
Parted xs ys ds es = (xs ≡ ys) × (ds ≡ es)

parted_once : (xs ys ds es : List ℕ) → EndsPlain xs → EndsPlain ys → all_ascii_digits ds ≡ true → all_ascii_digits es ≡ true → xs ++ ds ≡ ys ++ es → Parted xs ys ds es
parted_once [] [] ds es h k d f e = (refl, e)
parted_once [] (y ∷ ys) ds es h k d f e = absurd (not_digits y ys es k (subst (λ l. all_ascii_digits l ≡ true) e d))
parted_once (x ∷ xs) [] ds es h k d f e = absurd (not_digits x xs ds h (subst (λ l. all_ascii_digits l ≡ true) (sym e) f))
parted_once (x ∷ xs) (y ∷ ys) ds es h k d f e =
    let same : x ≡ y = cc in
    let rest : xs ++ ds ≡ ys ++ es = cc in
    let p = parted_once xs ys ds es (tail_plain x xs h) (tail_plain y ys k) d f rest in
    (heads x y xs ys same p.0, p.1)
  where
    tail_plain : (x : ℕ) (xs : List ℕ) → EndsPlain (x ∷ xs) → EndsPlain xs
    tail_plain x [] h = tt
    tail_plain x (z ∷ zs) h = h

    heads : (x y : ℕ) (xs ys : List ℕ) → x ≡ y → xs ≡ ys → x ∷ xs ≡ y ∷ ys
    heads x y xs ys e f = cc

-- what stands before a place ends in the byte before it
plain_before : (xs : List ℕ) (k : ℕ) → k ≤ length xs → ((j : ℕ) → k ≡ suc j → is_ascii_digit (get_or xs j 0) ≡ false) → EndsPlain (take k xs)
plain_before xs zero h b = tt
plain_before [] (suc k) h b = tt
plain_before (x ∷ xs) (suc zero) h b = b 0 refl
plain_before (x ∷ []) (suc (suc k)) h b = absurd (omega arith)
plain_before (x ∷ y ∷ ys) (suc (suc k)) h b = plain_before (y ∷ ys) (suc k) (omega arith) (λ j e. b (suc j) (ap (λ n. suc n) e))

by_place : (xs : List ℕ) (k : ℕ) → (0 < k → is_ascii_digit (get_or xs (k - 1) 0) ≡ false) → (j : ℕ) → k ≡ suc j → is_ascii_digit (get_or xs j 0) ≡ false
by_place xs k b j e = let at : k - 1 ≡ j = omega arith in subst (λ i. is_ascii_digit (get_or xs i 0) ≡ false) at (b (omega arith))

plain_end : (xs : List ℕ) (x : ℕ) → is_ascii_digit x ≡ false → EndsPlain (xs ++ x ∷ [])
plain_end [] x h = h
plain_end (y ∷ []) x h = h
plain_end (y ∷ z ∷ zs) x h = plain_end (z ∷ zs) x h

prefix_plain : (c : Name) → EndsPlain (prefix_of c)
prefix_plain c = elim (prefixed c) [
  | inl h ↦ subst EndsPlain (sym h.1) refl
  | inr h ↦ elim h [
    | inl g ↦ subst EndsPlain (sym g.1) refl
    | inr g ↦ elim g [ inl f ↦ subst EndsPlain (sym f.1) refl | inr f ↦ subst EndsPlain (sym f.1) (plain_end (codes "&" ++ c) 46 refl) ]
  ]
]

own : IsNumeralModel (λ ds. all_ascii_digits ds ≡ true) (digits_value 10)
own = numerals_by_value _ tells_all_ascii_digits

pub decimal_digits : (n : ℕ) → n < 2 ^ 64 → all_ascii_digits (decimal n) ≡ true
decimal_digits n h = digits_decimal own n h

-- a name of a work variable is parted there into what stands before its number, and the number
pub name_parted : (token : List ℕ) (k : ℕ) → k ≤ length token → all_ascii_digits (drop k token) ≡ true → (0 < k → is_ascii_digit (get_or token (k - 1) 0) ≡ false)
    → (c : Name) (n : ℕ) → n < 2 ^ 32 → token ≡ spelling c n → Parted (take k token) (prefix_of c) (drop k token) (decimal n)
name_parted token k h d b c n small e =
    parted_once (take k token) (prefix_of c) (drop k token) (decimal n) (plain_before token k h (by_place token k b)) (prefix_plain c) d
    (decimal_digits n (omega arith)) (take-append-drop k token ∙ e)

-- ---- different typecodes have different prefixes

letter_code : ℕ → Name
letter_code b = if b == 87 then codes "wff" else (if b == 83 then codes "setvar" else codes "class")

abbrev Lettered : Name → Type 0
Lettered c = (b : ℕ) × (46 < b) × (c ≡ letter_code b) × (prefix_of c ≡ 38 ∷ b ∷ [])

lettered : (c : Name) → Lettered c ⊎ (prefix_of c ≡ 38 ∷ (c ++ 46 ∷ []))
unfolding letter_code
lettered c = elim (prefixed c) [
  | inl h ↦ inl (87, lit< tt, h.0, h.1)
  | inr h ↦ elim h [ inl g ↦ inl (83, lit< tt, g.0, g.1) | inr g ↦ elim g [ inl f ↦ inl (67, lit< tt, f.0, f.1) | inr f ↦ inr f.1 ] ]
]

letter_or_dot : (c : Name) (b : ℕ) → 46 < b → 38 ∷ b ∷ [] ≡ 38 ∷ (c ++ 46 ∷ []) → ⊥
letter_or_dot [] b h e = let same : b ≡ 46 = cc in omega arith
letter_or_dot (x ∷ []) b h e = cc
letter_or_dot (x ∷ y ∷ ys) b h e = cc

dotted_once : (c d : Name) → 38 ∷ (c ++ 46 ∷ []) ≡ 38 ∷ (d ++ 46 ∷ []) → c ≡ d
dotted_once c d e = append_cancel_right c d (46 ∷ []) (cc)

pub code_once : (c d : Name) → prefix_of c ≡ prefix_of d → c ≡ d
code_once c d e = elim (lettered c) [
  | inl h ↦ elim (lettered d) [
    | inl g ↦ let one : 38 ∷ h.0 ∷ [] ≡ 38 ∷ g.0 ∷ [] = sym h.3 ∙ e ∙ g.3 in let same : h.0 ≡ g.0 = cc in h.2 ∙ ap letter_code same ∙ sym g.2
    | inr g ↦ absurd (letter_or_dot d h.0 h.1 (sym h.3 ∙ e ∙ g))
  ]
  | inr h ↦ elim (lettered d) [
    | inl g ↦ absurd (letter_or_dot c g.0 g.1 (sym g.3 ∙ sym e ∙ h))
    | inr g ↦ dotted_once c d (sym h ∙ e ∙ g)
  ]
]

-- a name of a work variable is that of one alone
pub spelled_once : (c d : Name) (m n : ℕ) → m < 2 ^ 32 → n < 2 ^ 32 → spelling c m ≡ spelling d n → (c ≡ d) × (m ≡ n)
spelled_once c d m n low small e =
    let p = parted_once (prefix_of c) (prefix_of d) (decimal m) (decimal n) (prefix_plain c) (prefix_plain d) (decimal_digits m (omega (arith, low))) (decimal_digits n (omega (arith, small))) e in
    (code_once c d p.0, decimal_injective m n (omega (arith, low)) (omega (arith, small)) p.1)

-- ---- the whole name

module _ (token : List ℕ) (k : ℕ) (h : k ≤ length token) (d : all_ascii_digits (drop k token) ≡ true) (b : 0 < k → is_ascii_digit (get_or token (k - 1) 0) ≡ false) where
  pub no_name : ((c : Name) → prefix_of c ≡ take k token → ⊥) → IsNamedBy token None
  no_name none c n is = none c (sym (name_parted token k h d b c n is.in_range is.spelled).0)

  pub no_number : ((n : ℕ) → 1 ≤ n → n < 2 ^ 32 → drop k token ≡ decimal n → ⊥) → IsNamedBy token None
  no_number none c n is = none n is.from_one is.in_range (name_parted token k h d b c n is.in_range is.spelled).1

  pub the_name : (c : Name) (n : ℕ) → prefix_of c ≡ take k token → 1 ≤ n → n < 2 ^ 32 → drop k token ≡ decimal n → IsNamedBy token (Some (c, n))
  the_name c n e one small f =
      let is : token ≡ spelling c n = sym (take-append-drop k token) ∙ ap (λ l. l ++ drop k token) (sym e) ∙ ap (λ l. prefix_of c ++ l) f in
      (record { from_one = one; in_range = small; spelled = is }, only)
    where
      only : (c' : Name) (n' : ℕ) → IsNameOf token c' n' → (c' ≡ c) × (n' ≡ n)
      only c' n' o =
          let p = name_parted token k h d b c' n' o.in_range o.spelled in
          (code_once c' c (sym p.0 ∙ sym e), decimal_injective n' n (omega (arith, o.in_range)) (omega (arith, small)) (sym p.1 ∙ f))

-- the bytes from a place on
pub rest_is : (token : List ℕ) (k : ℕ) → take (length token - k) (drop k token) ≡ drop k token
rest_is token k = take_all (length token - k) (drop k token) (omega (arith, length-drop k token))
