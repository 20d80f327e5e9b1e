-- Where constants are declared, by the numbers of their `$c`.
use Rattle.std.specs.Prelude.{◌≡◌, ◌<◌, ◌≤◌, ◌^◌, ◌-◌, ◌++◌, ◌&&◌, ◌||◌, ℕ, zero, suc, Bool, true, false, List, [], ◌∷◌, length, take, filter}
use Rattle.std.specs.Prelude.{reverse, nat_lt, option_map, codes, refl}
use Rattle.std.specs.List.{list_any, flat_map}
use Rattle.std.specs.Option.{option_map_or}
use Rattle.std.specs.Str.{bytes_eq}
use Rattle.std.proofs.Common.{arith, sym, ap, ◌∙◌, cond, get_or, inl, inr, ◌⊎◌, ◌==◌}
use Rattle.std.proofs.lemmas.Bool.{cases_lt, eqb-true, eq-eqb}
use Rattle.std.proofs.lemmas.Bool.Decides.{nat_tests}
use Rattle.std.proofs.lemmas.Grind.{reverse_onto}
use Rattle.std.proofs.lemmas.List.Folds.{list_any-append}
use Rattle.std.proofs.lemmas.List.{take_all, take-append-le, reverse-reverse, length-reverse, length-append}
use Rattle.std.proofs.lemmas.Option.{slice_get-map, slice_get-get_or}
use Rattle.mm_base.specs.declared.symbols.Sym.{Sym}
use Rattle.mm_model.specs.Names.{Name, contains}
use Rattle.mm_model.specs.Statements.{Statement, has_keyword, symbols_in, constants}
use Rattle.mm_model.specs.Frames.{symbols, below, is_constant_at}
use Rattle.frame_lists.specs.Listings.{declared_by, constant_places}
use Rattle.mm_database.specs.Formulas.{is_constant}

-- the statement is a `$c` of the name
abbrev pub declares : Name → Statement → Bool
declares n s = has_keyword (codes "$c") s && contains (symbols_in s) n

or_turned : (a b : Bool) → (a || (b || false)) ≡ (b || a)
or_turned true true = refl
or_turned true false = refl
or_turned false true = refl
or_turned false false = refl

any_reversed : {X : Type 0} (q : X → Bool) (xs : List X) → list_any q (reverse xs) ≡ list_any q xs
any_reversed q [] = refl
any_reversed q (x ∷ xs) =
    ap (list_any q) (reverse_onto xs x []) ∙ list_any-append q (reverse xs) (x ∷ []) ∙ ap (λ b. b || (q x || false)) (any_reversed q xs) ∙ or_turned (list_any q xs) (q x)

one_statement : (b : Bool) (n : Name) (s : Statement) (rest : List Statement)
    → contains (flat_map symbols_in (cond b (s ∷ rest) rest)) n ≡ ((b && contains (symbols_in s) n) || contains (flat_map symbols_in rest) n)
one_statement true n s rest = list_any-append (bytes_eq n) (symbols_in s) (flat_map symbols_in rest)
one_statement false n s rest = refl

any_declares : (n : Name) (ss : List Statement) → contains (constants ss) n ≡ list_any (declares n) ss
any_declares n [] = refl
any_declares n (s ∷ ss) =
    one_statement (has_keyword (codes "$c") s) n s (filter (has_keyword (codes "$c")) ss) ∙ ap (λ b. declares n s || b) (any_declares n ss)

-- ---- the number of the `$c` of a name

not_less : (a b : ℕ) → b ≤ a → nat_lt a b ≡ false
not_less a b h = grind (arith, nat_tests)

is_less : (a b : ℕ) → a < b → nat_lt a b ≡ true
is_less a b h = grind (arith, nat_tests)

abbrev most : ℕ
most = 2 ^ 32 - 1

bound_by : (e t : Bool) (d len : ℕ) → (d ≡ most) ⊎ (d < len) → (cond (e && t) len d ≡ most) ⊎ (cond (e && t) len d < suc len)
bound_by true true d len h = inr (omega arith)
bound_by true false d len h = elim h [ inl a ↦ inl a | inr a ↦ inr (omega (arith, a)) ]
bound_by false t d len h = elim h [ inl a ↦ inl a | inr a ↦ inr (omega (arith, a)) ]

bound : (n : Name) (before : List Statement) → (declared_by before n ≡ most) ⊎ (declared_by before n < length before)
bound n [] = inl refl
bound n (s ∷ before) = bound_by (declared_by before n == most) (declares n s) (declared_by before n) (length before) (bound n before)

-- one more statement, at or past the place
past : (e t : Bool) (d len p : ℕ) → (e ≡ true → d ≡ most) → p ≤ most → p ≤ len → nat_lt (cond (e && t) len d) p ≡ nat_lt d p
past true true d len p h m l = let is = h refl in not_less len p l ∙ sym (not_less d p (omega (arith, is, m)))
past true false d len p h m l = refl
past false t d len p h m l = refl

-- one more statement, before the place
short_of : (e t : Bool) (d len p : ℕ) → (e ≡ true → d ≡ most) → (e ≡ false → d < len) → p ≤ most → len < p → nat_lt (cond (e && t) len d) p ≡ (nat_lt d p || (t || false))
short_of true true d len p h k m l = let is = h refl in is_less len p l ∙ ap (λ b. b || true) (sym (not_less d p (omega (arith, is, m))))
short_of true false d len p h k m l = let is = h refl in let none = not_less d p (omega (arith, is, m)) in none ∙ ap (λ b. b || false) (sym none)
short_of false t d len p h k m l = let lt = k refl in let some = is_less d p (omega (arith, lt, l)) in some ∙ ap (λ b. b || (t || false)) (sym some)

other_less : (d len : ℕ) → (d ≡ most) ⊎ (d < len) → (d == most) ≡ false → d < len
other_less d len (inl a) e = let same = eq-eqb d most a in absurd (cc)
other_less d len (inr a) e = a

-- it is below a place where one is declared before the place
pub declared_below : (n : Name) (before : List Statement) (p : ℕ) → p ≤ most → nat_lt (declared_by before n) p ≡ list_any (declares n) (take p (reverse before))
declared_below n [] zero m = refl
declared_below n [] (suc p) m = not_less most (suc p) m
declared_below n (s ∷ before) p m =
    let d = declared_by before n in
    let len = length before in
    let xs = reverse before in
    let long = length-reverse before in
    let same = declared_below n before p m in
    let whole = ap (λ ys. list_any (declares n) (take p ys)) (reverse_onto before s []) in
    elim (cases_lt len p) [
      | inl l ↦
          short_of (d == most) (declares n s) d len p (eqb-true d most) (other_less d len (bound n before)) m l
          ∙ ap (λ b. b || (declares n s || false)) (same ∙ ap (list_any (declares n)) (take_all p xs (omega (arith, long, l))))
          ∙ sym (list_any-append (declares n) xs (s ∷ []))
          ∙ ap (list_any (declares n)) (sym (take_all p (xs ++ s ∷ []) (let more = length-append xs (s ∷ []) in omega (arith, more, long, l)))) ∙ sym whole
      | inr l ↦
          past (d == most) (declares n s) d len p (eqb-true d most) m l ∙ same
          ∙ ap (list_any (declares n)) (sym (take-append-le p xs (s ∷ []) (omega (arith, long, l)))) ∙ sym whole
    ]

pub constants_same : (ss : List Statement) (s : Sym) (place : ℕ) → s.0 < length (symbols ss) → place ≤ 2 ^ 32 - 1 → is_constant (constant_places ss) place s ≡ is_constant_at ss s place
constants_same ss s place within small =
    let names = symbols ss in
    let n = get_or names s.0 [] in
    let at = slice_get-get_or names s.0 [] within in
    ap (λ o. option_map_or (λ declared. nat_lt declared place) o false) (slice_get-map (declared_by (reverse ss)) names s.0 ∙ ap (option_map (declared_by (reverse ss))) at)
    ∙ declared_below n (reverse ss) place small
    ∙ ap (λ xs. list_any (declares n) (take place xs)) (reverse-reverse ss)
    ∙ sym (any_reversed (declares n) (take place ss)) ∙ sym (any_declares n (below ss place))
