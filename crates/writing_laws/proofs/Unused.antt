-- The least unused number of a work variable.
use Rattle.std.specs.Prelude.{◌≡◌, ◌+◌, ◌^◌, ◌<◌, ◌≤◌, ◌==◌, ◌⊎◌, ℕ, zero, suc, Bool, true, false, List, [], ◌∷◌, ◌++◌, length, drop, map, decimal}
use Rattle.std.specs.Prelude.{position, option_map, Option, Some, None, refl}
use Rattle.std.specs.List.{list_any, position_or_len}
use Rattle.std.specs.Str.{bytes_eq}
use Rattle.std.proofs.Common.{sym, ap, subst, ◌∙◌, nat_lt, arith, inl, inr, eqb-true, eq-eqb}
use Rattle.std.proofs.Math.Seq.{drop-append_seam}
use Rattle.std.proofs.lemmas.Bool.{cases_Bool, cases_lt, both_ways, or_cases, or_left, or_right, and_parts}
use Rattle.std.proofs.lemmas.Bool.Decides.{nat_tests}
use Rattle.std.proofs.lemmas.List.{length-map}
use Rattle.std.proofs.lemmas.Slice.Eq.{bytes_eq-Decides}
use Rattle.mm_base.specs.declared.symbols.Typecode.{Typecode}
use Rattle.mm_model.specs.Chains.{same_code}
use Rattle.mm_model.specs.Names.{Name, sym as symbol, contains}
use Rattle.mm_model.specs.Book.{Database, symbol_of, symbol_name}
use Rattle.solve_model.specs.declared.bound.Bound.{Bound}
use Rattle.solve_model.specs.Firsts.{IsLeast}
use Rattle.solve_model.specs.Formulas.{prefix_of, spelling}
use Rattle.written_model.specs.Named.{WorkVariable, work_variable, same_work, is_in, read_works, IsUnused}
use Rattle.writing_laws.specs.Decisions.{Decided}
use Rattle.writing_laws.proofs.Numbers.{stands_in, all_stand, searched_to, value_on, past}

-- ---- a number whose name is no symbol

not_there : (p : Name → Bool) (names : List Name) → list_any p names ≡ false → position p names ≡ None
not_there p names e = rw (end p names e, same (length names)) refl
  where
    end : (p : Name → Bool) (names : List Name) → list_any p names ≡ false → position_or_len p names ≡ length names
    end p [] e = refl
    end p (n ∷ ns) e = elim (cases_Bool (p n)) [
      | inl h ↦ let bad : true ≡ false = rw h at e in absurd (cc)
      | inr h ↦ let rest = end p ns (rw h at e) in let more : 1 + position_or_len p ns ≡ suc (length ns) = omega (arith, rest) in rw h more
    ]

    same : (n : ℕ) → nat_lt n n ≡ false
    same n = grind (arith, nat_tests)

module _ (p : Name) where
  abbrev number_in : Name → ℕ
  number_in name = value_on 0 (drop (length p) name)

  read_back : (t : List ℕ) (names : List Name) → contains names (p ++ t) ≡ true → stands_in (map number_in names) (value_on 0 t) ≡ true
  read_back t [] e = absurd (cc)
  read_back t (n ∷ ns) e = elim (or_cases (bytes_eq (p ++ t) n) (contains ns (p ++ t)) e) [
    | inl h ↦
        let same : p ++ t ≡ n = (bytes_eq-Decides (p ++ t) n).0 h in
        let is : value_on 0 t ≡ number_in n = ap (value_on 0) (sym (drop-append_seam p t)) ∙ ap number_in same in
        or_left (value_on 0 t == number_in n) (stands_in (map number_in ns) (value_on 0 t)) (eq-eqb (value_on 0 t) (number_in n) is)
    | inr h ↦ or_right (value_on 0 t == number_in n) (stands_in (map number_in ns) (value_on 0 t)) (read_back t ns h)
  ]

  module _ (names : List Name) (few : length names < 2 ^ 64) (b : ℕ) where
    small : (r : ℕ) → r ≤ length names + 1 → r < 10 ^ 64
    small r l = omega (arith, l, few)

    -- a number past the bound, whose name is none of these
    pub record IsOther : Type 0 where
      pub number : ℕ
      pub above : b < number
      pub other : contains names (p ++ decimal number) ≡ false

    pub other_name : IsOther
    other_name = elim (searched_to (stands_in (map number_in names)) (length names + 1)) [
      | inl f ↦
          let n = past b f.0 (small f.0 f.2) in
          record {
            number = n.number;
            above = n.above;
            other = elim (cases_Bool (contains names (p ++ decimal n.number))) [
              | inl e ↦ absurd (both_ways (stands_in (map number_in names) f.0) f.3 (subst (λ r. stands_in (map number_in names) r ≡ true) n.read (read_back (decimal n.number) names e)))
              | inr e ↦ e
            ];
          }
      | inr all ↦
          let most = all_stand (length names + 1) (map number_in names) all in
          let long = length-map names number_in in
          absurd (omega (arith, most, long))
    ]

-- ---- the numbers of work variables

total : List WorkVariable → ℕ
total [] = 0
total (w ∷ ws) = w.number + total ws

within_total : (ws : List WorkVariable) (w : WorkVariable) → is_in ws w ≡ true → w.number ≤ total ws
unfolding total
within_total [] w e = absurd (cc)
within_total (v ∷ vs) w e = elim (or_cases (same_work w v) (is_in vs w) e) [
  | inl h ↦ let same = eqb-true w.number v.number (and_parts (same_code w.code v.code) (w.number == v.number) h).1 in omega (arith, same)
  | inr h ↦ let rest = within_total vs w h in omega (arith, rest)
]

past_total : (ws : List WorkVariable) (w : WorkVariable) → total ws < w.number → is_in ws w ≡ false
past_total ws w l = elim (cases_Bool (is_in ws w)) [
  | inl e ↦ let within = within_total ws w e in absurd (omega (arith, l, within))
  | inr e ↦ e
]

-- ---- the least number with a decided property

module _ (P : ℕ → Type 0) (decide : (n : ℕ) → Decided (P n)) where
  abbrev LeastTo : ℕ → Type 0
  LeastTo n = ((m : ℕ) × IsLeast P m) ⊎ ((m : ℕ) → 1 ≤ m → m ≤ n → P m → ⊥)

  least_to : (n : ℕ) → LeastTo n
  least_to zero = inr (λ m from to h. omega (arith, from, to))
  least_to (suc n) = elim (least_to n) [
    | inl l ↦ inl l
    | inr none ↦ elim (decide (suc n)) [
      | inl h ↦ inl (suc n, record { from_one = omega arith; holds = h; least = λ m from k. low n m from k none })
      | inr not ↦ inr (λ m from to k. high n m from to k none not)
    ]
  ]
    where
      low : (n m : ℕ) → 1 ≤ m → P m → ((m : ℕ) → 1 ≤ m → m ≤ n → P m → ⊥) → suc n ≤ m
      low n m from k none = elim (cases_lt n m) [ inl l ↦ omega (arith, l) | inr l ↦ absurd (none m from l k) ]

      high : (n m : ℕ) → 1 ≤ m → m ≤ suc n → P m → ((m : ℕ) → 1 ≤ m → m ≤ n → P m → ⊥) → (P (suc n) → ⊥) → ⊥
      high n m from to k none not = elim (cases_lt n m) [
        | inl l ↦ let last : m ≡ suc n = omega (arith, to, l) in not (subst P last k)
        | inr l ↦ none m from l k
      ]

  pub least_of : (n : ℕ) → 1 ≤ n → P n → (m : ℕ) × IsLeast P m
  least_of n from h = elim (least_to n) [ inl l ↦ l | inr none ↦ absurd (none n from (omega arith) h) ]

-- ---- the least unused number

module _ (db : Database) (few : length db.symbols < 2 ^ 64) (bound : Bound) (taken : List WorkVariable) where
  undeclared : (name : Name) → contains db.symbols name ≡ false → symbol_of db name ≡ None
  undeclared name e = ap (option_map symbol) (not_there (bytes_eq name) db.symbols e)

  is_none : {X : Type 0} (o : Option X) → Decided (o ≡ None)
  is_none None = inl refl
  is_none (Some x) = inr (λ e. cc)

  decide_unused : (w : WorkVariable) → Decided (IsUnused db bound taken w)
  decide_unused w = elim (cases_Bool (is_in (read_works db bound) w)) [
    | inl r ↦ inr (λ u. both_ways (is_in (read_works db bound) w) u.not_read r)
    | inr r ↦ elim (cases_Bool (is_in taken w)) [
      | inl t ↦ inr (λ u. both_ways (is_in taken w) u.not_taken t)
      | inr t ↦ elim (is_none (symbol_of db (spelling (symbol_name db w.code.0) w.number))) [
        | inl d ↦ inl (record { not_read = r; not_declared = d; not_taken = t })
        | inr d ↦ inr (λ u. d u.not_declared)
      ]
    ]
  ]

  some_unused : (c : Typecode) → (n : ℕ) × (1 ≤ n) × IsUnused db bound taken (work_variable c n)
  some_unused c =
      let n = other_name (prefix_of (symbol_name db c.0)) db.symbols few (total (read_works db bound) + total taken) in
      let above = n.above in (
        n.number,
        omega (arith, above),
        record {
          not_read = past_total (read_works db bound) (work_variable c n.number) (omega (arith, above));
          not_declared = undeclared (spelling (symbol_name db c.0) n.number) n.other;
          not_taken = past_total taken (work_variable c n.number) (omega (arith, above));
        },
      )

  pub least_unused : (c : Typecode) → (n : ℕ) × IsLeast (λ m. IsUnused db bound taken (work_variable c m)) n
  least_unused c =
      let some = some_unused c in
      least_of (λ m. IsUnused db bound taken (work_variable c m)) (λ m. decide_unused (work_variable c m)) some.0 some.1 some.2
