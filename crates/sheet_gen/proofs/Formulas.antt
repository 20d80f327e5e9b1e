-- The formula of a number by that of its half.
use Rattle.std.proofs.Common.{◌≡◌, ◌≢◌, ◌<◌, ◌≤◌, ℕ, zero, suc, ◌+◌, ◌-◌, ◌/◌, ◌%◌, ◌==◌, Bool, true, false, cond, List, [], ◌∷◌, ◌++◌, refl, sym}
use Rattle.std.proofs.Common.{◌∙◌, ap, arith, inl, inr, codes, append_assoc}
use Rattle.std.proofs.lemmas.Bool.{cases_Bool}
use Rattle.std.proofs.lemmas.Bool.Decides.{nat_tests}
use Rattle.std.specs.List.{flat_map}
use Rattle.mm_model.specs.Names.{Name}
use Rattle.sheet_gen.specs.Pieces.{behind}
use Rattle.trial_texts.specs.TrialTexts.{formula_within, trial_formula, implies, not_, ph}

-- a formula from the two that its halves may be
abbrev shape : ℕ → List Name → List Name → List Name
shape j x y = cond (j == 0) ph (cond (j == 1) (codes "ps" ∷ []) (cond (j == 2) (codes "ch" ∷ []) (cond (j % 2 == 1) (implies x ph) (not_ y))))

large : (j : ℕ) → (j == 0) ≡ false → (j == 1) ≡ false → (j == 2) ≡ false → 3 ≤ j
large j a b c = grind (arith, nat_tests)

-- enough halvings are enough
same : (a b j : ℕ) → j < a → j < b → formula_within a j ≡ formula_within b j
same zero b j ha hb = absurd (omega (arith, ha))
same (suc a) zero j ha hb = absurd (omega (arith, hb))
same (suc a) (suc b) j ha hb = elim (cases_Bool (j == 0)) [
  | inl e ↦ rw e refl
  | inr e ↦ elim (cases_Bool (j == 1)) [
    | inl f ↦ rw (e, f) refl
    | inr f ↦ elim (cases_Bool (j == 2)) [
      | inl g ↦ rw (e, f, g) refl
      | inr g ↦
          let three = large j e f g in
          ap (λ (x : List Name). shape j x (formula_within a (j / 2))) (same a b ((j - 1) / 2) (omega (arith, three, ha)) (omega (arith, three, hb)))
          ∙ ap (λ (y : List Name). shape j (formula_within b ((j - 1) / 2)) y) (same a b (j / 2) (omega (arith, three, ha)) (omega (arith, three, hb)))
    ]
  ]
]

unequal : (j n : ℕ) → j ≢ n → (j == n) ≡ false
unequal j n h = grind (arith, nat_tests)

shaped : (j : ℕ) → trial_formula j ≡ shape j (formula_within j ((j - 1) / 2)) (formula_within j (j / 2))
unfolding trial_formula
shaped j = refl

halved : (j h : ℕ) → h < j → formula_within j h ≡ trial_formula h
unfolding trial_formula
halved j h less = same j (suc h) h less (omega arith)

pub odd : (j : ℕ) → j ≢ 0 → j ≢ 1 → j ≢ 2 → j % 2 ≡ 1 → trial_formula j ≡ implies (trial_formula ((j - 1) / 2)) ph
odd j a b c is =
    let e = unequal j 0 a in
    let f = unequal j 1 b in
    let g = unequal j 2 c in
    let o : (j % 2 == 1) ≡ true = grind (arith, nat_tests) in
    let three = large j e f g in
    let there : shape j (formula_within j ((j - 1) / 2)) (formula_within j (j / 2)) ≡ implies (formula_within j ((j - 1) / 2)) ph = rw (e, f, g, o) refl in
    shaped j ∙ there ∙ ap (λ (x : List Name). implies x ph) (halved j ((j - 1) / 2) (omega (arith, three)))

pub even : (j : ℕ) → j ≢ 0 → j ≢ 1 → j ≢ 2 → j % 2 ≢ 1 → trial_formula j ≡ not_ (trial_formula (j / 2))
even j a b c is =
    let e = unequal j 0 a in
    let f = unequal j 1 b in
    let g = unequal j 2 c in
    let o = unequal (j % 2) 1 is in
    let three = large j e f g in
    let there : shape j (formula_within j ((j - 1) / 2)) (formula_within j (j / 2)) ≡ not_ (formula_within j (j / 2)) = rw (e, f, g, o) refl in
    shaped j ∙ there ∙ ap not_ (halved j (j / 2) (omega (arith, three)))

pub first_three : (trial_formula 0 ≡ ph) × (trial_formula 1 ≡ codes "ps" ∷ []) × (trial_formula 2 ≡ codes "ch" ∷ [])
unfolding trial_formula
first_three = (refl, refl, refl)

-- ---- the symbols of a formula, each behind a space

behind-append : (xs ys : List Name) → behind (xs ++ ys) ≡ behind xs ++ behind ys
behind-append [] ys = refl
behind-append (x ∷ xs) ys = ap (λ (bs : List ℕ). (32 ∷ x) ++ bs) (behind-append xs ys) ∙ sym (append_assoc (32 ∷ x) (behind xs) (behind ys))

pub behind-implies : (f g : List Name) → behind (implies f g) ≡ codes " (" ++ (behind f ++ (codes " ->" ++ (behind g ++ codes " )")))
behind-implies f g =
    behind-append ((codes "(" ∷ f) ++ (codes "->" ∷ g)) (codes ")" ∷ [])
    ∙ ap (λ (bs : List ℕ). bs ++ codes " )") (behind-append (codes "(" ∷ f) (codes "->" ∷ g))
    ∙ append_assoc (codes " (" ++ behind f) (codes " ->" ++ behind g) (codes " )")

pub odd_text : (j : ℕ) → j ≢ 0 → j ≢ 1 → j ≢ 2 → j % 2 ≡ 1 → codes " (" ++ (behind (trial_formula ((j - 1) / 2)) ++ codes " -> ph )") ≡ behind (trial_formula j)
odd_text j a b c is = sym (ap behind (odd j a b c is) ∙ behind-implies (trial_formula ((j - 1) / 2)) ph)

pub even_text : (j : ℕ) → j ≢ 0 → j ≢ 1 → j ≢ 2 → j % 2 ≢ 1 → codes " -." ++ behind (trial_formula (j / 2)) ≡ behind (trial_formula j)
even_text j a b c is = sym (ap behind (even j a b c is))

pub zero_text : (j : ℕ) → j ≡ 0 → codes " ph" ≡ behind (trial_formula j)
zero_text j e = sym (ap behind (ap trial_formula e ∙ first_three.0))

pub one_text : (j : ℕ) → j ≡ 1 → codes " ps" ≡ behind (trial_formula j)
one_text j e = sym (ap behind (ap trial_formula e ∙ first_three.1))

pub two_text : (j : ℕ) → j ≡ 2 → codes " ch" ≡ behind (trial_formula j)
two_text j e = sym (ap behind (ap trial_formula e ∙ first_three.2))
