-- What is noted of lists that grow.
use Rattle.std.specs.Prelude.{◌≡◌, ◌≤◌, ◌++◌, ◌==◌, ℕ, Bool, true, false, List, [], ◌∷◌, length, Some}
use Rattle.std.proofs.Common.{arith, ap, sym, ◌∙◌, subst, cond, inl, inr}
use Rattle.std.proofs.lemmas.Bool.Decides.{nat_tests}
use Rattle.mm_base.specs.Rows.{row_at}
use Rattle.mm_base.specs.declared.rows.Rows.{Rows}
use Rattle.formula_parse.specs.declared.reach.Entry.{Entry}
use Rattle.formula_parse.specs.Charts.{IsIn, IsOnce}
use Rattle.formula_parse.specs.Noted.{AreNoted}
use Rattle.formula_parse.proofs.Lists.{last_or, stays_pushed, stays_in, last_pushed}

-- one more place at an end
added_kept : (xs zs : List ℕ) (b : Bool) (p : ℕ) → zs ≡ cond b (xs ++ p ∷ []) xs → (i : ℕ) → IsIn xs i → IsIn zs i
added_kept xs zs true p is i h = subst (λ ws. IsIn ws i) (sym is) (stays_in xs (xs ++ p ∷ []) (stays_pushed xs p) i h)
added_kept xs zs false p is i h = subst (λ ws. IsIn ws i) (sym is) h

pub added_stay : (old new : Rows ℕ) (e p : ℕ) → ((q : ℕ) → row_at new q ≡ cond (e == q) (row_at old q ++ p ∷ []) (row_at old q))
    → (q i : ℕ) → IsIn (row_at old q) i → IsIn (row_at new q) i
added_stay old new e p added q i h = added_kept (row_at old q) (row_at new q) (e == q) p (added q) i h

pub added_there : (old new : Rows ℕ) (e p : ℕ) → ((q : ℕ) → row_at new q ≡ cond (e == q) (row_at old q ++ p ∷ []) (row_at old q)) → IsIn (row_at new e) p
added_there old new e p added =
    let xs = row_at old e in
    let t : (e == e) ≡ true = grind (arith, nat_tests) in
    subst (λ ws. IsIn ws p) (sym (added e ∙ ap (λ b. cond b (xs ++ p ∷ []) xs) t)) (length xs, last_pushed xs p)

pub noted_kept : (items : List Entry) (old new : Rows ℕ) → ((q i : ℕ) → IsIn (row_at old q) i → IsIn (row_at new q) i) → AreNoted items old → AreNoted items new
noted_kept items old new kept h i x l at = kept x.end i (h i x l at)

-- one more entry, whose place is noted where it is not among the first few
pub noted_more : (items : List Entry) (x : Entry) (later : Rows ℕ) → (16 ≤ length items → IsIn (row_at later x.end) (length items))
    → AreNoted items later → AreNoted (items ++ x ∷ []) later
noted_more items x later noted h i y l at = elim (last_or items x i y at) [
  | inl old ↦ h i y l old
  | inr new ↦
      let there = noted (omega (arith, new.0)) in
      subst (λ j. IsIn (row_at later y.end) j) (sym new.0) (subst (λ (z : Entry). IsIn (row_at later z.end) (length items)) (sym new.1) there)
]

-- an entry that is not in the list comes behind it
pub once_more : (items : List Entry) (x : Entry) → (IsIn items x → ⊥) → IsOnce items → IsOnce (items ++ x ∷ [])
once_more items x none once i j y e f = elim (last_or items x i y e) [
  | inl a ↦ elim (last_or items x j y f) [
    | inl b ↦ once i j y a b
    | inr b ↦ absurd (none (i, a ∙ ap (λ z. Some z) b.1))
  ]
  | inr a ↦ elim (last_or items x j y f) [
    | inl b ↦ absurd (none (j, b ∙ ap (λ z. Some z) a.1))
    | inr b ↦ a.0 ∙ sym b.0
  ]
]
