-- Names of new work variables: the steps derived for `qed::ax-mp |- ps` share one, `&W1`.
use Rattle.std.specs.Prelude.{◌≡◌, ◌==◌, ◌&&◌, ℕ, zero, suc, Bool, true, false, if◌then◌else◌, List, [], ◌∷◌, take, map, slice_get, Contains, Option, Some, None, codes, refl}
use Rattle.std.specs.Fmt.{digits}
use Rattle.std.proofs.Common.{sym, ap, subst, ◌∙◌, arith, cond}
use Rattle.std.proofs.lemmas.Bool.Decides.{nat_tests}
use Rattle.mm_base.specs.declared.symbols.Typecode.{Typecode}
use Rattle.mm_base.specs.declared.tree.Tree.{Tree}
use Rattle.mm_base.specs.declared.tree.Tree.TheVariants.{Work, Fresh}
use Rattle.mm_model.specs.Chains.{same_code}
use Rattle.mm_model.proofs.TextLaws.{texts}
use Rattle.solve_model.specs.declared.bound.Bound.{Bound}
use Rattle.solve_model.specs.Firsts.{IsLeast}
use Rattle.solve_model.specs.Trees.{fresh, Occurs}
use Rattle.solve_model.specs.BoundExamples.{hypothesis, step, bound}
use Rattle.solve_model.specs.Example.{P, Q, wff, ps, wi, cab}
use Rattle.solve_model.proofs.TreeLaws.{replaces, leaves}
use Rattle.written_model.specs.Named.{WorkVariable, work_variable, works_in, new_works, Naming, name_tree, IsWrittenLeaf, IsUnused, IsNaming}

-- ---- in the order of the text: in `{ x | ph }` the variable stands first, though ph is the first of the frame

pub in_text_order : works_in Q (cab (Work wff 2) (Work wff 1)) ≡ work_variable wff 1 ∷ work_variable wff 2 ∷ []
in_text_order = simp texts refl

-- those that the worksheet as it was read has are not new, and each new one stands once
pub new : new_works P (bound (hypothesis (codes "1") (codes "r.1") (Work wff 3) ∷ []))
    (wi (Work wff 3) (Work wff 2) ∷ wi (Work wff 1) (Work wff 2) ∷ [])
    ≡ work_variable wff 2 ∷ work_variable wff 1 ∷ []
new = simp texts refl

-- ---- one fresh leaf in two trees

abbrev sheet : Bound
sheet = bound (step (codes "qed") [] (Some (codes "ax-mp")) (Some ps) ∷ [])

abbrev free : Tree
free = Fresh wff 5

abbrev trees : List Tree
trees = free ∷ wi free ps ∷ ps ∷ []

abbrev is_free : Typecode → ℕ → Bool
is_free c n = same_code c wff && n == 5

abbrev pub names : Naming
names c n = if is_free c n then Some 1 else None

pub record IsFree (c : Typecode) (n : ℕ) : Type 0 where
  pub code : c ≡ wff
  pub number : n ≡ 5

same_number : (n m : ℕ) → (n == m) ≡ true → n ≡ m
same_number n m e = grind (arith, nat_tests)

code_with : ℕ → Typecode
code_with n = record { 0 = record { 0 = n } }

codes_same : (c : Typecode) → same_code c wff ≡ true → c ≡ wff
unfolding code_with
codes_same c e = ap code_with (same_number c.0.0 4 e)

both : (a b : Bool) → (a && b) ≡ true → (a ≡ true) × (b ≡ true)
both true true e = (refl, refl)
both true false e = absurd (cc)
both false b e = absurd (cc)

is_free_by : (c : Typecode) (n : ℕ) → is_free c n ≡ true → IsFree c n
is_free_by c n e = let h = both (same_code c wff) (n == 5) e in record { code = codes_same c h.0; number = same_number n 5 h.1 }

free_if : (c : Typecode) (n k : ℕ) (b : Bool) → is_free c n ≡ b → cond b (Some 1) None ≡ Some k → IsFree c n
free_if c n k true e h = is_free_by c n e
free_if c n k false e h = absurd (cc)

none_if : (c : Typecode) (n : ℕ) (b : Bool) → is_free c n ≡ b → (IsFree c n → ⊥) → cond {A = Option ℕ} b (Some 1) None ≡ None
none_if c n true e h = absurd (h (is_free_by c n e))
none_if c n false e h = refl

-- ---- the fresh leaf is the only one

leaf_is : (c : Typecode) (n : ℕ) → Contains (fresh wff 5 ∷ []) (fresh c n) → IsFree c n
leaf_is c n (zero, l, e) = record { code = cc; number = cc }
leaf_is c n (suc k, l, e) = absurd (omega (arith, l))

leaf_of : (c : Typecode) (n : ℕ) (t : Tree) → Contains trees t → Occurs (fresh c n) t → IsFree c n
leaf_of c n t (zero, l, e) o = leaf_is c n (simp leaves at (subst (Occurs (fresh c n)) (sym e) o))
leaf_of c n t (suc zero, l, e) o = leaf_is c n (simp leaves at (subst (Occurs (fresh c n)) (sym e) o))
leaf_of c n t (suc (suc zero), l, e) o = let none : Contains [] (fresh c n) = simp leaves at (subst (Occurs (fresh c n)) (sym e) o) in absurd (omega (arith, none.1))
leaf_of c n t (suc (suc (suc k)), l, e) o = absurd (omega (arith, l))

free_occurs : Occurs (fresh wff 5) free
free_occurs = simp leaves (0, omega arith, refl)

written : (c : Typecode) (n : ℕ) → IsFree c n → IsWrittenLeaf trees c n
written c n h = (free, (0, omega arith, refl), subst (λ k. Occurs (fresh c k) free) (sym h.number) (subst (λ d. Occurs (fresh d 5) free) (sym h.code) free_occurs))

named_free : (c : Typecode) (n : ℕ) → IsFree c n → names c n ≡ Some 1
named_free c n h = let one = h.code in let other = h.number in cc

-- ---- its name

new_works_are : new_works P sheet (map (name_tree names) trees) ≡ work_variable wff 1 ∷ []
new_works_are = simp (replaces, texts) refl

pub naming : IsNaming P sheet trees names
unfolding digits
naming = record {
  named = λ c n h. let is = leaf_of c n h.0 h.1 h.2 in (1, named_free c n is, simp texts refl);
  others = λ c n h. none_if c n (is_free c n) refl (λ is. h (written c n is));
  once = λ c n m k e f. (free_if c n k (is_free c n) refl e).number ∙ sym (free_if c m k (is_free c m) refl f).number;
  least = rw new_works_are first_least;
}
  where
    first_least : (k : ℕ) (w : WorkVariable) → slice_get (work_variable wff 1 ∷ []) k ≡ Some w
        → IsLeast (λ n. IsUnused P sheet (take k (work_variable wff 1 ∷ [])) (work_variable w.code n)) w.number
    first_least zero w e = let same : work_variable wff 1 ≡ w = cc in
        subst (λ (v : WorkVariable). IsLeast (λ n. IsUnused P sheet [] (work_variable v.code n)) v.number) same
        (record { from_one = omega arith; holds = record { not_read = simp texts refl; not_declared = refl; not_taken = refl }; least = λ m low h. low })
    first_least (suc k) w e = absurd (cc)
