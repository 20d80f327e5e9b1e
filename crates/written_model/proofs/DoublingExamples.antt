-- Formulas that double: from `h1::dbl.1 |- ph`, each step `k:j:pair` is an implication from the step before it to itself.
use Rattle.std.specs.Prelude.{◌≡◌, ◌+◌, ◌*◌, ◌^◌, ◌<◌, ◌≤◌, ℕ, zero, suc, List, [], ◌∷◌, ◌++◌, length, refl}
use Rattle.std.proofs.Common.{ap, arith, ◌∙◌}
use Rattle.std.proofs.lemmas.List.{length-append, length-map}
use Rattle.std.proofs.Math.Nat.{pow-succ'}
use Rattle.mm_base.specs.declared.tree.Tree.{Tree}
use Rattle.mm_model.specs.declared.rows.Leaf.{Leaf}
use Rattle.mm_model.specs.declared.rows.Leaf.TheVariants as leaf
use Rattle.mm_model.specs.Names.{label, sym as symbol}
use Rattle.mm_model.specs.Texts.{text, row_text, row_of}
use Rattle.mm_model.proofs.TextLaws.{texts, text-Node}
use Rattle.solve_model.specs.Example.{Q, wff, ph, wi, rows}
use Rattle.written_model.specs.Written.{formula_tokens, leaf_name}

abbrev doubled : ℕ → Tree
doubled zero = ph
doubled (suc k) = wi (doubled k) (doubled k)

abbrev around : List Leaf → List Leaf → List Leaf
around xs ys = leaf.Const (symbol 0) ∷ (xs ++ (leaf.Const (symbol 2) ∷ (ys ++ (leaf.Const (symbol 1) ∷ []))))

of_row : (xs ys : List Leaf) → row_text (xs ∷ ys ∷ []) (row_of rows (label 4)) ≡ around xs ys
of_row xs ys = refl

of_implication : (a b : Tree) → text rows (wi a b) ≡ around (text rows a) (text rows b)
of_implication a b = text-Node rows (label 4) wff (a ∷ b ∷ []) ∙ of_row (text rows a) (text rows b)

around_length : (xs ys : List Leaf) → length (around xs ys) ≡ length xs + length ys + 3
around_length xs ys =
    let inner = length-append ys (leaf.Const (symbol 1) ∷ []) in
    let outer = length-append xs (leaf.Const (symbol 2) ∷ (ys ++ (leaf.Const (symbol 1) ∷ []))) in
    omega (arith, inner, outer)

text_length : (k : ℕ) → length (text rows (doubled k)) + 3 ≡ 4 * 2 ^ k
text_length zero = simp texts refl
text_length (suc k) =
    let before = text_length k in
    let one = ap length (of_implication (doubled k) (doubled k)) ∙ around_length (text rows (doubled k)) (text rows (doubled k)) in
    let power : 2 ^ suc k ≡ 2 * 2 ^ k = pow-succ' 2 k in
    omega (arith, before, one, power)

-- after k steps the formula has 4 * 2^k - 2 tokens
pub counts : (k : ℕ) → length (formula_tokens Q (doubled k)) + 2 ≡ 4 * 2 ^ k
counts k =
    let all = length-map (text rows (doubled k)) (leaf_name Q) in
    let is = text_length k in
    omega (arith, all, is)

-- so ten are allowed, and eleven are too long
pub ten : length (formula_tokens Q (doubled 10)) ≤ 4096
ten = let is = counts 10 in omega (arith, is)

pub eleven : 4096 < length (formula_tokens Q (doubled 11))
eleven = let is = counts 11 in omega (arith, is)
