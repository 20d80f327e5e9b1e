-- The turn of the search at a constant.
use Rattle.std.specs.Prelude.{◌≡◌, ◌≤◌, ◌+◌, ℕ, Bool, false, IsTrue, List, [], ◌∷◌, length, Some, slice_get}
use Rattle.std.proofs.Common.{subst}
use Rattle.mm_base.specs.declared.symbols.Sym.{Sym}
use Rattle.mm_base.specs.declared.symbols.Typecode.{Typecode}
use Rattle.mm_base.specs.declared.tree.Tree.{Tree}
use Rattle.mm_model.specs.declared.rows.Item.{Item}
use Rattle.mm_model.specs.declared.rows.Item.TheVariants.{Const}
use Rattle.mm_model.specs.declared.rows.Leaf.{Leaf}
use Rattle.mm_model.specs.declared.rows.Leaf.TheVariants as leaf
use Rattle.mm_model.specs.declared.rows.Production.{Production}
use Rattle.formula_parse.specs.declared.found.Found.{Found}
use Rattle.formula_parse.specs.declared.found.Found.TheVariants.{Nothing}
use Rattle.formula_parse.specs.Finds.{Finds}
use Rattle.formula_parse.specs.Fits.{Fits}
use Rattle.formula_parse.specs.Charts.{span}
use Rattle.formula_parse.proofs.Searches.{finds_same}
use Rattle.formula_parse.proofs.Spans.{span_empty, span_front, span_first, span_rest, span_cons}

pub off : (b : Bool) → IsTrue b → b ≡ false → ⊥
off b h e = absurd (cc)

module _ (rows : List Production) (before : ℕ) (leaves : List Leaf) (slots : List Typecode) (b e : ℕ) (l : b ≤ e) (m : e ≤ length leaves) where
  -- the text goes on with the constant
  pub const_turn : (s : Sym) (rest : List Item) → b + 1 ≤ e → slice_get leaves b ≡ Some (leaf.Const s) → (f : Found (List Tree)) → Finds (Fits rows before slots rest (span leaves (b + 1) e)) f
      → Finds (Fits rows before slots (Const s ∷ rest) (span leaves b e)) f
  const_turn s rest i at f h = finds_same (Fits rows before slots rest (span leaves (b + 1) e)) (Fits rows before slots (Const s ∷ rest) (span leaves b e))
      (λ us x. (span leaves (b + 1) e, span_cons leaves b e (leaf.Const s) i at, x))
      (λ us x. subst (λ xs. Fits rows before slots rest xs us) (span_rest leaves b e (leaf.Const s) x.0 i x.1) x.2) f h

  -- it does not
  pub const_none : (s : Sym) (rest : List Item) → (b + 1 ≤ e → slice_get leaves b ≡ Some (leaf.Const s) → ⊥) → Finds (Fits rows before slots (Const s ∷ rest) (span leaves b e)) Nothing
  const_none s rest none us x = none (span_front leaves b e (leaf.Const s) x.0 l m x.1) (span_first leaves b e (leaf.Const s) x.0 x.1)

  -- no items are left, but text is
  pub end_none : (b ≡ e → ⊥) → Finds (Fits rows before slots [] (span leaves b e)) Nothing
  end_none none us x = none (span_empty leaves b e l m x.0)
