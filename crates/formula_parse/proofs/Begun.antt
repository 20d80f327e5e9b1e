-- What the leaf at a place begins.
use Rattle.std.specs.Prelude.{◌≡◌, ◌+◌, ℕ, zero, suc, List, [], ◌∷◌, None, Some, slice_get, refl}
use Rattle.std.proofs.Common.{sym, ap, ◌∙◌, subst}
use Rattle.mm_base.specs.declared.symbols.Sym.{Sym}
use Rattle.mm_base.specs.declared.symbols.Typecode.{Typecode}
use Rattle.mm_model.specs.declared.rows.Leaf.{Leaf}
use Rattle.mm_model.specs.declared.rows.Leaf.TheVariants as leaf
use Rattle.mm_model.specs.declared.rows.Production.{Production}
use Rattle.mm_model.specs.Substitution.{HasCode}
use Rattle.formula_parse.specs.declared.reach.Entry.{Entry}
use Rattle.syntax_grammar.specs.Selections.{first_sym, sym_or_code}
use Rattle.formula_parse.specs.Charts.{IsOnce, HasEntry, EntersFirst, Begins, Follows, IsBegun, entry_of}

pub once_none : IsOnce []
once_none i j x e f = absurd (cc)

once_one : (x : Entry) → IsOnce (x ∷ [])
once_one x zero zero y e f = refl
once_one x zero (suc j) y e f = absurd (cc)
once_one x (suc i) j y e f = absurd (cc)

one_entry : (b row : ℕ) (code want : Typecode) → want ≡ code → HasEntry (entry_of b code row ∷ []) b want
one_entry b row code want is = record { entry = entry_of b code row; is_in = (0, refl); ends = refl; has_code = sym is }

module _ (leaves : List Leaf) (chart : List (List Entry)) (rows : List Production) (before b : ℕ) where
  pub begun_var : (v : Sym) (c : Typecode) (row : ℕ) → slice_get leaves b ≡ Some (leaf.Var v c) → IsBegun leaves chart rows before b (entry_of (b + 1) c row ∷ [])
  begun_var v c row here = record {
    leaf_in = λ x code at h. (let same : x ≡ leaf.Var v c = cc in one_entry (b + 1) row c code (subst (λ y. HasCode y code) same h));
    by_const = λ s at. (let bad : leaf.Var v c ≡ leaf.Const s = cc in absurd (cc));
    once = once_one (entry_of (b + 1) c row);
  }

  pub begun_work : (c : Typecode) (n row : ℕ) → slice_get leaves b ≡ Some (leaf.Work c n) → IsBegun leaves chart rows before b (entry_of (b + 1) c row ∷ [])
  begun_work c n row here = record {
    leaf_in = λ x code at h. (let same : x ≡ leaf.Work c n = cc in one_entry (b + 1) row c code (subst (λ y. HasCode y code) same h));
    by_const = λ s at. (let bad : leaf.Work c n ≡ leaf.Const s = cc in absurd (cc));
    once = once_one (entry_of (b + 1) c row);
  }

  -- the productions that begin with the symbol are all that begin with the constant
  begins_from : (s : Sym) (entries : List Entry) → EntersFirst leaves chart rows before s (b + 1) entries → Begins leaves chart rows before s b entries
  begins_from s entries entered i r rest at below is = entered i (r, at, below, ap (first_sym r.slots) is)

  -- the entries of a constant are those of the productions that begin with it
  pub begun_by : (s : Sym) (entries : List Entry) → slice_get leaves b ≡ Some (leaf.Const s) → Begins leaves chart rows before s b entries → IsOnce entries
      → IsBegun leaves chart rows before b entries
  begun_by s entries here begins once = record {
    leaf_in = λ x code at h. (let same : x ≡ leaf.Const s = cc in absurd (subst (λ y. HasCode y code) same h));
    by_const = λ t at. (let same : s ≡ t = (let a : leaf.Const s ≡ leaf.Const t = cc in cc) in subst (λ u. Begins leaves chart rows before u b entries) same begins);
    once = once;
  }

  pub begun_const : (s : Sym) (entries : List Entry) → slice_get leaves b ≡ Some (leaf.Const s)
      → EntersFirst leaves chart rows before s (b + 1) entries → IsOnce entries → IsBegun leaves chart rows before b entries
  begun_const s entries here entered once = begun_by s entries here (begins_from s entries entered) once

  -- the productions that begin with the typecode's symbol are all that begin with a slot of the typecode
  pub follows_from : (entry : Entry) (entries : List Entry) → EntersFirst leaves chart rows before entry.code.0 entry.end entries → Follows leaves chart rows before entry entries
  follows_from entry entries entered i r k rest at below is code = entered i (r, at, below, ap (first_sym r.slots) is ∙ ap (sym_or_code None) code)
