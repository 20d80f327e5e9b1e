-- Typed trees with their leaves replaced are typed.
use Rattle.std.specs.Prelude.{◌≡◌, ℕ, List, [], ◌∷◌, map, refl}
use Rattle.std.proofs.Common.{sym, ap, subst, ◌∙◌}
use Rattle.mm_base.specs.declared.symbols.Sym.{Sym}
use Rattle.mm_base.specs.declared.symbols.Typecode.{Typecode}
use Rattle.mm_base.specs.declared.tree.Tree.{Tree}
use Rattle.mm_base.specs.declared.tree.Tree.TheVariants.{Fresh, outs-Fresh, rolls-Fresh}
use Rattle.mm_base.specs.declared.tree.Tree.TheOpen.{Tree-F}
use Rattle.mm_base.specs.declared.tree.Tree.TheFolds.{every_made-Tree}
use Rattle.mm_base.specs.Trees.{Each, layer_code, code_of}
use Rattle.mm_base.proofs.TreeInduction.{tree_ind}
use Rattle.mm_model.specs.declared.rows.Production.{Production}
use Rattle.mm_model.specs.Typed.{IsTyped, LayerIsTyped}
use Rattle.mm_model.proofs.TypedLaws.{code-Var, code-Work, code-Node, typed-Node, typed_here, typed_held}
use Rattle.solve_model.specs.Trees.{Open, work, fresh, replace}
use Rattle.solve_model.proofs.TreeLaws.{replace-Var, replace-Work, replace-Fresh, replace-Node}
use Rattle.solve_laws.specs.ReplacedTypes.{IsTypedAs, KeepsTypes}

pub code-Fresh : (c : Typecode) (n : ℕ) → code_of (Fresh c n) ≡ c
code-Fresh c n = ap layer_code (outs-Fresh c n)

pub typed-Fresh : (rows : List Production) (before : ℕ) (c : Typecode) (n : ℕ) → IsTyped rows before (Fresh c n)
unfolding IsTyped
typed-Fresh rows before c n = subst (IsTyped rows before) (rolls-Fresh c n) (every_made-Tree (LayerIsTyped rows before) (Tree-F.Fresh c n) (Tree-F.Fresh c n) refl tt)

module _ (rows : List Production) (before : ℕ) (at_var : Sym → Typecode → Tree) (at_open : Open → Tree) (keeps : KeepsTypes rows before at_var at_open) where
  abbrev Kept : Tree → Type 0
  Kept t = IsTyped rows before t → IsTypedAs rows before (code_of t) (replace at_var at_open t)

  children_kept : (ts : List Tree) → Each Kept ts → Each (IsTyped rows before) ts
      → Each (IsTyped rows before) (map (replace at_var at_open) ts) × (map code_of (map (replace at_var at_open) ts) ≡ map code_of ts)
  children_kept [] h p = (tt, refl)
  children_kept (t ∷ ts) h p =
      let first = h.0 p.0 in
      let rest = children_kept ts h.1 p.1 in
      let code = first.code in
      let codes = rest.1 in
      ((first.typed, rest.0), cc)

  typed_as : (c d : Typecode) (t u : Tree) → c ≡ d → t ≡ u → IsTypedAs rows before d u → IsTypedAs rows before c t
  typed_as c d t u p q h = record { code = ap code_of q ∙ h.code ∙ sym p; typed = subst (IsTyped rows before) (sym q) h.typed }

  pub replaced_typed : (t : Tree) → Kept t
  replaced_typed = tree_ind Kept
      (λ s c p. typed_as _ _ _ _ (code-Var s c) (replace-Var at_var at_open s c) (keeps.variables s c))
      (λ c n p. typed_as _ _ _ _ (code-Work c n) (replace-Work at_var at_open c n) (keeps.open_leaves (work c n)))
      (λ c n p. typed_as _ _ _ _ (code-Fresh c n) (replace-Fresh at_var at_open c n) (keeps.open_leaves (fresh c n)))
      (λ l c ts h p.
      let here = typed_here rows before l c ts p in
      let below = children_kept ts h (typed_held rows before l c ts p) in
      typed_as _ _ _ _ (code-Node l c ts) (replace-Node at_var at_open l c ts) (record {
        code = code-Node l c (map (replace at_var at_open) ts);
        typed = typed-Node rows before l c (map (replace at_var at_open) ts) (here.0, here.1, here.2, here.3, below.1 ∙ here.4) below.0;
      }))
