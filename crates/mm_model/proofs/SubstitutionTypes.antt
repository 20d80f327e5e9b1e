-- A substitution keeps the typecode of a tree, and that it is typed.
use Rattle.std.specs.Prelude.{◌≡◌, ℕ, List, [], ◌∷◌, Option, Some, None, map, unwrap_or, refl}
use Rattle.std.proofs.Common.{sym, ◌∙◌, subst}
use Rattle.mm_base.specs.declared.symbols.Typecode.{Typecode}
use Rattle.mm_base.specs.declared.tree.Tree.{Tree}
use Rattle.mm_base.specs.declared.tree.Tree.TheVariants.{Var, Work, Fresh, Node}
use Rattle.mm_model.specs.declared.rows.Leaf.{Leaf}
use Rattle.mm_model.specs.declared.rows.Leaf.TheVariants as leaf
use Rattle.mm_model.specs.declared.rows.Production.{Production}
use Rattle.mm_base.specs.Trees.{Each}
use Rattle.mm_base.proofs.TreeInduction.{tree_ind}
use Rattle.mm_base.specs.Trees.{code_of}
use Rattle.mm_model.specs.Typed.{IsTyped}
use Rattle.mm_model.proofs.TypedLaws.{code-Var, code-Work, code-Node, typed-Node, typed_here, typed_held}
use Rattle.mm_model.specs.Substitution.{Substitution, HasCode, IsSubstitution, substitute}
use Rattle.mm_model.proofs.SubstitutionLaws.{substitute-Var, substitute-Work, substitute-Fresh, substitute-Node}

module _ (rows : List Production) (before : ℕ) (s : Substitution) (is : IsSubstitution rows before s) where
  -- the tree is typed, with that typecode
  pub record Keeps (c : Typecode) (t : Tree) : Type 0 where
    pub code : code_of t ≡ c
    pub typed : IsTyped rows before t

  leaf_kept : (x : Leaf) (c : Typecode) (o : Option Tree) (d : Tree) → s x ≡ o → ((u : Typecode) → HasCode x u → u ≡ c) → Keeps c d → Keeps c (unwrap_or o d)
  leaf_kept x c None d e h k = k
  leaf_kept x c (Some t) d e h k = let own = is x t e in record { code = h (code_of t) own.0; typed = own.1 }

  abbrev Kept : Tree → Type 0
  Kept t = IsTyped rows before t → Keeps (code_of t) (substitute s t)

  children_kept : (ts : List Tree) → Each Kept ts → Each (IsTyped rows before) ts → Each (IsTyped rows before) (map (substitute s) ts) × (map code_of (map (substitute s) ts) ≡ map code_of ts)
  children_kept [] h p = (tt, refl)
  children_kept (t ∷ ts) h p =
      let first = h.0 p.0 in
      let rest = children_kept ts h.1 p.1 in
      let code = first.code in
      let codes = rest.1 in
      ((first.typed, rest.0), cc)

  pub substitute_typed : (t : Tree) → Kept t
  substitute_typed = tree_ind Kept
      (λ v c p. subst (Keeps (code_of (Var v c))) (sym (substitute-Var s v c))
      (leaf_kept (leaf.Var v c) (code_of (Var v c)) (s (leaf.Var v c)) (Var v c) refl (λ u e. e ∙ sym (code-Var v c)) (record { code = refl; typed = p })))
      (λ c n p. subst (Keeps (code_of (Work c n))) (sym (substitute-Work s c n))
      (leaf_kept (leaf.Work c n) (code_of (Work c n)) (s (leaf.Work c n)) (Work c n) refl (λ u e. e ∙ sym (code-Work c n)) (record { code = refl; typed = p })))
      (λ c n p. subst (Keeps (code_of (Fresh c n))) (sym (substitute-Fresh s c n)) (record { code = refl; typed = p }))
      (λ l c ts h p.
      let here = typed_here rows before l c ts p in
      let below = children_kept ts h (typed_held rows before l c ts p) in
      subst (Keeps (code_of (Node l c ts))) (sym (substitute-Node s l c ts)) (record {
        code = code-Node l c (map (substitute s) ts) ∙ sym (code-Node l c ts);
        typed = typed-Node rows before l c (map (substitute s) ts) (here.0, here.1, here.2, here.3, below.1 ∙ here.4) below.0;
      }))
