-- A typed tree over the variables of an assertion is typed where their copies' values are.
use Rattle.std.specs.Prelude.{◌≡◌, ℕ, List, [], ◌∷◌, map, Contains, refl}
use Rattle.std.proofs.Common.{sym, ap, subst, ◌∙◌}
use Rattle.mm_base.specs.declared.symbols.Sym.{Sym}
use Rattle.mm_base.specs.declared.symbols.Typecode.{Typecode}
use Rattle.mm_base.specs.declared.tree.Tree.{Tree}
use Rattle.mm_base.specs.Trees.{Each, code_of}
use Rattle.mm_base.proofs.TreeInduction.{tree_ind}
use Rattle.mm_base.proofs.TreeFacts.{node_held}
use Rattle.mm_model.specs.declared.rows.Production.{Production}
use Rattle.mm_model.specs.Productions.{TypedVariable}
use Rattle.mm_model.specs.Typed.{IsTyped}
use Rattle.mm_model.proofs.TypedLaws.{code-Var, code-Node, typed-Node, typed_here, typed_held}
use Rattle.solve_model.specs.Trees.{Open, replace, leaf_tree}
use Rattle.solve_model.specs.Solutions.{IsUnknown, copy}
use Rattle.solve_model.proofs.TreeLaws.{replace-Var, replace-Node}
use Rattle.solve_laws.specs.ReplacedTypes.{IsTypedAs}
use Rattle.chain_laws.specs.Layout.{LayerIsOver, IsOver}
use Rattle.chain_laws.proofs.Agreement.{over_Var, over_Work, over_Fresh}
use Rattle.step_filling.specs.Counted.{InstanceIsTyped}

module _ (rows : List Production) (before : ℕ) (vars : List TypedVariable) (a : Sym → Typecode → Tree) (p : Open → Tree)
    (keeps : (s : Sym) (c : Typecode) → Contains vars (record { sym = s; code = c }) → IsTypedAs rows before c (a s c)) where
  abbrev Kept : Tree → Type 0
  Kept t = IsOver vars t → IsTyped rows before t → IsTypedAs rows before (code_of t) (replace a p t)

  all_kept : (ts : List Tree) → Each Kept ts → Each (IsOver vars) ts → Each (IsTyped rows before) ts
      → Each (IsTyped rows before) (map (replace a p) ts) × (map code_of (map (replace a p) ts) ≡ map code_of ts)
  all_kept [] h o k = (tt, refl)
  all_kept (t ∷ ts) h o k =
      let first = h.0 o.0 k.0 in
      let rest = all_kept ts h.1 o.1 k.1 in
      let code = first.code in
      let codes = rest.1 in
      ((first.typed, rest.0), cc)

  typed_as : (c d : Typecode) (t u : Tree) → c ≡ d → t ≡ u → IsTypedAs rows before d u → IsTypedAs rows before c t
  typed_as c d t u e q h = record { code = ap code_of q ∙ h.code ∙ sym e; typed = subst (IsTyped rows before) (sym q) h.typed }

  over_typed : (t : Tree) → Kept t
  over_typed = tree_ind Kept
      (λ s c o k. typed_as _ _ _ _ (code-Var s c) (replace-Var a p s c) (keeps s c (over_Var vars s c o)))
      (λ c n o k. absurd (over_Work vars c n o))
      (λ c n o k. absurd (over_Fresh vars c n o))
      (λ l c ts h o k.
      let layer = typed_here rows before l c ts k in
      let below = all_kept ts h (node_held (LayerIsOver vars) l c ts o) (typed_held rows before l c ts k) in
      typed_as _ _ _ _ (code-Node l c ts) (replace-Node a p l c ts) (record {
        code = code-Node l c (map (replace a p) ts);
        typed = typed-Node rows before l c (map (replace a p) ts) (layer.0, layer.1, layer.2, layer.3, below.1 ∙ layer.4) below.0;
      }))

pub instance_is_typed : InstanceIsTyped
instance_is_typed db bound asked v x valuation among t over typed =
    (over_typed db.rows bound.place x.assertion.vars (λ s c. v (copy x.step s c)) leaf_tree
    (λ s c m.
    let on = IsUnknown.in_frame x (record { sym = s; code = c }) among m in
    record { code = valuation.code (copy x.step s c) on; typed = valuation.typed (copy x.step s c) on })
    t over typed).typed
