-- Typed trees: replaced where their own leaves keep their types, and over a later place.
use Rattle.std.specs.Prelude.{◌≡◌, ◌≤◌, ℕ, Contains, List, [], ◌∷◌, map, refl}
use Rattle.std.proofs.Common.{sym, ap, subst, ◌∙◌, arith}
use Rattle.std.proofs.lemmas.List.Elements.{Contains-append_left, Contains-append_right}
use Rattle.mm_base.specs.declared.symbols.Sym.{Sym}
use Rattle.mm_base.specs.declared.symbols.Typecode.{Typecode}
use Rattle.mm_base.specs.declared.tree.Tree.{Tree}
use Rattle.mm_base.specs.Trees.{Each, code_of}
use Rattle.mm_base.proofs.TreeInduction.{tree_ind}
use Rattle.mm_model.specs.declared.rows.Production.{Production}
use Rattle.mm_model.specs.Productions.{TypedVariable}
use Rattle.mm_model.specs.Typed.{IsTyped}
use Rattle.mm_model.proofs.TypedLaws.{code-Var, code-Work, code-Node, typed-Var, typed-Work, typed-Node, typed_here, typed_held}
use Rattle.solve_model.specs.Trees.{Open, work, fresh, open_code, open_leaves, replace, flatten}
use Rattle.solve_model.proofs.TreeLaws.{replace-Var, replace-Work, replace-Fresh, replace-Node, open_leaves-Work, open_leaves-Fresh, open_leaves-Node}
use Rattle.solve_laws.specs.ReplacedTypes.{IsTypedAs}
use Rattle.solve_laws.proofs.Elements.{here}
use Rattle.solve_laws.proofs.ReplacedTypes.{code-Fresh, typed-Fresh}
use Rattle.again_laws.specs.Leaves.{typed, typed_leaves}
use Rattle.again_laws.proofs.LeafLaws.{leaves-Var, leaves-Node}

module _ (rows : List Production) (before : ℕ) (at_var : Sym → Typecode → Tree) (at_open : Open → Tree) where
  abbrev pub KeepsVars : List TypedVariable → Type 0
  KeepsVars vs = (v : TypedVariable) → Contains vs v → IsTypedAs rows before v.code (at_var v.sym v.code)

  abbrev pub KeepsOpen : List Open → Type 0
  KeepsOpen xs = (x : Open) → Contains xs x → IsTypedAs rows before (open_code x) (at_open x)

  abbrev Kept : Tree → Type 0
  Kept t = KeepsVars (typed_leaves t) → KeepsOpen (open_leaves t) → IsTyped rows before t → IsTypedAs rows before (code_of t) (replace at_var at_open t)

  children_kept : (ts : List Tree) → Each Kept ts → KeepsVars (flatten (map typed_leaves ts)) → KeepsOpen (flatten (map open_leaves ts)) → Each (IsTyped rows before) ts
      → Each (IsTyped rows before) (map (replace at_var at_open) ts) × (map code_of (map (replace at_var at_open) ts) ≡ map code_of ts)
  children_kept [] h a b p = (tt, refl)
  children_kept (t ∷ ts) h a b p =
      let first =
      h.0 (λ v o. a v (Contains-append_left (typed_leaves t) (flatten (map typed_leaves ts)) v o))
      (λ x o. b x (Contains-append_left (open_leaves t) (flatten (map open_leaves ts)) x o)) p.0 in
      let rest =
      children_kept ts h.1 (λ v o. a v (Contains-append_right (typed_leaves t) (flatten (map typed_leaves ts)) v o))
      (λ x o. b x (Contains-append_right (open_leaves t) (flatten (map open_leaves ts)) x o)) p.1 in
      let code = first.code in
      let codes = rest.1 in
      ((first.typed, rest.0), cc)

  typed_as : (c d : Typecode) (t u : Tree) → c ≡ d → t ≡ u → IsTypedAs rows before d u → IsTypedAs rows before c t
  typed_as c d t u p q h = record { code = ap code_of q ∙ h.code ∙ sym p; typed = subst (IsTyped rows before) (sym q) h.typed }

  pub replaced_on : (t : Tree) → Kept t
  replaced_on = tree_ind Kept
      (λ s c a b p. typed_as _ _ _ _ (code-Var s c) (replace-Var at_var at_open s c) (a (typed s c) (rw leaves-Var (here (typed s c)))))
      (λ c n a b p. typed_as _ _ _ _ (code-Work c n) (replace-Work at_var at_open c n) (b (work c n) (rw open_leaves-Work (here (work c n)))))
      (λ c n a b p. typed_as _ _ _ _ (code-Fresh c n) (replace-Fresh at_var at_open c n) (b (fresh c n) (rw open_leaves-Fresh (here (fresh c n)))))
      (λ l c ts h a b p.
      let layer = typed_here rows before l c ts p in
      let below = children_kept ts h (rw leaves-Node at a) (rw open_leaves-Node at b) (typed_held rows before l c ts p) in
      typed_as _ _ _ _ (code-Node l c ts) (replace-Node at_var at_open l c ts) (record {
        code = code-Node l c (map (replace at_var at_open) ts);
        typed = typed-Node rows before l c (map (replace at_var at_open) ts) (layer.0, layer.1, layer.2, layer.3, below.1 ∙ layer.4) below.0;
      }))

-- what is typed at a place is typed at each later one
module _ (rows : List Production) (before after : ℕ) (later : before ≤ after) where
  abbrev Stays : Tree → Type 0
  Stays t = IsTyped rows before t → IsTyped rows after t

  all_stay : (ts : List Tree) → Each Stays ts → Each (IsTyped rows before) ts → Each (IsTyped rows after) ts
  all_stay [] h p = tt
  all_stay (t ∷ ts) h p = (h.0 p.0, all_stay ts h.1 p.1)

  pub typed_later : (t : Tree) → Stays t
  typed_later = tree_ind Stays
      (λ s c p. typed-Var rows after s c)
      (λ c n p. typed-Work rows after c n)
      (λ c n p. typed-Fresh rows after c n)
      (λ l c ts h p.
      let layer = typed_here rows before l c ts p in
      let low = layer.2 in
      let le = later in
      typed-Node rows after l c ts (layer.0, layer.1, omega (arith, low, le), layer.3, layer.4) (all_stay ts h (typed_held rows before l c ts p)))
