-- A tree is one of an expression where it is a variable of it, or a node whose production fits it.
use Rattle.std.specs.Prelude.{◌≡◌, ◌<◌, ◌==◌, ℕ, suc, Bool, true, false, List, [], ◌∷◌, length, map, Some, slice_get, refl}
use Rattle.std.proofs.Common.{arith, sym, ap, ◌∙◌, get_or, subst, inl, inr, cond}
use Rattle.std.proofs.lemmas.Bool.Decides.{nat_tests}
use Rattle.std.proofs.lemmas.List.{length-map}
use Rattle.std.proofs.lemmas.Option.{slice_get_within}
use Rattle.mm_base.specs.declared.symbols.Sym.{Sym}
use Rattle.mm_base.specs.declared.symbols.Label.{Label}
use Rattle.mm_base.specs.declared.symbols.Typecode.{Typecode}
use Rattle.mm_base.specs.declared.tree.Tree.{Tree}
use Rattle.mm_base.specs.declared.tree.Tree.TheVariants.{Var, Work, Node}
use Rattle.mm_model.specs.declared.rows.Leaf.{Leaf}
use Rattle.mm_model.specs.declared.rows.Leaf.TheVariants as leaf
use Rattle.mm_model.specs.declared.rows.Production.{Production}
use Rattle.mm_model.specs.Texts.{row_text, items_text, text}
use Rattle.mm_model.proofs.TextLaws.{text-Var, text-Work, text-Node}
use Rattle.mm_base.specs.Trees.{code_of}
use Rattle.mm_model.specs.Typed.{IsTyped, HasNoFresh, Parses}
use Rattle.mm_model.proofs.TypedLaws.{code-Var, code-Work, code-Node, typed-Var, typed-Work, typed-Node, typed_here, typed_held, named-Var, named-Work, named-Node, named_held, fresh_is_not_named}
use Rattle.mm_base.specs.Trees.{Each}
use Rattle.mm_base.proofs.TreeInduction.{tree_ind}
use Rattle.mm_model.specs.Rows.{slot_order, place_of, AreRows}
use Rattle.mm_model.proofs.RowLaws.{row_of_own, row_stands, is_row}
use Rattle.formula_parse.specs.Fits.{pick, Fits, IsLeaf, IsOf, IsBelow}
use Rattle.formula_parse.proofs.Places.{some_at, each_get, each_from, same_by_get, slice_get_mapped}
use Rattle.formula_parse.proofs.NodeFits.{IsChild, AllChildren, Within, fits_own_text, text_from_fits, children_from_fits}

module _ (rows : List Production) (before : ℕ) where
  pub within_each : (slots : List Typecode) (ts : List Tree) (order : List ℕ) → ((j : ℕ) → j < length order → get_or order j 0 < length ts) → Within rows before slots ts order
  within_each slots ts [] h = tt
  within_each slots ts (k ∷ order) h = (h 0 (omega arith), within_each slots ts order (λ j l. h (suc j) (omega arith)))

  -- the children of a typed node, at their slots
  all_children : (slots : List Typecode) (ts : List Tree) (order : List ℕ) → Within rows before slots ts order → Each (IsTyped rows before) ts
      → Each HasNoFresh ts → map code_of ts ≡ slots → AllChildren rows before slots ts order
  all_children slots ts [] w p q e = tt
  all_children slots ts (k ∷ order) w p q e =
      let at = some_at ts k w.0 in (
        record {
          child = at.0;
          child_is = at.1;
          code_is = ap (λ s. slice_get s k) (sym e) ∙ slice_get_mapped code_of ts k at.0 at.1;
          typed = each_get (IsTyped rows before) ts p k at.0 at.1;
          named = each_get HasNoFresh ts q k at.0 at.1;
        },
        all_children slots ts order w.1 p q e,
      )

  same_number : (k x : ℕ) → (k == x) ≡ true → x ≡ k
  same_number k x e = grind (arith, nat_tests)

  child_by : (slots : List Typecode) (ts : List Tree) (k x : ℕ) (order : List ℕ) (b : Bool) → (k == x) ≡ b → IsChild rows before slots ts x
      → (place_of k order < length order → IsChild rows before slots ts k) → cond b 0 (suc (place_of k order)) < suc (length order) → IsChild rows before slots ts k
  child_by slots ts k x order true is h next l = subst (IsChild rows before slots ts) (same_number k x is) h
  child_by slots ts k x order false is h next l = next (omega arith)

  -- the child of a slot that stands in the order
  child_at : (slots : List Typecode) (ts : List Tree) (order : List ℕ) → AllChildren rows before slots ts order → (k : ℕ) → place_of k order < length order → IsChild rows before slots ts k
  child_at slots ts [] h k l = absurd (omega arith)
  child_at slots ts (x ∷ order) h k l = child_by slots ts k x order (k == x) refl h.0 (child_at slots ts order h.1 k) l

  module _ (ok : AreRows rows) where
    -- a tree of a production that stands among the rows is one of the expression
    pub parses_from_row : (e : List Leaf) (want : Typecode) (t : Tree) (k : ℕ) (r : Production) → slice_get rows k ≡ Some r → IsOf rows before r e want t → Parses rows before e want t
    parses_from_row e want t k r at h =
        let row = is_row rows ok k r at in
        let ts = h.children in
        let order = slot_order r.items in
        let within = within_each r.slots ts order (λ j l. omega (arith, row.each_once.within j l, h.count)) in
        let all = children_from_fits rows before r.slots ts r.items within e h.fits in
        let child = λ (i : ℕ) (l : i < length ts). child_at r.slots ts order all i (row.each_once.found i (omega (arith, h.count))) in
        let typed =
        each_from (IsTyped rows before) ts
        (λ i u is. let c = child i (slice_get_within ts i u is) in let same : c.child ≡ u = (let a = c.child_is in cc) in
        subst (IsTyped rows before) same c.typed) in
        let named = each_from HasNoFresh ts (λ i u is. let c = child i (slice_get_within ts i u is) in let same : c.child ≡ u = (let a = c.child_is in cc) in subst HasNoFresh same c.named) in
        let codes : map code_of ts ≡ r.slots = same_by_get (map code_of ts) r.slots (length-map ts code_of ∙ h.count) (λ i x is.
        let l : i < length ts = omega (arith, slice_get_within (map code_of ts) i x is, length-map ts code_of) in
        let c = child i l in
        let mapped = slice_get_mapped code_of ts i c.child c.child_is in
        c.code_is ∙ sym mapped ∙ is) in
        let own = row_of_own rows ok.labels k r at in
        let written = text-Node rows r.label r.gives ts ∙ ap (row_text (map (text rows) ts)) own ∙ text_from_fits rows before r.slots ts r.items within e h.fits in
        subst (Parses rows before e want) (sym h.tree_is) (record {
          code = code-Node r.label r.gives ts ∙ h.gives;
          typed = typed-Node rows before r.label r.gives ts (r, own, h.below, refl, codes) typed;
          named = named-Node r.label r.gives ts named;
          written = written;
        })

    pub parses_from_leaf : (e : List Leaf) (want : Typecode) (t : Tree) → IsLeaf e want t → Parses rows before e want t
    parses_from_leaf [] want t h = absurd h
    parses_from_leaf (leaf.Const s ∷ e) want t h = absurd h
    parses_from_leaf (leaf.Var s c ∷ []) want t h = subst (Parses rows before (leaf.Var s c ∷ []) want) (sym h.1) (record {
      code = code-Var s c ∙ h.0;
      typed = typed-Var rows before s c;
      named = named-Var s c;
      written = text-Var rows s c;
    })
    parses_from_leaf (leaf.Work c n ∷ []) want t h = subst (Parses rows before (leaf.Work c n ∷ []) want) (sym h.1) (record {
      code = code-Work c n ∙ h.0;
      typed = typed-Work rows before c n;
      named = named-Work c n;
      written = text-Work rows c n;
    })
    parses_from_leaf (leaf.Var s c ∷ x ∷ e) want t h = absurd h
    parses_from_leaf (leaf.Work c n ∷ x ∷ e) want t h = absurd h

    -- a tree of the expression is of one of these two kinds
    abbrev pub Cases : List Leaf → Typecode → Tree → Type 0
    Cases e want t = IsBelow rows before (length rows) e want t

    var_case : (s : Sym) (c : Typecode) (e : List Leaf) (want : Typecode) → Parses rows before e want (Var s c) → Cases e want (Var s c)
    var_case s c e want h =
        let is = sym (text-Var rows s c) ∙ h.written in
        subst (λ x. Cases x want (Var s c)) is (inl (sym (code-Var s c) ∙ h.code, refl))

    work_case : (c : Typecode) (n : ℕ) (e : List Leaf) (want : Typecode) → Parses rows before e want (Work c n) → Cases e want (Work c n)
    work_case c n e want h =
        let is = sym (text-Work rows c n) ∙ h.written in
        subst (λ x. Cases x want (Work c n)) is (inl (sym (code-Work c n) ∙ h.code, refl))

    node_case : (l : Label) (c : Typecode) (ts : List Tree) (e : List Leaf) (want : Typecode) → Parses rows before e want (Node l c ts) → Cases e want (Node l c ts)
    node_case l c ts e want h =
        let here = typed_here rows before l c ts h.typed in
        let r = here.0 in
        let at = row_stands rows l r here.1 in
        let row = is_row rows ok at.place r at.stands in
        let count : length ts ≡ length r.slots = sym (length-map ts code_of) ∙ ap length here.4 in
        let within = within_each r.slots ts (slot_order r.items) (λ j i. omega (arith, row.each_once.within j i, count)) in
        let all = all_children r.slots ts (slot_order r.items) within (typed_held rows before l c ts h.typed) (named_held l c ts h.named) here.4 in
        let writes : items_text (map (text rows) ts) r.items ≡ e = sym (text-Node rows l c ts ∙ ap (row_text (map (text rows) ts)) here.1) ∙ h.written in
        inr (record {
          place = at.place;
          within = slice_get_within rows at.place r at.stands;
          row = r;
          stands = at.stands;
          is_of = record {
            below = here.2;
            gives = here.3 ∙ sym (code-Node l c ts) ∙ h.code;
            children = ts;
            tree_is = ap (λ m. Node m c ts) (sym at.label_is) ∙ ap (λ d. Node r.label d ts) (sym here.3);
            count = count;
            fits = subst (λ x. Fits rows before r.slots r.items x (pick ts (slot_order r.items))) writes (fits_own_text rows before r.slots ts r.items all);
          };
        })

    pub parses_cases : (t : Tree) (e : List Leaf) (want : Typecode) → Parses rows before e want t → Cases e want t
    parses_cases = tree_ind (λ t. (e : List Leaf) (want : Typecode) → Parses rows before e want t → Cases e want t)
        var_case work_case
        (λ c n e want h. absurd (fresh_is_not_named c n h.named))
        (λ l c ts _. node_case l c ts)
