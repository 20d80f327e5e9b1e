-- Trees of the formulas of a frame, over the variables of its `$f`.
use Rattle.std.specs.Prelude.{◌≡◌, ◌<◌, ◌≤◌, ◌==◌, ℕ, Bool, true, false, List, [], ◌∷◌, ◌++◌, drop, map, filter_map, position, slice_get, slice_index_or, Contains}
use Rattle.std.specs.Prelude.{is_some, Option, Some, None, option_map, refl}
use Rattle.std.specs.List.{AllByRecursion, list_any, cons_option}
use Rattle.std.proofs.Common.{sym, ap, subst, ◌∙◌, cond}
use Rattle.std.proofs.lemmas.Bool.{both_ways, eq-eqb}
use Rattle.mm_base.specs.declared.symbols.Sym.{Sym}
use Rattle.mm_base.specs.declared.symbols.Label.{Label}
use Rattle.mm_base.specs.declared.symbols.Typecode.{Typecode}
use Rattle.mm_base.specs.declared.tree.Tree.{Tree}
use Rattle.mm_base.specs.declared.tree.Tree.TheVariants.{Var, Node}
use Rattle.mm_base.specs.Trees.{code_of, Each}
use Rattle.mm_model.specs.declared.frames.Frame.{Frame}
use Rattle.mm_model.specs.declared.rows.Item.{Item}
use Rattle.mm_model.specs.declared.rows.Item.TheVariants as slot
use Rattle.mm_model.specs.declared.rows.Leaf.{Leaf}
use Rattle.mm_model.specs.declared.rows.Leaf.TheVariants as leaf
use Rattle.mm_model.specs.declared.rows.Production.{Production}
use Rattle.mm_model.specs.Texts.{text, row_of, row_text, items_text}
use Rattle.mm_model.specs.Typed.{IsTyped, HasNoFresh, Parses}
use Rattle.mm_model.specs.Productions.{TypedVariable, typed_variables, item_of}
use Rattle.mm_model.specs.Book.{Database, float_of, expression_at}
use Rattle.mm_model.specs.BookFacts.{IsRowFrame, VariablesDiffer}
use Rattle.mm_model.proofs.TextLaws.{text-Var, text-Node}
use Rattle.mm_model.proofs.TypedLaws.{code-Var, code-Node, typed-Var, typed-Node, named-Var, named-Node}
use Rattle.model_laws.specs.FrameLaws.{own_leaf, own_expression}
use Rattle.model_laws.proofs.RowFacts.{slot_stands}
use Rattle.proof_model.specs.Machine.{is_float_of}
use Rattle.again_laws.proofs.TypedOn.{typed_later}
use Rattle.again_laws.proofs.Lists.{some_same}
use Rattle.answer_laws.proofs.PlainAssertions.{is_own, constant, own, float_stands}
use Rattle.push_laws.proofs.Books.{not_found}
use Rattle.push_laws.proofs.Facts.{IsBook, IsOwnFormula, FrameIsApart}
use Rattle.push_laws.proofs.Lists.{get_contains, contains_get, map_get, index_get, any_of_contains}
use Rattle.push_laws.proofs.Substituted.{typed_any}
use Rattle.export_laws.proofs.GoodTrees.{IsGoodAs, valued, good_valued, const_work, var_work, const_var, same_var}

-- the item of a symbol, by its place among the variables
abbrev by_place : Sym → Option ℕ → Item
by_place s None = slot.Const s
by_place s (Some k) = slot.Slot k

item-by : (vars : List TypedVariable) (s : Sym) (o : Option ℕ) → position (λ (v : TypedVariable). v.sym.0 == s.0) vars ≡ o → item_of vars s ≡ by_place s o
item-by vars s None e = rw e refl
item-by vars s (Some k) e = rw e refl

module _ (db : Database) (place : ℕ) (f : Frame) where
  abbrev vars : List TypedVariable
  vars = typed_variables f.hyps

  -- a tree of a formula by the frame's own `$f`, at the place
  pub record IsOwnTree (g : List Sym) (c : Typecode) (t : Tree) : Type 0 where
    pub code : code_of t ≡ c
    pub typed : IsTyped db.rows place t
    pub named : HasNoFresh t
    pub written : own_expression db f g ≡ text db.rows t

  -- a tree that the formula has at the frame's place
  pub parsed_tree : (g : List Sym) (c : Typecode) (t : Tree) → f.at ≤ place → Parses db.rows f.at (expression_at db f.at g) c t → IsOwnFormula db f g → IsOwnTree g c t
  parsed_tree g c t less p o = record {
    code = p.code;
    typed = typed_later db.rows f.at place less t p.typed;
    named = p.named;
    written = o.expression ∙ sym p.written;
  }

  -- with values of their typecodes for its variables it is a good tree
  pub good_own : IsBook db → (value : Sym → Tree) → ((v : TypedVariable) → Contains vars v → IsGoodAs db place v.code (value v.sym))
      → (g : List Sym) (c : Typecode) (t : Tree) → IsOwnTree g c t → IsGoodAs db place c (valued value t)
  good_own book value values g c t o = subst (λ d. IsGoodAs db place d (valued value t)) o.code (good_valued db place book value t (record {
    typed = o.typed;
    named = o.named;
    no_work = λ d n h. no_work d n h;
    vars = λ s d h. var_good s d h;
  }))
    where
      no_work : (d : Typecode) (n : ℕ) → Contains (text db.rows t) (leaf.Work d n) → ⊥
      no_work d n h = elim (is_own db f g (leaf.Work d n) (subst (λ xs. Contains xs (leaf.Work d n)) (sym o.written) h)) [
        | constant s e ↦ const_work s d n e
        | own s b e i ↦ var_work s b d n (sym e)
      ]

      var_good : (s : Sym) (d : Typecode) → Contains (text db.rows t) (leaf.Var s d) → IsGoodAs db place d (value s)
      var_good s d h = elim (is_own db f g (leaf.Var s d) (subst (λ xs. Contains xs (leaf.Var s d)) (sym o.written) h)) [
        | constant v e ↦ absurd (const_var v s d e)
        | own v b e i ↦
            let same = same_var s v d b e in
            let x = float_stands db f v b i in
            subst (λ z. IsGoodAs db place z (value s)) (x.3 ∙ sym same.1) (subst (λ z. IsGoodAs db place x.0.code (value z)) (x.2 ∙ sym same.0) (values x.0 x.1))
      ]

  -- ---- the tree of a production

  abbrev var_tree : TypedVariable → Tree
  var_tree v = Var v.sym v.code

  abbrev texts : List (List Leaf)
  texts = map (text db.rows) (map var_tree vars)

  var_codes : (vs : List TypedVariable) → map code_of (map var_tree vs) ≡ map (λ (v : TypedVariable). v.code) vs
  var_codes [] = refl
  var_codes (v ∷ vs) = ap (λ x. x ∷ map code_of (map var_tree vs)) (code-Var v.sym v.code) ∙ ap (λ xs. v.code ∷ xs) (var_codes vs)

  vars_typed : (vs : List TypedVariable) → Each (IsTyped db.rows place) (map var_tree vs)
  vars_typed [] = tt
  vars_typed (v ∷ vs) = (typed-Var db.rows place v.sym v.code, vars_typed vs)

  vars_named : (vs : List TypedVariable) → Each HasNoFresh (map var_tree vs)
  vars_named [] = tt
  vars_named (v ∷ vs) = (named-Var v.sym v.code, vars_named vs)

  slot_text : (k : ℕ) (v : TypedVariable) → slice_get vars k ≡ Some v → slice_index_or texts k [] ≡ leaf.Var v.sym v.code ∷ []
  slot_text k v e =
      index_get texts k [] (text db.rows (var_tree v)) (map_get (text db.rows) (map var_tree vars) k (var_tree v) (map_get var_tree vars k v e)) ∙ text-Var db.rows v.sym v.code

  module _ (apart : FrameIsApart db f) (differ : VariablesDiffer vars) where
    no_place : (s : Sym) (k : ℕ) → db.is_constant_at s f.at ≡ true → position (λ (v : TypedVariable). v.sym.0 == s.0) vars ≡ Some k → ⊥
    no_place s k c e =
        let v = slot_stands vars s k e in
        both_ways (list_any (is_float_of s) f.hyps) (apart.constants s c)
        (typed_any s f.hyps (any_of_contains (λ (w : TypedVariable). w.sym.0 == s.0) vars v.0 (get_contains vars k v.0 v.1) (eq-eqb v.0.sym.0 s.0 (ap (λ (x : Sym). x.0) v.2))))

    no_float : (s : Sym) (c : Typecode) → float_of s f.hyps ≡ Some c → position (λ (v : TypedVariable). v.sym.0 == s.0) vars ≡ None → ⊥
    no_float s c e i =
        let none : float_of s f.hyps ≡ None = ap (option_map (λ (v : TypedVariable). v.code)) (not_found (λ (v : TypedVariable). v.sym.0 == s.0) vars i) in
        let bad : Some c ≡ None = sym e ∙ none in
        cc

    the_slot : (s : Sym) (c : Typecode) (k : ℕ) → float_of s f.hyps ≡ Some c → position (λ (v : TypedVariable). v.sym.0 == s.0) vars ≡ Some k
        → slice_index_or texts k [] ≡ leaf.Var s c ∷ []
    the_slot s c k e i =
        let v = slot_stands vars s k i in
        let w = float_stands db f s c e in
        let at = contains_get vars w.0 w.1 in
        let places : k ≡ at.0 = differ k at.0 v.0 w.0 v.1 at.1 (v.2 ∙ sym w.2) in
        let same : v.0 ≡ w.0 = some_same v.0 w.0 (sym v.1 ∙ ap (slice_get vars) places ∙ at.1) in
        slot_text k v.0 v.1 ∙ ap (λ (x : Sym). leaf.Var x v.0.code ∷ []) v.2 ∙ ap (λ (x : Typecode). leaf.Var s x ∷ []) (ap (λ (x : TypedVariable). x.code) same ∙ w.3)

    by_slot : (s : Sym) (c : Typecode) (o : Option ℕ) (more rest : List Leaf) → float_of s f.hyps ≡ Some c → position (λ (v : TypedVariable). v.sym.0 == s.0) vars ≡ o → more ≡ rest
        → leaf.Var s c ∷ more ≡ items_text texts (by_place s o ∷ []) ++ rest
    by_slot s c None more rest e i r = absurd (no_float s c e i)
    by_slot s c (Some k) more rest e i r = ap (λ xs. leaf.Var s c ∷ xs) r ∙ sym (ap (λ (xs : List Leaf). (xs ++ []) ++ rest) (the_slot s c k e i))

    by_const : (s : Sym) (o : Option ℕ) (more rest : List Leaf) → db.is_constant_at s f.at ≡ true → position (λ (v : TypedVariable). v.sym.0 == s.0) vars ≡ o → more ≡ rest
        → leaf.Const s ∷ more ≡ items_text texts (by_place s o ∷ []) ++ rest
    by_const s None more rest c i r = ap (λ xs. leaf.Const s ∷ xs) r
    by_const s (Some k) more rest c i r = absurd (no_place s k c i)

    one_symbol : (s : Sym) (b : Bool) (o : Option Typecode) (more rest : List Leaf) → db.is_constant_at s f.at ≡ b → float_of s f.hyps ≡ o
        → is_some (cond b (Some (leaf.Const s)) (option_map (λ c. leaf.Var s c) o)) ≡ true → more ≡ rest
        → cons_option (cond b (Some (leaf.Const s)) (option_map (λ c. leaf.Var s c) o)) more ≡ items_text texts (item_of vars s ∷ []) ++ rest
    one_symbol s true o more rest c e i r =
        by_const s (position (λ (v : TypedVariable). v.sym.0 == s.0) vars) more rest c refl r
        ∙ sym (ap (λ (x : Item). items_text texts (x ∷ []) ++ rest) (item-by vars s (position (λ (v : TypedVariable). v.sym.0 == s.0) vars) refl))
    one_symbol s false None more rest c e i r = absurd cc
    one_symbol s false (Some d) more rest c e i r =
        by_slot s d (position (λ (v : TypedVariable). v.sym.0 == s.0) vars) more rest e refl r
        ∙ sym (ap (λ (x : Item). items_text texts (x ∷ []) ++ rest) (item-by vars s (position (λ (v : TypedVariable). v.sym.0 == s.0) vars) refl))

    one_more : (i : Item) (items : List Item) → items_text texts (i ∷ []) ++ items_text texts items ≡ items_text texts (i ∷ items)
    one_more (slot.Const s) items = refl
    one_more (slot.Slot k) items = no_end (slice_index_or texts k []) (items_text texts items)
      where
        no_end : (xs ys : List Leaf) → (xs ++ []) ++ ys ≡ xs ++ ys
        no_end [] ys = refl
        no_end (x ∷ xs) ys = ap (λ zs. x ∷ zs) (no_end xs ys)

    symbols_are : (ss : List Sym) → AllByRecursion (λ s. is_some (own_leaf db f s) ≡ true) ss → filter_map (own_leaf db f) ss ≡ items_text texts (map (item_of vars) ss)
    symbols_are [] a = refl
    symbols_are (s ∷ ss) a =
        one_symbol s (db.is_constant_at s f.at) (float_of s f.hyps) (filter_map (own_leaf db f) ss) (items_text texts (map (item_of vars) ss)) refl refl a.0 (symbols_are ss a.1)
        ∙ one_more (item_of vars s) (map (item_of vars) ss)

    -- a production over its own variables
    pub row_tree : (l : Label) (r : Production) → row_of db.rows l ≡ Some r → r.at < place → IsRowFrame r f → r.items ≡ map (item_of vars) (drop 1 f.formula) → IsOwnFormula db f f.formula
        → IsOwnTree f.formula r.gives (Node l r.gives (map var_tree vars))
    row_tree l r row less is items o = record {
      code = code-Node l r.gives (map var_tree vars);
      typed = typed-Node db.rows place l r.gives (map var_tree vars) (r, row, less, refl, var_codes vars ∙ sym is.slots) (vars_typed vars);
      named = named-Node l r.gives (map var_tree vars) (vars_named vars);
      written = symbols_are (drop 1 f.formula) o.leaves ∙ ap (items_text texts) (sym items)
          ∙ sym (text-Node db.rows l r.gives (map var_tree vars) ∙ ap (row_text texts) row);
    }
