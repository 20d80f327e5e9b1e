-- The written trees are well, and so each token of a written formula is one.
use Rattle.std.specs.Prelude.{◌≡◌, ◌<◌, ◌++◌, ◌+◌, ◌/◌, ◌%◌, ◌==◌, not, ℕ, zero, suc, Bool, true, false, List, [], ◌∷◌, length, map, drop, slice_get}
use Rattle.std.specs.Prelude.{slice_index_or, decimal, Contains, Option, Some, None, codes, refl}
use Rattle.std.specs.List.{AllByRecursion, list_all}
use Rattle.std.specs.Fmt.{digit_glyph, digits_onto, digits}
use Rattle.std.specs.Str.{bytes_eq}
use Rattle.std.proofs.Common.{sym, ap, subst, ◌∙◌, arith, cond, map-id, lt-ltb, ne_eqb}
use Rattle.std.proofs.lemmas.Bool.{and_from, and_parts}
use Rattle.std.proofs.lemmas.Option.{slice_get-get_or}
use Rattle.std.proofs.lemmas.List.Elements.{Contains-append_left, Contains-append_right}
use Rattle.mm_base.specs.declared.symbols.Sym.{Sym}
use Rattle.mm_base.specs.declared.symbols.Label.{Label}
use Rattle.mm_base.specs.declared.symbols.Typecode.{Typecode}
use Rattle.mm_base.specs.declared.tree.Tree.{Tree}
use Rattle.mm_base.specs.declared.tree.Tree.TheVariants.{Var}
use Rattle.mm_base.specs.Trees.{Each}
use Rattle.mm_base.proofs.TreeInduction.{tree_ind}
use Rattle.mm_model.specs.declared.rows.Item.{Item}
use Rattle.mm_model.specs.declared.rows.Item.TheVariants as slot
use Rattle.mm_model.specs.declared.rows.Leaf.{Leaf}
use Rattle.mm_model.specs.declared.rows.Leaf.TheVariants as leaf
use Rattle.mm_model.specs.declared.rows.Production.{Production}
use Rattle.mm_model.specs.Names.{Name}
use Rattle.mm_model.specs.Words.{is_white}
use Rattle.mm_model.specs.Labels.{is_label_byte}
use Rattle.mm_model.specs.Rows.{IsGrammar}
use Rattle.mm_model.specs.Texts.{row_of, row_text, items_text, text}
use Rattle.mm_model.specs.Typed.{IsTyped}
use Rattle.mm_model.specs.Productions.{TypedVariable, typed_variables}
use Rattle.mm_model.specs.BookFacts.{item_symbol, IsDatabase}
use Rattle.mm_model.specs.Book.{Database, symbol_name}
use Rattle.mm_model.proofs.TextLaws.{text-Var, text-Work, text-Fresh, text-Node}
use Rattle.mm_model.proofs.TypedLaws.{code-Work, typed-Work, typed_here, typed_held}
use Rattle.model_laws.specs.DatabaseLaws.{IsSymbolName}
use Rattle.sheet_text.specs.Layout.{steps, step_names}
use Rattle.sheet_text.specs.Spellable.{is_token}
use Rattle.solve_model.specs.declared.bound.Bound.{Bound}
use Rattle.solve_model.specs.declared.bound.BoundStep.{BoundStep}
use Rattle.solve_model.specs.declared.verdict.Verdict.TheVariants as verdict
use Rattle.solve_model.specs.Formulas.{prefix_of}
use Rattle.solve_model.specs.Trees.{Open, work, fresh, leaf_tree, variables, flatten}
use Rattle.solve_model.specs.Bound.{IsBoundStep}
use Rattle.solve_model.specs.Binding.{place_of}
use Rattle.solve_model.specs.Solutions.{Unknown, named, blank, copy, IsUnknown, in_formula, is_blank, in_frame, Asked, formula_value, formula, instance, open_value, no_step, unknown_code}
use Rattle.solve_model.specs.Verdicts.{Judgement, accepted, stands, accepted_in}
use Rattle.solve_model.proofs.TreeLaws.{variables-Var, variables-Work, variables-Fresh, variables-Node}
use Rattle.solve_laws.specs.NewVariables.{NoNewVariable}
use Rattle.solve_laws.proofs.NoFresh.{no_fresh_leaf}
use Rattle.solve_laws.proofs.ReplacedTypes.{code-Fresh, typed-Fresh}
use Rattle.written_model.specs.declared.options.Options.{Options}
use Rattle.written_model.specs.WrittenSteps.{steps_in, trees}
use Rattle.written_model.specs.Filled.{wanted_by, use_of}
use Rattle.written_model.specs.Named.{name_fresh, name_leaf, name_tree}
use Rattle.written_model.specs.Written.{Writing, Writes, leaf_name, formula_tokens, after_filling, after_naming}
use Rattle.answer_laws.proofs.Elements.{nothing, first, later, all_contained, all_drop, all_map}
use Rattle.answer_laws.proofs.Marks.{variable, open_leaf}
use Rattle.answer_laws.proofs.Covered.{mark_occurs, mark_variable}
use Rattle.answer_laws.proofs.Moved.{move_step, steps-over, trees-moved}
use Rattle.answer_laws.proofs.FilledAlike.{IsGoodItem, IsMoved, FilledAlike, filled_alike, good_trees}
use Rattle.answer_laws.proofs.Placed.{placed, mark_code, OfLeaves, typed_later}
use Rattle.answer_laws.proofs.Plain.{IsTreeIn, IsPlain, ArePlain, TreesAreRead, IsAccepted, accepted_at, accepted_stands}
use Rattle.answer_laws.proofs.OneBinding.{zip_length, trees_are_read, count_same}
use Rattle.answer_laws.proofs.SearchStays.{trees_searched}
use Rattle.answer_laws.proofs.WellTrees.{IsKnown, IsWell, IsWellAs, well_var, replaced_well, read_known, value_known}

-- ---- the trees of a writing

module _ (db : Database) (grammar : IsGrammar db.rows) (plain : ArePlain db) (sheet_text : List ℕ) (options : Options) (w : Writing) (writes : Writes db sheet_text options w)
    (no_new : (bound : Bound) (asked : List Asked) → NoNewVariable db bound asked) where
  abbrev On : Unknown → Type 0
  On = IsUnknown w.bound (accepted_in w.judgements)

  abbrev Well : Tree → Type 0
  Well t = IsWell db w.bound.place t

  abbrev WellAs : Typecode → Tree → Type 0
  WellAs c t = IsWellAs db w.bound.place c t

  read : TreesAreRead db w.bound
  read = trees_are_read db writes.reads.read w.bound writes.binds

  pub value_well : (u : Unknown) → On u → WellAs (unknown_code db u) (w.value u)
  value_well u on = record {
    code = writes.most_general.most_general.is_valuation.code u on;
    well = record { typed = writes.most_general.most_general.is_valuation.typed u on; known = λ x o. value_known db grammar plain sheet_text options w writes no_new u x on o };
  }

  formula_leaf : (i : ℕ) (s : BoundStep) (t : Tree) → slice_get w.bound.steps i ≡ Some s → s.tree ≡ Some t → OfLeaves (λ m. WellAs (mark_code m) (placed (λ v c. Var v c) (open_value w.value) m)) t
  formula_leaf i s t e k (variable v c) o = well_var db w.bound.place v c (read_known db grammar writes.reads.read w.bound writes.binds i s t v e k (mark_variable t v c o))
  formula_leaf i s t e k (open_leaf (work c n)) o = value_well (named c n) (in_formula i s t e k (mark_occurs t (work c n) o))
  formula_leaf i s t e k (open_leaf (fresh c n)) o = absurd (no_fresh_leaf c n t (read i s t e k).no_fresh (mark_occurs t (fresh c n) o))

  formula_by : (i : ℕ) (s : BoundStep) (o : Option Tree) → slice_get w.bound.steps i ≡ Some s → s.tree ≡ o → Well (formula_value w.value i o)
  formula_by i s None e k = (value_well (blank i) (is_blank s e k)).well
  formula_by i s (Some t) e k = replaced_well db w.bound.place (λ v c. Var v c) (open_value w.value) t (read i s t e k).typed (formula_leaf i s t e k)

  formula_well : (i : ℕ) → i < length w.bound.steps → Well (formula w.bound w.value i)
  formula_well i l = formula_by i (slice_index_or w.bound.steps i no_step) (slice_index_or w.bound.steps i no_step).tree (slice_get-get_or w.bound.steps i no_step l) refl

  module _ (x : Asked) (is : (i : ℕ) × IsAccepted db w.bound i x) (there : Contains (accepted_in w.judgements) x) where
    its : IsPlain db is.1.is_candidate.label x.assertion
    its = plain is.1.is_candidate.label x.assertion is.1.is_candidate.usable

    on_variable : (v : TypedVariable) → Contains x.assertion.vars v → On (copy x.step v.sym v.code)
    on_variable v o = in_frame x v there o

    instance_leaf : (t : Tree) → IsTreeIn x.assertion t → OfLeaves (λ m. WellAs (mark_code m) (placed (λ s c. w.value (copy x.step s c)) leaf_tree m)) t
    instance_leaf t o (variable s c) m =
        let v = its.known t s c o m in
        value_well (copy x.step s c) (subst (λ d. On (copy x.step s d)) v.3 (subst (λ r. On (copy x.step r v.0.code)) v.2 (on_variable v.0 v.1)))
    instance_leaf t o (open_leaf y) m = absurd (its.closed t y o m)

    instance_well : (t : Tree) → IsTreeIn x.assertion t → Well (instance w.value x.step t)
    instance_well t o =
        let at = its.at in
        let before = is.1.is_candidate.before in
        replaced_well db w.bound.place (λ s c. w.value (copy x.step s c)) leaf_tree t
        (typed_later db.rows x.assertion.frame.at w.bound.place (omega (arith, at, before)) t (its.typed t o)) (instance_leaf t o)

    pub wanted_well : AllByRecursion Well (wanted_by w.value (accepted x))
    wanted_well =
        all_map Well (instance w.value x.step) (drop (length x.places) x.assertion.hyps)
        (all_drop _ (length x.places) x.assertion.hyps (all_contained _ x.assertion.hyps (λ t o. instance_well t (later t x.assertion.tree x.assertion.hyps o))))

    pub values_well : AllByRecursion Well (use_of w.value x).values
    values_well =
        all_map Well (λ (v : TypedVariable). w.value (copy x.step v.sym v.code)) x.assertion.vars
        (all_contained _ x.assertion.vars (λ v o. (value_well (copy x.step v.sym v.code) (on_variable v o)).well))

  moved_by : (i : ℕ) (o : Judgement) → i < length w.bound.steps → slice_get w.judgements i ≡ Some o → IsMoved (λ t. t) (λ t. t) Well (λ t q. refl) w.bound w.value w.value i o
  moved_by i (stands v) l e = record { formula_is = refl; formula_good = formula_well i l; wanted = refl; wanted_good = tt; use_is = tt }
  moved_by i (accepted x) l e =
      let is : (n : ℕ) × IsAccepted db w.bound n x = (i, accepted_at db w.bound w.judgements writes.judged i x e) in
      let there = accepted_stands db w.bound w.judgements writes.judged i x e in
      record {
        formula_is = refl;
        formula_good = formula_well i l;
        wanted = map-id _;
        wanted_good = wanted_well x is there;
        use_is = (map-id _, values_well x is there);
      }

  each_moves : (i : ℕ) → i < length w.bound.steps → IsMoved (λ t. t) (λ t. t) Well (λ t q. refl) w.bound w.value w.value i (slice_index_or w.judgements i (stands verdict.NoRef))
  each_moves i l =
      let count = writes.judged.count in
      moved_by i (slice_index_or w.judgements i (stands verdict.NoRef)) l (slice_get-get_or w.judgements i (stands verdict.NoRef) (omega (arith, l, count)))

  filled : FilledAlike (λ t. t) (λ t. t) Well (λ t q. refl) w.bound w.value w.value (step_names w.read) w.judgements (length w.bound.steps) each_moves w.read.items
  filled =
      let one = count_same writes.reads.read w.read writes.reads.same in
      let two = zip_length (IsBoundStep db (place_of db writes.reads.read)) (steps writes.reads.read) w.bound.steps writes.binds.steps in
      filled_alike (λ t. t) (λ t. t) Well (λ t q. refl) w.bound w.value w.value (step_names w.read) w.judgements (length w.bound.steps) each_moves w.read.items (omega (arith, one, two))

  -- the trees of the filled worksheet, and of its uses
  pub filled_well : AllByRecursion (IsGoodItem Well) (after_filling db options w)
  filled_well = filled.good

  -- ---- named trees

  name_leaf_well : (x : Open) → IsWellAs db w.bound.place (mark_code (open_leaf x)) (name_leaf w.names x)
  name_leaf_well (work c n) = record { code = code-Work c n; well = record { typed = typed-Work db.rows w.bound.place c n; known = λ x o. absurd (nothing x (rw variables-Work at o)) } }
  name_leaf_well (fresh c n) = by (w.names c n)
    where
      by : (o : Option ℕ) → IsWellAs db w.bound.place c (name_fresh c n o)
      by None = record { code = code-Fresh c n; well = record { typed = typed-Fresh db.rows w.bound.place c n; known = λ x o. absurd (nothing x (rw variables-Fresh at o)) } }
      by (Some k) = record { code = code-Work c k; well = record { typed = typed-Work db.rows w.bound.place c k; known = λ x o. absurd (nothing x (rw variables-Work at o)) } }

  named_leaf : (t : Tree) → Well t → OfLeaves (λ m. WellAs (mark_code m) (placed (λ s c. Var s c) (name_leaf w.names) m)) t
  named_leaf t h (variable s c) o = well_var db w.bound.place s c (h.known s (mark_variable t s c o))
  named_leaf t h (open_leaf x) o = name_leaf_well x

  pub named_well : (t : Tree) → Well t → Well (name_tree w.names t)
  named_well t h = replaced_well db w.bound.place (λ s c. Var s c) (name_leaf w.names) t h.typed (named_leaf t h)

  all_named : (ts : List Tree) → AllByRecursion Well ts → AllByRecursion Well (map (name_tree w.names) ts)
  all_named [] h = tt
  all_named (t ∷ ts) h = (named_well t h.0, all_named ts h.1)

  -- the written trees
  pub written_well : AllByRecursion Well (trees (steps_in w.items))
  written_well =
      let ts = good_trees Well (after_filling db options w) filled.good in
      let named = all_named (trees (steps_in (after_filling db options w))) ts in
      let there : map (name_tree w.names) (trees (steps_in (after_filling db options w))) ≡ trees (steps_in w.items) =
      sym (trees-moved (name_tree w.names) (steps_in (after_filling db options w)))
      ∙ ap trees (sym (steps-over (move_step (name_tree w.names)) (after_filling db options w)))
      ∙ trees_searched db options w (after_naming db options w) w.items writes.searched in
      subst (AllByRecursion Well) there named

-- ---- the leaves of a text

-- the name of a leaf has a symbol of the database, or is that of a work variable
abbrev IsNamedLeaf : Database → Leaf → Type 0
IsNamedLeaf db (leaf.Const s) = IsKnown db s
IsNamedLeaf db (leaf.Var s c) = IsKnown db s
IsNamedLeaf db (leaf.Work c n) = Unit {0}

module _ (db : Database) (facts : IsDatabase db) (place : ℕ) where
  abbrev AreNamed : List Leaf → Type 0
  AreNamed ls = AllByRecursion (IsNamedLeaf db) ls

  join : (xs ys : List Leaf) → AreNamed xs → AreNamed ys → AreNamed (xs ++ ys)
  join [] ys h k = k
  join (x ∷ xs) ys h k = (h.0, join xs ys h.1 k)

  at_slot : (xss : List (List Leaf)) (k : ℕ) → AllByRecursion AreNamed xss → AreNamed (slice_index_or xss k [])
  at_slot [] k h = tt
  at_slot (xs ∷ xss) zero h = h.0
  at_slot (xs ∷ xss) (suc k) h = at_slot xss k h.1

  constants_known : (vars : List TypedVariable) (is : List Item) → AllByRecursion (IsKnown db) (map (item_symbol vars) is) → (xss : List (List Leaf))
      → AllByRecursion AreNamed xss → AreNamed (items_text xss is)
  constants_known vars [] h xss k = tt
  constants_known vars (slot.Const s ∷ is) h xss k = (h.0, constants_known vars is h.1 xss k)
  constants_known vars (slot.Slot n ∷ is) h xss k = join (slice_index_or xss n []) (items_text xss is) (at_slot xss n k) (constants_known vars is h.1 xss k)

  tail_known : (s : Sym) (ss : List Sym) → AllByRecursion (IsKnown db) (s ∷ ss) → AllByRecursion (IsKnown db) ss
  tail_known s ss h = h.1

  row_known : (l : Label) (r : Production) → row_of db.rows l ≡ Some r → (xss : List (List Leaf)) → AllByRecursion AreNamed xss → AreNamed (items_text xss r.items)
  row_known l r e xss k =
      let f = facts.rows l r e in
      let frame = facts.frames l f.0 f.1 in
      let symbols = subst (AllByRecursion (IsKnown db)) f.2.formula frame.formula.symbols in
      constants_known (typed_variables f.0.hyps) r.items (tail_known r.gives.0 (map (item_symbol (typed_variables f.0.hyps)) r.items) symbols) xss k

  abbrev Told : Tree → Type 0
  Told t = IsTyped db.rows place t → ((x : Sym) → Contains (variables t) x → IsKnown db x) → AreNamed (text db.rows t)

  children : (ts : List Tree) → Each Told ts → Each (IsTyped db.rows place) ts → ((x : Sym) → Contains (flatten (map variables ts)) x → IsKnown db x) → AllByRecursion AreNamed (map (text db.rows) ts)
  children [] h k v = tt
  children (t ∷ ts) h k v = (
    h.0 k.0 (λ x o. v x (Contains-append_left (variables t) (flatten (map variables ts)) x o)),
    children ts h.1 k.1 (λ x o. v x (Contains-append_right (variables t) (flatten (map variables ts)) x o)),
  )

  pub leaves_named : (t : Tree) → Told t
  leaves_named = tree_ind Told
      (λ s c k v. rw text-Var (v s (rw variables-Var (first s s [] refl)), tt))
      (λ c n k v. rw text-Work (tt, tt))
      (λ c n k v. rw text-Fresh tt)
      (λ l c ts h k v.
      let layer = typed_here db.rows place l c ts k in
      subst AreNamed (sym (text-Node db.rows l c ts ∙ ap (row_text (map (text db.rows) ts)) layer.1))
      (row_known l layer.0 layer.1 (map (text db.rows) ts) (children ts h (typed_held db.rows place l c ts k) (λ x o. v x (rw variables-Node o)))))

-- ---- digits

digit_plain : (d : ℕ) → d < 10 → not (is_white (48 + d)) ≡ true
digit_plain zero l = refl
digit_plain (suc zero) l = refl
digit_plain (suc (suc zero)) l = refl
digit_plain (suc (suc (suc zero))) l = refl
digit_plain (suc (suc (suc (suc zero)))) l = refl
digit_plain (suc (suc (suc (suc (suc zero))))) l = refl
digit_plain (suc (suc (suc (suc (suc (suc zero)))))) l = refl
digit_plain (suc (suc (suc (suc (suc (suc (suc zero))))))) l = refl
digit_plain (suc (suc (suc (suc (suc (suc (suc (suc zero)))))))) l = refl
digit_plain (suc (suc (suc (suc (suc (suc (suc (suc (suc zero))))))))) l = refl
digit_plain (suc (suc (suc (suc (suc (suc (suc (suc (suc (suc d)))))))))) l = absurd (omega (arith, l))

pub digit_label : (d : ℕ) → d < 10 → is_label_byte (48 + d) ≡ true
digit_label zero l = refl
digit_label (suc zero) l = refl
digit_label (suc (suc zero)) l = refl
digit_label (suc (suc (suc zero))) l = refl
digit_label (suc (suc (suc (suc zero)))) l = refl
digit_label (suc (suc (suc (suc (suc zero))))) l = refl
digit_label (suc (suc (suc (suc (suc (suc zero)))))) l = refl
digit_label (suc (suc (suc (suc (suc (suc (suc zero))))))) l = refl
digit_label (suc (suc (suc (suc (suc (suc (suc (suc zero)))))))) l = refl
digit_label (suc (suc (suc (suc (suc (suc (suc (suc (suc zero))))))))) l = refl
digit_label (suc (suc (suc (suc (suc (suc (suc (suc (suc (suc d)))))))))) l = absurd (omega (arith, l))

module _ (p : ℕ → Bool) (digit : (d : ℕ) → d < 10 → p (48 + d) ≡ true) where
  glyph_passes : (d : ℕ) → d < 10 → p (digit_glyph false d) ≡ true
  glyph_passes d l = ap (λ b. p (cond b (48 + d) (87 + d))) (lt-ltb d 10 l) ∙ digit d l

  ten : (m : ℕ) → m % 10 < 10
  ten m = omega arith

  glyph_more : (n : ℕ) (acc : List ℕ) → list_all p acc ≡ true → list_all p (digit_glyph false (n % 10) ∷ acc) ≡ true
  glyph_more n acc h = and_from (p (digit_glyph false (n % 10))) (list_all p acc) (glyph_passes (n % 10) (ten n)) h

  either : (b : Bool) (xs ys : List ℕ) → list_all p xs ≡ true → list_all p ys ≡ true → list_all p (cond b xs ys) ≡ true
  either true xs ys h k = h
  either false xs ys h k = k

  onto_passes : (k n : ℕ) (acc : List ℕ) → list_all p acc ≡ true → list_all p (digits_onto k 10 false n acc) ≡ true
  onto_passes zero n acc h = h
  onto_passes (suc k) n acc h =
      either (n / 10 == 0) (digit_glyph false (n % 10) ∷ acc) (digits_onto k 10 false (n / 10) (digit_glyph false (n % 10) ∷ acc)) (glyph_more n acc h)
      (onto_passes k (n / 10) (digit_glyph false (n % 10) ∷ acc) (glyph_more n acc h))

  pub decimal_passes : (n : ℕ) → list_all p (decimal n) ≡ true
  unfolding digits
  decimal_passes n = onto_passes 64 n [] refl

-- ---- tokens

all_joined : {X : Type 0} (p : X → Bool) (xs ys : List X) → list_all p xs ≡ true → list_all p ys ≡ true → list_all p (xs ++ ys) ≡ true
all_joined p [] ys h k = k
all_joined p (x ∷ xs) ys h k = let both = and_parts (p x) (list_all p xs) h in and_from (p x) (list_all p (xs ++ ys)) both.0 (all_joined p xs ys both.1 k)

abbrev pub is_plain : ℕ → Bool
is_plain b = not (is_white b)

abbrev pub IsToken : Name → Type 0
IsToken n = is_token n ≡ true

named_token : (n : Name) → IsSymbolName n → IsToken n
named_token n h = and_from (not (length n == 0)) (list_all is_plain n) (ap not h.some) h.plain

some_bytes : (b : ℕ) (bs : Name) → list_all is_plain (b ∷ bs) ≡ true → IsToken (b ∷ bs)
some_bytes b bs h = and_from (not (length (b ∷ bs) == 0)) (list_all is_plain (b ∷ bs)) (ap not (ne_eqb (suc (length bs)) 0 (λ e. omega (arith, e)))) h

module _ (db : Database) (named : AllByRecursion IsSymbolName db.symbols) where
  symbol_in : (names : List Name) (n : ℕ) → AllByRecursion IsSymbolName names → n < length names → IsSymbolName (slice_index_or names n [])
  symbol_in [] n h l = absurd (omega (arith, l))
  symbol_in (x ∷ xs) zero h l = h.0
  symbol_in (x ∷ xs) (suc n) h l = symbol_in xs n h.1 (omega (arith, l))

  pub symbol_named : (s : Sym) → IsKnown db s → IsSymbolName (symbol_name db s)
  symbol_named s k = symbol_in db.symbols s.0 named k

  plain_in : (names : List Name) (n : ℕ) → AllByRecursion IsSymbolName names → list_all is_plain (slice_index_or names n []) ≡ true
  plain_in [] n h = refl
  plain_in (x ∷ xs) zero h = h.0.plain
  plain_in (x ∷ xs) (suc n) h = plain_in xs n h.1

  prefix_plain : (code : Name) → list_all is_plain code ≡ true → IsToken (prefix_of code)
  prefix_plain code h = by (bytes_eq code (codes "wff")) (bytes_eq code (codes "setvar")) (bytes_eq code (codes "class"))
    where
      last : IsToken (codes "&" ++ code ++ codes ".")
      last = some_bytes 38 (code ++ codes ".") (all_joined is_plain code (codes ".") h refl)

      by : (a b c : Bool) → IsToken (cond a (codes "&W") (cond b (codes "&S") (cond c (codes "&C") (codes "&" ++ code ++ codes "."))))
      by true b c = refl
      by false true c = refl
      by false false true = refl
      by false false false = last

  token_more : (xs ys : Name) → IsToken xs → list_all is_plain ys ≡ true → IsToken (xs ++ ys)
  token_more [] ys h k = absurd (cc)
  token_more (x ∷ xs) ys h k = some_bytes x (xs ++ ys) (all_joined is_plain (x ∷ xs) ys (and_parts (not (length (x ∷ xs) == 0)) (list_all is_plain (x ∷ xs)) h).1 k)

  leaf_token : (l : Leaf) → IsNamedLeaf db l → IsToken (leaf_name db l)
  leaf_token (leaf.Const s) k = named_token (symbol_name db s) (symbol_named s k)
  leaf_token (leaf.Var s c) k = named_token (symbol_name db s) (symbol_named s k)
  leaf_token (leaf.Work c n) k = token_more (prefix_of (symbol_name db c.0)) (decimal n) (prefix_plain (symbol_name db c.0) (plain_in db.symbols c.0.0 named)) (decimal_passes is_plain digit_plain n)

  leaf_tokens : (ls : List Leaf) → AllByRecursion (IsNamedLeaf db) ls → list_all is_token (map (leaf_name db) ls) ≡ true
  leaf_tokens [] h = refl
  leaf_tokens (l ∷ ls) h = and_from (is_token (leaf_name db l)) (list_all is_token (map (leaf_name db) ls)) (leaf_token l h.0) (leaf_tokens ls h.1)

  -- the tokens of a well tree, behind the provable typecode
  pub tokens_written : (facts : IsDatabase db) (place : ℕ) (t : Tree) → IsToken db.provable → IsWell db place t → list_all is_token (formula_tokens db t) ≡ true
  tokens_written facts place t p h =
      and_from (is_token db.provable) (list_all is_token (map (leaf_name db) (text db.rows t))) p (leaf_tokens (text db.rows t) (leaves_named db facts place t h.typed h.known))
