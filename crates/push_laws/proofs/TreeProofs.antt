-- The proof of a tree pushes its typecode and its text.
use Rattle.std.specs.Prelude.{◌≡◌, ◌<◌, ◌==◌, ℕ, zero, suc, Bool, true, false, not, List, [], ◌∷◌, ◌++◌, length, map, filter, find, flat_map, drop}
use Rattle.std.specs.Prelude.{zip, slice_get, slice_index_or, Contains, nat_lt, Option, Some, None, option_and_then, refl}
use Rattle.std.specs.List.{AllZip, AllByRecursion, list_any}
use Rattle.std.specs.Option.{option_map_or}
use Rattle.std.proofs.Common.{sym, ap, subst, ◌∙◌, cond, arith, inl, inr}
use Rattle.std.proofs.lemmas.Bool.{cases_Bool, lt-ltb, eqb-true, eq-eqb, or_left, or_right, and_from}
use Rattle.std.proofs.lemmas.Option.{slice_get_within}
use Rattle.std.proofs.lemmas.Grind.{flat_map-append}
use Rattle.std.proofs.lemmas.Slice.Eq.{bytes_eq-Decides}
use Rattle.std.proofs.lemmas.List.{length-map}
use Rattle.std.proofs.lemmas.List.Elements.{Contains-append_left, Contains-append_right}
use Rattle.mm_base.specs.declared.symbols.Sym.{Sym}
use Rattle.mm_base.specs.declared.symbols.Label.{Label}
use Rattle.mm_base.specs.declared.symbols.Typecode.{Typecode}
use Rattle.mm_base.specs.declared.tree.Tree.{Tree}
use Rattle.mm_base.specs.declared.tree.Tree.TheVariants.{Var, Node}
use Rattle.mm_base.specs.Trees.{code_of, Each}
use Rattle.mm_base.proofs.TreeInduction.{tree_ind}
use Rattle.mm_model.specs.declared.frames.Hyp.{Hyp}
use Rattle.mm_model.specs.declared.frames.Frame.{Frame}
use Rattle.mm_model.specs.declared.rows.Item.{Item}
use Rattle.mm_model.specs.declared.rows.Item.TheVariants as slot
use Rattle.mm_model.specs.declared.rows.Leaf.{Leaf}
use Rattle.mm_model.specs.declared.rows.Leaf.TheVariants as leaf
use Rattle.mm_model.specs.declared.rows.Production.{Production}
use Rattle.mm_model.specs.Names.{Name}
use Rattle.mm_model.specs.Rows.{slot_order, place_of, EachOnce}
use Rattle.mm_model.specs.Texts.{text, row_of, row_text, item_text, items_text}
use Rattle.mm_model.specs.Typed.{IsTyped}
use Rattle.mm_model.specs.Productions.{TypedVariable, typed_variables}
use Rattle.mm_model.specs.Book.{Database, label_name}
use Rattle.mm_model.specs.BookFacts.{IsRowFrame, item_symbol, float_formula}
use Rattle.mm_model.proofs.TextLaws.{text-Var, text-Node}
use Rattle.mm_model.proofs.TypedLaws.{code-Var, code-Node, typed_here, typed_held}
use Rattle.mm_model.proofs.RowLaws.{row_stands, is_row}
use Rattle.mm_model.proofs.NameLaws.{label_back}
use Rattle.proof_model.specs.declared.theorem.Theorem.{Theorem}
use Rattle.proof_model.specs.Machine.{Formula, Entry, is_float_of, substitute, substituted, entries_fault, shared_fault, distinct_fault}
use Rattle.proof_model.specs.Proofs.{Proof, by, none, proofs}
use Rattle.solve_model.specs.Trees.{open_leaves, flatten, work, fresh}
use Rattle.solve_model.proofs.TreeLaws.{open_leaves-Work, open_leaves-Fresh, open_leaves-Node}
use Rattle.written_model.specs.ProofTrees.{syntax_proof, float_label}
use Rattle.written_model.specs.ProofsPush.{leaf_symbols, tree_formula, HasFloats, AreApart}
use Rattle.written_model.specs.Written.{frames_of}
use Rattle.written_model.proofs.SyntaxProofs.{syntax-Var, syntax-Node}
use Rattle.push_laws.proofs.Entries.{IsTaken, IsEssentialTaken, substitute-float, substitute-other, no_type_fault, no_hyp_fault, no_entries_fault}
use Rattle.push_laws.proofs.Facts.{IsBook, ItemIsApart}
use Rattle.push_laws.proofs.Lists.{first, later, append_none, get_contains, get_within, index_get, map_get, get_mapped, zip_get, zip_length}
use Rattle.push_laws.proofs.Runs.{IsProofOf, hyp_proof, frame_proof, is_named}
use Rattle.push_laws.proofs.Values.{beside, all_beside}

-- the symbols of a tree's text
abbrev pub tree_symbols : Database → Tree → Formula
tree_symbols db t = flat_map leaf_symbols (text db.rows t)

-- ---- the slots of a row

abbrev IsWithin : ℕ → Item → Type 0
IsWithin n (slot.Const s) = Unit {0}
IsWithin n (slot.Slot k) = k < n

slots_within : (n : ℕ) (items : List Item) → ((j : ℕ) → j < length (slot_order items) → slice_index_or (slot_order items) j 0 < n) → AllByRecursion (IsWithin n) items
slots_within n [] f = tt
slots_within n (slot.Const s ∷ items) f = (tt, slots_within n items f)
slots_within n (slot.Slot k ∷ items) f = (f 0 (omega arith), slots_within n items (λ j l. f (suc j) (omega (arith, l))))

-- the text of a child stands in the text of its row
slot_text : (xs : List (List Leaf)) (k : ℕ) (x : Leaf) (items : List Item) → place_of k (slot_order items) < length (slot_order items)
    → Contains (slice_index_or xs k []) x → Contains (items_text xs items) x
slot_text xs k x [] l h = let bad : ⊥ = omega (arith, l) in absurd bad
slot_text xs k x (slot.Const s ∷ items) l h = later x (leaf.Const s) (items_text xs items) (slot_text xs k x items l h)
slot_text xs k x (slot.Slot j ∷ items) l h = go (k == j) refl (λ m. slot_text xs k x items m h) l
  where
    go : (b : Bool) → (k == j) ≡ b → (place_of k (slot_order items) < length (slot_order items) → Contains (items_text xs items) x)
        → cond b 0 (suc (place_of k (slot_order items))) < suc (length (slot_order items)) → Contains (slice_index_or xs j [] ++ items_text xs items) x
    go true e f m = Contains-append_left (slice_index_or xs j []) (items_text xs items) x (subst (λ (i : ℕ). Contains (slice_index_or xs i []) x) (eqb-true k j e) h)
    go false e f m = Contains-append_right (slice_index_or xs j []) (items_text xs items) x (f (omega (arith, m)))

-- ---- the text of a row, substituted

module _ (db : Database) (vars : List TypedVariable) (ts : List Tree) (entries : List Entry) where
  abbrev texts : List (List Leaf)
  texts = map (text db.rows) ts

  abbrev Stands : Item → Type 0
  Stands i = substitute entries (item_symbol vars i) ≡ flat_map leaf_symbols (item_text texts i)

  row_symbols : (items : List Item) → AllByRecursion Stands items → flat_map (substitute entries) (map (item_symbol vars) items) ≡ flat_map leaf_symbols (items_text texts items)
  row_symbols [] h = refl
  row_symbols (i ∷ items) h =
      ap (λ (xs : List Sym). xs ++ flat_map (substitute entries) (map (item_symbol vars) items)) h.0
      ∙ ap (λ (xs : List Sym). flat_map leaf_symbols (item_text texts i) ++ xs) (row_symbols items h.1)
      ∙ sym (flat_map-append leaf_symbols (item_text texts i) (items_text texts items))

-- ---- the `$f` of a row's frame

module _ (db : Database) (value : Sym → Formula) where
  taken_here : (h : Hyp) (v : TypedVariable) (t : Tree) → h.formula ≡ float_formula v → code_of t ≡ v.code → value v.sym ≡ tree_symbols db t → IsTaken value h (tree_formula db t)
  taken_here h v t e c is f = record {
    code = v.code.0;
    variable = v.sym;
    formula = e;
    taken = ap (λ (d : Typecode). d.0 ∷ tree_symbols db t) c ∙ ap (λ (ss : Formula). v.code.0 ∷ ss) (sym is);
  }

  pub all_taken : (hs : List Hyp) (vars : List TypedVariable) (ts : List Tree) → map (λ (h : Hyp). h.formula) hs ≡ map float_formula vars
      → map code_of ts ≡ map (λ (v : TypedVariable). v.code) vars → AllZip (λ v t. value v.sym ≡ tree_symbols db t) vars ts → AllZip (IsTaken value) hs (map (tree_formula db) ts)
  all_taken [] [] [] e c a = tt
  all_taken [] [] (t ∷ ts) e c a = absurd a
  all_taken [] (v ∷ vars) ts e c a = absurd cc
  all_taken (h ∷ hs) [] ts e c a = absurd cc
  all_taken (h ∷ hs) (v ∷ vars) [] e c a = absurd a
  all_taken (h ∷ hs) (v ∷ vars) (t ∷ ts) e c a =
      let formula : h.formula ≡ float_formula v = cc in
      let formulas : map (λ (x : Hyp). x.formula) hs ≡ map float_formula vars = cc in
      let code : code_of t ≡ v.code = cc in
      let codes : map code_of ts ≡ map (λ (x : TypedVariable). x.code) vars = cc in
      (taken_here h v t formula code a.0, all_taken hs vars ts formulas codes a.1)

slot_symbol : (vars : List TypedVariable) (k : ℕ) (v : TypedVariable) → slice_get vars k ≡ Some v → item_symbol vars (slot.Slot k) ≡ v.sym
slot_symbol vars k v e = rw e refl

float_at : (hs : List Hyp) (k : ℕ) (h : Hyp) → filter (λ (x : Hyp). not x.floating) hs ≡ [] → slice_get hs k ≡ Some h → h.floating ≡ true
float_at [] k h e i = absurd cc
float_at (x ∷ hs) k h e i = go x.floating refl (λ d j i. float_at hs j h d i) e k i
  where
    go : (b : Bool) → x.floating ≡ b → (filter (λ (y : Hyp). not y.floating) hs ≡ [] → (j : ℕ) → slice_get hs j ≡ Some h → h.floating ≡ true)
        → cond (not b) (x ∷ filter (λ (y : Hyp). not y.floating) hs) (filter (λ (y : Hyp). not y.floating) hs) ≡ [] → (k : ℕ)
        → slice_get (x ∷ hs) k ≡ Some h → h.floating ≡ true
    go false is f d k i = absurd cc
    go true is f d zero i = let same : x ≡ h = cc in subst (λ (y : Hyp). y.floating ≡ true) same is
    go true is f d (suc k) i = f d k i

pub any_at : {X : Type 0} (p : X → Bool) (xs : List X) (k : ℕ) (x : X) → slice_get xs k ≡ Some x → p x ≡ true → list_any p xs ≡ true
any_at p [] k x e h = absurd cc
any_at p (y ∷ xs) zero x e h = let same : y ≡ x = cc in or_left (p y) (list_any p xs) (ap p same ∙ h)
any_at p (y ∷ xs) (suc k) x e h = or_right (p y) (list_any p xs) (any_at p xs k x e h)

pub is_its_float : (h : Hyp) (c v : Sym) → h.floating ≡ true → h.formula ≡ c ∷ v ∷ [] → is_float_of v h ≡ true
is_its_float h c v f e = and_from h.floating (list_any (λ (w : Sym). w.0 == v.0) (drop 1 h.formula)) f
    (ap (λ (g : Formula). list_any (λ (w : Sym). w.0 == v.0) (drop 1 g)) e ∙ or_left (v.0 == v.0) false (eq-eqb v.0 v.0 refl))

float_stands : (hs : List Hyp) (vars : List TypedVariable) (k : ℕ) (v : TypedVariable) → filter (λ (h : Hyp). not h.floating) hs ≡ [] → map (λ (h : Hyp). h.formula) hs ≡ map float_formula vars
    → slice_get vars k ≡ Some v → list_any (is_float_of v.sym) hs ≡ true
float_stands hs vars k v none_else formulas e =
    let h = get_mapped (λ (x : Hyp). x.formula) hs k (float_formula v) (ap (λ fs. slice_get fs k) formulas ∙ map_get float_formula vars k v e) in
    any_at (is_float_of v.sym) hs k h.0 h.1 (is_its_float h.0 v.code.0 v.sym (float_at hs k h.0 none_else h.1) h.2)

get_length : {X : Type 0} (xs : List X) (k : ℕ) (x : X) → slice_get xs k ≡ Some x → k < length xs
get_length xs k x e = slice_get_within xs k x e

no_essential : (entries : List Entry) (hs : List Hyp) (fs : List Formula) → filter (λ (h : Hyp). not h.floating) hs ≡ [] → length hs ≡ length fs → AllZip (IsEssentialTaken entries) hs fs
no_essential entries [] [] e l = tt
no_essential entries [] (f ∷ fs) e l = let bad : ⊥ = omega (arith, l) in absurd bad
no_essential entries (h ∷ hs) [] e l = let bad : ⊥ = omega (arith, l) in absurd bad
no_essential entries (h ∷ hs) (f ∷ fs) e l = go h.floating refl (λ k. no_essential entries hs fs k (omega (arith, l))) e
  where
    go : (b : Bool) → h.floating ≡ b → (filter (λ (x : Hyp). not x.floating) hs ≡ [] → AllZip (IsEssentialTaken entries) hs fs)
        → cond (not b) (h ∷ filter (λ (x : Hyp). not x.floating) hs) (filter (λ (x : Hyp). not x.floating) hs) ≡ []
        → AllZip (IsEssentialTaken entries) (h ∷ hs) (f ∷ fs)
    go true is r k = ((λ no_float. let bad : true ≡ false = sym is ∙ no_float in absurd cc), r k)
    go false is r k = absurd cc

-- ---- a tree

module _ (db : Database) (book : IsBook db) (thm : Theorem) (apart : AreApart db thm.hyps) where
  abbrev The : Proof → Formula → Type 0
  The p f = IsProofOf (frames_of db) thm p f

  -- a label of an assertion names no hypothesis
  pub not_named : (name : Name) (f : Frame) → frames_of db name ≡ Some f → find (is_named name) thm.hyps ≡ None
  not_named name f is = none_by thm.hyps (λ h c. apart h c)
    where
      none_by : (hs : List Hyp) → ((h : Hyp) → Contains hs h → frames_of db h.name ≡ None) → find (is_named name) hs ≡ None
      none_by [] a = refl
      none_by (h ∷ hs) a = elim (cases_Bool (is_named name h)) [
        | inl d ↦
            let same : h.name ≡ name = (bytes_eq-Decides h.name name).0 d in
            let bad : Some f ≡ None = sym is ∙ ap (frames_of db) (sym same) ∙ a h (first h h hs refl) in
            absurd cc
        | inr d ↦ ap (λ (b : Bool). cond b (Some h) (find (is_named name) hs)) d ∙ none_by hs (λ x c. a x (later x h hs c))
      ]

  -- the frame of a label, by its name
  pub frame_by_name : (l : Label) (f : Frame) → db.frame l ≡ Some f → frames_of db (label_name db l) ≡ Some f
  frame_by_name l f e = ap (option_and_then db.frame) (label_back db.labels book.facts.labels l.0 (book.within l f e)) ∙ e

  pub label_stands : (l : Label) (f : Frame) → db.frame l ≡ Some f → Contains db.labels (label_name db l)
  label_stands l f e = let x = get_within db.labels l.0 (book.within l f e) in
      subst (Contains db.labels) (sym (index_get db.labels l.0 [] x.0 x.1)) (get_contains db.labels l.0 x.0 x.1)

  var_proof : (s : Sym) (c : Typecode) → HasFloats db thm.hyps (Var s c) → The (syntax_proof db thm.hyps (Var s c)) (tree_formula db (Var s c))
  var_proof s c floats =
      let h = floats s c (subst (λ xs. Contains xs (leaf.Var s c)) (sym (text-Var db.rows s c)) (first (leaf.Var s c) (leaf.Var s c) [] refl)) in
      let label : float_label thm.hyps s ≡ h.hyp.name = ap (λ (o : Option Hyp). option_map_or (λ (x : Hyp). x.name) o []) h.is_float in
      let formula : h.hyp.formula ≡ tree_formula db (Var s c) =
      h.formula ∙ ap (λ (d : Typecode). d.0 ∷ s ∷ []) (sym (code-Var s c))
      ∙ ap (λ xs. (code_of (Var s c)).0 ∷ flat_map leaf_symbols xs) (sym (text-Var db.rows s c)) in
      subst (λ p. The p (tree_formula db (Var s c))) (sym (syntax-Var db thm.hyps s c ∙ ap (λ (n : Name). by n none) label))
      (subst (The (by h.hyp.name none)) formula (hyp_proof (frames_of db) thm h.hyp.name h.hyp h.named h.no_gap))

  abbrev Holds : Tree → Type 0
  Holds t = IsTyped db.rows thm.at t → open_leaves t ≡ [] → HasFloats db thm.hyps t → The (syntax_proof db thm.hyps t) (tree_formula db t)

  all_hold : (ts : List Tree) → Each Holds ts → Each (IsTyped db.rows thm.at) ts → flatten (map open_leaves ts) ≡ [] → ((k : ℕ) (t : Tree) → slice_get ts k ≡ Some t → HasFloats db thm.hyps t)
      → AllZip The (map (syntax_proof db thm.hyps) ts) (map (tree_formula db) ts)
  all_hold [] h typed closed floats = tt
  all_hold (t ∷ ts) h typed closed floats =
      let two = append_none (open_leaves t) (flatten (map open_leaves ts)) closed in
      (h.0 typed.0 two.0 (floats 0 t refl), all_hold ts h.1 typed.1 two.1 (λ k u e. floats (suc k) u e))

  module _ (l : Label) (c : Typecode) (ts : List Tree) (r : Production) (row : row_of db.rows l ≡ Some r) (f : Frame) (frame : db.frame l ≡ Some f) (is : IsRowFrame r f) (gives : r.gives ≡ c)
      (slots : map code_of ts ≡ r.slots) where
    abbrev vars : List TypedVariable
    vars = typed_variables f.hyps

    abbrev value : Sym → Formula
    value = beside (tree_symbols db) [] (zip vars ts)

    abbrev entries : List Entry
    entries = zip f.hyps (map (tree_formula db) ts)

    each_once : EachOnce (length r.slots) (slot_order r.items)
    each_once = let s = row_stands db.rows l r row in (is_row db.rows book.facts.grammar.rows_hold s.place r s.stands).each_once

    count : length vars ≡ length ts
    count =
        let a : length (map code_of ts) ≡ length r.slots = ap (λ xs. length xs) slots in
        let b : length r.slots ≡ length (map (λ (v : TypedVariable). v.code) vars) = ap (λ xs. length xs) is.slots in
        sym (length-map vars (λ (v : TypedVariable). v.code)) ∙ sym b ∙ sym a ∙ length-map ts code_of

    values : AllZip (λ v t. value v.sym ≡ tree_symbols db t) vars ts
    values = all_beside (tree_symbols db) [] vars ts (book.facts.frames l f frame).variables count

    taken : AllZip (IsTaken value) f.hyps (map (tree_formula db) ts)
    taken = all_taken db value f.hyps vars ts is.hyps (slots ∙ is.slots) values

    long : length f.hyps ≡ length (map (tree_formula db) ts)
    long = zip_length (IsTaken value) f.hyps (map (tree_formula db) ts) taken

    stands : (i : Item) → IsWithin (length r.slots) i → ItemIsApart db f i → substitute entries (item_symbol vars i) ≡ flat_map leaf_symbols (item_text (map (text db.rows) ts) i)
    stands (slot.Const s) w a = substitute-other value s f.hyps (map (tree_formula db) ts) taken a.1
    stands (slot.Slot k) w a =
        let short : k < length vars = omega (arith, w, ap (λ xs. length xs) is.slots, length-map vars (λ (v : TypedVariable). v.code)) in
        let v = get_within vars k short in
        let t = zip_get (λ v t. value v.sym ≡ tree_symbols db t) vars ts k v.0 values v.1 in
        ap (substitute entries) (slot_symbol vars k v.0 v.1)
        ∙ substitute-float value v.0.sym f.hyps (map (tree_formula db) ts) taken (float_stands f.hyps vars k v.0 is.all_float is.hyps v.1)
        ∙ t.2 ∙ sym (ap (flat_map leaf_symbols) (index_get (map (text db.rows) ts) k [] (text db.rows t.0) (map_get (text db.rows) ts k t.0 t.1)))

    all_stand : (items : List Item) → AllByRecursion (IsWithin (length r.slots)) items → AllByRecursion (ItemIsApart db f) items → AllByRecursion (Stands db vars ts entries) items
    all_stand [] w a = tt
    all_stand (i ∷ items) w a = (stands i w.0 a.0, all_stand items w.1 a.1)

    -- what the row's frame makes of its children
    formula_is : substituted entries f.formula ≡ tree_formula db (Node l c ts)
    formula_is =
        let gap = book.rows_apart l r f row frame in
        ap (substituted entries) is.formula
        ∙ ap (λ (ss : Formula). ss ++ flat_map (substitute entries) (map (item_symbol vars) r.items)) (substitute-other value r.gives.0 f.hyps (map (tree_formula db) ts) taken gap.gives)
        ∙ ap (λ (ss : Formula). r.gives.0 ∷ ss) (row_symbols db vars ts entries r.items (all_stand r.items (slots_within (length r.slots) r.items each_once.within) gap.items))
        ∙ ap (λ (d : Typecode). d.0 ∷ flat_map leaf_symbols (items_text (map (text db.rows) ts) r.items)) (gives ∙ sym (code-Node l c ts))
        ∙ ap (λ (xs : List Leaf). (code_of (Node l c ts)).0 ∷ flat_map leaf_symbols xs) (sym (text-Node db.rows l c ts ∙ ap (row_text (map (text db.rows) ts)) row))

    no_fault : entries_fault thm f entries ≡ None
    no_fault = no_entries_fault thm f entries (no_type_fault value f.hyps (map (tree_formula db) ts) taken)
        (no_hyp_fault f.hyps (map (tree_formula db) ts) (no_essential entries f.hyps (map (tree_formula db) ts) is.all_float long))
        (ap (shared_fault thm entries) is.no_pairs) (ap (distinct_fault thm entries) is.no_pairs)

    -- a child's text stands in the node's
    pub child_text : (k : ℕ) (t : Tree) (x : Leaf) → slice_get ts k ≡ Some t → Contains (text db.rows t) x → Contains (text db.rows (Node l c ts)) x
    child_text k t x e h =
        let short : k < length r.slots = omega (arith, get_length ts k t e, ap (λ xs. length xs) slots, length-map ts code_of) in
        let child : slice_index_or (map (text db.rows) ts) k [] ≡ text db.rows t = index_get (map (text db.rows) ts) k [] (text db.rows t) (map_get (text db.rows) ts k t e) in
        subst (λ xs. Contains xs x) (sym (text-Node db.rows l c ts ∙ ap (row_text (map (text db.rows) ts)) row))
        (slot_text (map (text db.rows) ts) k x r.items (each_once.found k short) (subst (λ xs. Contains xs x) (sym child) h))

    -- and its variables are the node's
    pub child_floats : HasFloats db thm.hyps (Node l c ts) → (k : ℕ) (t : Tree) → slice_get ts k ≡ Some t → HasFloats db thm.hyps t
    child_floats floats k t e s d h = floats s d (child_text k t (leaf.Var s d) e h)

    node_proof : r.at < thm.at → Each Holds ts → Each (IsTyped db.rows thm.at) ts → open_leaves (Node l c ts) ≡ [] → HasFloats db thm.hyps (Node l c ts)
        → The (syntax_proof db thm.hyps (Node l c ts)) (tree_formula db (Node l c ts))
    node_proof before h typed closed floats =
        let name = label_name db l in
        let by_name = frame_by_name l f frame in
        let earlier : nat_lt f.at thm.at ≡ true = lt-ltb f.at thm.at (subst (λ (n : ℕ). n < thm.at) (sym is.at) before) in
        let below = all_hold ts h typed (sym (open_leaves-Node l c ts) ∙ closed) (child_floats floats) in
        subst (λ p. The p (tree_formula db (Node l c ts))) (sym (syntax-Node db thm.hyps l c ts))
        (subst (The (by name (proofs (map (syntax_proof db thm.hyps) ts)))) formula_is
        (frame_proof (frames_of db) thm name f (map (syntax_proof db thm.hyps) ts) (map (tree_formula db) ts) below (not_named name f by_name) by_name earlier (sym long) no_fault
        (book.plain name (label_stands l f frame))))

  -- a typed tree without open leaves
  pub tree_proof : (t : Tree) → Holds t
  tree_proof = tree_ind Holds
      (λ s c typed closed floats. var_proof s c floats)
      (λ c n typed closed floats. let bad : work c n ∷ [] ≡ [] = sym (open_leaves-Work c n) ∙ closed in absurd cc)
      (λ c n typed closed floats. let bad : fresh c n ∷ [] ≡ [] = sym (open_leaves-Fresh c n) ∙ closed in absurd cc)
      (λ l c ts h typed closed floats.
      let here = typed_here db.rows thm.at l c ts typed in
      let frame = book.facts.rows l here.0 here.1 in
      node_proof l c ts here.0 here.1 frame.0 frame.1 frame.2 here.3 here.4 here.2 h (typed_held db.rows thm.at l c ts typed) closed floats)
