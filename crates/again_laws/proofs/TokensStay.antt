-- A formula whose tokens are all declared is written as it was read.
use Rattle.std.specs.Prelude.{◌≡◌, ◌≤◌, ℕ, zero, suc, true, false, List, [], ◌∷◌, length, map, drop, filter_map, nat_lt, Contains, slice_get, slice_index_or, Option, Some, None, is_some, refl}
use Rattle.std.specs.List.{list_all}
use Rattle.std.specs.Str.{bytes_eq}
use Rattle.std.proofs.Common.{sym, ap, subst, ◌∙◌, arith, inl, inr}
use Rattle.std.proofs.lemmas.Bool.{cases_Bool, and_parts, ltb-true}
use Rattle.std.proofs.lemmas.Bool.Decides.{nat_tests}
use Rattle.std.proofs.lemmas.Slice.Eq.{bytes_eq-Decides}
use Rattle.mm_base.specs.declared.symbols.Sym.{Sym}
use Rattle.mm_base.specs.declared.symbols.Typecode.{Typecode}
use Rattle.mm_base.specs.declared.tree.Tree.{Tree}
use Rattle.mm_base.specs.declared.tree.Tree.TheVariants.{Var}
use Rattle.mm_model.specs.declared.rows.Leaf.{Leaf}
use Rattle.mm_model.specs.declared.rows.Leaf.TheVariants as leaf
use Rattle.mm_model.specs.Names.{Name}
use Rattle.mm_model.specs.Texts.{text}
use Rattle.mm_model.specs.Typed.{IsTyped, HasNoFresh}
use Rattle.mm_model.specs.Book.{Database, symbol_of, symbol_name}
use Rattle.mm_model.specs.BookFacts.{IsDatabase}
use Rattle.sheet_text.specs.declared.sheet.SheetStep.{SheetStep}
use Rattle.sheet_text.specs.Layout.{steps}
use Rattle.sheet_text.specs.Spellable.{is_token}
use Rattle.solve_model.specs.declared.bound.BoundStep.{BoundStep}
use Rattle.solve_model.specs.Trees.{work, fresh, leaf_tree, replace}
use Rattle.solve_model.specs.Bound.{HasTree}
use Rattle.solve_model.specs.BindFaults.{begins_with_token}
use Rattle.solve_model.specs.Binding.{same_tokens, names_of}
use Rattle.solve_model.specs.Formulas.{leaf_of, leaf_by, is_known, expression_of}
use Rattle.solve_model.specs.Solutions.{Valuation, formula, formula_value, open_value}
use Rattle.solve_laws.specs.Instances.{IsClosedTree}
use Rattle.solve_laws.proofs.Elements.{nothing, parted}
use Rattle.solve_laws.proofs.NoFresh.{no_fresh_leaf}
use Rattle.solve_laws.proofs.ReplaceLaws.{replace-agree, replace-self}
use Rattle.written_model.specs.declared.options.Options.{Options}
use Rattle.written_model.specs.WrittenSteps.{WrittenStep}
use Rattle.written_model.specs.Named.{name_leaf, name_tree}
use Rattle.written_model.specs.Written.{Writing, leaf_name, formula_tokens}
use Rattle.again_laws.proofs.Accepted.{tree_at}
use Rattle.again_laws.proofs.Lists.{from_filter_map}
use Rattle.again_laws.proofs.Setting.{Setting}
use Rattle.again_laws.proofs.TextLeaves.{work_shown}
use Rattle.again_laws.proofs.TokenLaws.{symbol_found, declared_no_work, leaf_told}

-- ---- declared tokens

past_name : (names : List Name) (k : ℕ) → length names ≤ k → slice_index_or names k [] ≡ []
past_name [] k l = refl
past_name (n ∷ names) zero l = absurd (omega (arith, l))
past_name (n ∷ names) (suc k) l = past_name names k (omega (arith, l))

abbrev pub IsDeclared : Database → Name → Type 0
IsDeclared db token = (s : Sym) × (symbol_of db token ≡ Some s)

declared_one : (db : Database) → IsDatabase db → (token : Name) (y : Sym) → is_token token ≡ true → token ≡ symbol_name db y → IsDeclared db token
declared_one db facts token y inked e = elim (cases_Bool (nat_lt y.0 (length db.symbols))) [
  | inl d ↦ (y, ap (symbol_of db) e ∙ symbol_found db facts y (ltb-true y.0 (length db.symbols) d))
  | inr d ↦
      let past : length db.symbols ≤ y.0 = grind (arith, nat_tests, d) in
      let none : token ≡ [] = e ∙ past_name db.symbols y.0 past in
      let bad : is_token [] ≡ true = subst (λ t. is_token t ≡ true) none inked in
      absurd (clash bad)
]
  where
    clash : false ≡ true → ⊥
    clash q = cc

-- tokens that are the names of symbols are declared
pub all_declared : (db : Database) → IsDatabase db → (tokens : List Name) (ys : List Sym) → list_all is_token tokens ≡ true
    → same_tokens tokens (names_of db ys) ≡ true → (token : Name) → Contains tokens token → IsDeclared db token
all_declared db facts [] ys inked same token m = absurd (nothing token m)
all_declared db facts (t ∷ tokens) [] inked same token m = absurd (clash same)
  where
    clash : false ≡ true → ⊥
    clash q = cc
all_declared db facts (t ∷ tokens) (y ∷ ys) inked same token m =
    let ink = and_parts (is_token t) (list_all is_token tokens) inked in
    let both = and_parts (bytes_eq t (symbol_name db y)) (same_tokens tokens (names_of db ys)) same in
    elim (parted token t tokens m) [
      | inl e ↦ subst (IsDeclared db) e (declared_one db facts t y ink.0 ((bytes_eq-Decides t (symbol_name db y)).0 both.0))
      | inr k ↦ all_declared db facts tokens ys ink.1 both.1 token k
    ]

-- ---- the tokens of what was read

known_names : (db : Database) (place : ℕ) (tokens : List Name) → list_all (is_known db place) tokens ≡ true → map (leaf_name db) (filter_map (leaf_of db place) tokens) ≡ tokens
known_names db place [] h = refl
known_names db place (t ∷ tokens) h = by (leaf_of db place t) refl (known_names db place tokens (and_parts (is_known db place t) (list_all (is_known db place) tokens) h).1)
  where
    known : is_some (leaf_of db place t) ≡ true
    known = (and_parts (is_known db place t) (list_all (is_known db place) tokens) h).0

    by : (o : Option Leaf) → leaf_of db place t ≡ o → map (leaf_name db) (filter_map (leaf_of db place) tokens) ≡ tokens → map (leaf_name db) (filter_map (leaf_of db place) (t ∷ tokens)) ≡ t ∷ tokens
    by None e rest = let bad : false ≡ true = rw e at known in absurd cc
    by (Some x) e rest = let name = leaf_told db place t x e in rw e (ap (λ n. n ∷ map (leaf_name db) (filter_map (leaf_of db place) tokens)) name ∙ ap (λ ns. t ∷ ns) rest)

pub tokens_back : (db : Database) (place : ℕ) (tokens : List Name) (t : Tree) → (tokens ≡ [] → ⊥) → begins_with_token db.provable tokens ≡ true
    → list_all (is_known db place) tokens ≡ true → text db.rows t ≡ expression_of db place tokens → formula_tokens db t ≡ tokens
tokens_back db place [] t filled provable known e = absurd (filled refl)
tokens_back db place (p ∷ rest) t filled provable known e =
    let first : p ≡ db.provable = (bytes_eq-Decides p db.provable).0 provable in
    let more = (and_parts (is_known db place p) (list_all (is_known db place) rest) known).1 in
    ap (λ xs. db.provable ∷ map (leaf_name db) xs) e ∙ ap (λ ns. db.provable ∷ ns) (known_names db place rest more) ∙ ap (λ n. n ∷ rest) (sym first)

-- ---- a tree without open leaves stays

stays_valued : (v : Valuation) (t : Tree) → IsClosedTree t → replace (λ s c. Var s c) (open_value v) t ≡ t
stays_valued v t closed = replace-agree (λ s c. Var s c) (λ s c. Var s c) (open_value v) leaf_tree (λ s c. refl) t (λ x o. absurd (closed x o)) ∙ replace-self t

module _ (db : Database) (options : Options) (w : Writing) (numbers : List ℕ) (ds : List WrittenStep) (S : Setting db options w numbers ds) where
  abbrev place : ℕ
  place = w.bound.place

  named_stays : (t : Tree) → IsClosedTree t → name_tree w.names t ≡ t
  named_stays t closed = replace-agree (λ s c. Var s c) (λ s c. Var s c) (name_leaf w.names) leaf_tree (λ s c. refl) t (λ x o. absurd (closed x o)) ∙ replace-self t

  no_work : (tokens : List Name) → ((token : Name) → Contains tokens token → IsDeclared db token) → (t : Tree)
      → text db.rows t ≡ expression_of db place tokens → (c : Typecode) (n : ℕ) → Contains (text db.rows t) (leaf.Work c n) → ⊥
  no_work tokens declared t e c n m =
      let r = from_filter_map (leaf_of db place) (drop 1 tokens) (leaf.Work c n) (subst (λ xs. Contains xs (leaf.Work c n)) e m) in
      let d = declared r.0 (dropped tokens r.0 r.1) in
      let is : leaf_by db place r.0 (Some d.0) ≡ Some (leaf.Work c n) = ap (leaf_by db place r.0) (sym d.1) ∙ r.2 in
      declared_no_work db place d.0 c n is
    where
      dropped : (xs : List Name) (x : Name) → Contains (drop 1 xs) x → Contains xs x
      dropped [] x k = k
      dropped (y ∷ xs) x (k, l, q) = (suc k, omega (arith, l), q)

  by_tree : (k : ℕ) (b : BoundStep) → slice_get w.bound.steps k ≡ Some b → (tokens : List Name) → (tokens ≡ [] → ⊥)
      → begins_with_token db.provable tokens ≡ true → list_all (is_known db place) tokens ≡ true
      → ((token : Name) → Contains tokens token → IsDeclared db token) → (o : Option Tree) → HasTree db place tokens o → formula_tokens db (name_tree w.names (formula_value w.value k o)) ≡ tokens
  by_tree k b at tokens filled provable known declared None h = absurd (filled h)
  by_tree k b at tokens filled provable known declared (Some t) h =
      let closed : IsClosedTree t = closed_by t h.parses.typed h.parses.named h.parses.written in
      ap (λ u. formula_tokens db (name_tree w.names u)) (stays_valued w.value t closed) ∙ ap (formula_tokens db) (named_stays t closed)
      ∙ tokens_back db place tokens t filled provable known h.parses.written
    where
      closed_by : (u : Tree) → IsTyped db.rows place u → HasNoFresh u → text db.rows u ≡ expression_of db place tokens → IsClosedTree u
      closed_by u typed_ named_ e (work c n) o = no_work tokens declared u e c n (work_shown db.rows place S.facts.grammar.rows_hold c n u typed_ o)
      closed_by u typed_ named_ e (fresh c n) o = no_fresh_leaf c n u named_ o

  -- a formula whose tokens are those of symbols of the database
  pub tokens_stay : (k : ℕ) (s : SheetStep) → slice_get (steps w.read) k ≡ Some s → (s.formula ≡ [] → ⊥)
      → begins_with_token db.provable s.formula ≡ true → list_all (is_known db place) s.formula ≡ true
      → list_all is_token s.formula ≡ true → (ys : List Sym) → same_tokens s.formula (names_of db ys) ≡ true → formula_tokens db (name_tree w.names (formula w.bound w.value k)) ≡ s.formula
  tokens_stay k s at filled provable known inked ys same =
      let b = S.bound_steps k s at in
      let tree = tree_at db options w numbers ds S k b.0 b.1 in
      ap (λ o. formula_tokens db (name_tree w.names (formula_value w.value k o))) tree
      ∙ by_tree k b.0 b.1 s.formula filled provable known (all_declared db S.facts s.formula ys inked same) b.0.tree b.2.tree
