-- The trees of formulas as they were read: their variables are declared at the place.
use Rattle.std.specs.Prelude.{◌≡◌, ◌<◌, ◌==◌, ◌&&◌, ℕ, Bool, true, false, List, [], ◌∷◌, length, filter_map, drop, slice_get, nat_lt, Contains, Option, Some, None, option_map, position, refl}
use Rattle.std.specs.List.{list_any, cons_option}
use Rattle.std.specs.Option.{option_map_or}
use Rattle.std.specs.Str.{bytes_eq}
use Rattle.std.proofs.Common.{sym, ap, subst, ◌∙◌, cond, inl, inr}
use Rattle.std.proofs.lemmas.Bool.{and_parts, and_from, eq-eqb, lt-ltb, ltb-true}
use Rattle.std.proofs.lemmas.Option.{slice_get_within}
use Rattle.mm_base.specs.declared.symbols.Sym.{Sym}
use Rattle.mm_base.specs.declared.symbols.Typecode.{Typecode}
use Rattle.mm_base.specs.declared.tree.Tree.{Tree}
use Rattle.mm_model.specs.declared.rows.Leaf.{Leaf}
use Rattle.mm_model.specs.declared.rows.Leaf.TheVariants as leaf
use Rattle.mm_model.specs.Names.{Name, sym as symbol, symbol_named}
use Rattle.mm_model.specs.Texts.{text}
use Rattle.mm_model.specs.Book.{Database, symbol_of, symbol_name, declared_leaf, float_of}
use Rattle.solve_model.specs.Formulas.{leaf_by, leaf_of, work_of, work_number, work_codes, IsTreeOf}
use Rattle.push_laws.proofs.ActiveHyps.{position_stands}
use Rattle.push_laws.proofs.Entries.{same_symbol}
use Rattle.push_laws.proofs.Lists.{nothing, parted}

pub symbol_stands_at : (names : List Name) (n : Name) (s : Sym) → symbol_named names n ≡ Some s → slice_get names s.0 ≡ Some n
symbol_stands_at names n s e = go (position (bytes_eq n) names) refl e
  where
    number : Option Sym → ℕ
    number None = 0
    number (Some m) = m.0

    go : (o : Option ℕ) → position (bytes_eq n) names ≡ o → option_map symbol o ≡ Some s → slice_get names s.0 ≡ Some n
    go None is i = absurd cc
    go (Some k) is i = let at : k ≡ s.0 = ap number i in subst (λ (j : ℕ). slice_get names j ≡ Some n) at (position_stands names n k is)

-- the variable, with its typecode, is what the database declares at the place
pub record IsDeclared (db : Database) (place : ℕ) (s : Sym) (c : Typecode) : Type 0 where
  pub leaf_is : declared_leaf db place s ≡ Some (leaf.Var s c)
  pub named : s.0 < length db.symbols

abbrev pub same_var : Sym → Typecode → Leaf → Bool
same_var s c (leaf.Const v) = false
same_var s c (leaf.Var v d) = (v.0 == s.0) && (d.0.0 == c.0.0)
same_var s c (leaf.Work d n) = false

abbrev pub is_declared : Database → ℕ → Sym → Typecode → Bool
is_declared db place s c = option_map_or (same_var s c) (declared_leaf db place s) false && nat_lt s.0 (length db.symbols)

pub declared_from : (db : Database) (place : ℕ) (s : Sym) (c : Typecode) → is_declared db place s c ≡ true → IsDeclared db place s c
declared_from db place s c e =
    let two = and_parts (option_map_or (same_var s c) (declared_leaf db place s) false) (nat_lt s.0 (length db.symbols)) e in
    record { leaf_is = go (declared_leaf db place s) two.0; named = ltb-true s.0 (length db.symbols) two.1 }
  where
    of_leaf : (x : Leaf) → same_var s c x ≡ true → x ≡ leaf.Var s c
    of_leaf (leaf.Const v) h = absurd cc
    of_leaf (leaf.Work d n) h = absurd cc
    of_leaf (leaf.Var v d) h =
        let two = and_parts (v.0 == s.0) (d.0.0 == c.0.0) h in
        let one : v ≡ s = same_symbol v s two.0 in
        let code : d.0 ≡ c.0 = same_symbol d.0 c.0 two.1 in
        let type : d ≡ c = ap (λ (x : Sym). let t : Typecode = record { 0 = x } in t) code in
        cc

    go : (o : Option Leaf) → option_map_or (same_var s c) o false ≡ true → o ≡ Some (leaf.Var s c)
    go None h = absurd cc
    go (Some x) h = ap (λ y. Some y) (of_leaf x h)

pub declared_to : (db : Database) (place : ℕ) (s : Sym) (c : Typecode) → IsDeclared db place s c → is_declared db place s c ≡ true
declared_to db place s c d =
    and_from _ _
    (ap (λ o. option_map_or (same_var s c) o false) d.leaf_is
    ∙ and_from (s.0 == s.0) (c.0.0 == c.0.0) (eq-eqb s.0 s.0 refl) (eq-eqb c.0.0 c.0.0 refl))
    (lt-ltb s.0 (length db.symbols) d.named)

module _ {X Y : Type 0} (h : X → Option Y) where
  from_option : (x : X) (o : Option Y) (ys : List Y) (y : Y) → h x ≡ o → Contains (cons_option o ys) y → (Contains ys y → (z : X) × (h z ≡ Some y)) → (z : X) × (h z ≡ Some y)
  from_option x None ys y e c f = f c
  from_option x (Some w) ys y e c f = elim (parted y w ys c) [ inl same ↦ (x, e ∙ ap (λ z. Some z) same) | inr l ↦ f l ]

  pub filter_map_from : (xs : List X) (y : Y) → Contains (filter_map h xs) y → (x : X) × (h x ≡ Some y)
  filter_map_from [] y c = absurd (nothing y c)
  filter_map_from (x ∷ xs) y c = from_option x (h x) (filter_map h xs) y refl c (filter_map_from xs y)

module _ (db : Database) (place : ℕ) where
  work_by : (token : Name) (code : Typecode) (b : Bool) (o : Option ℕ) (x : Leaf) → cond b (option_map (λ n. leaf.Work code n) o) None ≡ Some x → (n : ℕ) × (x ≡ leaf.Work code n)
  work_by token code true None x e = absurd cc
  work_by token code true (Some n) x e = (n, let same : leaf.Work code n ≡ x = cc in sym same)
  work_by token code false o x e = absurd cc

  first_work : (token : Name) (codes : List Typecode) (x : Leaf) → slice_get (filter_map (work_of db token) codes) 0 ≡ Some x → (c : Typecode) × (n : ℕ) × (x ≡ leaf.Work c n)
  first_work token [] x e = absurd cc
  first_work token (c ∷ codes) x e = go (work_of db token c) refl e (first_work token codes x)
    where
      go : (o : Option Leaf) → work_of db token c ≡ o → slice_get (cons_option o (filter_map (work_of db token) codes)) 0 ≡ Some x
          → (slice_get (filter_map (work_of db token) codes) 0 ≡ Some x → (d : Typecode) × (n : ℕ) × (x ≡ leaf.Work d n)) → (d : Typecode) × (n : ℕ) × (x ≡ leaf.Work d n)
      go None i j f = f j
      go (Some y) i j f =
          let w = work_by token c (db.is_constant_at c.0 db.statement_count) (work_number (symbol_name db c.0) token) y i in
          (c, w.0, let same : y ≡ x = cc in sym same ∙ w.1)

  var_is : (s v : Sym) (c : Typecode) (a b : Bool) (o : Option Typecode) → cond a (Some (leaf.Const v)) (cond b (option_map (λ d. leaf.Var v d) o) None) ≡ Some (leaf.Var s c) → v ≡ s
  var_is s v c true b o e = absurd cc
  var_is s v c false true None e = absurd cc
  var_is s v c false true (Some d) e = cc
  var_is s v c false false o e = absurd cc

  -- a token that is a variable is that variable, declared
  token_declared : (token : Name) (s : Sym) (c : Typecode) → leaf_of db place token ≡ Some (leaf.Var s c) → IsDeclared db place s c
  token_declared token s c e = go (symbol_of db token) refl e
    where
      no_work : (d : Typecode) (n : ℕ) → leaf.Var s c ≡ leaf.Work d n → ⊥
      no_work d n i = cc

      go : (o : Option Sym) → symbol_of db token ≡ o → leaf_by db place token o ≡ Some (leaf.Var s c) → IsDeclared db place s c
      go None i j = let w = first_work token (work_codes db place) (leaf.Var s c) j in absurd (no_work w.0 w.1 w.2)
      go (Some v) i j =
          let same : v ≡ s = var_is s v c (db.is_constant_at v place) (list_any (λ (x : Sym). x.0 == v.0) (db.active_at place).variables) (float_of v (db.active_at place).hyps) j in
          record {
            leaf_is = subst (λ x. declared_leaf db place x ≡ Some (leaf.Var s c)) same j;
            named = subst (λ (x : Sym). x.0 < length db.symbols) same (slice_get_within db.symbols v.0 token (symbol_stands_at db.symbols token v i));
          }

  pub read_declared : (tokens : List Name) (t : Tree) → IsTreeOf db place tokens t → (s : Sym) (c : Typecode) → Contains (text db.rows t) (leaf.Var s c) → IsDeclared db place s c
  read_declared tokens t is s c h =
      let token = filter_map_from (leaf_of db place) (drop 1 tokens) (leaf.Var s c) (subst (λ xs. Contains xs (leaf.Var s c)) is.written h) in
      token_declared token.0 s c token.1
