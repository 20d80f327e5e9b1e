-- A symbol that is declared at a place is meant there, by its name.
use Rattle.std.specs.Prelude.{◌≡◌, ◌<◌, ◌==◌, ◌&&◌, ℕ, Bool, true, false, List, [], ◌∷◌, length, map, filter, find, reverse, Option, Some, None, option_map, codes, refl}
use Rattle.std.specs.List.{list_any, position_or_len}
use Rattle.std.specs.Str.{bytes_eq}
use Rattle.std.proofs.Common.{sym, ap, subst, ◌∙◌, cond, get_or, inl, inr}
use Rattle.std.proofs.lemmas.Bool.{cases_Bool, and_from, and_parts, or_cases, or_left, or_right, eqb-true}
use Rattle.std.proofs.lemmas.List.Sums.{passes_at_first}
use Rattle.mm_base.specs.declared.symbols.Sym.{Sym}
use Rattle.mm_base.specs.declared.symbols.Typecode.{Typecode}
use Rattle.mm_base.specs.declared.kinds.Kinds.{Kinds}
use Rattle.mm_model.specs.declared.frames.Hyp.{Hyp}
use Rattle.mm_model.specs.declared.rows.Leaf.TheVariants as leaf
use Rattle.mm_model.specs.Names.{Name, contains}
use Rattle.mm_model.specs.Statements.{Statement, statements, constants, variables, typed, active, symbols_in, second, with_keyword}
use Rattle.mm_model.specs.Frames.{symbols, symbol_in, below, hypothesis_of, is_hypothesis, formula_of}
use Rattle.mm_model.specs.Productions.{TypedVariable, typed_by, typed_variables, floats}
use Rattle.mm_model.specs.Book.{Database, IsDatabaseOf, symbol_name, declared_leaf, float_of}
use Rattle.model_laws.proofs.FrameFacts.{is_float, filter-map}
use Rattle.model_laws.proofs.Listed.{same_names, name_self}
use Rattle.model_laws.proofs.Passing.{any-filter, any_kept, any-with, any-map, any-flat, any-reverse}
use Rattle.push_laws.proofs.Lists.{any_contains}
use Rattle.installed_laws.specs.CanBePutIn.{is_meant}

-- what passes is found
found_any : {X Y : Type 0} (p : X → Bool) (f : X → Y) (xs : List X) (y : Y) → option_map f (find p xs) ≡ Some y → list_any p xs ≡ true
found_any p f [] y e = absurd cc
found_any p f (x ∷ xs) y e = elim (cases_Bool (p x)) [
  | inl d ↦ or_left (p x) (list_any p xs) d
  | inr d ↦ or_right (p x) (list_any p xs) (found_any p f xs y (subst (λ (b : Bool). option_map f (cond b (Some x) (find p xs)) ≡ Some y) d e))
]

module _ (kinds : Kinds) (text : List ℕ) (db : Database) (is : IsDatabaseOf kinds text db) (place : ℕ) where
  abbrev pub ss : List Statement
  ss = statements text

  abbrev pub before : List Statement
  before = below ss place

  abbrev names : List Name
  names = symbols ss

  -- the name with a symbol's number is its name
  number_name : (m : Name) (s : Sym) → s.0 < length db.symbols → (symbol_in names m).0 ≡ s.0 → m ≡ symbol_name db s
  number_name m s less same =
      let within : s.0 < length names = subst (λ ns. s.0 < length ns) is.symbols less in
      let first : position_or_len (bytes_eq m) names < length names = subst (λ k. k < length names) (sym same) within in
      same_names m (get_or names (position_or_len (bytes_eq m) names) []) (passes_at_first (bytes_eq m) names [] first)
      ∙ ap (λ (k : ℕ). get_or names k []) same ∙ ap (λ ns. get_or ns s.0 []) (sym is.symbols)

  pub constant_meant : (s : Sym) → db.is_constant_at s place ≡ true → contains (constants before) (symbol_name db s) ≡ true
  constant_meant s c = ap (λ ns. contains (constants before) (get_or ns s.0 [])) is.symbols ∙ sym (is.is_constant_at s place) ∙ c

  pub variable_meant : (s : Sym) → s.0 < length db.symbols → list_any (λ (v : Sym). v.0 == s.0) (db.active_at place).variables ≡ true → contains (variables before) (symbol_name db s) ≡ true
  variable_meant s less v =
      let there : list_any (λ (m : Name). (symbol_in names m).0 == s.0) (filter (contains (variables before)) names) ≡ true =
      sym (any-map (λ (x : Sym). x.0 == s.0) (symbol_in names) (filter (contains (variables before)) names))
      ∙ ap (λ a. list_any (λ (x : Sym). x.0 == s.0) a.variables) (sym (is.active_at place)) ∙ v in
      let m = any_contains (λ (m : Name). contains (variables before) m && ((symbol_in names m).0 == s.0)) names
      (any-filter (λ (m : Name). (symbol_in names m).0 == s.0) (contains (variables before)) names there) in
      let two = and_parts (contains (variables before) m.0) ((symbol_in names m.0).0 == s.0) m.2 in
      subst (λ x. contains (variables before) x ≡ true) (number_name m.0 s less (eqb-true (symbol_in names m.0).0 s.0 two.1)) two.0

  abbrev is_of : Sym → TypedVariable → Bool
  is_of s v = v.sym.0 == s.0

  second_named : (s : Sym) (ns : List Name) → s.0 < length db.symbols → list_any (is_of s) (typed_by (map (symbol_in names) ns)) ≡ true → contains (second ns) (symbol_name db s) ≡ true
  second_named s [] less h = absurd cc
  second_named s (a ∷ []) less h = absurd cc
  second_named s (a ∷ v ∷ more) less h = elim (or_cases ((symbol_in names v).0 == s.0) false h) [
    | inl d ↦
        let same = number_name v s less (eqb-true (symbol_in names v).0 s.0 d) in
        or_left (bytes_eq (symbol_name db s) v) false (subst (λ n. bytes_eq n v ≡ true) same (name_self v))
    | inr d ↦ let bad : false ≡ true = d in absurd cc
  ]

  abbrev types : Statement → List Name
  types x = second (symbols_in x)

  pub typed_meant : (s : Sym) (c : Typecode) → s.0 < length db.symbols → float_of s (db.active_at place).hyps ≡ Some c → contains (typed before) (symbol_name db s) ≡ true
  typed_meant s c less f =
      let hs = filter is_hypothesis (reverse (active before)) in
      let n = symbol_name db s in
      let own : list_any (is_of s) (typed_variables (map (hypothesis_of names) hs)) ≡ true =
      found_any (is_of s) (λ (v : TypedVariable). v.code) (typed_variables (map (hypothesis_of names) hs)) c (ap (λ a. float_of s a.hyps) (sym (is.active_at place)) ∙ f) in
      let made : list_any (λ (x : Statement). list_any (is_of s) (typed_by (formula_of names x))) (filter is_float hs) ≡ true =
      sym (any-map (λ (x : Hyp). list_any (is_of s) (typed_by x.formula)) (hypothesis_of names) (filter is_float hs))
      ∙ ap (list_any (λ (x : Hyp). list_any (is_of s) (typed_by x.formula))) (sym (filter-map (λ (x : Hyp). x.floating) (hypothesis_of names) hs))
      ∙ sym (any-flat (is_of s) (λ (x : Hyp). typed_by x.formula) (floats (map (hypothesis_of names) hs))) ∙ own in
      let told : list_any (λ x. contains (types x) n) (filter is_float hs) ≡ true =
      any-with (λ (x : Statement). list_any (is_of s) (typed_by (formula_of names x))) (λ x. contains (types x) n) (λ x d. second_named s (symbols_in x) less d) (filter is_float hs) made in
      let marked = any-filter (λ x. is_float x && contains (types x) n) is_hypothesis (reverse (active before)) (any-filter (λ x. contains (types x) n) is_float hs told) in
      let kept : list_any (λ x. is_float x && contains (types x) n) (reverse (active before)) ≡ true =
      any-with (λ x. is_hypothesis x && (is_float x && contains (types x) n)) (λ x. is_float x && contains (types x) n)
      (λ x d. (and_parts (is_hypothesis x) (is_float x && contains (types x) n) d).1) (reverse (active before)) marked in
      any-flat (bytes_eq n) types (with_keyword (codes "$f") (active before))
      ∙ any_kept (λ x. contains (types x) n) is_float (active before) (any-reverse (λ x. is_float x && contains (types x) n) (active before) kept)

  pub constant_is_meant : (s : Sym) → db.is_constant_at s place ≡ true → is_meant before (symbol_name db s) ≡ true
  constant_is_meant s c = or_left _ _ (constant_meant s c)

  -- a variable that is a leaf of a formula
  pub variable_is_meant : (s : Sym) (c : Typecode) → s.0 < length db.symbols → declared_leaf db place s ≡ Some (leaf.Var s c) → is_meant before (symbol_name db s) ≡ true
  variable_is_meant s c less e =
      by (db.is_constant_at s place) (list_any (λ (v : Sym). v.0 == s.0) (db.active_at place).variables) (float_of s (db.active_at place).hyps) refl refl e
    where
      by : (a b : Bool) (o : Option Typecode) → list_any (λ (v : Sym). v.0 == s.0) (db.active_at place).variables ≡ b → float_of s (db.active_at place).hyps ≡ o
          → cond a (Some (leaf.Const s)) (cond b (option_map (λ (d : Typecode). leaf.Var s d) o) None) ≡ Some (leaf.Var s c) → is_meant before (symbol_name db s) ≡ true
      by true b o i j k = absurd cc
      by false true None i j k = absurd cc
      by false true (Some d) i j k = or_right (contains (constants before) (symbol_name db s)) _ (and_from _ _ (variable_meant s less i) (typed_meant s d less j))
      by false false o i j k = absurd cc
