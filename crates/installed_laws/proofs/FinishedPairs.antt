-- The pairs of a written worksheet are pairs of two different variables that are active at its place.
use Rattle.std.specs.Prelude.{◌≡◌, ◌==◌, ◌&&◌, ◌||◌, ℕ, true, false, not, List, [], ◌∷◌, map, nat_lt, slice_get, Contains, Option, Some, None, refl}
use Rattle.std.specs.List.{AllByRecursion, list_all, list_any}
use Rattle.std.specs.Option.{option_map_or}
use Rattle.std.specs.Str.{bytes_eq}
use Rattle.std.proofs.Common.{sym, subst, inl, inr}
use Rattle.std.proofs.lemmas.Bool.{cases_Bool, and_from, and_parts, or_parts, not-true, not-false, not_from_false}
use Rattle.std.proofs.lemmas.Option.{slice_get_within}
use Rattle.mm_base.specs.declared.symbols.Sym.{Sym}
use Rattle.mm_base.specs.declared.symbols.Pair.{Pair}
use Rattle.mm_model.specs.Names.{Name, contains, has_twice}
use Rattle.mm_model.specs.Statements.{Statement, statements, variables}
use Rattle.mm_model.specs.Frames.{below}
use Rattle.mm_model.specs.Book.{Database, IsDatabaseOf, symbol_of, symbol_name}
use Rattle.sheet_text.specs.declared.sheet.PairLine.{PairLine}
use Rattle.sheet_text.specs.declared.sheet.Sheet.{Sheet}
use Rattle.sheet_text.specs.Spellable.{IsSpellable, is_token, is_pair_spellable}
use Rattle.sheet_text.specs.TextFaults.{is_bad_distinct, is_end}
use Rattle.solve_model.specs.Binding.{place_of}
use Rattle.solve_model.specs.BindFaults.{at_pairs, not_variable, is_variable_at}
use Rattle.solve_model.specs.Bound.{Binds}
use Rattle.written_model.specs.declared.options.Options.{Options}
use Rattle.written_model.specs.Written.{Writing, written_pairs, written_pair, written_sheet, written_bound}
use Rattle.install_model.specs.Installed.{named_pair}
use Rattle.push_laws.proofs.Lists.{parted, nothing, contains_get, map_get, index_get}
use Rattle.push_laws.proofs.ReadTrees.{symbol_stands_at}
use Rattle.installed_laws.specs.CanBePutIn.{is_pair}
use Rattle.installed_laws.proofs.FinishedFormulas.{all_named}
use Rattle.installed_laws.proofs.MeantTokens.{variable_meant}

-- the names of a `$d` with two symbols differ
names_differ : (a b : Name) → not (is_bad_distinct (a ∷ b ∷ [])) ≡ true → bytes_eq a b ≡ false
names_differ a b e =
    let fine : is_bad_distinct (a ∷ b ∷ []) ≡ false = not-true (is_bad_distinct (a ∷ b ∷ [])) e in
    let front = (or_parts (nat_lt 2 2 || has_twice (a ∷ b ∷ [])) (list_any is_end (a ∷ b ∷ [])) fine).0 in
    let twice = (or_parts (nat_lt 2 2) (has_twice (a ∷ b ∷ [])) front).1 in
    let once = (or_parts (contains (b ∷ []) a) (has_twice (b ∷ [])) twice).0 in
    (or_parts (bytes_eq a b) false once).0

module _ (text : List ℕ) (db : Database) (options : Options) (w : Writing) (is : IsDatabaseOf options.kinds text db)
    (spellable : IsSpellable (written_sheet db options w)) (binds : Binds db (written_sheet db options w) (written_bound db options w)) where
  abbrev ws : Sheet
  ws = written_sheet db options w

  abbrev before : List Statement
  before = below (statements text) w.bound.place

  -- a name that fault 70 lets pass
  variable_named : (n : Name) → is_variable_at db (place_of db ws) n ≡ true → contains (variables before) n ≡ true
  variable_named n h = by (symbol_of db n) refl h
    where
      by : (o : Option Sym) → symbol_of db n ≡ o → option_map_or (λ (v : Sym). list_any (λ (x : Sym). x.0 == v.0) (db.active_at (place_of db ws)).variables) o false ≡ true
          → contains (variables before) n ≡ true
      by None e i = absurd cc
      by (Some v) e i =
          let stands = symbol_stands_at db.symbols n v e in
          let here = subst (λ (p : ℕ). list_any (λ (x : Sym). x.0 == v.0) (db.active_at p).variables ≡ true) (sym binds.place) i in
          subst (λ m. contains (variables before) m ≡ true) (index_get db.symbols v.0 [] n stands)
          (variable_meant options.kinds text db is w.bound.place v (slice_get_within db.symbols v.0 n stands) here)

  line_sound : (k : ℕ) (l : PairLine) → slice_get ws.pairs k ≡ Some l → list_all (is_variable_at db (place_of db ws)) l.names ≡ true
  line_sound k l at = elim (cases_Bool (not_variable db ws l)) [
    | inl d ↦ absurd (binds.sound l.line 70 (at_pairs k at d))
    | inr d ↦ not-false (list_all (is_variable_at db (place_of db ws)) l.names) d
  ]

  pair_is : (p : Pair) → Contains (written_pairs db options w) p → is_pair before (symbol_name db p.a, symbol_name db p.b) ≡ true
  pair_is p h =
      let a = symbol_name db p.a in
      let b = symbol_name db p.b in
      let k = contains_get (written_pairs db options w) p h in
      let at = map_get (written_pair db) (written_pairs db options w) k.0 p k.1 in
      let two = and_parts (is_variable_at db (place_of db ws) a) (is_variable_at db (place_of db ws) b && true) (line_sound k.0 (written_pair db p) at) in
      let other = and_parts (is_variable_at db (place_of db ws) b) true two.1 in
      let spelled : is_pair_spellable (written_pair db p) ≡ true = pair_spelled (written_pairs db options w) p spellable.each_pair h in
      let differ = names_differ a b (and_parts (list_all is_token (a ∷ b ∷ [])) (not (is_bad_distinct (a ∷ b ∷ []))) spelled).1 in
      and_from (contains (variables before) a && contains (variables before) b) (not (bytes_eq a b))
      (and_from (contains (variables before) a) (contains (variables before) b) (variable_named a two.0) (variable_named b other.0)) (not_from_false (bytes_eq a b) differ)
    where
      pair_spelled : (ps : List Pair) (q : Pair) → list_all is_pair_spellable (map (written_pair db) ps) ≡ true → Contains ps q → is_pair_spellable (written_pair db q) ≡ true
      pair_spelled [] q e c = absurd (nothing q c)
      pair_spelled (x ∷ ps) q e c =
          let both = and_parts (is_pair_spellable (written_pair db x)) (list_all is_pair_spellable (map (written_pair db) ps)) e in
          elim (parted q x ps c) [ inl same ↦ subst (λ y. is_pair_spellable (written_pair db y) ≡ true) same both.0 | inr l ↦ pair_spelled ps q both.1 l ]

  pub pairs_are_pairs : AllByRecursion (λ (p : Name × Name). is_pair before p ≡ true) (map (named_pair db options w) (written_pairs db options w))
  pairs_are_pairs = all_named (λ (p : Name × Name). is_pair before p ≡ true) (named_pair db options w) (written_pairs db options w) pair_is
