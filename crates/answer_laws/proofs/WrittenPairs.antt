-- The pairs of a written worksheet can be spelled.
use Rattle.std.specs.Prelude.{◌≡◌, ◌<◌, ◌==◌, ◌&&◌, ◌||◌, ◌++◌, not, nat_lt, ℕ, Bool, true, false, List, [], ◌∷◌, length, map, filter, filter_map}
use Rattle.std.specs.Prelude.{flat_map, find, zip, position, slice_index_or, Contains, Option, Some, None, option_map, codes, refl}
use Rattle.std.specs.List.{AllByRecursion, AllZip, list_all, list_any, position_or_len, cons_option}
use Rattle.std.specs.Option.{option_map_or}
use Rattle.std.specs.Str.{bytes_eq}
use Rattle.std.proofs.Common.{sym, ap, subst, ◌∙◌, inl, inr, cond, ltb-true, eqb-true, eq-eqb}
use Rattle.std.proofs.lemmas.Bool.{and_from, and_parts, or_parts, both_ways}
use Rattle.std.proofs.lemmas.Option.{cond_some, slice_get-get_or}
use Rattle.std.proofs.lemmas.List.{length-map}
use Rattle.std.proofs.lemmas.List.Sums.{passes_at_first}
use Rattle.std.proofs.lemmas.List.Elements.{Contains-append_left, Contains-append_right, Contains-append_cases}
use Rattle.std.proofs.lemmas.Slice.Eq.{bytes_eq-Decides}
use Rattle.mm_base.specs.declared.symbols.Sym.{Sym}
use Rattle.mm_base.specs.declared.symbols.Typecode.{Typecode}
use Rattle.mm_base.specs.declared.symbols.Pair.{Pair}
use Rattle.mm_base.specs.declared.tree.Tree.{Tree}
use Rattle.mm_base.specs.Trees.{Each, code_of}
use Rattle.mm_base.proofs.TreeInduction.{tree_ind}
use Rattle.mm_model.specs.Names.{Name, sym as symbol, contains, has_twice}
use Rattle.mm_model.specs.Productions.{TypedVariable}
use Rattle.mm_model.specs.BookFacts.{IsDatabase}
use Rattle.mm_model.specs.Book.{Database, symbol_of, symbol_name}
use Rattle.model_laws.specs.DatabaseLaws.{IsSymbolName}
use Rattle.proof_model.specs.Machine.{is_shared}
use Rattle.sheet_text.specs.declared.sheet.Given.{Given}
use Rattle.sheet_text.specs.declared.sheet.Given.TheVariants as given
use Rattle.sheet_text.specs.declared.sheet.PairLine.{PairLine}
use Rattle.sheet_text.specs.declared.sheet.Sheet.{Sheet}
use Rattle.sheet_text.specs.Spellable.{is_token, is_pair_spellable}
use Rattle.sheet_text.specs.TextFaults.{is_bad_distinct, is_end}
use Rattle.solve_model.specs.Binding.{two_of, given_pairs}
use Rattle.solve_model.specs.PairSets.{ordered, pair_set}
use Rattle.solve_model.specs.Trees.{Open, work, fresh, leaf_tree, variables, flatten, replace}
use Rattle.solve_model.proofs.TreeLaws.{replace-Var, replace-Work, replace-Fresh, replace-Node, variables-Node, variables-Work}
use Rattle.solve_laws.proofs.PairSetLaws.{holds_same}
use Rattle.written_model.specs.declared.options.DvMode.{DvMode}
use Rattle.written_model.specs.declared.options.DvMode.TheVariants as dv
use Rattle.written_model.specs.declared.options.Options.{Options}
use Rattle.written_model.specs.WrittenSteps.{Use, WrittenStep, WrittenItem, comment, step, steps_in, trees, place_tree, no_tree, value_of}
use Rattle.written_model.specs.Pairs.{crossings, needed_by, pairs_of}
use Rattle.written_model.specs.Found.{Choice, FitsUse, IsSearched, valued}
use Rattle.written_model.specs.Written.{Writing, ItemIsSearched, after_naming, written_pair}
use Rattle.answer_laws.proofs.Elements.{nothing, only, piece_of, mapped_from, all_contained, contained_has, stands_in, all_by-append}
use Rattle.answer_laws.proofs.Marks.{Mark, variable, open_leaf, leaves, leaves-Var, leaves-Work, leaves-Fresh, leaves-Node}
use Rattle.answer_laws.proofs.Covered.{variable_mark}
use Rattle.answer_laws.proofs.Placed.{placed}
use Rattle.answer_laws.proofs.Plain.{IsTreeIn, IsPlain, ArePlain}
use Rattle.answer_laws.proofs.SearchedAlike.{values_are}
use Rattle.answer_laws.proofs.WellTrees.{IsKnown}
use Rattle.answer_laws.proofs.WellWritten.{IsToken, symbol_named}

-- ---- a name's symbol

module _ (db : Database) where
  pub record IsSymbolOf (n : Name) (s : Sym) : Type 0 where
    pub known : IsKnown db s
    pub name : symbol_name db s ≡ n

  symbol_by : (n : Name) (o : Option ℕ) (s : Sym) → position (bytes_eq n) db.symbols ≡ o → option_map symbol o ≡ Some s → IsSymbolOf n s
  symbol_by n None s e f = absurd (cc)
  symbol_by n (Some k) s e f =
      let found = cond_some (nat_lt (position_or_len (bytes_eq n) db.symbols) (length db.symbols)) (position_or_len (bytes_eq n) db.symbols) k e in
      let less = ltb-true (position_or_len (bytes_eq n) db.symbols) (length db.symbols) found.0 in
      let same : symbol k ≡ s = cc in
      let passes = passes_at_first (bytes_eq n) db.symbols [] less in
      let is : IsSymbolOf n (symbol k) = record {
        known = subst (λ m. m < length db.symbols) found.1 less;
        name = ap (λ m. slice_index_or db.symbols m []) (sym found.1) ∙ sym ((bytes_eq-Decides n (slice_index_or db.symbols (position_or_len (bytes_eq n) db.symbols) [])).0 passes);
      } in
      subst (IsSymbolOf n) same is

  pub symbol_is : (n : Name) (s : Sym) → symbol_of db n ≡ Some s → IsSymbolOf n s
  symbol_is n s e = symbol_by n (position (bytes_eq n) db.symbols) s refl e

-- ---- fine pairs

-- two different symbols of the database
pub record IsFinePair (db : Database) (p : Pair) : Type 0 where
  pub first_known : IsKnown db p.a
  pub second_known : IsKnown db p.b
  pub differ : (p.a.0 == p.b.0) ≡ false

turned : (n m : ℕ) → (n == m) ≡ false → (m == n) ≡ false
turned n m h = by (m == n) refl
  where
    by : (b : Bool) → (m == n) ≡ b → b ≡ false
    by true e = let same : m ≡ n = eqb-true m n e in absurd (both_ways (n == m) h (subst (λ k. (n == k) ≡ true) (sym same) (eq-eqb n n refl)))
    by false e = refl

ordered_fine : (db : Database) (v w : Sym) → IsKnown db v → IsKnown db w → (v.0 == w.0) ≡ false → IsFinePair db (ordered v w)
ordered_fine db v w h k d = by (nat_lt v.0 w.0)
  where
    by : (b : Bool) → IsFinePair db (cond b (record { a = v; b = w }) (record { a = w; b = v }))
    by true = record { first_known = h; second_known = k; differ = d }
    by false = record { first_known = k; second_known = h; differ = turned v.0 w.0 d }

set_fine : (db : Database) (ps : List Pair) → AllByRecursion (IsFinePair db) ps → AllByRecursion (IsFinePair db) (pair_set ps)
set_fine db ps h = all_contained (IsFinePair db) (pair_set ps) (λ p o. contained_has (IsFinePair db) ps p h ((holds_same ps p).0 o))

-- ---- given pairs

module _ (db : Database) where
  abbrev IsApart : Sym → List Sym → Type 0
  IsApart v vs = AllByRecursion (λ (w : Sym). IsKnown db w × ((v.0 == w.0) ≡ false)) vs

  abbrev AreApart : List Sym → Type 0
  AreApart [] = Unit {0}
  AreApart (v ∷ vs) = IsKnown db v × IsApart v vs × AreApart vs

  one_of : (v : Sym) (vs : List Sym) → IsKnown db v → IsApart v vs → AllByRecursion (IsFinePair db) (map (ordered v) vs)
  one_of v [] k h = tt
  one_of v (w ∷ vs) k h = (ordered_fine db v w k h.0.0 h.0.1, one_of v vs k h.1)

  two_fine : (vs : List Sym) → AreApart vs → AllByRecursion (IsFinePair db) (two_of vs)
  two_fine [] h = tt
  two_fine (v ∷ vs) h = all_by-append (IsFinePair db) (map (ordered v) vs) (two_of vs) (one_of v vs h.0 h.1) (two_fine vs h.2)

  numbers_apart : (n m : Name) (s t : Sym) → IsSymbolOf db n s → IsSymbolOf db m t → bytes_eq n m ≡ false → (s.0 == t.0) ≡ false
  numbers_apart n m s t h k d = by (s.0 == t.0) refl
    where
      by : (b : Bool) → (s.0 == t.0) ≡ b → b ≡ false
      by true e =
          let names : n ≡ m = sym h.name ∙ ap (λ j. slice_index_or db.symbols j []) (eqb-true s.0 t.0 e) ∙ k.name in
          absurd (both_ways (bytes_eq n m) d ((bytes_eq-Decides n m).1 names))
      by false e = refl

  apart_by : (n : Name) (s : Sym) → IsSymbolOf db n s → (ns : List Name) → contains ns n ≡ false → IsApart s (filter_map (symbol_of db) ns)
  apart_by n s h [] d = tt
  apart_by n s h (m ∷ ns) d = by (symbol_of db m) refl (apart_by n s h ns (or_parts (bytes_eq n m) (contains ns n) d).1)
    where
      by : (o : Option Sym) → symbol_of db m ≡ o → IsApart s (filter_map (symbol_of db) ns) → IsApart s (cons_option o (filter_map (symbol_of db) ns))
      by None e r = r
      by (Some t) e r = let k = symbol_is db m t e in ((k.known, numbers_apart n m s t h k (or_parts (bytes_eq n m) (contains ns n) d).0), r)

  names_apart : (ns : List Name) → has_twice ns ≡ false → AreApart (filter_map (symbol_of db) ns)
  names_apart [] h = tt
  names_apart (n ∷ ns) h = by (symbol_of db n) refl (names_apart ns (or_parts (contains ns n) (has_twice ns) h).1)
    where
      by : (o : Option Sym) → symbol_of db n ≡ o → AreApart (filter_map (symbol_of db) ns) → AreApart (cons_option o (filter_map (symbol_of db) ns))
      by None e r = r
      by (Some s) e r = let k = symbol_is db n s e in (k.known, apart_by n s k ns (or_parts (contains ns n) (has_twice ns) h).0, r)

  not_bad : (ns : List Name) → not (is_bad_distinct ns) ≡ true → has_twice ns ≡ false
  not_bad ns h = (or_parts (nat_lt (length ns) 2) (has_twice ns) (or_parts (nat_lt (length ns) 2 || has_twice ns) (list_any is_end ns) (flip (is_bad_distinct ns) h)).0).1
    where
      flip : (b : Bool) → not b ≡ true → b ≡ false
      flip true e = sym e
      flip false e = refl

  all_given : (ps : List PairLine) → list_all is_pair_spellable ps ≡ true → AllByRecursion (IsFinePair db) (flat_map (λ (p : PairLine). two_of (filter_map (symbol_of db) p.names)) ps)
  all_given [] h = tt
  all_given (p ∷ ps) h =
      let both = and_parts (is_pair_spellable p) (list_all is_pair_spellable ps) h in
      let mine = and_parts (list_all is_token p.names) (not (is_bad_distinct p.names)) both.0 in
      all_by-append (IsFinePair db) (two_of (filter_map (symbol_of db) p.names)) (flat_map (λ (q : PairLine). two_of (filter_map (symbol_of db) q.names)) ps)
      (two_fine (filter_map (symbol_of db) p.names) (names_apart p.names (not_bad p.names mine.1))) (all_given ps both.1)

  pub given_fine : (s : Sheet) → list_all is_pair_spellable s.pairs ≡ true → AllByRecursion (IsFinePair db) (given_pairs db s)
  given_fine s h = set_fine db (flat_map (λ (p : PairLine). two_of (filter_map (symbol_of db) p.names)) s.pairs) (all_given s.pairs h)

-- ---- needed pairs

abbrev pub IsKnownTree : Database → Tree → Type 0
IsKnownTree db t = (x : Sym) → Contains (variables t) x → IsKnown db x

abbrev pub IsKnownUse : Database → Option Use → Type 0
IsKnownUse db None = Unit {0}
IsKnownUse db (Some u) = AllByRecursion (IsKnownTree db) u.values

module _ (db : Database) where
  picked_known : (s : Sym) (vars : List TypedVariable) (ts : List Tree) → AllByRecursion (IsKnownTree db) ts
      → IsKnownTree db (option_map_or (λ p. p.1) (find (λ (p : TypedVariable × Tree). p.0.sym.0 == s.0) (zip vars ts)) no_tree)
  picked_known s [] ts h = λ x o. absurd (nothing x (rw variables-Work at o))
  picked_known s (v ∷ vs) [] h = λ x o. absurd (nothing x (rw variables-Work at o))
  picked_known s (v ∷ vs) (t ∷ ts) h = by (v.sym.0 == s.0) (picked_known s vs ts h.1)
    where
      by : (b : Bool) → IsKnownTree db (option_map_or (λ p. p.1) (find (λ (p : TypedVariable × Tree). p.0.sym.0 == s.0) (zip vs ts)) no_tree)
          → IsKnownTree db (option_map_or (λ (p : TypedVariable × Tree). p.1) (cond b (Some (v, t)) (find (λ (p : TypedVariable × Tree). p.0.sym.0 == s.0) (zip vs ts))) no_tree)
      by true r = h.0
      by false r = r

  value_known : (u : Use) (s : Sym) → AllByRecursion (IsKnownTree db) u.values → IsKnownTree db (value_of u s)
  value_known u s h = picked_known s u.assertion.vars u.values h

  abbrev BothKnown : Sym × Sym → Type 0
  BothKnown q = IsKnown db q.0 × IsKnown db q.1

  crossing_known : (u : Use) (p : Pair) → AllByRecursion (IsKnownTree db) u.values → (q : Sym × Sym) → Contains (crossings u p) q → BothKnown q
  crossing_known u p h q o =
      let one = piece_of (λ (v : Sym). map (λ (w : Sym). let r : Sym × Sym = (v, w) in r) (variables (value_of u p.b))) (variables (value_of u p.a)) q o in
      let two = mapped_from (λ (w : Sym). let r : Sym × Sym = (one.0, w) in r) (variables (value_of u p.b)) q one.2 in
      subst BothKnown two.2 (value_known u p.a h one.0 one.1, value_known u p.b h two.0 two.1)

  crossings_known : (u : Use) (ps : List Pair) → AllByRecursion (IsKnownTree db) u.values → (q : Sym × Sym) → Contains (flat_map (crossings u) ps) q → BothKnown q
  crossings_known u ps h q o = let p = piece_of (crossings u) ps q o in crossing_known u p.0 h q p.2

  kept_fine : (qs : List (Sym × Sym)) → AllByRecursion BothKnown qs → AllByRecursion (IsFinePair db) (map (λ (q : Sym × Sym). ordered q.0 q.1) (filter (λ q. not (is_shared q)) qs))
  kept_fine [] h = tt
  kept_fine (q ∷ qs) h = by (is_shared q) refl (kept_fine qs h.1)
    where
      by : (b : Bool) → is_shared q ≡ b → AllByRecursion (IsFinePair db) (map (λ (r : Sym × Sym). ordered r.0 r.1) (filter (λ r. not (is_shared r)) qs))
          → AllByRecursion (IsFinePair db) (map (λ (r : Sym × Sym). ordered r.0 r.1) (cond (not b) (q ∷ filter (λ r. not (is_shared r)) qs) (filter (λ r. not (is_shared r)) qs)))
      by true e r = r
      by false e r = (ordered_fine db q.0 q.1 h.0.0 h.0.1 e, r)

  needed_fine : (o : Option Use) → IsKnownUse db o → AllByRecursion (IsFinePair db) (needed_by o)
  needed_fine None h = tt
  needed_fine (Some u) h =
      set_fine db (map (λ (q : Sym × Sym). ordered q.0 q.1) (filter (λ q. not (is_shared q)) (flat_map (crossings u) u.assertion.frame.pairs)))
      (kept_fine (flat_map (crossings u) u.assertion.frame.pairs) (all_contained BothKnown (flat_map (crossings u) u.assertion.frame.pairs) (crossings_known u u.assertion.frame.pairs h)))

  all_needed : (es : List WrittenStep) → AllByRecursion (λ (e : WrittenStep). IsKnownUse db e.by) es → AllByRecursion (IsFinePair db) (flat_map (λ (e : WrittenStep). needed_by e.by) es)
  all_needed [] h = tt
  all_needed (e ∷ es) h = all_by-append (IsFinePair db) (needed_by e.by) (flat_map (λ (x : WrittenStep). needed_by x.by) es) (needed_fine e.by h.0) (all_needed es h.1)

  pub pairs_fine : (mode : DvMode) (allowed : List Pair) (es : List WrittenStep) → AllByRecursion (IsFinePair db) allowed
      → AllByRecursion (λ (e : WrittenStep). IsKnownUse db e.by) es → AllByRecursion (IsFinePair db) (pairs_of mode allowed es)
  pairs_fine dv.Given allowed es h k = h
  pairs_fine dv.Add allowed es h k =
      set_fine db (allowed ++ flat_map (λ (e : WrittenStep). needed_by e.by) es)
      (all_by-append (IsFinePair db) allowed (flat_map (λ (e : WrittenStep). needed_by e.by) es) h (all_needed es k))

-- ---- fine pairs can be spelled

module _ (db : Database) (named : AllByRecursion IsSymbolName db.symbols) (facts : IsDatabase db) where
  token_of : (s : Sym) → IsKnown db s → IsToken (symbol_name db s)
  token_of s k = let h = symbol_named db named s k in and_from (not (length (symbol_name db s) == 0)) _ (ap not h.some) h.plain

  no_end : (s : Sym) → IsKnown db s → is_end (symbol_name db s) ≡ false
  no_end s k = by (is_end (symbol_name db s)) refl
    where
      by : (b : Bool) → is_end (symbol_name db s) ≡ b → b ≡ false
      by true e =
          let same : symbol_name db s ≡ codes "$." = (bytes_eq-Decides (symbol_name db s) (codes "$.")).0 e in
          absurd (both_ways (list_any (λ b. b == 36) (symbol_name db s)) (symbol_named db named s k).no_dollar (ap (list_any (λ b. b == 36)) same))
      by false e = refl

  names_differ : (s t : Sym) → IsKnown db s → IsKnown db t → (s.0 == t.0) ≡ false → bytes_eq (symbol_name db s) (symbol_name db t) ≡ false
  names_differ s t h k d = by (bytes_eq (symbol_name db s) (symbol_name db t)) refl
    where
      by : (b : Bool) → bytes_eq (symbol_name db s) (symbol_name db t) ≡ b → b ≡ false
      by true e =
          let same : symbol_name db s ≡ symbol_name db t = (bytes_eq-Decides (symbol_name db s) (symbol_name db t)).0 e in
          let number : s.0 ≡ t.0 = facts.symbols s.0 t.0 (symbol_name db t) (slice_get-get_or db.symbols s.0 [] h ∙ ap Some same) (slice_get-get_or db.symbols t.0 [] k) in
          absurd (both_ways (s.0 == t.0) d (eq-eqb s.0 t.0 number))
      by false e = refl

  pair_spelled : (p : Pair) → IsFinePair db p → is_pair_spellable (written_pair db p) ≡ true
  pair_spelled p h =
      let differ = names_differ p.a p.b h.first_known h.second_known h.differ in
      and_from (list_all is_token (symbol_name db p.a ∷ symbol_name db p.b ∷ [])) (not (is_bad_distinct (symbol_name db p.a ∷ symbol_name db p.b ∷ [])))
      (and_from (is_token (symbol_name db p.a)) (is_token (symbol_name db p.b) && true) (token_of p.a h.first_known)
      (and_from (is_token (symbol_name db p.b)) true (token_of p.b h.second_known) refl))
      (rw (differ, no_end p.a h.first_known, no_end p.b h.second_known) refl)

  pub pairs_spelled : (ps : List Pair) → AllByRecursion (IsFinePair db) ps → list_all is_pair_spellable (map (written_pair db) ps) ≡ true
  pairs_spelled [] h = refl
  pairs_spelled (p ∷ ps) h = and_from (is_pair_spellable (written_pair db p)) (list_all is_pair_spellable (map (written_pair db) ps)) (pair_spelled p h.0) (pairs_spelled ps h.1)

-- ---- the values of what is found

module _ (a : Sym → Typecode → Tree) (p : Open → Tree) (x : Sym) (m : Mark) where
  abbrev Into : Tree → Type 0
  Into t = Contains (leaves t) m → Contains (variables (placed a p m)) x → Contains (variables (replace a p t)) x

  at_leaf : (l : Mark) → Contains (l ∷ []) m → Contains (variables (placed a p m)) x → Contains (variables (placed a p l)) x
  at_leaf l o h = subst (λ k. Contains (variables (placed a p k)) x) (sym (only m l o)) h

  into_all : (ts : List Tree) → Each Into ts → Contains (flatten (map leaves ts)) m → Contains (variables (placed a p m)) x → Contains (flatten (map variables (map (replace a p) ts))) x
  into_all [] h o k = absurd (nothing m o)
  into_all (t ∷ ts) h o k = elim (Contains-append_cases (leaves t) (flatten (map leaves ts)) m o) [
    | inl here ↦ Contains-append_left (variables (replace a p t)) (flatten (map variables (map (replace a p) ts))) x (h.0 here k)
    | inr rest ↦ Contains-append_right (variables (replace a p t)) (flatten (map variables (map (replace a p) ts))) x (into_all ts h.1 rest k)
  ]

  pub variable_into : (t : Tree) → Into t
  variable_into = tree_ind Into
      (λ s c o k. rw replace-Var (at_leaf (variable s c) (rw leaves-Var at o) k))
      (λ c n o k. rw replace-Work (at_leaf (open_leaf (work c n)) (rw leaves-Work at o) k))
      (λ c n o k. rw replace-Fresh (at_leaf (open_leaf (fresh c n)) (rw leaves-Fresh at o) k))
      (λ l c ts h o k. rw (replace-Node, variables-Node) (into_all ts h (rw leaves-Node at o) k))

module _ (db : Database) (plain : ArePlain db) (options : Options) (w : Writing) where
  abbrev es : List WrittenStep
  es = steps_in (after_naming db options w)

  module _ (known : AllByRecursion (IsKnownTree db) (trees es)) (e : WrittenStep) (own : IsKnownTree db e.tree) (c : Choice) (u : Use)
      (fits : FitsUse db w.bound.place options.dv w.bound.pairs es e c u) where
    place_known : (g : Given) (t : Tree) → place_tree es g ≡ Some t → IsKnownTree db t
    place_known given.Gap t h = absurd (cc)
    place_known (given.Step k) t h = contained_has (IsKnownTree db) (trees es) t known (stands_in (trees es) k t h)

    hyps_known : (hs : List Tree) (gs : List Given) → AllZip (λ (h : Tree) (g : Given). place_tree es g ≡ Some (valued u h)) hs gs → AllByRecursion (λ h. IsKnownTree db (valued u h)) hs
    hyps_known [] gs h = tt
    hyps_known (t ∷ ts) [] h = absurd h
    hyps_known (t ∷ ts) (g ∷ gs) h = (place_known g (valued u t) h.0, hyps_known ts gs h.1)

    its : IsPlain db c.label u.assertion
    its = plain c.label u.assertion fits.is_usable

    tree_known : (t : Tree) → IsTreeIn u.assertion t → IsKnownTree db (valued u t)
    tree_known t o =
        contained_has (λ h. IsKnownTree db (valued u h)) (u.assertion.tree ∷ u.assertion.hyps) t
        (subst (IsKnownTree db) (sym fits.conclusion) own, hyps_known u.assertion.hyps c.places fits.hyps) o

    variable_known : (v : TypedVariable) → Contains u.assertion.vars v → IsKnownTree db (value_of u v.sym)
    variable_known v o x h =
        let s = its.stand v o in
        let mark = variable_mark s.0 v.sym s.2 in
        tree_known s.0 s.1 x (variable_into (λ r d. value_of u r) leaf_tree x (variable v.sym mark.0) s.0 mark.1 h)

    mapped : (vs : List TypedVariable) → AllByRecursion (λ (v : TypedVariable). IsKnownTree db (value_of u v.sym)) vs
        → AllByRecursion (IsKnownTree db) (map (λ (v : TypedVariable). value_of u v.sym) vs)
    mapped [] h = tt
    mapped (v ∷ vs) h = (h.0, mapped vs h.1)

    pub use_known : AllByRecursion (IsKnownTree db) u.values
    use_known =
        let count : length u.values ≡ length u.assertion.vars = sym (length-map u.values code_of) ∙ ap length fits.codes ∙ length-map u.assertion.vars (λ (v : TypedVariable). v.code) in
        subst (AllByRecursion (IsKnownTree db)) (sym (values_are u.assertion.vars u.values count its.differ))
        (mapped u.assertion.vars (all_contained (λ (v : TypedVariable). IsKnownTree db (value_of u v.sym)) u.assertion.vars variable_known))

  module _ (known : AllByRecursion (IsKnownTree db) (trees es)) where
    step_known : (e f : WrittenStep) → IsKnownTree db e.tree → IsKnownUse db e.by → IsSearched db w.bound.place options.dv w.bound.pairs es e f → IsKnownUse db f.by
    step_known e f own h (IsSearched.not_searched k) = h
    step_known e f own h (IsSearched.none k m) = h
    step_known e f own h (IsSearched.found {c = c} {u = u} k m fits) = use_known known e own c u fits

    pub uses_searched : (is js : List WrittenItem) → AllZip (ItemIsSearched db options w) is js
        → AllByRecursion (IsKnownTree db) (trees (steps_in is)) → AllByRecursion (λ (e : WrittenStep). IsKnownUse db e.by) (steps_in is)
        → AllByRecursion (λ (e : WrittenStep). IsKnownUse db e.by) (steps_in js)
    uses_searched [] [] h t k = tt
    uses_searched [] (j ∷ js) h t k = absurd h
    uses_searched (i ∷ is) [] h t k = absurd h
    uses_searched (comment lines ∷ is) (j ∷ js) h t k = subst (λ x. AllByRecursion (λ (e : WrittenStep). IsKnownUse db e.by) (steps_in (x ∷ js))) (sym h.0) (uses_searched is js h.1 t k)
    uses_searched (step e ∷ is) (j ∷ js) h t k =
        subst (λ x. AllByRecursion (λ (f : WrittenStep). IsKnownUse db f.by) (steps_in (x ∷ js))) (sym h.0.1) (step_known e h.0.0 t.0 k.0 h.0.2, uses_searched is js h.1 t.1 k.1)
