-- The fresh leaves of writable trees can be named.
use Rattle.std.specs.Prelude.{◌≡◌, ℕ, true, List, [], map, filter_map, flat_map, Contains, option_map, Option, Some, None, refl}
use Rattle.std.specs.List.{cons_option}
use Rattle.std.proofs.Common.{sym, ap, subst, ◌∙◌}
use Rattle.mm_base.specs.declared.symbols.Typecode.{Typecode}
use Rattle.mm_base.specs.declared.tree.Tree.{Tree}
use Rattle.mm_model.specs.Rows.{IsGrammar}
use Rattle.mm_model.specs.Texts.{text}
use Rattle.mm_model.specs.Book.{Database}
use Rattle.mm_model.proofs.TextLaws.{text-Work}
use Rattle.solve_model.specs.declared.bound.Bound.{Bound}
use Rattle.solve_model.specs.Trees.{Open, work, fresh, Occurs}
use Rattle.written_model.specs.Named.{WorkVariable, work_variable, is_in, work_leaf, read_works, not_seen, new_works, Naming, name_leaf, name_tree, IsWrittenLeaf, IsNaming}
use Rattle.answer_laws.proofs.Elements.{piece_of, in_pieces, in_kept, kept_from, all_contained}
use Rattle.answer_laws.proofs.Marks.{Mark, variable, open_leaf, marks}
use Rattle.answer_laws.proofs.Covered.{of_tree, of_text, occurs_mark, mark_occurs}
use Rattle.answer_laws.proofs.NamedAlike.{IsLeastAt}
use Rattle.answer_laws.proofs.OneNaming.{by_names, named_text, all_works}
use Rattle.answer_laws.proofs.ValuedAlike.{contained_is_in}
use Rattle.writing_laws.specs.HasNames.{IsWritable, HasFewSymbols}
use Rattle.writing_laws.proofs.Naming.{new_kept, new_from, name_in, name_new, has_name, name_stands, name_once, numbers, numbers_least, apart_numbers, Kind, plain, was_read, is_new, all_walked}

-- a fresh leaf, as a work variable of its number
abbrev pub fresh_part : Mark → Option WorkVariable
fresh_part (variable s c) = None
fresh_part (open_leaf (work c n)) = None
fresh_part (open_leaf (fresh c n)) = Some (work_variable c n)

pub fresh_is : (m : Mark) (v : WorkVariable) → fresh_part m ≡ Some v → m ≡ open_leaf (fresh v.code v.number)
fresh_is (variable s c) v e = absurd (cc)
fresh_is (open_leaf (work c n)) v e = absurd (cc)
fresh_is (open_leaf (fresh c n)) v e =
    let same : work_variable c n ≡ v = cc in
    ap (λ (u : WorkVariable). open_leaf (fresh u.code u.number)) same

module _ (db : Database) (few : HasFewSymbols db) (bound : Bound) (before : ℕ) (grammar : IsGrammar db.rows) (ts : List Tree)
    (writable : (t : Tree) → Contains ts t → IsWritable db bound before t) where
  abbrev pub M : List Mark
  M = flat_map (marks db.rows) ts

  -- the fresh leaves, each where it first stands
  abbrev pub D : List WorkVariable
  D = not_seen [] (filter_map fresh_part M)

  abbrev pub names : Naming
  names c n = name_in db few bound [] D (work_variable c n)

  in_list : (t : Tree) (x : Open) → Contains ts t → Occurs x t → Contains M (open_leaf x)
  in_list t x o h = in_pieces (marks db.rows) ts t (open_leaf x) o (of_text (open_leaf x) db.rows grammar before t (writable t o).typed (occurs_mark t x h))

  of_list : (x : Open) → Contains M (open_leaf x) → (t : Tree) × Contains ts t × Occurs x t
  of_list x o =
      let p = piece_of (marks db.rows) ts (open_leaf x) o in
      (p.0, p.1, mark_occurs p.0 x (of_tree (open_leaf x) db.rows p.0 p.2))

  stands : (c : Typecode) (n : ℕ) → Contains M (open_leaf (fresh c n)) → is_in D (work_variable c n) ≡ true
  stands c n o =
      new_kept [] (filter_map fresh_part M) (work_variable c n)
      (contained_is_in (filter_map fresh_part M) (work_variable c n) (in_kept fresh_part M (open_leaf (fresh c n)) (work_variable c n) o refl)) refl

  is_written : (c : Typecode) (n k : ℕ) → names c n ≡ Some k → IsWrittenLeaf ts c n
  is_written c n k e =
      let o = new_from [] (filter_map fresh_part M) (work_variable c n) (name_stands db few bound [] D (work_variable c n) k e) in
      let m = kept_from fresh_part M (work_variable c n) o in
      of_list (fresh c n) (subst (Contains M) (fresh_is m.0 (work_variable c n) m.2) m.1)

  no_name : (c : Typecode) (n : ℕ) → (IsWrittenLeaf ts c n → ⊥) → (o : Option ℕ) → names c n ≡ o → o ≡ None
  no_name c n h None e = refl
  no_name c n h (Some k) e = absurd (h (is_written c n k e))

  -- ---- the new work variables

  abbrev IsKind : Mark → Type 0
  IsKind m = Kind db few bound D (by_names names) fresh_part m

  kind_of : (m : Mark) → Contains M m → IsKind m
  kind_of (variable s c) o = plain refl refl
  kind_of (open_leaf (work c n)) o = let t = of_list (work c n) o in was_read (work_variable c n) refl refl ((writable t.0 t.1).was_read c n t.2)
  kind_of (open_leaf (fresh c n)) o =
      let k = has_name db few bound [] D (work_variable c n) (stands c n o) in
      is_new (work_variable c n) (work_variable c k.0) (ap (option_map (work_variable c)) k.1) refl (ap (option_map (work_variable c)) k.1)

  leaf : (x : Open) → filter_map work_leaf (text db.rows (name_leaf names x)) ≡ cons_option (by_names names (open_leaf x)) []
  leaf (work c n) = ap (filter_map work_leaf) (text-Work db.rows c n)
  leaf (fresh c n) = named_text db c n (names c n)

  new_are : new_works db bound (map (name_tree names) ts) ≡ numbers db few bound [] D
  new_are =
      ap (not_seen (read_works db bound)) (all_works db (name_leaf names) names leaf ts)
      ∙ all_walked db few bound D (by_names names) fresh_part M (all_contained IsKind M kind_of)
      ∙ apart_numbers db few bound (filter_map fresh_part M)

  pub naming : IsNaming db bound ts names
  naming = record {
    named = λ c n w.
        let k = has_name db few bound [] D (work_variable c n) (stands c n (in_list w.0 (fresh c n) w.1 w.2)) in
        (k.0, k.1, (name_new db few bound [] D (work_variable c n) k.0 k.1).0);
    others = λ c n h. no_name c n h (names c n) refl;
    once = λ c n m k e g. ap (λ (v : WorkVariable). v.number) (name_once db few bound [] D (work_variable c n) (work_variable c m) k refl e g);
    least = subst (IsLeastAt db bound (λ m. None) (λ m. None)) (sym new_are) (numbers_least db few bound [] D);
  }

pub has_naming : (db : Database) (few : HasFewSymbols db) (bound : Bound) (before : ℕ) (grammar : IsGrammar db.rows) (ts : List Tree)
    → ((t : Tree) → Contains ts t → IsWritable db bound before t) → (names : Naming) × IsNaming db bound ts names
has_naming db few bound before grammar ts writable = (_, naming db few bound before grammar ts writable)
