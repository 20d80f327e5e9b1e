-- The names that are kept are a naming of the definitions.
use Rattle.std.specs.Prelude.{◌≡◌, ◌||◌, ℕ, suc, Bool, true, false, not, List, [], ◌∷◌, ◌++◌, map, take, slice_get, flat_map, Contains, is_some, Option, Some, None, refl}
use Rattle.std.specs.Map.{lookup}
use Rattle.std.proofs.Common.{sym, ap, subst, ◌∙◌, inl, inr, append_assoc}
use Rattle.std.proofs.lemmas.Bool.{cases_Bool, and_parts}
use mathlib.Core.Path.{fun_ext}
use Rattle.mm_base.specs.declared.symbols.Typecode.{Typecode}
use Rattle.mm_base.specs.declared.tree.Tree.{Tree}
use Rattle.mm_model.specs.Rows.{IsGrammar}
use Rattle.mm_model.specs.Book.{Database, symbol_of, symbol_name}
use Rattle.solve_model.specs.declared.bound.Bound.{Bound}
use Rattle.solve_model.specs.Firsts.{IsLeast}
use Rattle.solve_model.specs.Formulas.{spelling}
use Rattle.written_model.specs.Named.{WorkVariable, work_variable, same_work, is_in, not_seen, read_works, IsUnused, IsNaming}
use Rattle.answer_laws.proofs.NamedAlike.{least_is_one}
use Rattle.writing_laws.specs.HasNames.{IsWritable, HasFewSymbols}
use Rattle.writing_laws.proofs.Naming.{least_number, number_least, name_in}
use Rattle.writing_laws.proofs.NamesExist.{D, names, naming}
use Rattle.leaf_names.specs.Leaves.{FreshLeaf, fresh_leaf, fresh_leaves}
use Rattle.leaf_names.specs.Tables.{NamedLeaf, variable_at, as_variable, name_of, same_leaf, naming_of, is_read, is_declared, is_given, is_taken, IsFree, AreNamed, AreRead}
use Rattle.leaf_names.proofs.MarkLaws.{all_alike}

abbrev leaf_of : NamedLeaf → WorkVariable
leaf_of g = as_variable g.0

taken_in : (gs : List NamedLeaf) (c n : ℕ) → is_taken gs c n ≡ is_in (map name_of gs) (variable_at c n)
taken_in [] c n = refl
taken_in (g ∷ gs) c n = ap (λ b. is_given c n g || b) (taken_in gs c n)

is_false : (b : Bool) → not b ≡ true → b ≡ false
is_false true e = absurd (cc)
is_false false e = refl

is_none : {X : Type 0} (o : Option X) → is_some o ≡ false → o ≡ None
is_none None e = refl
is_none (Some x) e = absurd (cc)

append_nil : {X : Type 0} (xs : List X) → xs ++ [] ≡ xs
append_nil [] = refl
append_nil (x ∷ xs) = ap (λ ys. x ∷ ys) (append_nil xs)

module _ (db : Database) (few : HasFewSymbols db) (bound : Bound) (read : List FreshLeaf) (are_read : AreRead (read_works db bound) read) where
  -- what is free is unused, and the other way round
  free_unused : (gs : List NamedLeaf) (c n : ℕ) → IsFree db.symbols read gs c n → IsUnused db bound (map name_of gs) (variable_at c n)
  free_unused gs c n h =
      let parts = and_parts (not (is_read read c n)) (not (is_declared db.symbols c n)) h.unused in
      record {
        not_read = sym (are_read.same c n) ∙ is_false (is_read read c n) parts.0;
        not_declared = is_none (symbol_of db (spelling (symbol_name db (variable_at c n).code.0) n)) (is_false (is_declared db.symbols c n) parts.1);
        not_taken = sym (taken_in gs c n) ∙ h.not_taken;
      }

  unused_free : (gs : List NamedLeaf) (c n : ℕ) → IsUnused db bound (map name_of gs) (variable_at c n) → IsFree db.symbols read gs c n
  unused_free gs c n h =
      let r : is_read read c n ≡ false = are_read.same c n ∙ h.not_read in
      let d : is_declared db.symbols c n ≡ false = ap is_some h.not_declared in
      record { unused = rw (r, d) refl; not_taken = taken_in gs c n ∙ h.not_taken }

  least_unused : (gs : List NamedLeaf) (c n : ℕ) → IsLeast (IsFree db.symbols read gs c) n → IsLeast (λ m. IsUnused db bound (map name_of gs) (variable_at c m)) n
  least_unused gs c n h = record { from_one = h.from_one; holds = free_unused gs c n h.holds; least = λ m one k. h.least m one (unused_free gs c m k) }

  -- each has the least number that is unused behind those before it
  abbrev AreLeast : List WorkVariable → List NamedLeaf → Type 0
  AreLeast taken gs = (k : ℕ) (g : NamedLeaf) → slice_get gs k ≡ Some g → IsLeast (λ n. IsUnused db bound (taken ++ map name_of (take k gs)) (variable_at g.0.0 n)) g.1

  number_is : (taken : List WorkVariable) (g : NamedLeaf) (gs : List NamedLeaf) → AreLeast taken (g ∷ gs) → least_number db few bound taken (leaf_of g).code ≡ g.1
  number_is taken g gs h =
      least_is_one (λ n. IsUnused db bound taken (variable_at g.0.0 n)) _ g.1 (number_least db few bound taken (leaf_of g).code)
      (subst (λ t. IsLeast (λ n. IsUnused db bound t (variable_at g.0.0 n)) g.1) (append_nil taken) (h 0 g refl))

  rest_least : (taken : List WorkVariable) (g : NamedLeaf) (gs : List NamedLeaf) → AreLeast taken (g ∷ gs) → AreLeast (taken ++ name_of g ∷ []) gs
  rest_least taken g gs h k x e =
      subst (λ t. IsLeast (λ n. IsUnused db bound t (variable_at x.0.0 n)) x.1) (sym (append_assoc taken (name_of g ∷ []) (map name_of (take k gs)))) (h (suc k) x e)

  abbrev as_leaf : WorkVariable → FreshLeaf
  as_leaf y = fresh_leaf y.code.0.0 y.number

  here : (taken : List WorkVariable) (g : NamedLeaf) (xs : List WorkVariable) (y : WorkVariable) (gs : List NamedLeaf) → same_work y (leaf_of g) ≡ true
      → least_number db few bound taken (leaf_of g).code ≡ g.1 → name_in db few bound taken (leaf_of g ∷ xs) y ≡ lookup (same_leaf (as_leaf y)) (g ∷ gs)
  here taken g xs y gs e is = rw e (ap (λ n. Some n) is)

  there : (taken : List WorkVariable) (g : NamedLeaf) (xs : List WorkVariable) (y : WorkVariable) (gs : List NamedLeaf) → same_work y (leaf_of g) ≡ false
      → name_in db few bound (taken ++ work_variable (leaf_of g).code (least_number db few bound taken (leaf_of g).code) ∷ []) xs y ≡ lookup (same_leaf (as_leaf y)) gs
      → name_in db few bound taken (leaf_of g ∷ xs) y ≡ lookup (same_leaf (as_leaf y)) (g ∷ gs)
  there taken g xs y gs e is = rw e is

  names_are : (taken : List WorkVariable) (gs : List NamedLeaf) (y : WorkVariable) → AreLeast taken gs → name_in db few bound taken (map leaf_of gs) y ≡ lookup (same_leaf (as_leaf y)) gs
  names_are taken [] y h = refl
  names_are taken (g ∷ gs) y h =
      let is = number_is taken g gs h in
      elim (cases_Bool (same_work y (leaf_of g))) [
        | inl e ↦ here taken g (map leaf_of gs) y gs e is
        | inr e ↦ there taken g (map leaf_of gs) y gs e
            (ap (λ n. name_in db few bound (taken ++ work_variable (leaf_of g).code n ∷ []) (map leaf_of gs) y) is ∙ names_are (taken ++ name_of g ∷ []) gs y (rest_least taken g gs h))
      ]

  module _ (before : ℕ) (grammar : IsGrammar db.rows) (ts : List Tree) (writable : (t : Tree) → Contains ts t → IsWritable db bound before t)
      (given : List NamedLeaf) (named : AreNamed db.symbols read given (flat_map (fresh_leaves db.rows) ts)) where
    abbrev Ds : List WorkVariable
    Ds = D db few bound before grammar ts writable

    leaves_are : Ds ≡ map leaf_of given
    leaves_are = ap (not_seen []) (sym (all_alike db.rows ts)) ∙ sym named.in_order

    are_least : AreLeast [] given
    are_least k g e = least_unused (take k given) g.0.0 g.1 (named.least k g e)

    one_name : (c : Typecode) (n : ℕ) → names db few bound before grammar ts writable c n ≡ naming_of given c n
    one_name c n = ap (λ xs. name_in db few bound [] xs (work_variable c n)) leaves_are ∙ names_are [] given (work_variable c n) are_least

    same_names : names db few bound before grammar ts writable ≡ naming_of given
    same_names = fun_ext (λ c. fun_ext (λ n. one_name c n))

    pub is_naming : IsNaming db bound ts (naming_of given)
    is_naming = subst (IsNaming db bound ts) same_names (naming db few bound before grammar ts writable)
