-- Names of new steps.
use Rattle.std.specs.Prelude.{◌≡◌, ℕ, ◌+◌, ◌<◌, List, [], ◌∷◌, ◌++◌, ◌||◌, length, map, zip, slice_get, Some, refl}
use Rattle.std.specs.List.{list_any}
use Rattle.std.specs.Str.{bytes_eq}
use Rattle.std.proofs.Common.{zero, suc, sym, ap, ◌∙◌, arith, get_or, append_assoc}
use Rattle.std.proofs.lemmas.List.{append-nil, length_push}
use Rattle.std.proofs.lemmas.List.Folds.{list_any-append}
use Rattle.std.proofs.lemmas.Option.{slice_get-get_or}
use Rattle.mm_base.specs.declared.tree.Tree.{Tree}
use Rattle.mm_model.specs.Names.{Name, contains}
use Rattle.written_model.specs.Filled.{derived_name, derived_names}
use Rattle.hyp_derive.specs.Naming.{HaveSameNames}
use Rattle.hyp_derive.proofs.NewNameLaws.{AreDerived, derived_none, derived_more}
use Rattle.written_steps.specs.declared.draft.DraftItem.{DraftItem}
use Rattle.step_filling.specs.Kept.{derived_item, AreDerivedPut}

pub length-derived_names : (n : ℕ) (used : List Name) → length (derived_names n used) ≡ n
length-derived_names zero used = refl
length-derived_names (suc n) used = let rest = length-derived_names n (derived_name used ∷ used) in omega (arith, rest)

pub same_names : (used : List Name) → HaveSameNames used used
same_names used = record { same = λ name. refl }

-- lists that have the same names, with the same names behind
pub same_behind : (one other more : List Name) → HaveSameNames one other → HaveSameNames (one ++ more) (other ++ more)
same_behind one other more have = record {
  same = λ name. list_any-append (bytes_eq name) one more ∙ ap (λ b. b || list_any (bytes_eq name) more) (have.same name) ∙ sym (list_any-append (bytes_eq name) other more);
}

pub zip_push : {X Y : Type 0} (xs : List X) (ys : List Y) (x : X) (y : Y) → length xs ≡ length ys → zip (xs ++ x ∷ []) (ys ++ y ∷ []) ≡ zip xs ys ++ (x, y) ∷ []
zip_push [] [] x y e = refl
zip_push [] (b ∷ ys) x y e = absurd (omega (arith, e))
zip_push (a ∷ xs) [] x y e = absurd (omega (arith, e))
zip_push (a ∷ xs) (b ∷ ys) x y e = ap (λ ps. (a, b) ∷ ps) (zip_push xs ys x y (omega (arith, e)))

map_push : {X Y : Type 0} (f : X → Y) (xs : List X) (x : X) → map f (xs ++ x ∷ []) ≡ map f xs ++ f x ∷ []
map_push f [] x = refl
map_push f (a ∷ xs) x = ap (λ ys. f a ∷ ys) (map_push f xs x)

-- ---- one new step after the other

pub record IsPutTo (old_items items : List DraftItem) (old_trees trees : List Tree) (old_names names : List Name) (made : List Tree) : Type 0 where
  pub given : List Name
  pub derived : AreDerived old_names names given (length made)
  pub trees_are : trees ≡ old_trees ++ made
  pub items_are : items ≡ old_items ++ map derived_item (zip given made)

module _ (old_items : List DraftItem) (old_trees : List Tree) (old_names : List Name) where
  pub put_none : IsPutTo old_items old_items old_trees old_trees old_names old_names []
  put_none = record { given = []; derived = derived_none old_names; trees_are = sym (append-nil old_trees); items_are = sym (append-nil old_items) }

  module _ (items : List DraftItem) (trees : List Tree) (names : List Name) (made : List Tree) (to : IsPutTo old_items items old_trees trees old_names names made) where
    given_count : length to.given ≡ length made
    given_count = ap length (to.derived.names_are old_names (same_names old_names)) ∙ length-derived_names (length made) old_names

    pub put_more : (items' : List DraftItem) (trees' : List Tree) (names' : List Name) (name : Name) (tree : Tree) (more : List Tree)
        → ((used : List Name) → HaveSameNames names used → name ≡ derived_name used) → names' ≡ names ++ name ∷ []
        → items' ≡ items ++ derived_item (name, tree) ∷ [] → trees' ≡ trees ++ tree ∷ [] → more ≡ made ++ tree ∷ [] → IsPutTo old_items items' old_trees trees' old_names names' more
    put_more items' trees' names' name tree more is added put pushed last =
        let all : List Name = to.given ++ name ∷ [] in
        let count : length more ≡ length made + 1 = ap length last ∙ length_push made tree in
        record {
          given = all;
          derived = let d = derived_more old_names names names' to.given all (length made) name to.derived is added refl in
              record { value = d.value; names_are = λ used have. d.names_are used have ∙ ap (λ (n : ℕ). derived_names n used) (sym count) };
          trees_are = pushed ∙ ap (λ (ts : List Tree). ts ++ tree ∷ []) to.trees_are ∙ append_assoc old_trees made (tree ∷ []) ∙ ap (λ (ts : List Tree). old_trees ++ ts) (sym last);
          items_are =
              put ∙ ap (λ (is : List DraftItem). is ++ derived_item (name, tree) ∷ []) to.items_are
              ∙ append_assoc old_items (map derived_item (zip to.given made)) (derived_item (name, tree) ∷ [])
              ∙ ap (λ (is : List DraftItem). old_items ++ is)
              (sym
              (ap (λ (ts : List Tree). map derived_item (zip all ts)) last
              ∙ ap (map derived_item) (zip_push to.given made name tree given_count)
              ∙ map_push derived_item (zip to.given made) (name, tree)));
        }

    pub put_all : (all : List Tree) → made ≡ all → AreDerivedPut old_items items old_trees trees old_names names all
    put_all all e = record {
      trees_are = to.trees_are ∙ ap (λ (ts : List Tree). old_trees ++ ts) e;
      items_are = λ used have.
          let own : to.given ≡ derived_names (length all) used = to.derived.names_are used have ∙ ap (λ (ts : List Tree). derived_names (length ts) used) e in
          to.items_are ∙ ap (λ (ns : List Name). old_items ++ map derived_item (zip ns made)) own
          ∙ ap (λ (ts : List Tree). old_items ++ map derived_item (zip (derived_names (length all) used) ts)) e;
      names_are = λ used have.
          let own : to.given ≡ derived_names (length all) used = to.derived.names_are used have ∙ ap (λ (ts : List Tree). derived_names (length ts) used) e in
          let behind = same_behind old_names used to.given have in
          record { same = λ name. ap (λ (ns : List Name). contains ns name) to.derived.value ∙ behind.same name ∙ ap (λ (ns : List Name). contains (used ++ ns) name) own };
    }

-- ---- the name behind new ones

module _ (count n : ℕ) (old names : List Name) (more : n ≡ count + 1) (are : (used : List Name) → HaveSameNames old used → names ≡ derived_names n used) where
  pub names_count : count < length names
  names_count = let e = ap length (are old (same_names old)) in let long = length-derived_names n old in omega (arith, e, long, more)

  pub name_at : (name x : Name) → x ≡ get_or names count x → name ≡ x → (used : List Name) → HaveSameNames old used → slice_get (derived_names (suc count) used) count ≡ Some name
  name_at name x is e used have =
      let number : n ≡ suc count = omega (arith, more) in
      ap (λ (k : ℕ). slice_get (derived_names k used) count) (sym number) ∙ ap (λ (ns : List Name). slice_get ns count) (sym (are used have))
      ∙ slice_get-get_or names count x names_count ∙ ap (λ (y : Name). Some y) (sym is ∙ sym e)
