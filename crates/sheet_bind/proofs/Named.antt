-- Work variables by the typecode's name and the number in a token.
use Rattle.std.specs.Prelude.{◌≡◌, ℕ, Bool, true, false, List, [], ◌∷◌, find, filter_map, slice_get, Option, Some, None, option_map, refl}
use Rattle.std.specs.Bool.{then_some}
use Rattle.std.specs.List.{cons_option}
use Rattle.std.specs.Str.{bytes_eq}
use Rattle.std.proofs.Common.{sym, ap, ◌∙◌, cond}
use Rattle.mm_base.specs.declared.symbols.Typecode.{Typecode}
use Rattle.mm_model.specs.declared.rows.Leaf.{Leaf}
use Rattle.mm_model.specs.declared.rows.Leaf.TheVariants as leaf
use Rattle.mm_model.specs.Names.{Name}
use Rattle.solve_model.specs.Formulas.{work_number}
use Rattle.work_vars.specs.Spelled.{number_by}
use Rattle.sheet_bind.specs.Seen.{name_in, work_leaf}
use Rattle.sheet_bind.specs.Named.{leaf_named}

module _ (symbols : List Name) where
  leaf_by : Option (Name × ℕ) → Typecode → Option Leaf
  leaf_by o c = option_map (λ n. leaf.Work c n) (number_by (name_in symbols c.0) o)

  none_named : (codes : List Typecode) → slice_get (filter_map (leaf_by None) codes) 0 ≡ None
  unfolding leaf_by
  none_named [] = refl
  none_named (c ∷ cs) = none_named cs

  first_or : (c : Typecode) (n : ℕ) (b : Bool) (rest : List Leaf) (o : Option Typecode) → slice_get rest 0 ≡ option_map (λ (d : Typecode). leaf.Work d n) o
      → slice_get (cons_option (option_map (λ (m : ℕ). leaf.Work c m) (then_some b n)) rest) 0 ≡ option_map (λ (d : Typecode). leaf.Work d n) (cond b (Some c) o)
  first_or c n true rest o e = refl
  first_or c n false rest o e = e

  some_named : (p : Name × ℕ) (codes : List Typecode) → slice_get (filter_map (leaf_by (Some p)) codes) 0 ≡ leaf_named symbols codes (Some p)
  unfolding leaf_by
  some_named p [] = refl
  some_named p (c ∷ cs) = first_or c p.1 (bytes_eq (name_in symbols c.0) p.0) (filter_map (leaf_by (Some p)) cs) (find (λ (d : Typecode). bytes_eq (name_in symbols d.0) p.0) cs) (some_named p cs)

  named_by : (o : Option (Name × ℕ)) (codes : List Typecode) → slice_get (filter_map (leaf_by o) codes) 0 ≡ leaf_named symbols codes o
  named_by None codes = none_named codes
  named_by (Some p) codes = some_named p codes

  same_leaves : (token : Name) (o : Option (Name × ℕ)) → ((code : Name) → work_number code token ≡ number_by code o) → (codes : List Typecode)
      → filter_map (λ (c : Typecode). option_map (λ n. leaf.Work c n) (work_number (name_in symbols c.0) token)) codes ≡ filter_map (leaf_by o) codes
  unfolding leaf_by
  same_leaves token o h [] = refl
  same_leaves token o h (c ∷ cs) =
      ap (λ (m : Option ℕ). cons_option (option_map (λ n. leaf.Work c n) m)
      (filter_map (λ (c : Typecode). option_map (λ n. leaf.Work c n) (work_number (name_in symbols c.0) token)) cs)) (h (name_in symbols c.0))
      ∙ ap (cons_option (option_map (λ n. leaf.Work c n) (number_by (name_in symbols c.0) o))) (same_leaves token o h cs)

  -- the first typecode by which the token is a work variable's name is the first that has the name in it
  pub named_is : (token : Name) (o : Option (Name × ℕ)) → ((code : Name) → work_number code token ≡ number_by code o) → (codes : List Typecode)
      → leaf_named symbols codes o ≡ work_leaf symbols codes token
  named_is token o h codes = sym (ap (λ (ls : List Leaf). slice_get ls 0) (same_leaves token o h codes) ∙ named_by o codes)
