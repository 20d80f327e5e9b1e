-- A most general valuation has no variable that the worksheet lacks: with a fresh leaf in its place the valuation still solves, and would be no instance.
use Rattle.std.specs.Prelude.{◌≡◌, ◌==◌, ℕ, Bool, true, false, if◌then◌else◌, Contains, List, [], ◌∷◌, map, slice_index_or, Option, Some, None, refl}
use Rattle.std.specs.List.{AllByRecursion}
use Rattle.std.proofs.Common.{sym, ap, subst, ◌∙◌, arith, cond, inl, inr}
use Rattle.std.proofs.lemmas.Bool.Decides.{nat_tests}
use Rattle.std.proofs.lemmas.List.Elements.{Contains-append_left, Contains-append_right, Contains-append_cases}
use Rattle.mm_base.specs.declared.symbols.Sym.{Sym}
use Rattle.mm_base.specs.declared.symbols.Typecode.{Typecode}
use Rattle.mm_base.specs.declared.tree.Tree.{Tree}
use Rattle.mm_base.specs.declared.tree.Tree.TheVariants.{Var, Fresh, Node}
use Rattle.mm_base.specs.Trees.{Each}
use Rattle.mm_base.proofs.TreeInduction.{tree_ind}
use Rattle.mm_model.specs.Book.{Database}
use Rattle.mm_model.proofs.TypedLaws.{code-Var, code-Work, typed-Var, typed-Work}
use Rattle.sheet_text.specs.declared.sheet.Given.{Given}
use Rattle.sheet_text.specs.declared.sheet.Given.TheVariants as given
use Rattle.solve_model.specs.declared.bound.Bound.{Bound}
use Rattle.solve_model.specs.Trees.{Open, work, fresh, leaf_tree, open_code, replace, open_leaves, variables, flatten}
use Rattle.solve_model.specs.Solutions.{Unknown, copy, Valuation, Asked, Solves, PlacesFit, IsUnknown, IsValuation, formula_value, formula, instance, open_value, no_step}
use Rattle.solve_model.specs.MostGeneral.{Refinement, refine}
use Rattle.solve_model.proofs.TreeLaws.{replace-Var, replace-Work, replace-Fresh, replace-Node, open_leaves-Work, open_leaves-Fresh, open_leaves-Node}
use Rattle.solve_model.proofs.TreeLaws.{variables-Var, variables-Work, variables-Fresh, variables-Node}
use Rattle.solve_laws.specs.Instances.{IsClosedTree, IsClosed}
use Rattle.solve_laws.specs.NewVariables.{formula_variables, HasNot, NoNewVariable}
use Rattle.solve_laws.specs.ReplacedTypes.{IsTypedAs, KeepsTypes}
use Rattle.solve_laws.proofs.Elements.{nothing, only, here}
use Rattle.solve_laws.proofs.ReplaceLaws.{replace-replace, replace-agree, Agree}
use Rattle.solve_laws.proofs.ReplacedTypes.{code-Fresh, typed-Fresh, replaced_typed}

-- ---- replacements that agree on the variables and the open leaves of a tree

module _ (a b : Sym → Typecode → Tree) (p q : Open → Tree) where
  abbrev AgreeOn : List Sym → Type 0
  AgreeOn ss = (s : Sym) (c : Typecode) → Contains ss s → a s c ≡ b s c

  abbrev Same : Tree → Type 0
  Same t = AgreeOn (variables t) → Agree p q (open_leaves t) → replace a p t ≡ replace b q t

  all_same : (ts : List Tree) → Each Same ts → AgreeOn (flatten (map variables ts)) → Agree p q (flatten (map open_leaves ts)) → map (replace a p) ts ≡ map (replace b q) ts
  all_same [] h f g = refl
  all_same (t ∷ ts) h f g =
      let one = h.0 (λ s c o. f s c (Contains-append_left (variables t) (flatten (map variables ts)) s o)) (λ x o. g x (Contains-append_left (open_leaves t) (flatten (map open_leaves ts)) x o)) in
      let rest =
      all_same ts h.1 (λ s c o. f s c (Contains-append_right (variables t) (flatten (map variables ts)) s o))
      (λ x o. g x (Contains-append_right (open_leaves t) (flatten (map open_leaves ts)) x o)) in
      cc

  replace-agree_on : (t : Tree) → Same t
  replace-agree_on = tree_ind Same
      (λ s c f g. replace-Var a p s c ∙ f s c (rw variables-Var (here s)) ∙ sym (replace-Var b q s c))
      (λ c n f g. replace-Work a p c n ∙ rw open_leaves-Work at g (work c n) (here (work c n)) ∙ sym (replace-Work b q c n))
      (λ c n f g. replace-Fresh a p c n ∙ rw open_leaves-Fresh at g (fresh c n) (here (fresh c n)) ∙ sym (replace-Fresh b q c n))
      (λ l c ts h f g. replace-Node a p l c ts ∙ ap (λ us. Node l c us) (all_same ts h (rw variables-Node at f) (rw open_leaves-Node at g)) ∙ sym (replace-Node b q l c ts))

-- ---- a refinement keeps the variables of a tree

module _ (r : Refinement) (s : Sym) where
  abbrev Stays : Tree → Type 0
  Stays t = Contains (variables t) s → Contains (variables (refine r t)) s

  all_stay : (ts : List Tree) → Each Stays ts → Contains (flatten (map variables ts)) s → Contains (flatten (map variables (map (refine r) ts))) s
  all_stay [] h o = o
  all_stay (t ∷ ts) h o = elim (Contains-append_cases (variables t) (flatten (map variables ts)) s o) [
    | inl one ↦ Contains-append_left (variables (refine r t)) (flatten (map variables (map (refine r) ts))) s (h.0 one)
    | inr later ↦ Contains-append_right (variables (refine r t)) (flatten (map variables (map (refine r) ts))) s (all_stay ts h.1 later)
  ]

  variable_stays : (t : Tree) → Stays t
  variable_stays = tree_ind Stays
      (λ v c o. rw replace-Var o)
      (λ c n o. absurd (nothing s (rw variables-Work at o)))
      (λ c n o. absurd (nothing s (rw variables-Fresh at o)))
      (λ l c ts h o. rw (replace-Node, variables-Node) (all_stay ts h (rw variables-Node at o)))

-- ---- a fresh leaf in the place of a variable

module _ (s : Sym) where
  abbrev without : Sym → Typecode → Tree
  without v c = if v.0 == s.0 then Fresh c 0 else Var v c

  abbrev freed : Tree → Tree
  freed t = replace without leaf_tree t

  abbrev IsGone : Tree → Type 0
  IsGone t = Contains (variables (freed t)) s → ⊥

  same_number : (n m : ℕ) → n ≡ m → (n == m) ≡ false → ⊥
  same_number n m e h = let yes : (n == m) ≡ true = grind (arith, nat_tests) in cc

  gone_by : (v : Sym) (c : Typecode) (b : Bool) → (v.0 == s.0) ≡ b → Contains (variables (cond b (Fresh c 0) (Var v c))) s → ⊥
  gone_by v c true e o = nothing s (rw variables-Fresh at o)
  gone_by v c false e o = same_number v.0 s.0 (ap (λ (w : Sym). w.0) (only s v (rw variables-Var at o))) e

  all_gone : (ts : List Tree) → Each IsGone ts → Contains (flatten (map variables (map freed ts))) s → ⊥
  all_gone [] h o = nothing s o
  all_gone (t ∷ ts) h o = elim (Contains-append_cases (variables (freed t)) (flatten (map variables (map freed ts))) s o) [ inl one ↦ h.0 one | inr later ↦ all_gone ts h.1 later ]

  is_gone : (t : Tree) → IsGone t
  is_gone = tree_ind IsGone
      (λ v c o. gone_by v c (v.0 == s.0) refl (rw replace-Var at o))
      (λ c n o. nothing s (rw (replace-Work, variables-Work) at o))
      (λ c n o. nothing s (rw (replace-Fresh, variables-Fresh) at o))
      (λ l c ts h o. all_gone ts h (rw (replace-Node, variables-Node) at o))

  other_by : (v : Sym) (c : Typecode) (b : Bool) → (v.0 == s.0) ≡ b → (v ≡ s → ⊥) → cond b (Fresh c 0) (Var v c) ≡ Var v c
  other_by v c true e h = absurd (h (is_it v e))
    where
      is_it : (w : Sym) → (w.0 == s.0) ≡ true → w ≡ s
      is_it w f = let number : w.0 ≡ s.0 = grind (arith, nat_tests) in ap (λ n. let x : Sym = record { 0 = n } in x) number
  other_by v c false e h = refl

  -- another variable stays
  stays_other : (v : Sym) (c : Typecode) → (v ≡ s → ⊥) → freed (Var v c) ≡ Var v c
  stays_other v c h = replace-Var without leaf_tree v c ∙ other_by v c (v.0 == s.0) refl h

  module _ (db : Database) (place : ℕ) where
    typed_by : (v : Sym) (c : Typecode) (b : Bool) → IsTypedAs db.rows place c (cond b (Fresh c 0) (Var v c))
    typed_by v c true = record { code = code-Fresh c 0; typed = typed-Fresh db.rows place c 0 }
    typed_by v c false = record { code = code-Var v c; typed = typed-Var db.rows place v c }

    typed_leaf : (x : Open) → IsTypedAs db.rows place (open_code x) (leaf_tree x)
    typed_leaf (work c n) = record { code = code-Work c n; typed = typed-Work db.rows place c n }
    typed_leaf (fresh c n) = record { code = code-Fresh c n; typed = typed-Fresh db.rows place c n }

    keeps : KeepsTypes db.rows place without leaf_tree
    keeps = record { variables = λ v c. typed_by v c (v.0 == s.0); open_leaves = typed_leaf }

  -- ---- the valuation with it solves what the valuation solves

  module _ (g : Valuation) where
    abbrev other : Valuation
    other u = freed (g u)

    freed-instance : (i : ℕ) (t : Tree) → IsClosedTree t → freed (instance g i t) ≡ instance other i t
    freed-instance i t closed =
        replace-replace without (λ v c. g (copy i v c)) leaf_tree leaf_tree t
        ∙ replace-agree (λ v c. freed (g (copy i v c))) (λ v c. other (copy i v c)) (λ x. freed (leaf_tree x)) leaf_tree (λ v c. refl) t (λ x o. absurd (closed x o))

    at_open : (x : Open) → freed (open_value g x) ≡ open_value other x
    at_open (work c n) = refl
    at_open (fresh c n) = replace-Fresh without leaf_tree c n

    freed-formula_value : (i : ℕ) (o : Option Tree) → (Contains (formula_variables o) s → ⊥) → freed (formula_value g i o) ≡ formula_value other i o
    freed-formula_value i None h = refl
    freed-formula_value i (Some t) h =
        replace-replace without (λ v c. Var v c) leaf_tree (open_value g) t
        ∙ replace-agree_on (λ v c. freed (Var v c)) (λ v c. Var v c) (λ x. freed (open_value g x)) (open_value other) t
        (λ v c o. stays_other v c (λ e. h (subst (Contains (variables t)) e o))) (λ x o. at_open x)

    module _ (bound : Bound) (lacks : HasNot bound s) where
      freed-formula : (i : ℕ) → freed (formula bound g i) ≡ formula bound other i
      freed-formula i = freed-formula_value i (slice_index_or bound.steps i no_step).tree (lacks i)

      places_fit : (i : ℕ) (gs : List Given) (es : List Tree) → AllByRecursion IsClosedTree es → PlacesFit bound g i gs es → PlacesFit bound other i gs es
      places_fit i [] es h f = f
      places_fit i (x ∷ gs) [] h f = f
      places_fit i (given.Gap ∷ gs) (e ∷ es) h f = places_fit i gs es h.1 f
      places_fit i (given.Step k ∷ gs) (e ∷ es) h f = (sym (freed-instance i e h.0) ∙ ap freed f.0 ∙ freed-formula k, places_fit i gs es h.1 f.1)

      solves_one : (x : Asked) → IsClosed x → Solves bound g x → Solves bound other x
      solves_one x closed h = record {
        conclusion = sym (freed-instance x.step x.assertion.tree closed.0) ∙ ap freed h.conclusion ∙ freed-formula x.step;
        places = places_fit x.step x.places x.assertion.hyps closed.1 h.places;
      }

      solves_all : (xs : List Asked) → AllByRecursion IsClosed xs → AllByRecursion (Solves bound g) xs → AllByRecursion (Solves bound other) xs
      solves_all [] closed h = h
      solves_all (x ∷ xs) closed h = (solves_one x closed.0 h.0, solves_all xs closed.1 h.1)

    other_valuation : (db : Database) (place : ℕ) (On : Unknown → Type 0) → IsValuation db place On g → IsValuation db place On other
    other_valuation db place On h = record {
      code = λ u on. (replaced_typed db.rows place without leaf_tree (keeps db place) (g u) (h.typed u on)).code ∙ h.code u on;
      typed = λ u on. (replaced_typed db.rows place without leaf_tree (keeps db place) (g u) (h.typed u on)).typed;
    }

pub no_new_variable : (db : Database) (bound : Bound) (accepted : List Asked) → NoNewVariable db bound accepted
no_new_variable db bound accepted g u s general closed on lacks o =
    let is = general.general (other s g) (other_valuation s g db bound.place (IsUnknown bound accepted) general.is_valuation) (solves_all s g bound lacks accepted closed general.solves) in
    is_gone s (g u) (subst (λ t. Contains (variables t) s) (sym (is.same u on)) (variable_stays is.by s (g u) o))
