-- Written steps whose trees are replaced by a function.
use Rattle.std.specs.Prelude.{◌≡◌, ◌++◌, ◌||◌, not, cond, ◌+◌, ℕ, Bool, true, false, List, [], ◌∷◌, map, zip, option_map, refl}
use Rattle.std.specs.List.{list_any, position_or_len, AllByRecursion}
use Rattle.std.proofs.Common.{sym, ap, ◌∙◌, inl, inr}
use Rattle.std.proofs.lemmas.Bool.{cases_Bool}
use Rattle.std.proofs.lemmas.List.{map-append}
use Rattle.mm_base.specs.declared.tree.Tree.{Tree}
use Rattle.mm_model.specs.Names.{Name}
use Rattle.solve_model.specs.Trees.{same_tree}
use Rattle.solve_laws.proofs.SameTrees.{same_tree-Decides}
use Rattle.written_model.specs.declared.filled.Filled.{Filled}
use Rattle.written_model.specs.WrittenSteps.{Use, WrittenStep, WrittenItem, comment, step, steps_in, over_step, trees}
use Rattle.written_model.specs.Filled.{new_trees, fill, made_step}
use Rattle.answer_laws.proofs.Elements.{all_by-append}

abbrev pub move_use : (Tree → Tree) → Use → Use
move_use F u = record u { values = map F u.values }

-- the step with its tree and its values replaced
abbrev pub move_step : (Tree → Tree) → WrittenStep → WrittenStep
move_step F e = record e { tree = F e.tree; by = option_map (move_use F) e.by }

-- the steps of replaced items
pub steps-over : (m : WrittenStep → WrittenStep) (is : List WrittenItem) → steps_in (map (over_step m) is) ≡ map m (steps_in is)
steps-over m [] = refl
steps-over m (comment lines ∷ is) = steps-over m is
steps-over m (step e ∷ is) = ap (λ es. m e ∷ es) (steps-over m is)

pub trees-moved : (F : Tree → Tree) (es : List WrittenStep) → trees (map (move_step F) es) ≡ map F (trees es)
trees-moved F [] = refl
trees-moved F (e ∷ es) = ap (λ ts. F e.tree ∷ ts) (trees-moved F es)

pub made-moved : (F : Tree → Tree) (names : List Name) (ts : List Tree) → map (over_step (move_step F)) (map step (map made_step (zip names ts))) ≡ map step (map made_step (zip names (map F ts)))
made-moved F [] ts = refl
made-moved F (n ∷ ns) [] = refl
made-moved F (n ∷ ns) (t ∷ ts) = ap (λ is. step (made_step (n, F t)) ∷ is) (made-moved F ns ts)

-- ---- a replacement that can be taken back

both_true : (a b : Bool) → (a ≡ true → b ≡ true) → (b ≡ true → a ≡ true) → a ≡ b
both_true true b h k = sym (h refl)
both_true false true h k = k refl
both_true false false h k = refl

module _ (F B : Tree → Tree) where
  abbrev pub Back : Tree → Type 0
  Back t = B (F t) ≡ t

  pub same-moved : (t u : Tree) → Back t → Back u → same_tree (F t) (F u) ≡ same_tree t u
  same-moved t u h k = both_true (same_tree (F t) (F u)) (same_tree t u)
      (λ e. (same_tree-Decides t u).1 (sym h ∙ ap B ((same_tree-Decides (F t) (F u)).0 e) ∙ k))
      (λ e. (same_tree-Decides (F t) (F u)).1 (ap F ((same_tree-Decides t u).0 e)))

  any-moved : (t : Tree) (us : List Tree) → Back t → AllByRecursion Back us → list_any (same_tree (F t)) (map F us) ≡ list_any (same_tree t) us
  any-moved t [] h k = refl
  any-moved t (u ∷ us) h k = ap (λ x. x || list_any (same_tree (F t)) (map F us)) (same-moved t u h k.0) ∙ ap (λ x. same_tree t u || x) (any-moved t us h k.1)

  place-moved : (t : Tree) (us : List Tree) → Back t → AllByRecursion Back us → position_or_len (same_tree (F t)) (map F us) ≡ position_or_len (same_tree t) us
  place-moved t [] h k = refl
  place-moved t (u ∷ us) h k =
      ap (λ x. cond (not x) (1 + position_or_len (same_tree (F t)) (map F us)) 0) (same-moved t u h k.0)
      ∙ ap (λ n. cond (not (same_tree t u)) (1 + n) 0) (place-moved t us h k.1)

  new-moved : (seen ws : List Tree) → AllByRecursion Back seen → AllByRecursion Back ws → new_trees (map F seen) (map F ws) ≡ map F (new_trees seen ws)
  new-moved seen [] h k = refl
  new-moved seen (w ∷ ws) h k = elim (cases_Bool (list_any (same_tree w) seen)) [
    | inl e ↦ rw (any-moved w seen k.0 h, e) (new-moved seen ws h k.1)
    | inr e ↦
        let rest = new-moved (seen ++ w ∷ []) ws (all_by-append Back seen (w ∷ []) h (k.0, tt)) k.1 in
        rw (any-moved w seen k.0 h, e) (ap (λ us. F w ∷ us) (ap (λ us. new_trees us (map F ws)) (sym (map-append F seen (w ∷ []))) ∙ rest))
  ]

  places-moved : (es ws : List Tree) → AllByRecursion Back es → AllByRecursion Back ws
      → map (λ w. position_or_len (same_tree w) (map F es)) (map F ws) ≡ map (λ w. position_or_len (same_tree w) es) ws
  places-moved es [] h k = refl
  places-moved es (w ∷ ws) h k =
      ap (λ n. n ∷ map (λ w. position_or_len (same_tree w) (map F es)) (map F ws)) (place-moved w es k.0 h)
      ∙ ap (λ ns. position_or_len (same_tree w) es ∷ ns) (places-moved es ws h k.1)

-- what is new is wanted
pub new_by : (P : Tree → Type 0) (seen ws : List Tree) → AllByRecursion P ws → AllByRecursion P (new_trees seen ws)
new_by P seen [] h = tt
new_by P seen (w ∷ ws) h = elim (cases_Bool (list_any (same_tree w) seen)) [
  | inl e ↦ rw e (new_by P seen ws h.1)
  | inr e ↦ rw e (h.0, new_by P (seen ++ w ∷ []) ws h.1)
]

module _ (F B : Tree → Tree) where
  -- filled with the replaced trees, the same places are filled
  pub fill-moved : (es ws : List Tree) → AllByRecursion (Back F B) es → AllByRecursion (Back F B) ws
      → fill (map F es) (map F ws) ≡ record { made = map F (fill es ws).made; places = (fill es ws).places }
  fill-moved es ws h k =
      let made = new-moved F B es ws h k in
      let all = all_by-append (Back F B) es (new_trees es ws) h (new_by (Back F B) es ws k) in
      let joined : map F es ++ new_trees (map F es) (map F ws) ≡ map F (es ++ new_trees es ws) = ap (λ us. map F es ++ us) made ∙ sym (map-append F es (new_trees es ws)) in
      let places = ap (λ us. map (λ w. position_or_len (same_tree w) us) (map F ws)) joined ∙ places-moved F B (es ++ new_trees es ws) ws all k in
      filled made places
    where
      filled : {ts us : List Tree} {ns ms : List ℕ} → ts ≡ us → ns ≡ ms → ◌≡◌ {A = Filled} (record { made = ts; places = ns }) (record { made = us; places = ms })
      filled {us = us} {ns = ns} e g = ap (λ xs. let f : Filled = record { made = xs; places = ns } in f) e ∙ ap (λ xs. let f : Filled = record { made = us; places = xs } in f) g
