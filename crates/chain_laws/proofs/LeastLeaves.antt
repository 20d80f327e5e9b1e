-- The least work variable whose bindings end at a node.
use Rattle.std.specs.Prelude.{◌≡◌, ℕ, ◌==◌, nat_le, Bool, true, false, List, [], ◌∷◌, Option, Some, None, Contains, refl}
use Rattle.std.proofs.Common.{◌≤◌, zero, suc, sym, ap, subst, arith, cond}
use Rattle.std.proofs.lemmas.Bool.Decides.{nat_tests}
use Rattle.term_model.specs.Links.{Link, end_of}
use Rattle.chain_laws.specs.declared.leaves.WorkNode.{WorkNode}
use Rattle.chain_laws.specs.Leaves.{lesser, least_at}

-- the first of a list, and one further on
pub first : {X : Type 0} (x : X) (xs : List X) → Contains (x ∷ xs) x
first x xs = (0, omega arith, refl)

pub later : {X : Type 0} (x y : X) (xs : List X) → Contains xs x → Contains (y ∷ xs) x
later x y xs (k, l, e) = (suc k, omega (arith, l), e)

pub nothing : {X : Type 0} (x : X) → Contains [] x → ⊥
nothing x h = omega (arith, h.1)

-- it is one of them, ends there, and has the least number
pub record IsLeastAt (links : List Link) (e : ℕ) (works : List WorkNode) (w : WorkNode) : Type 0 where
  pub is_one : Contains works w
  pub ends : end_of links w.node ≡ e
  pub least : (v : WorkNode) → Contains works v → end_of links v.node ≡ e → w.number ≤ v.number

-- none of them ends there
abbrev pub NoneAt : List Link → ℕ → List WorkNode → Type 0
NoneAt links e works = (v : WorkNode) → Contains works v → end_of links v.node ≡ e → ⊥

abbrev pub IsAnswerAt : List Link → ℕ → List WorkNode → Option WorkNode → Type 0
IsAnswerAt links e works None = NoneAt links e works
IsAnswerAt links e works (Some w) = IsLeastAt links e works w

module _ (links : List Link) (e : ℕ) where
  none_more : (w : WorkNode) (ws : List WorkNode) → (end_of links w.node ≡ e → ⊥) → NoneAt links e ws → NoneAt links e (w ∷ ws)
  none_more w ws off none v (zero, l, is) ends = off (subst (λ (x : WorkNode). end_of links x.node ≡ e) (sym is) ends)
  none_more w ws off none v (suc k, l, is) ends = none v (k, omega (arith, l), is) ends

  least_of_none : (w : WorkNode) (ws : List WorkNode) → end_of links w.node ≡ e → NoneAt links e ws → IsLeastAt links e (w ∷ ws) w
  least_of_none w ws here none = record { is_one = first w ws; ends = here; least = at_least }
    where
      at_least : (v : WorkNode) → Contains (w ∷ ws) v → end_of links v.node ≡ e → w.number ≤ v.number
      at_least v (zero, l, is) ends = let same : w.number ≡ v.number = ap (λ (x : WorkNode). x.number) is in omega (arith, same)
      at_least v (suc k, l, is) ends = absurd (none v (k, omega (arith, l), is) ends)

  -- one that does not end there changes nothing
  least_past : (w : WorkNode) (ws : List WorkNode) (o : WorkNode) → (end_of links w.node ≡ e → ⊥) → IsLeastAt links e ws o → IsLeastAt links e (w ∷ ws) o
  least_past w ws o off h = record { is_one = later o w ws h.is_one; ends = h.ends; least = at_least }
    where
      at_least : (v : WorkNode) → Contains (w ∷ ws) v → end_of links v.node ≡ e → o.number ≤ v.number
      at_least v (zero, l, is) ends = absurd (off (subst (λ (x : WorkNode). end_of links x.node ≡ e) (sym is) ends))
      at_least v (suc k, l, is) ends = h.least v (k, omega (arith, l), is) ends

  least_of_two : (w v : WorkNode) (ws : List WorkNode) (b : Bool) → nat_le w.number v.number ≡ b → end_of links w.node ≡ e → IsLeastAt links e ws v → IsLeastAt links e (w ∷ ws) (cond b w v)
  least_of_two w v ws true is here h = record { is_one = first w ws; ends = here; least = at_least }
    where
      at_least : (u : WorkNode) → Contains (w ∷ ws) u → end_of links u.node ≡ e → w.number ≤ u.number
      at_least u (zero, l, same) ends = let same' : w.number ≡ u.number = ap (λ (x : WorkNode). x.number) same in omega (arith, same')
      at_least u (suc k, l, same) ends = let less : w.number ≤ v.number = grind (arith, nat_tests) in omega (arith, less, h.least u (k, omega (arith, l), same) ends)
  least_of_two w v ws false is here h = record { is_one = later v w ws h.is_one; ends = h.ends; least = at_least }
    where
      at_least : (u : WorkNode) → Contains (w ∷ ws) u → end_of links u.node ≡ e → v.number ≤ u.number
      at_least u (zero, l, same) ends =
          let same' : w.number ≡ u.number = ap (λ (x : WorkNode). x.number) same in
          let less : v.number ≤ w.number = grind (arith, nat_tests) in
          omega (arith, less, same')
      at_least u (suc k, l, same) ends = h.least u (k, omega (arith, l), same) ends

  least_more : (w : WorkNode) (ws : List WorkNode) (o : Option WorkNode) → end_of links w.node ≡ e → IsAnswerAt links e ws o → IsLeastAt links e (w ∷ ws) (lesser w o)
  least_more w ws None here h = least_of_none w ws here h
  least_more w ws (Some v) here h = least_of_two w v ws (nat_le w.number v.number) refl here h

  past : (w : WorkNode) (ws : List WorkNode) (o : Option WorkNode) → (end_of links w.node ≡ e → ⊥) → IsAnswerAt links e ws o → IsAnswerAt links e (w ∷ ws) o
  past w ws None off h = none_more w ws off h
  past w ws (Some v) off h = least_past w ws v off h

  by_test : (w : WorkNode) (ws : List WorkNode) (b : Bool) → (end_of links w.node == e) ≡ b → IsAnswerAt links e ws (least_at links e ws)
      → IsAnswerAt links e (w ∷ ws) (cond b (Some (lesser w (least_at links e ws))) (least_at links e ws))
  by_test w ws true is h = let here : end_of links w.node ≡ e = grind (arith, nat_tests) in least_more w ws (least_at links e ws) here h
  by_test w ws false is h = past w ws (least_at links e ws) (λ here. grind (arith, nat_tests)) h

  pub least_at_answers : (ws : List WorkNode) → IsAnswerAt links e ws (least_at links e ws)
  least_at_answers [] = λ v h ends. nothing v h
  least_at_answers (w ∷ ws) = by_test w ws (end_of links w.node == e) refl (least_at_answers ws)
