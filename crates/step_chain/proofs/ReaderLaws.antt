-- Trees that are read one after the other.
use Rattle.std.specs.Prelude.{◌≡◌, ℕ, ◌<◌, ◌≤◌, ◌+◌, List, [], ◌∷◌, ◌++◌, length, take, Ok, Err, refl}
use Rattle.std.specs.List.{AllByRecursion}
use Rattle.std.proofs.Common.{zero, suc, get_or, sym, ap, subst, ◌∙◌, arith, inl, inr}
use Rattle.std.proofs.lemmas.List.{take_more, map_push}
use Rattle.mm_base.specs.declared.symbols.Label.{Label}
use Rattle.mm_base.specs.declared.tree.Tree.{Tree}
use Rattle.term_model.specs.Sizes.{HaveConstants}
use Rattle.chain_laws.specs.declared.leaves.VariableNode.{VariableNode}
use Rattle.chain_laws.specs.Reading.{value_at, AreWorkNodes}
use Rattle.step_chain.specs.declared.reading.TreeFault.{TreeFault}
use Rattle.step_chain.specs.declared.reading.TreeFault.TheVariants.{TooLong, Memory}
use Rattle.step_chain.specs.Readings.{Readable, IsRead, IsReadOff}
use Rattle.step_chain.specs.Answers.{IsShort, IsFirstLong, AreTold, IsFaultOf, values_at}
use Rattle.step_chain.proofs.Lists.{all_join}

-- the first of them can be told
pub record AreShort (t : Readable) (variables : List VariableNode) (k : ℕ) : Type 0 where
  pub each : (constants : Label → ℕ) → HaveConstants constants t.nodes → AreWorkNodes t.nodes t.works → AllByRecursion (IsShort constants) (values_at t (take k variables))

first_long : (constants : Label → ℕ) (xs : List Tree) (t : Tree) (ys : List Tree) (n : ℕ) → AllByRecursion (IsShort constants) xs
    → IsRead constants t (Err (TooLong n)) → IsFirstLong constants (xs ++ t ∷ ys) n
first_long constants [] t ys n h long = inl long
first_long constants (x ∷ xs) t ys n h long = inr (h.0, first_long constants xs t ys n h.1 long)

module _ (t : Readable) (variables : List VariableNode) (k : ℕ) (w : VariableNode) (is : w ≡ get_or variables k w) (below : k < length variables) where
  abbrev here : Tree
  here = value_at t.nodes t.links t.works w.node

  one_more : values_at t (take (k + 1) variables) ≡ values_at t (take k variables) ++ here ∷ []
  one_more =
      ap (values_at t) (take_more variables k w below ∙ ap (λ (v : VariableNode). take k variables ++ v ∷ []) (sym is))
      ∙ map_push (λ (v : VariableNode). value_at t.nodes t.links t.works v.node) (take k variables) w

  pub items_more : (old new : List Tree) (u : Tree) → old ≡ values_at t (take k variables) → new ≡ old ++ u ∷ [] → u ≡ here → new ≡ values_at t (take (k + 1) variables)
  items_more old new u e f g = f ∙ ap (λ (xs : List Tree). xs ++ u ∷ []) e ∙ ap (λ (x : Tree). values_at t (take k variables) ++ x ∷ []) g ∙ sym one_more

  pub short_more : (u : Tree) → AreShort t variables k → IsReadOff t.nodes t.links t.works w.node (Ok u) → AreShort t variables (k + 1)
  short_more u h r = record {
    each = λ constants have works.
        subst (AllByRecursion (IsShort constants)) (sym one_more)
        (all_join (IsShort constants) (values_at t (take k variables)) (here ∷ []) (h.each constants have works) ((r constants have works).1, tt));
  }

  split : (vs : List VariableNode) (j : ℕ) → w ≡ get_or vs j w → j < length vs → (rest : List VariableNode) × (vs ≡ take j vs ++ w ∷ rest)
  split [] j e h = absurd (omega (arith, h))
  split (v ∷ vs) zero e h = (vs, ap (λ (x : VariableNode). x ∷ vs) (sym e))
  split (v ∷ vs) (suc j) e h = let told = split vs j e (omega (arith, h)) in (told.0, ap (λ (xs : List VariableNode). v ∷ xs) told.1)

  values_split : (xs : List VariableNode) (ys : List VariableNode) → values_at t (xs ++ w ∷ ys) ≡ values_at t xs ++ here ∷ values_at t ys
  values_split [] ys = refl
  values_split (x ∷ xs) ys = ap (λ (ts : List Tree). value_at t.nodes t.links t.works x.node ∷ ts) (values_split xs ys)

  pub fault_here : (e : TreeFault) → AreShort t variables k → IsReadOff t.nodes t.links t.works w.node (Err e) → (constants : Label → ℕ)
      → HaveConstants constants t.nodes → AreWorkNodes t.nodes t.works → IsFaultOf constants (values_at t variables) e
  fault_here Memory h r constants have works = tt
  fault_here (TooLong n) h r constants have works =
      let parts = split variables k is below in
      subst (λ (ts : List Tree). IsFirstLong constants ts n) (sym (ap (values_at t) parts.1 ∙ values_split (take k variables) parts.0))
      (first_long constants (values_at t (take k variables)) here (values_at t parts.0) n (h.each constants have works) (r constants have works))

pub all_told : (t : Readable) (variables : List VariableNode) (k : ℕ) (items given : List Tree) → given ≡ items → length variables ≤ k
    → items ≡ values_at t (take k variables) → AreShort t variables k
    → (constants : Label → ℕ) → HaveConstants constants t.nodes → AreWorkNodes t.nodes t.works → AreTold constants (values_at t variables) given
all_told t variables k items given same past is h constants have works =
    let whole = take_all variables k past in
    (same ∙ is ∙ ap (values_at t) whole, subst (λ (vs : List VariableNode). AllByRecursion (IsShort constants) (values_at t vs)) whole (h.each constants have works))
  where
    take_all : (xs : List VariableNode) (k : ℕ) → length xs ≤ k → take k xs ≡ xs
    take_all [] zero h = refl
    take_all [] (suc k) h = refl
    take_all (x ∷ xs) zero h = absurd (omega (arith, h))
    take_all (x ∷ xs) (suc k) h = ap (λ (ys : List VariableNode). x ∷ ys) (take_all xs k (omega (arith, h)))

abbrev pub no_node : VariableNode
no_node = record { sym = record { 0 = 0 }; code = record { 0 = record { 0 = 0 } }; node = 0 }

pub own_item : (vs : List VariableNode) (k : ℕ) → k < length vs → get_or vs k no_node ≡ get_or vs k (get_or vs k no_node)
own_item vs k h = same vs k no_node (get_or vs k no_node) h
  where
    same : (xs : List VariableNode) (k : ℕ) (d e : VariableNode) → k < length xs → get_or xs k d ≡ get_or xs k e
    same [] k d e h = absurd (omega (arith, h))
    same (x ∷ xs) zero d e h = refl
    same (x ∷ xs) (suc k) d e h = same xs k d e (omega (arith, h))
