-- The variables of hypotheses, one after the other.
use Rattle.std.specs.Prelude.{◌≡◌, ℕ, ◌<◌, ◌≤◌, ◌+◌, Bool, true, false, List, [], ◌∷◌, ◌++◌, length, map, take, refl}
use Rattle.std.specs.List.{AllByRecursion, flat_map}
use Rattle.std.proofs.Common.{get_or, sym, ap, subst, ◌∙◌, arith, cond}
use Rattle.std.proofs.lemmas.List.{append_assoc, length-map, length-append, take_more, append-nil}
use Rattle.mm_model.specs.declared.frames.Hyp.{Hyp}
use Rattle.mm_model.specs.Productions.{TypedVariable, typed_by, typed_variables, floats}
use Rattle.term_model.specs.Terms.{Term, Free}
use Rattle.chain_laws.specs.declared.leaves.WorkNode.{WorkNode}
use Rattle.chain_laws.specs.declared.leaves.VariableNode.{VariableNode}
use Rattle.mm_base.specs.declared.tree.Tree.{Tree}
use Rattle.mm_model.specs.declared.rows.Production.{Production}
use Rattle.term_model.specs.declared.shape.Id.{Id}
use Rattle.chain_laws.specs.Adding.{Rooted, Listed, added, run, numbered, free_of}
use Rattle.step_chain.specs.Grown.{IsRooted, AreListed, AreVariablesIn}
use Rattle.step_chain.specs.Candidate.{table_of, copied, root_of, roots_of}
use Rattle.step_chain.specs.Copied.{typed_if, typed_of, free_at}

numbered_more : (n : ℕ) (vs ws : List TypedVariable) → numbered n (vs ++ ws) ≡ numbered n vs ++ numbered (n + length vs) ws
numbered_more n [] ws = let number : n ≡ n + 0 = omega arith in ap (λ (k : ℕ). numbered k ws) number
numbered_more n (v ∷ vs) ws =
    let number : n + 1 + length vs ≡ n + length (v ∷ vs) = omega arith in
    ap (λ (xs : List VariableNode). record { sym = v.sym; code = v.code; node = n } ∷ xs) (numbered_more (n + 1) vs ws ∙ ap (λ (k : ℕ). numbered (n + 1) vs ++ numbered k ws) number)

length-numbered : (n : ℕ) (vs : List TypedVariable) → length (numbered n vs) ≡ length vs
length-numbered n [] = refl
length-numbered n (v ∷ vs) = let rest = length-numbered (n + 1) vs in omega (arith, rest)

typed_cons : (h : Hyp) (hs : List Hyp) → typed_variables (h ∷ hs) ≡ typed_of h ++ typed_variables hs
typed_cons h hs = by h.floating
  where
    by : (b : Bool) → flat_map (λ (g : Hyp). typed_by g.formula) (cond b (h ∷ floats hs) (floats hs)) ≡ typed_if b h ++ typed_variables hs
    by true = refl
    by false = refl

typed_append : (hs : List Hyp) (h : Hyp) → typed_variables (hs ++ h ∷ []) ≡ typed_variables hs ++ typed_of h
typed_append [] h = typed_cons h [] ∙ append-nil (typed_of h)
typed_append (g ∷ hs) h =
    typed_cons g (hs ++ h ∷ []) ∙ ap (λ (vs : List TypedVariable). typed_of g ++ vs) (typed_append hs h) ∙ sym (append_assoc (typed_of g) (typed_variables hs) (typed_of h))
    ∙ ap (λ (vs : List TypedVariable). vs ++ typed_of h) (sym (typed_cons g hs))

-- one hypothesis more
pub variables_more : (n k : ℕ) (hs : List Hyp) (h : Hyp) (old new : List VariableNode) → h ≡ get_or hs k h → k < length hs
    → old ≡ numbered n (typed_variables (take k hs)) → new ≡ old ++ numbered (n + length old) (typed_of h)
    → new ≡ numbered n (typed_variables (take (k + 1) hs))
variables_more n k hs h old new is below o e =
    let vs = typed_variables (take k hs) in
    let list : typed_variables (take (k + 1) hs) ≡ vs ++ typed_of h = ap typed_variables (take_more hs k h below ∙ ap (λ (g : Hyp). take k hs ++ g ∷ []) (sym is)) ∙ typed_append (take k hs) h in
    let count : length old ≡ length vs = ap length o ∙ length-numbered n vs in
    e ∙ ap (λ (j : ℕ). old ++ numbered (n + j) (typed_of h)) count ∙ ap (λ (xs : List VariableNode). xs ++ numbered (n + length vs) (typed_of h)) o
    ∙ sym (numbered_more n vs (typed_of h)) ∙ ap (numbered n) (sym list)

-- their free nodes
pub copies_are : (n : ℕ) (vs : List TypedVariable) → map free_at (numbered n vs) ≡ map free_of vs
copies_are n [] = refl
copies_are n (v ∷ vs) = ap (λ (ts : List Term). Free v.code ∷ ts) (copies_are (n + 1) vs)

pub numbered_in : (n m : ℕ) (vs : List TypedVariable) → n + length vs ≤ m → AllByRecursion (λ (v : VariableNode). v.node < m) (numbered n vs)
numbered_in n m [] h = tt
numbered_in n m (v ∷ vs) h = (omega (arith, h), numbered_in (n + 1) m vs (omega (arith, h)))

-- the same with a table of work variables that is empty
pub without_works : (rows : List Production) (works : List WorkNode) (vars : List VariableNode) (t : Tree) (next after : List Term) (id : Id)
    → works ≡ [] → IsRooted (added rows works vars t next) after id → IsRooted (added rows [] vars t next) after id
without_works rows works vars t next after id none r = subst (λ (ws : List WorkNode). IsRooted (added rows ws vars t next) after id) none r

pub all_without_works : (rows : List Production) (works : List WorkNode) (vars : List VariableNode) (ts : List Tree) (after last : List Term)
    (ids : List Id)
    → works ≡ [] → AreListed (run (map (added rows works vars) ts) after) last ids → AreListed (run (map (added rows [] vars) ts) after) last ids
all_without_works rows works vars ts after last ids none l = subst (λ (ws : List WorkNode). AreListed (run (map (added rows ws vars) ts) after) last ids) none l

-- the facts of a candidate's nodes, from those of the calls
module _ (rows : List Production) (nodes : List Term) (hyps : List Hyp) (t : Tree) (ts : List Tree) where
  pub table_is : (n : ℕ) (items given : List VariableNode) → n ≡ length nodes → items ≡ numbered n (typed_variables hyps) → given ≡ items → given ≡ table_of nodes hyps
  table_is n items given e h g = g ∙ h ∙ ap (λ (k : ℕ). numbered k (typed_variables hyps)) e

  pub copied_is : (given : List VariableNode) (next : List Term) → given ≡ table_of nodes hyps → next ≡ nodes ++ map free_at given → next ≡ copied nodes hyps
  copied_is given next g e = e ∙ ap (λ (vs : List VariableNode). nodes ++ map free_at vs) g ∙ ap (λ (more : List Term). nodes ++ more) (copies_are (length nodes) (typed_variables hyps))

  pub table_in : (given : List VariableNode) (next : List Term) → given ≡ table_of nodes hyps → next ≡ copied nodes hyps → AreVariablesIn (length next) given
  table_in given next g e =
      let count : length next ≡ length nodes + length (typed_variables hyps) =
      ap length e ∙ length-append nodes (map free_of (typed_variables hyps))
      ∙ ap (λ (k : ℕ). length nodes + k) (length-map (typed_variables hyps) free_of) in
      subst (AreVariablesIn (length next)) (sym g) (numbered_in (length nodes) (length next) (typed_variables hyps) (omega (arith, count)))

  rooted_is : (given : List VariableNode) (next : List Term) → given ≡ table_of nodes hyps → next ≡ copied nodes hyps → added rows [] given t next ≡ root_of rows nodes hyps t
  rooted_is given next g e = ap (λ (vs : List VariableNode). added rows [] vs t next) g ∙ ap (added rows [] (table_of nodes hyps) t) e

  pub root_is : (given : List VariableNode) (next after : List Term) (id : Id) → given ≡ table_of nodes hyps → next ≡ copied nodes hyps
      → IsRooted (added rows [] given t next) after id → id.0 ≡ (root_of rows nodes hyps t).root
  root_is given next after id g e r = r.root ∙ ap (λ (x : Rooted). x.root) (rooted_is given next g e)

  pub roots_are : (given other : List VariableNode) (next after last : List Term) (id : Id) (ids : List Id) → given ≡ table_of nodes hyps
      → other ≡ table_of nodes hyps → next ≡ copied nodes hyps → IsRooted (added rows [] given t next) after id
      → AreListed (run (map (added rows [] other) ts) after) last ids → AreListed (roots_of rows nodes hyps t ts) last ids
  roots_are given other next after last id ids g o e r l =
      let same : run (map (added rows [] other) ts) after ≡ roots_of rows nodes hyps t ts =
      ap (λ (vs : List VariableNode). run (map (added rows [] vs) ts) after) o
      ∙ ap (run (map (added rows [] (table_of nodes hyps)) ts)) (r.nodes_are ∙ ap (λ (x : Rooted). x.nodes) (rooted_is given next g e)) in
      subst (λ (x : Listed). AreListed x last ids) same l
