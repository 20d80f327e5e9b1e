-- Nodes that are found by their hash.
use Rattle.std.proofs.Common.{◌≡◌, ℕ, zero, suc, ◌<◌, ◌+◌, ◌^◌, ◌⊎◌, inl, inr, Bool, true, false, ◌&&◌, true≢false, Some, List, [], ◌∷◌, ◌++◌, length}
use Rattle.std.proofs.Common.{map, take, get_or, slice_get, if◌then◌else◌, refl, sym, ap, ◌∙◌, subst, arith}
use Rattle.std.proofs.lemmas.List.{append-nil, length-append, length-map, get_or-map, length-take-le}
use Rattle.std.proofs.lemmas.Map.Keys.{apart_from_distinct}
use Rattle.std.proofs.lemmas.Slice.Eq.{bytes_eq-Decides}
use Rattle.std.specs.List.{AllByRecursion, IsDistinct, list_any}
use Rattle.std.specs.Str.{bytes_eq}
use Rattle.indexmap.specs.IndexSet.{insert_key}
use Rattle.proof_tree.specs.declared.graph.ProofNode.{ProofNode}
use Rattle.proof_tree.specs.declared.builder.Key.{Key}
use Rattle.proof_tree.specs.contracts.builder.KeyPartialEq.TheImpl.{eq-value}
use Rattle.proof_tree.specs.Graphs.{NameEarlier, NodesDiffer, IsGraph, no_node}
use Rattle.proof_tree.specs.Keys.{node_of_key, nodes_of_keys}
use Rattle.proof_tree.specs.Adding.{Grows, Adds, proof_over}
use Rattle.proof_tree.proofs.GraphLaws.{map_push}
use Rattle.proof_tree.proofs.AddLaws.{earlier_push, adds_node}

cases_order : (i j : ℕ) → (i < j) ⊎ ((i ≡ j) ⊎ (j < i))
cases_order zero zero = inr (inl refl)
cases_order zero (suc j) = inl (omega arith)
cases_order (suc i) zero = inr (inr (omega arith))
cases_order (suc i) (suc j) = elim (cases_order i j) [ inl l ↦ inl (omega (arith, l)) | inr o ↦ elim o [ inl e ↦ inr (inl (ap suc e)) | inr l ↦ inr (inr (omega (arith, l))) ] ]

abbrev pub same_key : Key → Key → Bool
same_key = eq-value.it

key_parts : (k m : Key) → same_key k m ≡ (bytes_eq k.label.items m.label.items && bytes_eq k.below.items m.below.items)
key_parts k m = refl

both : (a b : Bool) → (a && b) ≡ true → (a ≡ true) × (b ≡ true)
both true b e = (refl, e)
both false b e = absurd cc

both_back : (a b : Bool) → a ≡ true → b ≡ true → (a && b) ≡ true
both_back true b e f = f
both_back false b e f = absurd cc

abbrev node : List ℕ → List ℕ → ProofNode
node label below = record { label = label; below = below }

pub same_sound : (k m : Key) → same_key k m ≡ true → node_of_key m ≡ node_of_key k
same_sound k m e =
    let parts = both (bytes_eq k.label.items m.label.items) (bytes_eq k.below.items m.below.items) e in
    let labels : k.label.items ≡ m.label.items = (bytes_eq-Decides k.label.items m.label.items).0 parts.0 in
    let belows : k.below.items ≡ m.below.items = (bytes_eq-Decides k.below.items m.below.items).0 parts.1 in
    ap (λ l. node l m.below.items) (sym labels) ∙ ap (node k.label.items) (sym belows)

pub same_complete : (k m : Key) → node_of_key k ≡ node_of_key m → same_key k m ≡ true
same_complete k m e =
    both_back (bytes_eq k.label.items m.label.items) (bytes_eq k.below.items m.below.items) ((bytes_eq-Decides k.label.items m.label.items).1 (ap (λ (n : ProofNode). n.label) e))
    ((bytes_eq-Decides k.below.items m.below.items).1 (ap (λ (n : ProofNode). n.below) e))

-- ---- a key that is put in

-- the keys, with this one where there is no equal one
pub record Puts (keys new : List Key) (k : Key) (i : ℕ) : Type 0 where
  pub put : new ≡ insert_key same_key keys k
  pub stored : (m : Key) × (slice_get new i ≡ Some m) × (same_key k m ≡ true)

abbrev PutCase : List Key → List Key → Key → Type 0
PutCase keys new k = (new ≡ keys) ⊎ (new ≡ keys ++ k ∷ [])

put_case : (keys new : List Key) (k : Key) (b : Bool) → new ≡ (if b then keys else keys ++ k ∷ []) → PutCase keys new k
put_case keys new k true e = inl e
put_case keys new k false e = inr e

cases : (keys new : List Key) (k : Key) (i : ℕ) → Puts keys new k i → PutCase keys new k
cases keys new k i p = put_case keys new k (list_any (same_key k) keys) p.put

grows_of : (keys new : List Key) (k : Key) → PutCase keys new k → Grows (nodes_of_keys keys) (nodes_of_keys new)
grows_of keys new k (inl e) = record { more = []; is = ap nodes_of_keys e ∙ sym (append-nil (nodes_of_keys keys)) }
grows_of keys new k (inr e) = record { more = node_of_key k ∷ []; is = ap nodes_of_keys e ∙ map_push node_of_key keys k }

earlier_of : (keys new : List Key) (k : Key) → NameEarlier 0 (nodes_of_keys keys)
    → AllByRecursion (λ j. j < length (nodes_of_keys keys)) k.below.items → PutCase keys new k → NameEarlier 0 (nodes_of_keys new)
earlier_of keys new k e h (inl is) = subst (NameEarlier 0) (sym (ap nodes_of_keys is)) e
earlier_of keys new k e h (inr is) =
    subst (NameEarlier 0) (sym (ap nodes_of_keys is ∙ map_push node_of_key keys k))
    (earlier_push (nodes_of_keys keys) (node_of_key k) 0 e
    (subst (λ m. AllByRecursion (λ j. j < m) k.below.items)
    (let s : length (nodes_of_keys keys) ≡ 0 + length (nodes_of_keys keys) = omega arith in s) h))

get_of : (keys : List Key) (i : ℕ) (m : Key) → slice_get keys i ≡ Some m → (i < length (nodes_of_keys keys)) × (get_or (nodes_of_keys keys) i no_node ≡ node_of_key m)
get_of [] i m e = absurd cc
get_of (k ∷ keys) zero m e = (omega arith, ap node_of_key (let same : k ≡ m = cc in same))
get_of (k ∷ keys) (suc i) m e = let rest = get_of keys i m e in (let l = rest.0 in omega (arith, l), rest.1)

pub put_adds : (keys new : List Key) (k : Key) (i : ℕ) → NameEarlier 0 (nodes_of_keys keys) → AllByRecursion (λ j. j < length (nodes_of_keys keys)) k.below.items → Puts keys new k i
    → Adds (nodes_of_keys keys) (nodes_of_keys new) (proof_over (nodes_of_keys keys) k.label.items k.below.items) i
put_adds keys new k i e h p =
    let c = cases keys new k i p in
    let at = get_of new i p.stored.0 p.stored.1 in
    adds_node (nodes_of_keys keys) (nodes_of_keys new) (node_of_key k) i (grows_of keys new k c) (earlier_of keys new k e h c) h at.0 (at.1 ∙ same_sound k p.stored.0 p.stored.2)

pub put_earlier : (keys new : List Key) (k : Key) (i : ℕ) → NameEarlier 0 (nodes_of_keys keys) → AllByRecursion (λ j. j < length (nodes_of_keys keys)) k.below.items → Puts keys new k i
    → NameEarlier 0 (nodes_of_keys new)
put_earlier keys new k i e h p = earlier_of keys new k e h (cases keys new k i p)

few_of : (keys new : List Key) (k : Key) (n : ℕ) → length keys < n → PutCase keys new k → length new < suc n
few_of keys new k n h (inl e) = let s = ap length e in omega (arith, s, h)
few_of keys new k n h (inr e) = let s = ap length e ∙ length-append keys (k ∷ []) in omega (arith, s, h)

pub put_few : (keys new : List Key) (k : Key) (i n : ℕ) → length keys < n → Puts keys new k i → length new < suc n
put_few keys new k i n h p = few_of keys new k n h (cases keys new k i p)

-- ---- the graph of a front

earlier_take : (ns : List ProofNode) (at i : ℕ) → NameEarlier at ns → NameEarlier at (take i ns)
earlier_take ns at zero e = tt
earlier_take [] at (suc i) e = tt
earlier_take (n ∷ ns) at (suc i) e = (e.0, earlier_take ns (at + 1) i e.1)

take_map : {X Y : Type 0} (f : X → Y) (xs : List X) (i : ℕ) → map f (take i xs) ≡ take i (map f xs)
take_map f xs zero = refl
take_map f [] (suc i) = refl
take_map f (x ∷ xs) (suc i) = ap (λ l. f x ∷ l) (take_map f xs i)

apart : (keys : List Key) (d : Key) (i j : ℕ) → IsDistinct same_key keys → i < j → j < length keys → get_or (nodes_of_keys keys) i no_node ≡ get_or (nodes_of_keys keys) j no_node → ⊥
apart keys d i j h less inside e =
    let l : i < length keys = omega arith in
    true≢false (sym (same_complete (get_or keys i d) (get_or keys j d) (sym (get_or-map node_of_key keys i d no_node l) ∙ e ∙ get_or-map node_of_key keys j d no_node inside))
    ∙ apart_from_distinct same_key keys i j d h less inside)

pub nodes_differ : (keys : List Key) → IsDistinct same_key keys → NodesDiffer (nodes_of_keys keys)
nodes_differ [] h i j l m e = absurd (omega arith)
nodes_differ (k ∷ keys) h i j l m e =
    let all = k ∷ keys in
    let many : length (nodes_of_keys all) ≡ length all = length-map all node_of_key in
    elim (cases_order i j) [
      | inl less ↦ absurd (apart all k i j h less (omega (arith, many, m)) e)
      | inr other ↦ elim other [ inl same ↦ same | inr more ↦ absurd (apart all k j i h more (omega (arith, many, l)) (sym e)) ]
    ]

pub front_is_graph : (keys front : List Key) (root : ℕ) → NameEarlier 0 (nodes_of_keys keys) → length keys < 2 ^ 32
    → root < length (nodes_of_keys keys) → front ≡ take (root + 1) keys → IsDistinct same_key front
    → IsGraph (nodes_of_keys front)
front_is_graph keys front root e few l is d =
    let front_is : nodes_of_keys front ≡ take (root + 1) (nodes_of_keys keys) = ap nodes_of_keys is ∙ take_map node_of_key keys (root + 1) in
    let many : length (nodes_of_keys keys) ≡ length keys = length-map keys node_of_key in
    let len : length (take (root + 1) (nodes_of_keys keys)) ≡ root + 1 = length-take-le (root + 1) (nodes_of_keys keys) (omega (arith, l)) in
    let both = ap length front_is ∙ len in
    record {
      earlier = subst (NameEarlier 0) (sym front_is) (earlier_take (nodes_of_keys keys) 0 (root + 1) e);
      some = omega (arith, both);
      few = omega (arith, both, l, many, few);
      differ = nodes_differ front d;
    }

pub front_is : (keys front : List Key) (root : ℕ) → front ≡ take (root + 1) keys → nodes_of_keys front ≡ take (root + 1) (nodes_of_keys keys)
front_is keys front root is = ap nodes_of_keys is ∙ take_map node_of_key keys (root + 1)
