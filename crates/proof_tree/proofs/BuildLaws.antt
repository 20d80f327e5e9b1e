-- The proofs of trees and steps, added to a graph.
use Rattle.std.proofs.Common.{◌≡◌, ℕ, zero, suc, ◌+◌, ◌<◌, ◌≤◌, Bool, true, false, cond, List, [], ◌∷◌, ◌++◌, length, map, take, drop, fold}
use Rattle.std.proofs.Common.{filter_map, get_or, slice_get, Option, Some, None, option_map, is_some, ◌-◌, refl, sym, ap, ◌∙◌, subst, arith}
use Rattle.std.specs.Option.{option_to_list, option_map_or}
use Rattle.std.specs.List.{AllByRecursion, cons_option}
use Rattle.std.proofs.Math.Seq.{drop-cons}
use Rattle.std.proofs.lemmas.List.{length-take-le, take-append-drop, get_or_default}
use Rattle.mm_base.specs.declared.symbols.Sym.{Sym}
use Rattle.mm_base.specs.declared.symbols.Label.{Label}
use Rattle.mm_base.specs.declared.symbols.Typecode.{Typecode}
use Rattle.mm_base.specs.declared.tree.Tree.{Tree}
use Rattle.mm_base.specs.declared.tree.Tree.TheVariants.{Var, Work, Fresh, Node}
use Rattle.mm_base.proofs.TreeFolds.{fold-Var, fold-Work, fold-Fresh, fold-Node}
use Rattle.mm_model.specs.declared.frames.Hyp.{Hyp}
use Rattle.mm_model.specs.Names.{Name}
use Rattle.mm_frames.specs.Contents.{Contents}
use Rattle.proof_model.specs.Proofs.{Proof, by, none, proofs}
use Rattle.proof_tree.specs.declared.graph.ProofNode.{ProofNode}
use Rattle.proof_tree.specs.Graphs.{node_proofs, proof_at, root_proof}
use Rattle.proof_tree.specs.Adding.{Grows, Adds, AddsAll, AddsStep, IsInside, IsTable, IsProofAt, proof_over, table_proofs}
use Rattle.proof_tree.specs.declared.building.ProofStep.{ProofStep}
use Rattle.proof_tree.specs.declared.building.ProofStep.TheVariants as given
use Rattle.proof_tree.specs.Given.{tree_proof, variable_proof, name_in, weave, item_at, given_proof, given_proofs, is_used, used_at}
use Rattle.proof_tree.proofs.GraphLaws.{map_push, map_append, all_append, take_more, take_whole, append_twice, append_none}
use Rattle.proof_tree.proofs.AddLaws.{grows_none, grows_on, grown_length, grown_inside, grown_proof, grown_proofs}

-- ---- several nodes

pub adds_none : (ns : List ProofNode) → AddsAll ns ns [] []
adds_none ns = record { grows = grows_none ns; inside = tt; all = refl }

adds_next : (old mid new : List ProofNode) (ps : List Proof) (ns now : List ℕ) (p : Proof) (n : ℕ) → AddsAll old mid ps ns → Adds mid new p n → now ≡ ns ++ n ∷ [] → AddsAll old new (ps ++ p ∷ []) now
adds_next old mid new ps ns now p n all one is = record {
  grows = grows_on old mid new all.grows one.grows;
  inside = subst (AllByRecursion (λ k. k < length new)) (sym is) (all_append (λ k. k < length new) ns (n ∷ []) (grown_inside mid new ns one.grows all.inside) (one.inside, tt));
  all =
      ap (map (proof_at (node_proofs new))) is ∙ map_push (proof_at (node_proofs new)) ns n
      ∙ ap (λ qs. qs ++ proof_at (node_proofs new) n ∷ []) (grown_proofs mid new ns one.grows all.inside ∙ all.all) ∙ ap (λ q. ps ++ q ∷ []) one.proof;
}

pub adds_more : {X : Type 0} (f : X → Proof) (ts : List X) (i : ℕ) (t : X) (old mid new : List ProofNode) (ns now : List ℕ) (n : ℕ) → i < length ts
    → t ≡ get_or ts i t → AddsAll old mid (map f (take i ts)) ns
    → Adds mid new (f t) n → now ≡ ns ++ n ∷ [] → AddsAll old new (map f (take (i + 1) ts)) now
adds_more f ts i t old mid new ns now n inside e all one is =
    subst (λ ps. AddsAll old new ps now) (sym (map_push f (take i ts) t) ∙ ap (map f) (ap (λ y. take i ts ++ y ∷ []) e ∙ sym (take_more ts i t inside)))
    (adds_next old mid new (map f (take i ts)) ns now (f t) n all one is)

pub adds_whole : {X : Type 0} (f : X → Proof) (ts us : List X) (i : ℕ) (old new : List ProofNode) (ns : List ℕ) → us ≡ ts → length us ≤ i
    → AddsAll old new (map f (take i us)) ns → AddsAll old new (map f ts) ns
adds_whole f ts us i old new ns same done all = subst (λ ps. AddsAll old new ps ns) (ap (map f) (take_whole us i done ∙ same)) all

-- a node above them
pub adds_over : (old mid new : List ProofNode) (label : List ℕ) (ps : List Proof) (ns : List ℕ) (n : ℕ) → AddsAll old mid ps ns
    → Adds mid new (proof_over mid label ns) n → Adds old new (by label (proofs ps)) n
adds_over old mid new label ps ns n all one = record {
  grows = grows_on old mid new all.grows one.grows;
  inside = one.inside;
  proof = one.proof ∙ ap (λ qs. by label (proofs qs)) all.all;
}

pub adds_same : (old new : List ProofNode) (p q : Proof) (n : ℕ) → p ≡ q → Adds old new p n → Adds old new q n
adds_same old new p q n e a = subst (λ r. Adds old new r n) e a

-- ---- trees

module _ (labels : List Name) (floats : ℕ → Option Name) where
  pub tree_proof-Var : (s : Sym) (c : Typecode) → tree_proof labels floats (Var s c) ≡ variable_proof floats s.0
  unfolding tree_proof
  tree_proof-Var s c = fold-Var Proof _ s c

  pub tree_proof-Work : (c : Typecode) (n : ℕ) → tree_proof labels floats (Work c n) ≡ by [] none
  unfolding tree_proof
  tree_proof-Work c n = fold-Work Proof _ c n

  pub tree_proof-Fresh : (c : Typecode) (n : ℕ) → tree_proof labels floats (Fresh c n) ≡ by [] none
  unfolding tree_proof
  tree_proof-Fresh c n = fold-Fresh Proof _ c n

  pub tree_proof-Node : (l : Label) (c : Typecode) (ts : List Tree) → tree_proof labels floats (Node l c ts) ≡ by (name_in labels l) (proofs (map (tree_proof labels floats) ts))
  unfolding tree_proof
  tree_proof-Node l c ts = fold-Node Proof _ l c ts

-- ---- frames

get_drop : {X : Type 0} (xs : List X) (k : ℕ) → slice_get (drop k xs) 0 ≡ slice_get xs k
get_drop xs zero = refl
get_drop [] (suc k) = refl
get_drop (x ∷ xs) (suc k) = get_drop xs k

drop_next : {X : Type 0} (xs : List X) (k : ℕ) → drop 1 (drop k xs) ≡ drop (k + 1) xs
drop_next xs k = by xs k ∙ ap (λ j. drop j xs) (let one : suc k ≡ k + 1 = omega arith in one)
  where
    by : {X : Type 0} (xs : List X) (k : ℕ) → drop 1 (drop k xs) ≡ drop (suc k) xs
    by xs zero = refl
    by [] (suc k) = refl
    by (x ∷ xs) (suc k) = by xs k

-- so far, and what is left
pub record IsWoven (hyps : List Hyp) (xs ys : List ℕ) (i a b : ℕ) (ns : List ℕ) : Type 0 where
  pub rest : ns ++ weave (drop i hyps) (drop a xs) (drop b ys) ≡ weave hyps xs ys
  pub a_few : a ≤ i
  pub b_few : b ≤ i

weave_float : {X : Type 0} (h : Hyp) (hs : List Hyp) (xs ys : List X) → h.floating ≡ true → weave (h ∷ hs) xs ys ≡ option_to_list (slice_get xs 0) ++ weave hs (drop 1 xs) ys
weave_float h hs xs ys e = ap (λ b. cond b (option_to_list (slice_get xs 0) ++ weave hs (drop 1 xs) ys) (option_to_list (slice_get ys 0) ++ weave hs xs (drop 1 ys))) e

weave_essential : {X : Type 0} (h : Hyp) (hs : List Hyp) (xs ys : List X) → h.floating ≡ false → weave (h ∷ hs) xs ys ≡ option_to_list (slice_get ys 0) ++ weave hs xs (drop 1 ys)
weave_essential h hs xs ys e = ap (λ b. cond b (option_to_list (slice_get xs 0) ++ weave hs (drop 1 xs) ys) (option_to_list (slice_get ys 0) ++ weave hs xs (drop 1 ys))) e

front : (hyps : List Hyp) (i : ℕ) (h : Hyp) → i < length hyps → h ≡ get_or hyps i h → drop i hyps ≡ h ∷ drop (i + 1) hyps
front hyps i h inside e =
    drop-cons hyps i h inside ∙ ap (λ g. g ∷ drop (suc i) hyps) (sym e) ∙ ap (λ j. h ∷ drop j hyps) (let one : suc i ≡ i + 1 = omega arith in one)

pub woven_float : (hyps : List Hyp) (xs ys : List ℕ) (i a b : ℕ) (h : Hyp) (ns now : List ℕ) → i < length hyps → h ≡ get_or hyps i h → h.floating ≡ true → now ≡ ns ++ option_to_list (slice_get xs a)
    → IsWoven hyps xs ys i a b ns → IsWoven hyps xs ys (i + 1) (a + 1) b now
woven_float hyps xs ys i a b h ns now inside e f is w = record {
  rest =
      ap (λ l. l ++ weave (drop (i + 1) hyps) (drop (a + 1) xs) (drop b ys)) is
      ∙ append_twice ns (option_to_list (slice_get xs a)) (weave (drop (i + 1) hyps) (drop (a + 1) xs) (drop b ys))
      ∙ ap (λ o. ns ++ (option_to_list o ++ weave (drop (i + 1) hyps) (drop (a + 1) xs) (drop b ys))) (sym (get_drop xs a))
      ∙ ap (λ l. ns ++ (option_to_list (slice_get (drop a xs) 0) ++ weave (drop (i + 1) hyps) l (drop b ys))) (sym (drop_next xs a))
      ∙ ap (λ l. ns ++ l) (sym (weave_float h (drop (i + 1) hyps) (drop a xs) (drop b ys) f))
      ∙ ap (λ l. ns ++ weave l (drop a xs) (drop b ys)) (sym (front hyps i h inside e))
      ∙ w.rest;
  a_few = (let l = w.a_few in omega (arith, l));
  b_few = (let l = w.b_few in omega (arith, l));
}

pub woven_essential : (hyps : List Hyp) (xs ys : List ℕ) (i a b : ℕ) (h : Hyp) (ns now : List ℕ) → i < length hyps → h ≡ get_or hyps i h
    → h.floating ≡ false → now ≡ ns ++ option_to_list (slice_get ys b)
    → IsWoven hyps xs ys i a b ns → IsWoven hyps xs ys (i + 1) a (b + 1) now
woven_essential hyps xs ys i a b h ns now inside e f is w = record {
  rest =
      ap (λ l. l ++ weave (drop (i + 1) hyps) (drop a xs) (drop (b + 1) ys)) is
      ∙ append_twice ns (option_to_list (slice_get ys b)) (weave (drop (i + 1) hyps) (drop a xs) (drop (b + 1) ys))
      ∙ ap (λ o. ns ++ (option_to_list o ++ weave (drop (i + 1) hyps) (drop a xs) (drop (b + 1) ys))) (sym (get_drop ys b))
      ∙ ap (λ l. ns ++ (option_to_list (slice_get (drop b ys) 0) ++ weave (drop (i + 1) hyps) (drop a xs) l)) (sym (drop_next ys b))
      ∙ ap (λ l. ns ++ l) (sym (weave_essential h (drop (i + 1) hyps) (drop a xs) (drop b ys) f))
      ∙ ap (λ l. ns ++ weave l (drop a xs) (drop b ys)) (sym (front hyps i h inside e))
      ∙ w.rest;
  a_few = (let l = w.a_few in omega (arith, l));
  b_few = (let l = w.b_few in omega (arith, l));
}

pub woven_begun : (hyps : List Hyp) (xs ys ns : List ℕ) → ns ≡ [] → IsWoven hyps xs ys 0 0 0 ns
woven_begun hyps xs ys ns e = record { rest = ap (λ l. l ++ weave hyps xs ys) e; a_few = omega arith; b_few = omega arith }

pub drop_whole : {X : Type 0} (xs : List X) (i : ℕ) → length xs ≤ i → drop i xs ≡ []
drop_whole [] zero h = refl
drop_whole [] (suc i) h = refl
drop_whole (x ∷ xs) zero h = absurd (omega arith)
drop_whole (x ∷ xs) (suc i) h = drop_whole xs i (omega arith)

pub woven_done : (hyps : List Hyp) (xs ys : List ℕ) (i a b : ℕ) (ns : List ℕ) → length hyps ≤ i → IsWoven hyps xs ys i a b ns → ns ≡ weave hyps xs ys
woven_done hyps xs ys i a b ns h w = sym (append_none ns) ∙ ap (λ l. ns ++ weave l (drop a xs) (drop b ys)) (sym (drop_whole hyps i h)) ∙ w.rest

all_option : {X : Type 0} (P : X → Type 0) (xs : List X) → AllByRecursion P xs → AllByRecursion P (option_to_list (slice_get xs 0))
all_option P [] h = tt
all_option P (x ∷ xs) h = (h.0, tt)

all_rest : {X : Type 0} (P : X → Type 0) (xs : List X) → AllByRecursion P xs → AllByRecursion P (drop 1 xs)
all_rest P [] h = tt
all_rest P (x ∷ xs) h = h.1

either : {X : Type 0} (P : X → Type 0) (b : Bool) (l m : List X) → AllByRecursion P l → AllByRecursion P m → AllByRecursion P (cond b l m)
either P true l m p q = p
either P false l m p q = q

pub weave_all : {X : Type 0} (P : X → Type 0) (hyps : List Hyp) (xs ys : List X) → AllByRecursion P xs → AllByRecursion P ys → AllByRecursion P (weave hyps xs ys)
weave_all P [] xs ys h k = tt
weave_all P (g ∷ hs) xs ys h k =
    either P g.floating (option_to_list (slice_get xs 0) ++ weave hs (drop 1 xs) ys) (option_to_list (slice_get ys 0) ++ weave hs xs (drop 1 ys))
    (all_append P (option_to_list (slice_get xs 0)) (weave hs (drop 1 xs) ys) (all_option P xs h) (weave_all P hs (drop 1 xs) ys (all_rest P xs h) k))
    (all_append P (option_to_list (slice_get ys 0)) (weave hs xs (drop 1 ys)) (all_option P ys k) (weave_all P hs xs (drop 1 ys) h (all_rest P ys k)))

map_option : {X Y : Type 0} (f : X → Y) (xs : List X) → map f (option_to_list (slice_get xs 0)) ≡ option_to_list (slice_get (map f xs) 0)
map_option f [] = refl
map_option f (x ∷ xs) = refl

map_rest : {X Y : Type 0} (f : X → Y) (xs : List X) → map f (drop 1 xs) ≡ drop 1 (map f xs)
map_rest f [] = refl
map_rest f (x ∷ xs) = refl

map_cond : {X Y : Type 0} (f : X → Y) (b : Bool) (l m : List X) (p q : List Y) → map f l ≡ p → map f m ≡ q → map f (cond b l m) ≡ cond b p q
map_cond f true l m p q e g = e
map_cond f false l m p q e g = g

pub weave_map : {X Y : Type 0} (f : X → Y) (hyps : List Hyp) (xs ys : List X) → map f (weave hyps xs ys) ≡ weave hyps (map f xs) (map f ys)
weave_map f [] xs ys = refl
weave_map f (g ∷ hs) xs ys =
    map_cond f g.floating (option_to_list (slice_get xs 0) ++ weave hs (drop 1 xs) ys) (option_to_list (slice_get ys 0) ++ weave hs xs (drop 1 ys))
    (option_to_list (slice_get (map f xs) 0) ++ weave hs (drop 1 (map f xs)) (map f ys)) (option_to_list (slice_get (map f ys) 0) ++ weave hs (map f xs) (drop 1 (map f ys)))
    (map_append f (option_to_list (slice_get xs 0)) (weave hs (drop 1 xs) ys) ∙ ap (λ l. l ++ map f (weave hs (drop 1 xs) ys)) (map_option f xs)
    ∙ ap (λ l. option_to_list (slice_get (map f xs) 0) ++ l) (weave_map f hs (drop 1 xs) ys ∙ ap (λ l. weave hs l (map f ys)) (map_rest f xs)))
    (map_append f (option_to_list (slice_get ys 0)) (weave hs xs (drop 1 ys)) ∙ ap (λ l. l ++ map f (weave hs xs (drop 1 ys))) (map_option f ys)
    ∙ ap (λ l. option_to_list (slice_get (map f ys) 0) ++ l) (weave_map f hs xs (drop 1 ys) ∙ ap (λ l. weave hs (map f xs) l) (map_rest f ys)))

-- ---- steps

item_map : {X Y : Type 0} (f : X → Y) (xs : List (Option X)) (k : ℕ) → item_at (map (option_map f) xs) k ≡ option_map f (item_at xs k)
item_map f [] k = refl
item_map f (x ∷ xs) zero = refl
item_map f (x ∷ xs) (suc k) = item_map f xs k

filter_table : {X Y : Type 0} (f : X → Y) (xs : List (Option X)) (ks : List ℕ) → filter_map (item_at (map (option_map f) xs)) ks ≡ map f (filter_map (item_at xs) ks)
filter_table f xs [] = refl
filter_table f xs (k ∷ ks) = by (item_at (map (option_map f) xs) k) (item_at xs k) (item_map f xs k) (filter_table f xs ks)
  where
    by : (o : Option _) (q : Option _) → o ≡ option_map f q → filter_map (item_at (map (option_map f) xs)) ks ≡ map f (filter_map (item_at xs) ks)
        → cons_option o (filter_map (item_at (map (option_map f) xs)) ks) ≡ map f (cons_option q (filter_map (item_at xs) ks))
    by o None e h = ap (λ r. cons_option r (filter_map (item_at (map (option_map f) xs)) ks)) e ∙ h
    by o (Some x) e h = ap (λ r. cons_option r (filter_map (item_at (map (option_map f) xs)) ks)) e ∙ ap (λ l. f x ∷ l) h

item_inside : (nodes : List ProofNode) (ns : List (Option ℕ)) (k : ℕ) → AllByRecursion (IsInside nodes) ns → IsInside nodes (item_at ns k)
item_inside nodes [] k h = tt
item_inside nodes (n ∷ ns) zero h = h.0
item_inside nodes (n ∷ ns) (suc k) h = item_inside nodes ns k h.1

filter_inside : (nodes : List ProofNode) (ns : List (Option ℕ)) (ks : List ℕ) → AllByRecursion (IsInside nodes) ns → AllByRecursion (λ n. n < length nodes) (filter_map (item_at ns) ks)
filter_inside nodes ns [] h = tt
filter_inside nodes ns (k ∷ ks) h = by (item_at ns k) (item_inside nodes ns k h) (filter_inside nodes ns ks h)
  where
    by : (o : Option ℕ) → IsInside nodes o → AllByRecursion (λ n. n < length nodes) (filter_map (item_at ns) ks) → AllByRecursion (λ n. n < length nodes) (cons_option o (filter_map (item_at ns) ks))
    by None i r = r
    by (Some n) i r = (i, r)

-- the nodes below a step that follows by an assertion
pub adds_arguments : (old mid : List ProofNode) (hyps : List Hyp) (values : List Proof) (vs : List ℕ) (table : List (Option ℕ)) (places ps below : List ℕ) → AllByRecursion (IsInside old) table
    → AddsAll old mid values vs → ps ≡ filter_map (item_at table) places → below ≡ weave hyps vs ps
    → AddsAll old mid (weave hyps values (filter_map (item_at (table_proofs old table)) places)) below
adds_arguments old mid hyps values vs table places ps below inside all p is =
    let placed : AllByRecursion (λ n. n < length old) ps = subst (AllByRecursion (λ n. n < length old)) (sym p) (filter_inside old table places inside) in
    record {
      grows = all.grows;
      inside = subst (AllByRecursion (λ n. n < length mid)) (sym is) (weave_all (λ n. n < length mid) hyps vs ps all.inside (grown_inside old mid ps all.grows placed));
      all =
          ap (map (proof_at (node_proofs mid))) is ∙ weave_map (proof_at (node_proofs mid)) hyps vs ps ∙ ap (λ l. weave hyps l (map (proof_at (node_proofs mid)) ps)) all.all
          ∙ ap (weave hyps values) (grown_proofs old mid ps all.grows placed ∙ ap (map (proof_at (node_proofs old))) p ∙ sym (filter_table (proof_at (node_proofs old)) table places));
    }

pub adds_some : (old new : List ProofNode) (p : Proof) (n : ℕ) → Adds old new p n → AddsStep old new (Some p) (Some n)
adds_some old new p n a = record { grows = a.grows; inside = a.inside; proof = ap (λ q. Some q) a.proof }

pub adds_nothing : (ns : List ProofNode) → AddsStep ns ns None None
adds_nothing ns = record { grows = grows_none ns; inside = tt; proof = refl }

-- the table of the steps so far
table_grown : (old new : List ProofNode) (ns : List (Option ℕ)) → Grows old new → AllByRecursion (IsInside old) ns → (table_proofs new ns ≡ table_proofs old ns) × AllByRecursion (IsInside new) ns
table_grown old new [] g h = (refl, tt)
table_grown old new (None ∷ ns) g h = let rest = table_grown old new ns g h.1 in (ap (λ l. None ∷ l) rest.0, (tt, rest.1))
table_grown old new (Some n ∷ ns) g h =
    let rest = table_grown old new ns g h.1 in
    let more = grown_length old new g in
    let less : n < length old = h.0 in
    (ap (λ p. Some p ∷ table_proofs new ns) (grown_proof old new n g h.0) ∙ ap (λ l. Some (proof_at (node_proofs old) n) ∷ l) rest.0, (omega (arith, less, more), rest.1))

fold_push : {A B : Type 0} (f : B → A → B) (b : B) (xs : List A) (y : A) → fold f b (xs ++ y ∷ []) ≡ f (fold f b xs) y
fold_push f b [] y = refl
fold_push f b (x ∷ xs) y = fold_push f (f b x) xs y

pub table_more : {X : Type 0} (given : List (Option Proof) → X → Option Proof) (steps : List X) (i : ℕ) (s : X) (old new : List ProofNode)
    (ns now : List (Option ℕ)) (n : Option ℕ)
    → i < length steps → s ≡ get_or steps i s
    → IsTable old (fold (λ earlier s. earlier ++ given earlier s ∷ []) [] (take i steps)) ns → AddsStep old new (given (table_proofs old ns) s) n → now ≡ ns ++ n ∷ []
    → IsTable new (fold (λ earlier s. earlier ++ given earlier s ∷ []) [] (take (i + 1) steps)) now
table_more given steps i s old new ns now n inside e table one is =
    let earlier = fold (λ earlier s. earlier ++ given earlier s ∷ []) [] (take i steps) in
    let grown = table_grown old new ns one.grows table.inside in
    record {
      inside = subst (AllByRecursion (IsInside new)) (sym is) (all_append (IsInside new) ns (n ∷ []) grown.1 (one.inside, tt));
      all =
          ap (table_proofs new) is ∙ map_push (option_map (proof_at (node_proofs new))) ns n
          ∙ ap (λ l. l ++ option_map (proof_at (node_proofs new)) n ∷ []) (grown.0 ∙ table.all) ∙ ap (λ p. earlier ++ p ∷ []) (one.proof ∙ ap (λ l. given l s) table.all)
          ∙ sym
          (ap (fold (λ earlier s. earlier ++ given earlier s ∷ []) []) (take_more steps i s inside ∙ ap (λ y. take i steps ++ y ∷ []) (sym e))
          ∙ fold_push (λ earlier s. earlier ++ given earlier s ∷ []) [] (take i steps) s);
    }

pub table_begun : (nodes : List ProofNode) (ns : List (Option ℕ)) → ns ≡ [] → IsTable nodes [] ns
table_begun nodes ns e = record { inside = subst (AllByRecursion (IsInside nodes)) (sym e) tt; all = ap (table_proofs nodes) e }

pub table_whole : {X : Type 0} (given : List X → List (Option Proof)) (steps : List X) (i : ℕ) (nodes : List ProofNode) (ns : List (Option ℕ))
    → length steps ≤ i → IsTable nodes (given (take i steps)) ns → IsTable nodes (given steps) ns
table_whole given steps i nodes ns done t = subst (λ l. IsTable nodes (given l) ns) (take_whole steps i done) t

option_append : {X : Type 0} (o : Option X) → cons_option o [] ≡ option_to_list o
option_append None = refl
option_append (Some x) = refl

filter_push : {X Y : Type 0} (f : X → Option Y) (xs : List X) (x : X) → filter_map f (xs ++ x ∷ []) ≡ filter_map f xs ++ option_to_list (f x)
filter_push f [] x = option_append (f x)
filter_push f (y ∷ xs) x = by (f y) (filter_push f xs x)
  where
    by : (o : Option _) → filter_map f (xs ++ x ∷ []) ≡ filter_map f xs ++ option_to_list (f x) → cons_option o (filter_map f (xs ++ x ∷ [])) ≡ cons_option o (filter_map f xs) ++ option_to_list (f x)
    by None e = e
    by (Some z) e = ap (λ l. z ∷ l) e

pub filter_more : {Y : Type 0} (f : ℕ → Option Y) (ks : List ℕ) (i : ℕ) (ns now : List Y) → i < length ks → ns ≡ filter_map f (take i ks)
    → now ≡ ns ++ option_to_list (f (get_or ks i 0)) → now ≡ filter_map f (take (i + 1) ks)
filter_more f ks i ns now inside e is =
    is ∙ ap (λ l. l ++ option_to_list (f (get_or ks i 0))) e ∙ sym (filter_push f (take i ks) (get_or ks i 0)) ∙ ap (filter_map f) (sym (take_more ks i 0 inside))

-- ---- the root

pub there : {X : Type 0} (o : Option X) → is_some o ≡ true → (x : X) × (o ≡ Some x)
there None e = absurd cc
there (Some x) e = (x, refl)

item_there : {X : Type 0} (xs : List (Option X)) (k : ℕ) (x : X) → item_at xs k ≡ Some x → (k < length xs) × (get_or xs k None ≡ Some x)
item_there [] k x e = absurd cc
item_there (y ∷ xs) zero x e = (omega arith, e)
item_there (y ∷ xs) (suc k) x e = let rest = item_there xs k x e in (let l = rest.0 in omega (arith, l), rest.1)

some_of : {X Y : Type 0} (f : X → Y) (o : Option X) → is_some (option_map f o) ≡ is_some o
some_of f None = refl
some_of f (Some x) = refl

-- the number of a proof that is there
pub number_there : (nodes : List ProofNode) (ps : List (Option Proof)) (ns : List (Option ℕ)) (k : ℕ) → IsTable nodes ps ns
    → is_some (item_at ps k) ≡ true → (n : ℕ) × (k < length ns) × (get_or ns k None ≡ Some n)
number_there nodes ps ns k t e =
    let found =
    there (item_at ns k)
    (sym (some_of (proof_at (node_proofs nodes)) (item_at ns k))
    ∙ ap is_some (sym (item_map (proof_at (node_proofs nodes)) ns k) ∙ ap (λ l. item_at l k) t.all) ∙ e) in
    let at = item_there ns k found.0 found.1 in
    (found.0, at.0, at.1)

at_item : {X : Type 0} (xs : List (Option X)) (k : ℕ) (x : X) → get_or xs k None ≡ Some x → item_at xs k ≡ Some x
at_item [] k x e = absurd cc
at_item (y ∷ xs) zero x e = e
at_item (y ∷ xs) (suc k) x e = at_item xs k x e

pub root_there : (nodes : List ProofNode) (ps : List (Option Proof)) (ns : List (Option ℕ)) (k n : ℕ) → IsTable nodes ps ns → get_or ns k None ≡ Some n → IsProofAt nodes (item_at ps k) n
root_there nodes ps ns k n t e =
    let at = at_item ns k n e in
    record {
      inside = subst (IsInside nodes) at (item_inside nodes ns k t.inside);
      proof = ap (option_map (proof_at (node_proofs nodes))) (sym at) ∙ sym (item_map (proof_at (node_proofs nodes)) ns k) ∙ ap (λ l. item_at l k) t.all;
    }

-- which steps have a proof
some_folded : {X : Type 0} (given : List (Option Proof) → X → Option Proof) (used : X → Bool)
    → ((ps : List (Option Proof)) (s : X) → is_some (given ps s) ≡ used s) → (steps before : List X) (ps : List (Option Proof))
    → map is_some ps ≡ map used before → map is_some (fold (λ earlier s. earlier ++ given earlier s ∷ []) ps steps) ≡ map used (before ++ steps)
some_folded given used same [] before ps e = e ∙ ap (map used) (sym (append_none before))
some_folded given used same (s ∷ steps) before ps e =
    some_folded given used same steps (before ++ s ∷ []) (ps ++ given ps s ∷ [])
    (map_push is_some ps (given ps s) ∙ ap (λ l. l ++ is_some (given ps s) ∷ []) e ∙ ap (λ b. map used before ++ b ∷ []) (same ps s) ∙ sym (map_push used before s))
    ∙ ap (map used) (append_twice before (s ∷ []) steps)

abbrev flag : List Bool → ℕ → Bool
flag [] k = false
flag (b ∷ bs) zero = b
flag (b ∷ bs) (suc k) = flag bs k

flag_used : {X : Type 0} (used : X → Bool) (xs : List X) (k : ℕ) → option_map_or used (slice_get xs k) false ≡ flag (map used xs) k
flag_used used [] k = refl
flag_used used (x ∷ xs) zero = refl
flag_used used (x ∷ xs) (suc k) = flag_used used xs k

flag_item : {X : Type 0} (xs : List (Option X)) (k : ℕ) → is_some (item_at xs k) ≡ flag (map is_some xs) k
flag_item [] k = refl
flag_item (x ∷ xs) zero = refl
flag_item (x ∷ xs) (suc k) = flag_item xs k

given_used : (c : Contents) (floats : ℕ → Option Name) (ps : List (Option Proof)) (s : ProofStep) → is_some (given_proof c floats ps s) ≡ is_used s
given_used c floats ps (given.Hyp name) = refl
given_used c floats ps (given.Ref l values places) = refl
given_used c floats ps given.Unused = refl

pub used_there : (c : Contents) (floats : ℕ → Option Name) (steps : List ProofStep) (k : ℕ) → used_at steps k ≡ true → is_some (item_at (given_proofs c floats steps) k) ≡ true
used_there c floats steps k e =
    flag_item (given_proofs c floats steps) k ∙ ap (λ bs. flag bs k) (some_folded (given_proof c floats) is_used (given_used c floats) steps [] [] refl) ∙ sym (flag_used is_used steps k) ∙ e

-- as it is looked up
pub number_looked_up : (nodes : List ProofNode) (c : Contents) (floats : ℕ → Option Name) (steps : List ProofStep) (ns : List (Option ℕ)) (k : ℕ)
    (o : Option ℕ)
    → IsTable nodes (given_proofs c floats steps) ns → used_at steps k ≡ true
    → o ≡ get_or ns k o → (n : ℕ) × (k < length ns) × (get_or ns k None ≡ Some n) × (o ≡ Some n)
number_looked_up nodes c floats steps ns k o t used e =
    let at = number_there nodes (given_proofs c floats steps) ns k t (used_there c floats steps k used) in
    (at.0, at.1, at.2, e ∙ get_or_default ns k o None at.1 ∙ at.2)

-- the root's proof is that of the graph up to the root
pub front_root : (nodes part : List ProofNode) (n : ℕ) → n < length nodes → part ≡ take (n + 1) nodes → root_proof part ≡ proof_at (node_proofs nodes) n
front_root nodes part n inside is =
    let many : length (take (n + 1) nodes) ≡ n + 1 = length-take-le (n + 1) nodes (omega (arith, inside)) in
    let last : length (take (n + 1) nodes) - 1 ≡ n = omega (arith, many) in
    ap root_proof is ∙ ap (proof_at (node_proofs (take (n + 1) nodes))) last
    ∙ sym (grown_proof (take (n + 1) nodes) nodes n (record { more = drop (n + 1) nodes; is = sym (take-append-drop (n + 1) nodes) }) (omega (arith, many)))
