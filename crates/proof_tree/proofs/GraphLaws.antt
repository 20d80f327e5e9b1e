-- The proofs of a graph's nodes, and how many labels they have.
use Rattle.std.proofs.Common.{◌≡◌, ℕ, zero, suc, ◌+◌, ◌-◌, ◌^◌, ◌<◌, ◌≤◌, min, List, [], ◌∷◌, ◌++◌, length, map, take, fold, reverse, get_or, refl}
use Rattle.std.proofs.Common.{sym, ap, subst, ◌∙◌, add-one, arith, lit≤}
use Rattle.std.proofs.lemmas.List.{length-append, length-map, get_or-map, reverse-append}
use Rattle.std.specs.List.{AllByRecursion}
use Rattle.proof_model.specs.Proofs.{Proof, by, proofs, postorder, postorders}
use Rattle.proof_tree.specs.declared.graph.ProofNode.{ProofNode}
use Rattle.proof_tree.specs.Graphs.{NameEarlier, no_proof, proof_at, node_proof, with_node, node_proofs, label_count, added_count}

-- ---- lists

pub get_left : {X : Type 0} (xs ys : List X) (j : ℕ) (d : X) → j < length xs → get_or (xs ++ ys) j d ≡ get_or xs j d
get_left [] ys j d h = absurd (omega arith)
get_left (x ∷ xs) ys zero d h = refl
get_left (x ∷ xs) ys (suc j) d h = get_left xs ys j d (omega arith)

get_last : {X : Type 0} (xs : List X) (y d : X) → get_or (xs ++ y ∷ []) (length xs) d ≡ y
get_last [] y d = refl
get_last (x ∷ xs) y d = get_last xs y d

pub all_at : {X : Type 0} (P : X → Type 0) (xs : List X) (i : ℕ) (d : X) → AllByRecursion P xs → i < length xs → P (get_or xs i d)
all_at P [] i d h l = absurd (omega arith)
all_at P (x ∷ xs) zero d h l = h.0
all_at P (x ∷ xs) (suc i) d h l = all_at P xs i d h.1 (omega arith)

pub map_where : {X : Type 0} (P : ℕ → Type 0) (f g : ℕ → X) → ((k : ℕ) → P k → f k ≡ g k) → (ks : List ℕ) → AllByRecursion P ks → map f ks ≡ map g ks
map_where P f g e [] h = refl
map_where P f g e (k ∷ ks) h = ap (λ x. x ∷ map f ks) (e k h.0) ∙ ap (λ xs. g k ∷ xs) (map_where P f g e ks h.1)

pub one_longer : {X : Type 0} (xs : List X) (y : X) → length (xs ++ y ∷ []) ≡ length xs + 1
one_longer [] y = refl
one_longer (x ∷ xs) y = let rest = one_longer xs y in omega (arith, rest)

-- ---- the proofs of nodes

pub stable : (ns : List ProofNode) (acc : List Proof) (j : ℕ) → j < length acc → proof_at (fold with_node acc ns) j ≡ proof_at acc j
stable [] acc j h = refl
stable (n ∷ ns) acc j h =
    let longer = one_longer acc (node_proof acc n) in
    stable ns (with_node acc n) j (omega (arith, h, longer)) ∙ get_left acc (node_proof acc n ∷ []) j no_proof h

same_node : (n : ProofNode) (acc all : List Proof) → AllByRecursion (λ k. k < length acc) n.below → ((j : ℕ) → j < length acc → proof_at all j ≡ proof_at acc j) → node_proof acc n ≡ node_proof all n
same_node n acc all h e = ap (λ ps. by n.label (proofs ps)) (map_where (λ k. k < length acc) (proof_at acc) (proof_at all) (λ k l. sym (e k l)) n.below h)

at_node : (ns : List ProofNode) (acc : List Proof) (i m : ℕ) (d : ProofNode) → i < length ns → m ≡ length acc + i → NameEarlier (length acc) ns
    → proof_at (fold with_node acc ns) m ≡ node_proof (fold with_node acc ns) (get_or ns i d)
at_node [] acc i m d h e k = absurd (omega arith)
at_node (n ∷ ns) acc zero m d h e k =
    let longer = one_longer acc (node_proof acc n) in
    let here : m ≡ length acc = omega (arith, e) in
    ap (proof_at (fold with_node acc (n ∷ ns))) here ∙ stable ns (with_node acc n) (length acc) (omega (arith, longer)) ∙ get_last acc (node_proof acc n) no_proof
    ∙ same_node n acc (fold with_node acc (n ∷ ns)) k.0 (λ j l. stable (n ∷ ns) acc j l)
at_node (n ∷ ns) acc (suc i) m d h e k =
    let longer = one_longer acc (node_proof acc n) in
    at_node ns (with_node acc n) i m d (omega arith) (omega (arith, e, longer)) (subst (λ j. NameEarlier j ns) (sym longer) k.1)

pub node_at : (nodes : List ProofNode) (i : ℕ) (d : ProofNode) → i < length nodes → NameEarlier 0 nodes → proof_at (node_proofs nodes) i ≡ node_proof (node_proofs nodes) (get_or nodes i d)
node_at nodes i d h k = at_node nodes [] i i d h (omega arith) k

pub count_proofs : (ns : List ProofNode) (acc : List Proof) → length (fold with_node acc ns) ≡ length acc + length ns
count_proofs [] acc = omega arith
count_proofs (n ∷ ns) acc = let rest = count_proofs ns (with_node acc n) in let longer = one_longer acc (node_proof acc n) in omega (arith, rest, longer)

pub below_at : (nodes : List ProofNode) (at i : ℕ) (d : ProofNode) → i < length nodes → NameEarlier at nodes → AllByRecursion (λ k. k < at + i) (get_or nodes i d).below
below_at [] at i d h k = absurd (omega arith)
below_at (n ∷ ns) at zero d h k = subst (λ j. AllByRecursion (λ k. k < j) n.below) (let e : at ≡ at + 0 = omega arith in e) k.0
below_at (n ∷ ns) at (suc i) d h k = subst (λ j. AllByRecursion (λ k. k < j) (get_or ns i d).below) (let e : at + 1 + i ≡ at + suc i = omega arith in e) (below_at ns (at + 1) i d (omega arith) k.1)

-- ---- labels

abbrev pub labels_of : List Proof → List (List ℕ)
labels_of [] = []
labels_of (p ∷ ps) = postorder p ++ labels_of ps

pub labels_below : (ps : List Proof) → postorders (proofs ps) ≡ labels_of ps
labels_below [] = refl
labels_below (p ∷ ps) = ap (λ ls. postorder p ++ ls) (labels_below ps)

pub append_twice : {X : Type 0} (xs ys zs : List X) → (xs ++ ys) ++ zs ≡ xs ++ (ys ++ zs)
append_twice [] ys zs = refl
append_twice (x ∷ xs) ys zs = ap (λ l. x ∷ l) (append_twice xs ys zs)

pub append_none : {X : Type 0} (xs : List X) → xs ++ [] ≡ xs
append_none [] = refl
append_none (x ∷ xs) = ap (λ l. x ∷ l) (append_none xs)

labels_append : (ps : List Proof) (p : Proof) → labels_of (ps ++ p ∷ []) ≡ labels_of ps ++ postorder p
labels_append [] p = append_none (postorder p)
labels_append (q ∷ ps) p = ap (λ ls. postorder q ++ ls) (labels_append ps p) ∙ sym (append_twice (postorder q) (labels_of ps) (postorder p))

pub take_more : {X : Type 0} (xs : List X) (i : ℕ) (d : X) → i < length xs → take (i + 1) xs ≡ take i xs ++ get_or xs i d ∷ []
take_more xs i d h = rw add-one (by xs i h)
  where
    by : (xs : List _) (i : ℕ) → i < length xs → take (suc i) xs ≡ take i xs ++ get_or xs i d ∷ []
    by [] i h = absurd (omega arith)
    by (x ∷ xs) zero h = refl
    by (x ∷ xs) (suc i) h = ap (λ l. x ∷ l) (by xs i (omega arith))

pub take_whole : {X : Type 0} (xs : List X) (i : ℕ) → length xs ≤ i → take i xs ≡ xs
take_whole [] zero h = refl
take_whole [] (suc i) h = refl
take_whole (x ∷ xs) zero h = absurd (omega arith)
take_whole (x ∷ xs) (suc i) h = ap (λ l. x ∷ l) (take_whole xs i (omega arith))

pub map_push : {X Y : Type 0} (f : X → Y) (xs : List X) (y : X) → map f (xs ++ y ∷ []) ≡ map f xs ++ f y ∷ []
map_push f [] y = refl
map_push f (x ∷ xs) y = ap (λ l. f x ∷ l) (map_push f xs y)

-- what a node's proof writes
pub node_written : (nodes : List ProofNode) (i : ℕ) (d : ProofNode) (old before now : List (List ℕ)) (bs : List ℕ) (k : ℕ) (label : List ℕ) → i < length nodes → NameEarlier 0 nodes
    → bs ≡ (get_or nodes i d).below → label ≡ (get_or nodes i d).label → length bs ≤ k → before ≡ old ++ labels_of (map (proof_at (node_proofs nodes)) (take k bs)) → now ≡ before ++ label ∷ []
    → now ≡ old ++ postorder (proof_at (node_proofs nodes) i)
node_written nodes i d old before now bs k label h e b l more is pushed =
    let all = map (proof_at (node_proofs nodes)) in
    pushed ∙ ap (λ xs. xs ++ label ∷ []) (is ∙ ap (λ ks. old ++ labels_of (all ks)) (take_whole bs k more ∙ b)) ∙ append_twice old (labels_of (all (get_or nodes i d).below)) (label ∷ [])
    ∙ ap (λ xs. old ++ (xs ++ label ∷ [])) (sym (labels_below (all (get_or nodes i d).below))) ∙ ap (λ x. old ++ (postorders (proofs (all (get_or nodes i d).below)) ++ x ∷ [])) l
    ∙ ap (λ p. old ++ postorder p) (sym (node_at nodes i d h e))

-- and one more of those below it
pub below_written : (all : List Proof) (old before now : List (List ℕ)) (bs : List ℕ) (k : ℕ) → k < length bs → before ≡ old ++ labels_of (map (proof_at all) (take k bs))
    → now ≡ before ++ postorder (proof_at all (get_or bs k 0)) → now ≡ old ++ labels_of (map (proof_at all) (take (k + 1) bs))
below_written all old before now bs k h is more =
    more ∙ ap (λ xs. xs ++ postorder (proof_at all (get_or bs k 0))) is ∙ append_twice old (labels_of (map (proof_at all) (take k bs))) (postorder (proof_at all (get_or bs k 0)))
    ∙ ap (λ xs. old ++ xs) (sym (ap (λ ks. labels_of (map (proof_at all) ks)) (take_more bs k 0 h) ∙ ap labels_of (map_push (proof_at all) (take k bs) (get_or bs k 0))
    ∙ labels_append (map (proof_at all) (take k bs)) (proof_at all (get_or bs k 0))))

-- ---- how many

sums : (earlier : List Proof) (below : List ℕ) (n s : ℕ) → AllByRecursion (λ k. k < length earlier) below → n ≡ min (2 ^ 64 - 1) s
    → fold (added_count (map label_count earlier)) n below ≡ min (2 ^ 64 - 1) (s + length (postorders (proofs (map (proof_at earlier) below))))
sums earlier [] n s h e = e ∙ ap (min (2 ^ 64 - 1)) (let f : s ≡ s + 0 = omega arith in f)
sums earlier (k ∷ ks) n s h e =
    let m = length (postorder (proof_at earlier k)) in
    let here : get_or (map label_count earlier) k 0 ≡ min (2 ^ 64 - 1) m = get_or-map label_count earlier k no_proof 0 h.0 in
    let both : added_count (map label_count earlier) n k ≡ min (2 ^ 64 - 1) (s + m) = capped (2 ^ 64 - 1) n (get_or (map label_count earlier) k 0) s m e here in
    sums earlier ks (added_count (map label_count earlier) n k) (s + m) h.1 both
    ∙ ap (min (2 ^ 64 - 1)) (whole s m (length (postorders (proofs (map (proof_at earlier) ks)))) _ (length-append (postorder (proof_at earlier k)) (postorders (proofs (map (proof_at earlier) ks)))))
  where
    capped : (top a b s m : ℕ) → a ≡ min top s → b ≡ min top m → min top (a + b) ≡ min top (s + m)
    capped top a b s m x y = omega (arith, x, y)

    whole : (s m r t : ℕ) → t ≡ m + r → s + m + r ≡ s + t
    whole s m r t e = omega (arith, e)

pub count_is : (earlier : List Proof) (n : ProofNode) → AllByRecursion (λ k. k < length earlier) n.below → fold (added_count (map label_count earlier)) 1 n.below ≡ label_count (node_proof earlier n)
count_is earlier n h =
    let ps = proofs (map (proof_at earlier) n.below) in
    sums earlier n.below 1 1 h (omega arith) ∙ ap (min (2 ^ 64 - 1)) (swapped (length (postorders ps)) _ (length-append (postorders ps) (n.label ∷ [])))
  where
    swapped : (m t : ℕ) → t ≡ m + 1 → 1 + m ≡ t
    swapped m t e = omega (arith, e)

pub fold_append : {A B : Type 0} (f : B → A → B) (b : B) (xs : List A) (y : A) → fold f b (xs ++ y ∷ []) ≡ f (fold f b xs) y
fold_append f b [] y = refl
fold_append f b (x ∷ xs) y = fold_append f (f b x) xs y

-- one more node
pub counted_more : (nodes : List ProofNode) (i n : ℕ) (d : ProofNode) (bs counts now : List ℕ) → i < length nodes → NameEarlier 0 nodes → bs ≡ (get_or nodes i d).below
    → counts ≡ map label_count (node_proofs (take i nodes)) → n ≡ fold (added_count counts) 1 bs → now ≡ counts ++ n ∷ [] → now ≡ map label_count (node_proofs (take (i + 1) nodes))
counted_more nodes i n d bs counts now h e b is count pushed =
    let earlier = node_proofs (take i nodes) in
    let many : length earlier ≡ i = count_proofs (take i nodes) [] ∙ length_front nodes i h in
    let here : n ≡ label_count (node_proof earlier (get_or nodes i d)) =
    count ∙ ap (λ cs. fold (added_count cs) 1 bs) is ∙ ap (fold (added_count (map label_count earlier)) 1) b
    ∙ count_is earlier (get_or nodes i d) (subst (λ j. AllByRecursion (λ k. k < j) (get_or nodes i d).below) (omega (arith, many)) (below_at nodes 0 i d h e)) in
    pushed ∙ ap (λ cs. cs ++ n ∷ []) is ∙ ap (λ m. map label_count earlier ++ m ∷ []) here ∙ sym (map_push label_count earlier (node_proof earlier (get_or nodes i d)))
    ∙ sym (ap (map label_count) (ap node_proofs (take_more nodes i d h) ∙ fold_append with_node [] (take i nodes) (get_or nodes i d)))
  where
    length_front : {X : Type 0} (xs : List X) (i : ℕ) → i < length xs → 0 + length (take i xs) ≡ i
    length_front [] i h = absurd (omega arith)
    length_front (x ∷ xs) zero h = refl
    length_front (x ∷ xs) (suc i) h = let rest = length_front xs i (omega arith) in omega (arith, rest)

pub counts_inside : (nodes : List ProofNode) (i : ℕ) (d : ProofNode) (bs counts : List ℕ) → i < length nodes → NameEarlier 0 nodes → bs ≡ (get_or nodes i d).below
    → counts ≡ map label_count (node_proofs (take i nodes)) → AllByRecursion (λ k. k < length counts) bs
counts_inside nodes i d bs counts h e b is =
    let many : length counts ≡ i = ap length is ∙ length-map (node_proofs (take i nodes)) label_count ∙ count_proofs (take i nodes) [] ∙ length_front nodes i h in
    subst (λ xs. AllByRecursion (λ k. k < length counts) xs) (sym b)
    (subst (λ j. AllByRecursion (λ k. k < j) (get_or nodes i d).below) (omega (arith, many)) (below_at nodes 0 i d h e))
  where
    length_front : {X : Type 0} (xs : List X) (i : ℕ) → i < length xs → 0 + length (take i xs) ≡ i
    length_front [] i h = absurd (omega arith)
    length_front (x ∷ xs) zero h = refl
    length_front (x ∷ xs) (suc i) h = let rest = length_front xs i (omega arith) in omega (arith, rest)

pub root_count : (nodes : List ProofNode) (counts : List ℕ) → 0 < length nodes → counts ≡ map label_count (node_proofs nodes)
    → get_or counts (length nodes - 1) 0 ≡ label_count (proof_at (node_proofs nodes) (length nodes - 1))
root_count nodes counts h is =
    let many = count_proofs nodes [] in
    ap (λ cs. get_or cs (length nodes - 1) 0) is ∙ get_or-map label_count (node_proofs nodes) (length nodes - 1) no_proof 0 (omega (arith, h, many))

pub child_below : (nodes : List ProofNode) (i : ℕ) (d : ProofNode) (bs : List ℕ) (k : ℕ) → i < length nodes → NameEarlier 0 nodes → bs ≡ (get_or nodes i d).below → k < length bs → get_or bs k 0 < i
child_below nodes i d bs k h e b l =
    let all : AllByRecursion (λ k. k < 0 + i) bs = subst (λ xs. AllByRecursion (λ k. k < 0 + i) xs) (sym b) (below_at nodes 0 i d h e) in
    let one = all_at (λ k. k < 0 + i) bs k 0 all l in
    omega (arith, one)

pub counts_length : (nodes : List ProofNode) (counts : List ℕ) → counts ≡ map label_count (node_proofs nodes) → length counts ≡ length nodes
counts_length nodes counts is = let many = count_proofs nodes [] in ap length is ∙ length-map (node_proofs nodes) label_count ∙ omega (arith, many)

-- a list that is not too long
pub few_labels : (labels : List (List ℕ)) (p : Proof) (n : ℕ) → labels ≡ postorder p → n ≡ label_count p → n ≤ 2 ^ 20 → length labels ≤ 2 ^ 20
few_labels labels p n is count most = small (length labels) (length (postorder p)) n (2 ^ 64 - 1) (ap length is) count most (lit≤ tt)
  where
    small : (l m n top : ℕ) → l ≡ m → n ≡ min top m → n ≤ 2 ^ 20 → 2 ^ 20 + 1 ≤ top → l ≤ 2 ^ 20
    small l m n top e f h k = omega (arith, e, f, h, k)

-- ---- labels from the last one to the first

labels_of_append : (ps qs : List Proof) → labels_of (ps ++ qs) ≡ labels_of ps ++ labels_of qs
labels_of_append [] qs = refl
labels_of_append (p ∷ ps) qs = ap (λ ls. postorder p ++ ls) (labels_of_append ps qs) ∙ sym (append_twice (postorder p) (labels_of ps) (labels_of qs))

pub map_append : {X Y : Type 0} (f : X → Y) (xs ys : List X) → map f (xs ++ ys) ≡ map f xs ++ map f ys
map_append f [] ys = refl
map_append f (x ∷ xs) ys = ap (λ l. f x ∷ l) (map_append f xs ys)

pub all_append : {X : Type 0} (P : X → Type 0) (xs ys : List X) → AllByRecursion P xs → AllByRecursion P ys → AllByRecursion P (xs ++ ys)
all_append P [] ys h k = k
all_append P (x ∷ xs) ys h k = (h.0, all_append P xs ys h.1 k)

pub all_front : {X : Type 0} (P : X → Type 0) (xs ys : List X) → AllByRecursion P (xs ++ ys) → AllByRecursion P xs
all_front P [] ys h = tt
all_front P (x ∷ xs) ys h = (h.0, all_front P xs ys h.1)

pub all_back : {X : Type 0} (P : X → Type 0) (xs ys : List X) → AllByRecursion P (xs ++ ys) → AllByRecursion P ys
all_back P [] ys h = h
all_back P (x ∷ xs) ys h = all_back P xs ys h.1

pub all_weaker : {X : Type 0} (P Q : X → Type 0) → ((x : X) → P x → Q x) → (xs : List X) → AllByRecursion P xs → AllByRecursion Q xs
all_weaker P Q e [] h = tt
all_weaker P Q e (x ∷ xs) h = (e x h.0, all_weaker P Q e xs h.1)

reverse_push : {X : Type 0} (xs : List X) (y : X) → reverse (xs ++ y ∷ []) ≡ y ∷ reverse xs
reverse_push xs y = reverse-append xs (y ∷ [])

abbrev pub pending_labels : List ProofNode → List ℕ → List (List ℕ)
pending_labels nodes pending = labels_of (map (proof_at (node_proofs nodes)) pending)

-- the nodes that are pending are nodes, and their labels and those that were put out are all
pub record IsBackwards (nodes : List ProofNode) (pending : List ℕ) (labels : List (List ℕ)) : Type 0 where
  pub inside : AllByRecursion (λ k. k < length nodes) pending
  pub whole : pending_labels nodes pending ++ reverse labels ≡ postorder (proof_at (node_proofs nodes) (length nodes - 1))

pub below_inside : (nodes : List ProofNode) (i : ℕ) (d : ProofNode) → i < length nodes → NameEarlier 0 nodes → AllByRecursion (λ k. k < length nodes) (get_or nodes i d).below
below_inside nodes i d h e = all_weaker (λ k. k < 0 + i) (λ k. k < length nodes) (λ k l. omega (arith, l, h)) (get_or nodes i d).below (below_at nodes 0 i d h e)

pub last_inside : (nodes : List ProofNode) (pending rest : List ℕ) (n : ℕ) → pending ≡ rest ++ n ∷ [] → AllByRecursion (λ k. k < length nodes) pending → n < length nodes
last_inside nodes pending rest n e h = (all_back (λ k. k < length nodes) rest (n ∷ []) (subst (AllByRecursion (λ k. k < length nodes)) e h)).0

-- the labels of a node's proof, by those of its hypotheses
pub node_labels : (nodes : List ProofNode) (i : ℕ) (d : ProofNode) → i < length nodes → NameEarlier 0 nodes
    → postorder (proof_at (node_proofs nodes) i) ≡ pending_labels nodes (get_or nodes i d).below ++ (get_or nodes i d).label ∷ []
node_labels nodes i d h e =
    ap postorder (node_at nodes i d h e) ∙ ap (λ ls. ls ++ (get_or nodes i d).label ∷ []) (labels_below (map (proof_at (node_proofs nodes)) (get_or nodes i d).below))

pending_last : (nodes : List ProofNode) (rest : List ℕ) (n : ℕ) (d : ProofNode) → n < length nodes → NameEarlier 0 nodes
    → pending_labels nodes (rest ++ n ∷ []) ≡ pending_labels nodes (rest ++ (get_or nodes n d).below) ++ (get_or nodes n d).label ∷ []
pending_last nodes rest n d h e =
    let all = map (proof_at (node_proofs nodes)) in
    let bs = (get_or nodes n d).below in
    let l = (get_or nodes n d).label in
    ap labels_of (map_append (proof_at (node_proofs nodes)) rest (n ∷ [])) ∙ labels_append (all rest) (proof_at (node_proofs nodes) n)
    ∙ ap (λ ls. labels_of (all rest) ++ ls) (node_labels nodes n d h e) ∙ sym (append_twice (labels_of (all rest)) (labels_of (all bs)) (l ∷ []))
    ∙ ap (λ ls. ls ++ l ∷ []) (sym (labels_of_append (all rest) (all bs)) ∙ ap labels_of (sym (map_append (proof_at (node_proofs nodes)) rest bs)))

pub fewer_pending : (nodes : List ProofNode) (pending rest now bs : List ℕ) (n : ℕ) (d : ProofNode) → pending ≡ rest ++ n ∷ [] → n < length nodes → NameEarlier 0 nodes → bs ≡ (get_or nodes n d).below
    → now ≡ rest ++ bs → length (pending_labels nodes now) < length (pending_labels nodes pending)
fewer_pending nodes pending rest now bs n d e h k b is =
    let more = ap length (ap (pending_labels nodes) e ∙ pending_last nodes rest n d h k) in
    let one = one_longer (pending_labels nodes (rest ++ (get_or nodes n d).below)) (get_or nodes n d).label in
    let same = ap (λ ns. length (pending_labels nodes ns)) (is ∙ ap (λ l. rest ++ l) b) in
    omega (arith, more, one, same)

pub backwards_more : (nodes : List ProofNode) (pending rest now bs : List ℕ) (labels put : List (List ℕ)) (label : List ℕ) (n : ℕ) (d : ProofNode)
    → pending ≡ rest ++ n ∷ [] → n < length nodes → NameEarlier 0 nodes
    → bs ≡ (get_or nodes n d).below → label ≡ (get_or nodes n d).label → now ≡ rest ++ bs → put ≡ labels ++ label ∷ [] → IsBackwards nodes pending labels → IsBackwards nodes now put
backwards_more nodes pending rest now bs labels put label n d e h k b l is more old = record {
  inside = subst (AllByRecursion (λ k. k < length nodes)) (sym (is ∙ ap (λ l. rest ++ l) b))
      (all_append (λ k. k < length nodes) rest (get_or nodes n d).below
      (all_front (λ k. k < length nodes) rest (n ∷ []) (subst (AllByRecursion (λ k. k < length nodes)) e old.inside))
      (below_inside nodes n d h k));
  whole =
      ap (λ ns. pending_labels nodes ns ++ reverse put) (is ∙ ap (λ l. rest ++ l) b)
      ∙ ap (λ ls. pending_labels nodes (rest ++ (get_or nodes n d).below) ++ ls) (ap reverse more ∙ reverse_push labels label ∙ ap (λ x. x ∷ reverse labels) l)
      ∙ sym (append_twice (pending_labels nodes (rest ++ (get_or nodes n d).below)) ((get_or nodes n d).label ∷ []) (reverse labels))
      ∙ ap (λ ls. ls ++ reverse labels) (sym (pending_last nodes rest n d h k) ∙ ap (pending_labels nodes) (sym e))
      ∙ old.whole;
}

pub backwards_done : (nodes : List ProofNode) (pending : List ℕ) (labels : List (List ℕ)) → pending ≡ [] → IsBackwards nodes pending labels
    → reverse labels ≡ postorder (proof_at (node_proofs nodes) (length nodes - 1))
backwards_done nodes pending labels e h = ap (λ ns. pending_labels nodes ns ++ reverse labels) (sym e) ∙ h.whole

pub backwards_begun : (nodes : List ProofNode) (pending : List ℕ) (n : ℕ) → 0 < length nodes → pending ≡ n ∷ [] → n ≡ length nodes - 1 → IsBackwards nodes pending []
backwards_begun nodes pending n h e is = record {
  inside = subst (AllByRecursion (λ k. k < length nodes)) (sym e) (omega (arith, h, is), tt);
  whole =
      ap (λ ns. pending_labels nodes ns ++ []) e ∙ append_none (pending_labels nodes (n ∷ []))
      ∙ append_none (postorder (proof_at (node_proofs nodes) n)) ∙ ap (λ k. postorder (proof_at (node_proofs nodes) k)) is;
}
