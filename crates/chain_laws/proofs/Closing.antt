-- Where a solution gives one tree to the nodes of each of some pairs, there are closed bindings under which all solutions do.
use Rattle.std.specs.Prelude.{◌≡◌, ◌≢◌, ℕ, ◌<◌, ◌≤◌, ◌+◌, List, [], ◌∷◌, ◌++◌, length, Option, Some, None, refl}
use Rattle.std.specs.List.{AllByRecursion}
use Rattle.std.proofs.Common.{zero, suc, sym, ap, subst, ◌∙◌, arith, inl, inr}
use Rattle.std.proofs.lemmas.Bool.{cases_eq, cases_lt}
use Rattle.std.proofs.lemmas.List.{append_assoc, get_or_append_left, length_push, get_or_push}
use Rattle.mm_base.specs.declared.symbols.Sym.{Sym}
use Rattle.mm_base.specs.declared.symbols.Label.{Label}
use Rattle.mm_base.specs.declared.symbols.Typecode.{Typecode}
use Rattle.mm_base.specs.declared.tree.Tree.{Tree}
use Rattle.term_model.specs.declared.shape.Id.{Id}
use Rattle.term_model.specs.Terms.{Term, Var, Free, Node, term_at, term_code, children_of}
use Rattle.term_model.specs.Links.{Link, link_at, target_of, end_of}
use Rattle.term_model.specs.Store.{tree_at, trees_at, Fits, Respects, Solution, IsClosed, IsClosedUpTo, IsStore, Agrees, ends_of, HaveSameCodes}
use Rattle.term_model.proofs.LinkLaws.{hop, hop_at, hop_past, end_of_push, end_below, end_unbound, in_order_push, target_of_push_other, target_of_push_same, end_of_append}
use Rattle.term_model.proofs.ClosureLaws.{agrees_refl, closed_step, closed_all}
use Rattle.term_model.proofs.SolutionLaws.{respects_end, respects_push, fits_code, fits_Node, fits_Var, fits_Var_Node}
use Rattle.chain_laws.specs.Layout.{NodePair, AreJoined}

-- ---- how many nodes are not bound

abbrev count_of : Option ℕ → ℕ
count_of None = 1
count_of (Some j) = 0

unbound_below : List Link → ℕ → ℕ
unbound_below links zero = 0
unbound_below links (suc k) = count_of (target_of links k) + unbound_below links k

module _ (links : List Link) (link : Link) (free : target_of links link.from ≡ None) where
  abbrev pushed : List Link
  pushed = links ++ link ∷ []

  unbound_past : (k : ℕ) → k ≤ link.from → unbound_below pushed k ≡ unbound_below links k
  unfolding unbound_below
  unbound_past zero h = refl
  unbound_past (suc k) h =
      let other : k ≢ link.from = λ (e : k ≡ link.from). omega (arith, e, h) in
      rw (target_of_push_other links link k other, unbound_past k (omega (arith, h))) refl

  unbound_push : (k : ℕ) → link.from < k → unbound_below pushed k + 1 ≡ unbound_below links k
  unfolding unbound_below
  unbound_push zero h = absurd (omega (arith, h))
  unbound_push (suc k) h = elim (cases_eq k link.from) [
    | inl e ↦
        let here : target_of pushed k ≡ Some link.to = ap (target_of pushed) e ∙ target_of_push_same links link free in
        let was : target_of links k ≡ None = ap (target_of links) e ∙ free in
        let rest = unbound_past k (omega (arith, e)) in
        rw (here, was) (omega (arith, rest))
    | inr n ↦
        let rest = unbound_push k (omega (arith, h, n)) in
        rw (target_of_push_other links link k n) (omega (arith, rest))
  ]

  unbound_positive : (k : ℕ) → link.from < k → 0 < unbound_below links k
  unbound_positive k h = omega (arith, unbound_push k h)

-- ---- pairs

abbrev AllEnd : List Link → List NodePair → Type 0
AllEnd links pairs = AllByRecursion (λ (p : NodePair). end_of links p.0 ≡ end_of links p.1) pairs

abbrev AreInside : ℕ → List NodePair → Type 0
AreInside n pairs = AllByRecursion (λ (p : NodePair). (p.0 < n) × (p.1 < n)) pairs

all_split : {X : Type 0} (P : X → Type 0) (xs ys : List X) → AllByRecursion P (xs ++ ys) → AllByRecursion P xs × AllByRecursion P ys
all_split P [] ys h = (tt, h)
all_split P (x ∷ xs) ys h = let rest = all_split P xs ys h.1 in ((h.0, rest.0), rest.1)

all_joined : {X : Type 0} (P : X → Type 0) (xs ys : List X) → AllByRecursion P xs → AllByRecursion P ys → AllByRecursion P (xs ++ ys)
all_joined P [] ys h g = g
all_joined P (x ∷ xs) ys h g = (h.0, all_joined P xs ys h.1 g)

-- the children of two productions, pair by pair
abbrev kid_pairs : List Id → List Id → List NodePair
kid_pairs [] ys = []
kid_pairs (x ∷ xs) [] = []
kid_pairs (x ∷ xs) (y ∷ ys) = (x.0, y.0) ∷ kid_pairs xs ys

kids_joined : (trees : List Tree) (xs ys : List Id) → trees_at trees xs ≡ trees_at trees ys → AreJoined trees (kid_pairs xs ys)
kids_joined trees [] ys e = tt
kids_joined trees (x ∷ xs) [] e = tt
kids_joined trees (x ∷ xs) (y ∷ ys) e =
    let head : tree_at trees x.0 ≡ tree_at trees y.0 = cc in
    let tail : trees_at trees xs ≡ trees_at trees ys = cc in
    (head, kids_joined trees xs ys tail)

kids_end : (trees : List Tree) (links : List Link) (xs ys : List Id) → trees_at trees xs ≡ trees_at trees ys → AllEnd links (kid_pairs xs ys) → ends_of links xs ≡ ends_of links ys
kids_end trees links [] [] e h = refl
kids_end trees links [] (y ∷ ys) e h = absurd (cc)
kids_end trees links (x ∷ xs) [] e h = absurd (cc)
kids_end trees links (x ∷ xs) (y ∷ ys) e h =
    let tail : trees_at trees xs ≡ trees_at trees ys = cc in
    let head = h.0 in
    let rest = kids_end trees links xs ys tail h.1 in
    cc

kids_inside : (n : ℕ) (xs ys : List Id) → AllByRecursion (λ (id : Id). id.0 < n) xs → AllByRecursion (λ (id : Id). id.0 < n) ys → AreInside n (kid_pairs xs ys)
kids_inside n [] ys h g = tt
kids_inside n (x ∷ xs) [] h g = tt
kids_inside n (x ∷ xs) (y ∷ ys) h g = ((h.0, g.0), kids_inside n xs ys h.1 g.1)

wider : (n m : ℕ) (xs : List Id) → n ≤ m → AllByRecursion (λ (id : Id). id.0 < n) xs → AllByRecursion (λ (id : Id). id.0 < m) xs
wider n m [] h a = tt
wider n m (x ∷ xs) h a = (omega (arith, a.0, h), wider n m xs h a.1)

-- ---- what a binding of one node to another asks

-- pairs that have one tree where the two have, and with whose ends the one agrees with the other
record Meeting (nodes : List Term) (e f : Term) : Type 0 where
  kids : List NodePair
  inside : AreInside (length nodes) kids
  joined : (trees : List Tree) (t : Tree) → Fits trees t e → Fits trees t f → AreJoined trees kids
  agrees : (links : List Link) → AllEnd links kids → Agrees links e f

-- two terms that one tree fits meet, unless the second alone is free
data IsBindable : Term → Term → Type 0 where
  free_first : {c : Typecode} {f : Term} → IsBindable (Free c) f
  two_variables : {s r : Sym} {c d : Typecode} → IsBindable (Var s c) (Var r d)
  two_productions : {l m : Label} {c d : Typecode} {k h : ℕ} {xs ys : List Id} → IsBindable (Node l c k xs) (Node m d h ys)

module _ (nodes : List Term) where
  meeting : (e f : Term) (trees : List Tree) (t : Tree) → IsBindable e f → AllByRecursion (λ (id : Id). id.0 < length nodes) (children_of e)
      → AllByRecursion (λ (id : Id). id.0 < length nodes) (children_of f) → Fits trees t e → Fits trees t f → Meeting nodes e f
  meeting (Free c) f trees t free_first h g p q = record { kids = []; inside = tt; joined = λ us u a b. tt; agrees = λ links a. tt }
  meeting (Var s c) (Free d) trees t b h g p q = elim b [ ]
  meeting (Var s c) (Node m d j ys) trees t b h g p q = elim b [ ]
  meeting (Node l c k xs) (Free d) trees t b h g p q = elim b [ ]
  meeting (Node l c k xs) (Var r d) trees t b h g p q = elim b [ ]
  meeting (Var s c) (Var r d) trees t two_variables h g p q =
      let same = fits_Var trees t s r c d p q in
      let one : Var r d ≡ Var s c = let a = same.0 in let b = same.1 in cc in
      record { kids = []; inside = tt; joined = λ us u a b. tt; agrees = λ links a. one }
  meeting (Node l c k xs) (Node m d j ys) trees t two_productions h g p q =
      let same = fits_Node trees t l m c d k j xs ys p q in
      record {
        kids = kid_pairs xs ys;
        inside = kids_inside (length nodes) xs ys h g;
        joined = λ us u a b. kids_joined us xs ys (fits_Node us u l m c d k j xs ys a b).2;
        agrees = λ links a. (same.0, same.1, kids_end trees links xs ys same.2 a);
      }

-- the bindings that are made, once more links stand behind, agree where these pairs have one end
Closes : List Term → List Link → List NodePair → Type 0
Closes nodes links pairs =
    (more : List Link) → AllEnd (links ++ more) pairs → (k : ℕ) → k < length links
    → Agrees (links ++ more) (term_at nodes (link_at links k).from) (term_at nodes (link_at links k).to)

-- closed bindings behind these
record Closed (nodes : List Term) (trees : List Tree) (links : List Link) (pairs : List NodePair) : Type 0 where
  final : List Link
  more : List Link
  extends : final ≡ links ++ more
  store : IsStore nodes final
  solves : Solution nodes final trees
  forced : (us : List Tree) → Solution nodes links us → AreJoined us pairs → Solution nodes final us
  ended : AllEnd final pairs
  closes : Closes nodes final []

module _ (nodes : List Term) (trees : List Tree) where
  abbrev Joins : ℕ → Type 0
  Joins room =
      (links : List Link) (pairs : List NodePair) → unbound_below links (length nodes) ≤ room → IsStore nodes links → Solution nodes links trees
      → AreJoined trees pairs → AreInside (length nodes) pairs → Closes nodes links pairs → Closed nodes trees links pairs

  -- one more binding, of one end to another
  module _ (links : List Link) (x y f t : ℕ) (store : IsStore nodes links) (sol : Solution nodes links trees)
      (meets : hop (record { from = f; to = t }) (end_of links x) ≡ hop (record { from = f; to = t }) (end_of links y))
      (from_free : target_of links f ≡ None) (to_free : target_of links t ≡ None) (from_inside : f < length nodes) (to_inside : t < length nodes) (apart : f ≢ t)
      (same : (us : List Tree) → tree_at us (end_of links x) ≡ tree_at us (end_of links y) → tree_at us f ≡ tree_at us t)
      (one : tree_at trees x ≡ tree_at trees y) (meet : Meeting nodes (term_at nodes f) (term_at nodes t)) where
    abbrev link : Link
    link = record { from = f; to = t }

    abbrev next : List Link
    next = links ++ link ∷ []

    same_at : (us : List Tree) → Solution nodes links us → tree_at us x ≡ tree_at us y → tree_at us f ≡ tree_at us t
    same_at us s e = same us (sym (respects_end us links x s.links_fit) ∙ e ∙ respects_end us links y s.links_fit)

    next_codes : (ls : List Link) → HaveSameCodes nodes ls → term_code (term_at nodes f) ≡ term_code (term_at nodes t) → HaveSameCodes nodes (ls ++ link ∷ [])
    next_codes [] h e = (e, tt)
    next_codes (l ∷ ls) h e = (h.0, next_codes ls h.1 e)

    next_store : IsStore nodes next
    next_store = record {
      children = store.children;
      in_order = in_order_push (length nodes) links link store.in_order from_free to_free from_inside to_inside apart;
      codes =
          next_codes links store.codes
          (sym (fits_code trees (tree_at trees f) (term_at nodes f) (sol.nodes_fit f from_inside))
          ∙ fits_code trees (tree_at trees f) (term_at nodes t)
          (subst (λ (u : Tree). Fits trees u (term_at nodes t)) (sym (same_at trees sol one)) (sol.nodes_fit t to_inside)));
    }

    next_solution : (us : List Tree) → Solution nodes links us → tree_at us x ≡ tree_at us y → Solution nodes next us
    next_solution us s e = record { count = s.count; nodes_fit = s.nodes_fit; links_fit = respects_push us links link s.links_fit (same_at us s e) }

    kids_of : (us : List Tree) → Solution nodes links us → tree_at us x ≡ tree_at us y → AreJoined us meet.kids
    kids_of us s e = meet.joined us (tree_at us f) (s.nodes_fit f from_inside) (subst (λ (u : Tree). Fits us u (term_at nodes t)) (sym (same_at us s e)) (s.nodes_fit t to_inside))

    -- the two nodes then have one end
    ends_meet : (more : List Link) → end_of (next ++ more) x ≡ end_of (next ++ more) y
    ends_meet more =
        end_of_append next more x ∙ ap (end_of more) (end_of_push links link x ∙ meets ∙ sym (end_of_push links link y)) ∙ sym (end_of_append next more y)

    next_closes : (pairs : List NodePair) → Closes nodes links ((x, y) ∷ pairs) → Closes nodes next (meet.kids ++ pairs)
    unfolding Closes
    next_closes pairs c more ends k h =
        let parts = all_split (λ (p : NodePair). end_of (next ++ more) p.0 ≡ end_of (next ++ more) p.1) meet.kids pairs ends in
        elim (cases_lt k (length links)) [
          | inl old ↦
              let whole : next ++ more ≡ links ++ (link ∷ more) = append_assoc links (link ∷ []) more in
              let told = c (link ∷ more) (subst (λ (ls : List Link). AllEnd ls ((x, y) ∷ pairs)) whole (ends_meet more, parts.1)) k old in
              rw (get_or_append_left links (link ∷ []) _ k old) (subst (λ (ls : List Link). Agrees ls (term_at nodes (link_at links k).from) (term_at nodes (link_at links k).to)) (sym whole) told)
          | inr past ↦
              let last : k ≡ length links = omega (arith, h, past, length_push links link) in
              rw (get_or_push links link _ k (sym last)) (meet.agrees (next ++ more) parts.0)
        ]

    next_fewer : (room : ℕ) → unbound_below links (length nodes) ≤ suc room → unbound_below next (length nodes) ≤ room
    next_fewer room h = omega (arith, h, unbound_push links link from_free (length nodes) from_inside)

    bound_on : (room : ℕ) (pairs : List NodePair) → Joins room → unbound_below links (length nodes) ≤ suc room → AreJoined trees pairs
        → AreInside (length nodes) pairs → Closes nodes links ((x, y) ∷ pairs) → Closed nodes trees links ((x, y) ∷ pairs)
    bound_on room pairs join few joined inside closes =
        let rest = join next (meet.kids ++ pairs) (next_fewer room few) next_store (next_solution trees sol one)
        (all_joined (λ (p : NodePair). tree_at trees p.0 ≡ tree_at trees p.1) meet.kids pairs (kids_of trees sol one) joined)
        (all_joined (λ (p : NodePair). (p.0 < length nodes) × (p.1 < length nodes)) meet.kids pairs meet.inside inside) (next_closes pairs closes) in
        let whole : links ++ (link ∷ rest.more) ≡ next ++ rest.more = sym (append_assoc links (link ∷ []) rest.more) in
        record {
          final = rest.final;
          more = link ∷ rest.more;
          extends = rest.extends ∙ sym whole;
          store = rest.store;
          solves = rest.solves;
          forced = λ us s j. rest.forced us (next_solution us s j.0) (all_joined (λ (p : NodePair). tree_at us p.0 ≡ tree_at us p.1) meet.kids pairs (kids_of us s j.0) j.1);
          ended = (
            subst (λ (ls : List Link). end_of ls x ≡ end_of ls y) (sym rest.extends) (ends_meet rest.more),
            (all_split (λ (p : NodePair). end_of rest.final p.0 ≡ end_of rest.final p.1) meet.kids pairs rest.ended).1,
          );
          closes = rest.closes;
        }

  -- the nodes of a pair have one end already
  same_on : (links : List Link) (x y : ℕ) (pairs : List NodePair) → end_of links x ≡ end_of links y
      → (Closes nodes links pairs → Closed nodes trees links pairs) → Closes nodes links ((x, y) ∷ pairs) → Closed nodes trees links ((x, y) ∷ pairs)
  unfolding Closes
  same_on links x y pairs e join closes =
      let meet : (more : List Link) → end_of (links ++ more) x ≡ end_of (links ++ more) y = λ more. end_of_append links more x ∙ ap (end_of more) e ∙ sym (end_of_append links more y) in
      let rest = join (λ more ends k h. closes more (meet more, ends) k h) in
      record {
        final = rest.final;
        more = rest.more;
        extends = rest.extends;
        store = rest.store;
        solves = rest.solves;
        forced = λ us s j. rest.forced us s j.1;
        ended = (subst (λ (ls : List Link). end_of ls x ≡ end_of ls y) (sym rest.extends) (meet rest.more), rest.ended);
        closes = rest.closes;
      }

-- which of two terms can be bound to the other
data Bindable (e f : Term) : Type 0 where
  straight : IsBindable e f → Bindable e f
  turned : IsBindable f e → Bindable e f

bindable : (trees : List Tree) (t : Tree) (e f : Term) → Fits trees t e → Fits trees t f → Bindable e f
bindable trees t (Free c) f p q = straight free_first
bindable trees t (Var s c) (Free d) p q = turned free_first
bindable trees t (Var s c) (Var r d) p q = straight two_variables
bindable trees t (Var s c) (Node m d h ys) p q = absurd (fits_Var_Node trees t s c d m h ys p q)
bindable trees t (Node l c k xs) (Free d) p q = turned free_first
bindable trees t (Node l c k xs) (Var r d) p q = absurd (fits_Var_Node trees t r d c l k xs q p)
bindable trees t (Node l c k xs) (Node m d h ys) p q = straight two_productions

module _ (nodes : List Term) (trees : List Tree) where
  inside_of : (links : List Link) (i : ℕ) → IsStore nodes links → i < length nodes → AllByRecursion (λ (id : Id). id.0 < length nodes) (children_of (term_at nodes i))
  inside_of links i store h = wider i (length nodes) (children_of (term_at nodes i)) (omega (arith, h)) (store.children i h)

  differ_on : (links : List Link) (x y : ℕ) (pairs : List NodePair) (room : ℕ) → Joins nodes trees room
      → unbound_below links (length nodes) ≤ suc room → IsStore nodes links → Solution nodes links trees → AreJoined trees ((x, y) ∷ pairs)
      → AreInside (length nodes) ((x, y) ∷ pairs) → Closes nodes links ((x, y) ∷ pairs)
      → end_of links x ≢ end_of links y → Closed nodes trees links ((x, y) ∷ pairs)
  differ_on links x y pairs room join few store sol joined inside closes ne =
      let n = length nodes in
      let a = end_of links x in
      let b = end_of links y in
      let a_free = end_unbound n links x store.in_order in
      let b_free = end_unbound n links y store.in_order in
      let a_inside = end_below n links x store.in_order inside.0.0 in
      let b_inside = end_below n links y store.in_order inside.0.1 in
      let one : tree_at trees a ≡ tree_at trees b = sym (respects_end trees links x sol.links_fit) ∙ joined.0 ∙ respects_end trees links y sol.links_fit in
      let fits_a : Fits trees (tree_at trees a) (term_at nodes a) = sol.nodes_fit a a_inside in
      let fits_b : Fits trees (tree_at trees a) (term_at nodes b) = subst (λ (u : Tree). Fits trees u (term_at nodes b)) (sym one) (sol.nodes_fit b b_inside) in
      let back : b ≢ a = λ (e : b ≡ a). ne (sym e) in
      elim (bindable trees (tree_at trees a) (term_at nodes a) (term_at nodes b) fits_a fits_b) [
        | straight h ↦
            bound_on nodes trees links x y a b store sol
            (hop_at (record { from = a; to = b }) a refl ∙ sym (hop_past (record { from = a; to = b }) b back)) a_free b_free a_inside b_inside ne
            (λ us e. e) joined.0
            (meeting nodes (term_at nodes a) (term_at nodes b) trees (tree_at trees a) h (inside_of links a store a_inside)
            (inside_of links b store b_inside) fits_a fits_b) room pairs join few joined.1 inside.1 closes
        | turned h ↦
            bound_on nodes trees links x y b a store sol
            (hop_past (record { from = b; to = a }) a ne ∙ sym (hop_at (record { from = b; to = a }) b refl)) b_free a_free b_inside a_inside back
            (λ us e. sym e) joined.0
            (meeting nodes (term_at nodes b) (term_at nodes a) trees (tree_at trees a) h (inside_of links b store b_inside)
            (inside_of links a store a_inside) fits_b fits_a) room pairs join few joined.1 inside.1 closes
      ]

  none_left : (links : List Link) (x : ℕ) → IsStore nodes links → x < length nodes → unbound_below links (length nodes) ≤ 0 → ⊥
  none_left links x store h few =
      let n = length nodes in
      let e = end_of links x in
      omega (arith, few, unbound_positive links (record { from = e; to = e }) (end_unbound n links x store.in_order) n (end_below n links x store.in_order h))

  -- by the number of nodes that are not bound, and then the pairs
  join_by : (room : ℕ)
      → ((links : List Link) (x y : ℕ) (pairs : List NodePair) → unbound_below links (length nodes) ≤ room → IsStore nodes links
      → Solution nodes links trees → AreJoined trees ((x, y) ∷ pairs) → AreInside (length nodes) ((x, y) ∷ pairs)
      → Closes nodes links ((x, y) ∷ pairs) → end_of links x ≢ end_of links y → Closed nodes trees links ((x, y) ∷ pairs))
      → (links : List Link) (pairs : List NodePair) → unbound_below links (length nodes) ≤ room → IsStore nodes links → Solution nodes links trees
      → AreJoined trees pairs → AreInside (length nodes) pairs → Closes nodes links pairs → Closed nodes trees links pairs
  join_by room differ links [] few store sol joined inside closes =
      record {
        final = links;
        more = [];
        extends = sym (append_none links);
        store = store;
        solves = sol;
        forced = λ us s j. s;
        ended = tt;
        closes = closes;
      }
    where
      append_none : (ls : List Link) → ls ++ [] ≡ ls
      append_none [] = refl
      append_none (l ∷ ls) = ap (λ (rest : List Link). l ∷ rest) (append_none ls)
  join_by room differ links ((x, y) ∷ pairs) few store sol joined inside closes = elim (cases_eq (end_of links x) (end_of links y)) [
    | inl e ↦ same_on nodes trees links x y pairs e (λ c. join_by room differ links pairs few store sol joined.1 inside.1 c) closes
    | inr ne ↦ differ links x y pairs few store sol joined inside closes ne
  ]

  join : (room : ℕ) → Joins nodes trees room
  join zero = join_by zero (λ links x y pairs few store sol joined inside closes ne. absurd (none_left links x store inside.0.0 few))
  join (suc room) = join_by (suc room) (λ links x y pairs few store sol joined inside closes ne. differ_on links x y pairs room (join room) few store sol joined inside closes ne)

-- bindings that agree one by one are closed
closed_links : (nodes : List Term) (links : List Link) (k : ℕ) → k ≤ length links
    → ((j : ℕ) → j < length links → Agrees links (term_at nodes (link_at links j).from) (term_at nodes (link_at links j).to))
    → IsClosedUpTo k nodes links
closed_links nodes links zero h each = record { agrees = λ i below. agrees_refl links (term_at nodes i) }
closed_links nodes links (suc k) h each =
    let up : k + 1 ≡ suc k = omega arith in
    subst (λ (j : ℕ). IsClosedUpTo j nodes links) up (closed_step k nodes links _ (omega (arith, h)) (closed_links nodes links k (omega (arith, h)) each) (each k (omega (arith, h))))

-- closed bindings of a store without bindings, whose solutions are those that join the pairs
pub record IsJoined (nodes : List Term) (pairs : List NodePair) : Type 0 where
  pub links : List Link
  pub store : IsStore nodes links
  pub closed : IsClosed nodes links
  pub there : (us : List Tree) → Solution nodes links us → AreJoined us pairs
  pub back : (us : List Tree) → Solution nodes [] us → AreJoined us pairs → Solution nodes links us

pub all_are_joined : (nodes : List Term) (pairs : List NodePair) (trees : List Tree) → IsStore nodes [] → Solution nodes [] trees
    → AreJoined trees pairs → AreInside (length nodes) pairs → IsJoined nodes pairs
unfolding Closes
all_are_joined nodes pairs trees store sol joined inside =
    let done = join nodes trees (unbound_below [] (length nodes)) [] pairs (omega arith) store sol joined inside (λ more ends k h. absurd (omega (arith, h))) in
    let whole = done.closes [] tt in
    record {
      links = done.final;
      store = done.store;
      closed =
          closed_all (length done.final) nodes done.final (omega arith)
          (closed_links nodes done.final (length done.final) (omega arith)
          (λ j h. subst (λ (ls : List Link). Agrees ls (term_at nodes (link_at done.final j).from) (term_at nodes (link_at done.final j).to))
          (none done.final) (whole j h)));
      there = λ us s. told us done.final pairs s.links_fit done.ended;
      back = done.forced;
    }
  where
    none : (ls : List Link) → ls ++ [] ≡ ls
    none [] = refl
    none (l ∷ ls) = ap (λ (rest : List Link). l ∷ rest) (none ls)

    told : (us : List Tree) (links : List Link) (ps : List NodePair) → Respects us links → AllEnd links ps → AreJoined us ps
    told us links [] r e = tt
    told us links (p ∷ ps) r e = (respects_end us links p.0 r ∙ ap (tree_at us) e.0 ∙ sym (respects_end us links p.1 r), told us links ps r e.1)
