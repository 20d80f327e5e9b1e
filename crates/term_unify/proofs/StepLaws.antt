-- Laws of stores that gain bindings.
use Rattle.std.proofs.Common.{◌≡◌, ◌≢◌, ◌↔◌, ℕ, ◌+◌, ◌<◌, ◌≤◌, Bool, true, false, not, eqb, ◌&&◌, add-one, Option, Some, None, List, zero, suc, []}
use Rattle.std.proofs.Common.{◌∷◌, ◌++◌, length, take, drop, map, refl, ap, sym, subst, ◌∙◌, arith, length-append, append_assoc, append-nil}
use Rattle.std.proofs.lemmas.Bool.{and_from, eq-eqb, eqb-true, eqb-false, not-true, not-false}
use Rattle.std.proofs.lemmas.List.{take_all, take_at, drop_at, get_or_append_left, drop-append-le, take-map, take_more_same, length-map}
use Rattle.std.proofs.lemmas.Option.{get_or_from_slice_get}
use Rattle.std.specs.Prelude.{slice_get}
use Rattle.std.specs.List.{AllByRecursion}
use Rattle.mm_base.specs.declared.tree.Tree.{Tree}
use Rattle.mm_base.specs.declared.symbols.Sym.{Sym}
use Rattle.mm_base.specs.declared.symbols.Label.{Label}
use Rattle.mm_base.specs.declared.symbols.Typecode.{Typecode}
use Rattle.term_model.specs.declared.shape.Id.{Id}
use Rattle.term_model.specs.declared.shape.Shape.{Shape}
use Rattle.term_model.specs.Terms.{Term, Var, Free, Node, children_of, term_code, term_at, shape_of, shape_code, is_free, is_free_shape}
use Rattle.term_model.specs.Links.{Link, AreBelow, link_at, target_of, end_of}
use Rattle.term_model.specs.Store.{Store, IsStore, IsClosed, cut_to, Fits, Respects, Agrees, with_link, tree_at, trees_at, ends_of, IsClosedUpTo, Solution}
use Rattle.mm_base.specs.Trees.{code_of}
use Rattle.term_model.proofs.LinkLaws.{are_below, end_of_unbound, end_of_append, end_of_push, hop_at, hop_past}
use Rattle.term_model.proofs.SolutionLaws.{respects_end, solution_push, solution_front, same_end, fits_code, fits_Var, fits_Node, fits_Var_Node}
use Rattle.term_model.proofs.ClosureLaws.{closed_push, closed_step, closed_start}
use Rattle.term_unify.specs.Steps.{IsOriented, Extends, Forces, Excludes, HaveSameTree, HaveSameChildren, HasNone, pairs_of}

pub code_of_shape : (e : Term) → shape_code (shape_of e) ≡ term_code e
code_of_shape (Var s c) = refl
code_of_shape (Free c) = refl
code_of_shape (Node l c k kids) = refl

pub extends_refl : (s : Store) → Extends s s
extends_refl s = record { nodes = refl; ready = refl; more = []; links = sym (append-nil s.links); oriented = tt }

pub extends_link : (s : Store) (link : Link) → IsOriented s.nodes link → Extends s (with_link s link)
extends_link s link o = record { nodes = refl; ready = refl; more = link ∷ []; links = refl; oriented = (o, tt) }

oriented_append : (nodes other : List Term) (a b : List Link) → other ≡ nodes → AllByRecursion (IsOriented nodes) a → AllByRecursion (IsOriented other) b → AllByRecursion (IsOriented nodes) (a ++ b)
oriented_append nodes other [] b e p q = subst (λ (n : List Term). AllByRecursion (IsOriented n) b) e q
oriented_append nodes other (l ∷ a) b e p q = (p.0, oriented_append nodes other a b e p.1 q)

pub extends_trans : (s t u : Store) → Extends s t → Extends t u → Extends s u
extends_trans s t u p q = record {
  nodes = q.nodes ∙ p.nodes;
  ready = q.ready ∙ p.ready;
  more = p.more ++ q.more;
  links = q.links ∙ ap (λ (ls : List Link). ls ++ q.more) p.links ∙ append_assoc s.links p.more q.more;
  oriented = oriented_append s.nodes t.nodes p.more q.more p.nodes p.oriented q.oriented;
}

-- nodes with one end keep one end
pub extends_end : (s t : Store) (i j : ℕ) → Extends s t → end_of s.links i ≡ end_of s.links j → end_of t.links i ≡ end_of t.links j
extends_end s t i j p e =
    rw p.links (end_of_append s.links p.more i ∙ ap (end_of p.more) e ∙ sym (end_of_append s.links p.more j))

pub ends_of_append : (links more : List Link) (xs : List Id) → ends_of (links ++ more) xs ≡ map (end_of more) (ends_of links xs)
ends_of_append links more [] = refl
ends_of_append links more (id ∷ xs) = rw (end_of_append links more id.0, ends_of_append links more xs) refl

-- a link between the two ends joins them
pub joined : (links : List Link) (i j : ℕ) → end_of links i ≢ end_of links j
    → end_of (links ++ record { from = end_of links i; to = end_of links j } ∷ []) i
    ≡ end_of (links ++ record { from = end_of links i; to = end_of links j } ∷ []) j
joined links i j ne =
    let link : Link = record { from = end_of links i; to = end_of links j } in
    end_of_push links link i ∙ hop_at link (end_of links i) refl ∙ sym (end_of_push links link j ∙ hop_past link (end_of links j) (λ e. ne (sym e)))

pub closed_append : (k : ℕ) (nodes : List Term) (links more : List Link) → k ≤ length links → IsClosedUpTo k nodes links → IsClosedUpTo k nodes (links ++ more)
closed_append k nodes links [] h c = rw append-nil c
closed_append k nodes links (l ∷ more) h c =
    let step = closed_append k nodes (links ++ l ∷ []) more (omega (arith, length-append links (l ∷ []))) (closed_push k nodes links l h c) in
    let same : (links ++ l ∷ []) ++ more ≡ links ++ l ∷ more = append_assoc links (l ∷ []) more in
    rw same at step

-- what a link between the ends of two nodes does
pub record IsJoined (s t : Store) (i j : ℕ) : Type 0 where
  pub extends : Extends s t
  pub joined : end_of t.links i ≡ end_of t.links j
  pub forced : Forces s t (HaveSameTree i j)

pub bound_step : (s t : Store) (i j from to : ℕ) → from ≡ end_of s.links i → to ≡ end_of s.links j → from ≢ to
    → (is_free (term_at s.nodes to) ≡ true → is_free (term_at s.nodes from) ≡ true) → target_of s.links to ≡ None
    → t ≡ with_link s (record { from = from; to = end_of s.links to }) → IsJoined s t i j
bound_step s t i j from to f g ne oriented free is =
    let link : Link = record { from = end_of s.links i; to = end_of s.links j } in
    let same : record { from = from; to = end_of s.links to } ≡ link = rw (end_of_unbound s.links to free, f, g) refl in
    let is' : t ≡ with_link s link = is ∙ ap (with_link s) same in
    let o : IsOriented s.nodes link = rw (f, g) at oriented in
    rw is' (record {
      extends = extends_link s link o;
      joined = joined s.links i j (rw (f, g) at ne);
      forced = λ trees sol e. solution_push s.nodes s.links trees i j sol e;
    })

pub joined_swap : (s t : Store) (i j : ℕ) → IsJoined s t i j → IsJoined s t j i
joined_swap s t i j b = record { extends = b.extends; joined = sym b.joined; forced = λ trees sol e. b.forced trees sol (sym e) }

-- nodes of two typecodes have two trees
pub codes_exclude : (s : Store) (i j : ℕ) → end_of s.links i < length s.nodes → end_of s.links j < length s.nodes
    → term_code (term_at s.nodes (end_of s.links i)) ≢ term_code (term_at s.nodes (end_of s.links j)) → Excludes s (HaveSameTree i j)
codes_exclude s i j hi hj ne trees sol e =
    let ri = end_of s.links i in
    let rj = end_of s.links j in
    let same : tree_at trees ri ≡ tree_at trees rj = sym (respects_end trees s.links i sol.links_fit) ∙ e ∙ respects_end trees s.links j sol.links_fit in
    ne (sym (fits_code trees (tree_at trees ri) (term_at s.nodes ri) (sol.nodes_fit ri hi)) ∙ ap code_of same ∙ fits_code trees (tree_at trees rj) (term_at s.nodes rj) (sol.nodes_fit rj hj))

pub look_code : (nodes : List Term) (i : ℕ) (sh : Shape) (code : Typecode) → sh ≡ shape_of (term_at nodes i) → code ≡ shape_code sh → code ≡ term_code (term_at nodes i)
look_code nodes i sh code e f = f ∙ ap shape_code e ∙ code_of_shape (term_at nodes i)

pub look_free : (nodes : List Term) (i : ℕ) (sh : Shape) (r b : Bool) → sh ≡ shape_of (term_at nodes i) → r ≡ is_free_shape sh → r ≡ b → is_free (term_at nodes i) ≡ b
look_free nodes i sh r b e f g = ap is_free_shape (sym e) ∙ sym f ∙ g

pub same_codes : (c d : Typecode) (r : Bool) → r ≡ not (eqb c.0.0 d.0.0) → r ≡ false → c ≡ d
same_codes c d r e f =
    let n : c.0.0 ≡ d.0.0 = eqb-true c.0.0 d.0.0 (not-false (eqb c.0.0 d.0.0) (sym e ∙ f)) in
    let code : ℕ → Typecode = λ (k : ℕ). record { 0 = record { 0 = k } } in
    ap code n

pub other_codes : (c d : Typecode) (r : Bool) → r ≡ not (eqb c.0.0 d.0.0) → r ≡ true → c ≢ d
other_codes c d r e f = λ (same : c ≡ d). eqb-false c.0.0 d.0.0 (not-true (eqb c.0.0 d.0.0) (sym e ∙ f)) (ap (λ (t : Typecode). t.0.0) same)

pub ends_apart : (a b : ℕ) (r : Bool) → r ≡ eqb a b → r ≡ false → a ≢ b
ends_apart a b r e f = eqb-false a b (sym e ∙ f)

pub slice_get-map : {X Y : Type 0} (f : X → Y) (xs : List X) (k : ℕ) (x : X) → slice_get xs k ≡ Some x → slice_get (map f xs) k ≡ Some (f x)
slice_get-map f [] k x e = let impossible : None ≡ Some x = e in cc
slice_get-map f (y ∷ xs) zero x e = let same : y ≡ x = cc in ap (λ z. Some (f z)) same
slice_get-map f (y ∷ xs) (suc k) x e = slice_get-map f xs k x e

-- the k-th children of two productions with the same children's trees have one tree
pub child_trees : (trees : List Tree) (xs ys : List Id) (k : ℕ) (x y : Id) → trees_at trees xs ≡ trees_at trees ys → slice_get xs k ≡ Some x
    → slice_get ys k ≡ Some y → tree_at trees x.0 ≡ tree_at trees y.0
child_trees trees xs ys k x y e f g =
    let tree : Id → Tree = λ (id : Id). tree_at trees id.0 in
    let both : Some (tree x) ≡ Some (tree y) = sym (slice_get-map tree xs k x f) ∙ ap (λ (ts : List Tree). slice_get ts k) e ∙ slice_get-map tree ys k y g in
    cc

-- one more pair of children has one end
pub ends_more : (s t : Store) (xs ys : List Id) (k : ℕ) (x y : Id) → Extends s t → take k (ends_of s.links xs) ≡ take k (ends_of s.links ys)
    → slice_get xs k ≡ Some x → slice_get ys k ≡ Some y → k < length xs → k < length ys → end_of t.links x.0 ≡ end_of t.links y.0
    → take (k + 1) (ends_of t.links xs) ≡ take (k + 1) (ends_of t.links ys)
ends_more s t xs ys k x y p e f g hx hy same =
    let end : Id → ℕ = λ (id : Id). end_of t.links id.0 in
    let old : take k (ends_of t.links xs) ≡ take k (ends_of t.links ys) =
    rw (p.links, ends_of_append s.links p.more xs, ends_of_append s.links p.more ys, take-map (end_of p.more) k (ends_of s.links xs), take-map (end_of p.more) k (ends_of s.links ys), e) refl in
    take_more_same (ends_of t.links xs) (ends_of t.links ys) k 0 (omega (arith, length-map xs end)) (omega (arith, length-map ys end)) old
    (get_or_from_slice_get (ends_of t.links xs) k (end x) 0 (slice_get-map end xs k x f) ∙ same ∙ sym (get_or_from_slice_get (ends_of t.links ys) k (end y) 0 (slice_get-map end ys k y g)))

-- the two nodes of a binding have one tree
pub link_tree : (trees : List Tree) (links : List Link) (k : ℕ) → Respects trees links → k < length links → tree_at trees (link_at links k).from ≡ tree_at trees (link_at links k).to
link_tree trees [] k r h = absurd (omega arith)
link_tree trees (l ∷ links) zero r h = r.0
link_tree trees (l ∷ links) (suc k) r h = link_tree trees links k r.1 (omega arith)

pairs_children : (trees : List Tree) (t : Tree) (e f : Term) (n : ℕ) → pairs_of (shape_of e) (shape_of f) ≡ Some n → Fits trees t e → Fits trees t f
    → trees_at trees (children_of e) ≡ trees_at trees (children_of f)
pairs_children trees t (Var x c) (Var y d) n p a b = refl
pairs_children trees t (Var x c) (Free d) n p a b = let impossible : ◌≡◌ {A = Option ℕ} None (Some n) = p in cc
pairs_children trees t (Var x c) (Node m d h ys) n p a b = let impossible : ◌≡◌ {A = Option ℕ} None (Some n) = p in cc
pairs_children trees t (Free c) f n p a b = no_pairs f p
  where
    no_pairs : (f : Term) → pairs_of (Shape.Free c) (shape_of f) ≡ Some n → trees_at trees [] ≡ trees_at trees (children_of f)
    no_pairs (Var y d) p = let impossible : ◌≡◌ {A = Option ℕ} None (Some n) = p in cc
    no_pairs (Free d) p = let impossible : ◌≡◌ {A = Option ℕ} None (Some n) = p in cc
    no_pairs (Node m d h ys) p = let impossible : ◌≡◌ {A = Option ℕ} None (Some n) = p in cc
pairs_children trees t (Node l c k xs) (Var y d) n p a b = let impossible : ◌≡◌ {A = Option ℕ} None (Some n) = p in cc
pairs_children trees t (Node l c k xs) (Free d) n p a b = let impossible : ◌≡◌ {A = Option ℕ} None (Some n) = p in cc
pairs_children trees t (Node l c k xs) (Node m d h ys) n p a b = (fits_Node trees t l m c d k h xs ys a b).2

pairs_none : (trees : List Tree) (t : Tree) (e f : Term) → pairs_of (shape_of e) (shape_of f) ≡ None → is_free e ≡ false
    → (is_free f ≡ true → is_free e ≡ true) → Fits trees t e → Fits trees t f → ⊥
pairs_none trees t (Var x c) (Var y d) p bound o a b =
    let parts = fits_Var trees t x y c d a b in
    let test : (eqb x.0 y.0 && eqb c.0.0 d.0.0) ≡ true = and_from _ _ (eq-eqb x.0 y.0 (ap (λ (s : Sym). s.0) parts.0)) (eq-eqb c.0.0 d.0.0 (ap (λ (t : Typecode). t.0.0) parts.1)) in
    let impossible : ◌≡◌ {A = Option ℕ} (Some 0) None = rw test at p in cc
pairs_none trees t (Var x c) (Free d) p bound o a b = let free : false ≡ true = o refl in cc
pairs_none trees t (Var x c) (Node m d h ys) p bound o a b = fits_Var_Node trees t x c d m h ys a b
pairs_none trees t (Free c) f p bound o a b = let impossible : true ≡ false = bound in cc
pairs_none trees t (Node l c k xs) (Var y d) p bound o a b = fits_Var_Node trees t y d c l k xs b a
pairs_none trees t (Node l c k xs) (Free d) p bound o a b = let free : false ≡ true = o refl in cc
pairs_none trees t (Node l c k xs) (Node m d h ys) p bound o a b =
    let parts = fits_Node trees t l m c d k h xs ys a b in
    let tree : Id → Tree = λ (id : Id). tree_at trees id.0 in
    let same : length xs ≡ length ys = sym (length-map xs tree) ∙ ap length parts.2 ∙ length-map ys tree in
    let heads : (eqb l.0 m.0 && eqb c.0.0 d.0.0) ≡ true = and_from _ _ (eq-eqb l.0 m.0 (ap (λ (s : Label). s.0) parts.0)) (eq-eqb c.0.0 d.0.0 (ap (λ (t : Typecode). t.0.0) parts.1)) in
    let test : ((eqb l.0 m.0 && eqb c.0.0 d.0.0) && eqb (length xs) (length ys)) ≡ true = and_from _ _ heads (eq-eqb (length xs) (length ys) same) in
    let impossible : ◌≡◌ {A = Option ℕ} (Some (length xs)) None = rw test at p in cc

module _ (s : Store) (k from to : ℕ) (first second : Shape) (within : k < length s.links)
    (from_is : from ≡ (link_at s.links k).from) (to_is : to ≡ (link_at s.links k).to) (from_below : from < length s.nodes) (to_below : to < length s.nodes)
    (first_is : first ≡ shape_of (term_at s.nodes from)) (second_is : second ≡ shape_of (term_at s.nodes to)) where
  both_fit : (trees : List Tree) → Solution s.nodes s.links trees → Fits trees (tree_at trees from) (term_at s.nodes from) × Fits trees (tree_at trees from) (term_at s.nodes to)
  both_fit trees sol =
      let same : tree_at trees from ≡ tree_at trees to = rw (from_is, to_is) (link_tree trees s.links k sol.links_fit within) in
      (sol.nodes_fit from from_below, rw same (sol.nodes_fit to to_below))

  -- the two nodes of a binding have children with the same trees
  pub closing_children : (n : ℕ) → pairs_of first second ≡ Some n → (trees : List Tree) → Solution s.nodes s.links trees → HaveSameChildren s from to trees
  closing_children n p trees sol =
      let fit = both_fit trees sol in
      pairs_children trees (tree_at trees from) (term_at s.nodes from) (term_at s.nodes to) n (rw (first_is, second_is) at p) fit.0 fit.1

  -- where they are of two kinds there is no solution
  pub closing_none : pairs_of first second ≡ None → is_free_shape first ≡ false → IsOriented s.nodes (link_at s.links k) → HasNone s
  closing_none p bound o trees sol =
      let fit = both_fit trees sol in
      pairs_none trees (tree_at trees from) (term_at s.nodes from) (term_at s.nodes to) (rw (first_is, second_is) at p) (rw first_is at bound) (rw (from_is, to_is) o) fit.0 fit.1

oriented_drop : (nodes : List Term) (k : ℕ) (links : List Link) → AllByRecursion (IsOriented nodes) (drop k links) → AllByRecursion (IsOriented nodes) (drop (k + 1) links)
oriented_drop nodes k links o = rw add-one (go nodes k links o)
  where
    go : (nodes : List Term) (k : ℕ) (links : List Link) → AllByRecursion (IsOriented nodes) (drop k links) → AllByRecursion (IsOriented nodes) (drop (suc k) links)
    go nodes zero [] o = tt
    go nodes zero (l ∷ links) o = o.1
    go nodes (suc k) [] o = tt
    go nodes (suc k) (l ∷ links) o = go nodes k links o

-- one more binding has been gone through
pub close_oriented : (s t : Store) (k : ℕ) → Extends s t → k < length s.links → AllByRecursion (IsOriented s.nodes) (drop k s.links) → AllByRecursion (IsOriented t.nodes) (drop (k + 1) t.links)
close_oriented s t k p h o =
    let rest : drop (k + 1) (s.links ++ p.more) ≡ drop (k + 1) s.links ++ p.more = drop-append-le (k + 1) s.links p.more (omega arith) in
    rw (p.nodes, p.links, rest) (oriented_append s.nodes s.nodes (drop (k + 1) s.links) p.more refl (oriented_drop s.nodes k s.links o) p.oriented)

pub close_step : (s t : Store) (k : ℕ) → Extends s t → k < length s.links → IsClosedUpTo k s.nodes s.links
    → Agrees t.links (term_at s.nodes (link_at s.links k).from) (term_at s.nodes (link_at s.links k).to) → IsClosedUpTo (k + 1) t.nodes t.links
close_step s t k p h c a =
    let d : Link = record { from = 0; to = 0 } in
    let same : link_at t.links k ≡ link_at s.links k = rw p.links (get_or_append_left s.links p.more d k h) in
    let longer : k < length t.links = omega (arith, h, ap length p.links, length-append s.links p.more) in
    let up_to : IsClosedUpTo k s.nodes t.links = rw p.links (closed_append k s.nodes s.links p.more (omega arith) c) in
    rw p.nodes (closed_step k s.nodes t.links d longer up_to (rw same a))

pub extends_longer : (s t : Store) → Extends s t → length s.links ≤ length t.links
extends_longer s t p = omega (arith, ap length p.links, length-append s.links p.more)

-- a store that gained bindings, cut back
pub undone : (s t : Store) → Extends s t → cut_to t (length s.nodes) (length s.links) ≡ s
undone s t p =
    let nodes : take (length s.nodes) t.nodes ≡ s.nodes = rw p.nodes (take_all (length s.nodes) s.nodes (omega arith)) in
    let links : take (length s.links) t.links ≡ s.links = rw p.links (take_at s.links p.more (length s.links) refl) in
    rw (nodes, links, p.ready) refl

pub undo_kept : (s t : Store) → IsStore s.nodes s.links → Extends s t → AreBelow (length s.nodes) (take (length s.links) t.links)
undo_kept s t store p =
    let links : take (length s.links) t.links ≡ s.links = rw p.links (take_at s.links p.more (length s.links) refl) in
    rw links (are_below (length s.nodes) s.links store.in_order)

pub start_closed : (s t : Store) → IsClosed s.nodes s.links → Extends s t → IsClosedUpTo (length s.links) t.nodes t.links
start_closed s t c p = rw (p.nodes, p.links) (closed_append (length s.links) s.nodes s.links p.more (omega arith) (closed_start s.nodes s.links c))

pub start_oriented : (s t : Store) → Extends s t → AllByRecursion (IsOriented t.nodes) (drop (length s.links) t.links)
start_oriented s t p = rw (p.nodes, p.links, drop_at s.links p.more (length s.links) refl) p.oriented

-- the solutions are exactly those before in which the two nodes have one tree
pub exact : (s t : Store) (a b : ℕ) → Extends s t → end_of t.links a ≡ end_of t.links b → Forces s t (HaveSameTree a b) → (trees : List Tree)
    → Solution t.nodes t.links trees ↔ (Solution s.nodes s.links trees × HaveSameTree a b trees)
exact s t a b p joined forced trees = (
  λ sol.
      let all : Solution s.nodes (s.links ++ p.more) trees = rw (p.nodes, p.links) at sol in
      (solution_front s.nodes s.links p.more trees all, same_end trees t.links a b sol.links_fit joined),
  λ both. forced trees both.0 both.1,
)
