-- Whether some refinement makes the two trees of each of some pairs one is decided.
use Rattle.std.specs.Prelude.{◌≡◌, ℕ, zero, suc, ◌<◌, ◌≤◌, ◌+◌, List, [], ◌∷◌, ◌++◌, length, map, sum, Contains, refl}
use Rattle.std.specs.List.{AllByRecursion}
use Rattle.std.proofs.Common.{sym, ap, subst, ◌∙◌, arith, inl, inr}
use Rattle.std.proofs.lemmas.List.{length-map}
use Rattle.std.proofs.lemmas.List.Elements.{Contains-append_left, Contains-append_right}
use Rattle.std.proofs.lemmas.List.Sums.{sum_by-cons}
use Rattle.mm_base.specs.declared.symbols.Sym.{Sym}
use Rattle.mm_base.specs.declared.symbols.Label.{Label}
use Rattle.mm_base.specs.declared.symbols.Typecode.{Typecode}
use Rattle.mm_base.specs.declared.tree.Tree.{Tree, out-Tree}
use Rattle.mm_base.specs.declared.tree.Tree.TheVariants.{Var, Node, outs-Var}
use Rattle.mm_base.specs.declared.tree.Tree.TheOpen.{Tree-F}
use Rattle.mm_base.specs.Trees.{Each, code_of}
use Rattle.mm_base.proofs.TreeFacts.{same_node, var_is_no_node}
use Rattle.mm_base.proofs.TreeInduction.{tree_ind}
use Rattle.mm_model.specs.declared.rows.Production.{Production}
use Rattle.mm_model.specs.Sizes.{nodes}
use Rattle.mm_model.specs.Typed.{IsTyped}
use Rattle.mm_model.proofs.SizeLaws.{nodes-Var, nodes-Work, nodes-Fresh, nodes-Node}
use Rattle.mm_model.proofs.TypedLaws.{typed_held}
use Rattle.solve_model.specs.Trees.{Open, work, fresh, leaf_tree, open_code, open_leaves, flatten, Occurs}
use Rattle.solve_model.specs.MostGeneral.{Refinement, refine}
use Rattle.solve_model.proofs.TreeLaws.{replace-Var, replace-Node, open_leaves-Node}
use Rattle.solve_laws.specs.ReplacedTypes.{IsTypedAs}
use Rattle.answer_laws.proofs.Elements.{all_by-append}
use Rattle.writing_laws.specs.Decisions.{Decided}
use Rattle.writing_laws.proofs.Decide.{both_decided, decided_with, trees_decided, codes_decided, numbers_decided, contains_decided}
use Rattle.whole_laws.proofs.Bindings.{opens_decided, leaf_occurs, leaf_refined, leaf_typed, without, without_fewer, bind, IsFine, refined_typed}
use Rattle.whole_laws.proofs.Bindings.{cannot_be, unseen, composed, composed_is, composed_joins, bind_fine, composed_fine, leaves_left}

-- two trees that are to become one
abbrev pub Equation : Type 0
Equation = Tree × Tree

abbrev pub Solved : Refinement → List Equation → Type 0
Solved r es = AllByRecursion (λ (e : Equation). refine r e.0 ≡ refine r e.1) es

-- a typed refinement makes the two trees of each pair one
pub record HasSolver (rows : List Production) (before : ℕ) (es : List Equation) : Type 0 where
  pub by : Refinement
  pub fine : IsFine rows before by
  pub solved : Solved by es

-- a typed tree, whose open leaves are among these
pub record IsReady (rows : List Production) (before : ℕ) (xs : List Open) (t : Tree) : Type 0 where
  pub typed : IsTyped rows before t
  pub within : (x : Open) → Occurs x t → Contains xs x

abbrev pub AreReady : List Production → ℕ → List Open → List Equation → Type 0
AreReady rows before xs es = AllByRecursion (λ (e : Equation). IsReady rows before xs e.0 × IsReady rows before xs e.1) es

-- ---- what a tree is

data Look (t : Tree) : Type 0 where
  is_var : (s : Sym) (c : Typecode) → t ≡ Var s c → Look t
  is_open : (x : Open) → t ≡ leaf_tree x → Look t
  is_node : (l : Label) (c : Typecode) (ts : List Tree) → t ≡ Node l c ts → Look t

look : (t : Tree) → Look t
look = tree_ind Look (λ s c. is_var s c refl) (λ c n. is_open (work c n) refl) (λ c n. is_open (fresh c n) refl) (λ l c ts h. is_node l c ts refl)

sym_with : ℕ → Sym
sym_with n = record { 0 = n }

label_with : ℕ → Label
label_with n = record { 0 = n }

syms_decided : (s r : Sym) → Decided (s ≡ r)
unfolding sym_with
syms_decided s r = decided_with (λ (e : s.0 ≡ r.0). ap sym_with e) (λ (e : s ≡ r). ap (λ (x : Sym). x.0) e) (numbers_decided s.0 r.0)

labels_decided : (l m : Label) → Decided (l ≡ m)
unfolding label_with
labels_decided l m = decided_with (λ (e : l.0 ≡ m.0). ap label_with e) (λ (e : l ≡ m). ap (λ (x : Label). x.0) e) (numbers_decided l.0 m.0)

var_parts : (s r : Sym) (c d : Typecode) → Var s c ≡ Var r d → (s ≡ r) × (c ≡ d)
var_parts s r c d e =
    let out : Tree-F.Var s c ≡ Tree-F.Var r d = sym (outs-Var s c) ∙ ap out-Tree e ∙ outs-Var r d in
    (cc, cc)

-- ---- how many nodes the first trees have

some_nodes : (t : Tree) → 0 < nodes t
some_nodes = tree_ind (λ t. 0 < nodes t)
    (λ s c. let n = nodes-Var s c in omega (arith, n))
    (λ c m. let n = nodes-Work c m in omega (arith, n))
    (λ c m. let n = nodes-Fresh c m in omega (arith, n))
    (λ l c ts h. let n = nodes-Node l c ts in omega (arith, n))

abbrev weight : List Equation → ℕ
weight [] = 0
weight (e ∷ es) = nodes e.0 + weight es

-- the children of two productions, pair by pair
abbrev pairs : List Tree → List Tree → List Equation
pairs [] us = []
pairs (t ∷ ts) [] = []
pairs (t ∷ ts) (u ∷ us) = (t, u) ∷ pairs ts us

pairs_weight : (ts us : List Tree) (es : List Equation) → weight (pairs ts us ++ es) ≤ sum (map nodes ts) + weight es
pairs_weight [] us es = omega arith
pairs_weight (t ∷ ts) [] es = omega arith
pairs_weight (t ∷ ts) (u ∷ us) es =
    let whole : sum (map nodes (t ∷ ts)) ≡ nodes t + sum (map nodes ts) = sum_by-cons (λ (n : ℕ). n) (nodes t) (map nodes ts) in
    let rest = pairs_weight ts us es in
    omega (arith, whole, rest)

pub all_parts : {X : Type 0} (P : X → Type 0) (xs ys : List X) → AllByRecursion P (xs ++ ys) → AllByRecursion P xs × AllByRecursion P ys
all_parts P [] ys h = (tt, h)
all_parts P (x ∷ xs) ys h = let rest = all_parts P xs ys h.1 in ((h.0, rest.0), rest.1)

module _ (r : Refinement) where
  pairs_one : (ts us : List Tree) → length ts ≡ length us → Solved r (pairs ts us) → map (refine r) ts ≡ map (refine r) us
  pairs_one [] [] n s = refl
  pairs_one [] (u ∷ us) n s = absurd (omega (arith, n))
  pairs_one (t ∷ ts) [] n s = absurd (omega (arith, n))
  pairs_one (t ∷ ts) (u ∷ us) n s =
      let here = s.0 in
      let rest = pairs_one ts us (omega (arith, n)) s.1 in
      cc

  one_pairs : (ts us : List Tree) → map (refine r) ts ≡ map (refine r) us → Solved r (pairs ts us)
  one_pairs [] us e = tt
  one_pairs (t ∷ ts) [] e = tt
  one_pairs (t ∷ ts) (u ∷ us) e =
      let here : refine r t ≡ refine r u = cc in
      let rest : map (refine r) ts ≡ map (refine r) us = cc in
      (here, one_pairs ts us rest)

  nodes_one : (l : Label) (c : Typecode) (ts us : List Tree) → length ts ≡ length us → Solved r (pairs ts us) → refine r (Node l c ts) ≡ refine r (Node l c us)
  nodes_one l c ts us n s = replace-Node _ r l c ts ∙ ap (λ vs. Node l c vs) (pairs_one ts us n s) ∙ sym (replace-Node _ r l c us)

  record OneNode (l m : Label) (c d : Typecode) (ts us : List Tree) : Type 0 where
    label : l ≡ m
    code : c ≡ d
    children : map (refine r) ts ≡ map (refine r) us
    count : length ts ≡ length us

  one_nodes : (l m : Label) (c d : Typecode) (ts us : List Tree) → refine r (Node l c ts) ≡ refine r (Node m d us) → OneNode l m c d ts us
  one_nodes l m c d ts us e =
      let same = same_node l m c d (map (refine r) ts) (map (refine r) us) (sym (replace-Node _ r l c ts) ∙ e ∙ replace-Node _ r m d us) in
      record {
        label = same.label;
        code = same.code;
        children = same.children;
        count = sym (length-map ts (refine r)) ∙ ap length same.children ∙ length-map us (refine r);
      }

module _ (rows : List Production) (before : ℕ) where
  abbrev Has : List Equation → Type 0
  Has es = HasSolver rows before es

  abbrev Ready : List Open → Tree → Type 0
  Ready xs t = IsReady rows before xs t

  abbrev AllReady : List Open → List Equation → Type 0
  AllReady xs es = AreReady rows before xs es

  -- two trees that every refinement makes one
  one_already : (a b : Tree) (es : List Equation) → ((r : Refinement) → refine r a ≡ refine r b) → Decided (Has es) → Decided (Has ((a, b) ∷ es))
  one_already a b es same d =
      decided_with (λ (h : Has es). record { by = h.by; fine = h.fine; solved = (same h.by, h.solved) }) (λ (h : Has ((a, b) ∷ es)). record { by = h.by; fine = h.fine; solved = h.solved.1 }) d

  -- two trees that none makes one
  never_one : (a b : Tree) (es : List Equation) → ((r : Refinement) → IsFine rows before r → refine r a ≡ refine r b → ⊥) → Decided (Has ((a, b) ∷ es))
  never_one a b es cannot = inr (λ (h : Has ((a, b) ∷ es)). cannot h.by h.fine h.solved.0)

  turned : (a b : Tree) (es : List Equation) → Decided (Has ((b, a) ∷ es)) → Decided (Has ((a, b) ∷ es))
  turned a b es d =
      decided_with (λ (h : Has ((b, a) ∷ es)). record { by = h.by; fine = h.fine; solved = (sym h.solved.0, h.solved.1) })
      (λ (h : Has ((a, b) ∷ es)). record { by = h.by; fine = h.fine; solved = (sym h.solved.0, h.solved.1) }) d

  -- ---- a leaf and a tree

  module _ (x : Open) (t : Tree) where
    abbrev bound_all : List Equation → List Equation
    bound_all [] = []
    bound_all (e ∷ es) = (refine (bind x t) e.0, refine (bind x t) e.1) ∷ bound_all es

    bound_solved : (r : Refinement) → refine r (leaf_tree x) ≡ refine r t → (es : List Equation) → Solved r es → Solved r (bound_all es)
    bound_solved r same [] s = tt
    bound_solved r same (e ∷ es) s = (unseen x t r same e.0 ∙ s.0 ∙ sym (unseen x t r same e.1), bound_solved r same es s.1)

    solved_bound : (r : Refinement) (es : List Equation) → Solved r (bound_all es) → Solved (composed x t r) es
    solved_bound r [] s = tt
    solved_bound r (e ∷ es) s = (composed_is x t r e.0 ∙ s.0 ∙ sym (composed_is x t r e.1), solved_bound r es s.1)

    module _ (off : Occurs x t → ⊥) (typed : IsTypedAs rows before (open_code x) t) where
      bound_decides : (es : List Equation) → Decided (Has (bound_all es)) → Decided (Has ((leaf_tree x, t) ∷ es))
      bound_decides es d =
          decided_with
          (λ (h : Has (bound_all es)). record {
            by = composed x t h.by;
            fine = composed_fine x t rows before typed h.by h.fine;
            solved = (composed_joins x t h.by off, solved_bound h.by es h.solved);
          })
          (λ (h : Has ((leaf_tree x, t) ∷ es)). record { by = h.by; fine = h.fine; solved = bound_solved h.by h.solved.0 es h.solved.1 }) d

      module _ (xs : List Open) (ready : Ready xs t) where
        bound_ready : (u : Tree) → Ready xs u → Ready (without x xs) (refine (bind x t) u)
        bound_ready u h = record {
          typed = (refined_typed rows before (bind x t) (bind_fine x t rows before typed) u h.typed).typed;
          within = leaves_left x t xs off ready.within u h.within;
        }

        all_bound_ready : (es : List Equation) → AllReady xs es → AllReady (without x xs) (bound_all es)
        all_bound_ready [] h = tt
        all_bound_ready (e ∷ es) h = ((bound_ready e.0 h.0.0, bound_ready e.1 h.0.1), all_bound_ready es h.1)

  -- the typecodes of a leaf and a tree that become one
  codes_same : (x : Open) (t : Tree) (r : Refinement) → IsFine rows before r → IsTyped rows before t → refine r (leaf_tree x) ≡ refine r t → code_of t ≡ open_code x
  codes_same x t r fine typed e =
      sym (refined_typed rows before r fine t typed).code ∙ ap code_of (sym e ∙ leaf_refined r x) ∙ (fine x).code

  -- ---- two productions

  pairs_ready : (xs : List Open) (ts us : List Tree) → Each (Ready xs) ts → Each (Ready xs) us → AllReady xs (pairs ts us)
  pairs_ready xs [] us h g = tt
  pairs_ready xs (t ∷ ts) [] h g = tt
  pairs_ready xs (t ∷ ts) (u ∷ us) h g = ((h.0, g.0), pairs_ready xs ts us h.1 g.1)

  all_ready : (xs : List Open) (ts : List Tree) → Each (IsTyped rows before) ts → ((x : Open) → Contains (flatten (map open_leaves ts)) x → Contains xs x) → Each (Ready xs) ts
  all_ready xs [] h w = tt
  all_ready xs (t ∷ ts) h w = (
    record { typed = h.0; within = λ x o. w x (Contains-append_left (open_leaves t) (flatten (map open_leaves ts)) x o) },
    all_ready xs ts h.1 (λ x o. w x (Contains-append_right (open_leaves t) (flatten (map open_leaves ts)) x o)),
  )

  children_ready : (xs : List Open) (l : Label) (c : Typecode) (ts : List Tree) → Ready xs (Node l c ts) → Each (Ready xs) ts
  children_ready xs l c ts h = all_ready xs ts (typed_held rows before l c ts h.typed) (λ x o. h.within x (rw open_leaves-Node o))

  same_nodes : (l : Label) (c : Typecode) (ts us : List Tree) (es : List Equation) → length ts ≡ length us → Decided (Has (pairs ts us ++ es)) → Decided (Has ((Node l c ts, Node l c us) ∷ es))
  same_nodes l c ts us es n d =
      decided_with
      (λ (h : Has (pairs ts us ++ es)).
      let parts = all_parts (λ (e : Equation). refine h.by e.0 ≡ refine h.by e.1) (pairs ts us) es h.solved in
      record { by = h.by; fine = h.fine; solved = (nodes_one h.by l c ts us n parts.0, parts.1) })
      (λ (h : Has ((Node l c ts, Node l c us) ∷ es)). record {
        by = h.by;
        fine = h.fine;
        solved = all_by-append (λ (e : Equation). refine h.by e.0 ≡ refine h.by e.1) (pairs ts us) es (one_pairs h.by ts us (one_nodes h.by l l c c ts us h.solved.0).children) h.solved.1;
      }) d

  -- ---- one pair, where pairs over fewer leaves are decided

  module _ (xs : List Open) (fewer : (ys : List Open) → length ys < length xs → (es : List Equation) → AllReady ys es → Decided (Has es)) where
    leaf_and_tree : (x : Open) (t : Tree) (es : List Equation) → Decided (Has es) → Ready xs (leaf_tree x) → Ready xs t → AllReady xs es → Decided (Has ((leaf_tree x, t) ∷ es))
    leaf_and_tree x t es rest hx ht ready = elim (trees_decided (leaf_tree x) t) [
      | inl e ↦ one_already (leaf_tree x) t es (λ r. ap (refine r) e) rest
      | inr n ↦ elim (contains_decided opens_decided (open_leaves t) x) [
        | inl o ↦ never_one (leaf_tree x) t es (λ r fine e. cannot_be r x t o n e)
        | inr off ↦ elim (codes_decided (code_of t) (open_code x)) [
          | inr m ↦ never_one (leaf_tree x) t es (λ r fine e. m (codes_same x t r fine ht.typed e))
          | inl c ↦
              let typed : IsTypedAs rows before (open_code x) t = record { code = c; typed = ht.typed } in
              bound_decides x t off typed es (fewer (without x xs) (without_fewer x xs (hx.within x (leaf_occurs x))) (bound_all x t es) (all_bound_ready x t off typed xs ht es ready))
        ]
      ]
    ]

    abbrev Lighter : ℕ → Type 0
    Lighter s = (es : List Equation) → weight es < s → AllReady xs es → Decided (Has es)

    module _ (s : ℕ) (lighter : Lighter s) (es : List Equation) (ready : AllReady xs es) where
      two_vars : (v r : Sym) (c d : Typecode) → Decided (Has es) → Decided ((v ≡ r) × (c ≡ d)) → Decided (Has ((Var v c, Var r d) ∷ es))
      two_vars v r c d rest (inl p) = one_already (Var v c) (Var r d) es (λ b. ap (refine b) (ap (λ (w : Sym). Var w c) p.0 ∙ ap (λ (k : Typecode). Var r k) p.1)) rest
      two_vars v r c d rest (inr n) = never_one (Var v c) (Var r d) es (λ b fine e. n (var_parts v r c d (sym (replace-Var _ b v c) ∙ e ∙ replace-Var _ b r d)))

      var_no_node : (v : Sym) (c : Typecode) (l : Label) (d : Typecode) (ts : List Tree) (r : Refinement) → refine r (Var v c) ≡ refine r (Node l d ts) → ⊥
      var_no_node v c l d ts r e = var_is_no_node v c l d (map (refine r) ts) (sym (replace-Var _ r v c) ∙ e ∙ replace-Node _ r l d ts)

      node_pairs : (l : Label) (c : Typecode) (ts us : List Tree) → length ts ≡ length us → weight ((Node l c ts, Node l c us) ∷ es) < suc s
          → Ready xs (Node l c ts) → Ready xs (Node l c us) → Decided (Has ((Node l c ts, Node l c us) ∷ es))
      node_pairs l c ts us n few ht hu =
          let size = nodes-Node l c ts in
          let light = pairs_weight ts us es in
          same_nodes l c ts us es n
          (lighter (pairs ts us ++ es) (omega (arith, few, size, light))
          (all_by-append (λ (e : Equation). Ready xs e.0 × Ready xs e.1) (pairs ts us) es (pairs_ready xs ts us (children_ready xs l c ts ht) (children_ready xs l c us hu)) ready))

      two_nodes : (l m : Label) (c d : Typecode) (ts us : List Tree) → weight ((Node l c ts, Node m d us) ∷ es) < suc s → Ready xs (Node l c ts) → Ready xs (Node m d us)
          → Decided (l ≡ m) → Decided (c ≡ d) → Decided (length ts ≡ length us) → Decided (Has ((Node l c ts, Node m d us) ∷ es))
      two_nodes l m c d ts us few ht hu (inr n) o q = never_one (Node l c ts) (Node m d us) es (λ r fine e. n (one_nodes r l m c d ts us e).label)
      two_nodes l m c d ts us few ht hu (inl e) (inr n) q = never_one (Node l c ts) (Node m d us) es (λ r fine h. n (one_nodes r l m c d ts us h).code)
      two_nodes l m c d ts us few ht hu (inl e) (inl f) (inr n) = never_one (Node l c ts) (Node m d us) es (λ r fine h. n (one_nodes r l m c d ts us h).count)
      two_nodes l m c d ts us few ht hu (inl e) (inl f) (inl n) =
          let same : Node m d us ≡ Node l c us = sym (ap (λ (k : Label). Node k c us) e ∙ ap (λ (k : Typecode). Node m k us) f) in
          subst (λ (u : Tree). Decided (Has ((Node l c ts, u) ∷ es))) (sym same) (node_pairs l c ts us n few ht (subst (Ready xs) same hu))

      by_look : (a b : Tree) → Look a → Look b → Decided (Has es) → weight ((a, b) ∷ es) < suc s → Ready xs a → Ready xs b → Decided (Has ((a, b) ∷ es))
      by_look a b (is_open x e) k rest few ha hb =
          subst (λ (u : Tree). Decided (Has ((u, b) ∷ es))) (sym e) (leaf_and_tree x b es rest (subst (Ready xs) e ha) hb ready)
      by_look a b (is_var v c e) (is_open x f) rest few ha hb =
          turned a b es (subst (λ (u : Tree). Decided (Has ((u, a) ∷ es))) (sym f) (leaf_and_tree x a es rest (subst (Ready xs) f hb) ha ready))
      by_look a b (is_node l c ts e) (is_open x f) rest few ha hb =
          turned a b es (subst (λ (u : Tree). Decided (Has ((u, a) ∷ es))) (sym f) (leaf_and_tree x a es rest (subst (Ready xs) f hb) ha ready))
      by_look a b (is_var v c e) (is_var r d f) rest few ha hb =
          subst (λ (u : Tree). Decided (Has ((u, b) ∷ es))) (sym e)
          (subst (λ (u : Tree). Decided (Has ((Var v c, u) ∷ es))) (sym f)
          (two_vars v r c d rest (both_decided (syms_decided v r) (codes_decided c d))))
      by_look a b (is_var v c e) (is_node l d ts f) rest few ha hb =
          never_one a b es (λ r fine h. var_no_node v c l d ts r (ap (refine r) (sym e) ∙ h ∙ ap (refine r) f))
      by_look a b (is_node l c ts e) (is_var v d f) rest few ha hb =
          never_one a b es (λ r fine h. var_no_node v d l c ts r (ap (refine r) (sym f) ∙ sym h ∙ ap (refine r) e))
      by_look a b (is_node l c ts e) (is_node m d us f) rest few ha hb =
          subst (λ (u : Tree). Decided (Has ((u, b) ∷ es))) (sym e) (subst (λ (u : Tree). Decided (Has ((Node l c ts, u) ∷ es))) (sym f)
          (two_nodes l m c d ts us (subst (λ (u : Tree). nodes u + weight es < suc s) e few) (subst (Ready xs) e ha) (subst (Ready xs) f hb)
          (labels_decided l m) (codes_decided c d) (numbers_decided (length ts) (length us))))

    by_weight : (s : ℕ) → Lighter s
    by_weight zero es few ready = absurd (omega (arith, few))
    by_weight (suc s) [] few ready = inl (record { by = leaf_tree; fine = λ x. leaf_typed rows before x; solved = tt })
    by_weight (suc s) (e ∷ es) few ready =
        let some = some_nodes e.0 in
        by_look s (by_weight s) es ready.1 e.0 e.1 (look e.0) (look e.1) (by_weight s es (omega (arith, few, some)) ready.1) few ready.0.0 ready.0.1

  by_leaves : (n : ℕ) (xs : List Open) → length xs < n → (es : List Equation) → AllReady xs es → Decided (Has es)
  by_leaves zero xs few es ready = absurd (omega (arith, few))
  by_leaves (suc n) xs few es ready = by_weight xs (λ ys less. by_leaves n ys (omega (arith, few, less))) (suc (weight es)) es (omega arith) ready

  -- it is decided whether the pairs have a solver
  pub solver_decided : (xs : List Open) (es : List Equation) → AllReady xs es → Decided (Has es)
  solver_decided xs es ready = by_leaves (suc (length xs)) xs (omega arith) es ready
