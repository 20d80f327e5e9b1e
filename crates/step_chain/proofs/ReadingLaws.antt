-- Laws of what is read off a store, for the code that reads.
use Rattle.std.specs.Prelude.{◌≡◌, ℕ, ◌<◌, ◌≤◌, ◌+◌, ◌-◌, ◌^◌, ◌==◌, nat_le, min, Bool, true, false, List, [], ◌∷◌, ◌++◌, length, map, take}
use Rattle.std.specs.Prelude.{slice_get, Option, Some, None, Ok, Err, refl}
use Rattle.std.proofs.Common.{zero, suc, get_or, set, sym, ap, subst, ◌∙◌, arith, inl, inr, cond}
use Rattle.std.proofs.lemmas.Bool.{cases_eq}
use Rattle.std.proofs.lemmas.Bool.Decides.{nat_tests}
use Rattle.std.proofs.lemmas.List.{length-set, get_or-set_same, get_or-set_other, take_more, take_all, map_push, get_or_default}
use Rattle.mm_base.specs.declared.symbols.Sym.{Sym}
use Rattle.mm_base.specs.declared.symbols.Label.{Label}
use Rattle.mm_base.specs.declared.symbols.Typecode.{Typecode}
use Rattle.mm_base.specs.declared.tree.Tree.{Tree}
use Rattle.mm_base.specs.declared.tree.Tree.TheVariants as tree
use Rattle.mm_base.specs.Limits.{most_formula_tokens}
use Rattle.term_model.specs.declared.shape.Id.{Id}
use Rattle.term_model.specs.declared.shape.Shape.TheVariants as shape
use Rattle.term_model.specs.Terms.{Term, Var, Free, Node, term_at, shape_of, children_of}
use Rattle.term_model.specs.Links.{Link, end_of}
use Rattle.term_model.specs.Ranks.{IsAbove}
use Rattle.term_model.specs.Store.{IsStore}
use Rattle.term_model.specs.Sizes.{saturated, size_at, tokens, HaveConstants}
use Rattle.chain_laws.specs.declared.leaves.WorkNode.{WorkNode}
use Rattle.chain_laws.specs.Leaves.{lesser, least_at, named_leaf, leaf_at}
use Rattle.chain_laws.specs.Reading.{made, read, value_at, AreWorkNodes}
use Rattle.chain_laws.proofs.Chained.{ranked_of}
use Rattle.chain_laws.proofs.ReadValues.{read_tokens}
use Rattle.step_chain.specs.declared.reading.TreeFault.TheVariants as fault
use Rattle.step_chain.specs.Readings.{kept, AreNames, IsReadable, IsReadOff}

-- ---- the least of one work variable more

by_numbers : (w x v : WorkNode) (a b c : Bool) → nat_le w.number x.number ≡ a → nat_le x.number v.number ≡ b → nat_le w.number v.number ≡ c → lesser w (Some (cond b x v)) ≡ kept (Some (cond a w x)) v
by_numbers w x v true true true e f g = ap (λ (t : Bool). cond t w x) e ∙ sym (ap (λ (t : Bool). cond t w v) g)
by_numbers w x v true true false e f g = absurd (grind (arith, nat_tests))
by_numbers w x v true false c e f g = refl
by_numbers w x v false true c e f g = ap (λ (t : Bool). cond t w x) e ∙ sym (ap (λ (t : Bool). cond t x v) f)
by_numbers w x v false false true e f g = absurd (grind (arith, nat_tests))
by_numbers w x v false false false e f g = ap (λ (t : Bool). cond t w v) g ∙ sym (ap (λ (t : Bool). cond t x v) f)

lesser_kept : (w : WorkNode) (o : Option WorkNode) (v : WorkNode) → lesser w (Some (kept o v)) ≡ kept (Some (lesser w o)) v
lesser_kept w None v = refl
lesser_kept w (Some x) v = by_numbers w x v (nat_le w.number x.number) (nat_le x.number v.number) (nat_le w.number v.number) refl refl refl

module _ (links : List Link) (e : ℕ) where
  by_ends : (w v : WorkNode) (x y : Option WorkNode) (a b : Bool) → x ≡ cond b (Some (kept y v)) y
      → cond a (Some (lesser w x)) x ≡ cond b (Some (kept (cond a (Some (lesser w y)) y) v)) (cond a (Some (lesser w y)) y)
  by_ends w v x y true true h = ap (λ (o : Option WorkNode). Some (lesser w o)) h ∙ ap (λ (u : WorkNode). Some u) (lesser_kept w y v)
  by_ends w v x y true false h = ap (λ (o : Option WorkNode). Some (lesser w o)) h
  by_ends w v x y false b h = h

  least_push : (ws : List WorkNode) (v : WorkNode) → least_at links e (ws ++ v ∷ []) ≡ cond (end_of links v.node == e) (Some (kept (least_at links e ws) v)) (least_at links e ws)
  least_push [] v = refl
  least_push (w ∷ ws) v = by_ends w v (least_at links e (ws ++ v ∷ [])) (least_at links e ws) (end_of links w.node == e) (end_of links v.node == e) (least_push ws v)

  least_there : (ws : List WorkNode) (v : WorkNode) → end_of links v.node ≡ e → least_at links e (ws ++ v ∷ []) ≡ Some (kept (least_at links e ws) v)
  least_there ws v h =
      let yes_it_is : (end_of links v.node == e) ≡ true = grind (arith, nat_tests, h) in
      least_push ws v ∙ ap (λ (b : Bool). cond b (Some (kept (least_at links e ws) v)) (least_at links e ws)) yes_it_is

  least_elsewhere : (ws : List WorkNode) (v : WorkNode) → (end_of links v.node ≡ e → ⊥) → least_at links e (ws ++ v ∷ []) ≡ least_at links e ws
  least_elsewhere ws v h =
      let other : (end_of links v.node == e) ≡ false = grind (arith, nat_tests, h) in
      least_push ws v ∙ ap (λ (b : Bool). cond b (Some (kept (least_at links e ws) v)) (least_at links e ws)) other

-- one work variable more is named
pub names_more : (links : List Link) (works : List WorkNode) (n k : ℕ) (d : WorkNode) (names : List (Option WorkNode)) (end : ℕ) (o : Option WorkNode) (v : WorkNode) → k < length works
    → end ≡ end_of links (get_or works k d).node → end < n → o ≡ get_or names end o → v ≡ kept o (get_or works k d)
    → AreNames links (take k works) n names → AreNames links (take (k + 1) works) n (set names end (Some v))
names_more links works n k d names end o v below ends inside was e' h =
    let w = get_or works k d in
    let list : take (k + 1) works ≡ take k works ++ w ∷ [] = take_more works k d below in
    let size = h.count in
    let e : v ≡ kept (get_or names end None) w = e' ∙ ap (λ (x : Option WorkNode). kept x w) (was ∙ get_or_default names end o None (omega (arith, inside, size))) in
    subst (λ (ws : List WorkNode). AreNames links ws n (set names end (Some v))) (sym list) (record {
      count = length-set names end (Some v) ∙ h.count;
      each = λ i l. elim (cases_eq i end) [
        | inl at ↦
            let there : end_of links w.node ≡ i = sym ends ∙ sym at in
            let count = h.count in
            let here : get_or (set names end (Some v)) end None ≡ Some v = get_or-set_same names end (Some v) None (omega (arith, inside, count)) in
            ap (λ (j : ℕ). get_or (set names end (Some v)) j None) at ∙ here ∙ ap (λ (x : WorkNode). Some x) (e ∙ ap (λ (o : Option WorkNode). kept o w) (h.each end inside
            ∙ ap (λ (j : ℕ). least_at links j (take k works)) (sym at)))
            ∙ sym (least_there links i (take k works) w there)
        | inr past ↦
            get_or-set_other names end i (Some v) None past ∙ h.each i l ∙ sym (least_elsewhere links i (take k works) w (λ (t : end_of links w.node ≡ i). past (sym t ∙ sym ends)))
      ];
    })

pub all_names : (links : List Link) (works : List WorkNode) (n k : ℕ) (names : List (Option WorkNode)) → length works ≤ k → AreNames links (take k works) n names → AreNames links works n names
all_names links works n k names h a = subst (λ (ws : List WorkNode). AreNames links ws n names) (take_all k works h) a

-- ---- the tree of a node

module _ (nodes : List Term) (links : List Link) (works : List WorkNode) where
  abbrev leaf : ℕ → Typecode → Tree
  leaf = leaf_at links works

  abbrev below : ℕ → ℕ → Tree
  below depth = read nodes links leaf (depth - 1)

  read_is : (depth i : ℕ) → 0 < depth → read nodes links leaf depth i ≡ made leaf (end_of links i) (below depth) (term_at nodes (end_of links i))
  unfolding read
  read_is zero i h = absurd (omega (arith, h))
  read_is (suc d) i h = let less : d ≡ suc d - 1 = omega arith in ap (λ (k : ℕ). made leaf (end_of links i) (read nodes links leaf k) (term_at nodes (end_of links i))) less

  made_Var : (e : ℕ) (f : ℕ → Tree) (x : Term) (s : Sym) (c : Typecode) → shape_of x ≡ shape.Var s c → made leaf e f x ≡ tree.Var s c
  made_Var e f (Var r d) s c h = let one : r ≡ s = cc in let two : d ≡ c = cc in cc
  made_Var e f (Free d) s c h = absurd (cc)
  made_Var e f (Node l d k kids) s c h = absurd (cc)

  made_Free : (e : ℕ) (f : ℕ → Tree) (x : Term) (c : Typecode) → shape_of x ≡ shape.Free c → made leaf e f x ≡ leaf e c
  made_Free e f (Var r d) c h = absurd (cc)
  made_Free e f (Free d) c h = let one : d ≡ c = cc in ap (leaf e) one
  made_Free e f (Node l d k kids) c h = absurd (cc)

  made_Node : (e : ℕ) (f : ℕ → Tree) (x : Term) (l : Label) (c : Typecode) (n : ℕ) → shape_of x ≡ shape.Node l c n → made leaf e f x ≡ tree.Node l c (map (λ (id : Id). f id.0) (children_of x))
  made_Node e f (Var r d) l c n h = absurd (cc)
  made_Node e f (Free d) l c n h = absurd (cc)
  made_Node e f (Node m d k kids) l c n h = let one : m ≡ l = cc in let two : d ≡ c = cc in cc

  made_count : (x : Term) (l : Label) (c : Typecode) (n : ℕ) → shape_of x ≡ shape.Node l c n → length (children_of x) ≡ n
  made_count (Var r d) l c n h = absurd (cc)
  made_count (Free d) l c n h = absurd (cc)
  made_count (Node m d k kids) l c n h = cc

  module _ (i end depth : ℕ) (ends : end ≡ end_of links i) (deep : IsAbove nodes links depth i) where
    above : 0 < depth
    above = let h = deep.2 in omega (arith, h)

    whole : read nodes links leaf depth i ≡ made leaf end (below depth) (term_at nodes end)
    whole = read_is depth i above ∙ ap (λ (e : ℕ). made leaf e (below depth) (term_at nodes e)) (sym ends)

    pub read_Var : (s : Sym) (c : Typecode) → shape_of (term_at nodes end) ≡ shape.Var s c → tree.Var s c ≡ read nodes links leaf depth i
    read_Var s c is = sym (whole ∙ made_Var end (below depth) (term_at nodes end) s c is)

    pub read_Free : (c : Typecode) (names : List (Option WorkNode)) (t : Tree) → shape_of (term_at nodes end) ≡ shape.Free c → AreNames links works (length nodes) names → end < length nodes
        → t ≡ named_leaf end c (get_or names end None) → t ≡ read nodes links leaf depth i
    read_Free c names t is h inside e = e ∙ ap (named_leaf end c) (h.each end inside) ∙ sym (whole ∙ made_Free end (below depth) (term_at nodes end) c is)

    pub read_Node : (l : Label) (c : Typecode) (n k : ℕ) (ts items : List Tree) → shape_of (term_at nodes end) ≡ shape.Node l c n → n ≤ k
        → items ≡ map (λ (id : Id). below depth id.0) (take k (children_of (term_at nodes end))) → ts ≡ items → tree.Node l c ts ≡ read nodes links leaf depth i
    read_Node l c n k ts items is past e same =
        let kids = children_of (term_at nodes end) in
        let count = made_count (term_at nodes end) l c n is in
        let all : take k kids ≡ kids = take_all k kids (omega (arith, count, past)) in
        ap (λ xs. tree.Node l c xs) (same ∙ e ∙ ap (map (λ (id : Id). below depth id.0)) all) ∙ sym (whole ∙ made_Node end (below depth) (term_at nodes end) l c n is)

    -- one child more
    pub child_more : (k : ℕ) (child : Id) (old new : List Tree) (t : Tree) → slice_get (children_of (term_at nodes end)) k ≡ Some child → t ≡ below depth child.0 → new ≡ old ++ t ∷ []
        → old ≡ map (λ (id : Id). below depth id.0) (take k (children_of (term_at nodes end)))
        → new ≡ map (λ (id : Id). below depth id.0) (take (k + 1) (children_of (term_at nodes end)))
    child_more k child old new t at is e h =
        let kids = children_of (term_at nodes end) in
        e ∙ ap (λ (ts : List Tree). ts ++ t ∷ []) h ∙ ap (λ (x : Tree). map (λ (id : Id). below depth id.0) (take k kids) ++ x ∷ []) is
        ∙ sym (ap (map (λ (id : Id). below depth id.0)) (taken kids k child at) ∙ map_push (λ (id : Id). below depth id.0) (take k kids) child)
      where
        taken : (xs : List Id) (j : ℕ) (x : Id) → slice_get xs j ≡ Some x → take (j + 1) xs ≡ take j xs ++ x ∷ []
        taken [] j x e = let impossible : ◌≡◌ {A = Option Id} None (Some x) = e in absurd (cc)
        taken (y ∷ ys) zero x e = let same : y ≡ x = cc in ap (λ (z : Id). z ∷ []) same
        taken (y ∷ ys) (suc j) x e = let number : suc j + 1 ≡ suc (j + 1) = omega arith in ap (λ (m : ℕ). take m (y ∷ ys)) number ∙ ap (λ (zs : List Id). y ∷ zs) (taken ys j x e)

-- ---- the tokens of a node

one_more_token : (s t : ℕ) → s ≡ saturated t → min (s + 1) (2 ^ 64 - 1) ≡ saturated (t + 1)
one_more_token s t e = omega (arith, e)

module _ (nodes : List Term) (links : List Link) (works : List WorkNode) (names : List (Option WorkNode)) (sizes : List ℕ) (store : IsStore nodes links)
    (h : IsReadable nodes links works names sizes) (i n : ℕ) (inside : i < length nodes) (is : n ≡ min (size_at sizes i + 1) (2 ^ 64 - 1)) where
  tokens_are : (constants : Label → ℕ) → HaveConstants constants nodes → AreWorkNodes nodes works → n ≡ saturated (tokens constants (value_at nodes links works i) + 1)
  tokens_are constants have own = is ∙ one_more_token (size_at sizes i) (tokens constants (value_at nodes links works i))
      (read_tokens nodes links works store h.solved own constants sizes i have h.sizes_are inside)

  pub read_long : most_formula_tokens < n → IsReadOff nodes links works i (Err (fault.TooLong n))
  read_long more constants have own = (tokens_are constants have own, more)

  pub read_short : (n ≤ most_formula_tokens) → (t : Tree) → t ≡ value_at nodes links works i → IsReadOff nodes links works i (Ok t)
  read_short few t e constants have own = (e, (let same = tokens_are constants have own in subst (λ (k : ℕ). k ≤ most_formula_tokens) same few))

  pub deep_enough : (depth : ℕ) → depth ≡ length nodes → IsAbove nodes links depth i
  deep_enough depth e = let ranked = ranked_of nodes links store h.solved.solution in (ranked.0, ranked.1, subst (λ (d : ℕ). get_or ranked.0 (end_of links i) 0 < d) (sym e) (ranked.1.few i inside))
