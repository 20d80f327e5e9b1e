-- Children in the order of the frame, from trees in the order of the text.
use Rattle.std.specs.Prelude.{◌≡◌, ◌≢◌, ◌<◌, ◌+◌, ◌==◌, ℕ, zero, suc, Bool, true, false, List, [], ◌∷◌, length, Some, slice_get, refl}
use Rattle.std.specs.List.{cons_option}
use Rattle.std.proofs.Common.{arith, sym, ap, ◌∙◌, get_or, subst, cond, zero-add}
use Rattle.std.proofs.lemmas.Bool.Decides.{nat_tests}
use Rattle.std.proofs.lemmas.Option.{slice_get_within}
use Rattle.mm_base.specs.declared.symbols.Typecode.{Typecode}
use Rattle.mm_base.specs.declared.tree.Tree.{Tree}
use Rattle.mm_base.specs.declared.tree.Tree.TheVariants.{Node}
use Rattle.mm_model.specs.declared.rows.Leaf.{Leaf}
use Rattle.mm_model.specs.declared.rows.Production.{Production}
use Rattle.mm_base.proofs.TreeFacts.{same_node}
use Rattle.mm_model.specs.Rows.{slot_order, place_of, EachOnce}
use Rattle.formula_parse.specs.declared.found.Found.{Found}
use Rattle.formula_parse.specs.declared.found.Found.TheVariants.{Nothing, One, Two}
use Rattle.formula_parse.specs.Finds.{Finds}
use Rattle.formula_parse.specs.Fits.{pick, Fits, IsOf}
use Rattle.formula_parse.specs.Made.{IsInOrder, IsMade, AreMade}
use Rattle.formula_parse.proofs.Places.{some_at, same_by_get}

-- what stands at each place of the order is picked
pub pick_is : (ts : List Tree) (order : List ℕ) (us : List Tree) → length order ≡ length us → ((j : ℕ) → j < length order → slice_get ts (get_or order j 0) ≡ slice_get us j) → pick ts order ≡ us
pick_is ts [] [] e h = refl
pick_is ts [] (u ∷ us) e h = absurd (omega arith)
pick_is ts (k ∷ order) [] e h = absurd (omega arith)
pick_is ts (k ∷ order) (u ∷ us) e h =
    let rest = pick_is ts order us (omega arith) (λ j l. h (suc j) (omega arith)) in
    ap (λ o. cons_option o (pick ts order)) (h 0 (omega arith)) ∙ ap (λ xs. u ∷ xs) rest

-- children that stand at the places of their slots are picked in order
pub pick_arranged : (ts : List Tree) (order : List ℕ) (us : List Tree) (n : ℕ) → EachOnce n order → length order ≡ length us
    → ((k : ℕ) → k < n → slice_get ts k ≡ slice_get us (place_of k order)) → pick ts order ≡ us
pick_arranged ts order us n once e h =
    pick_is ts order us e (λ j l. h (get_or order j 0) (once.within j l) ∙ ap (slice_get us) (once.once j l))

in_order_at : (next : ℕ) (order : List ℕ) → IsInOrder next order → (j : ℕ) → j < length order → get_or order j 0 ≡ next + j
in_order_at next [] h j l = absurd (omega arith)
in_order_at next (k ∷ order) h zero l = h.0 ∙ (let same : next ≡ next + 0 = omega arith in same)
in_order_at next (k ∷ order) h (suc j) l = in_order_at (next + 1) order h.1 j (omega arith) ∙ (let same : next + 1 + j ≡ next + suc j = omega arith in same)

-- trees for slots that stand in order are picked as they are
pub pick_in_order : (ts : List Tree) (order : List ℕ) → length ts ≡ length order → IsInOrder 0 order → pick ts order ≡ ts
pick_in_order ts order count h = pick_is ts order ts (sym count) (λ j l. ap (slice_get ts) (in_order_at 0 order h j l ∙ zero-add j))

get_place_by : (k x : ℕ) (order : List ℕ) (b : Bool) → (k == x) ≡ b → cond b 0 (suc (place_of k order)) < suc (length order)
    → (place_of k order < length order → get_or order (place_of k order) 0 ≡ k)
    → get_or (x ∷ order) (cond b 0 (suc (place_of k order))) 0 ≡ k
get_place_by k x order true is l h = grind (arith, nat_tests)
get_place_by k x order false is l h = h (omega arith)

pub get_place : (k : ℕ) (order : List ℕ) → place_of k order < length order → get_or order (place_of k order) 0 ≡ k
get_place k [] l = absurd (omega arith)
get_place k (x ∷ order) l = get_place_by k x order (k == x) refl l (get_place k order)

-- what is picked from two lists at places within both
picked_at : (ts us : List Tree) (order : List ℕ) (n : ℕ) → length ts ≡ n → length us ≡ n → ((j : ℕ) → j < length order → get_or order j 0 < n) → pick ts order ≡ pick us order
    → (j : ℕ) → j < length order → slice_get ts (get_or order j 0) ≡ slice_get us (get_or order j 0)
picked_at ts us [] n a b w e j l = absurd (omega arith)
picked_at ts us (k ∷ order) n a b w e zero l =
    let t = some_at ts k (omega (arith, w 0 (omega arith))) in
    let u = some_at us k (omega (arith, w 0 (omega arith))) in
    let p = ap (λ o. cons_option o (pick ts order)) t.1 in
    let q = ap (λ o. cons_option o (pick us order)) u.1 in
    let same = sym p ∙ e ∙ q in
    let first : t.0 ≡ u.0 = cc in
    t.1 ∙ ap (λ x. Some x) first ∙ sym u.1
picked_at ts us (k ∷ order) n a b w e (suc j) l =
    let t = some_at ts k (omega (arith, w 0 (omega arith))) in
    let u = some_at us k (omega (arith, w 0 (omega arith))) in
    let p = ap (λ o. cons_option o (pick ts order)) t.1 in
    let q = ap (λ o. cons_option o (pick us order)) u.1 in
    let same = sym p ∙ e ∙ q in
    let rest : pick ts order ≡ pick us order = cc in
    picked_at ts us order n a b (λ i m. w (suc i) (omega arith)) rest j (omega arith)

-- the children are determined by what is picked
pub pick_determines : (ts us : List Tree) (order : List ℕ) (n : ℕ) → EachOnce n order → length ts ≡ n → length us ≡ n → pick ts order ≡ pick us order → ts ≡ us
pick_determines ts us order n once a b e = same_by_get ts us (a ∙ sym b) (λ k x is.
    let in' : k < n = omega (arith, slice_get_within ts k x is) in
    let l = once.found k in' in
    let at = picked_at ts us order n a b once.within e (place_of k order) l in
    let place = get_place k order l in
    sym (subst (λ i. slice_get ts i ≡ slice_get us i) place at) ∙ is)

module _ (rows : List Production) (before : ℕ) (r : Production) (once : EachOnce (length r.slots) (slot_order r.items)) (below : r.at < before)
    (e : List Leaf) (want : Typecode) (gives : r.gives ≡ want) where
  made_is : (us : List Tree) (t : Tree) → Fits rows before r.slots r.items e us → IsMade r us t → IsOf rows before r e want t
  made_is us t f m = record {
    below = below;
    gives = gives;
    children = m.children;
    tree_is = m.tree_is;
    count = m.count;
    fits = subst (Fits rows before r.slots r.items e) (sym m.picks) f;
  }

  made_same : (us : List Tree) (t u : Tree) → IsMade r us t → (h : IsOf rows before r e want u) → pick h.children (slot_order r.items) ≡ us → u ≡ t
  made_same us t u m h is =
      let children = pick_determines h.children m.children (slot_order r.items) (length r.slots) once h.count m.count (is ∙ sym m.picks) in
      h.tree_is ∙ ap (λ ts. Node r.label r.gives ts) children ∙ sym m.tree_is

  made_apart : (us vs : List Tree) (t u : Tree) → IsMade r us t → IsMade r vs u → us ≢ vs → t ≢ u
  made_apart us vs t u m n h is =
      let nodes = same_node r.label r.label r.gives r.gives m.children n.children (sym m.tree_is ∙ is ∙ n.tree_is) in
      h (sym m.picks ∙ ap (λ ts. pick ts (slot_order r.items)) nodes.children ∙ n.picks)

  -- the trees of a production, from the sequences that fit it
  pub made_finds : (a : Found (List Tree)) (b : Found Tree) → AreMade r a b → Finds (Fits rows before r.slots r.items e) a → Finds (IsOf rows before r e want) b
  made_finds Nothing Nothing m h = λ t q. h (pick q.children (slot_order r.items)) q.fits
  made_finds Nothing (One t) m h = absurd m
  made_finds Nothing (Two t u) m h = absurd m
  made_finds (One us) Nothing m h = absurd m
  made_finds (One us) (One t) m h = (made_is us t h.0 m, λ u q. made_same us t u m q (h.1 (pick q.children (slot_order r.items)) q.fits))
  made_finds (One us) (Two t u) m h = absurd m
  made_finds (Two us vs) Nothing m h = absurd m
  made_finds (Two us vs) (One t) m h = absurd m
  made_finds (Two us vs) (Two t u) m h = (made_is us t h.0 m.0, made_is vs u h.1 m.1, made_apart us vs t u m.0 m.1 h.2)
