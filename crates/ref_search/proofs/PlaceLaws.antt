-- The first order in which trees fit, order by order.
use Rattle.std.proofs.Common.{◌≡◌, ℕ, zero, suc, ◌+◌, ◌<◌, ◌≤◌, Bool, true, false, List, [], ◌∷◌, ◌++◌, length, map, take, drop, drop-cons, get_or}
use Rattle.std.proofs.Common.{Option, Some, None, option_map, refl, sym, ap, subst, ◌∙◌, inl, inr, add-one, arith, Result, Ok, Err, IfOk}
use Rattle.std.proofs.lemmas.List.{drop_all, length-map, get_or-map, get_or_default}
use Rattle.std.specs.List.{AllByRecursion, flat_map, remove}
use Rattle.mm_base.specs.declared.errors.Memory.{Memory}
use Rattle.mm_base.specs.declared.symbols.Sym.{Sym}
use Rattle.mm_base.specs.declared.symbols.Pair.{Pair}
use Rattle.mm_base.specs.declared.tree.Tree.{Tree}
use Rattle.mm_model.specs.declared.frames.Frame.{Frame}
use Rattle.mm_model.specs.Book.{Assertion}
use Rattle.solve_model.specs.Firsts.{IsFirstOrNone, picks, orders}
use Rattle.written_model.specs.Found.{is_ground}
use Rattle.written_model.specs.WrittenSteps.{no_tree, value_of}
use Rattle.ref_search.specs.declared.placing.Fit.{Fit}
use Rattle.ref_search.specs.Matching.{Binding, valued_by, AreBound, AreGround, IsOver, IsLonger, IsMatched, Becomes}
use Rattle.ref_search.specs.Completing.{use_of, IsRule, Completes}
use Rattle.ref_search.specs.Placing.{trees_at, CanComplete, begun_with, FirstFrom, IsFirstFit, IsPlacedTo}
use Rattle.ref_search.proofs.Lists.{all_at, front_again}
use Rattle.ref_search.proofs.MatchLaws.{agreed}
use Rattle.ref_search.proofs.ValueLaws.{values_over}

-- ---- the first of a list

module _ {X : Type 0} (P : X → Type 0) where
  pub append_none : (xs ys : List X) (o : Option X) → IsFirstOrNone P xs None → IsFirstOrNone P ys o → IsFirstOrNone P (xs ++ ys) o
  append_none [] ys o h k = k
  append_none (x ∷ xs) ys o (inl h) k = absurd (cc)
  append_none (x ∷ xs) ys o (inr h) k = inr (h.0, append_none xs ys o h.1 k)

  pub append_some : (xs ys : List X) (x : X) → IsFirstOrNone P xs (Some x) → IsFirstOrNone P (xs ++ ys) (Some x)
  append_some [] ys x h = absurd (cc)
  append_some (y ∷ xs) ys x (inl h) = inl h
  append_some (y ∷ xs) ys x (inr h) = inr (h.0, append_some xs ys x h.1)

  pub all_none : ((x : X) → P x → ⊥) → (xs : List X) → IsFirstOrNone P xs None
  all_none h [] = refl
  all_none h (x ∷ xs) = inr (h x, all_none h xs)

pub first_map : {X Y : Type 0} (P : X → Type 0) (Q : Y → Type 0) (f : Y → X) → ((y : Y) → P (f y) → Q y) → ((y : Y) → Q y → P (f y)) → (ys : List Y) (o : Option Y)
    → IsFirstOrNone Q ys o → IsFirstOrNone P (map f ys) (option_map f o)
first_map P Q f there back [] o h = ap (option_map f) h
first_map P Q f there back (y ∷ ys) o (inl h) = inl (ap (option_map f) h.0, back y h.1)
first_map P Q f there back (y ∷ ys) o (inr h) = inr (λ p. h.0 (there y p), first_map P Q f there back ys o h.1)

-- ---- the first of several lists, one after the other

module _ {X Y : Type 0} (P : X → Type 0) (F : Y → List X) (ys : List Y) (all : List X) where
  parts : (i : ℕ) (d : Y) → i < length ys → flat_map F (drop i ys) ≡ F (get_or ys i d) ++ flat_map F (drop (i + 1) ys)
  parts i d h = rw add-one (ap (flat_map F) (drop-cons ys i d h))

  pub advance : (i : ℕ) (d : Y) → i < length ys → FirstFrom P (flat_map F (drop i ys)) all → IsFirstOrNone P (F (get_or ys i d)) None → FirstFrom P (flat_map F (drop (i + 1) ys)) all
  advance i d h f none = record { first = λ o k. f.first o (subst (λ xs. IsFirstOrNone P xs o) (sym (parts i d h)) (append_none P (F (get_or ys i d)) (flat_map F (drop (i + 1) ys)) o none k)) }

  pub reached : (i : ℕ) (d : Y) (x : X) → i < length ys → FirstFrom P (flat_map F (drop i ys)) all → IsFirstOrNone P (F (get_or ys i d)) (Some x) → IsFirstOrNone P all (Some x)
  reached i d x h f some = f.first (Some x) (subst (λ xs. IsFirstOrNone P xs (Some x)) (sym (parts i d h)) (append_some P (F (get_or ys i d)) (flat_map F (drop (i + 1) ys)) x some))

  pub passed : (i : ℕ) → length ys ≤ i → FirstFrom P (flat_map F (drop i ys)) all → IsFirstOrNone P all None
  passed i h f = f.first None (subst (λ zs. IsFirstOrNone P (flat_map F zs) None) (sym (drop_all i ys h)) refl)

-- ---- picks

pub length-picks : {X : Type 0} (xs : List X) → length (picks xs) ≡ length xs
length-picks [] = refl
length-picks {X} (x ∷ xs) = ap suc (length-map (picks xs) (λ (p : X × List X). (p.0, x ∷ p.1)) ∙ length-picks xs)

pub pick_at : {X : Type 0} (xs : List X) (i : ℕ) (x : X) (d : X × List X) → i < length xs → get_or (picks xs) i d ≡ (get_or xs i x, remove xs i)
pick_at [] i x d h = absurd (omega arith)
pick_at (y ∷ ys) zero x d h = refl
pick_at {X} (y ∷ ys) (suc i) x d h =
    let l : i < length (picks ys) = rw length-picks (omega arith) in
    get_or-map (λ (p : X × List X). (p.0, y ∷ p.1)) (picks ys) i d d l ∙ ap (λ (p : X × List X). (p.0, y ∷ p.1)) (pick_at ys i x d (omega arith))

pub all_left : {X : Type 0} (P : X → Type 0) (xs : List X) (i : ℕ) → AllByRecursion P xs → AllByRecursion P (remove xs i)
all_left P [] zero h = tt
all_left P [] (suc i) h = tt
all_left P (x ∷ xs) zero h = h.1
all_left P (x ∷ xs) (suc i) h = (h.0, all_left P xs i h.1)

-- ---- one more `$e`

pub cons_head : {X : Type 0} (x y : X) (xs ys : List X) → x ∷ xs ≡ y ∷ ys → x ≡ y
cons_head x y xs ys e = cc

pub cons_tail : {X : Type 0} (x y : X) (xs ys : List X) → x ∷ xs ≡ y ∷ ys → xs ≡ ys
cons_tail x y xs ys e = cc

pub rule_over : (a : Assertion) (frame : Frame) (vars : List Sym) (values : List Tree) → IsRule a frame vars → IsOver vars (value_of (use_of a values))
rule_over a frame vars values rule = subst (λ vs. IsOver vs (value_of (use_of a values))) (sym rule.vars_are) (values_over a.vars values)

module _ (a : Assertion) (given : Option (List Pair)) (frame : Frame) (vars : List Sym) (rule : IsRule a frame vars) (old new : List Binding)
    (h : Tree) (hs : List Tree) (t : Tree) (ts : List Tree) where
  pub other_fails : IsMatched vars (Becomes h t) old new false → (values : List Tree) → Completes a given old (h ∷ hs) (t ∷ ts) values → ⊥
  other_fails m values c =
      let head : valued_by (value_of (use_of a values)) h ≡ t = cons_head (valued_by (value_of (use_of a values)) h) t (map (valued_by (value_of (use_of a values))) hs) ts c.hyps_are in
      m.none refl (value_of (use_of a values)) (rule_over a frame vars values rule) c.ends.agrees head

  pub fewer : IsMatched vars (Becomes h t) old new true → (values : List Tree) → Completes a given old (h ∷ hs) (t ∷ ts) values → Completes a given new hs ts values
  fewer m values c =
      let f = value_of (use_of a values) in
      let head = cons_head (valued_by f h) t (map (valued_by f) hs) ts c.hyps_are in
      record {
        ends = record {
          agrees = m.agrees refl f (rule_over a frame vars values rule) c.ends.agrees head;
          codes = c.ends.codes;
          no_clash = c.ends.no_clash;
          no_lack = c.ends.no_lack;
        };
        hyps_are = cons_tail (valued_by f h) t (map (valued_by f) hs) ts c.hyps_are;
      }

  pub more : IsMatched vars (Becomes h t) old new true → (values : List Tree) → Completes a given new hs ts values → Completes a given old (h ∷ hs) (t ∷ ts) values
  more m values c =
      let f = value_of (use_of a values) in
      record {
        ends = record { agrees = agreed f old new m.longer c.ends.agrees; codes = c.ends.codes; no_clash = c.ends.no_clash; no_lack = c.ends.no_lack };
        hyps_are = ap (λ z. z ∷ map (valued_by f) hs) (m.has refl f c.ends.agrees) ∙ ap (λ zs. t ∷ zs) c.hyps_are;
      }

-- ---- a place for the next `$e`

pub tree_there : (wanted : List Tree) (k : ℕ) (t : Tree) → k < length wanted → t ≡ get_or wanted k t → t ≡ get_or wanted k no_tree
tree_there wanted k t h e = e ∙ get_or_default wanted k t no_tree h

pub ground_there : (wanted : List Tree) (k : ℕ) (t : Tree) → AreGround wanted → k < length wanted → t ≡ get_or wanted k t → is_ground t ≡ true
ground_there wanted k t h l e = subst (λ x. is_ground x ≡ true) (sym e) (all_at (λ t. is_ground t ≡ true) wanted k t h l)

module _ (frame : Frame) (vars : List Sym) (old now : List Binding) (h : Tree) (hs wanted : List Tree) (places : List ℕ) (given : Option (List Pair)) (i at : ℕ) (t : Tree)
    (inside : i < length places) (at_is : at ≡ get_or places i 0) (t_is : t ≡ get_or wanted at no_tree) (so_far : IsPlacedTo frame vars old now h hs wanted places given i) where
  the_pick : get_or (picks places) i (at, places) ≡ (at, remove places i)
  the_pick = pick_at places i 0 (at, places) inside ∙ ap (λ k. (k, remove places i)) (sym at_is)

  within : i < length (picks places)
  within = rw length-picks inside

  module _ (a : Assertion) (rule : IsRule a frame vars) (new : List Binding) where
    from_tree : (order : List ℕ) (values : List Tree) → Completes a given old (h ∷ hs) (trees_at wanted (at ∷ order)) values → Completes a given old (h ∷ hs) (t ∷ trees_at wanted order) values
    from_tree order values c = subst (λ z. Completes a given old (h ∷ hs) (z ∷ trees_at wanted order) values) (sym t_is) c

    to_tree : (order : List ℕ) (values : List Tree) → Completes a given old (h ∷ hs) (t ∷ trees_at wanted order) values → Completes a given old (h ∷ hs) (trees_at wanted (at ∷ order)) values
    to_tree order values c = subst (λ z. Completes a given old (h ∷ hs) (z ∷ trees_at wanted order) values) t_is c

    none_begun : IsMatched vars (Becomes h t) old new false → IsFirstOrNone (CanComplete a given old (h ∷ hs) wanted) (begun_with (length hs) (at, remove places i)) None
    none_begun m =
        first_map (CanComplete a given old (h ∷ hs) wanted) (λ order. CanComplete a given old (h ∷ hs) wanted (at ∷ order)) (λ order. at ∷ order)
        (λ order c. c) (λ order c. c) (orders (length hs) (remove places i)) None
        (all_none (λ order. CanComplete a given old (h ∷ hs) wanted (at ∷ order))
        (λ order c. other_fails a given frame vars rule old new h hs t (trees_at wanted order) m c.0 (from_tree order c.0 c.1))
        (orders (length hs) (remove places i)))

    first_begun : IsMatched vars (Becomes h t) old new true → (o : Option (List ℕ)) → IsFirstOrNone (CanComplete a given new hs wanted) (orders (length hs) (remove places i)) o
        → IsFirstOrNone (CanComplete a given old (h ∷ hs) wanted) (begun_with (length hs) (at, remove places i)) (option_map (λ order. at ∷ order) o)
    first_begun m o f =
        first_map (CanComplete a given old (h ∷ hs) wanted) (CanComplete a given new hs wanted) (λ order. at ∷ order)
        (λ order c. (c.0, fewer a given frame vars rule old new h hs t (trees_at wanted order) m c.0 (from_tree order c.0 c.1)))
        (λ order c. (c.0, to_tree order c.0 (more a given frame vars rule old new h hs t (trees_at wanted order) m c.0 c.1)))
        (orders (length hs) (remove places i)) o f

    one_further : AreBound vars old → IsFirstOrNone (CanComplete a given old (h ∷ hs) wanted) (begun_with (length hs) (at, remove places i)) None
        → FirstFrom (CanComplete a given old (h ∷ hs) wanted) (flat_map (begun_with (length hs)) (drop (i + 1) (picks places))) (flat_map (begun_with (length hs)) (picks places))
    one_further bound none =
        advance (CanComplete a given old (h ∷ hs) wanted) (begun_with (length hs)) (picks places) (flat_map (begun_with (length hs)) (picks places)) i (at, places) within (so_far.first a rule bound)
        (subst (λ p. IsFirstOrNone (CanComplete a given old (h ∷ hs) wanted) (begun_with (length hs) p) None) (sym the_pick) none)

    found_here : AreBound vars old → (order : List ℕ) → IsFirstOrNone (CanComplete a given old (h ∷ hs) wanted) (begun_with (length hs) (at, remove places i)) (Some order)
        → IsFirstOrNone (CanComplete a given old (h ∷ hs) wanted) (flat_map (begun_with (length hs)) (picks places)) (Some order)
    found_here bound order some =
        reached (CanComplete a given old (h ∷ hs) wanted) (begun_with (length hs)) (picks places) (flat_map (begun_with (length hs)) (picks places)) i
        (at, places) order within (so_far.first a rule bound)
        (subst (λ p. IsFirstOrNone (CanComplete a given old (h ∷ hs) wanted) (begun_with (length hs) p) (Some order)) (sym the_pick) some)

  pub place_differs : (new cut : List Binding) → IsMatched vars (Becomes h t) old new false → cut ≡ old → IsPlacedTo frame vars old cut h hs wanted places given (i + 1)
  place_differs new cut m e = record { same = e; first = λ a rule bound. one_further a rule new bound (none_begun a rule new m) }

  pub place_passed : (new cut : List Binding) → IsMatched vars (Becomes h t) old new true → cut ≡ old
      → ((a : Assertion) → IsRule a frame vars → AreBound vars new → IsFirstFit a given new hs wanted (orders (length hs) (remove places i)) None)
      → IsPlacedTo frame vars old cut h hs wanted places given (i + 1)
  place_passed new cut m e f = record { same = e; first = λ a rule bound. one_further a rule new bound (first_begun a rule new m None (f a rule (m.bound bound)).first) }

  pub place_found : (new : List Binding) (fit : Fit) → IsMatched vars (Becomes h t) old new true → (a : Assertion) → IsRule a frame vars → AreBound vars old
      → IsFirstFit a given new hs wanted (orders (length hs) (remove places i)) (Some fit)
      → IsFirstFit a given old (h ∷ hs) wanted (orders (suc (length hs)) places) (Some (record { order = at ∷ fit.order; trees = fit.trees }))
  place_found new fit m a rule bound f = record {
    first = found_here a rule new bound (at ∷ fit.order) (first_begun a rule new m (Some fit.order) f.first);
    values = to_tree a rule new fit.order fit.trees (more a given frame vars rule old new h hs t (trees_at wanted fit.order) m fit.trees f.values);
  }

pub place_none : (frame : Frame) (vars : List Sym) (old now : List Binding) (h : Tree) (hs wanted : List Tree) (places : List ℕ) (given : Option (List Pair)) (i : ℕ) → length places ≤ i
    → IsPlacedTo frame vars old now h hs wanted places given i → (a : Assertion) → IsRule a frame vars → AreBound vars old
    → IsFirstFit a given old (h ∷ hs) wanted (orders (suc (length hs)) places) None
place_none frame vars old now h hs wanted places given i le so_far a rule bound = record {
  first =
      passed (CanComplete a given old (h ∷ hs) wanted) (begun_with (length hs)) (picks places) (flat_map (begun_with (length hs)) (picks places)) i
      (rw length-picks le) (so_far.first a rule bound);
  values = tt;
}

-- ---- what the calls say, put together

pub cut_back : (old new : List Binding) (mark : ℕ) → mark ≡ length old → IsLonger old new → take mark new ≡ old
cut_back old new mark e l = ap (λ k. take k new) e ∙ ap (take (length old)) l.is ∙ front_again old l.more

pub matched_from : (vars others : List Sym) (P : (Sym → Tree) → Type 0) (old now new : List Binding) (fits b : Bool) → others ≡ vars → now ≡ old → fits ≡ b → IsMatched others P now new fits
    → IsMatched vars P old new b
matched_from vars others P old now new fits b e f g m =
    subst (λ b. IsMatched vars P old new b) g (subst (λ bs. IsMatched vars P bs new fits) f (subst (λ vs. IsMatched vs P now new fits) e m))

pub of_whole : (a : Assertion) (given : Option (List Pair)) (bs : List Binding) (hyps : List Tree) (h : Tree) (hs wanted : List Tree) (places : List ℕ) (o : Option Fit) → hyps ≡ h ∷ hs
    → IsFirstFit a given bs (h ∷ hs) wanted (orders (suc (length hs)) places) o → IsFirstFit a given bs hyps wanted (orders (length hyps) places) o
of_whole a given bs hyps h hs wanted places o e f = subst (λ xs. IsFirstFit a given bs xs wanted (orders (length xs) places) o) (sym e) f

pub of_parts : (a : Assertion) (given : Option (List Pair)) (bs : List Binding) (hs wanted : List Tree) (places left : List ℕ) (o p : Option Fit) → places ≡ left → o ≡ p
    → IsFirstFit a given bs hs wanted (orders (length hs) places) o → IsFirstFit a given bs hs wanted (orders (length hs) left) p
of_parts a given bs hs wanted places left o p e f x =
    subst (λ q. IsFirstFit a given bs hs wanted (orders (length hs) left) q) f
    (subst (λ ps. IsFirstFit a given bs hs wanted (orders (length hs) ps) o) e x)

no_elements : {X : Type 0} (xs : List X) → length xs ≡ 0 → xs ≡ []
no_elements [] e = refl
no_elements (x ∷ xs) e = absurd (omega (arith, e))

pub end_placed : (frame : Frame) (vars : List Sym) (given : Option (List Pair)) (bs other : List Binding) (hyps wanted : List Tree) (places : List ℕ)
    (r : Result (Option Fit) Memory)
    → length hyps ≡ 0 → other ≡ bs
    → IfOk r (λ o. (a : Assertion) (ts : List Tree) → IsRule a frame vars → AreBound vars other → IsFirstFit a given other [] ts ([] ∷ []) o)
    → IfOk r (λ o. (a : Assertion) → IsRule a frame vars → AreBound vars bs → IsFirstFit a given bs hyps wanted (orders (length hyps) places) o)
end_placed frame vars given bs other hyps wanted places (Err m) e f h = h
end_placed frame vars given bs other hyps wanted places (Ok o) e f h =
    subst (λ xs. (a : Assertion) → IsRule a frame vars → AreBound vars bs → IsFirstFit a given bs xs wanted (orders (length xs) places) o) (sym (no_elements hyps e))
    (λ a rule bound. subst (λ b. IsFirstFit a given b [] wanted ([] ∷ []) o) f (h a wanted rule (subst (λ b. AreBound vars b) (sym f) bound)))
