-- The free nodes that a worksheet begins with are those of its unknowns, one each.
use Rattle.std.specs.Prelude.{◌≡◌, ℕ, ◌<◌, ◌+◌, ◌⊎◌, ◌==◌, ◌&&◌, Bool, true, false, List, [], ◌∷◌, ◌++◌, length, map, find, slice_get, option_map}
use Rattle.std.specs.Prelude.{Option, Some, None, Contains, refl}
use Rattle.std.proofs.Common.{zero, suc, get_or, sym, ap, subst, ◌∙◌, arith, inl, inr, cond}
use Rattle.std.proofs.lemmas.Bool.{and_parts}
use Rattle.std.proofs.lemmas.Bool.Decides.{nat_tests}
use Rattle.std.proofs.lemmas.List.{append_assoc, append-nil, get_or_append_left, get_or_push, length_push, length-map, length-append, map_push}
use Rattle.std.proofs.lemmas.List.Elements.{Contains-append_left, Contains-append_right, Contains-append_cases}
use Rattle.mm_base.specs.declared.symbols.Typecode.{Typecode}
use Rattle.mm_base.specs.declared.tree.Tree.{Tree}
use Rattle.solve_model.specs.declared.bound.BoundStep.{BoundStep}
use Rattle.solve_model.specs.Trees.{Open, work, fresh, open_leaves}
use Rattle.solve_model.specs.Solutions.{Unknown, named, blank, copy}
use Rattle.term_model.specs.Terms.{Term, Free}
use Rattle.chain_laws.specs.declared.leaves.WorkNode.{WorkNode}
use Rattle.chain_laws.specs.Adding.{is_work, work_at}
use Rattle.chain_laws.proofs.LeastLeaves.{first, later, nothing}
use Rattle.chain_laws.proofs.Listed.{parted, AreDistinct, works_in, of_formula, of_steps}
use Rattle.step_chain.specs.Formulas.{Begun, with_work, with_leaf, with_leaves, with_formula, with_step, with_steps, blank_node, blank_nodes}

-- ---- the work variables among unknowns, each with its place

abbrev pub work_entry : ℕ → Unknown → List WorkNode
work_entry k (named c n) = record { code = c; number = n; node = k } ∷ []
work_entry k (blank i) = []
work_entry k (copy i s c) = []

abbrev pub works_from : ℕ → List Unknown → List WorkNode
works_from k [] = []
works_from k (u ∷ us) = work_entry k u ++ works_from (k + 1) us

works_push : (k : ℕ) (us : List Unknown) (u : Unknown) → works_from k (us ++ u ∷ []) ≡ works_from k us ++ work_entry (k + length us) u
works_push k [] u = append-nil (work_entry k u) ∙ (let same : k ≡ k + 0 = omega arith in ap (λ (j : ℕ). work_entry j u) same)
works_push k (w ∷ us) u =
    let same : k + 1 + length us ≡ k + length (w ∷ us) = omega arith in
    ap (λ (ws : List WorkNode). work_entry k w ++ ws) (works_push (k + 1) us u ∙ ap (λ (j : ℕ). works_from (k + 1) us ++ work_entry j u) same)
    ∙ sym (append_assoc (work_entry k w) (works_from (k + 1) us) (work_entry (k + length (w ∷ us)) u))

-- the work variable stands at a place of the list
pub record StandsAt (k : ℕ) (us : List Unknown) (c : Typecode) (n i : ℕ) : Type 0 where
  pub at : ℕ
  pub is : i ≡ k + at
  pub within : at < length us
  pub there : get_or us at (blank 0) ≡ named c n

abbrev pub IsFoundAt : ℕ → List Unknown → Typecode → ℕ → Option ℕ → Type 0
IsFoundAt k us c n None = Contains us (named c n) → ⊥
IsFoundAt k us c n (Some i) = StandsAt k us c n i

found_later : (k : ℕ) (us : List Unknown) (u : Unknown) (c : Typecode) (n : ℕ) (o : Option ℕ) → (u ≡ named c n → ⊥) → IsFoundAt (k + 1) us c n o → IsFoundAt k (u ∷ us) c n o
found_later k us u c n None off h = λ g. elim (parted (named c n) u us g) [ inl e ↦ off e | inr rest ↦ h rest ]
found_later k us u c n (Some i) off h = record { at = suc h.at; is = let e = h.is in omega (arith, e); within = let l = h.within in omega (arith, l); there = h.there }

abbrev code_with : ℕ → Typecode
code_with x = record { 0 = record { 0 = x } }

codes_same : (c d : Typecode) → c.0.0 ≡ d.0.0 → c ≡ d
codes_same c d e = ap code_with e

found_by : (k : ℕ) (us : List Unknown) (d : Typecode) (m : ℕ) (c : Typecode) (n : ℕ) (b : Bool) (w : Option WorkNode) → is_work c n (record { code = d; number = m; node = k }) ≡ b
    → IsFoundAt (k + 1) us c n (option_map (λ (w : WorkNode). w.node) w)
    → IsFoundAt k (named d m ∷ us) c n (option_map (λ (w : WorkNode). w.node) (cond b (Some (record { code = d; number = m; node = k })) w))
found_by k us d m c n true w is h =
    let both = and_parts (c.0.0 == d.0.0) (n == m) is in
    let one : c.0.0 ≡ d.0.0 = grind (arith, nat_tests, both) in
    let two : n ≡ m = grind (arith, nat_tests, both) in
    let code : c ≡ d = codes_same c d one in
    let same : named d m ≡ named c n = cc in
    record { at = 0; is = omega arith; within = omega arith; there = same }
found_by k us d m c n false w is h = found_later k us (named d m) c n (option_map (λ (w : WorkNode). w.node) w) (λ e. differs (c.0.0 == d.0.0) (n == m) (let one : d ≡ c = cc in ap (λ
    (x : Typecode). x.0.0) (sym one)) (let two : m ≡ n = cc in sym two) refl refl is) h
  where
    differs : (x y : Bool) → c.0.0 ≡ d.0.0 → n ≡ m → (c.0.0 == d.0.0) ≡ x → (n == m) ≡ y → (x && y) ≡ false → ⊥
    differs true true e f g h' i = cc
    differs true false e f g h' i = grind (arith, nat_tests)
    differs false y e f g h' i = grind (arith, nat_tests)

-- what a look-up of a work variable answers
pub found_at : (k : ℕ) (us : List Unknown) (c : Typecode) (n : ℕ) → IsFoundAt k us c n (work_at (works_from k us) c n)
found_at k [] c n = nothing (named c n)
found_at k (named d m ∷ us) c n = found_by k us d m c n (is_work c n (record { code = d; number = m; node = k })) (find (is_work c n) (works_from (k + 1) us)) refl (found_at (k + 1) us c n)
found_at k (blank i ∷ us) c n = found_later k us (blank i) c n (work_at (works_from (k + 1) us) c n) (λ (e : blank i ≡ named c n). cc) (found_at (k + 1) us c n)
found_at k (copy i s d ∷ us) c n = found_later k us (copy i s d) c n (work_at (works_from (k + 1) us) c n) (λ (e : copy i s d ≡ named c n). cc) (found_at (k + 1) us c n)

-- ---- lists of unknowns that grow

distinct_push : (us : List Unknown) (u : Unknown) → AreDistinct us → (Contains us u → ⊥) → AreDistinct (us ++ u ∷ [])
distinct_push [] u d off = (nothing u, tt)
distinct_push (w ∷ us) u d off = (both, distinct_push us u d.1 (λ h. off (later u w us h)))
  where
    both : Contains (us ++ u ∷ []) w → ⊥
    both h = elim (Contains-append_cases us (u ∷ []) w h) [
      | inl old ↦ d.0 old
      | inr new ↦ elim (parted w u [] new) [ inl e ↦ off (subst (λ (x : Unknown). Contains (w ∷ us) x) (sym e) (first w us)) | inr no_more ↦ nothing w no_more ]
    ]

module _ (logic : Typecode) where
  abbrev pub free_for : Unknown → Term
  free_for (named c n) = Free c
  free_for (blank i) = Free logic
  free_for (copy i s c) = Free c

  -- the free nodes are those of these unknowns
  pub record IsListed (us : List Unknown) (b : Begun) : Type 0 where
    pub nodes : b.nodes ≡ map free_for us
    pub works : b.works ≡ works_from 0 us
    pub distinct : AreDistinct us

  -- and of these further ones
  pub record Listing (us : List Unknown) (b : Begun) (new : List Unknown) : Type 0 where
    pub list : List Unknown
    pub more : List Unknown
    pub extends : list ≡ us ++ more
    pub is : IsListed list b
    pub all : (u : Unknown) → Contains new u → Contains list u
    pub only : (u : Unknown) → Contains list u → Contains us u ⊎ Contains new u

  no_more : (us : List Unknown) (b : Begun) (new : List Unknown) → IsListed us b → ((u : Unknown) → Contains new u → Contains us u) → Listing us b new
  no_more us b new is all = record { list = us; more = []; extends = sym (append-nil us); is = is; all = all; only = λ u h. inl h }

  then : (us : List Unknown) (b c : Begun) (xs ys : List Unknown) → (h : Listing us b xs) → Listing h.list c ys → Listing us c (xs ++ ys)
  then us b c xs ys h g = record {
    list = g.list;
    more = h.more ++ g.more;
    extends = g.extends ∙ ap (λ (zs : List Unknown). zs ++ g.more) h.extends ∙ append_assoc us h.more g.more;
    is = g.is;
    all = λ u i. elim (Contains-append_cases xs ys u i) [
      | inl one ↦ subst (λ (zs : List Unknown). Contains zs u) (sym g.extends) (Contains-append_left h.list g.more u (h.all u one))
      | inr two ↦ g.all u two
    ];
    only = λ u i. elim (g.only u i) [
      | inl old ↦ elim (h.only u old) [ inl was ↦ inl was | inr one ↦ inr (Contains-append_left xs ys u one) ]
      | inr two ↦ inr (Contains-append_right xs ys u two)
    ];
  }

  one_new : (us : List Unknown) (b : Begun) (u : Unknown) → IsListed (us ++ u ∷ []) b → Listing us b (u ∷ [])
  one_new us b u is = record {
    list = us ++ u ∷ [];
    more = u ∷ [];
    extends = refl;
    is = is;
    all = λ x h. Contains-append_right us (u ∷ []) x h;
    only = λ x h. Contains-append_cases us (u ∷ []) x h;
  }

  count_is : (us : List Unknown) (b : Begun) → IsListed us b → length b.nodes ≡ length us
  count_is us b h = ap length h.nodes ∙ length-map us free_for

  -- ---- a work variable

  work_listed : (us : List Unknown) (b : Begun) (c : Typecode) (n : ℕ) (o : Option ℕ) → IsListed us b → IsFoundAt 0 us c n o → Listing us (with_work b c n o) (named c n ∷ [])
  work_listed us b c n None h off =
      one_new us (with_work b c n None) (named c n)
      (record {
        nodes = ap (λ (ns : List Term). ns ++ Free c ∷ []) h.nodes ∙ sym (map_push free_for us (named c n));
        works = ap (λ (ws : List WorkNode). ws ++ record { code = c; number = n; node = length b.nodes } ∷ []) h.works
            ∙ (let number : length b.nodes ≡ 0 + length us = (let same = count_is us b h in omega (arith, same)) in ap (λ (k : ℕ). works_from 0 us ++ work_entry k (named c n)) number)
            ∙ sym (works_push 0 us (named c n));
        distinct = distinct_push us (named c n) h.distinct off;
      })
  work_listed us b c n (Some i) h at = no_more us b (named c n ∷ []) h (λ u g. elim (parted u (named c n) [] g) [
    | inl e ↦ subst (Contains us) e
        (stands us at.at at.within at.there)
    | inr off ↦ absurd (nothing u off)
  ])
    where
      stands : (ws : List Unknown) (j : ℕ) → j < length ws → get_or ws j (blank 0) ≡ named c n → Contains ws (named c n)
      stands [] j l e = absurd (omega (arith, l))
      stands (w ∷ ws) zero l e = (0, omega arith, e)
      stands (w ∷ ws) (suc j) l e = later (named c n) w ws (stands ws j (omega (arith, l)) e)

  leaves_listed : (xs : List Open) (us : List Unknown) (b : Begun) → IsListed us b → Listing us (with_leaves b xs) (works_in xs)
  leaves_listed [] us b h = no_more us b [] h (λ u g. absurd (nothing u g))
  leaves_listed (work c n ∷ xs) us b h =
      let found : IsFoundAt 0 us c n (work_at b.works c n) = subst (λ (ws : List WorkNode). IsFoundAt 0 us c n (work_at ws c n)) (sym h.works) (found_at 0 us c n) in
      let one = work_listed us b c n (work_at b.works c n) h found in
      then us (with_leaf b (work c n)) (with_leaves b (work c n ∷ xs)) (named c n ∷ []) (works_in xs) one (leaves_listed xs one.list (with_leaf b (work c n)) one.is)
  leaves_listed (fresh c n ∷ xs) us b h = leaves_listed xs us b h

  -- ---- steps

  -- an unknown stands at a place of the list
  pub record IsPlaceOf (list : List Unknown) (i : ℕ) (u : Unknown) : Type 0 where
    pub within : i < length list
    pub there : get_or list i (blank 0) ≡ u

  place_front : (list more longer : List Unknown) (i : ℕ) (u : Unknown) → longer ≡ list ++ more → IsPlaceOf list i u → IsPlaceOf longer i u
  place_front list more longer i u e h = record {
    within = (let long : length longer ≡ length (list ++ more) = ap length e in omega (arith, long, length-append list more, h.within));
    there = ap (λ (xs : List Unknown). get_or xs i (blank 0)) e ∙ get_or_append_left list more (blank 0) i h.within ∙ h.there;
  }

  record FormulaListing (us : List Unknown) (b : Begun) (k : ℕ) (t : Option Tree) : Type 0 where
    listing : Listing us (with_formula logic b t) (of_formula k t)
    blank_node : t ≡ None → IsPlaceOf listing.list (length b.nodes) (blank k)

  formula_listed : (k : ℕ) (t : Option Tree) (us : List Unknown) (b : Begun) → IsListed us b → (Contains us (blank k) → ⊥) → FormulaListing us b k t
  unfolding one_new
  formula_listed k None us b h off =
      let count = count_is us b h in
      record {
        listing = one_new us (with_formula logic b None) (blank k)
            (record {
              nodes = ap (λ (ns : List Term). ns ++ Free logic ∷ []) h.nodes ∙ sym (map_push free_for us (blank k));
              works = h.works ∙ sym (works_push 0 us (blank k) ∙ append-nil (works_from 0 us));
              distinct = distinct_push us (blank k) h.distinct off;
            });
        blank_node = λ e. record {
          within = (let long = length_push us (blank k) in omega (arith, long, count));
          there = get_or_push us (blank k) (blank 0) (length b.nodes) (sym count);
        };
      }
  formula_listed k (Some t) us b h off = record { listing = leaves_listed (open_leaves t) us b h; blank_node = λ e. cc }

  no_blank : (xs : List Open) (j : ℕ) → Contains (works_in xs) (blank j) → ⊥
  no_blank [] j h = nothing (blank j) h
  no_blank (work c n ∷ xs) j h = elim (parted (blank j) (named c n) (works_in xs) h) [ inl e ↦ (let differ : named c n ≡ blank j = e in cc) | inr rest ↦ no_blank xs j rest ]
  no_blank (fresh c n ∷ xs) j h = no_blank xs j h

  blank_of : (k : ℕ) (t : Option Tree) (j : ℕ) → Contains (of_formula k t) (blank j) → j ≡ k
  blank_of k None j h = elim (parted (blank j) (blank k) [] h) [ inl e ↦ (let differ : blank k ≡ blank j = e in cc) | inr off ↦ absurd (nothing (blank j) off) ]
  blank_of k (Some t) j h = absurd (no_blank (open_leaves t) j h)

  -- the node of a blank formula
  pub record IsBlankAt (list : List Unknown) (os : List (Option ℕ)) (i j : ℕ) : Type 0 where
    pub node : ℕ
    pub is : get_or os i None ≡ Some node
    pub place : IsPlaceOf list node (blank j)

  pub record StepsListing (us : List Unknown) (b : Begun) (os : List (Option ℕ)) (k : ℕ) (ss : List BoundStep) : Type 0 where
    pub listing : Listing us b (of_steps k ss)
    pub blanks : (i : ℕ) (s : BoundStep) → slice_get ss i ≡ Some s → s.tree ≡ None → IsBlankAt listing.list os i (k + i)

  blanks_then : (k : ℕ) (t : BoundStep) (ss : List BoundStep) (b : Begun) (one more list : List Unknown) (os : List (Option ℕ)) → list ≡ one ++ more → (t.tree ≡ None
      → IsPlaceOf one (length b.nodes) (blank k))
      → ((i : ℕ) (s : BoundStep) → slice_get ss i ≡ Some s → s.tree ≡ None → IsBlankAt list os i (k + 1 + i)) → (i : ℕ) (s : BoundStep) → slice_get (t ∷ ss) i ≡ Some s → s.tree ≡ None
      → IsBlankAt list (blank_node b t.tree ∷ os) i (k + i)
  blanks_then k t ss b one more list os e h g zero s is none =
      let same : t ≡ s = cc in
      let blank_tree : t.tree ≡ None = ap (λ (x : BoundStep). x.tree) same ∙ none in
      let number : k ≡ k + 0 = omega arith in
      record {
        node = length b.nodes;
        is = ap (blank_node b) blank_tree;
        place = subst (λ (j : ℕ). IsPlaceOf list (length b.nodes) (blank j)) number (place_front one more list (length b.nodes)
            (blank k) e (h blank_tree));
      }
  blanks_then k t ss b one more list os e h g (suc i) s is none =
      let told = g i s is none in
      let number : k + 1 + i ≡ k + suc i = omega arith in
      record { node = told.node; is = told.is; place = subst (λ (j : ℕ). IsPlaceOf list told.node (blank j)) number told.place }

  step_then : (k : ℕ) (t : BoundStep) (ss : List BoundStep) (us : List Unknown) (b : Begun) → (one : FormulaListing us b k t.tree)
      → StepsListing one.listing.list (with_steps logic (with_step logic b t) ss) (blank_nodes logic (with_step logic b t) ss) (k + 1) ss
      → StepsListing us (with_steps logic b (t ∷ ss)) (blank_nodes logic b (t ∷ ss)) k (t ∷ ss)
  unfolding then
  step_then k t ss us b one rest = record {
    listing = then us (with_step logic b t) (with_steps logic b (t ∷ ss)) (of_formula k t.tree) (of_steps (k + 1) ss) one.listing rest.listing;
    blanks = blanks_then k t ss b one.listing.list rest.listing.more rest.listing.list (blank_nodes logic (with_step logic b t) ss) rest.listing.extends one.blank_node rest.blanks;
  }

  pub steps_listed : (k : ℕ) (ss : List BoundStep) (us : List Unknown) (b : Begun) → IsListed us b → ((j : ℕ) → Contains us (blank j) → j < k)
      → StepsListing us (with_steps logic b ss) (blank_nodes logic b ss) k ss
  steps_listed k [] us b h below = record { listing = no_more us b [] h (λ u g. absurd (nothing u g)); blanks = λ i s e. let impossible : ◌≡◌ {A = Option BoundStep} None (Some s) = e in absurd (cc) }
  steps_listed k (t ∷ ss) us b h below =
      let one = formula_listed k t.tree us b h (λ g. let l = below k g in omega (arith, l)) in
      step_then k t ss us b one
      (steps_listed (k + 1) ss one.listing.list (with_step logic b t) one.listing.is (λ j g. elim (one.listing.only (blank j) g) [
        | inl old ↦ (let l = below j old in omega (arith, l))
        | inr new ↦
            (let e = blank_of k t.tree j new in omega (arith, e))
      ]))
