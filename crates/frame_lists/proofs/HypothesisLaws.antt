-- Mandatory hypotheses in order of appearance.
use Rattle.std.proofs.Common.{◌≡◌, ℕ, ◌+◌, ◌<◌, ◌≤◌, Bool, true, false, ◌&&◌, ◌||◌, ◌⊎◌, List, [], ◌∷◌, ◌++◌, length, map, reverse, fold, Option}
use Rattle.std.proofs.Common.{Some, None, refl, sym, ap, ◌∙◌, arith, inl, inr, subst, codes, nat_eq, ltb}
use Rattle.std.specs.List.{list_any, filter, AllByRecursion, ends_with}
use Rattle.std.specs.Ordering.{nat_cmp}
use Rattle.std.specs.declared.cmp.Ordering.TheVariants.{Less}
use Rattle.std.specs.Str.{bytes_eq}
use Rattle.std.proofs.lemmas.Cmp.{nat_cmp_total}
use Rattle.std.proofs.lemmas.Bool.{cases_Bool, or_cases, or_left, or_right, and_parts, and_from}
use Rattle.std.proofs.lemmas.Bool.Decides.{nat_tests}
use Rattle.mm_model.specs.Names.{Name, contains}
use Rattle.mm_model.specs.declared.frames.Hyp.{Hyp}
use Rattle.mm_model.specs.Statements.{Statement, has_keyword, labels_in, symbols_in, second, active, path, variables, with_keyword}
use Rattle.mm_model.specs.Frames.{symbols, formula_of, hypothesis_of, mandatory_variables, mandatory_hypotheses}
use Rattle.frame_lists.specs.declared.listed.Listed.{Listed}
use Rattle.frame_lists.specs.declared.scope.Scope.{Scope}
use Rattle.frame_lists.specs.Lists.{AreOf}
use Rattle.frame_lists.specs.Entries.{kind_in}
use Rattle.frame_lists.specs.Orders.{Rises, AreHypotheses}
use Rattle.frame_lists.specs.Steps.{has, is_floating, mandatory, hypothesis_at, float_of, or_more, labels_of}
use Rattle.frame_lists.proofs.Keywords.{is_essential, kind-is_essential, kind-is_floating}
use Rattle.frame_lists.proofs.Members.{In, in_all, in_has, has_in, in_contains, contains_in, in_map, map_in, in_filter, filter_in, in_reverse}
use Rattle.frame_lists.proofs.Members.{reverse_in, in_append, in_left, in_right, any_found, any_there, unique, sorted_push, sorted_none}
use Rattle.frame_lists.proofs.Numbered.{Numbered, item, count, on, here, on-is}
use Rattle.frame_lists.proofs.ByNumber.{number, same-names, name-self}
use Rattle.frame_lists.proofs.Added.{plus, filter-last, filter-map, map-reverse}
use Rattle.frame_lists.proofs.Passing.{state}
use Rattle.frame_lists.proofs.StateLaws.{IsGood, FloatsAre, statements_of, labels_by, listed_by, float_pair, float_pairs, look-in, essentials-are, float-is}
use Rattle.frame_lists.proofs.MandatoryLaws.{hypothesis-is, mandatory-law}

-- ---- the labels of the active `$e` and of the `$f` of variables

in_more : (x : ℕ) (ns : List ℕ) (o : Option ℕ) → In x (or_more ns o) → In x ns ⊎ (o ≡ Some x)
in_more x ns None i = inl i
in_more x ns (Some n) i = elim (in_append x ns (n ∷ []) i) [ inl k ↦ inl k | inr k ↦ elim k [ inl e ↦ inr (ap (λ (m : ℕ). Some m) (sym e)) | inr j ↦ absurd j ] ]

more_in : (x : ℕ) (ns : List ℕ) (o : Option ℕ) → In x ns → In x (or_more ns o)
more_in x ns None i = i
more_in x ns (Some n) i = in_left x ns (n ∷ []) i

more_found : (x : ℕ) (ns : List ℕ) (o : Option ℕ) → o ≡ Some x → In x (or_more ns o)
more_found x ns None e = absurd cc
more_found x ns (Some n) e = let same : x ≡ n = cc in in_right x ns (n ∷ []) (inl same)

module _ (s : Scope) where
  abbrev gathered : List ℕ → List ℕ → List ℕ
  gathered base vs = fold (λ ns v. or_more ns (float_of s v)) base vs

  in_gathered : (x : ℕ) (base vs : List ℕ) → In x (gathered base vs) → In x base ⊎ ((v : ℕ) × In v vs × (float_of s v ≡ Some x))
  in_gathered x base [] i = inl i
  in_gathered x base (v ∷ vs) i = elim (in_gathered x (or_more base (float_of s v)) vs i) [
    | inl k ↦ elim (in_more x base (float_of s v) k) [ inl j ↦ inl j | inr e ↦ inr (v, inl refl, e) ]
    | inr r ↦ inr (r.0, inr r.1, r.2)
  ]

  base_in : (x : ℕ) (base vs : List ℕ) → In x base → In x (gathered base vs)
  base_in x base [] i = i
  base_in x base (v ∷ vs) i = base_in x (or_more base (float_of s v)) vs (more_in x base (float_of s v) i)

  float_in : (x v : ℕ) (base vs : List ℕ) → In v vs → float_of s v ≡ Some x → In x (gathered base vs)
  float_in x v base [] i e = absurd i
  float_in x v base (w ∷ vs) i e = elim i [
    | inl same ↦ base_in x (or_more base (float_of s w)) vs (more_found x base (float_of s w) (ap (float_of s) (sym same) ∙ e))
    | inr k ↦ float_in x v (or_more base (float_of s w)) vs k e
  ]

-- ---- names

in-name : (n : Name) (ns : List Name) → In n ns → contains ns n ≡ true
in-name n ns i = any_there (bytes_eq n) n ns i (name-self n)

contains-passing : (q : Name → Bool) (xs : List Name) (v : Name) → contains (filter q xs) v ≡ (contains xs v && q v)
contains-passing q [] v = refl
contains-passing q (x ∷ xs) v =
    let later = contains-passing q xs v in
    elim (cases_Bool (bytes_eq v x)) [
      | inl e ↦ let same : q x ≡ q v = ap q (sym (same-names v x e)) in elim (cases_Bool (q x)) [
        | inl p ↦ let pv : q v ≡ true = sym same ∙ p in rw (p, e, pv) refl
        | inr p ↦ let pv : q v ≡ false = sym same ∙ p in rw p (later ∙ none (contains xs v) (q v) pv ∙ sym (none (bytes_eq v x || contains xs v) (q v) pv))
      ]
      | inr e ↦ elim (cases_Bool (q x)) [ inl p ↦ rw (p, e) later | inr p ↦ rw (p, e) later ]
    ]
  where
    none : (a b : Bool) → b ≡ false → (a && b) ≡ false
    none true b h = h
    none false b h = refl

module _ (ss : List Statement) where
  abbrev names : List Name
  names = symbols ss

  -- ---- labels rise

  record RiseBelow (high : ℕ) (js : List ℕ) : Type 0 where
    pub rises : Rises js
    pub below : AllByRecursion (λ j. j < high) js

  weaker : (a b : ℕ) (js : List ℕ) → a ≤ b → AllByRecursion (λ j. j < a) js → AllByRecursion (λ j. j < b) js
  weaker a b [] h k = tt
  weaker a b (j ∷ js) h k = (omega (arith, h, k.0), weaker a b js h k.1)

  below-less : (a : ℕ) (js : List ℕ) → AllByRecursion (λ j. j < a) js → AllByRecursion (λ j. nat_cmp j a ≡ Less) js
  below-less a [] h = tt
  below-less a (j ∷ js) h = let l : ltb j a ≡ true = grind (arith, nat_tests, h.0) in let less : nat_cmp j a ≡ Less = rw l refl in (less, below-less a js h.1)

  push-below : (a b : ℕ) (js : List ℕ) → a < b → AllByRecursion (λ j. j < a) js → AllByRecursion (λ j. j < b) (js ++ a ∷ [])
  push-below a b [] h k = (h, tt)
  push-below a b (j ∷ js) h k = (omega (arith, h, k.0), push-below a b js h k.1)

  module _ (q : Numbered → Bool) (one : (i : Numbered) → IsGood ss i → q i ≡ true → length (labels_in i.statement) ≡ 1) where
    abbrev chosen_labels : List Numbered → List ℕ
    chosen_labels ns = map (λ (i : Numbered). i.label) (filter q (reverse ns))

    labels-rise : (e : List Statement) (p : List ℕ) → AllByRecursion (IsGood ss) (on p e) → RiseBelow (count e) (chosen_labels (on p e))
    labels-rise [] p a = record { rises = sorted_none nat_cmp; below = tt }
    labels-rise (s ∷ e) p a = elim (cases_Bool (ends_with nat_eq p (path e))) [
      | inl d ↦ rw d (grown (rw d at a) (λ x. labels-rise e p x))
      | inr d ↦ rw d (let later = labels-rise e p (rw d at a) in record { rises = later.rises; below = weaker (count e) (count (s ∷ e)) (chosen_labels (on p e)) (omega arith) later.below })
    ]
      where
        grown : AllByRecursion (IsGood ss) (item s e ∷ on p e) → (AllByRecursion (IsGood ss) (on p e) → RiseBelow (count e) (chosen_labels (on p e)))
            → RiseBelow (count e + length (labels_in s)) (chosen_labels (item s e ∷ on p e))
        grown a f =
            let later = f a.1 in
            let js = chosen_labels (on p e) in
            subst (λ (l : List ℕ). RiseBelow (count e + length (labels_in s)) l) (sym (filter-last (λ (i : Numbered). i.label) q (item s e) (on p e)))
            (elim (cases_Bool (q (item s e))) as (λ w. RiseBelow (count e + length (labels_in s)) (plus (q (item s e)) js (count e))) [
              | inl h ↦ let here' = one (item s e) a.0 h in
                  rw h
                  (record {
                    rises = sorted_push nat_cmp js (count e) later.rises (below-less (count e) js later.below);
                    below = push-below (count e) (count e + length (labels_in s)) js (omega (arith, here')) later.below;
                  })
              | inr h ↦ rw h (record { rises = later.rises; below = weaker (count e) (count e + length (labels_in s)) js (omega arith) later.below })
            ])

  -- ---- pairs of `$f`

  record FloatAt (v x : ℕ) (ns : List Numbered) : Type 0 where
    pub i : Numbered
    pub there : In i ns
    pub floating : is_floating (kind_in i.statement) ≡ true
    pub variable : Name
    pub second_is : In variable (second (symbols_in i.statement))
    pub number_is : number names variable ≡ v
    pub label_is : i.label ≡ x

  pair-at : (v x : ℕ) (ns : List Numbered) → In (v, x) (float_pairs names ns) → FloatAt v x ns
  pair-at v x [] i = absurd i
  pair-at v x (n ∷ ns) i = elim (in_append (v, x) (float_pairs names ns) (float_pair names n) i) [
    | inl k ↦ let r = pair-at v x ns k in
        record {
          i = r.i;
          there = inr r.there;
          floating = r.floating;
          variable = r.variable;
          second_is = r.second_is;
          number_is = r.number_is;
          label_is = r.label_is;
        }
    | inr k ↦ last (is_floating (kind_in n.statement)) refl k
  ]
    where
      last : (b : Bool) → is_floating (kind_in n.statement) ≡ b → In (v, x) (float_pair names n) → FloatAt v x (n ∷ ns)
      last true f k =
          let listed : In (v, x) (map (λ u. (number names u, n.label)) (second (symbols_in n.statement))) = rw f at k in
          let r = in_map (λ u. (number names u, n.label)) (v, x) (second (symbols_in n.statement)) listed in
          record { i = n; there = inl refl; floating = f; variable = r.0; second_is = r.1; number_is = ap (λ (p : ℕ × ℕ). p.0) r.2; label_is = ap (λ (p : ℕ × ℕ). p.1) r.2 }
      last false f k = let none : ⊥ = rw f at k in absurd none

  pair-in : (i : Numbered) (u : Name) (ns : List Numbered) → In i ns → is_floating (kind_in i.statement) ≡ true
      → In u (second (symbols_in i.statement)) → In (number names u, i.label) (float_pairs names ns)
  pair-in i u [] h f k = absurd h
  pair-in i u (n ∷ ns) h f k = elim h [
    | inr j ↦ in_left (number names u, i.label) (float_pairs names ns) (float_pair names n) (pair-in i u ns j f k)
    | inl e ↦ subst (λ (m : Numbered). In (number names u, i.label) (float_pairs names ns ++ float_pair names m)) e
        (in_right (number names u, i.label) (float_pairs names ns) (float_pair names i) (mine f))
  ]
    where
      mine : is_floating (kind_in i.statement) ≡ true → In (number names u, i.label) (float_pair names i)
      mine f = rw f (map_in (λ w. (number names w, i.label)) u (second (symbols_in i.statement)) k)

  -- ---- the law

  module _ (l : Listed) (of : AreOf l ss) (e : List Statement) (good : AllByRecursion (IsGood ss) (here e)) (fs : FloatsAre ss (here e))
      (s : Scope) (is_v : s.variables ≡ (state names (here e)).variables) (is_t : s.typed ≡ (state names (here e)).typed)
      (is_f : s.floats ≡ (state names (here e)).floats) (is_e : s.essentials ≡ (state names (here e)).essentials) where
    abbrev ns : List Numbered
    ns = here e

    active-is : active e ≡ statements_of ns
    active-is = sym (on-is (path e) e)

    module _ (st : Statement) where
      abbrev set : List ℕ
      set = mandatory l s (formula_of names st)

      abbrev mand : List Name
      mand = mandatory_variables names e st

      -- the test of a mandatory variable
      abbrev pub passes : Name → Bool
      passes n = contains (variables e) n && list_any (λ f. contains (symbols_in f) n) (st ∷ with_keyword (codes "$e") (active e))

      pub passes-is : (v : Name) → contains names v ≡ true → passes v ≡ has set (number names v)
      passes-is v known =
          let q : List Statement → Name → Bool = λ a n. contains (listed_by symbols_in (codes "$v") a) n && list_any (λ f. contains (symbols_in f) n) (st ∷ with_keyword (codes "$e") a) in
          ap (λ a. q a v) active-is ∙ sym (mandatory-law ss l of ns s st v known good is_v is_e)

      -- a known variable is mandatory by name and by number
      pub mandatory-is : (v : Name) → contains names v ≡ true → contains mand v ≡ has set (number names v)
      mandatory-is v known =
          let q : List Statement → Name → Bool = λ a n. contains (listed_by symbols_in (codes "$v") a) n && list_any (λ f. contains (symbols_in f) n) (st ∷ with_keyword (codes "$e") a) in
          contains-passing (q (active e)) names v ∙ ap (λ b. b && q (active e) v) known ∙ ap (λ a. q a v) active-is ∙ sym (mandatory-law ss l of ns s st v known good is_v is_e)

      abbrev test : Statement → Bool
      test h = has_keyword (codes "$e") h || (has_keyword (codes "$f") h && list_any (contains mand) (second (symbols_in h)))

      one-label : (i : Numbered) → IsGood ss i → test i.statement ≡ true → length (labels_in i.statement) ≡ 1
      one-label i g h = elim (or_cases (has_keyword (codes "$e") i.statement) (has_keyword (codes "$f") i.statement && list_any (contains mand) (second (symbols_in i.statement))) h) [
        | inl k ↦ g.has_label (codes "$e") refl k
        | inr k ↦ g.has_label (codes "$f") refl (and_parts (has_keyword (codes "$f") i.statement) (list_any (contains mand) (second (symbols_in i.statement))) k).0
      ]

      abbrev chosen : List Numbered
      chosen = filter (λ (i : Numbered). test i.statement) (reverse ns)

      abbrev labels : List ℕ
      labels = map (λ (i : Numbered). i.label) chosen

      to-labels : (x : ℕ) → In x (labels_of s set) → In x labels
      to-labels x i = elim (in_gathered s x s.essentials set i) [
        | inl k ↦
            let listed : In x (labels_by ss is_essential ns) = subst (λ (es : List ℕ). In x es) (is_e ∙ essentials-are ss ns) k in
            let r = in_map (λ (j : Numbered). j.label) x (filter (λ (j : Numbered). is_essential (kind_in j.statement)) (reverse ns)) listed in
            let f = in_filter (λ (j : Numbered). is_essential (kind_in j.statement)) r.0 (reverse ns) r.1 in
            let pass =
            or_left (has_keyword (codes "$e") r.0.statement)
            (has_keyword (codes "$f") r.0.statement && list_any (contains mand) (second (symbols_in r.0.statement)))
            (kind-is_essential r.0.statement ∙ f.1) in
            subst (λ (y : ℕ). In y labels) r.2 (map_in (λ (j : Numbered). j.label) r.0 chosen (filter_in (λ (j : Numbered). test j.statement) r.0 (reverse ns) f.0 pass))
        | inr r ↦
            let a = pair-at r.0 x ns (look-in r.0 x (float_pairs names ns) (sym (float-is ss ns s r.0 fs is_t is_f) ∙ r.2)) in
            let f : has_keyword (codes "$f") a.i.statement ≡ true = kind-is_floating a.i.statement ∙ a.floating in
            let g = in_all (IsGood ss) a.i ns good a.there in
            let known = g.float_known a.variable f (in-name a.variable (second (symbols_in a.i.statement)) a.second_is) in
            let is_m : contains mand a.variable ≡ true = mandatory-is a.variable known ∙ ap (has set) a.number_is ∙ in_has r.0 set r.1 in
            let pass =
            or_right (has_keyword (codes "$e") a.i.statement) _
            (and_from (has_keyword (codes "$f") a.i.statement) (list_any (contains mand) (second (symbols_in a.i.statement))) f
            (any_there (contains mand) a.variable (second (symbols_in a.i.statement)) a.second_is is_m)) in
            subst (λ (y : ℕ). In y labels) a.label_is
            (map_in (λ (j : Numbered). j.label) a.i chosen
            (filter_in (λ (j : Numbered). test j.statement) a.i (reverse ns) (reverse_in a.i ns a.there) pass))
      ]

      from-labels : (x : ℕ) → In x labels → In x (labels_of s set)
      from-labels x i =
          let r = in_map (λ (j : Numbered). j.label) x chosen i in
          let f = in_filter (λ (j : Numbered). test j.statement) r.0 (reverse ns) r.1 in
          let there = in_reverse r.0 ns f.0 in
          let st' = r.0.statement in
          elim (or_cases (has_keyword (codes "$e") st') (has_keyword (codes "$f") st' && list_any (contains mand) (second (symbols_in st'))) f.1) [
            | inl k ↦
                let listed : In x (labels_by ss is_essential ns) =
                subst (λ (y : ℕ). In y (labels_by ss is_essential ns)) r.2
                (map_in (λ (j : Numbered). j.label) r.0 (filter (λ (j : Numbered). is_essential (kind_in j.statement)) (reverse ns))
                (filter_in (λ (j : Numbered). is_essential (kind_in j.statement)) r.0 (reverse ns) f.0
                (sym (kind-is_essential st') ∙ k))) in
                base_in s x s.essentials set (subst (λ (es : List ℕ). In x es) (sym (is_e ∙ essentials-are ss ns)) listed)
            | inr k ↦
                let both = and_parts (has_keyword (codes "$f") st') (list_any (contains mand) (second (symbols_in st'))) k in
                let w = any_found (contains mand) (second (symbols_in st')) both.1 in
                let g = in_all (IsGood ss) r.0 ns good there in
                let known = g.float_known w.0 both.0 (in-name w.0 (second (symbols_in st')) w.1) in
                let in_set : In (number names w.0) set = has_in (number names w.0) set (sym (mandatory-is w.0 known) ∙ w.2) in
                let found : float_of s (number names w.0) ≡ Some r.0.label =
                float-is ss ns s (number names w.0) fs is_t is_f
                ∙ fs.unique (number names w.0) r.0.label (pair-in r.0 w.0 ns there (sym (kind-is_floating st') ∙ both.0) w.1) in
                subst (λ (y : ℕ). In y (labels_of s set)) r.2 (float_in s r.0.label (number names w.0) s.essentials set in_set found)
          ]

      good-chosen : AllByRecursion (λ (i : Numbered). hypothesis_at l i.label ≡ hypothesis_of names i.statement) chosen
      good-chosen = each (reverse ns) (λ i k. in_reverse i ns k)
        where
          each : (xs : List Numbered) → ((i : Numbered) → In i xs → In i ns)
              → AllByRecursion (λ (i : Numbered). hypothesis_at l i.label ≡ hypothesis_of names i.statement)
              (filter (λ (i : Numbered). test i.statement) xs)
          each [] f = tt
          each (x ∷ xs) f =
              let later = each xs (λ i k. f i (inr k)) in
              elim (cases_Bool (test x.statement)) [
                | inl h ↦ let g = in_all (IsGood ss) x ns good (f x (inl refl)) in rw h (hypothesis-is ss l of x g.placed (one-label x g h), later)
                | inr h ↦ rw h later
              ]

      same-hypotheses : (xs : List Numbered) → AllByRecursion (λ (i : Numbered). hypothesis_at l i.label ≡ hypothesis_of names i.statement) xs
          → map (hypothesis_at l) (map (λ (i : Numbered). i.label) xs) ≡ map (hypothesis_of names) (statements_of xs)
      same-hypotheses [] h = refl
      same-hypotheses (x ∷ xs) h = ap (λ y. y ∷ map (hypothesis_at l) (map (λ (i : Numbered). i.label) xs)) h.0 ∙ ap (λ ys. hypothesis_of names x.statement ∷ ys) (same-hypotheses xs h.1)

      pub hypotheses-law : (hs : List Hyp) → AreHypotheses l (labels_of s set) hs → hs ≡ map (hypothesis_of names) (mandatory_hypotheses mand e)
      hypotheses-law hs a =
          let o = a.1 in
          let same : a.0 ≡ labels = unique nat_cmp nat_cmp_total a.0 labels o.rises (labels-rise (λ (i : Numbered). test i.statement) one-label e (path e) good).rises
          (λ x i. to-labels x (contains_in x (labels_of s set) (o.adds_none x (in_contains x a.0 i))))
          (λ x i. contains_in x a.0 (o.keeps x (in_contains x (labels_of s set) (from-labels x i)))) in
          let model : mandatory_hypotheses mand e ≡ statements_of chosen =
          ap (λ xs. filter test (reverse xs)) active-is ∙ ap (λ xs. filter test xs) (sym (map-reverse (λ (i : Numbered). i.statement) ns))
          ∙ filter-map (λ (i : Numbered). i.statement) test (reverse ns) in
          a.2 ∙ ap (λ xs. map (hypothesis_at l) xs) same ∙ same-hypotheses chosen good-chosen ∙ ap (λ xs. map (hypothesis_of names) xs) (sym model)
