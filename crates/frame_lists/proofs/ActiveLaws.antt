-- What is active at a place is what the definitions say.
use Rattle.std.proofs.Common.{◌≡◌, ℕ, ◌<◌, ◌≤◌, Bool, true, ◌||◌, List, [], ◌∷◌, length, map, drop, reverse, refl, sym, ap, ◌∙◌, subst, inl, inr, codes}
use Rattle.std.specs.List.{filter, AllByRecursion}
use Rattle.std.proofs.lemmas.Bool.{cases_Bool, or_cases}
use Rattle.mm_base.specs.declared.symbols.Sym.{Sym}
use Rattle.mm_base.specs.declared.symbols.Pair.{Pair}
use Rattle.mm_model.specs.Names.{Name, contains}
use Rattle.mm_model.specs.declared.frames.Hyp.{Hyp}
use Rattle.mm_model.specs.declared.frames.Active.{Active}
use Rattle.mm_model.specs.Names as numbers
use Rattle.mm_model.specs.Statements.{Statement, active, variables, labels_in, path, symbols_in}
use Rattle.mm_model.specs.Frames as model
use Rattle.mm_model.specs.Frames.{symbols, symbol_in, below, hypothesis_of, active_variables}
use Rattle.model_laws.specs.StatementLaws.{AreSound}
use Rattle.frame_lists.specs.declared.listed.Listed.{Listed}
use Rattle.frame_lists.specs.declared.scope.Scope.{Scope}
use Rattle.frame_lists.specs.Lists.{AreOf}
use Rattle.frame_lists.specs.Entries.{kind_in}
use Rattle.frame_lists.specs.Orders.{ArePairs, AreVariables}
use Rattle.frame_lists.specs.Steps.{has, is_floating, hypothesis_at, scope_upto}
use Rattle.frame_lists.proofs.Keywords.{is_essential, kind-is_floating, kind-is_essential, kind-is_hypothesis}
use Rattle.frame_lists.proofs.Members.{In, in_all, in_reverse}
use Rattle.frame_lists.proofs.Numbered.{Numbered, here, on-is}
use Rattle.frame_lists.proofs.Placed.{below-whole}
use Rattle.frame_lists.proofs.ByNumber.{number, names-fresh, ordered-is}
use Rattle.frame_lists.proofs.Added.{filter-map, map-reverse}
use Rattle.frame_lists.proofs.Passing.{ScopeIs}
use Rattle.frame_lists.proofs.StateLaws.{IsGood, all-good, statements_of, listed_by, variables-law, hyps-are}
use Rattle.frame_lists.proofs.MandatoryLaws.{hypothesis-is}
use Rattle.frame_lists.proofs.PairLaws.{pairs-law}
use Rattle.frame_lists.proofs.UptoLaws.{upto, sound-below}
use Rattle.frame_lists.proofs.FrameLaws.{Shows, shows, kept-within}

module _ (ss : List Statement) (l : Listed) (of : AreOf l ss) (sound : AreSound (reverse ss)) (k : ℕ) (h : k ≤ length ss) (s : Scope) (is : s ≡ scope_upto l k) where
  abbrev names : List Name
  names = symbols ss

  abbrev e : List Statement
  e = below ss k

  abbrev ns : List Numbered
  ns = here e

  abbrev q : Name → Bool
  q n = contains (variables e) n

  sh : Shows ss l of sound e s
  sh = shows ss l of sound e s (subst (λ (t : Scope). ScopeIs names e t) (sym is) (upto ss l of sound k h).scope)

  good : AllByRecursion (IsGood ss) ns
  good = all-good ss e (drop k ss) (below-whole ss k) (sound-below ss k sound) (path e)

  law : (n : Name) → contains names n ≡ true → q n ≡ has s.variables (number names n)
  law n known = ap (λ a. contains (listed_by symbols_in (codes "$v") a) n) (sym (on-is (path e) e)) ∙ sym (ap (λ v. has v (number names n)) sh.variables_are ∙ variables-law ss ns n known)

  within : (j : ℕ) → has s.variables j ≡ true → j < length names
  within j i = kept-within ss l of sound e (drop k ss) s (below-whole ss k) sh j i

  same-symbols : (xs : List Name) → map numbers.sym (map (number names) xs) ≡ map (symbol_in names) xs
  same-symbols [] = refl
  same-symbols (x ∷ xs) = ap (λ r. symbol_in names x ∷ r) (same-symbols xs)

  variables-are : (vs : List Sym) → AreVariables s.variables vs → vs ≡ map (symbol_in names) (active_variables names e)
  variables-are vs a = a.2 ∙ ap (λ js. map numbers.sym js) (ordered-is names q s.variables a.0 (names-fresh [] _) a.1 within law) ∙ same-symbols (filter q names)

  -- ---- hypotheses

  abbrev is_hyp : Numbered → Bool
  is_hyp i = is_floating (kind_in i.statement) || is_essential (kind_in i.statement)

  one-label : (i : Numbered) → IsGood ss i → is_hyp i ≡ true → length (labels_in i.statement) ≡ 1
  one-label i g t = elim (or_cases (is_floating (kind_in i.statement)) (is_essential (kind_in i.statement)) t) [
    | inl f ↦ g.has_label (codes "$f") refl (kind-is_floating i.statement ∙ f)
    | inr f ↦ g.has_label (codes "$e") refl (kind-is_essential i.statement ∙ f)
  ]

  hyps-by : (xs : List Numbered) → ((i : Numbered) → In i xs → In i ns)
      → map (hypothesis_at l) (map (λ (i : Numbered). i.label) (filter is_hyp xs))
      ≡ map (hypothesis_of names) (statements_of (filter (λ (i : Numbered). model.is_hypothesis i.statement) xs))
  hyps-by [] f = refl
  hyps-by (x ∷ xs) f =
      let later = hyps-by xs (λ i m. f i (inr m)) in
      let same = kind-is_hypothesis x.statement in
      elim (cases_Bool (is_hyp x)) [
        | inl t ↦
            let g = in_all (IsGood ss) x ns good (f x (inl refl)) in
            let one = hypothesis-is ss l of x g.placed (one-label x g t) in
            rw (same ∙ t, t) (ap (λ y. y ∷ map (hypothesis_at l) (map (λ (i : Numbered). i.label) (filter is_hyp xs))) one ∙ ap (λ ys. hypothesis_of names x.statement ∷ ys) later)
        | inr t ↦ rw (same ∙ t, t) later
      ]

  hyps-law : map (hypothesis_at l) s.hyps ≡ map (hypothesis_of names) (filter model.is_hypothesis (reverse (active e)))
  hyps-law =
      let label : Numbered → ℕ = λ i. i.label in
      let statement : Numbered → Statement = λ i. i.statement in
      ap (λ xs. map (hypothesis_at l) xs) (sh.hyps_are ∙ hyps-are ss ns) ∙ hyps-by (reverse ns) (λ i m. in_reverse i ns m)
      ∙ ap (λ xs. map (hypothesis_of names) xs)
      (sym (filter-map statement model.is_hypothesis (reverse ns)) ∙ ap (λ xs. filter model.is_hypothesis xs) (map-reverse statement ns)
      ∙ ap (λ xs. filter model.is_hypothesis (reverse xs)) (on-is (path e) e))

  abbrev pub made : List Sym → List Hyp → List Pair → Active
  made vs hs ps = record { variables = vs; hyps = hs; pairs = ps }

  pub active-is : (vs : List Sym) (hs : List Hyp) (ps : List Pair) → AreVariables s.variables vs → hs ≡ map (hypothesis_at l) s.hyps
      → ArePairs l s.distinct s.variables ps → made vs hs ps ≡ model.active_at ss k
  active-is vs hs ps a b c =
      let make : List Sym → List Hyp → List Pair → Active = λ x y z. record { variables = x; hyps = y; pairs = z } in
      ap (λ x. make x hs ps) (variables-are vs a)
      ∙ ap (λ y. make (map (symbol_in names) (active_variables names e)) y ps) (b ∙ hyps-law)
      ∙ ap
      (λ z. make (map (symbol_in names) (active_variables names e))
      (map (hypothesis_of names) (filter model.is_hypothesis (reverse (active e)))) z)
      (pairs-law ss l of e good s sh.distinct_are q s.variables within law ps c)
