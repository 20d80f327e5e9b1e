-- A search where only given pairs are allowed: `|- ( ph -> A. x ph )` is found as ax-5 where ph and x are given as distinct, and else not.
use Rattle.std.specs.Prelude.{◌≡◌, ℕ, not, false, List, [], ◌∷◌, ◌++◌, map, filter, find, flat_map, unwrap_or, Option, Some, None, codes, refl}
use Rattle.std.specs.List.{AllZip}
use Rattle.std.proofs.Common.{inl, inr, lit<, ap, sym, subst, arith, ◌∙◌}
use Rattle.mm_base.specs.declared.symbols.Label.{Label}
use Rattle.mm_base.specs.declared.symbols.Pair.{Pair}
use Rattle.mm_base.specs.declared.symbols.Sym.{Sym}
use Rattle.proof_model.specs.Machine.{is_shared}
use Rattle.solve_model.specs.PairSets.{ordered, is_pair_in, pair_set}
use Rattle.solve_model.specs.Trees.{variables}
use Rattle.mm_base.specs.declared.tree.Tree.{Tree}
use Rattle.mm_base.specs.Trees.{code_of}
use Rattle.mm_base.proofs.TreeFacts.{same_node}
use Rattle.mm_model.specs.Names.{label, sym as symbol}
use Rattle.mm_model.specs.Book.{Assertion}
use Rattle.mm_model.proofs.TypedLaws.{code-Var}
use Rattle.sheet_text.specs.declared.sheet.Given.{Given}
use Rattle.solve_model.specs.Example.{Q, wff, setvar, ph, ps, x, A, wi, wal, wceq, ax_2, ax_5, ph_x}
use Rattle.solve_model.proofs.TreeLaws.{leaves, replaces}
use Rattle.written_model.specs.declared.options.DvMode.TheVariants as dv
use Rattle.written_model.specs.declared.report.ReportVerdict.TheVariants as report
use Rattle.written_model.specs.WrittenSteps.{Use, WrittenStep, place_tree, value_of}
use Rattle.written_model.specs.Pairs.{lack_of, crossings}
use Rattle.written_model.specs.Found.{Choice, Fits, FitsUse, IsFound, IsSearched, valued}
use Rattle.written_model.specs.WrittenExample.{written}

abbrev wanted : WrittenStep
wanted = written false (codes "qed") [] None (wi ph (wal ph x)) report.NoRef None

abbrev steps : List WrittenStep
steps = wanted ∷ []

abbrev choice : ℕ → Choice
choice n = record { label = label n; places = [] }

abbrev usable : ℕ → Assertion
usable n = unwrap_or (Q.usable (label n)) ax_5

-- ---- other conclusions

other_inner : (a b c : Tree) → wi a (wi b c) ≡ wi ph (wal ph x) → ⊥
other_inner a b c e =
    let lists : a ∷ wi b c ∷ [] ≡ ph ∷ wal ph x ∷ [] = (same_node _ _ _ _ _ _ e).children in
    let inner : wi b c ≡ wal ph x = cc in
    let numbers : 4 ≡ 17 = ap (λ (l : Label). l.0) (same_node _ _ _ _ _ _ inner).label in
    omega (arith, numbers)

other_outer : (a b : Tree) → wceq a b ≡ wi ph (wal ph x) → ⊥
other_outer a b e = let numbers : 16 ≡ 4 = ap (λ (l : Label). l.0) (same_node _ _ _ _ _ _ e).label in omega (arith, numbers)

abbrev value : Use → ℕ → Tree
value u n = value_of u (symbol n)

of_ax_1 : (u : Use) → valued u (wi ph (wi ps ph)) ≡ wi (value u 6) (wi (value u 7) (value u 6))
of_ax_1 u = simp replaces refl

of_ax_2 : (u : Use) → valued u ax_2.tree ≡ wi (wi (value u 6) (wi (value u 7) (value u 8))) (wi (wi (value u 6) (value u 7)) (wi (value u 6) (value u 8)))
of_ax_2 u = simp replaces refl

of_eqid : (u : Use) → valued u (wceq A A) ≡ wceq (value u 18) (value u 18)
of_eqid u = simp replaces refl

of_ax_5 : (u : Use) → valued u ax_5.tree ≡ wi (value u 6) (wal (value u 6) (value u 16))
of_ax_5 u = simp replaces refl

some_is : (a b : Assertion) → Some a ≡ Some b → a ≡ b
some_is a b e = cc

-- ---- the labels that do not fit

module _ (allowed : List Pair) where
  abbrev Fit : ℕ → Type 0
  Fit n = Fits Q 46 dv.Given allowed steps wanted (choice n)

  unusable : (n : ℕ) → Q.usable (label n) ≡ None → Fit n → ⊥
  unusable n e f = let no : None ≡ Some (f.0).assertion = sym e ∙ f.1.is_usable in cc

  has_hyps : (n : ℕ) → Q.usable (label n) ≡ Some (usable n) → (f : Fit n) → AllZip (λ (h : Tree) (g : Given). place_tree steps g ≡ Some (valued f.0 h)) (usable n).hyps []
  has_hyps n e f = subst (λ (a : Assertion). AllZip (λ (h : Tree) (g : Given). place_tree steps g ≡ Some (valued f.0 h)) a.hyps []) (sym (some_is _ _ (sym e ∙ f.1.is_usable))) f.1.hyps

  concludes : (n : ℕ) (t : Tree) → Q.usable (label n) ≡ Some (usable n) → (usable n).tree ≡ t → (f : Fit n) → valued f.0 t ≡ wi ph (wal ph x)
  concludes n t e is f =
      subst (λ k. valued f.0 k ≡ wi ph (wal ph x)) (sym (ap (λ (a : Assertion). a.tree) (some_is _ _ (sym e ∙ f.1.is_usable))) ∙ is) f.1.conclusion

  not_ax_1 : (n : ℕ) → Q.usable (label n) ≡ Some (usable n) → (usable n).tree ≡ wi ph (wi ps ph) → Fit n → ⊥
  not_ax_1 n e is f = other_inner _ _ _ (sym (of_ax_1 f.0) ∙ concludes n _ e is f)

  not_ax_2 : Fit 9 → ⊥
  not_ax_2 f = other_inner _ _ _ (sym (of_ax_2 f.0) ∙ concludes 9 ax_2.tree refl refl f)

  not_eqid : Fit 23 → ⊥
  not_eqid f = other_outer _ _ (sym (of_eqid f.0) ∙ concludes 23 (wceq A A) refl refl f)

-- ---- where the pair is given

abbrev by_ax_5 : Use
by_ax_5 = record { assertion = ax_5; values = ph ∷ x ∷ [] }

two_codes : code_of ph ∷ code_of x ∷ [] ≡ wff ∷ setvar ∷ []
two_codes = let one = code-Var (symbol 6) wff in let other = code-Var (symbol 16) setvar in cc

fits : FitsUse Q 46 dv.Given (ph_x ∷ []) steps wanted (choice 22) by_ax_5
fits = record { is_usable = refl; earlier = lit< tt; codes = two_codes; conclusion = simp replaces refl; hyps = tt; no_clash = simp leaves refl; no_lack = simp leaves refl }

pub found_as_ax_5 : IsFound Q 46 dv.Given (ph_x ∷ []) steps wanted (Some (choice 22))
found_as_ax_5 =
    inr (
      unusable (ph_x ∷ []) 0 refl,
      inr (
        unusable (ph_x ∷ []) 1 refl,
        inr (
          unusable (ph_x ∷ []) 2 refl,
          inr (
            unusable (ph_x ∷ []) 3 refl,
            inr (
              unusable (ph_x ∷ []) 4 refl,
              inr (
                unusable (ph_x ∷ []) 5 refl,
                inr (
                  unusable (ph_x ∷ []) 6 refl,
                  inr (
                    has_hyps (ph_x ∷ []) 7 refl,
                    inr (
                      not_ax_1 (ph_x ∷ []) 8 refl refl,
                      inr (
                        not_ax_2 (ph_x ∷ []),
                        inr (
                          unusable (ph_x ∷ []) 10 refl,
                          inr (
                            unusable (ph_x ∷ []) 11 refl,
                            inr (
                              unusable (ph_x ∷ []) 12 refl,
                              inr (
                                unusable (ph_x ∷ []) 13 refl,
                                inr (
                                  unusable (ph_x ∷ []) 14 refl,
                                  inr (
                                    unusable (ph_x ∷ []) 15 refl,
                                    inr (
                                      unusable (ph_x ∷ []) 16 refl,
                                      inr (
                                        unusable (ph_x ∷ []) 17 refl,
                                        inr (
                                          unusable (ph_x ∷ []) 18 refl,
                                          inr (
                                            has_hyps (ph_x ∷ []) 19 refl,
                                            inr (
                                              unusable (ph_x ∷ []) 20 refl,
                                              inr (
                                                has_hyps (ph_x ∷ []) 21 refl,
                                                inl (refl, (by_ax_5, fits)),
                                              ),
                                            ),
                                          ),
                                        ),
                                      ),
                                    ),
                                  ),
                                ),
                              ),
                            ),
                          ),
                        ),
                      ),
                    ),
                  ),
                ),
              ),
            ),
          ),
        ),
      ),
    )

pub is_found : IsSearched Q 46 dv.Given (ph_x ∷ []) steps wanted (record wanted { reference = Some (codes "ax-5"); verdict = report.Found; by = Some by_ax_5 })
is_found = IsSearched.found (simp leaves refl) found_as_ax_5 fits

-- ---- where it is not

first_variable : (a b : Tree) → wi a (wal a b) ≡ wi ph (wal ph x) → a ≡ ph
first_variable a b e = let lists : a ∷ wal a b ∷ [] ≡ ph ∷ wal ph x ∷ [] = (same_node _ _ _ _ _ _ e).children in cc

second_variable : (a b : Tree) → wi a (wal a b) ≡ wi ph (wal ph x) → b ≡ x
second_variable a b e =
    let lists : a ∷ wal a b ∷ [] ≡ ph ∷ wal ph x ∷ [] = (same_node _ _ _ _ _ _ e).children in
    let inner : wal a b ≡ wal ph x = cc in
    let others : a ∷ b ∷ [] ≡ ph ∷ x ∷ [] = (same_node _ _ _ _ _ _ inner).children in
    cc

-- the first pair that is lacking of a use whose frame has these pairs, and of two values
abbrev lack_over : Use → List Pair → Option Pair
lack_over u pairs = find (λ p. not (is_pair_in [] p)) (pair_set (map (λ (q : Sym × Sym). ordered q.0 q.1) (filter (λ q. not (is_shared q)) (flat_map (crossings u) pairs))))

abbrev lack_between : Tree → Tree → Option Pair
lack_between a b =
    find (λ p. not (is_pair_in [] p)) (pair_set (map (λ (q : Sym × Sym). ordered q.0 q.1) (filter (λ q. not (is_shared q)) (flat_map (λ v. map (λ w. (v, w)) (variables b)) (variables a) ++ []))))

of_values : (u : Use) → lack_over u (ph_x ∷ []) ≡ lack_between (value u 6) (value u 16)
of_values u = refl

of_ph_and_x : lack_between ph x ≡ Some ph_x
of_ph_and_x = simp leaves refl

lacks : Fit [] 22 → ⊥
lacks f =
    let whole = sym (of_ax_5 f.0) ∙ concludes [] 22 ax_5.tree refl refl f in
    let one : value_of f.0 (symbol 6) ≡ ph = first_variable _ _ whole in
    let other : value_of f.0 (symbol 16) ≡ x = second_variable _ _ whole in
    let is : ax_5 ≡ (f.0).assertion = some_is _ _ f.1.is_usable in
    let pairs : (f.0).assertion.frame.pairs ≡ ph_x ∷ [] = ap (λ (a : Assertion). a.frame.pairs) (sym is) in
    let lack : lack_of dv.Given [] f.0 ≡ Some ph_x =
    ap (lack_over f.0) pairs ∙ of_values f.0 ∙ ap (λ t. lack_between t (value f.0 16)) one ∙ ap (lack_between ph) other ∙ of_ph_and_x in
    let no : None ≡ Some ph_x = sym f.1.no_lack ∙ lack in
    cc

pub none_found : IsFound Q 46 dv.Given [] steps wanted None
none_found =
    inr (
      unusable ([]) 0 refl,
      inr (
        unusable ([]) 1 refl,
        inr (
          unusable ([]) 2 refl,
          inr (
            unusable ([]) 3 refl,
            inr (
              unusable ([]) 4 refl,
              inr (
                unusable ([]) 5 refl,
                inr (
                  unusable ([]) 6 refl,
                  inr (
                    has_hyps ([]) 7 refl,
                    inr (
                      not_ax_1 ([]) 8 refl refl,
                      inr (
                        not_ax_2 ([]),
                        inr (
                          unusable ([]) 10 refl,
                          inr (
                            unusable ([]) 11 refl,
                            inr (
                              unusable ([]) 12 refl,
                              inr (
                                unusable ([]) 13 refl,
                                inr (
                                  unusable ([]) 14 refl,
                                  inr (
                                    unusable ([]) 15 refl,
                                    inr (
                                      unusable ([]) 16 refl,
                                      inr (
                                        unusable ([]) 17 refl,
                                        inr (
                                          unusable ([]) 18 refl,
                                          inr (
                                            has_hyps ([]) 19 refl,
                                            inr (
                                              unusable ([]) 20 refl,
                                              inr (
                                                has_hyps ([]) 21 refl,
                                                inr (
                                                  lacks,
                                                  inr (
                                                    not_eqid ([]),
                                                    inr (
                                                      unusable ([]) 24 refl,
                                                      inr (
                                                        has_hyps ([]) 25 refl,
                                                        inr (
                                                          unusable ([]) 26 refl,
                                                          inr (
                                                            has_hyps ([]) 27 refl,
                                                            inr (
                                                              not_ax_1 ([]) 28 refl refl,
                                                              refl,
                                                            ),
                                                          ),
                                                        ),
                                                      ),
                                                    ),
                                                  ),
                                                ),
                                              ),
                                            ),
                                          ),
                                        ),
                                      ),
                                    ),
                                  ),
                                ),
                              ),
                            ),
                          ),
                        ),
                      ),
                    ),
                  ),
                ),
              ),
            ),
          ),
        ),
      ),
    )
