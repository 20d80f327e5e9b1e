-- What is taken in of one step, and of the items one by one.
use Rattle.std.specs.Prelude.{◌≡◌, ◌<◌, ◌≤◌, ◌+◌, ℕ, ◌⊎◌, ◌&&◌, ◌==◌, nat_lt, not, Bool, true, false, List, [], ◌∷◌, ◌++◌, length, take, drop, Option}
use Rattle.std.specs.Prelude.{Some, None, option_map, refl}
use Rattle.std.proofs.Common.{arith, lit≤, sym, subst, ◌∙◌, inl, inr, get_or}
use Rattle.std.proofs.lemmas.Bool.{cases_Bool}
use Rattle.std.proofs.lemmas.Bool.Decides.{nat_tests}
use Rattle.std.proofs.lemmas.List.{take_more}
use Rattle.mm_base.specs.declared.tree.Tree.{Tree}
use Rattle.mm_model.specs.Faults.{Fault, fault, comes_first, earlier}
use Rattle.mm_model.specs.declared.rows.Leaf.{Leaf}
use Rattle.mm_model.specs.declared.rows.Production.{Production}
use Rattle.mm_model.specs.Typed.{Parses}
use Rattle.mm_database.specs.Opened.{Opened}
use Rattle.sheet_bind.specs.declared.setting.Setting.{Setting}
use Rattle.sheet_text.specs.declared.sheet.SheetStep.{SheetStep}
use Rattle.sheet_text.specs.declared.sheet.SheetItem.{SheetItem}
use Rattle.solve_model.specs.BindFaults.{is_blank, formula_long}
use Rattle.formula_parse.specs.Answers.{IsOnly}
use Rattle.sheet_bind.specs.declared.hyps.HypSteps.{HypSteps}
use Rattle.sheet_bind.specs.declared.steps.Trees.{Trees}
use Rattle.sheet_bind.specs.declared.steps.Trees.TheVariants as answer
use Rattle.sheet_bind.specs.Judging.{IsFirstWith, AreTrees, with_trees, tree_in, TreeFault, Scene, scene, IsTreeIn, asks_in, StepStands, HasTreeIn}
use Rattle.sheet_bind.specs.Judging.{IsTreeOr, IsTreeJudged, IsStepJudged, is_worth, State, IsAdded, Runs}
use Rattle.sheet_bind.specs.Rules.{step_tests, asks, not_provable}
use Rattle.sheet_bind.specs.Seen.{are_known, expression_at}
use Rattle.sheet_bind.specs.Tests.{first_true, HoldsIn}
use Rattle.sheet_bind.proofs.FirstLaws.{none_more, one_more, later_more, both_more, same_more, taken, is_from}

-- ---- the trees of one formula

module _ (P : Tree → Type 0) (line : ℕ) (a : Option Fault) where
  pub one_tree : (t : Tree) → IsOnly P t → IsTreeJudged P line a a (Some t)
  one_tree t is = record {
    first = none_more a (λ l c. (l ≡ line) × TreeFault P c) (λ l c s. elim s.1 [
      | inl h ↦ h.1 t is.holds
      | inr h ↦ h.1.differ (is.only h.1.one h.1.one_is ∙ sym (is.only h.1.other h.1.other_is))
    ]);
    tree_is = λ e. is;
  }

  not_none : (f : Fault) → earlier a (Some f) ≡ None → ⊥
  not_none f = by a
    where
      by : (a : Option Fault) → earlier a (Some f) ≡ None → ⊥
      by None e = cc
      by (Some g) e = elim (cases_Bool (comes_first g f)) [
        | inl h ↦ let some : Some g ≡ None = rw h at e in cc
        | inr h ↦ let some : Some f ≡ None = rw h at e in cc
      ]

  pub no_tree : ((t : Tree) → P t → ⊥) → IsTreeJudged P line a (earlier a (Some (fault line 67))) None
  no_tree none = record {
    first = one_more a (λ l c. (l ≡ line) × TreeFault P c) (fault line 67) (refl, inl (refl, none)) (λ l c s. elim s.1 [
      | inl h ↦ is_from line 67 l c s.0 (omega (arith, h.0))
      | inr h ↦ absurd (none h.1.one h.1.one_is)
    ]);
    tree_is = λ e. absurd (not_none (fault line 67) e);
  }

  pub two_trees : (t u : Tree) → P t → P u → (t ≡ u → ⊥) → IsTreeJudged P line a (earlier a (Some (fault line 68))) None
  two_trees t u p q differ = record {
    first = one_more a (λ l c. (l ≡ line) × TreeFault P c) (fault line 68) (refl, inr (refl, record { one = t; other = u; one_is = p; other_is = q; differ = differ })) (λ l c s. elim s.1 [
      | inl h ↦ absurd (h.1 t p)
      | inr h ↦ is_from line 68 l c s.0 (omega (arith, h.0))
    ]);
    tree_is = λ e. absurd (not_none (fault line 68) e);
  }

  pub are_judged : (trees : Trees) → AreTrees P trees → IsTreeJudged P line a (with_trees line a trees) (tree_in trees)
  are_judged answer.NoTree h = no_tree h
  are_judged (answer.One t) h = one_tree t h
  are_judged answer.TwoTrees h = two_trees h.one h.other h.one_is h.other_is h.differ

pub judged_by : (P : Tree → Type 0) (line : ℕ) (a after : Option Fault) (tree : Option Tree) (trees : Trees) → AreTrees P trees → after ≡ with_trees line a trees → tree ≡ tree_in trees
    → IsTreeJudged P line a after tree
judged_by P line a after tree trees h e f =
    subst (λ (b : Option Fault). IsTreeJudged P line a b tree) (sym e) (subst (λ (u : Option Tree). IsTreeJudged P line a (with_trees line a trees) u) (sym f) (are_judged P line a trees h))

pub trees_at : (d : Opened) (x : Setting) (t : SheetStep) (rows : List Production) (leaves : List Leaf) (trees : Trees) → rows ≡ d.rows → leaves ≡ expression_at d.contents x (drop 1 t.formula)
    → AreTrees (Parses rows x.place leaves x.logic) trees → AreTrees (IsTreeIn (scene d [] [] x) t) trees
trees_at d x t rows leaves trees e f h =
    subst (λ (ls : List Leaf). AreTrees (Parses d.rows x.place ls x.logic) trees) f (subst (λ (rs : List Production). AreTrees (Parses rs x.place leaves x.logic) trees) e h)

-- ---- one step

module _ (g : Scene) (hyps : HypSteps) (t : SheetStep) (a b : Option Fault) where
  abbrev Words : ℕ → ℕ → Type 0
  Words l c = (l ≡ t.line) × HoldsIn (step_tests g.opened.contents g.provable g.theorem g.setting hyps t) c

  abbrev OfTrees : ℕ → ℕ → Type 0
  OfTrees l c = (l ≡ t.line) × TreeFault (IsTreeIn g t) c

  abbrev pub IsWords : Type 0
  IsWords = b ≡ earlier a (option_map (fault t.line) (first_true (step_tests g.opened.contents g.provable g.theorem g.setting hyps t)))

  -- the codes of the words' rules rise
  words : IsWords → IsFirstWith a Words b
  words e = subst (IsFirstWith a Words) (sym e) (taken t.line a 0 (step_tests g.opened.contents g.provable g.theorem g.setting hyps t)
      (lit≤ tt, (lit≤ tt, (lit≤ tt, (lit≤ tt, (lit≤ tt, (lit≤ tt, (lit≤ tt, (lit≤ tt, tt)))))))))

  pub asks_none : IsWords → asks g.provable (are_known g.opened.contents g.setting t.formula) t ≡ false → IsStepJudged g hyps t a b None
  asks_none e not_asked = record {
    first = same_more Words (StepStands g hyps t) a b (λ l c s. (s.0, inl s.1)) (λ l c s. elim s.1 [ inl h ↦ (s.0, h) | inr h ↦ absurd (clash h.0 not_asked) ]) (words e);
    tree_is = λ n asked. clash asked not_asked;
  }
    where
      clash : {x : Bool} → x ≡ true → x ≡ false → ⊥
      clash y n = let bad : true ≡ false = sym y ∙ n in cc

  taken_trees : (after : Option Fault) → asks_in g t → IsFirstWith a Words b → IsFirstWith b OfTrees after → IsFirstWith a (StepStands g hyps t) after
  taken_trees after asked x y = same_more (λ l c. Words l c ⊎ OfTrees l c) (StepStands g hyps t) a after
      (λ l c s. elim s [ inl h ↦ (h.0, inl h.1) | inr h ↦ (h.0, inr (asked, h.1)) ])
      (λ l c s. elim s.1 [ inl h ↦ inl (s.0, h) | inr h ↦ inr (s.0, h.1) ])
      (both_more Words OfTrees a b after x y)

  pub asks_tree : (after : Option Fault) (tree : Option Tree) → IsWords → asks_in g t → IsTreeJudged (IsTreeIn g t) t.line b after tree → IsStepJudged g hyps t a after tree
  asks_tree after tree e asked x = record { first = taken_trees after asked (words e) x.first; tree_is = λ n. is_there tree (x.tree_is n) }
    where
      is_there : (tree : Option Tree) → IsTreeOr (IsTreeIn g t) tree → HasTreeIn g t tree
      is_there None h = absurd h
      is_there (Some u) h = (asked, h)

  pub not_worth : IsWords → asks_in g t → is_worth b t.line ≡ false → IsStepJudged g hyps t a b None
  not_worth e asked worse_off = record { first = taken_trees b asked (words e) (later b worse_off); tree_is = λ n. absurd (never b n worse_off) }
    where
      never : (b : Option Fault) → b ≡ None → is_worth b t.line ≡ false → ⊥
      never None n w = cc
      never (Some f) n w = cc

      worse : (f : Fault) (l c : ℕ) → not (comes_first f (fault t.line 67)) ≡ false → l ≡ t.line → 67 ≤ c → comes_first f (fault l c) ≡ true
      worse f l c w e d = by f.place f.code t.line w e
        where
          by : (p k line : ℕ) → not (comes_first (fault p k) (fault line 67)) ≡ false → l ≡ line → comes_first (fault p k) (fault l c) ≡ true
          by p k line w e = grind (arith, nat_tests, w, e, d)

      later : (b : Option Fault) → is_worth b t.line ≡ false → IsFirstWith b (λ l c. (l ≡ t.line) × TreeFault (IsTreeIn g t) c) b
      later None w = absurd (cc)
      later (Some f) w = later_more f (λ l c. (l ≡ t.line) × TreeFault (IsTreeIn g t) c) (λ l c s. elim s.1 [
        | inl h ↦ worse f l c w s.0 (omega (arith, h.0))
        | inr h ↦ worse f l c w s.0 (omega (arith, h.0))
      ])

-- a formula whose trees are asked for is not blank, and not too long
and_parts : (a b c d : Bool) → (a && b && c && d) ≡ true → (a ≡ true) × (d ≡ true)
and_parts true true true d h = (refl, h)
and_parts true true false d h = absurd (cc)
and_parts true false c d h = absurd (cc)
and_parts false b c d h = absurd (cc)

long_enough : (n : ℕ) → not (n == 0) ≡ true → 1 ≤ n
long_enough n h = grind (arith, nat_tests, h)

short_enough : (n : ℕ) → not (nat_lt 4096 n) ≡ true → n ≤ 4096
short_enough n h = grind (arith, nat_tests, h)

pub asks_some : (provable : List ℕ) (known : Bool) (t : SheetStep) → asks provable known t ≡ true → 1 ≤ length t.formula
asks_some provable known t h = long_enough (length t.formula) (and_parts (not (is_blank t)) (not (not_provable provable t)) known (not (formula_long t)) h).0

pub asks_short : (provable : List ℕ) (known : Bool) (t : SheetStep) → asks provable known t ≡ true → length t.formula ≤ 4096
asks_short provable known t h = short_enough (length t.formula) (and_parts (not (is_blank t)) (not (not_provable provable t)) known (not (formula_long t)) h).1

-- ---- the items

module _ (g : Scene) where
  run_on : (a b c : State) (xs : List SheetItem) (x : SheetItem) → Runs g a xs b → IsAdded g x b c → Runs g a (xs ++ x ∷ []) c
  run_on a b c [] x r s = (c, subst (λ m. IsAdded g x m c) r s, refl)
  run_on a b c (y ∷ ys) x r s = (r.0, r.1, run_on r.0 b c ys x r.2 s)

  pub runs_more : (a b c : State) (xs : List SheetItem) (i : ℕ) (d : SheetItem) → i < length xs → Runs g a (take i xs) b → IsAdded g (get_or xs i d) b c → Runs g a (take (i + 1) xs) c
  runs_more a b c xs i d l r s = subst (λ ys. Runs g a ys c) (sym (take_more xs i d l)) (run_on a b c (take i xs) (get_or xs i d) r s)
