-- Of two most general valuations the second gives what the first gives, with other numbers of fresh leaves.
use Rattle.std.specs.Prelude.{◌≡◌, ◌<◌, ℕ, true, List, [], ◌∷◌, length, map, drop, slice_get, slice_index_or, Contains, Option, Some, None, refl}
use Rattle.std.specs.List.{AllByRecursion, filter_map, cons_option}
use Rattle.std.specs.Option.{option_map_or}
use Rattle.std.proofs.Common.{sym, ap, subst, ◌∙◌, arith, inl, inr}
use Rattle.std.proofs.lemmas.Bool.{or_left, or_right}
use Rattle.std.proofs.lemmas.Option.{slice_get-get_or}
use Rattle.mm_base.specs.declared.symbols.Sym.{Sym}
use Rattle.mm_base.specs.declared.symbols.Label.{Label}
use Rattle.mm_base.specs.declared.symbols.Typecode.{Typecode}
use Rattle.mm_base.specs.declared.tree.Tree.{Tree}
use Rattle.mm_base.specs.declared.tree.Tree.TheVariants.{Var}
use Rattle.mm_base.specs.Trees.{code_of}
use Rattle.mm_model.specs.Rows.{IsGrammar}
use Rattle.mm_model.specs.Texts.{text}
use Rattle.mm_model.specs.Typed.{IsTyped}
use Rattle.mm_model.specs.Productions.{TypedVariable}
use Rattle.mm_model.specs.Book.{Database, Assertion}
use Rattle.mm_model.proofs.TextLaws.{text-Work, text-Fresh}
use Rattle.mm_model.proofs.TypedLaws.{code-Var, typed-Var}
use Rattle.solve_model.specs.declared.bound.Bound.{Bound}
use Rattle.solve_model.specs.declared.bound.BoundStep.{BoundStep}
use Rattle.solve_model.specs.declared.verdict.Verdict.TheVariants as verdict
use Rattle.solve_model.specs.Trees.{Open, work, fresh, leaf_tree, replace, Occurs}
use Rattle.solve_model.specs.Solutions.{Unknown, named, blank, copy, Valuation, IsUnknown, in_formula, is_blank, in_frame, Asked, formula_value, formula, instance, open_value, no_step, unknown_code}
use Rattle.solve_model.specs.Verdicts.{Judgement, accepted, stands, accepted_in, AreJudged}
use Rattle.solve_model.specs.MostGeneral.{refine, IsTheValuation}
use Rattle.solve_model.proofs.TreeLaws.{replace-Var, open_leaves-Var}
use Rattle.solve_laws.specs.OneValuation.{renumbered, SameUpToFresh}
use Rattle.solve_laws.proofs.NoFresh.{no_fresh_leaf}
use Rattle.solve_laws.proofs.ReplaceLaws.{replace-replace, replace-self}
use Rattle.written_model.specs.Filled.{wanted_by}
use Rattle.written_model.specs.Named.{WorkVariable, work_variable, same_work, is_in, work_leaf, works_in, read_works, Naming}
use Rattle.answer_laws.proofs.Elements.{nothing, parted, later, in_pieces, in_kept, stands_in, all_contained, all_with, all_drop, all_map}
use Rattle.answer_laws.proofs.Marks.{Mark, variable, open_leaf, marks}
use Rattle.answer_laws.proofs.Covered.{of_text, occurs_mark, mark_occurs}
use Rattle.answer_laws.proofs.BareLaws.{Returns}
use Rattle.answer_laws.proofs.NamedAlike.{variable_itself}
use Rattle.answer_laws.proofs.OneNaming.{by_names, works_named}
use Rattle.answer_laws.proofs.FilledAlike.{UseIsMoved, IsMoved}
use Rattle.answer_laws.proofs.Placed.{placed, mark_code, OfLeaves, agree_on, keeps_types, typed_later, comes_of}
use Rattle.answer_laws.proofs.Plain.{IsTreeIn, IsPlain, ArePlain, TreesAreRead, IsAccepted, accepted_at, accepted_stands}

-- ---- lists

map_moved : {X Y : Type 0} (F : Y → Y) (k l : X → Y) (xs : List X) → AllByRecursion (λ x. F (k x) ≡ l x) xs → map F (map k xs) ≡ map l xs
map_moved F k l [] h = refl
map_moved F k l (x ∷ xs) h = ap (λ y. y ∷ map F (map k xs)) h.0 ∙ ap (λ ys. l x ∷ ys) (map_moved F k l xs h.1)

pub contained_is_in : (ws : List WorkVariable) (w : WorkVariable) → Contains ws w → is_in ws w ≡ true
contained_is_in [] w o = absurd (nothing w o)
contained_is_in (v ∷ vs) w o = elim (parted w v vs o) [
  | inl e ↦ or_left (same_work w v) (is_in vs w) (subst (λ u. same_work w u ≡ true) (sym e) (variable_itself w))
  | inr l ↦ or_right (same_work w v) (is_in vs w) (contained_is_in vs w l)
]

-- ---- the work variables that were read

abbrev none : Naming
none c n = None

module _ (db : Database) (bound : Bound) (grammar : IsGrammar db.rows) (read : TreesAreRead db bound) where
  leaf_text : (x : Open) → filter_map work_leaf (text db.rows (leaf_tree x)) ≡ cons_option (by_names none (open_leaf x)) []
  leaf_text (work c n) = ap (filter_map work_leaf) (text-Work db.rows c n)
  leaf_text (fresh c n) = ap (filter_map work_leaf) (text-Fresh db.rows c n)

  works_are : (t : Tree) → works_in db t ≡ filter_map (by_names none) (marks db.rows t)
  works_are t = ap (works_in db) (sym (replace-self t)) ∙ works_named db leaf_tree none leaf_text t

  pub read_stands : (i : ℕ) (s : BoundStep) (t : Tree) (c : Typecode) (n : ℕ) → slice_get bound.steps i ≡ Some s → s.tree ≡ Some t → Occurs (work c n) t
      → is_in (read_works db bound) (work_variable c n) ≡ true
  read_stands i s t c n e g o =
      let mark = of_text (open_leaf (work c n)) db.rows grammar bound.place t (read i s t e g).typed (occurs_mark t (work c n) o) in
      let works : Contains (works_in db t) (work_variable c n) =
      subst (λ ws. Contains ws (work_variable c n)) (sym (works_are t))
      (in_kept (by_names none) (marks db.rows t) (open_leaf (work c n)) (work_variable c n) mark refl) in
      let here : Contains (option_map_or (works_in db) s.tree []) (work_variable c n) = subst (λ x. Contains (option_map_or (works_in db) x []) (work_variable c n)) (sym g) works in
      contained_is_in (read_works db bound) (work_variable c n)
      (in_pieces (λ (b : BoundStep). option_map_or (works_in db) b.tree []) bound.steps s (work_variable c n) (stands_in bound.steps i s e) here)

  abbrev WasRead : Unknown → Type 0
  WasRead (named c n) = is_in (read_works db bound) (work_variable c n) ≡ true
  WasRead (blank i) = Unit {0}
  WasRead (copy i s c) = Unit {0}

  pub unknown_read : (solved : List Asked) (u : Unknown) → IsUnknown bound solved u → WasRead u
  unknown_read solved u (in_formula i s t {c} {n} e g o) = read_stands i s t c n e g o
  unknown_read solved u (is_blank s e g) = tt
  unknown_read solved u (in_frame x v o h) = tt

module _ (db : Database) (bound : Bound) (grammar : IsGrammar db.rows) (plain : ArePlain db) (read : TreesAreRead db bound)
    (judgements : List Judgement) (judged : AreJudged db bound judgements) (g h : Valuation)
    (one : IsTheValuation db bound (accepted_in judgements) g) (same : SameUpToFresh (IsUnknown bound (accepted_in judgements)) g h) where
  abbrev On : Unknown → Type 0
  On = IsUnknown bound (accepted_in judgements)

  abbrev pub forth : Tree → Tree
  forth t = refine (renumbered same.renumber) t

  abbrev pub back : Tree → Tree
  back t = refine (renumbered same.back) t

  -- a typed tree whose fresh leaves come back and whose work variables were read
  pub record IsGood (t : Tree) : Type 0 where
    pub returns : Returns same.renumber same.back t
    pub typed : IsTyped db.rows bound.place t
    pub was_read : (c : Typecode) (n : ℕ) → Occurs (work c n) t → is_in (read_works db bound) (work_variable c n) ≡ true

  -- the second tree is the first with other numbers
  pub record Moves (t u : Tree) : Type 0 where
    pub moved : forth t ≡ u
    pub good : IsGood t

  pub record MovesAs (c : Typecode) (t u : Tree) : Type 0 where
    pub code : code_of t ≡ c
    pub moves : Moves t u

  value_moves : (u : Unknown) → On u → MovesAs (unknown_code db u) (g u) (h u)
  value_moves u on = record {
    code = one.most_general.is_valuation.code u on;
    moves = record {
      moved = sym (same.there u on);
      good = record {
        returns = ap back (sym (same.there u on)) ∙ sym (same.again u on);
        typed = one.most_general.is_valuation.typed u on;
        was_read = λ c n o. unknown_read db bound grammar read (accepted_in judgements) (named c n) (one.canonical u (work c n) on o).named_least.0;
      };
    };
  }

  var_moves : (s : Sym) (c : Typecode) → MovesAs c (Var s c) (Var s c)
  var_moves s c = record {
    code = code-Var s c;
    moves = record {
      moved = replace-Var _ (renumbered same.renumber) s c;
      good = record {
        returns = ap back (replace-Var _ (renumbered same.renumber) s c) ∙ replace-Var _ (renumbered same.back) s c;
        typed = typed-Var db.rows bound.place s c;
        was_read = λ d n o. absurd (nothing (work d n) (rw open_leaves-Var at o));
      };
    };
  }

  -- ---- a tree whose leaves are replaced

  module _ (a b : Sym → Typecode → Tree) (p q : Open → Tree) where
    abbrev MovesAt : Mark → Type 0
    MovesAt m = MovesAs (mark_code m) (placed a p m) (placed b q m)

    at_moved : (r : Tree → Tree) (m : Mark) → placed (λ s c. r (a s c)) (λ x. r (p x)) m ≡ r (placed a p m)
    at_moved r (variable s c) = refl
    at_moved r (open_leaf x) = refl

    replaced_returns : (t : Tree) → OfLeaves MovesAt t → Returns same.renumber same.back (replace a p t)
    replaced_returns t m =
        ap back (replace-replace (λ s c. Var s c) a (renumbered same.renumber) p t)
        ∙ replace-replace (λ s c. Var s c) (λ s c. forth (a s c)) (renumbered same.back) (λ x. forth (p x)) t
        ∙ agree_on (λ s c. back (forth (a s c))) a (λ x. back (forth (p x))) p t (λ k o. at_moved (λ u. back (forth u)) k ∙ (m k o).moves.good.returns)

    replaced_moves : (t : Tree) → IsTyped db.rows bound.place t → OfLeaves MovesAt t → Moves (replace a p t) (replace b q t)
    replaced_moves t typed m = record {
      moved =
          replace-replace (λ s c. Var s c) a (renumbered same.renumber) p t
          ∙ agree_on (λ s c. forth (a s c)) b (λ x. forth (p x)) q t (λ k o. at_moved forth k ∙ (m k o).moves.moved);
      good = record {
        returns = replaced_returns t m;
        typed = (keeps_types db.rows bound.place a p t (λ k o. record { code = (m k o).code; typed = (m k o).moves.good.typed }) typed).typed;
        was_read = λ c n o. let from = comes_of a p (work c n) t o in (m from.mark from.stands).moves.good.was_read c n from.has;
      };
    }

  -- ---- the formula of a step

  formula_leaf : (i : ℕ) (s : BoundStep) (t : Tree) → slice_get bound.steps i ≡ Some s → s.tree ≡ Some t
      → OfLeaves (λ m. MovesAs (mark_code m) (placed (λ v c. Var v c) (open_value g) m) (placed (λ v c. Var v c) (open_value h) m)) t
  formula_leaf i s t e k (variable v c) o = var_moves v c
  formula_leaf i s t e k (open_leaf (work c n)) o = value_moves (named c n) (in_formula i s t e k (mark_occurs t (work c n) o))
  formula_leaf i s t e k (open_leaf (fresh c n)) o = absurd (no_fresh_leaf c n t (read i s t e k).no_fresh (mark_occurs t (fresh c n) o))

  formula_by : (i : ℕ) (s : BoundStep) (o : Option Tree) → slice_get bound.steps i ≡ Some s → s.tree ≡ o → Moves (formula_value g i o) (formula_value h i o)
  formula_by i s None e k = (value_moves (blank i) (is_blank s e k)).moves
  formula_by i s (Some t) e k = replaced_moves (λ v c. Var v c) (λ v c. Var v c) (open_value g) (open_value h) t (read i s t e k).typed (formula_leaf i s t e k)

  formula_moves : (i : ℕ) → i < length bound.steps → Moves (formula bound g i) (formula bound h i)
  formula_moves i l = formula_by i (slice_index_or bound.steps i no_step) (slice_index_or bound.steps i no_step).tree (slice_get-get_or bound.steps i no_step l) refl

  -- ---- the trees of an accepted candidate

  module _ (x : Asked) (is : (i : ℕ) × IsAccepted db bound i x) (stands_in_all : Contains (accepted_in judgements) x) where
    abbrev a : Assertion
    a = x.assertion

    abbrev l : Label
    l = is.1.is_candidate.label

    its : IsPlain db l a
    its = plain l a is.1.is_candidate.usable

    pub on_variable : (v : TypedVariable) → Contains a.vars v → On (copy x.step v.sym v.code)
    on_variable v o = in_frame x v stands_in_all o

    on_leaf : (s : Sym) (c : Typecode) (v : TypedVariable) → Contains a.vars v → v.sym ≡ s → v.code ≡ c → On (copy x.step s c)
    on_leaf s c v o e k = subst (λ d. On (copy x.step s d)) k (subst (λ r. On (copy x.step r v.code)) e (on_variable v o))

    instance_leaf : (t : Tree) → IsTreeIn a t → OfLeaves (λ m. MovesAs (mark_code m) (placed (λ s c. g (copy x.step s c)) leaf_tree m) (placed (λ s c. h (copy x.step s c)) leaf_tree m)) t
    instance_leaf t o (variable s c) m = let v = its.known t s c o m in value_moves (copy x.step s c) (on_leaf s c v.0 v.1 v.2 v.3)
    instance_leaf t o (open_leaf y) m = absurd (its.closed t y o m)

    typed_here : (t : Tree) → IsTreeIn a t → IsTyped db.rows bound.place t
    typed_here t o =
        let at = its.at in
        let before = is.1.is_candidate.before in
        typed_later db.rows a.frame.at bound.place (omega (arith, at, before)) t (its.typed t o)

    instance_moves : (t : Tree) → IsTreeIn a t → Moves (instance g x.step t) (instance h x.step t)
    instance_moves t o = replaced_moves (λ s c. g (copy x.step s c)) (λ s c. h (copy x.step s c)) leaf_tree leaf_tree t (typed_here t o) (instance_leaf t o)

    hyps_move : AllByRecursion (λ t. Moves (instance g x.step t) (instance h x.step t)) (drop (length x.places) a.hyps)
    hyps_move = all_drop _ (length x.places) a.hyps (all_contained _ a.hyps (λ t o. instance_moves t (later t a.tree a.hyps o)))

    values_move : AllByRecursion (λ (v : TypedVariable). Moves (g (copy x.step v.sym v.code)) (h (copy x.step v.sym v.code))) a.vars
    values_move = all_contained _ a.vars (λ v o. (value_moves (copy x.step v.sym v.code) (on_variable v o)).moves)

    abbrev Moved : Judgement → Type 0
    Moved o = (map forth (wanted_by g o) ≡ wanted_by h o) × AllByRecursion IsGood (wanted_by g o) × UseIsMoved forth back IsGood (λ t q. q.returns) bound g h o

    pub accepted_moves : Moved (accepted x)
    accepted_moves = (
      map_moved forth (instance g x.step) (instance h x.step) (drop (length x.places) a.hyps) (all_with _ _ (λ t m. m.moved) (drop (length x.places) a.hyps) hyps_move),
      all_map IsGood (instance g x.step) (drop (length x.places) a.hyps) (all_with _ _ (λ t m. m.good) (drop (length x.places) a.hyps) hyps_move),
      (
        map_moved forth (λ (v : TypedVariable). g (copy x.step v.sym v.code)) (λ (v : TypedVariable). h (copy x.step v.sym v.code)) a.vars (all_with _ _ (λ v m. m.moved) a.vars values_move),
        all_map IsGood (λ (v : TypedVariable). g (copy x.step v.sym v.code)) a.vars (all_with _ _ (λ v m. m.good) a.vars values_move),
      ),
    )

  moved_by : (i : ℕ) (o : Judgement) → i < length bound.steps → slice_get judgements i ≡ Some o → IsMoved forth back IsGood (λ t q. q.returns) bound g h i o
  moved_by i (stands v) l e =
      let f = formula_moves i l in
      record { formula_is = f.moved; formula_good = f.good; wanted = refl; wanted_good = tt; use_is = tt }
  moved_by i (accepted x) l e =
      let f = formula_moves i l in
      let m = accepted_moves x (i, accepted_at db bound judgements judged i x e) (accepted_stands db bound judgements judged i x e) in
      record { formula_is = f.moved; formula_good = f.good; wanted = m.0; wanted_good = m.1; use_is = m.2 }

  -- what the second valuation gives of each step is what the first gives, with other numbers
  pub each_moves : (i : ℕ) → i < length bound.steps → IsMoved forth back IsGood (λ t q. q.returns) bound g h i (slice_index_or judgements i (stands verdict.NoRef))
  each_moves i l =
      let count = judged.count in
      moved_by i (slice_index_or judgements i (stands verdict.NoRef)) l (slice_get-get_or judgements i (stands verdict.NoRef) (omega (arith, l, count)))
