-- Whether the assertion of a label serves.
use Rattle.std.proofs.Common.{◌≡◌, ℕ, ◌+◌, ◌<◌, ◌≤◌, ◌==◌, List, length, map, get_or, Option, Some, None, option_map, sym, ap, subst, ◌∙◌, inl, inr, arith}
use Rattle.std.proofs.Common.{Result, Ok, Err, IfOk}
use Rattle.std.proofs.lemmas.Bool.{cases_Bool}
use Rattle.std.proofs.lemmas.List.{length-map}
use Rattle.std.specs.List.{flat_map, range_with_len}
use Rattle.std.specs.Option.{option_copied}
use Rattle.std.specs.Borrow.{Bor}
use Rattle.mm_base.specs.declared.errors.Memory.{Memory}
use Rattle.mm_base.specs.declared.kinds.Kinds.{Kinds}
use Rattle.mm_base.specs.declared.symbols.Sym.{Sym}
use Rattle.mm_base.specs.declared.symbols.Label.{Label}
use Rattle.mm_base.specs.declared.symbols.Pair.{Pair}
use Rattle.mm_base.specs.declared.tree.Tree.{Tree}
use Rattle.mm_model.specs.declared.frames.Frame.{Frame}
use Rattle.mm_model.specs.Statements.{statements}
use Rattle.mm_model.specs.Frames.{frame_of}
use Rattle.mm_model.specs.Book.{Assertion}
use Rattle.mm_frames.specs.Contents.{contents_of, frame_at}
use Rattle.model_laws.specs.DatabaseLaws.{FramesAreWhole}
use Rattle.solve_model.specs.Firsts.{IsFirstOrNone}
use Rattle.written_model.specs.WrittenSteps.{no_tree, value_of}
use Rattle.mm_database.specs.declared.assertions.Parsed.{Parsed}
use Rattle.mm_database.specs.Books.{parsed_at, assertion_of, usable_with}
use Rattle.mm_database.specs.Opened.{Opened, IsOpened}
use Rattle.auto_model.specs.AutoFilled.{tuples, step_tuples}
use Rattle.ref_search.specs.declared.wanted.Wanted.{Wanted}
use Rattle.ref_search.specs.Matching.{valued_by}
use Rattle.ref_search.specs.Completing.{use_of, IsRule}
use Rattle.ref_search.specs.Placing.{trees_at, FitsWanted, CanFit}
use Rattle.ref_search.specs.Searching.{book, FitsAs, FitsLabel, IsSoundUse, ForEachText}
use Rattle.ref_search.proofs.Lists.{same_number, numbers_differ}
use Rattle.ref_search.proofs.PlaceLaws.{all_none, cons_tail}
use Rattle.ref_search.proofs.FitLaws.{first_same}
use Rattle.ref_search.proofs.LabelLaws.{some_is_some, none_is_none, none_where, usable_some, rule_of}
use Rattle.ref_search.proofs.ChoiceLaws.{none_range, some_range}
use Rattle.auto_fill.specs.declared.walking.Fit.{Fit}
use Rattle.auto_fill.specs.Walking.{HasFit, HasAll, IsFitOf}
use Rattle.auto_fill.specs.Labelling.{IsCount, IsLabelFit}
use Rattle.auto_fill.proofs.TupleLaws.{tuples_count}

-- ---- tuples of one number

-- where nothing of the others has the property
pub first_in_range : {X : Type 0} (P : X → Type 0) (F : ℕ → List X) (a m n : ℕ) (o : Option X) → a ≤ n → n < a + m → ((j : ℕ) → (j ≡ n → ⊥) → IsFirstOrNone P (F j) None) → IsFirstOrNone P (F n) o
    → IsFirstOrNone P (flat_map F (range_with_len a m)) o
first_in_range P F a m n None l u none h =
    none_range P F a m (λ k x y. elim (cases_Bool (k == n)) [
      | inl is ↦ subst (λ j. IsFirstOrNone P (F j) None) (sym (same_number k n is)) h
      | inr not ↦ none k (numbers_differ k n not)
    ])
first_in_range P F a m n (Some x) l u none h = some_range P F a m n x l u (λ j y z. none j (λ e. omega (arith, e, z))) h

as_many : (a : Assertion) (given : Option (List Pair)) (w : Wanted) (order : List ℕ) (values : List Tree) → FitsWanted a given w order values → length a.hyps ≡ length order
as_many a given w order values h =
    let f = valued_by (value_of (use_of a values)) in
    sym (length-map a.hyps f) ∙ ap length (cons_tail (f a.tree) w.formula (map f a.hyps) (trees_at w.hyps order) h.hyps_are) ∙ length-map order (λ k. get_or w.hyps k no_tree)

-- ---- the assertion of a label, from what is kept of it

module _ (kinds : Kinds) (text : List ℕ) (d : Opened) (opened : IsOpened kinds text d) (given : Option (List Pair)) (w : Wanted) (places : List ℕ) (l : Label) where
  no_frame : frame_of (statements text) l ≡ None → IsLabelFit (book kinds text d) given w places l None
  no_frame e = record {
    first = all_none (FitsLabel (book kinds text d) given w l)
        (λ order c. none_is_none (usable_with d.parsed l (frame_of (statements text) l)) c.0 (ap (usable_with d.parsed l) e) c.2.usable) (step_tuples places);
    values = tt;
  }

  module _ (f : Frame) (p : Parsed) (frame : frame_of (statements text) l ≡ Some f) (kept : parsed_at d.parsed l ≡ Some p) where
    the_usable : usable_with d.parsed l (frame_of (statements text) l) ≡ Some (assertion_of l f p)
    the_usable = ap (usable_with d.parsed l) frame ∙ usable_some d.parsed l f p kept

    the_fit : (order : List ℕ) (c : FitsLabel (book kinds text d) given w l order) → FitsWanted (assertion_of l f p) given w order c.1
    the_fit order c =
        subst (λ a. FitsWanted a given w order c.1) (some_is_some (usable_with d.parsed l (frame_of (statements text) l)) c.0 (assertion_of l f p) c.2.usable the_usable) c.2.fits

    other_count : (j : ℕ) → (j ≡ length p.hyps → ⊥) → IsFirstOrNone (FitsLabel (book kinds text d) given w l) (tuples j places) None
    other_count j n =
        none_where (FitsLabel (book kinds text d) given w l) (λ order. length order ≡ j)
        (λ order e c. n (sym (as_many (assertion_of l f p) given w order c.1 (the_fit order c) ∙ e))) (tuples j places) (tuples_count j places)

    label_fit : IsCount (length p.hyps) → (o : Option Fit) → IsFitOf (assertion_of l f p) given w places o → IsLabelFit (book kinds text d) given w places l o
    label_fit count o h = record {
      first = first_in_range (FitsLabel (book kinds text d) given w l) (λ n. tuples n places) 1 3 (length p.hyps) (option_map (λ (fit : Fit). fit.places) o)
          count.least (omega (arith, count.most)) other_count
          (first_same (CanFit (assertion_of l f p) given w) (FitsLabel (book kinds text d) given w l)
          (λ order c. (assertion_of l f p, c.0, record { usable = the_usable; fits = c.1 })) (λ order c. (c.1, the_fit order c))
          (tuples (length p.hyps) places) (option_map (λ (fit : Fit). fit.places) o) h.first);
      values = by o h.values;
    }
      where
        by : (o : Option Fit) → HasFit (λ fit. FitsWanted (assertion_of l f p) given w fit.places fit.trees) o
            → HasFit (λ fit. (a : Assertion) × FitsAs (book kinds text d) given w l fit.places a fit.trees) o
        by None h = tt
        by (Some fit) h = (assertion_of l f p, record { usable = the_usable; fits = h })

-- ---- what the calls say, put together

pub frame_none : (kinds : Kinds) (text : List ℕ) (d : Opened) → IsOpened kinds text d → (given : Option (List Pair)) (w : Wanted) (places : List ℕ) (l : Label) (f : Option (Bor Frame)) → f ≡ None
    → ((text : List ℕ) → d.contents ≡ contents_of text → option_copied f ≡ frame_of (statements text) l) → IsLabelFit (book kinds text d) given w places l None
frame_none kinds text d opened given w places l f none in_text = no_frame kinds text d opened given w places l (sym (in_text text opened.contents) ∙ ap option_copied none)

pub frame_some : FramesAreWhole → (d : Opened) (given : Option (List Pair)) (w : Wanted) (places : List ℕ) (l : Label) (n : ℕ) → IsCount n → (p : Parsed) → parsed_at d.parsed l ≡ Some p → length p.hyps ≡ n
    → (f : Option (Bor Frame)) (g : Bor Frame) → f ≡ Some g
    → ((text : List ℕ) → d.contents ≡ contents_of text → option_copied f ≡ frame_of (statements text) l)
    → (vars : List Sym) (tree : Tree) (hyps : List Tree) → vars ≡ p.vars → tree ≡ p.tree → hyps ≡ p.hyps
    → (r : Result (Option Fit) Memory) → IfOk r (λ o. (a : Assertion) → IsRule a g.now vars → a.tree ≡ tree → a.hyps ≡ hyps → IsFitOf a given w places o)
    → IfOk r (λ o. ForEachText d (λ b. IsLabelFit b given w places l o))
frame_some whole d given w places l n count p kept many f g some in_text vars tree hyps v t h (Err m) k = k
frame_some whole d given w places l n count p kept many f g some in_text vars tree hyps v t h (Ok o) k = λ kinds text opened.
    let frame : frame_of (statements text) l ≡ Some g.now = sym (in_text text opened.contents) ∙ ap option_copied some in
    label_fit kinds text d opened given w places l g.now p frame kept (subst IsCount (sym many) count) o
    (k (assertion_of l g.now p) (rule_of kinds text d opened given w l g.now p frame kept whole vars v) (sym t) (sym h))

pub label_sound : (d : Opened) (l : Label) (f : Frame) (p : Parsed) (o : Option Fit) → frame_at d.contents l ≡ Some f → parsed_at d.parsed l ≡ Some p → HasAll f o
    → HasFit (λ (fit : Fit). IsSoundUse d l fit.trees) o
label_sound d l f p None e k h = tt
label_sound d l f p (Some fit) e k h = record {
  assertion = assertion_of l f p;
  is_usable = ap (usable_with d.parsed l) e ∙ usable_some d.parsed l f p k;
  count = h;
}
