-- What is used of an assertion of the database, and of an accepted candidate.
use Rattle.std.specs.Prelude.{◌≡◌, ◌<◌, ℕ, Bool, true, false, List, [], ◌∷◌, length, take, nat_lt, if◌then◌else◌, slice_get, slice_index_or, Contains, Option, Some, None, refl}
use Rattle.std.proofs.Common.{sym, ap, subst, ◌∙◌, arith, inl, inr, ltb-true}
use Rattle.std.proofs.lemmas.Option.{slice_get-get_or, slice_get_within}
use Rattle.mm_base.specs.declared.symbols.Sym.{Sym}
use Rattle.mm_base.specs.declared.symbols.Label.{Label}
use Rattle.mm_base.specs.declared.symbols.Typecode.{Typecode}
use Rattle.mm_base.specs.declared.tree.Tree.{Tree}
use Rattle.mm_model.specs.declared.frames.Frame.{Frame}
use Rattle.mm_model.specs.Names.{Name}
use Rattle.mm_model.specs.Productions.{TypedVariable}
use Rattle.mm_model.specs.Typed.{IsTyped, HasNoFresh}
use Rattle.mm_model.specs.BookFacts.{VariablesDiffer}
use Rattle.mm_model.specs.Book.{Database, Assertion, label_of, position_of}
use Rattle.solve_model.specs.declared.bound.Bound.{Bound}
use Rattle.solve_model.specs.declared.bound.BoundStep.{BoundStep}
use Rattle.solve_model.specs.declared.verdict.Verdict.{Verdict}
use Rattle.solve_model.specs.declared.verdict.Verdict.TheVariants as verdict
use Rattle.solve_model.specs.Trees.{Open, variables}
use Rattle.solve_model.specs.Firsts.{IsFirstIn}
use Rattle.solve_model.specs.Bound.{Standing, settled, candidate, standing, standing_of_reference, standing_of_label, standing_of_frame, standing_usable, has_places_for}
use Rattle.solve_model.specs.Solutions.{Asked, no_step, orders_of}
use Rattle.solve_model.specs.Verdicts.{Judgement, accepted, asked, asked_of, accepted_in, FitsIn, IsJudgement, AreJudged}
use Rattle.answer_laws.proofs.Elements.{first, later, in_kept, stands_in}
use Rattle.answer_laws.proofs.Marks.{variable, open_leaf, leaves}

-- a tree of the assertion
abbrev pub IsTreeIn : Assertion → Tree → Type 0
IsTreeIn a t = Contains (a.tree ∷ a.hyps) t

-- an assertion of the database: its trees have no open leaf, each of their variables is one of its own, and each of its own stands in a tree
pub record IsPlain (db : Database) (l : Label) (a : Assertion) : Type 0 where
  pub at : a.frame.at ≡ position_of db l
  pub typed : (t : Tree) → IsTreeIn a t → IsTyped db.rows a.frame.at t
  pub closed : (t : Tree) (x : Open) → IsTreeIn a t → Contains (leaves t) (open_leaf x) → ⊥
  pub known : (t : Tree) (s : Sym) (c : Typecode) → IsTreeIn a t → Contains (leaves t) (variable s c) → (v : TypedVariable) × Contains a.vars v × (v.sym ≡ s) × (v.code ≡ c)
  pub differ : VariablesDiffer a.vars
  pub stand : (v : TypedVariable) → Contains a.vars v → (t : Tree) × IsTreeIn a t × Contains (variables t) v.sym

abbrev pub ArePlain : Database → Type 0
ArePlain db = (l : Label) (a : Assertion) → db.usable l ≡ Some a → IsPlain db l a

-- the trees of a worksheet's formulas: typed, without a fresh leaf
pub record IsReadTree (db : Database) (place : ℕ) (t : Tree) : Type 0 where
  pub typed : IsTyped db.rows place t
  pub no_fresh : HasNoFresh t

abbrev pub TreesAreRead : Database → Bound → Type 0
TreesAreRead db bound = (i : ℕ) (s : BoundStep) (t : Tree) → slice_get bound.steps i ≡ Some s → s.tree ≡ Some t → IsReadTree db bound.place t

-- ---- a candidate is an assertion before the place

pub record IsCandidate (db : Database) (place : ℕ) (s : BoundStep) (a : Assertion) : Type 0 where
  pub label : Label
  pub usable : db.usable label ≡ Some a
  pub before : position_of db label < place
  pub has_places : has_places_for s a ≡ true

module _ (db : Database) (place : ℕ) (s : BoundStep) (a : Assertion) where
  candidate_same : (b : Assertion) → candidate b ≡ candidate a → b ≡ a
  candidate_same b e = cc

  no_candidate : (v : Verdict) → settled v ≡ candidate a → ⊥
  no_candidate v e = cc

  with_places : (l : Label) (b : Assertion) (c : Bool) → db.usable l ≡ Some b → position_of db l < place → has_places_for s b ≡ c
      → (if c then candidate b else settled verdict.TooManyHyps) ≡ candidate a → IsCandidate db place s a
  with_places l b true u p h e =
      let same = candidate_same b e in
      record { label = l; usable = u ∙ ap Some same; before = p; has_places = ap (has_places_for s) (sym same) ∙ h }
  with_places l b false u p h e = absurd (no_candidate verdict.TooManyHyps e)

  of_usable : (l : Label) (o : Option Assertion) → db.usable l ≡ o → position_of db l < place → standing_usable s o ≡ candidate a → IsCandidate db place s a
  of_usable l None u p e = absurd (no_candidate verdict.NotUsable e)
  of_usable l (Some b) u p e = with_places l b (has_places_for s b) u p refl e

  of_place : (l : Label) (c : Bool) → nat_lt (position_of db l) place ≡ c → (if c then standing_usable s (db.usable l) else settled verdict.NotUsable) ≡ candidate a → IsCandidate db place s a
  of_place l true h e = of_usable l (db.usable l) refl (ltb-true (position_of db l) place h) e
  of_place l false h e = absurd (no_candidate verdict.NotUsable e)

  of_frame : (l : Label) (o : Option Frame) → standing_of_frame db place s l o ≡ candidate a → IsCandidate db place s a
  of_frame l None e = absurd (no_candidate verdict.UnknownRef e)
  of_frame l (Some f) e = of_place l (nat_lt (position_of db l) place) refl e

  of_label : (o : Option Label) → standing_of_label db place s o ≡ candidate a → IsCandidate db place s a
  of_label None e = absurd (no_candidate verdict.UnknownRef e)
  of_label (Some l) e = of_frame l (db.frame l) e

  of_reference : (o : Option Name) → standing_of_reference db place s o ≡ candidate a → IsCandidate db place s a
  of_reference None e = absurd (no_candidate verdict.NoRef e)
  of_reference (Some r) e = of_label (label_of db r) e

  of_hyp : (h : Bool) → (if h then settled verdict.Hyp else standing_of_reference db place s s.reference) ≡ candidate a → IsCandidate db place s a
  of_hyp true e = absurd (no_candidate verdict.Hyp e)
  of_hyp false e = of_reference s.reference e

  pub is_candidate : standing db place s ≡ candidate a → IsCandidate db place s a
  is_candidate e = of_hyp s.hyp e

-- ---- what is accepted

pub record IsAccepted (db : Database) (bound : Bound) (i : ℕ) (x : Asked) : Type 0 where
  pub read : BoundStep
  pub stands : slice_get bound.steps i ≡ Some read
  pub at : x.step ≡ i
  pub is_candidate : IsCandidate db bound.place read x.assertion
  pub in_order : Contains (orders_of read x.assertion) x.places

pub first_stands : {X : Type 0} (P : X → Type 0) (xs : List X) (x : X) → IsFirstIn P xs x → Contains xs x
first_stands P [] x h = absurd (cc)
first_stands P (y ∷ ys) x (inl h) = let same : x ≡ y = cc in first x y ys (sym same)
first_stands P (y ∷ ys) x (inr h) = later x y ys (first_stands P ys x h.1)

module _ (db : Database) (bound : Bound) (before : List Asked) (i : ℕ) (s : BoundStep) where
  pub record IsOf (st : Standing) (x : Asked) : Type 0 where
    pub candidate_is : st ≡ candidate x.assertion
    pub step_is : x.step ≡ i
    pub order : Contains (orders_of s x.assertion) x.places

  accepted_same : (x y : Asked) → accepted x ≡ accepted y → x ≡ y
  accepted_same x y e = cc

  of_judgement : (st : Standing) (o : Judgement) (x : Asked) → IsJudgement db bound before i s st o → o ≡ accepted x → IsOf st x
  of_judgement (settled v) o x IsJudgement.other e = absurd (cc)
  of_judgement (candidate a) o x (IsJudgement.fits {places = ps} f) e =
      let same = accepted_same (asked i a ps) x e in
      subst (λ (y : Asked). IsOf (candidate a) y) same (record { candidate_is = refl; step_is = refl; order = first_stands (FitsIn db bound before i a) (orders_of s a) ps f })
  of_judgement (candidate a) o x (IsJudgement.no_fit f) e = absurd (cc)

module _ (db : Database) (bound : Bound) (judgements : List Judgement) (judged : AreJudged db bound judgements) where
  pub accepted_at : (i : ℕ) (x : Asked) → slice_get judgements i ≡ Some (accepted x) → IsAccepted db bound i x
  accepted_at i x e =
      let count = judged.count in
      let less = slice_get_within judgements i (accepted x) e in
      let within : i < length bound.steps = omega (arith, less, count) in
      let read = slice_index_or bound.steps i no_step in
      let there = slice_get-get_or bound.steps i no_step within in
      let j = judged.each i read (accepted x) there e in
      let of = of_judgement db bound (accepted_in (take i judgements)) i read (standing db bound.place read) (accepted x) x j refl in
      record { read = read; stands = there; at = of.step_is; is_candidate = is_candidate db bound.place read x.assertion of.candidate_is; in_order = of.order }

  pub accepted_stands : (i : ℕ) (x : Asked) → slice_get judgements i ≡ Some (accepted x) → Contains (accepted_in judgements) x
  accepted_stands i x e = in_kept asked_of judgements (accepted x) x (stands_in judgements i (accepted x) e) refl
