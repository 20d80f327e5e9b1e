-- The next step, judged.
use Rattle.std.specs.Prelude.{◌≡◌, ℕ, ◌<◌, List, [], ◌∷◌, ◌++◌, length, take, slice_get, Option, Some, None, IsSome}
use Rattle.std.proofs.Common.{sym, ap, subst, ◌∙◌}
use Rattle.std.proofs.lemmas.List.{append-nil}
use Rattle.std.proofs.lemmas.Option.{slice_get-get_or}
use Rattle.std.proofs.Math.Seq.{take-append_seam}
use Rattle.mm_base.specs.declared.kinds.Kinds.{Kinds}
use Rattle.mm_base.specs.declared.symbols.Label.{Label}
use Rattle.mm_model.specs.Book.{Database, Assertion}
use Rattle.mm_model.specs.BookFacts.{IsDatabase}
use Rattle.model_laws.specs.DatabaseLaws.{HasDatabaseFacts}
use Rattle.mm_database.specs.Books.{database_of}
use Rattle.mm_database.specs.Opened.{Opened, IsOpened}
use Rattle.sheet_text.specs.declared.sheet.Given.{Given}
use Rattle.solve_model.specs.declared.bound.BoundStep.{BoundStep}
use Rattle.solve_model.specs.declared.bound.Bound.{Bound}
use Rattle.solve_model.specs.declared.verdict.Verdict.{Verdict}
use Rattle.solve_model.specs.declared.verdict.Verdict.TheVariants as verdict
use Rattle.solve_model.specs.Bound.{standing, settled}
use Rattle.solve_model.specs.Solutions.{Asked, no_step}
use Rattle.solve_model.specs.Verdicts.{stands, accepted_in, IsJudgement, other}
use Rattle.written_model.specs.Existence.{IsCandidate}
use Rattle.term_arena.specs.declared.arena.Mark.{Mark}
use Rattle.term_model.specs.declared.shape.Id.{Id}
use Rattle.term_model.specs.Terms.{Term}
use Rattle.term_model.specs.Links.{Link, AreBelow}
use Rattle.term_model.specs.Store.{Store, IsStore, IsSolved, cut_to}
use Rattle.term_model.proofs.LinkLaws.{are_below}
use Rattle.chain_laws.specs.declared.leaves.WorkNode.{WorkNode}
use Rattle.chain_laws.specs.Laws.{CandidatesAreReady}
use Rattle.chain_laws.specs.Layout.{IsReadyAsked}
use Rattle.again_laws.specs.Whole.{IsWhole, AssertionsAreWhole}
use Rattle.step_chain.specs.declared.standing.Standing.TheVariants.{Settled, Candidate}
use Rattle.step_chain.specs.declared.judged.Accepted.{Accepted}
use Rattle.step_chain.specs.declared.judged.Judged.TheVariants.{Stands, Fits}
use Rattle.step_chain.specs.declared.judged.Pushed.{Pushed}
use Rattle.step_chain.specs.Standings.{usable_in, standing_in, IsStandingOf, IsCandidateOf}
use Rattle.step_chain.specs.Ordered.{formula_at}
use Rattle.step_chain.specs.Tried.{IsExtended}
use Rattle.step_chain.specs.Steps.{ArePlaced, step_at, judgements_from}
use Rattle.step_chain.specs.Levels.{ForEachBook, IsLevel, IsKeptIn}
use Rattle.step_chain.proofs.UsedLaws.{used_here}
use Rattle.step_chain.specs.Accepted.{IsKeptInIf, IsTakenAs, IsNext, IsSameStore}
use Rattle.step_chain.proofs.StandingOf.{book_of, standing_same}
use Rattle.step_chain.proofs.LevelLaws.{level_stands}
use Rattle.step_chain.proofs.CandidateLaws.{level_none, level_accepted}

-- ---- back to a mark

pub kept_below : (old new : Store) (m : Mark) → m.nodes ≡ length old.nodes → m.trail ≡ length old.links → IsStore old.nodes old.links → IsExtended old new → AreBelow m.nodes (take m.trail new.links)
kept_below old new m n t store e =
    let front : take m.trail new.links ≡ old.links = ap (λ (k : ℕ). take k new.links) t ∙ ap (take (length old.links)) e.links ∙ take-append_seam old.links e.more_links in
    subst (λ (k : ℕ). AreBelow k (take m.trail new.links)) (sym n) (subst (AreBelow (length old.nodes)) (sym front) (are_below (length old.nodes) old.links store.in_order))

pub cut_back : (old new : Store) (m : Mark) → m.nodes ≡ length old.nodes → m.trail ≡ length old.links → IsExtended old new → IsSameStore old (cut_to new m.nodes m.trail)
cut_back old new m n t e = record {
  nodes = ap (λ (k : ℕ). take k new.nodes) n ∙ ap (take (length old.nodes)) e.nodes ∙ take-append_seam old.nodes e.more;
  links = ap (λ (k : ℕ). take k new.links) t ∙ ap (take (length old.links)) e.links ∙ take-append_seam old.links e.more_links;
}

pub kept_some : (n : ℕ) (o : Option Accepted) (x : Accepted) → o ≡ Some x → IsKeptInIf n o → IsKeptIn n (Fits x)
kept_some n o x e h = subst (IsKeptInIf n) e h

-- ---- a step that stands

module _ (d : Opened) (bound : Bound) (formulas : List Id) (i : ℕ) (old after : Store) (store : IsStore old.nodes old.links)
    (solved : IsSolved old.nodes old.links) (same : IsSameStore old after) where
  level_after : (db : Database) (works : List WorkNode) (steps : List Pushed) → IsLevel db d bound works formulas steps old.nodes old.links
      → IsLevel db d bound works formulas steps after.nodes after.links
  level_after db works steps h =
      subst (λ (ls : List Link). IsLevel db d bound works formulas steps after.nodes ls) (sym same.links)
      (subst (λ (ns : List Term). IsLevel db d bound works formulas steps ns old.links) (sym same.nodes) h)

  next_stands : (v : Verdict)
      → ForEachBook d bound
      (λ db. (works : List WorkNode) (steps : List Pushed) (p : Pushed) → p.judged ≡ Stands v → length steps ≡ i
      → IsLevel db d bound works formulas steps old.nodes old.links → IsLevel db d bound works formulas (steps ++ p ∷ []) old.nodes old.links)
      → IsNext d bound formulas i old after (Stands v)
  next_stands v more = record {
    extended = record { more = []; nodes = same.nodes ∙ sym (append-nil old.nodes); more_links = []; links = same.links ∙ sym (append-nil old.links) };
    store = subst (λ (ls : List Link). IsStore after.nodes ls) (sym same.links) (subst (λ (ns : List Term). IsStore ns old.links) (sym same.nodes) store);
    solved = subst (λ (ls : List Link). IsSolved after.nodes ls) (sym same.links) (subst (λ (ns : List Term). IsSolved ns old.links) (sym same.nodes) solved);
    kept_in = tt;
    used = tt;
    level =
        λ kinds text sheet opened binds works steps p e count level. level_after (database_of kinds text d.rows d.parsed) works (steps ++ p ∷ [])
        (more kinds text sheet opened binds works steps p e count level);
  }

  -- whose verdict needs no solution
  pub next_settled : (v : Verdict) → standing_in d bound.place (step_at bound i) ≡ Settled v → i < length bound.steps → IsNext d bound formulas i old after (Stands v)
  next_settled v is below =
      next_stands v (λ kinds text sheet opened binds works steps p e count level.
      let db = database_of kinds text d.rows d.parsed in
      let told : standing db bound.place (step_at bound i) ≡ settled v =
      subst (IsStandingOf db d bound.place (step_at bound i)) is
      (standing_same db d bound.place (step_at bound i) (book_of kinds text d opened)) in
      level_stands db d bound works formulas steps p old.nodes old.links level v e
      (λ s at.
      let own : s ≡ step_at bound i = let both : Some s ≡ Some (step_at bound i) = sym at ∙ ap (slice_get bound.steps) count ∙ slice_get-get_or bound.steps i no_step below in cc in
      subst (λ x. IsJudgement db bound (accepted_in (judgements_from d bound 0 steps)) (length steps) s x (stands v)) (sym (ap (standing db bound.place) own ∙ told)) other))

-- ---- a candidate

module _ (ready : CandidatesAreReady) (facts : HasDatabaseFacts) (whole : AssertionsAreWhole) (d : Opened) (bound : Bound) (placed : ArePlaced bound)
    (formulas : List Id) (i : ℕ) (below : i < length bound.steps) (l : Label)
    (is : standing_in d bound.place (step_at bound i) ≡ Candidate l) (old new : Store) where
  abbrev s : BoundStep
  s = step_at bound i

  module _ (kinds : Kinds) (text : List ℕ) (opened : IsOpened kinds text d) where
    abbrev db : Database
    db = database_of kinds text d.rows d.parsed

    db_facts : IsDatabase db
    db_facts = facts kinds text db opened.database opened.no_fault

    ready_of : (x : Asked) → IsCandidate db bound x → IsReadyAsked db bound x
    ready_of x h = ready kinds db bound x (record { text = text; sound = opened.no_fault; is_database = opened.database }) h

    whole_of : (a : Assertion) → db.usable a.label ≡ Some a → IsWhole a
    whole_of a u = whole kinds db a.label a (record { text = text; sound = opened.no_fault; is_database = opened.database }) u

    candidate : IsCandidateOf db d bound.place s l
    candidate = subst (IsStandingOf db d bound.place s) is (standing_same db d bound.place s (book_of kinds text d opened))

    module _ (works : List WorkNode) (steps : List Pushed) (p : Pushed) (count : length steps ≡ i) (level : IsLevel db d bound works formulas steps old.nodes old.links) where
      at : slice_get bound.steps (length steps) ≡ Some s
      at = ap (slice_get bound.steps) count ∙ slice_get-get_or bound.steps i no_step below

      own_taken : (r : Option Accepted) (a : Assertion) → IsTakenAs d formulas (formula_at formulas i) s.places l a old new r
          → IsTakenAs d formulas (formula_at formulas (length steps)) s.places l a old new r
      own_taken r a h = subst (λ (k : ℕ). IsTakenAs d formulas (formula_at formulas k) s.places l a old new r) (sym count) h

      none_here : p.judged ≡ Stands verdict.NoFit → IsTakenAs d formulas (formula_at formulas i) s.places l candidate.assertion old new None
          → IsLevel db d bound works formulas (steps ++ p ∷ []) old.nodes old.links
      none_here e h =
          level_none db d (book_of kinds text d opened) db_facts whole_of bound placed ready_of works formulas steps p old new level s at l candidate
          (own_taken None candidate.assertion h) e

      some_here : (x : Accepted) → p.judged ≡ Fits x → IsTakenAs d formulas (formula_at formulas i) s.places l candidate.assertion old new (Some x)
          → IsExtended old new → IsLevel db d bound works formulas (steps ++ p ∷ []) new.nodes new.links
      some_here x e h longer =
          level_accepted db d
          (book_of kinds text d opened) db_facts whole_of bound placed ready_of works formulas steps p old new level s at l candidate x
          (own_taken (Some x) candidate.assertion h) e longer.more longer.nodes

  -- the formula and the places as they were passed
  pub taken_same : (formula : Id) (places : List Given) → formula ≡ formula_at formulas i → places ≡ s.places → (r o : Option Accepted) → o ≡ r
      → ((a : Assertion) → usable_in d l ≡ Some a → IsTakenAs d formulas formula places l a old new o)
      → (a : Assertion) → usable_in d l ≡ Some a → IsTakenAs d formulas (formula_at formulas i) s.places l a old new r
  taken_same formula places f g r o e h a u =
      subst (λ (q : Option Accepted). IsTakenAs d formulas (formula_at formulas i) s.places l a old new q) e
      (subst (λ (ps : List Given). IsTakenAs d formulas (formula_at formulas i) ps l a old new o) g (subst (λ (id : Id). IsTakenAs d formulas id places l a old new o) f (h a u)))

  pub next_none : (after : Store) → IsStore old.nodes old.links → IsSolved old.nodes old.links → IsSameStore old after
      → ((a : Assertion) → usable_in d l ≡ Some a → IsTakenAs d formulas (formula_at formulas i) s.places l a old new None)
      → IsNext d bound formulas i old after (Stands verdict.NoFit)
  next_none after store solved same h =
      next_stands d bound formulas i old after store solved same verdict.NoFit (λ kinds text sheet opened binds works steps p e count level.
      none_here kinds text opened works steps p count level e (h (candidate kinds text opened).assertion (candidate kinds text opened).usable))

  pub next_some : (x : Accepted) → IsSome (usable_in d l) → IsExtended old new → IsStore new.nodes new.links → IsSolved new.nodes new.links
      → IsKeptIn (length new.nodes) (Fits x)
      → ((a : Assertion) → usable_in d l ≡ Some a → IsTakenAs d formulas (formula_at formulas i) s.places l a old new (Some x))
      → IsNext d bound formulas i old new (Fits x)
  next_some x some longer store solved kept h = record {
    extended = longer;
    store = store;
    solved = solved;
    kept_in = kept;
    used = used_here d formulas (formula_at formulas i) s.places l old new x some h;
    level =
        λ kinds text sheet opened binds works steps p e count level. some_here kinds text opened works steps p count level x e
        (h (candidate kinds text opened).assertion (candidate kinds text opened).usable) longer;
  }
