-- The calls of a chain, over what it holds.
use Rattle.std.specs.Prelude.{◌≡◌, ℕ, ◌<◌, ◌≤◌, ◌+◌, List, [], ◌∷◌, ◌++◌, length, take, slice_get, Option, Some, None, refl}
use Rattle.std.specs.Option.{option_map_or}
use Rattle.std.proofs.Common.{zero, suc, get_or, sym, ap, subst, ◌∙◌, arith}
use Rattle.std.proofs.lemmas.Option.{slice_get-get_or}
use Rattle.std.proofs.Math.Seq.{take-append_seam, take-length}
use Rattle.mm_database.specs.Books.{database_of}
use Rattle.mm_base.specs.declared.kinds.Kinds.{Kinds}
use Rattle.mm_base.specs.declared.symbols.Typecode.{Typecode}
use Rattle.mm_model.specs.Book.{logic_code}
use Rattle.mm_model.specs.Names.{typecode}
use Rattle.mm_model.specs.Frames.{symbol_in}
use Rattle.mm_frames.specs.Contents.{Contents}
use Rattle.mm_database.specs.Opened.{Opened, IsOpened}
use Rattle.solve_model.specs.declared.bound.BoundStep.{BoundStep}
use Rattle.solve_model.specs.declared.bound.Bound.{Bound}
use Rattle.solve_model.specs.declared.verdict.Verdict.{Verdict}
use Rattle.solve_model.specs.Bound.{standing}
use Rattle.solve_model.specs.Verdicts.{Judgement, accepted_in, verdict_of, IsJudgement, AreJudged}
use Rattle.term_arena.specs.declared.arena.Mark.{Mark}
use Rattle.term_model.specs.declared.shape.Id.{Id}
use Rattle.term_model.specs.Terms.{Term}
use Rattle.term_model.specs.Links.{Link, AreBelow}
use Rattle.term_model.specs.Store.{Store, cut_to}
use Rattle.term_model.proofs.LinkLaws.{are_below}
use Rattle.step_chain.specs.declared.judged.Judged.{Judged}
use Rattle.step_chain.specs.declared.judged.Judged.TheVariants.{Stands, Fits}
use Rattle.step_chain.specs.declared.judged.Pushed.{Pushed}
use Rattle.step_chain.specs.Grown.{AreIdsIn}
use Rattle.step_chain.specs.Ordered.{formula_at}
use Rattle.step_chain.specs.Standings.{usable_in}
use Rattle.step_chain.specs.Steps.{accepted_by, judgement_of, judgements_from, verdict_in}
use Rattle.step_chain.specs.Accepted.{IsNext}
use Rattle.step_chain.specs.Held.{Held, judgements_of, OfEachBook, nodes_before, links_before, front_of, IsSound, IsHeld, IsPushed}
use Rattle.step_chain.proofs.Lists.{get_seam}
use Rattle.step_chain.proofs.LevelLaws.{judgements_push, length-judgements}
use Rattle.step_chain.proofs.HeldLaws.{whole, front_held, push_held, get_none, take_past, take_length, behind}

-- ---- lists

id_within : (n : ℕ) (ids : List Id) (i : ℕ) → AreIdsIn n ids → i < length ids → (formula_at ids i).0 < n
id_within n [] i h below = absurd (omega (arith, below))
id_within n (x ∷ ids) zero h below = h.0
id_within n (x ∷ ids) (suc i) h below = id_within n ids i h.1 (omega (arith, below))

judgements_take : (d : Opened) (bound : Bound) (i k : ℕ) (ps : List Pushed) → judgements_from d bound i (take k ps) ≡ take k (judgements_from d bound i ps)
judgements_take d bound i zero ps = refl
judgements_take d bound i (suc k) [] = refl
judgements_take d bound i (suc k) (p ∷ ps) = ap (λ (js : List Judgement). judgement_of d bound i p.judged ∷ js) (judgements_take d bound (suc i) k ps)

verdict_is : (d : Opened) (bound : Bound) (i : ℕ) (j : Judged) → verdict_of (judgement_of d bound i j) ≡ verdict_in j
verdict_is d bound i (Stands v) = refl
verdict_is d bound i (Fits x) = by (usable_in d x.label)
  where
    by : (o : Option _) → verdict_of (accepted_by bound i x o) ≡ verdict_in (Fits x)
    by None = refl
    by (Some a) = refl

pub count_of : (h : Held) → length (judgements_of h) ≡ length h.steps
count_of h = length-judgements h.book h.bound 0 h.steps

pub sound_of : (h : Held) → IsHeld h → IsSound h
sound_of h inv = whole h.book h.logic h.bound h.works h.formulas h.steps h.nodes h.links inv

-- ---- what is read of a chain

module _ (h now : Held) (e : h ≡ now) (inv : IsHeld h) where
  pub node_within : (ids : List Id) (i : ℕ) → ids ≡ h.formulas → i < length now.bound.steps → (formula_at ids i).0 < length now.nodes
  node_within ids i is below =
      let count = inv.count in
      let inside : i < length h.formulas = let moved = subst (λ (x : Held). i < length x.bound.steps) (sym e) below in omega (arith, moved, count) in
      subst (λ (x : Held). (formula_at ids i).0 < length x.nodes) e
      (subst (λ (xs : List Id). (formula_at xs i).0 < length h.nodes) (sym is)
      (id_within (length h.nodes) h.formulas i (sound_of h inv).formulas_in inside))

  pub pushed_count : (n : ℕ) → n ≡ length h.steps → n ≡ length (judgements_of now)
  pushed_count n is = is ∙ sym (count_of h) ∙ ap (λ (x : Held). length (judgements_of x)) e

  pub pushed_judged : OfEachBook now (λ db. length (judgements_of now) ≡ length now.bound.steps → AreJudged db now.bound (judgements_of now))
  pushed_judged =
      subst (λ (x : Held). OfEachBook x (λ db. length (judgements_of x) ≡ length x.bound.steps → AreJudged db x.bound (judgements_of x))) e
      (λ kinds text sheet opened binds code all. record { count = all; each = ((sound_of h inv).level kinds text sheet opened binds code).each })

-- ---- the first steps alone

module _ (h : Held) (inv : IsHeld h) (k : ℕ) (below : k < length h.steps) (p : Pushed) (is : p ≡ get_or h.steps k p) where
  at_k : slice_get h.steps k ≡ Some p
  at_k = slice_get-get_or h.steps k p below ∙ ap (λ (q : Pushed). Some q) (sym is)

  nodes_are : nodes_before h.steps h.nodes k ≡ p.mark.nodes
  nodes_are = ap (λ (o : Option Pushed). option_map_or (λ (q : Pushed). q.mark.nodes) o (length h.nodes)) at_k

  links_are : links_before h.steps h.links k ≡ p.mark.trail
  links_are = ap (λ (o : Option Pushed). option_map_or (λ (q : Pushed). q.mark.trail) o (length h.links)) at_k

  pub mark_nodes : p.mark.nodes ≤ length h.nodes
  mark_nodes =
      let rise = inv.nodes_rise k (length h.steps) (omega (arith, below)) in
      let end = behind (λ (q : Pushed). q.mark.nodes) h.steps (length h.nodes) (length h.steps) (omega arith) in
      let same = nodes_are in
      omega (arith, rise, end, same)

  pub mark_links : p.mark.trail ≤ length h.links
  mark_links =
      let rise = inv.links_rise k (length h.steps) (omega (arith, below)) in
      let end = behind (λ (q : Pushed). q.mark.trail) h.steps (length h.links) (length h.steps) (omega arith) in
      let same = links_are in
      omega (arith, rise, end, same)

  pub mark_kept : AreBelow p.mark.nodes (take p.mark.trail h.links)
  mark_kept =
      let front = inv.fronts k in
      let long : length (take (nodes_before h.steps h.nodes k) h.nodes) ≡ p.mark.nodes =
      take_length h.nodes (nodes_before h.steps h.nodes k) (let same = nodes_are in let less = mark_nodes in omega (arith, same, less))
      ∙ nodes_are in
      subst (λ (n : ℕ). AreBelow p.mark.nodes (take n h.links)) links_are
      (subst (λ (n : ℕ). AreBelow n (take (links_before h.steps h.links k) h.links)) long
      (are_below (length (take (nodes_before h.steps h.nodes k) h.nodes)) (take (links_before h.steps h.links k) h.links) front.store.in_order))

  module _ (old new : Store) (old_nodes : old.nodes ≡ h.nodes) (old_links : old.links ≡ h.links) (cut : new ≡ cut_to old p.mark.nodes p.mark.trail)
      (steps : List Pushed) (steps_are : steps ≡ take k h.steps) where
    pub cut_is : front_of h k ≡ record h { nodes = new.nodes; links = new.links; steps = steps }
    cut_is =
        let ns : take (nodes_before h.steps h.nodes k) h.nodes ≡ new.nodes =
        ap (λ (n : ℕ). take n h.nodes) nodes_are ∙ ap (take p.mark.nodes) (sym old_nodes) ∙ sym (ap (λ (s : Store). s.nodes) cut) in
        let ls : take (links_before h.steps h.links k) h.links ≡ new.links =
        ap (λ (n : ℕ). take n h.links) links_are ∙ ap (take p.mark.trail) (sym old_links) ∙ sym (ap (λ (s : Store). s.links) cut) in
        ap (λ (xs : List Term). record h { nodes = xs; links = take (links_before h.steps h.links k) h.links; steps = take k h.steps }) ns
        ∙ ap (λ (xs : List Link). record h { nodes = new.nodes; links = xs; steps = take k h.steps }) ls
        ∙ ap (λ (xs : List Pushed). record h { nodes = new.nodes; links = new.links; steps = xs }) (sym steps_are)

    pub cut_held : IsHeld (record h { nodes = new.nodes; links = new.links; steps = steps })
    cut_held = subst IsHeld cut_is (front_held h.book h.logic h.bound h.works h.formulas h.steps h.nodes h.links k inv)

    pub cut_front : (now : Held) → h ≡ now → record h { nodes = new.nodes; links = new.links; steps = steps } ≡ front_of now k
    cut_front now e = sym cut_is ∙ ap (λ (x : Held). front_of x k) e

    pub cut_judgements : (now : Held) → h ≡ now → judgements_of (record h { nodes = new.nodes; links = new.links; steps = steps }) ≡ take k (judgements_of now)
    cut_judgements now e = ap judgements_of (cut_front now e) ∙ judgements_take now.book now.bound 0 k now.steps

-- where there are no more
module _ (h now : Held) (e : h ≡ now) (k : ℕ) (past : length h.steps ≤ k) where
  all_front : h ≡ front_of h k
  all_front =
      let none : slice_get h.steps k ≡ None = get_none h.steps k past in
      let ns : h.nodes ≡ take (nodes_before h.steps h.nodes k) h.nodes =
      sym (ap (λ (o : Option Pushed). take (option_map_or (λ (q : Pushed). q.mark.nodes) o (length h.nodes)) h.nodes) none
      ∙ take-length h.nodes) in
      let ls : h.links ≡ take (links_before h.steps h.links k) h.links =
      sym (ap (λ (o : Option Pushed). take (option_map_or (λ (q : Pushed). q.mark.trail) o (length h.links)) h.links) none
      ∙ take-length h.links) in
      ap (λ (xs : List Term). record h { nodes = xs }) ns
      ∙ ap (λ (xs : List Link). record h { nodes = take (nodes_before h.steps h.nodes k) h.nodes; links = xs }) ls
      ∙ ap
      (λ (xs : List Pushed). record h {
        nodes = take (nodes_before h.steps h.nodes k) h.nodes;
        links = take (links_before h.steps h.links k) h.links;
        steps = xs;
      })
      (sym (take_past h.steps k past))

  pub front_all : now ≡ front_of now k
  front_all = sym e ∙ all_front ∙ ap (λ (x : Held). front_of x k) e

  pub judgements_all : judgements_of now ≡ take k (judgements_of now)
  judgements_all = ap judgements_of front_all ∙ judgements_take now.book now.bound 0 k now.steps

-- ---- a step more

module _ (h now : Held) (e : h ≡ now) (inv : IsHeld h) (ids : List Id) (ids_are : ids ≡ h.formulas) (i : ℕ) (next_is : i ≡ length (judgements_of now)) (below : i < length now.bound.steps)
    (old new : Store) (old_nodes : old.nodes ≡ h.nodes) (old_links : old.links ≡ h.links) (mark : Mark) (nodes_mark : mark.nodes ≡ length old.nodes) (links_mark : mark.trail ≡ length old.links)
    (j : Judged) (given : IsNext h.book h.bound ids i old new j) (steps : List Pushed) (steps_are : steps ≡ h.steps ++ record { mark = mark; judged = j } ∷ []) where
  abbrev p : Pushed
  p = record { mark = mark; judged = j }

  number : i ≡ length h.steps
  number = next_is ∙ sym (ap (λ (x : Held). length (judgements_of x)) e) ∙ count_of h

  own_below : length h.steps < length h.bound.steps
  own_below = subst (λ (k : ℕ). k < length h.bound.steps) number (subst (λ (x : Held). i < length x.bound.steps) (sym e) below)

  next : IsNext h.book h.bound h.formulas (length h.steps) old new j
  next = subst (λ (k : ℕ). IsNext h.book h.bound h.formulas k old new j) number (subst (λ (xs : List Id). IsNext h.book h.bound xs i old new j) ids_are given)

  old_held : IsHeld (record h { nodes = old.nodes; links = old.links })
  old_held = subst (λ (ns : List Term). IsHeld (record h { nodes = ns; links = old.links })) (sym old_nodes) (subst (λ (ls : List Link). IsHeld (record h { links = ls })) (sym old_links) inv)

  pub push_whole : IsHeld (record h { nodes = new.nodes; links = new.links; steps = steps })
  push_whole =
      subst (λ (xs : List Pushed). IsHeld (record h { nodes = new.nodes; links = new.links; steps = xs })) (sym steps_are)
      (push_held h.book h.logic h.bound h.works h.formulas h.steps p old new old_held nodes_mark links_mark next own_below)

  abbrev after : Held
  after = record h { nodes = new.nodes; links = new.links; steps = steps }

  abbrev judgement : Judgement
  judgement = judgement_of h.book h.bound (length h.steps) j

  added : judgements_of after ≡ judgements_of h ++ judgement ∷ []
  added =
      let zero_plus : 0 + length h.steps ≡ length h.steps = omega arith in
      ap (judgements_from h.book h.bound 0) steps_are ∙ judgements_push h.book h.bound 0 h.steps p ∙ ap (λ (k : ℕ). judgements_of h ++ judgement_of h.book h.bound k j ∷ []) zero_plus

  judged_here : OfEachBook h
      (λ db. (s : BoundStep) → slice_get h.bound.steps (length (judgements_of h)) ≡ Some s
      → IsJudgement db h.bound (accepted_in (judgements_of h)) (length (judgements_of h)) s (standing db h.bound.place s) judgement)
  judged_here kinds text sheet opened binds code s at =
      let db = database_of kinds text h.book.rows h.book.parsed in
      let js = judgements_of h in
      let level = (sound_of after push_whole).level kinds text sheet opened binds code in
      let here : slice_get (judgements_of after) (length js) ≡ Some judgement = ap (λ (xs : List Judgement). slice_get xs (length js)) added ∙ get_seam js judgement in
      let told = level.each (length js) s judgement at here in
      let front : take (length js) (judgements_of after) ≡ js = ap (take (length js)) added ∙ take-append_seam js (judgement ∷ []) in
      subst (λ (xs : List Judgement). IsJudgement db h.bound (accepted_in xs) (length js) s (standing db h.bound.place s) judgement) front told

  pub push_told : (v : Verdict) → v ≡ verdict_in j → IsPushed now after v
  push_told v is =
      subst (λ (x : Held). IsPushed x after v) e (record {
        same = record { book = refl; logic = refl; bound = refl; works = refl; formulas = refl };
        judgement = judgement;
        added = added;
        verdict = verdict_is h.book h.bound (length h.steps) j ∙ sym is;
        judged = judged_here;
      })

-- for whoever knows the kinds: the logic typecode of a chain is that of the database
pub logic_told : (kinds : Kinds) (text : List ℕ) (d : Opened) → IsOpened kinds text d → (logic : Typecode)
    → logic ≡ typecode (symbol_in d.contents.symbols kinds.logic) → logic_code (database_of kinds text d.rows d.parsed) ≡ logic
logic_told kinds text d opened logic is = ap (λ (c : Contents). typecode (symbol_in c.symbols kinds.logic)) (sym opened.contents) ∙ sym is
