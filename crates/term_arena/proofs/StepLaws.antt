-- A step of a walk keeps what the walk knows.
use Rattle.std.proofs.Common.{◌≡◌, ◌⊎◌, ℕ, ◌+◌, ◌<◌, ◌≤◌, Bool, true, false, ◌&&◌, Option, Some, None, add-one, List, zero, suc, [], ◌∷◌, length}
use Rattle.std.proofs.Common.{drop, set, get_or, map, refl, ap, sym, subst, ◌∙◌, inl, inr, arith}
use Rattle.std.specs.List.{AllByRecursion, slice_get}
use Rattle.std.proofs.lemmas.Bool.{cases_eq}
use Rattle.std.proofs.lemmas.List.{length-map, length-set, map-set, set-get_or, get_or-set_same, get_or-set_other}
use Rattle.std.proofs.lemmas.List.Sums.{sum_by-set}
use Rattle.std.proofs.Math.Seq.{drop-cons}
use Rattle.term_model.specs.declared.shape.Id.{Id}
use Rattle.term_arena.specs.declared.walk.Step.{Step}
use Rattle.term_model.specs.Terms.{Term}
use Rattle.term_model.specs.Marks.{IsIn, is_marked, are_marked, parts_of, IsGraph, IsWay, IsPartlySolved, IsCyclic}
use Rattle.term_arena.specs.Walks.{Walked, State, unseen, opened, settled, state_at, is_settled, marks_of, state_weight, work_left, IsStep, IsIdle, IsWalking}
use Rattle.term_model.proofs.MarkLaws.{marked_more, mark_more}
use Rattle.term_arena.proofs.WalkLaws.{mark_of_state}
use Rattle.term_model.proofs.CycleLaws.{way_below}

-- ---- the parts of a node, looked at one by one

abbrev pub places_of : List Id → List ℕ
places_of ids = map (λ (id : Id). id.0) ids

pub record IsScanned (n : ℕ) (marks : List Bool) (items : List Id) (k : ℕ) : Type 0 where
  pub within : AllByRecursion (λ (id : Id). id.0 < n) (drop k items)
  pub rest : are_marked marks (places_of (drop k items)) ≡ are_marked marks (places_of items)
  pub among : (j : ℕ) → IsIn j (places_of (drop k items)) → IsIn j (places_of items)

-- the list that is left begins with the item
pub record IsAhead (n : ℕ) (marks : List Bool) (items : List Id) (x : Id) (rest : List Id) : Type 0 where
  pub within : (x.0 < n) × AllByRecursion (λ (id : Id). id.0 < n) rest
  pub same : (is_marked marks x.0 && are_marked marks (places_of rest)) ≡ are_marked marks (places_of items)
  pub among : (j : ℕ) → (j ≡ x.0) ⊎ IsIn j (places_of rest) → IsIn j (places_of items)

pub scan_ahead : (n : ℕ) (marks : List Bool) (items : List Id) (k : ℕ) (d : Id) → k < length items → IsScanned n marks items k → IsAhead n marks items (get_or items k d) (drop (k + 1) items)
scan_ahead n marks items k d h s =
    let split : drop k items ≡ get_or items k d ∷ drop (k + 1) items = rw add-one (drop-cons items k d h) in
    record { within = rw split at s.within; same = rw split at s.rest; among = rw split at s.among }

pub scan_next : (n : ℕ) (marks : List Bool) (items : List Id) (k : ℕ) (x : Id) → IsAhead n marks items x (drop (k + 1) items) → is_marked marks x.0 ≡ true → IsScanned n marks items (k + 1)
scan_next n marks items k x s m = record { within = s.within.1; rest = rw m at s.same; among = λ j h. s.among j (inr h) }

-- ---- the marks after a step

pub settled_marks : (states : List State) (i : ℕ) → marks_of (set states i settled) ≡ set (marks_of states) i true
settled_marks states i = map-set is_settled states i settled

pub opened_marks : (states : List State) (i : ℕ) → is_marked (marks_of states) i ≡ false → marks_of (set states i opened) ≡ marks_of states
opened_marks states i m =
    map-set is_settled states i opened ∙ ap (set (marks_of states) i) (sym m) ∙ set-get_or (marks_of states) i false

pub not_settled : (states : List State) (i : ℕ) (s : State) → state_at states i ≡ s → is_settled s ≡ false → is_marked (marks_of states) i ≡ false
not_settled states i s e n = mark_of_state states i ∙ ap is_settled e ∙ n

weight_set : (states : List State) (i : ℕ) (s : State) → i < length states → work_left (set states i s) + state_weight (state_at states i) ≡ work_left states + state_weight s
weight_set states i s h = sum_by-set state_weight states i s unseen h

begun_still : (states : List State) (i root : ℕ) (s : State) → i < length states → (s ≡ unseen → ⊥) → (state_at states root ≡ unseen → ⊥) → state_at (set states i s) root ≡ unseen → ⊥
begun_still states i root s h n begun e = elim (cases_eq root i) [
  | inl at ↦ n (sym (get_or-set_same states i s unseen h) ∙ subst (λ (k : ℕ). state_at (set states i s) k ≡ unseen) at e)
  | inr past ↦ begun (sym (get_or-set_other states i root s unseen past) ∙ e)
]

way_rest : (nodes : List Term) (bound : List (Option ℕ)) (i : ℕ) (rest : List ℕ) → IsWay nodes bound (i ∷ rest) → IsWay nodes bound rest
way_rest nodes bound i [] way = tt
way_rest nodes bound i (j ∷ rest) way = way.2

-- what a step keeps, and that less is left to do
pub record GoesOn (nodes : List Term) (bound : List (Option ℕ)) (root : ℕ) (first now next : Walked) : Type 0 where
  pub walking : IsWalking nodes bound root first next
  pub less : work_left next.states < work_left now.states

module _ (nodes : List Term) (bound : List (Option ℕ)) (root : ℕ) (first now next : Walked) (last : ℕ) (rest : List ℕ) (g : IsGraph nodes bound) (long : length nodes ≤ length first.states)
    (walk : IsWalking nodes bound root first now) (path : now.path ≡ last ∷ rest) (here : state_at now.states last ≡ opened) where
  way : IsWay nodes bound (last ∷ rest)
  way = rw path at walk.way

  within : last < length now.states
  within = omega (arith, way_below nodes bound last rest way, long, walk.room)

  settles : are_marked (marks_of now.states) (parts_of nodes bound last) ≡ true → next.states ≡ set now.states last settled → now.path ≡ last ∷ next.path → GoesOn nodes bound root first now next
  settles can states path' =
      let m : is_marked (marks_of now.states) last ≡ false = not_settled now.states last opened here refl in
      let below = way_below nodes bound last rest way in
      let marked : marks_of next.states ≡ set (marks_of now.states) last true = ap marks_of states ∙ settled_marks now.states last in
      let weights : work_left (set now.states last settled) + 1 ≡ work_left now.states + 0 = rw here at (weight_set now.states last settled within) in
      record {
        walking = record {
          room = ap length states ∙ length-set now.states last settled ∙ walk.room;
          way = way_rest nodes bound last next.path (rw path' at walk.way);
          solved = rw marked (mark_more nodes bound (marks_of now.states) last below (omega (arith, within, length-map now.states is_settled)) m g can walk.solved);
          kept = λ i was. rw marked (marked_more (marks_of now.states) last m i (walk.kept i was));
          begun = rw states (begun_still now.states last root settled within (λ e. cc) walk.begun);
        };
        less = rw states (omega (arith, weights));
      }

  opens : (j : ℕ) → IsIn j (parts_of nodes bound last) → j < length nodes → state_at now.states j ≡ unseen → next.states ≡ set now.states j opened
      → next.path ≡ j ∷ now.path → GoesOn nodes bound root first now next
  opens j part below fresh states path' =
      let m : is_marked (marks_of now.states) j ≡ false = not_settled now.states j unseen fresh refl in
      let inside : j < length now.states = omega (arith, below, long, walk.room) in
      let marked : marks_of next.states ≡ marks_of now.states = ap marks_of states ∙ opened_marks now.states j m in
      let weights : work_left (set now.states j opened) + 2 ≡ work_left now.states + 1 = rw fresh at (weight_set now.states j opened inside) in
      record {
        walking = record {
          room = ap length states ∙ length-set now.states j opened ∙ walk.room;
          way = rw (path', path) (below, part, way);
          solved = rw marked walk.solved;
          kept = λ i was. rw marked (walk.kept i was);
          begun = rw states (begun_still now.states j root opened inside (λ e. cc) walk.begun);
        };
        less = rw states (omega (arith, weights));
      }

  pub goes_on : (did : Step) → IsStep nodes bound last now next did → (did ≡ Step.Cycle → ⊥) → GoesOn nodes bound root first now next
  goes_on Step.Settled s n = settles s.0 s.1 s.2
  goes_on Step.Opened s n = opens s.0 s.1 s.2 s.3 s.4 s.5
  goes_on Step.Cycle s n = absurd (n refl)

  pub comes_back : (did : Step) → IsStep nodes bound last now next did → did ≡ Step.Cycle → IsCyclic nodes bound
  comes_back Step.Settled s e = let impossible : Step.Settled ≡ Step.Cycle = e in cc
  comes_back Step.Opened s e = let impossible : Step.Opened ≡ Step.Cycle = e in cc
  comes_back Step.Cycle s e = record { last = last; before = rest; is_way = way; part = s.1.0; is_part = s.1.1; closes = rw path at s.1.2 }

-- a walk that came back to its beginning has settled it
pub root_settled : (states : List State) (root : ℕ) → (state_at states root ≡ unseen → ⊥) → (state_at states root ≡ opened → ⊥) → is_marked (marks_of states) root ≡ true
root_settled states root begun idle = mark_of_state states root ∙ go (state_at states root) refl
  where
    go : (s : State) → state_at states root ≡ s → is_settled s ≡ true
    go unseen e = absurd (begun e)
    go opened e = absurd (idle e)
    go settled e = refl

-- the walk at its beginning
pub walk_begins : (nodes : List Term) (bound : List (Option ℕ)) (root : ℕ) (first next : Walked) → root < length nodes
    → length nodes ≤ length first.states → IsIdle first → IsPartlySolved nodes bound (marks_of first.states)
    → is_marked (marks_of first.states) root ≡ false → next.states ≡ set first.states root opened → next.path ≡ root ∷ first.path
    → IsWalking nodes bound root first next
walk_begins nodes bound root first next below long idle p m states path =
    let marked : marks_of next.states ≡ marks_of first.states = ap marks_of states ∙ opened_marks first.states root m in
    record {
      room = ap length states ∙ length-set first.states root opened;
      way = rw (path, idle.path) below;
      solved = rw marked p;
      kept = λ i was. rw marked was;
      begun = rw states (λ e. let impossible : opened ≡ unseen = sym (get_or-set_same first.states root opened unseen (omega (arith, below, long))) ∙ e in cc);
    }

-- a node that is neither settled nor on the path is new
pub unseen_state : (states : List State) (i : ℕ) → is_marked (marks_of states) i ≡ false → (state_at states i ≡ opened → ⊥) → state_at states i ≡ unseen
unseen_state states i m n = go (state_at states i) refl
  where
    go : (s : State) → state_at states i ≡ s → state_at states i ≡ unseen
    go unseen e = e
    go opened e = absurd (n e)
    go settled e = let impossible : false ≡ true = sym m ∙ mark_of_state states i ∙ ap is_settled e in cc

pub head_split : (path : List ℕ) (i : ℕ) → slice_get path 0 ≡ Some i → (rest : List ℕ) × (path ≡ i ∷ rest)
head_split [] i e = let impossible : ◌≡◌ {A = Option ℕ} None (Some i) = e in cc
head_split (j ∷ rest) i e = let same : j ≡ i = cc in (rest, ap (λ (k : ℕ). k ∷ rest) same)

pub last_below : (nodes : List Term) (bound : List (Option ℕ)) (path : List ℕ) (i : ℕ) → slice_get path 0 ≡ Some i → IsWay nodes bound path → i < length nodes
last_below nodes bound path i e way = let split = head_split path i e in way_below nodes bound i split.0 (rw split.1 at way)

pub scanned_all : (n : ℕ) (marks : List Bool) (items : List Id) (k : ℕ) → length items ≤ k → IsScanned n marks items k → are_marked marks (places_of items) ≡ true
scanned_all n marks items k h s = sym s.rest ∙ ap (λ (xs : List Id). are_marked marks (places_of xs)) (nothing_left items k h)
  where
    nothing_left : (xs : List Id) (k : ℕ) → length xs ≤ k → drop k xs ≡ []
    nothing_left [] zero h = refl
    nothing_left [] (suc k) h = refl
    nothing_left (x ∷ xs) zero h = absurd (omega arith)
    nothing_left (x ∷ xs) (suc k) h = nothing_left xs k (omega arith)

pub entry_below : (xs : List ℕ) (k i : ℕ) → slice_get xs k ≡ Some i → k < length xs
entry_below [] k i e = let impossible : ◌≡◌ {A = Option ℕ} None (Some i) = e in cc
entry_below (x ∷ xs) zero i e = omega arith
entry_below (x ∷ xs) (suc k) i e = omega (arith, entry_below xs k i e)
