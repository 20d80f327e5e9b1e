-- What changes of a walk's fields say of its states and its path.
use Rattle.std.proofs.Common.{◌≡◌, ◌≢◌, ℕ, ◌+◌, ◌-◌, ◌<◌, ◌≤◌, ◌^◌, eqb, cond, List, zero, suc, [], ◌∷◌, ◌++◌, length, set, get_or, map, Option, Some}
use Rattle.std.proofs.Common.{None, refl, ap, sym, subst, ◌∙◌, inl, inr, arith}
use Rattle.std.specs.Prelude.{reverse, count_by, slice_get}
use Rattle.std.proofs.lemmas.Bool.{cases_eq, cases_lt, eq-eqb, ne_eqb}
use Rattle.std.proofs.lemmas.List.{length-map, length-set, length_push, reverse-append, get_or-set_same, get_or-set_other, get_or_past, get_or-reverse, map-set, length-reverse}
use Rattle.std.proofs.lemmas.Option.{get_or_from_slice_get}
use Rattle.std.proofs.lemmas.List.Sums.{sum_by-set, sum_by-cons, count_by-le-length}
use Rattle.undo_trail.specs.Noted.{Noted}
use Rattle.term_model.specs.Marks.{IsIn, is_marked}
use Rattle.term_arena.specs.Walks.{IsIdle, state_at, is_open, is_settled, marks_of, state_of, IsOpenPath, IsWalk, State, unseen, opened, settled}

-- a zero at the end is not seen
pub read_push_zero : (xs : List ℕ) (i : ℕ) → get_or (xs ++ 0 ∷ []) i 0 ≡ get_or xs i 0
read_push_zero [] zero = refl
read_push_zero [] (suc i) = refl
read_push_zero (x ∷ xs) zero = refl
read_push_zero (x ∷ xs) (suc i) = read_push_zero xs i

-- a stamp of an earlier round
pub state_of_old : (round stamp : ℕ) → stamp < round → state_of round stamp ≡ unseen
state_of_old round stamp h = rw (ne_eqb stamp (round + 1) (λ e. omega arith), ne_eqb stamp round (λ e. omega arith)) refl

pub state_of_open : (round : ℕ) → state_of round round ≡ opened
state_of_open round = rw (ne_eqb round (round + 1) (λ e. omega arith), eq-eqb round round refl) refl

pub state_of_settled : (round : ℕ) → state_of round (round + 1) ≡ settled
state_of_settled round = rw (eq-eqb (round + 1) (round + 1) refl) refl

-- the state at a place, by the stamp there; past the end the stamp is 0
pub state_by_stamp : (round : ℕ) (stamps : List ℕ) (i : ℕ) → 0 < round → state_at (map (state_of round) stamps) i ≡ state_of round (get_or stamps i 0)
state_by_stamp round [] zero h = sym (state_of_old round 0 h)
state_by_stamp round [] (suc i) h = sym (state_of_old round 0 h)
state_by_stamp round (s ∷ stamps) zero h = refl
state_by_stamp round (s ∷ stamps) (suc i) h = state_by_stamp round stamps i h

pub open_count_none : (states : List State) → ((i : ℕ) → state_at states i ≡ unseen) → count_by is_open states ≡ 0
open_count_none [] none = refl
open_count_none (s ∷ states) none =
    let head : s ≡ unseen = none 0 in
    let rest = open_count_none states (λ i. none (suc i)) in
    let cons : count_by is_open (s ∷ states) ≡ cond (is_open s) 1 0 + count_by is_open states = sum_by-cons (λ (x : State). cond (is_open x) 1 0) s states in
    let cons' : count_by is_open (s ∷ states) ≡ 0 + count_by is_open states = cons ∙ ap (λ (x : State). cond (is_open x) 1 0 + count_by is_open states) head in
    omega (arith, cons', rest)

-- where all are new, the path is empty
pub walk_fresh : (stamps : List ℕ) (round : ℕ) (path : Noted) → 0 < round → round + 1 < 2 ^ 32 → ((i : ℕ) → get_or stamps i 0 ≤ round + 1)
    → ((i : ℕ) → state_at (map (state_of round) stamps) i ≡ unseen) → path.entries ≡ [] → length stamps ≤ path.spare → IsWalk stamps round path
walk_fresh stamps round path h l old fresh e room = record {
  started = h;
  limit = l;
  stamps_old = old;
  room = omega arith;
  counted = rw e (open_count_none (map (state_of round) stamps) fresh);
  open_path = rw e tt;
  on_path = λ i o. let impossible : unseen ≡ opened = sym (fresh i) ∙ o in cc;
}

pub fresh_states : (stamps : List ℕ) (round : ℕ) → 0 < round → ((i : ℕ) → get_or stamps i 0 < round) → (i : ℕ) → state_at (map (state_of round) stamps) i ≡ unseen
fresh_states stamps round h past i = state_by_stamp round stamps i h ∙ state_of_old round (get_or stamps i 0) (past i)

-- where a walk with an empty path and new states has more room
pub walk_room : (stamps more : List ℕ) (round : ℕ) (path after : Noted) → IsWalk stamps round path
    → ((i : ℕ) → state_at (map (state_of round) stamps) i ≡ unseen) → ((i : ℕ) → get_or more i 0 ≡ get_or stamps i 0) → after.entries ≡ []
    → length more ≤ after.spare → IsWalk more round after
walk_room stamps more round path after w fresh same e room =
    walk_fresh more round after w.started w.limit (λ i. rw (same i) (w.stamps_old i))
    (λ i. state_by_stamp round more i w.started ∙ ap (state_of round) (same i) ∙ sym (state_by_stamp round stamps i w.started) ∙ fresh i) e room

pub no_entries : (xs : List ℕ) → length xs ≡ 0 → xs ≡ []
no_entries [] h = refl
no_entries (y ∷ ys) h = absurd (omega arith)

pub empty_reverse : (xs : List ℕ) → reverse xs ≡ [] → xs ≡ []
empty_reverse xs e = no_entries xs (sym (length-reverse xs) ∙ ap length e)

pub reverse_push : (xs : List ℕ) (i : ℕ) → reverse (xs ++ i ∷ []) ≡ i ∷ reverse xs
reverse_push xs i = reverse-append xs (i ∷ [])

-- what changes of the counts of open nodes
pub open_count_set : (states : List State) (i : ℕ) (s : State) → i < length states
    → count_by is_open (set states i s) + cond (is_open (state_at states i)) 1 0 ≡ count_by is_open states + cond (is_open s) 1 0
open_count_set states i s h = sum_by-set (λ (x : State). cond (is_open x) 1 0) states i s unseen h

-- one of the nodes is not open
pub open_count_below : (states : List State) (i : ℕ) → i < length states → state_at states i ≡ unseen → count_by is_open states < length states
open_count_below states i h e =
    let counted : count_by is_open (set states i opened) + 0 ≡ count_by is_open states + 1 = rw e at (open_count_set states i opened h) in
    omega (arith, counted, count_by-le-length is_open (set states i opened), length-set states i opened)

-- a path's nodes are open
pub open_in : (states : List State) (path : List ℕ) (j : ℕ) → IsOpenPath states path → IsIn j path → state_at states j ≡ opened
open_in states [] j p h = absurd h
open_in states (i ∷ path) j p (inl e) = rw e p.0
open_in states (i ∷ path) j p (inr h) = open_in states path j p.2 h

-- another node's state may change
pub path_other : (states : List State) (path : List ℕ) (j : ℕ) (s : State) → (IsIn j path → ⊥) → IsOpenPath states path → IsOpenPath (set states j s) path
path_other states [] j s n p = tt
path_other states (i ∷ path) j s n p =
    (get_or-set_other states j i s unseen (λ e. n (inl (sym e))) ∙ p.0, p.1, path_other states path j s (λ h. n (inr h)) p.2)

-- an open node is one of the walk's
pub open_below : (states : List State) (i : ℕ) → state_at states i ≡ opened → i < length states
open_below states i e = elim (cases_lt i (length states)) [
  | inl h ↦ h
  | inr past ↦ let impossible : unseen ≡ opened = sym (get_or_past states i unseen past) ∙ e in cc
]

module _ (stamps : List ℕ) (round : ℕ) (path after : Noted) (i : ℕ) (w : IsWalk stamps round path) where
  abbrev states : List State
  states = map (state_of round) stamps

  pub room_for : i < length states → state_at states i ≡ unseen → 0 < path.spare
  room_for h e = omega (arith, open_count_below states i h e, w.counted, w.room, length-map stamps (state_of round))

  pub states_opened : map (state_of round) (set stamps i round) ≡ set states i opened
  states_opened = map-set (state_of round) stamps i round ∙ ap (set states i) (state_of_open round)

  pub states_settled : map (state_of round) (set stamps i (round + 1)) ≡ set states i settled
  states_settled = map-set (state_of round) stamps i (round + 1) ∙ ap (set states i) (state_of_settled round)

  stamps_set : (s : ℕ) → s ≤ round + 1 → i < length stamps → (k : ℕ) → get_or (set stamps i s) k 0 ≤ round + 1
  stamps_set s h below k = elim (cases_eq k i) [
    | inl at ↦ rw (at, get_or-set_same stamps i s 0 below) h
    | inr past ↦ rw (get_or-set_other stamps i k s 0 past) (w.stamps_old k)
  ]

  -- the path goes on to a new node
  pub walk_open : i < length states → state_at states i ≡ unseen → after.entries ≡ path.entries ++ i ∷ [] → after.spare + 1 ≡ path.spare → IsWalk (set stamps i round) round after
  walk_open h fresh e spare =
      let below : i < length stamps = omega (arith, h, length-map stamps (state_of round)) in
      let whole : reverse after.entries ≡ i ∷ reverse path.entries = ap reverse e ∙ reverse_push path.entries i in
      let counted : count_by is_open (set states i opened) + 0 ≡ count_by is_open states + 1 = rw fresh at (open_count_set states i opened h) in
      let longer : length after.entries ≡ length path.entries + 1 = ap length e ∙ length_push path.entries i in
      let off : IsIn i (reverse path.entries) → ⊥ = λ at. let impossible : unseen ≡ opened = sym fresh ∙ open_in states (reverse path.entries) i w.open_path at in cc in
      record {
        started = w.started;
        limit = w.limit;
        stamps_old = stamps_set round (omega arith) below;
        room = omega (arith, w.room, longer, spare, length-set stamps i round);
        counted = rw states_opened (omega (arith, counted, w.counted, longer));
        open_path = rw (states_opened, whole) (get_or-set_same states i opened unseen h, off, path_other states (reverse path.entries) i opened off w.open_path);
        on_path = rw (states_opened, whole) (λ k o. elim (cases_eq k i) [
          | inl at ↦ inl at
          | inr past ↦ inr (w.on_path k (sym (get_or-set_other states i k opened unseen past) ∙ o))
        ]);
      }

  -- the last node of the path is settled
  pub walk_settle : path.entries ≡ after.entries ++ i ∷ [] → after.spare ≡ path.spare + 1 → IsWalk (set stamps i (round + 1)) round after
  walk_settle e spare =
      let whole : reverse path.entries ≡ i ∷ reverse after.entries = ap reverse e ∙ reverse_push after.entries i in
      let on_it : IsOpenPath states (i ∷ reverse after.entries) = rw whole at w.open_path in
      let h : i < length states = open_below states i on_it.0 in
      let below : i < length stamps = omega (arith, h, length-map stamps (state_of round)) in
      let counted : count_by is_open (set states i settled) + 1 ≡ count_by is_open states + 0 = rw on_it.0 at (open_count_set states i settled h) in
      let shorter : length path.entries ≡ length after.entries + 1 = ap length e ∙ length_push after.entries i in
      record {
        started = w.started;
        limit = w.limit;
        stamps_old = stamps_set (round + 1) (omega arith) below;
        room = omega (arith, w.room, shorter, spare, length-set stamps i (round + 1));
        counted = rw states_settled (omega (arith, counted, w.counted, shorter));
        open_path = rw states_settled (path_other states (reverse after.entries) i settled on_it.1 on_it.2);
        on_path = rw states_settled (λ k o. elim (cases_eq k i) [
          | inl at ↦
              let here : state_at (set states i settled) k ≡ settled = rw at (get_or-set_same states i settled unseen h) in
              let impossible : settled ≡ opened = sym here ∙ o in cc
          | inr past ↦ left k past (rw whole at (w.on_path k (sym (get_or-set_other states i k settled unseen past) ∙ o)))
        ]);
      }
    where
      left : (k : ℕ) → k ≢ i → IsIn k (i ∷ reverse after.entries) → IsIn k (reverse after.entries)
      left k past (inl at) = absurd (past at)
      left k past (inr h) = h

-- the last node of a path stands first
pub last_first : (xs : List ℕ) (k i : ℕ) → length xs ≡ k + 1 → slice_get xs k ≡ Some i → slice_get (reverse xs) 0 ≡ Some i
last_first xs k i h e =
    let at : get_or xs k i ≡ i = get_or_from_slice_get xs k i i e in
    let first : get_or (reverse xs) 0 i ≡ i = get_or-reverse xs 0 i (omega arith) ∙ ap (λ (n : ℕ). get_or xs n i) (let same : length xs - 1 - 0 ≡ k = omega arith in same) ∙ at in
    first_is (reverse xs) i (omega (arith, length-reverse xs)) first
  where
    first_is : (ys : List ℕ) (i : ℕ) → 0 < length ys → get_or ys 0 i ≡ i → slice_get ys 0 ≡ Some i
    first_is [] i h e = absurd (omega arith)
    first_is (y ∷ ys) i h e = ap Some e

pub head_open : (states : List State) (path : List ℕ) (i : ℕ) → slice_get path 0 ≡ Some i → IsOpenPath states path → state_at states i ≡ opened
head_open states [] i e p = let impossible : ◌≡◌ {A = Option ℕ} None (Some i) = e in cc
head_open states (j ∷ path) i e p = let same : j ≡ i = cc in rw (← same) p.0

-- ---- what the tests of a stamp say

settled_test : (round stamp : ℕ) → is_settled (state_of round stamp) ≡ eqb stamp (round + 1)
settled_test round stamp = elim (cases_eq stamp (round + 1)) [
  | inl at ↦ rw (eq-eqb stamp (round + 1) at) refl
  | inr past ↦ rw (ne_eqb stamp (round + 1) past) (elim (cases_eq stamp round) [
    | inl here ↦ rw (eq-eqb stamp round here) refl
    | inr off ↦ rw (ne_eqb stamp round off) refl
  ])
]

-- whether a node is settled
pub mark_of_state : (states : List State) (i : ℕ) → is_marked (marks_of states) i ≡ is_settled (state_at states i)
mark_of_state [] zero = refl
mark_of_state [] (suc i) = refl
mark_of_state (s ∷ more) zero = refl
mark_of_state (s ∷ more) (suc i) = mark_of_state more i

pub settled_read : (stamps : List ℕ) (round : ℕ) (path : Noted) (i : ℕ) → IsWalk stamps round path → eqb (get_or stamps i 0) (round + 1) ≡ is_marked (marks_of (map (state_of round) stamps)) i
settled_read stamps round path i w = sym (mark_of_state (map (state_of round) stamps) i ∙ ap is_settled (state_by_stamp round stamps i w.started) ∙ settled_test round (get_or stamps i 0))

pub open_read : (stamps : List ℕ) (round : ℕ) (path : Noted) (i : ℕ) → IsWalk stamps round path → get_or stamps i 0 ≡ round → IsIn i (reverse path.entries)
open_read stamps round path i w e = w.on_path i (state_by_stamp round stamps i w.started ∙ ap (state_of round) e ∙ state_of_open round)

pub idle_when_empty : (stamps : List ℕ) (round : ℕ) (path : Noted) → IsWalk stamps round path → path.entries ≡ []
    → IsIdle (record { states = map (state_of round) stamps; path = reverse path.entries })
idle_when_empty stamps round path w e = record { path = ap reverse e; none = λ i o. absurd (subst (λ (xs : List ℕ). IsIn i (reverse xs)) e (w.on_path i o)) }

pub idle_when_new : (states : List State) (path : List ℕ) → ((i : ℕ) → state_at states i ≡ unseen) → path ≡ [] → IsIdle (record { states = states; path = path })
idle_when_new states path none e = record { path = e; none = λ i o. let impossible : unseen ≡ opened = sym (none i) ∙ o in cc }
