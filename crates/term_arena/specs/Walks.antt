-- Part of the proof, and not of the claim: a walk through the nodes of a store, what it knows of each node, and the path on which it is.
use Rattle.std.specs.Prelude.{◌≡◌, ℕ, ◌+◌, ◌<◌, ◌≤◌, ◌^◌, ◌==◌, if◌then◌else◌, Bool, true, false, List, [], ◌∷◌, length, map, reverse, set, sum_by}
use Rattle.std.specs.Prelude.{count_by, slice_index_or, slice_get, Option, Some}
use Rattle.undo_trail.specs.Noted.{Noted}
use Rattle.term_arena.specs.declared.walk.Step.{Step}
use Rattle.term_model.specs.Terms.{Term}
use Rattle.term_model.specs.Marks.{IsIn, is_marked, are_marked, parts_of, IsWay, IsPartlySolved}

-- what a walk knows of a node: nothing, that it stands on the path, or that its tree is finite
pub data State : Type 0 where
  unseen : State
  opened : State
  settled : State

-- the path's last node stands first
pub record Walked : Type 0 where
  pub states : List State
  pub path : List ℕ

abbrev pub state_at : List State → ℕ → State
state_at states i = slice_index_or states i unseen

abbrev pub is_open : State → Bool
is_open unseen = false
is_open opened = true
is_open settled = false

abbrev pub is_settled : State → Bool
is_settled unseen = false
is_settled opened = false
is_settled settled = true

-- the settled nodes
abbrev pub marks_of : List State → List Bool
marks_of states = map is_settled states

-- how often a node's state will change at most
abbrev pub state_weight : State → ℕ
state_weight unseen = 2
state_weight opened = 1
state_weight settled = 0

abbrev pub work_left : List State → ℕ
work_left states = sum_by state_weight states

-- a state by its stamp, in a round
abbrev pub state_of : ℕ → ℕ → State
state_of round stamp = if stamp == round + 1 then settled else (if stamp == round then opened else unseen)

-- the nodes of a path are open, and differ
abbrev pub IsOpenPath : List State → List ℕ → Type 0
IsOpenPath states [] = Unit {0}
IsOpenPath states (i ∷ rest) = (state_at states i ≡ opened) × (IsIn i rest → ⊥) × IsOpenPath states rest

-- what a walk keeps true of its fields
pub record IsWalk (stamps : List ℕ) (round : ℕ) (path : Noted) : Type 0 where
  pub started : 0 < round
  pub limit : round + 1 < 2 ^ 32
  pub stamps_old : (i : ℕ) → slice_index_or stamps i 0 ≤ round + 1
  pub room : length stamps ≤ length path.entries + path.spare
  pub counted : count_by is_open (map (state_of round) stamps) ≡ length path.entries
  pub open_path : IsOpenPath (map (state_of round) stamps) (reverse path.entries)
  pub on_path : (i : ℕ) → state_at (map (state_of round) stamps) i ≡ opened → IsIn i (reverse path.entries)

-- what a step of a walk did, from the last node of its path
abbrev pub IsStep : List Term → List (Option ℕ) → ℕ → Walked → Walked → Step → Type 0
IsStep nodes bound last old new Step.Settled = (are_marked (marks_of old.states) (parts_of nodes bound last) ≡ true) × (new.states ≡ set old.states last settled) × (old.path ≡ last ∷ new.path)
IsStep nodes bound last old new Step.Opened =
    (j : ℕ) × IsIn j (parts_of nodes bound last) × (j < length nodes) × (state_at old.states j ≡ unseen) × (new.states ≡ set old.states j opened)
    × (new.path ≡ j ∷ old.path)
IsStep nodes bound last old new Step.Cycle = (new ≡ old) × ((j : ℕ) × IsIn j (parts_of nodes bound last) × IsIn j old.path)

-- no node stands on the path
pub record IsIdle (w : Walked) : Type 0 where
  pub path : w.path ≡ []
  pub none : (i : ℕ) → state_at w.states i ≡ opened → ⊥

-- what is settled stays so
abbrev pub KeepsMarks : List State → List State → Type 0
KeepsMarks old new = (i : ℕ) → is_marked (marks_of old) i ≡ true → is_marked (marks_of new) i ≡ true

-- a walk that began at a node, since a state of it
pub record IsWalking (nodes : List Term) (bound : List (Option ℕ)) (root : ℕ) (first now : Walked) : Type 0 where
  pub room : length now.states ≡ length first.states
  pub way : IsWay nodes bound now.path
  pub solved : IsPartlySolved nodes bound (marks_of now.states)
  pub kept : KeepsMarks first.states now.states
  pub begun : state_at now.states root ≡ unseen → ⊥

-- some marked nodes have a solution, and all of these from a place on are marked
pub record AreSettled (nodes : List Term) (bound : List (Option ℕ)) (roots : List ℕ) (start : ℕ) : Type 0 where
  pub marks : List Bool
  pub long : length nodes ≤ length marks
  pub solved : IsPartlySolved nodes bound marks
  pub each : (k i : ℕ) → start ≤ k → slice_get roots k ≡ Some i → is_marked marks i ≡ true
