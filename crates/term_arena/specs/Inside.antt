-- Part of the proof, and not of the claim: what the store keeps true of its fields.
use Rattle.std.specs.Prelude.{◌≡◌, ℕ, ◌+◌, ◌^◌, ◌<◌, ◌≤◌, Bool, true, Option, List, [], ◌∷◌, length, map, take, drop, unwrap_or, is_some, count_by}
use Rattle.undo_trail.specs.Noted.{Noted}
use Rattle.term_model.specs.declared.shape.Id.{Id}
use Rattle.term_arena.specs.declared.terms.Entry.{Entry}
use Rattle.term_model.specs.Terms.{Term, shape_count, term_of}
use Rattle.term_model.specs.Links.{Link}
use Rattle.term_model.specs.Store.{IsStore}
use Rattle.term_arena.specs.Walks.{State}
use Rattle.term_model.specs.Marks.{bound_at, IsTableOf}

-- the term of an entry, whose children stand together in the list of all children
abbrev pub entry_term : List Id → Entry → Term
entry_term children e = term_of e.shape e.constants (take (shape_count e.shape) (drop e.start children))

abbrev pub entry_terms : List Id → List Entry → List Term
entry_terms children entries = map (entry_term children) entries

-- the children of the entries stand one behind the other
abbrev pub IsPacked : ℕ → List Entry → ℕ → Type 0
IsPacked start [] end = start ≡ end
IsPacked start (e ∷ entries) end = (e.start ≡ start) × IsPacked (start + shape_count e.shape) entries end

pub record IsTerms (entries : List Entry) (children : List Id) (bound : List (Option ℕ)) : Type 0 where
  pub same : length bound ≡ length entries
  pub packed : IsPacked 0 entries (length children)
  pub few : length entries < 2 ^ 32
  pub few_children : length children < 2 ^ 32

-- the bindings of a trail, by the table
abbrev pub links_of : List ℕ → List (Option ℕ) → List Link
links_of trail bound = map (λ (i : ℕ). record { from = i; to = unwrap_or (bound_at bound i) 0 }) trail

pub record IsArena (nodes : List Term) (bound : List (Option ℕ)) (trail : Noted) (states : List State) (ready : Bool) : Type 0 where
  pub same : length bound ≡ length nodes
  pub short : length nodes < 2 ^ 32
  pub store : IsStore nodes (links_of trail.entries bound)
  pub table : IsTableOf bound (links_of trail.entries bound)
  pub counted : count_by is_some bound ≡ length trail.entries
  pub room : ready ≡ true → length nodes ≤ length trail.entries + trail.spare
  pub walk_room : ready ≡ true → length nodes ≤ length states
