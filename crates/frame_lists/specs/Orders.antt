-- Lists in order, each item once. This is part of the proof, and not of the claim.
use Rattle.std.specs.Prelude.{ℕ, Bool, true, false, List, [], ◌∷◌, ◌++◌, Option, Some, None, Contains, map, ◌≡◌}
use Rattle.std.specs.Ordering.{nat_cmp, ordering_then}
use Rattle.std.specs.List.Sorted.{IsStrictlySortedBy}
use Rattle.mm_base.specs.declared.symbols.Pair.{Pair}
use Rattle.mm_base.specs.declared.symbols.Sym.{Sym}
use Rattle.mm_model.specs.Names.{sym, label}
use Rattle.frame_lists.specs.declared.entry.Entry.{Entry}
use Rattle.frame_lists.specs.declared.listed.Listed.{Listed}
use Rattle.frame_lists.specs.declared.scope.Scope.{Scope}
use Rattle.mm_model.specs.declared.frames.Hyp.{Hyp}
use Rattle.mm_model.specs.declared.frames.Frame.{Frame}
use Rattle.frame_lists.specs.Steps.{hypothesis_at, is_axiom, is_assertion, labels_of, mandatory, found_pairs, pair_of}

-- the items of a list in their order, each once
pub record Ordered {X : Type 0} (IsInOrder : List X → Type 0) (xs ys : List X) : Type 0 where
  pub rises : IsInOrder ys
  pub keeps : (x : X) → Contains xs x → Contains ys x
  pub adds_none : (x : X) → Contains ys x → Contains xs x

abbrev pub Rises : List ℕ → Type 0
Rises ns = IsStrictlySortedBy nat_cmp ns

abbrev pub PairsRise : List (ℕ × ℕ) → Type 0
PairsRise ps = IsStrictlySortedBy (λ x y. ordering_then (nat_cmp x.0 y.0) (nat_cmp x.1 y.1)) ps

-- hypotheses of labels, in order
abbrev pub AreHypotheses : Listed → List ℕ → List Hyp → Type 0
AreHypotheses l labels hyps = (ns : List ℕ) × Ordered Rises labels ns × (hyps ≡ map (hypothesis_at l) ns)

-- pairs of the set by `$d`, in order
abbrev pub ArePairs : Listed → List ℕ → List ℕ → List Pair → Type 0
ArePairs l distinct set pairs = (ps : List (ℕ × ℕ)) × Ordered PairsRise (found_pairs l distinct set) ps × (pairs ≡ map pair_of ps)

-- variables in order
abbrev pub AreVariables : List ℕ → List Sym → Type 0
AreVariables variables symbols = (ns : List ℕ) × Ordered Rises variables ns × (symbols ≡ map sym ns)

-- the frame of an assertion with this number and label, behind statements that leave this scope
pub record IsFrameOf (l : Listed) (s : Scope) (x : Entry) (place n : ℕ) (f : Frame) : Type 0 where
  pub label_is : f.label ≡ label n
  pub axiom_is : f.is_axiom ≡ is_axiom x.kind
  pub at_is : f.at ≡ place
  pub formula_is : f.formula ≡ x.symbols
  pub hyps_are : AreHypotheses l (labels_of s (mandatory l s x.symbols)) f.hyps
  pub pairs_are : ArePairs l s.distinct (mandatory l s x.symbols) f.pairs

-- a frame where it is an assertion, and none else
abbrev pub IsFrameIf : Bool → Listed → Scope → Entry → ℕ → ℕ → Option Frame → Type 0
IsFrameIf true l s x at n None = ⊥
IsFrameIf true l s x at n (Some f) = IsFrameOf l s x at n f
IsFrameIf false l s x at n o = o ≡ None

-- the frames with that of the statement's label, if it has one
abbrev pub IsAdded : Bool → Listed → Scope → Entry → ℕ → ℕ → List (Option Frame) → List (Option Frame) → Type 0
IsAdded true l s x at n fs gs = (o : Option Frame) × (gs ≡ fs ++ o ∷ []) × IsFrameIf (is_assertion x.kind) l s x at n o
IsAdded false l s x at n fs gs = gs ≡ fs
