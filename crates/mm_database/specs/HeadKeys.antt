-- The keys by which an index of heads has its labels. This is part of the proof, and not of the claim.
use Rattle.std.specs.Prelude.{ℕ, suc, ◌+◌, ◌&&◌, Bool, false, List, [], ◌∷◌, length, nat_eq, if◌then◌else◌, Option, Some, None, option_map}
use Rattle.mm_base.specs.declared.symbols.Label.{Label}
use Rattle.mm_base.specs.declared.tree.Tree.{Tree, out-Tree}
use Rattle.mm_base.specs.declared.tree.Tree.TheOpen.{Tree-F}
use Rattle.mm_model.specs.Names.{label}
use Rattle.mm_database.specs.declared.assertions.Parsed.{Parsed}

-- 0 for a variable, or else one more than the number of the head's label
abbrev pub head_key : Option Label → ℕ
head_key None = 0
head_key (Some l) = l.0 + 1

abbrev pub layer_key : Tree-F Tree → Option ℕ
layer_key (Tree-F.Var s c) = Some 0
layer_key (Tree-F.Work c n) = None
layer_key (Tree-F.Fresh c n) = None
layer_key (Tree-F.Node l c ts) = Some (l.0 + 1)

-- the key of a tree's head; a work variable has none
abbrev pub key_of : Tree → Option ℕ
key_of t = layer_key (out-Tree t)

abbrev pub entry_key : Option Parsed → Option (ℕ × ℕ)
entry_key None = None
entry_key (Some p) = option_map (λ (h : ℕ). let k : ℕ × ℕ = (h, length p.hyps) in k) (key_of p.tree)

-- the entry stands at a key
abbrev pub is_at : ℕ → ℕ → Option (ℕ × ℕ) → Bool
is_at h n None = false
is_at h n (Some k) = nat_eq k.0 h && nat_eq k.1 n

-- the labels, from one on, of the entries at a key, in order
abbrev pub labels_from : ℕ → ℕ → ℕ → List (Option Parsed) → List Label
labels_from h n at [] = []
labels_from h n at (p ∷ ps) = if is_at h n (entry_key p) then label at ∷ labels_from h n (suc at) ps else labels_from h n (suc at) ps
