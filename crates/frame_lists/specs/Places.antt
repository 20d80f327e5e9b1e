-- Passes over the statements that keep a place by symbol, typecodes, or how many blocks are open. This is part of the proof, and not of the claim.
use Rattle.std.specs.Prelude.{ℕ, zero, suc, ◌+◌, ◌-◌, ◌^◌, ◌==◌, ◌&&◌, Bool, true, false, List, [], ◌∷◌, ◌++◌, length, fold, Option, Some, None}
use Rattle.std.specs.Prelude.{if◌then◌else◌, nat_lt, slice_get, slice_set, slice_index_or, replicate, unwrap_or, find}
use Rattle.std.specs.List.{range_with_len}
use Rattle.mm_base.specs.declared.symbols.Sym.{Sym}
use Rattle.mm_base.specs.declared.symbols.Typecode.{Typecode}
use Rattle.mm_model.specs.Names.{typecode}
use Rattle.frame_lists.specs.declared.entry.Entry.{Entry}
use Rattle.frame_lists.specs.declared.entry.EntryKind.{EntryKind}
use Rattle.frame_lists.specs.declared.entry.EntryKind.TheVariants as entry
use Rattle.frame_lists.specs.declared.entry.StatementKind.TheVariants as kind
use Rattle.frame_lists.specs.Steps.{is_floating}

abbrev pub is_constants : EntryKind → Bool
is_constants (entry.Statement kind.Constants) = true
is_constants k = false

-- ---- the places of `$c` by symbol

abbrev pub no_place : ℕ
no_place = 2 ^ 32 - 1

abbrev pub noted_more : ℕ → List ℕ → ℕ → List ℕ
noted_more at ps n = if nat_lt n (length ps) && slice_index_or ps n 0 == no_place then slice_set ps n at else ps

abbrev pub noted : ℕ → List ℕ → List Sym → List ℕ
noted at ps ss = fold (λ qs (s : Sym). noted_more at qs s.0) ps ss

abbrev pub noted_entry : ℕ → List ℕ → Entry → List ℕ
noted_entry at ps x = if is_constants x.kind then noted at ps x.symbols else ps

-- behind one more statement, if it is there
abbrev pub noted_at : ℕ → List ℕ → Option Entry → List ℕ
noted_at at ps None = ps
noted_at at ps (Some x) = noted_entry at ps x

abbrev pub places_upto : ℕ → List Entry → ℕ → List ℕ
places_upto n xs zero = replicate n no_place
places_upto n xs (suc k) = noted_at k (places_upto n xs k) (slice_get xs k)

-- ---- typecodes

abbrev pub with_first : List Typecode → List Sym → List Typecode
with_first cs [] = cs
with_first cs (s ∷ ss) = cs ++ typecode s ∷ []

abbrev pub codes_more : List Typecode → Entry → List Typecode
codes_more cs x = if is_floating x.kind then with_first cs x.symbols else cs

-- ---- open blocks

abbrev pub depth_after : EntryKind → ℕ → ℕ
depth_after entry.OpenBlock d = d + 1
depth_after entry.CloseBlock d = d - 1
depth_after (entry.Statement k) d = d

abbrev pub depth_at : Option Entry → ℕ → ℕ
depth_at None d = d
depth_at (Some x) d = depth_after x.kind d

abbrev pub depth_upto : List Entry → ℕ → ℕ
depth_upto xs zero = 0
depth_upto xs (suc k) = depth_at (slice_get xs k) (depth_upto xs k)

abbrev pub place_by : List Entry → ℕ → ℕ
place_by xs position = unwrap_or (find (λ p. depth_upto xs p == 0) (range_with_len (suc position) (length xs - position))) (length xs)
