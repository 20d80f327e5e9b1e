-- What the passes make of their lists, step by step. Variables, labels and statements are numbers here. This is part of the proof, and not of the claim.
use Rattle.std.specs.Prelude.{ℕ, zero, suc, ◌+◌, ◌-◌, ◌==◌, Bool, true, false, not, ◌&&◌, List, [], ◌∷◌, ◌++◌, length, take, fold, Option, None, Some}
use Rattle.std.specs.Prelude.{if◌then◌else◌, nat_eq, nat_lt, slice_get, slice_index_or, unwrap_or, option_map, option_and_then, position}
use Rattle.std.specs.List.{list_any}
use Rattle.mm_base.specs.declared.symbols.Sym.{Sym}
use Rattle.mm_base.specs.declared.symbols.Pair.{Pair}
use Rattle.mm_model.specs.declared.frames.Hyp.{Hyp}
use Rattle.mm_model.specs.Names.{sym}
use Rattle.frame_lists.specs.declared.entry.Entry.{Entry}
use Rattle.frame_lists.specs.declared.entry.EntryKind.{EntryKind}
use Rattle.frame_lists.specs.declared.entry.EntryKind.TheVariants as entry
use Rattle.frame_lists.specs.declared.entry.StatementKind.TheVariants as kind
use Rattle.frame_lists.specs.declared.listed.Listed.{Listed}
use Rattle.frame_lists.specs.declared.scope.Scope.{Scope}
use Rattle.frame_lists.specs.declared.scope.Block.{Block}

-- ---- kinds

abbrev pub is_floating : EntryKind → Bool
is_floating (entry.Statement kind.Floating) = true
is_floating k = false

abbrev pub is_axiom : EntryKind → Bool
is_axiom (entry.Statement kind.Axiom) = true
is_axiom k = false

abbrev pub is_assertion : EntryKind → Bool
is_assertion (entry.Statement kind.Axiom) = true
is_assertion (entry.Statement kind.Provable) = true
is_assertion k = false

-- ---- look-ups

abbrev pub has : List ℕ → ℕ → Bool
has ns n = list_any (nat_eq n) ns

abbrev pub symbols_at : Listed → ℕ → List Sym
symbols_at l at = unwrap_or (option_map (λ (x : Entry). x.symbols) (slice_get l.entries at)) []

abbrev pub floating_at : Listed → ℕ → Bool
floating_at l at = unwrap_or (option_map (λ (x : Entry). is_floating x.kind) (slice_get l.entries at)) false

abbrev pub position_at : Listed → ℕ → ℕ
position_at l n = unwrap_or (slice_get l.positions n) 0

abbrev pub is_label_of : Listed → ℕ → ℕ → Bool
is_label_of l n at = unwrap_or (option_map (λ p. p == at) (slice_get l.positions n)) false

abbrev pub hypothesis_at : Listed → ℕ → Hyp
hypothesis_at l n = record { name = slice_index_or l.labels n []; floating = floating_at l (position_at l n); formula = symbols_at l (position_at l n) }

-- ---- what is active

abbrev pub first_scope : Scope
first_scope = record { variables = []; typed = []; floats = []; essentials = []; hyps = []; distinct = []; blocks = [] }

abbrev pub declared_more : List ℕ → Sym → List ℕ
declared_more vs s = if has vs s.0 then vs else vs ++ s.0 ∷ []

abbrev pub declared : List ℕ → List Sym → List ℕ
declared vs ss = fold declared_more vs ss

abbrev pub with_float : Scope → ℕ → List Sym → Scope
with_float s n [] = s
with_float s n (a ∷ []) = s
with_float s n (a ∷ v ∷ ss) = if has s.typed v.0 then s else record s { typed = s.typed ++ v.0 ∷ []; floats = s.floats ++ n ∷ [] }

abbrev pub with_open : Scope → Scope
with_open s =
    record s {
      blocks =
          s.blocks
          ++ (record {
            variables = length s.variables;
            floats = length s.floats;
            essentials = length s.essentials;
            hyps = length s.hyps;
            distinct = length s.distinct;
          })
          ∷ [];
    }

abbrev pub cut_to : Scope → Block → Scope
cut_to s b =
    record s {
      variables = take b.variables s.variables;
      typed = take b.floats s.typed;
      floats = take b.floats s.floats;
      essentials = take b.essentials s.essentials;
      hyps = take b.hyps s.hyps;
      distinct = take b.distinct s.distinct;
    }

abbrev pub last_block : List Block → Option Block
last_block bs = slice_get bs (length bs - 1)

abbrev pub closed_at : Option Block → Scope → Scope
closed_at None s = s
closed_at (Some b) s = record (cut_to s b) { blocks = take (length s.blocks - 1) s.blocks }

abbrev pub with_close : Scope → Scope
with_close s = closed_at (last_block s.blocks) s

-- behind a statement of this kind, with these symbols and numbers of its own and of its label
abbrev pub passed : EntryKind → List Sym → ℕ → ℕ → Scope → Scope
passed entry.OpenBlock ss at n s = with_open s
passed entry.CloseBlock ss at n s = with_close s
passed (entry.Statement kind.Constants) ss at n s = s
passed (entry.Statement kind.Variables) ss at n s = record s { variables = declared s.variables ss }
passed (entry.Statement kind.Distinct) ss at n s = record s { distinct = s.distinct ++ at ∷ [] }
passed (entry.Statement kind.Floating) ss at n s = with_float (record s { hyps = s.hyps ++ n ∷ [] }) n ss
passed (entry.Statement kind.Essential) ss at n s = record s { essentials = s.essentials ++ n ∷ []; hyps = s.hyps ++ n ∷ [] }
passed (entry.Statement kind.Axiom) ss at n s = s
passed (entry.Statement kind.Provable) ss at n s = s

abbrev pub kind_at : Listed → ℕ → EntryKind
kind_at l at = unwrap_or (option_map (λ (x : Entry). x.kind) (slice_get l.entries at)) entry.OpenBlock

-- the number of the next label, and the scope, behind the first so many statements
abbrev pub label_after : Listed → ℕ → ℕ → ℕ
label_after l n at = if is_label_of l n at then n + 1 else n

abbrev pub label_upto : Listed → ℕ → ℕ
label_upto l zero = 0
label_upto l (suc k) = label_after l (label_upto l k) k

abbrev pub scope_upto : Listed → ℕ → Scope
scope_upto l zero = first_scope
scope_upto l (suc k) = passed (kind_at l k) (symbols_at l k) k (label_upto l k) (scope_upto l k)

-- ---- mandatory variables

abbrev pub marked_more : List ℕ → List ℕ → Sym → List ℕ
marked_more variables set s = if has variables s.0 && not (has set s.0) then set ++ s.0 ∷ [] else set

abbrev pub marked : List ℕ → List ℕ → List Sym → List ℕ
marked variables set ss = fold (marked_more variables) set ss

abbrev pub marked_all : Listed → List ℕ → List ℕ → List ℕ → List ℕ
marked_all l variables set essentials = fold (λ set n. marked variables set (symbols_at l (position_at l n))) set essentials

abbrev pub mandatory : Listed → Scope → List Sym → List ℕ
mandatory l s ss = marked_all l s.variables (marked s.variables [] ss) s.essentials

-- ---- hypotheses

abbrev pub float_of : Scope → ℕ → Option ℕ
float_of s v = option_and_then (λ p. slice_get s.floats p) (position (nat_eq v) s.typed)

abbrev pub or_more : List ℕ → Option ℕ → List ℕ
or_more ns None = ns
or_more ns (Some n) = ns ++ n ∷ []

abbrev pub labels_of : Scope → List ℕ → List ℕ
labels_of s variables = fold (λ ns v. or_more ns (float_of s v)) s.essentials variables

-- ---- pairs

abbrev pub chosen_more : List ℕ → List ℕ → Sym → List ℕ
chosen_more set ns s = if has set s.0 then ns ++ s.0 ∷ [] else ns

abbrev pub chosen : List ℕ → List Sym → List ℕ
chosen set ss = fold (chosen_more set) [] ss

abbrev pub pair_more : ℕ → List (ℕ × ℕ) → ℕ → List (ℕ × ℕ)
pair_more one ps other = if nat_lt one other then ps ++ (one, other) ∷ [] else ps

abbrev pub pairs_with : List (ℕ × ℕ) → ℕ → List ℕ → List (ℕ × ℕ)
pairs_with ps one others = fold (pair_more one) ps others

abbrev pub pairs_all : List (ℕ × ℕ) → List ℕ → List (ℕ × ℕ)
pairs_all ps ns = fold (λ qs n. pairs_with qs n ns) ps ns

abbrev pub found_more : Listed → List ℕ → List (ℕ × ℕ) → List ℕ → List (ℕ × ℕ)
found_more l set ps distinct = fold (λ qs at. pairs_all qs (chosen set (symbols_at l at))) ps distinct

abbrev pub found_pairs : Listed → List ℕ → List ℕ → List (ℕ × ℕ)
found_pairs l distinct set = found_more l set [] distinct

abbrev pub pair_of : ℕ × ℕ → Pair
pair_of p = record { a = sym p.0; b = sym p.1 }
