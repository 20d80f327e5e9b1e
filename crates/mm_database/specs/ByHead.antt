-- Usable assertions by the head of their conclusion and the number of their `$e`.
use Rattle.std.specs.Prelude.{ℕ, ◌==◌, ◌&&◌, Bool, true, false, List, length, map, filter, Option, Some, None}
use Rattle.std.specs.List.{range_with_len}
use Rattle.mm_base.specs.declared.symbols.Label.{Label}
use Rattle.mm_base.specs.declared.tree.Tree.{Tree, out-Tree}
use Rattle.mm_base.specs.declared.tree.Tree.TheOpen.{Tree-F}
use Rattle.mm_model.specs.Names.{label}
use Rattle.mm_database.specs.declared.assertions.Parsed.{Parsed}
use Rattle.mm_database.specs.Books.{parsed_at}

-- what stands at the top is a production with that label, or, for none, a variable of the database
abbrev pub is_head : Option Label → Tree-F Tree → Bool
is_head None (Tree-F.Var s c) = true
is_head None (Tree-F.Work c n) = false
is_head None (Tree-F.Fresh c n) = false
is_head None (Tree-F.Node l c ts) = false
is_head (Some h) (Tree-F.Var s c) = false
is_head (Some h) (Tree-F.Work c n) = false
is_head (Some h) (Tree-F.Fresh c n) = false
is_head (Some h) (Tree-F.Node l c ts) = l.0 == h.0

abbrev pub has_head : Option Label → Tree → Bool
has_head head t = is_head head (out-Tree t)

-- a usable assertion whose conclusion has that head, with that number of `$e`
abbrev pub stands_by : Option Label → ℕ → Option Parsed → Bool
stands_by head hyps None = false
stands_by head hyps (Some p) = has_head head p.tree && length p.hyps == hyps

-- the labels of the usable assertions with that head and number of `$e`, in database order
abbrev pub by_head : List (Option Parsed) → Option Label → ℕ → List Label
by_head parsed head hyps = filter (λ (l : Label). stands_by head hyps (parsed_at parsed l)) (map label (range_with_len 0 (length parsed)))
