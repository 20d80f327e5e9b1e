-- Statements by numbers.
use Rattle.std.specs.Prelude.{ℕ, List, [], ◌∷◌, Option, None, if◌then◌else◌, codes}
use Rattle.mm_model.specs.Names.{Name}
use Rattle.mm_model.specs.Statements.{Statement, has_keyword}
use Rattle.mm_model.specs.Frames.{formula_of, proof_in}
use Rattle.frame_lists.specs.declared.entry.Entry.{Entry}
use Rattle.frame_lists.specs.declared.entry.EntryKind.{EntryKind}
use Rattle.frame_lists.specs.declared.entry.EntryKind.TheVariants as entry
use Rattle.frame_lists.specs.declared.entry.StatementKind.{StatementKind}
use Rattle.frame_lists.specs.declared.entry.StatementKind.TheVariants as kind

-- the kind of a statement that is no block's
abbrev pub statement_kind : Statement → StatementKind
statement_kind s =
    if has_keyword (codes "$c") s then kind.Constants else (if has_keyword (codes "$v") s then kind.Variables
    else (if has_keyword (codes "$d") s then kind.Distinct else (if has_keyword (codes "$f") s then kind.Floating
    else (if has_keyword (codes "$e") s then kind.Essential else (if has_keyword (codes "$a") s then kind.Axiom
    else (if has_keyword (codes "$p") s then kind.Provable else kind.Constants))))))

abbrev pub kind_in : Statement → EntryKind
kind_in s =
    if has_keyword (codes "${") s then entry.OpenBlock else (if has_keyword (codes "$}") s then entry.CloseBlock
    else entry.Statement (statement_kind s))

-- the byte where a statement begins
abbrev pub first_byte : Statement → ℕ
first_byte [] = 0
first_byte (w ∷ ws) = w.start

-- the bytes of the proof of a `$p`
abbrev pub proof_of : Statement → Option (ℕ × ℕ)
proof_of s = if has_keyword (codes "$p") s then proof_in s else None

-- a statement by numbers
abbrev pub entry_in : List Name → Statement → Entry
entry_in names s = record { kind = kind_in s; start = first_byte s; symbols = formula_of names s; proof = proof_of s }
