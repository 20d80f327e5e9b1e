-- The names over the database of a text.
use Rattle.std.specs.Prelude.{◌≡◌, ◌≤◌, ◌^◌, ℕ, List, length, flat_map}
use Rattle.std.proofs.Common.{sym, ap, subst, ◌∙◌, arith}
use Rattle.mm_base.specs.Limits.{most_work_size}
use Rattle.mm_model.specs.declared.rows.Production.{Production}
use Rattle.mm_model.specs.Names.{Name}
use Rattle.mm_frames.specs.Contents.{Contents}
use Rattle.mm_database.specs.Books.{database_of}
use Rattle.model_laws.specs.DatabaseLaws.{HasDatabaseFacts}
use Rattle.written_model.specs.Opened as written
use Rattle.solve_model.specs.Bound.{work_size}
use Rattle.writing_laws.proofs.FewSymbols.{symbols_below}
use Rattle.writing_laws.specs.HasNames.{SymbolsAreFew}
use Rattle.leaf_names.specs.Leaves.{fresh_leaves}
use Rattle.leaf_names.specs.Few.{SymbolsAreBelow, WorksAreBelow}
use Rattle.leaf_names.specs.Tables.{AreNamed, read_leaves}
use Rattle.leaf_names.specs.Named.{NamesAreNaming}
use Rattle.leaf_names.proofs.FewLaws.{works_within}
use Rattle.leaf_names.proofs.NamingLaws.{is_naming}

pub names_naming : HasDatabaseFacts → SymbolsAreFew → NamesAreNaming
names_naming has few kinds text d bound before ts t o n writable =
    let db = database_of kinds text d.rows d.parsed in
    let opened : written.IsOpened kinds db = record { text = text; sound = o.no_fault; is_database = o.database } in
    let facts = has kinds text db o.database o.no_fault in
    let symbols : t.symbols ≡ db.symbols = n.symbols ∙ ap (λ (c : Contents). c.symbols) o.contents in
    let named = subst (λ (names : List Name). AreNamed names t.read t.given (flat_map (fresh_leaves t.rows) ts)) symbols n.named in
    let over = subst (λ (rows : List Production). AreNamed db.symbols t.read t.given (flat_map (fresh_leaves rows) ts)) n.rows named in
    is_naming db (few kinds db opened) bound t.read n.read before facts.grammar ts writable t.given over

pub symbols_bounded : SymbolsAreBelow
symbols_bounded kinds text d o =
    let db = database_of kinds text d.rows d.parsed in
    let opened : written.IsOpened kinds db = record { text = text; sound = o.no_fault; is_database = o.database } in
    subst (λ (c : Contents). length c.symbols ≤ 2 ^ 28) (sym o.contents) (symbols_below kinds db opened)

pub works_bounded : HasDatabaseFacts → WorksAreBelow
works_bounded has kinds text d s bound o binds within =
    let db = database_of kinds text d.rows d.parsed in
    let facts = has kinds text db o.database o.no_fault in
    let few = works_within db facts.grammar s bound binds in
    bounded (length (read_leaves d.rows bound)) (work_size db bound) few within
  where
    bounded : (a b : ℕ) → a ≤ b → b ≤ most_work_size → a ≤ 2 ^ 28
    bounded a b l m = omega (arith, l, m)
