use Rattle.mm_database.specs.Books.{database_of}
use Rattle.mm_database.proofs.Opening.{few_statements, has_positions, are_parsed}
use Rattle.mm_database.proofs.Usable.{is_database, is_kept}
use Rattle.mm_database.proofs.database.trees_of.Goals as goal

pub returns-in-Ok : goal.returns-in-Ok
returns-in-Ok c =
    let text = c.args.text.now in
    let kinds = c.args.kinds.now in
    let held = c.args.frames.now in
    let is = c.requires.contents in
    let none = c.requires.no_fault in
    let rows = c.in_ok-grammar.grammar in
    let parsed = c.in-Ok.parsed.items in
    let expressions = c.frames_have_own_expressions.ensures in
    let small = few_statements text held is c.has_few_statements.ensures in
    let are = are_parsed text held is kinds rows parsed c.in-Ok.ensures.parsed in
    let database = is_database kinds text none expressions small rows parsed c.in_ok-grammar.ensures are in
    record {
      opened = record {
        no_fault = none;
        contents = is;
        database = database;
        kept = is_kept kinds text none expressions small rows parsed c.in_ok-grammar.ensures are;
      };
      heads = c.in-Ok.ensures.heads;
      positions = has_positions text held is (c.positions_rise.ensures kinds text (database_of kinds text rows parsed) database none);
    }
