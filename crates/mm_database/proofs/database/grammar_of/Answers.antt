use Rattle.std.proofs.Common.{◌≡◌, List, length, sym, ap, ◌∙◌, subst}
use Rattle.std.specs.List.{range_with_len}
use Rattle.std.proofs.lemmas.Result.{IfOk-weaker}
use Rattle.mm_base.specs.declared.symbols.Sym.{Sym}
use Rattle.mm_model.specs.declared.rows.Production.{Production}
use Rattle.mm_model.specs.Names.{label}
use Rattle.mm_model.specs.Statements.{statements, labels}
use Rattle.mm_model.specs.Frames.{symbols, symbol_in, frame_of}
use Rattle.mm_model.specs.Chains.{kept}
use Rattle.mm_model.specs.Rows.{AreRows}
use Rattle.mm_model.specs.Productions.{row_of_frame, rows, kept_rows}
use Rattle.mm_frames.specs.Contents.{Contents}
use Rattle.mm_database.specs.Productions.{rows_of}
use Rattle.mm_database.proofs.Named.{rows_of_frames}
use Rattle.mm_database.proofs.database.grammar_of.Goals as goal

pub keep_rows-requires : goal.keep_rows-requires
keep_rows-requires c =
    let ss = statements c.args.text.now in
    let kinds = c.args.kinds.now in
    let provable = c.symbol_or_end-provable.ensures ∙ ap (symbol_in c.args.frames.now.symbols) c.as_slice.ensures ∙ ap (λ (f : Contents). symbol_in f.symbols kinds.provable) c.requires.contents in
    let frames = c.frames.ensures ∙ ap (λ (f : Contents). f.frames) c.requires.contents in
    let is : c.from_vec.result ≡ rows kinds.provable ss =
    c.from_vec.ensures ∙ c.in_ok-rows.ensures ∙ ap (λ (p : Sym). rows_of p c.frames.result.now) provable ∙ ap (rows_of (symbol_in (symbols ss) kinds.provable)) frames
    ∙ rows_of_frames (row_of_frame (symbol_in (symbols ss) kinds.provable)) (λ n. frame_of ss (label n)) (range_with_len 0 (length (labels ss))) in
    subst AreRows (sym is) (c.frames_give_rows.ensures kinds c.args.text.now c.requires.no_fault)

pub returns : goal.returns
returns c =
    let ss = statements c.args.text.now in
    let kinds = c.args.kinds.now in
    let provable = c.symbol_or_end-provable.ensures ∙ ap (symbol_in c.args.frames.now.symbols) c.as_slice.ensures ∙ ap (λ (f : Contents). symbol_in f.symbols kinds.provable) c.requires.contents in
    let frames = c.frames.ensures ∙ ap (λ (f : Contents). f.frames) c.requires.contents in
    let is : c.from_vec.result ≡ rows kinds.provable ss =
    c.from_vec.ensures ∙ c.in_ok-rows.ensures ∙ ap (λ (p : Sym). rows_of p c.frames.result.now) provable ∙ ap (rows_of (symbol_in (symbols ss) kinds.provable)) frames
    ∙ rows_of_frames (row_of_frame (symbol_in (symbols ss) kinds.provable)) (λ n. frame_of ss (label n)) (range_with_len 0 (length (labels ss))) in
    IfOk-weaker c.keep_rows.result (λ (g : List Production). g ≡ kept c.from_vec.result) (λ (g : List Production). g ≡ kept_rows kinds.provable ss) (λ g e. e ∙ ap kept is) c.keep_rows.ensures
