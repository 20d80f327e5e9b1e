use Rattle.std.proofs.Common.{◌≡◌, ◌≤◌, ◌∙◌, List, ap, length, subst, sym}
use Rattle.std.proofs.lemmas.Result.{IfOk-weaker}
use Rattle.install_model.specs.declared.install.NewTheorem.{NewTheorem}
use Rattle.install_model.specs.Installed.{new_theorem}
use Rattle.mm_frames.specs.Contents.{Contents}
use Rattle.mm_database.specs.Books.{database_of}
use Rattle.mm_model.specs.Productions.{essentials}
use Rattle.model_laws.proofs.Checked.{no_statement_fault}
use Rattle.sheet_theorem.specs.Parts.{theorem_in}
use Rattle.sheet_theorem.proofs.TheoremLaws.{theorem_is}
use Rattle.sheet_theorem.proofs.theorem.new_theorem.Goals as goal

pub outer_hyps-requires : goal.outer_hyps-requires
outer_hyps-requires c =
    subst (λ (x : Contents). c.args.outcome.now.place ≤ length x.entries) (sym c.frames-frames.ensures)
    (c.outcomes_have_places.ensures c.args.db.now c.args.outcome.now c.requires)

pub returns-in-Ok : goal.returns-in-Ok
returns-in-Ok c = λ options text w opened is.
    let db = database_of options.kinds text c.args.db.now.rows c.args.db.now.parsed in
    let outer = c.in-Ok.ensures text (c.frames-frames.ensures ∙ opened.contents) (no_statement_fault text opened.no_fault) ∙ ap (λ n. length (essentials (db.active_at n).hyps)) is.place in
    IfOk-weaker c.theorem_in.result (λ (t : NewTheorem). t ≡ theorem_in c.in-Ok.outer c.args.outcome.now.sheet c.args.outcome.now.proof) (λ (t : NewTheorem). t ≡ new_theorem db options w)
    (λ t e. e ∙ theorem_is db options w c.in-Ok.outer c.args.outcome.now.sheet c.args.outcome.now.proof outer is.sheet is.proof) c.theorem_in.ensures
