use Rattle.std.proofs.Common.{◌≡◌, ℕ, List, length, ◌≤◌, ◌^◌}
use Rattle.std.proofs.lemmas.Result.{IfOk-weaker, IfErr-weaker}
use Rattle.mm_base.specs.declared.kinds.Kinds.{Kinds}
use Rattle.mm_database.specs.Opened.{IsOpened}
use Rattle.proof_model.specs.Proofs.{postorder}
use Rattle.proof_tree.specs.Graphs.{root_proof}
use Rattle.written_model.specs.declared.options.ProofStyle.TheVariants as style
use Rattle.written_model.specs.WrittenSteps.{steps_in}
use Rattle.written_model.specs.Written.{proof_text, qed_proof}
use Rattle.written_steps.specs.Drafts.{book, items_in}
use Rattle.sheet_proof.specs.Provable.{HasFewLabels, IsToldOf}
use Rattle.sheet_proof.specs.Texts.{IsToldIn, text_in}
use Rattle.sheet_proof.proofs.TextLaws.{text_is, few_are, told_is}
use Rattle.sheet_proof.proofs.text.written_proof.Goals as goal

pub returns-in-Ok-clause-text : goal.returns-in-Ok-clause-text
returns-in-Ok-clause-text c =
    let d = c.args.db.now in
    let es = steps_in (items_in d c.args.items) in
    let p = root_proof c.in-Ok.graph in
    IfOk-weaker c.styled_text.result (λ text. text ≡ text_in c.args.style c.as_slice.result.now p)
    (λ proof. (kinds : Kinds) (text : List ℕ) → IsOpened kinds text d → proof ≡ proof_text (book kinds text d) c.args.style c.args.theorem.now es)
    (λ proof h kinds text opened. text_is (book kinds text d) c.args.style c.args.theorem.now es c.as_slice.result.now p proof c.as_slice.ensures (c.in-Ok.ensures kinds text opened) h)
    c.styled_text.ensures.text

pub returns-in-Ok-clause-few : goal.returns-in-Ok-clause-few
returns-in-Ok-clause-few c =
    let d = c.args.db.now in
    let es = steps_in (items_in d c.args.items) in
    let p = root_proof c.in-Ok.graph in
    IfOk-weaker c.styled_text.result (λ text. c.args.style ≡ style.Normal → length (postorder p) ≤ 2 ^ 20) (λ text. HasFewLabels d c.args.style c.args.theorem.now es)
    (λ proof h normal kinds text opened over. few_are p (qed_proof (book kinds text d) c.args.theorem.now es) (c.in-Ok.ensures kinds text opened) (h normal) over)
    c.styled_text.ensures.few

pub returns-in-Ok-clause-told : goal.returns-in-Ok-clause-told
returns-in-Ok-clause-told c =
    let d = c.args.db.now in
    let es = steps_in (items_in d c.args.items) in
    IfErr-weaker c.styled_text.result (IsToldIn c.args.style (root_proof c.in-Ok.graph)) (IsToldOf d c.args.style c.args.theorem.now es)
    (λ f h. told_is d c.args.style c.args.theorem.now es c.in-Ok.graph f c.in-Ok.ensures h)
    c.styled_text.ensures.told
