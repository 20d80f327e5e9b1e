use Rattle.std.proofs.Common.{◌≡◌, ◌-◌, Option, get_or, take, drop, length, sym, ◌∙◌, refl}
use Rattle.std.proofs.lemmas.Result.{IfOk-weaker}
use Rattle.mm_model.specs.declared.rows.Production.{Production}
use Rattle.mm_model.specs.Names.{sym as symbol}
use Rattle.mm_model.specs.Productions.{row_of_frame}
use Rattle.mm_database.specs.Productions.{with_text}
use Rattle.mm_database.proofs.Repeats.{first_of}
use Rattle.mm_database.proofs.Typed.{with_text_is}
use Rattle.mm_database.proofs.productions.production_of.Goals as goal

pub returns-in-len1-up : goal.returns-in-len1-up
returns-in-len1-up c =
    let f = c.args.frame.now in
    let formula = c.as_slice.result.now in
    let code = get_or formula 0 (symbol 0) in
    let text = take (length formula - 1) (drop 1 formula) in
    let is =
    with_text_is c.args.provable f code text (sym c.is_syntax.ensures ∙ c.if-not-is_syntax.false)
    (sym c.as_slice.ensures ∙ first_of formula (symbol 0) code c.in-len1-up.len_at_least refl) in
    IfOk-weaker c.with_text.result (λ (row : Option Production). row ≡ with_text f code text) (λ (row : Option Production). row ≡ row_of_frame c.args.provable f) (λ row e. e ∙ is) c.with_text.ensures
