use Rattle.std.proofs.Common.{◌∙◌, sym, true, false}
use Rattle.std.proofs.lemmas.List.{length-map}
use Rattle.sheet_bind.specs.Seen.{name_in, names_in}
use Rattle.sheet_bind.proofs.Compared.{lengths_differ, token_step}
use Rattle.sheet_bind.proofs.symbols.same_tokens.Goals as goal

pub returns-then-tokens-formula : goal.returns-then-tokens-formula
returns-then-tokens-formula c =
    let symbols = c.args.frames.now.symbols in
    sym (lengths_differ c.args.tokens.now (names_in symbols c.args.formula.now) (λ e. c.if-tokens-formula.true (e ∙ length-map c.args.formula.now (name_in symbols))))

pub returns-then-not-is_named : goal.returns-then-not-is_named
returns-then-not-is_named c =
    sym (token_step c.args.frames.now.symbols c.args.tokens.now c.args.formula.now c.loop-i.i c.as_slice.result.now c.index-tokens-i.result _ false c.loop-i-test.true c.if-tokens-formula.false
    (c.as_slice.ensures ∙ c.index-tokens-i.is) c.if-not-is_named.ensures)
    ∙ c.loop-i.invariant

pub loop-i-preserved : goal.loop-i-preserved
loop-i-preserved c =
    sym (token_step c.args.frames.now.symbols c.args.tokens.now c.args.formula.now c.loop-i.i c.as_slice.result.now c.index-tokens-i.result _ true c.loop-i-test.true c.if-tokens-formula.false
    (c.as_slice.ensures ∙ c.index-tokens-i.is) c.if-not-is_named.ensures)
    ∙ c.loop-i.invariant
