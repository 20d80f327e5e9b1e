use Rattle.std.proofs.Common.{◌≡◌, codes}
use Rattle.std.specs.Prelude.{Some, option_map}
use Rattle.std.proofs.lemmas.Result.{IfOk-weaker}
use Rattle.fault_lines.specs.FaultLines.{refusal_line}
use Rattle.sheet_unify.specs.Answered.{refusal_of}
use Rattle.sheet_unify.specs.Lines.{place_text}
use Rattle.sheet_unify.proofs.LineLaws.{sheet_line_is, bind_line_is, big_line_is}
use Rattle.sheet_unify.proofs.refusal_line.fault_line.Goals as goal

pub returns-in-Sheet : goal.returns-in-Sheet
returns-in-Sheet c =
    IfOk-weaker c.line_at.result (λ line. line ≡ place_text c.sheet_words.result.now c.in-Sheet.line) (λ line. option_map refusal_line (refusal_of c.args.fault.now) ≡ Some line)
    (λ line g. sheet_line_is c.args.fault.now c.in-Sheet.code c.in-Sheet.line c.sheet_words.result.now line c.in-Sheet.is c.sheet_words.ensures g) c.line_at.ensures

pub returns-in-Bind : goal.returns-in-Bind
returns-in-Bind c =
    IfOk-weaker c.line_at-in-Bind.result (λ line. line ≡ place_text c.bind_words.result.now c.in-Bind.line) (λ line. option_map refusal_line (refusal_of c.args.fault.now) ≡ Some line)
    (λ line g. bind_line_is c.args.fault.now c.in-Bind.code c.in-Bind.line c.bind_words.result.now line c.in-Bind.is c.bind_words.ensures g) c.line_at-in-Bind.ensures

pub returns-in-TooBig : goal.returns-in-TooBig
returns-in-TooBig c =
    IfOk-weaker c.line_at-in-TooBig.result (λ line. line ≡ place_text (codes "50 TooBig") 1) (λ line. option_map refusal_line (refusal_of c.args.fault.now) ≡ Some line)
    (λ line g. big_line_is c.args.fault.now line c.in-TooBig.is g) c.line_at-in-TooBig.ensures
