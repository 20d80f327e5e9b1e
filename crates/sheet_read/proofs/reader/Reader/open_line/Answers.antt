use Rattle.std.proofs.Common.{List, sym, subst, option_map, IfErr}
use Rattle.mm_model.specs.Faults.{fault}
use Rattle.sheet_text.specs.Lines.{Line}
use Rattle.sheet_text.specs.SheetStatements.{statement, tokens_in}
use Rattle.sheet_text.specs.Forms.{step_of}
use Rattle.sheet_read.specs.declared.lines.LineKind.{LineKind}
use Rattle.sheet_read.specs.Faults.{IsFault}
use Rattle.sheet_read.specs.Parts.{line_in, lines_in}
use Rattle.sheet_read.specs.Reading.{step_code, fault_with}
use Rattle.sheet_read.proofs.reader.Reader.open_line.Goals as goal

pub returns-in-Step-clause-fault : goal.returns-in-Step-clause-fault
returns-in-Step-clause-fault c =
    let l = line_in c.args.line.now in
    subst (λ (k : LineKind). IfErr c.step.result (λ e. IsFault e (fault_with k c.args.self.now l (lines_in c.args.behind.now)))) (sym c.in-Step.is)
    (subst
    (λ (ms : List Line). IfErr c.step.result
    (λ e. IsFault e
    (option_map (λ code. fault l.number code)
    (step_code c.args.self.now.names (step_of (tokens_in (statement l ms))))))) c.indented-in-Step.ensures c.step.ensures.fault)
