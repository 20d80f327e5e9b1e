use Rattle.std.proofs.Common.{sym}
use Rattle.serde_json.specs.View.{view}
use Rattle.edit_requests.proofs.Lines.{of_value, of_none}
use Rattle.edit_requests.proofs.request.read_request.Goals as goal

pub returns-in-Ok-clause-request : goal.returns-in-Ok-clause-request
returns-in-Ok-clause-request c = rw (of_value c.args.line.now (view c.in-Ok.value) c.in-Ok.ensures.ok) c.request_of.ensures.request

pub returns-in_default-clause-request : goal.returns-in_default-clause-request
returns-in_default-clause-request c = sym (of_none c.args.line.now (c.in-Err.ensures.err (λ m. c.in_default.not-Memory (c.classify.ensures.memory.1 m))))
