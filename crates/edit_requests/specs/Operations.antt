-- The operations that the code tells apart. This is part of the proof, and not of the claim.
use Rattle.edit_model.specs.Requests as requests
use Rattle.edit_requests.specs.declared.operation.Operation.{Operation}
use Rattle.edit_requests.specs.declared.operation.Operation.TheVariants as operation

-- each as the operation of requests that it stands for
abbrev pub operation_of : Operation → requests.Operation
operation_of operation.Open = requests.open_operation
operation_of operation.Edit = requests.edit_operation
operation_of operation.Close = requests.close_operation
operation_of operation.Unify = requests.unify_operation
operation_of operation.Suggest = requests.suggest_operation
operation_of operation.Quit = requests.quit_operation
