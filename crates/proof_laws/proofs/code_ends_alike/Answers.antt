use Rattle.proof_laws.proofs.CodeEndsLaw.{code_ends_as_labels, labels_end_as_code, code_is_accepted, labels_are_accepted}
use Rattle.proof_laws.proofs.code_ends_alike.Goals as goal

pub returns : goal.returns
returns c = record { code = code_ends_as_labels; labels = labels_end_as_code; code_accepted = code_is_accepted; labels_accepted = labels_are_accepted }
