-- The refusals of a theorem that is to be put in, computed.
use Rattle.std.specs.Prelude.{◌≡◌, codes, refl}
use Rattle.std.specs.Fmt.{digits}
use Rattle.install_model.specs.InstallAnswers.{theorem_there_line, database_too_large_line}

pub of_theorem : theorem_there_line ≡ codes "sheet error 80 TheoremThere at line 1"
of_theorem = refl

pub of_bytes : database_too_large_line 268435457 ≡ codes "sheet error 81 DatabaseTooLarge bytes 268435457"
unfolding digits
of_bytes = refl
