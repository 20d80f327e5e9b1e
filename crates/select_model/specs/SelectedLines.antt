-- The refusals of a step that is asked about, computed.
use Rattle.std.specs.Prelude.{◌≡◌, codes, refl}
use Rattle.select_model.specs.Selected.{no_such_step_line, step_open_line}

pub of_no_step : no_such_step_line (codes "x") ≡ codes "sheet error 82 NoSuchStep step x"
of_no_step = refl

pub of_open_step : step_open_line (codes "1") ≡ codes "sheet error 83 StepOpen step 1"
of_open_step = refl
