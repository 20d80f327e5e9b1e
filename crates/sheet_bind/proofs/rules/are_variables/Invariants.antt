use Rattle.std.proofs.Common.{◌≡◌, take, true}
use Rattle.std.specs.List.{list_all}
use Rattle.sheet_bind.specs.Seen.{is_variable_named}
use Rattle.sheet_bind.proofs.rules.are_variables.Given as goal

abbrev pub invariant-loop-name : goal.invariant-loop-name
invariant-loop-name l = list_all (is_variable_named l.frames l.setting) (take l.name-index l.names) ≡ true
