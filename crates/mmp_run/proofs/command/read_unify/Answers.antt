use Rattle.std.specs.Option.{option_map}
use Rattle.std.specs.String.{string_bytes}
use Rattle.mmp_run.specs.Shown.{shown, options_shown}
use Rattle.mmp_run.proofs.OptionWords.{is_unify, not_unify}
use Rattle.mmp_run.proofs.command.read_unify.Goals as goal

pub returns-in-None : goal.returns-in-None
returns-in-None c =
    not_unify string_bytes c.args.words.now c.count_options.result c.count_options.ensures.count (rw c.split_at.ensures.front at c.in-None.ensures.options)

pub returns-in-Some : goal.returns-in-Some
returns-in-Some c =
    is_unify string_bytes c.args.words.now c.count_options.result (options_shown c.in-Some.choice) c.in-Some.choice.in_place (option_map shown c.read_files.result) c.count_options.ensures.count
    (rw c.split_at.ensures.front at c.in-Some.ensures.options) (rw c.split_at.ensures.front at c.in-Some.ensures.in_place) (rw c.split_at.ensures.back at c.read_files.ensures)
