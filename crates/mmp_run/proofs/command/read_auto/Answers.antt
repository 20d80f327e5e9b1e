use Rattle.std.specs.Option.{option_map}
use Rattle.std.specs.String.{string_bytes}
use Rattle.call_answers.specs.CommandLine.{options_of, auto_of}
use Rattle.mmp_run.specs.Shown.{shown, options_shown}
use Rattle.mmp_run.proofs.OptionWords.{chosen, not_chosen}
use Rattle.mmp_run.proofs.command.read_auto.Goals as goal

pub returns-in-None : goal.returns-in-None
returns-in-None c =
    not_chosen options_of (λ options names. auto_of names) string_bytes c.args.words.now c.count_options.result c.count_options.ensures.count
    (rw c.split_at.ensures.front at c.in-None.ensures.options)

pub returns-in-Some : goal.returns-in-Some
returns-in-Some c =
    chosen options_of (λ options names. auto_of names) string_bytes c.args.words.now c.count_options.result (options_shown c.in-Some.choice) (option_map shown c.read_filled.result)
    c.count_options.ensures.count (rw c.split_at.ensures.front at c.in-Some.ensures.options) (rw c.split_at.ensures.back at c.read_filled.ensures)
