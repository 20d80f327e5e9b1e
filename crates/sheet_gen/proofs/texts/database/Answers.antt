use Rattle.std.proofs.Common.{rules}
use Rattle.trial_texts.specs.TrialTexts.{trial_database}
use Rattle.sheet_gen.proofs.texts.database.Goals as goal

pub returns : goal.returns
unfolding trial_database
returns c = search rules
