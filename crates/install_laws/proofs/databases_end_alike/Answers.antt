use Rattle.install_laws.proofs.TwoDatabasesLaws.{same_pairs}
use Rattle.install_laws.proofs.MorePairsLaw.{more_pairs}
use Rattle.install_laws.proofs.databases_end_alike.Goals as goal

pub returns-clause-same : goal.returns-clause-same
returns-clause-same c = same_pairs

pub returns-clause-more : goal.returns-clause-more
returns-clause-more c = more_pairs
