use Rattle.install_laws.proofs.NamesLaw.{labels_are_put_in, symbols_stay}
use Rattle.install_laws.proofs.names_are_put_in.Goals as goal

pub returns : goal.returns
returns c = record { labels = labels_are_put_in; symbols = symbols_stay }
