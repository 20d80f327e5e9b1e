-- Lemmas that the goals of several functions share.
use Rattle.std.proofs.lemmas.List.Sums.{prefix_len-le-length}
use Rattle.std.proofs.lemmas.List.{length-map}

pub ruleset lengths = prefix_len-le-length

pub ruleset mapped = length-map
