use Rattle.std.proofs.Common.{ℕ, List, ap, sym, ◌∙◌}
use Rattle.std.specs.List.{list_any}
use Rattle.std.specs.Str.{bytes_eq}
use Rattle.names.proofs.Mapped.{list_any_map}
use Rattle.names.proofs.Names.contains.Goals as goal

pub returns : goal.returns
returns c = c.contains.ensures ∙ sym (list_any_map (bytes_eq c.args.name.now) (λ k. k.items) c.self.inside.set.keys) ∙ ap (λ (l : List (List ℕ)). list_any (bytes_eq c.args.name.now) l) c.self.view_is
