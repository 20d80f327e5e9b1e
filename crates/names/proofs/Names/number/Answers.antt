use Rattle.std.proofs.Common.{ℕ, List, ap, sym, ◌∙◌, position}
use Rattle.std.specs.Str.{bytes_eq}
use Rattle.names.proofs.Mapped.{position_map}
use Rattle.names.proofs.Names.number.Goals as goal

pub returns-in-None : goal.returns-in-None
returns-in-None c =
    sym c.in-None.is ∙ c.get_index_of.ensures.index ∙ sym (position_map (bytes_eq c.args.name.now) (λ k. k.items) c.self.inside.set.keys)
    ∙ ap (λ (l : List (List ℕ)). position (bytes_eq c.args.name.now) l) c.self.view_is

pub returns-in-Some : goal.returns-in-Some
returns-in-Some c =
    sym c.in-Some.is ∙ c.get_index_of.ensures.index ∙ sym (position_map (bytes_eq c.args.name.now) (λ k. k.items) c.self.inside.set.keys)
    ∙ ap (λ (l : List (List ℕ)). position (bytes_eq c.args.name.now) l) c.self.view_is
