use Rattle.std.specs.Prelude.{List, [], ◌∷◌}
use Rattle.std.specs.List.{AllByRecursion}
use Rattle.solve_model.specs.Solutions.{Asked}
use Rattle.chain_laws.proofs.has_most_general.Goals as goal

pub returns : goal.returns
returns c = λ kinds db sheet bound accepted opened binds candidates fits.
    c.most_general_exists.ensures db bound accepted (c.bound_is_ready.ensures db sheet bound binds) (all accepted (λ x h. c.candidates_are_ready.ensures kinds db bound x opened h) candidates) fits
  where
    all : {P Q : Asked → Type 0} (xs : List Asked) → ((x : Asked) → P x → Q x) → AllByRecursion P xs → AllByRecursion Q xs
    all [] f h = tt
    all (x ∷ xs) f h = (f x h.0, all xs f h.1)
