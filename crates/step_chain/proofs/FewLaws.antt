-- A chain's store is within the work size.
use Rattle.std.specs.Prelude.{◌≤◌, length}
use Rattle.std.proofs.Common.{◌≡◌, subst, arith}
use Rattle.mm_database.specs.Books.{database_of}
use Rattle.solve_model.specs.Bound.{work_size}
use Rattle.step_chain.specs.Held.{Held, IsHeld, OfEachBook}
use Rattle.step_chain.proofs.CountLaws.{front_few}
use Rattle.step_chain.proofs.ChainLaws.{sound_of}

pub chain_few : (h now : Held) → h ≡ now → IsHeld h → OfEachBook now (λ db. length now.nodes ≤ work_size db now.bound)
chain_few h now e inv =
    subst (λ (x : Held). OfEachBook x (λ db. length x.nodes ≤ work_size db x.bound)) e
    (λ kinds text sheet opened binds code.
    let level = (sound_of h inv).level kinds text sheet opened binds code in
    let within = front_few (database_of kinds text h.book.rows h.book.parsed) h.bound (length h.steps) in
    omega (arith, level.few, within))
