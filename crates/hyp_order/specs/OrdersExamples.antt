-- Orders compared, computed.
use Rattle.std.specs.Prelude.{[], ◌∷◌, refl}
use Rattle.std.proofs.Common.{inl, inr, lit<}
use Rattle.hyp_order.specs.Orders.{ComesBefore}

pub second_differs : ComesBefore (0 ∷ 1 ∷ 2 ∷ []) (0 ∷ 2 ∷ 1 ∷ [])
second_differs = inr (refl, inl (lit< tt))

pub first_decides : ComesBefore (0 ∷ 2 ∷ 1 ∷ []) (1 ∷ 0 ∷ 2 ∷ [])
first_decides = inl (lit< tt)
