-- What was read before, and what is still read.
use Rattle.std.proofs.Common.{◌≡◌, List, ◌++◌, Result, Ok, Err, refl, sym, ap, append_assoc}
use Rattle.compressed_proof.specs.declared.fault.CodeFault.{CodeFault}
use Rattle.proof_model.specs.declared.code.Step.{Step}
use Rattle.compressed_proof.specs.Reading.{with_front}

pub with_front-with_front : (front more : List Step) (r : Result (List Step) CodeFault) → with_front front (with_front more r) ≡ with_front (front ++ more) r
with_front-with_front front more (Ok ss) = ap (λ (x : List Step). Ok x) (sym (append_assoc front more ss))
with_front-with_front front more (Err e) = refl

pub ruleset fronts = with_front-with_front
