-- What a store found under a name. This is part of the proof, and not of the claim.
use Rattle.std.specs.Prelude.{◌≡◌, ◌<◌, ◌≤◌, ℕ, List, length, Option, Some, IfSome, IsSomeAnd}
use Rattle.mm_base.specs.Outside.{Files, Rose}
use Rattle.mmp_run.specs.declared.files.FileRead.{FileRead}
use Rattle.mmp_run.specs.declared.files.FileRead.TheVariants.{Text, TooBig, Fault}

-- what a store that tells its files has under a name, cut at so many bytes; where it is a fault, the count of the name rose
abbrev pub IsFound : Option Files → ℕ → List ℕ → ℕ → ℕ → FileRead → Type 0
IsFound told most name before now (Text bytes) = (length bytes ≤ most) × IfSome told (λ files. files name ≡ Some bytes)
IsFound told most name before now TooBig = IfSome told (λ files. IsSomeAnd (files name) (λ bytes. most < length bytes))
IsFound told most name before now Fault = Rose before now
