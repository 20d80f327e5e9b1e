-- Why a theorem is not put in.
use Rattle.std.specs.Prelude.{◌≡◌, ◌<◌, ℕ}
use Rattle.mm_base.specs.Limits.{most_database_bytes}
use Rattle.db_install.specs.declared.text.InstallFault.{InstallFault}
use Rattle.db_install.specs.declared.text.InstallFault.TheVariants.{TooLarge, Memory}

-- the text with the theorem has so many bytes, and they are too many; want of memory says nothing
abbrev pub IsLarge : ℕ → InstallFault → Type 0
IsLarge bytes (TooLarge n) = (n ≡ bytes) × (most_database_bytes < bytes)
IsLarge bytes Memory = Unit {0}
