-- The faults of a text with a theorem in it.
use Rattle.std.specs.Prelude.{◌≡◌, ◌≤◌, ℕ, List, length, None}
use Rattle.mm_base.specs.Limits.{most_database_bytes}
use Rattle.mm_model.specs.Statements.{database_fault}
use Rattle.install_model.specs.declared.install.NewTheorem.{NewTheorem}
use Rattle.install_model.specs.Installed.{installed}
use Rattle.installed_laws.specs.CanBePutIn.{CanBePutIn}

-- a text without a fault has none with a theorem in it that can be put in, where it does not become too long
abbrev pub InstalledTextHasNoFault : Type 0
InstalledTextHasNoFault = (text : List ℕ) (place : ℕ) (t : NewTheorem) → database_fault text ≡ None → CanBePutIn text place t
    → length (installed text place t) ≤ most_database_bytes → database_fault (installed text place t) ≡ None
