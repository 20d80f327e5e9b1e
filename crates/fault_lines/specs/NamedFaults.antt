-- A fault as the program tells it.
use Rattle.std.specs.Prelude.{◌≡◌, ℕ, List, [], ◌∷◌, decimal, codes}
use Rattle.mm_model.specs.Faults.{Fault, fault}
use Rattle.mm_model.specs.Names.{Name}
use Rattle.sheet_text.specs.Layout.{spaced}
use Rattle.fault_lines.specs.FaultLines.{fault_name}
use Rattle.fault_lines.specs.declared.NamedFault.{NamedFault}

-- the fault that it stands for
abbrev pub told : NamedFault → Fault
told f = fault f.place f.code

-- its name is that of its code in this table
abbrev pub IsNamed : List (ℕ × Name) → NamedFault → Type 0
IsNamed table f = f.name.now ≡ fault_name table f.code

-- its line, by what it is a fault of and what stands before its place
abbrev pub told_line : List ℕ → List ℕ → NamedFault → List ℕ
told_line kind at f = spaced (kind ∷ codes "error" ∷ decimal f.code ∷ f.name.now ∷ at ∷ decimal f.place ∷ [])
