-- How often what reaches the system failed.
use Rattle.std.specs.Prelude.{ℕ}
use Rattle.edit_source.specs.declared.host.HostSource.{HostSource}

abbrev pub host_source_faults : {R : Type 0} → HostSource R → ℕ
host_source_faults source = source.faults
