-- How often what reaches the system failed.
use Rattle.std.specs.Prelude.{ℕ}
use Rattle.mm_base.specs.declared.host.HostStore.{HostStore}
use Rattle.mm_base.specs.declared.host.HostSink.{HostSink}

-- one count for the reads of all names
abbrev pub host_read_faults : HostStore → ℕ
host_read_faults store = store.read_faults

-- one count for the replacements of all names
abbrev pub host_replace_faults : HostStore → ℕ
host_replace_faults store = store.replace_faults

abbrev pub host_sink_faults : {W : Type 0} → HostSink W → ℕ
host_sink_faults sink = sink.faults
