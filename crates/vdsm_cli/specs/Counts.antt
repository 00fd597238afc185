-- What the adapters have counted.
use Rattle.std.specs.Prelude.{ℕ}
use Rattle.vdsm_cli.specs.declared.std_stream.StdSource.{StdSource}
use Rattle.vdsm_cli.specs.declared.std_stream.StdSink.{StdSink}

-- how often a read has failed
abbrev pub source_faults : {I : Type 0} → StdSource I → ℕ
source_faults source = source.faults

-- how often a write has failed
abbrev pub sink_faults : {O : Type 0} → StdSink O → ℕ
sink_faults sink = sink.faults
