-- The bytes that the adapters of streams tell.
use Rattle.std.specs.Prelude.{◌≡◌, ℕ, ◌-◌, List, ◌++◌, length, take, Option, Result, Ok, Err}
use Rattle.std.specs.Option.{option_map}
use Rattle.vdsm_cli.specs.declared.std_stream.StdSource.{StdSource}
use Rattle.vdsm_cli.specs.declared.std_stream.StdSink.{StdSink}

-- what an adapter reads from, and what it writes to
abbrev pub source_input : {I : Type 0} → StdSource I → I
source_input source = source.input

abbrev pub sink_output : {O : Type 0} → StdSink O → O
sink_output sink = sink.output

-- the bytes that are still to come, where the reader tells what it has left
abbrev pub source_left : {I : Type 0} → (I → Option (List ℕ)) → StdSource I → Option (List ℕ)
source_left remaining source = remaining source.input

-- how many of the bytes that the writer took last it couldn't flush
abbrev pub sink_unflushed : {O : Type 0} → StdSink O → ℕ
sink_unflushed sink = sink.unflushed

-- bytes, but for the last so many
abbrev pub but_last : ℕ → List ℕ → List ℕ
but_last n bytes = take (length bytes - n) bytes

-- the bytes that were given and flushed, where the writer tells what it holds
abbrev pub sink_given : {O : Type 0} → (O → Option (List ℕ)) → StdSink O → Option (List ℕ)
sink_given contents sink = option_map (but_last sink.unflushed) (contents sink.output)

-- so many bytes of the piece were taken, or nothing was given
abbrev pub Takes : {E : Type 0} → List ℕ → List ℕ → List ℕ → Result ℕ E → Type 0
Takes before after piece (Ok count) = after ≡ before ++ take count piece
Takes before after piece (Err _) = after ≡ before
