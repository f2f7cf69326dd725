-- Sources and sinks in memory, which fail at listed calls. Cited by `mem_sink` and `mem_source`.
use Rattle.std.specs.Prelude.{ℕ, ◌+◌, min, List, Some, length}
use Rattle.nm_base.specs.Limits.{max_count}
use Rattle.nm_faults.specs.Calls.{CallCounts}
use Rattle.nm_io.specs.Observed.{ObservedSink, ObservedStream}

-- a source: the bytes left, and its calls
pub record SourceState : Type 0 where
  pub bytes : List ℕ
  pub calls : CallCounts

-- a sink: the bytes taken, how many of them it has handed on, its calls, and how many of these failed because there was no memory
pub record SinkState : Type 0 where
  pub bytes : List ℕ
  pub handed : ℕ
  pub calls : CallCounts
  pub out_of_memory : ℕ

abbrev pub observed_source : SourceState → ObservedStream
observed_source source = record { bytes = Some source.bytes; faults = source.calls.faults }

-- the faults of a sink: the listed calls that it met, and those that found no memory
abbrev pub observed_sink : SinkState → ObservedSink
observed_sink sink = record {
  bytes = Some sink.bytes;
  put = length sink.bytes;
  handed = sink.handed;
  faults = min (sink.calls.faults + sink.out_of_memory) max_count;
}
