-- What is printed at the end of a phase. Cited by `print`.
use Rattle.std.specs.Prelude.{◌≡◌, ℕ, Bool, true, false, List, drop, length, Option, None, Some}
use Rattle.nm_history.specs.PrintedOut.{printed_by}
use Rattle.nm_io.specs.Observed.{ObservedSink, StreamAppends}
use Rattle.nm_log.specs.declared.log.LineLog.{LineLog}

-- the replies after the first n, which are printed already, are printed as well; or the output failed
abbrev pub PrintsRest : Bool → List LineLog → ℕ → ObservedSink → ObservedSink → Option ℕ → Type 0
PrintsRest session logs printed old new None = StreamAppends true old new (printed_by session (drop printed logs))
PrintsRest session logs printed old new (Some now) = (now ≡ length logs) × StreamAppends false old new (printed_by session (drop printed logs))
