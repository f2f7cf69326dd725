use Rattle.std.proofs.Common.{◌≡◌, length}
use Rattle.nm_trace.specs.ReservedLog.{AreFallbacks}
use Rattle.nm_trace.proofs.reserved_log.fallbacks_for.Given as goal

abbrev pub invariant-lines : goal.invariant-lines
invariant-lines l = record {
  texts : AreFallbacks l.fallbacks;
  length : length l.fallbacks ≡ l._line;
}
