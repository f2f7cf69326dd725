-- Fewer places are spare, too. For proofs alone: those of `nm_phase` and `nm_session`.
use Rattle.std.proofs.Common.{ℕ, ◌≤◌, arith}
use Rattle.nm_trace.specs.ReservedLog.{HasSpare}
use Rattle.nm_trace.specs.declared.reserved_log.ReservedLog.{ReservedLog}

pub spare-fewer : (turns fewer begun : ℕ) (reserved : ReservedLog) → fewer ≤ turns → HasSpare turns begun reserved → HasSpare fewer begun reserved
spare-fewer turns fewer begun reserved few h =
    record { logs = omega (arith, h.logs, few); marks = omega (arith, h.marks, few); fallbacks = omega (arith, h.fallbacks, few); texts = h.texts }
