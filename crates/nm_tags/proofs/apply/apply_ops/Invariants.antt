use Rattle.std.proofs.Common.{◌≡◌, take}
use Rattle.nm_tags.specs.Operations.{after_ops, begun_with}
use Rattle.nm_tags.proofs.apply.apply_ops.Given as goal

abbrev pub invariant-ops : goal.invariant-ops
invariant-ops l = l.after ≡ after_ops (begun_with l.fn.clear l.fn.tags) (take l.op-index l.op-items)
