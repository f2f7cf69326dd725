use Rattle.std.proofs.Common.{rules, ◌≡◌, ◌<◌, ℕ, List, length, ap, arith}
use Rattle.std.proofs.lemmas.Result.{err_from_is_err_and}
use Rattle.nm_replay.proofs.ReplayLemmas.{all-read, gate-turn, none-replayed, read-fault, read-turn}
use Rattle.nm_replay.proofs.replay.replayed.Goals as goal

pub bodies-init : goal.bodies-init
bodies-init g c =
    let same : length c.args.read.now ≡ length c.args.bodies.now = all-read c.args.bodies.now c.args.read.now c.requires in
    search (rules, same, none-replayed)

pub bounds-bodies-at : goal.bounds-bodies-at
bounds-bodies-at g c = omega (arith, c.bodies-test.true, all-read c.args.bodies.now c.args.read.now c.requires)

pub returns-in_err-snapshot-clause-bad : goal.returns-in_err-snapshot-clause-bad
returns-in_err-snapshot-clause-bad g c =
    let p = err_from_is_err_and c.from_residual.result c.from_residual.ensures.1 in
    let within : c.bodies.at < length c.args.bodies.now = omega (arith, c.bodies-test.true, all-read c.args.bodies.now c.args.read.now c.requires) in
    rw (p.1, p.2) (read-fault c.args.bodies.now c.args.read.now c.bodies.at c.index-read-at.result c.bodies.snapshot c.bodies.gate c.in_err-snapshot.field-0.0
    c.requires within c.index-read-at.is c.bodies.invariant.replayed c.bodies.invariant.gate c.in_err-snapshot.ensures.bad c.in_err-snapshot.ensures.gate)

pub bodies-preserved : goal.bodies-preserved
bodies-preserved g c =
    let within : c.bodies.at < length c.args.bodies.now = omega (arith, c.bodies-test.true, all-read c.args.bodies.now c.args.read.now c.requires) in
    record {
      replayed = read-turn c.args.bodies.now c.args.read.now c.bodies.at c.index-read-at.result c.bodies.snapshot c.in_ok-snapshot.snapshot
          c.requires within c.index-read-at.is c.bodies.invariant.replayed c.in_ok-snapshot.ensures.ok;
      gate = gate-turn c.args.bodies.now c.bodies.at c.index-bodies-at.result c.bodies.gate c.saturating_add.result c.saturating_add-gate.result (length c.as_slice.result.now) within c.index-bodies-at.is c.bodies.invariant.gate
          c.saturating_add.ensures c.saturating_add-gate.ensures (ap (λ (l : List ℕ). length l) c.as_slice.ensures);
      within = omega (arith, c.bodies-test.true, c.bodies.invariant.end);
      end = c.bodies.invariant.end;
    }
