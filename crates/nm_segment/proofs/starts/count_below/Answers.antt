-- Each probe leaves at most half of the words, with the place among them.
use Rattle.std.proofs.Common.{◌≡◌, ◌≢◌, ◌+◌, ◌-◌, ◌/◌, [], length, get_or, sym, ap, ◌∙◌, arith}
use Rattle.std.specs.Cmp.Lexicographic.{slice_cmp}
use Rattle.std.specs.Ordering.{nat_cmp}
use Rattle.std.specs.declared.cmp.Ordering.TheVariants.{Greater}
use Rattle.nm_segment.proofs.SearchLemmas.{probed_more}
use Rattle.nm_segment.proofs.StartLemmas.{sides_above, sides_below}
use Rattle.nm_segment.proofs.starts.count_below.Goals as goal

pub probes-preserved-in-Greater : goal.probes-preserved-in-Greater
probes-preserved-in-Greater g c =
    let is : slice_cmp nat_cmp c.args.start.now (get_or c.args.words.now (c.probes.low + (c.probes.high - c.probes.low) / 2) []) ≡ Greater = sym (c.in-Greater.ensures ∙ ap (slice_cmp nat_cmp c.args.start.now) c.get.ensures) in
    record {
      sides = sides_above c.args.words.now c.args.start.now c.probes.low c.probes.high _ c.requires c.probes.invariant.sides (omega arith) is;
      probed = rw c.tick.ensures (probed_more (length c.args.words.now) c.args.steps.now c.probes.steps (c.probes.high - c.probes.low) _ c.probes.invariant.probed (omega arith) (omega arith));
    }

pub probes-preserved : goal.probes-preserved
probes-preserved g c =
    let other : slice_cmp nat_cmp c.args.start.now (get_or c.args.words.now (c.probes.low + (c.probes.high - c.probes.low) / 2) []) ≢ Greater =
    λ is. c.in_default.not-Greater (c.cmp.ensures ∙ (ap (slice_cmp nat_cmp c.args.start.now) c.get.ensures ∙ is)) in
    record {
      sides = sides_below c.args.words.now c.args.start.now c.probes.low c.probes.high _ c.requires c.probes.invariant.sides (omega arith) (omega arith) other;
      probed = rw c.tick.ensures (probed_more (length c.args.words.now) c.args.steps.now c.probes.steps (c.probes.high - c.probes.low) _ c.probes.invariant.probed (omega arith) (omega arith));
    }
