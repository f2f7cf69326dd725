-- Each probe leaves at most half of the words, with the word among them.
use Rattle.std.proofs.Common.{◌+◌, ◌-◌, [], length, sym, ap, ◌∙◌, arith}
use Rattle.std.specs.Cmp.Lexicographic.{nat_list_cmp_total, slice_cmp}
use Rattle.std.specs.Ordering.{nat_cmp}
use Rattle.nm_segment.proofs.SearchLemmas.{between_above, between_below, found_text, no_text, probed_more, steps_of}
use Rattle.nm_segment.proofs.dictionary.place_of.Goals as goal

pub probes-preserved-in-Less : goal.probes-preserved-in-Less
probes-preserved-in-Less g c =
    let b = c.probes.invariant.between in
    record {
      between = between_below (slice_cmp nat_cmp) nat_list_cmp_total c.args.word.now c.args.words.now c.requires [] c.probes.low c.probes.high _ b (omega arith) (omega arith)
          (sym (c.in-Less.ensures ∙ ap (slice_cmp nat_cmp c.args.word.now) c.get.ensures));
      probed = rw c.tick.ensures (probed_more (length c.args.words.now) c.args.steps.now c.probes.steps (c.probes.high - c.probes.low) _ c.probes.invariant.probed (omega arith) (omega arith));
    }

pub returns-in-Equal-clause-place : goal.returns-in-Equal-clause-place
returns-in-Equal-clause-place g c =
    found_text c.args.words.now c.args.word.now c.get.result.now _ (omega (arith, c.probes.invariant.between.within)) c.get.ensures c.in-Equal.ensures

pub returns-in-Equal-clause-steps : goal.returns-in-Equal-clause-steps
returns-in-Equal-clause-steps g c =
    rw c.tick.ensures (steps_of (length c.args.words.now) c.args.steps.now (c.probes.steps + 1) 0
    (probed_more (length c.args.words.now) c.args.steps.now c.probes.steps (c.probes.high - c.probes.low) 0 c.probes.invariant.probed (omega arith) (omega arith)))

pub probes-preserved : goal.probes-preserved
probes-preserved g c =
    let b = c.probes.invariant.between in
    record {
      between = between_above (slice_cmp nat_cmp) nat_list_cmp_total c.args.word.now c.args.words.now c.requires [] c.probes.low c.probes.high _ b (omega arith)
          (sym (c.in-Greater.ensures ∙ ap (slice_cmp nat_cmp c.args.word.now) c.get.ensures));
      probed = rw c.tick.ensures (probed_more (length c.args.words.now) c.args.steps.now c.probes.steps (c.probes.high - c.probes.low) _ c.probes.invariant.probed (omega arith) (omega arith));
    }

pub returns-clause-place : goal.returns-clause-place
returns-clause-place g c = no_text c.args.words.now c.args.word.now c.probes.low c.probes.high c.probes.invariant.between (omega arith)
