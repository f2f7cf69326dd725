-- Each probe leaves at most half of the documents, with the one that is looked for among them.
use Rattle.std.proofs.Common.{◌≡◌, ◌+◌, ◌-◌, ◌/◌, ◌<◌, length, get_or, sym, ap, ◌∙◌, arith}
use Rattle.std.specs.Cmp.{nat_cmp_total}
use Rattle.std.specs.Ordering.{nat_cmp}
use Rattle.std.specs.declared.cmp.Ordering.TheVariants.{Less, Greater}
use Rattle.std.proofs.lemmas.List.{get_or_default}
use Rattle.nm_segment.specs.declared.doc_words.DocWords.{DocWords}
use Rattle.nm_segment.specs.Docs.{numbers}
use Rattle.nm_segment.proofs.DocLemmas.{equal_numbers, here, length-numbers, nobody, number_at}
use Rattle.nm_segment.proofs.SearchLemmas.{between_above, between_below, probed_more, steps_of}
use Rattle.nm_segment.proofs.doc_places.place_of_doc.Goals as goal

pub probes-preserved-in-Less : goal.probes-preserved-in-Less
probes-preserved-in-Less g c =
    let docs = c.args.docs.now in
    let b = c.probes.invariant.between in
    let less : c.probes.low + (c.probes.high - c.probes.low) / 2 < length docs = omega (arith, b.within, length-numbers docs) in
    let is : nat_cmp c.args.doc (get_or (numbers docs) (c.probes.low + (c.probes.high - c.probes.low) / 2) 0) ≡ Less = ap (nat_cmp c.args.doc) (number_at docs _ c.index-docs-middle.result less) ∙ sym c.in-Less.ensures in
    record {
      between = between_below nat_cmp nat_cmp_total c.args.doc (numbers docs) c.requires 0 c.probes.low c.probes.high _ b (omega arith) (omega arith) is;
      probed = rw c.tick.ensures (probed_more (length docs) c.args.steps.now c.probes.steps (c.probes.high - c.probes.low) _ c.probes.invariant.probed (omega arith) (omega arith));
    }

pub probes-preserved : goal.probes-preserved
probes-preserved g c =
    let docs = c.args.docs.now in
    let b = c.probes.invariant.between in
    let less : c.probes.low + (c.probes.high - c.probes.low) / 2 < length docs = omega (arith, b.within, length-numbers docs) in
    let is : nat_cmp c.args.doc (get_or (numbers docs) (c.probes.low + (c.probes.high - c.probes.low) / 2) 0) ≡ Greater = ap (nat_cmp c.args.doc) (number_at docs _ c.index-docs-middle.result less) ∙ sym c.in-Greater.ensures in
    record {
      between = between_above nat_cmp nat_cmp_total c.args.doc (numbers docs) c.requires 0 c.probes.low c.probes.high _ b (omega arith) is;
      probed = rw c.tick.ensures (probed_more (length docs) c.args.steps.now c.probes.steps (c.probes.high - c.probes.low) _ c.probes.invariant.probed (omega arith) (omega arith));
    }

pub returns-in-Equal : goal.returns-in-Equal
returns-in-Equal g c =
    let docs = c.args.docs.now in
    let less : c.probes.low + (c.probes.high - c.probes.low) / 2 < length docs = omega (arith, c.probes.invariant.between.within, length-numbers docs) in
    record {
      place = (less, λ d. here docs c.args.doc _ d c.requires less (equal_numbers _ _ c.in-Equal.ensures ∙ ap (λ (x : DocWords). x.doc) (get_or_default docs _ c.index-docs-middle.result d less)));
      steps = rw c.tick.ensures (steps_of (length docs) c.args.steps.now (c.probes.steps + 1) 0
          (probed_more (length docs) c.args.steps.now c.probes.steps (c.probes.high - c.probes.low) 0 c.probes.invariant.probed (omega arith) (omega arith)));
    }

pub returns-clause-place : goal.returns-clause-place
returns-clause-place g c = nobody c.args.docs.now c.args.doc c.probes.low c.probes.high c.probes.invariant.between (omega arith)
