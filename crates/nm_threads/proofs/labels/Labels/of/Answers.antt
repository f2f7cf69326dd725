use Rattle.std.proofs.Common.{ap, ◌∙◌, arith}
use Rattle.nm_threads.proofs.OpenLemmas.{opened}
use Rattle.nm_threads.proofs.labels.Labels.of.Goals as goal

pub add_uncounted-requires-clause-room : goal.add_uncounted-requires-clause-room
add_uncounted-requires-clause-room c = omega (
  arith,
  c.requires.bounds.1,
  ap (λ all. all.1)
      (opened c.give_numbers.new.maps c.args.rows.now c.as_slice-2.result.now c.args.entries.now c.as_slice.result.now c.args.next c.as_slice-2.ensures c.as_slice.ensures c.in_ok-give_numbers.ensures.entries c.in_ok-give_numbers.ensures.next c.requires),
)

pub returns-clause-entries : goal.returns-clause-entries
returns-clause-entries c =
    ap (λ all. all.0)
    (c.in_ok-add_uncounted.ensures.numbers
    ∙ opened c.give_numbers.new.maps c.args.rows.now c.as_slice-2.result.now c.args.entries.now c.as_slice.result.now c.args.next c.as_slice-2.ensures c.as_slice.ensures c.in_ok-give_numbers.ensures.entries c.in_ok-give_numbers.ensures.next c.requires)

pub returns-clause-next : goal.returns-clause-next
returns-clause-next c =
    ap (λ all. all.1)
    (c.in_ok-add_uncounted.ensures.numbers
    ∙ opened c.give_numbers.new.maps c.args.rows.now c.as_slice-2.result.now c.args.entries.now c.as_slice.result.now c.args.next c.as_slice-2.ensures c.as_slice.ensures c.in_ok-give_numbers.ensures.entries c.in_ok-give_numbers.ensures.next c.requires)
