use Rattle.std.proofs.Common.{◌∙◌}
use Rattle.std.specs.Prelude.{None}
use Rattle.std.proofs.lemmas.Result.{err_from_is_err_and}
use Rattle.nm_codec.specs.ReadSteps.{is_below, rising_items_at}
use Rattle.nm_codec.proofs.ItemLemmas.{falls, has_risen, rises_on}
use Rattle.nm_codec.proofs.rising_list.read_items.Goals as goal

pub returns-in_err-item : goal.returns-in_err-item
returns-in_err-item g c =
    let below = is_below g.F.Value.Ord.cmp in
    let read = g.F.Format.grammar.read in
    let p = err_from_is_err_and c.from_residual.result c.from_residual.ensures.1 in
    rw (p.1, p.2) (falls below read c.items.items c.args.count c.items.counter (rising_items_at below read None c.args.count c.args.reader.now.rest) c.args.reader.now c.items.reader c.read_next.new.reader c.read_next.new.reader
    c.in_err-item.field-0.0 c.items.invariant.1 c.items-test.true c.items.invariant.0 (rw (← c.as_slice.ensures) c.in_err-item.ensures))

pub items-preserved : goal.items-preserved
items-preserved g c =
    let below = is_below g.F.Value.Ord.cmp in
    let read = g.F.Format.grammar.read in
    let given = c.in_ok-item.ensures in
    let pushed = c.in_ok-push.ensures.ok in (
      rw pushed (rises_on below read c.items.items c.args.count c.items.counter c.items.reader.rest (rising_items_at below read None c.args.count c.args.reader.now.rest) c.in_ok-item.item c.read_next.new.reader.rest
          c.items-test.true (rw (← c.as_slice.ensures) given.0) c.items.invariant.0),
      given.1 ∙ c.items.invariant.1,
    )

pub returns : goal.returns
returns g c =
    let below = is_below g.F.Value.Ord.cmp in
    let read = g.F.Format.grammar.read in
    (has_risen below read c.items.items c.args.count c.items.counter c.items.reader.rest (rising_items_at below read None c.args.count c.args.reader.now.rest) c.items-test.false c.items.invariant.0, c.items.invariant.1)
