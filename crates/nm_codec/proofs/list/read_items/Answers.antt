use Rattle.std.proofs.Common.{◌∙◌}
use Rattle.std.proofs.lemmas.Result.{err_from_is_err_and}
use Rattle.nm_codec.specs.ReadSteps.{items_at}
use Rattle.nm_codec.proofs.ItemLemmas.{goes_on, is_done, stops}
use Rattle.nm_codec.proofs.list.read_items.Goals as goal

pub returns-in_err-item : goal.returns-in_err-item
returns-in_err-item g c =
    let read = g.F.Format.grammar.read in
    let p = err_from_is_err_and c.from_residual.result c.from_residual.ensures.1 in
    rw (p.1, p.2) (stops read c.items.items c.args.count c.items.counter (items_at read c.args.count c.args.reader.now.rest) c.args.reader.now c.items.reader c.read.new.reader c.read.new.reader
    c.in_err-item.field-0.0 c.items.invariant.1 c.items-test.true c.items.invariant.0 c.in_err-item.ensures)

pub items-preserved : goal.items-preserved
items-preserved g c =
    let read = g.F.Format.grammar.read in
    let given = c.in_ok-item.ensures in
    let pushed = c.in_ok-push.ensures.ok in (
      rw pushed (goes_on read c.items.items c.args.count c.items.counter c.items.reader.rest (items_at read c.args.count c.args.reader.now.rest) c.in_ok-item.item c.read.new.reader.rest
          c.items-test.true given.0 c.items.invariant.0),
      given.1 ∙ c.items.invariant.1,
    )

pub returns : goal.returns
returns g c =
    let read = g.F.Format.grammar.read in
    (is_done read c.items.items c.args.count c.items.counter c.items.reader.rest (items_at read c.args.count c.args.reader.now.rest) c.items-test.false c.items.invariant.0, c.items.invariant.1)
