use Rattle.std.proofs.Common.{◌∙◌, ap, sym, ◌||◌}
use Rattle.nm_base.specs.Order.{has_text, same_text}
use Rattle.nm_tables.proofs.MeasureLemmas.{seen_more, seen_same}
use Rattle.nm_tables.proofs.measured_labels.count_new.Goals as goal

pub returns-then-is_known : goal.returns-then-is_known
returns-then-is_known c = λ ids are. seen_same c.args.labels.now ids c.args.seen.now c.args.bytes c.args.id.now are (sym c.is_known.ensures ∙ c.if-is_known.true)

pub returns : goal.returns
returns c = λ ids are.
    seen_more c.args.labels.now ids c.args.seen.now c.args.bytes c.args.id.now are c.insert.new.self c.in_ok-all.all (sym c.is_known.ensures ∙ c.if-is_known.false)
    (λ other. c.in_ok-insert.ensures.has other ∙ ap (λ id. same_text other id || has_text c.args.seen.now other) c.in_ok-copy.ensures) (c.in_ok-all.ensures _ c.entry_len.ensures)
