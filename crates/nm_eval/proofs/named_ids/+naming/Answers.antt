use Rattle.std.proofs.Common.{rules, sym, ap, ◌∙◌}
use Rattle.nm_eval.specs.NamedIds.{named_ids}
use Rattle.nm_eval.proofs.NamedIdLemmas.{all_more, first_found, none_more, one_unnamed}
use Rattle.nm_eval.proofs.named_ids.+naming.Goals as goal

pub first_named-returns-in-Some : goal.first_named-returns-in-Some
first_named-returns-in-Some t c =
    sym (first_found named_ids c.args.queries.now c.queries.query-index c.query-item.result c.in-Some.named c.queries-test.true c.queries.invariant
    (ap named_ids (sym c.query-item.is) ∙ search rules))

pub first_named-queries-preserved : goal.first_named-queries-preserved
first_named-queries-preserved t c =
    none_more named_ids c.args.queries.now c.queries.query-index c.query-item.result c.queries-test.true c.queries.invariant (ap named_ids (sym c.query-item.is) ∙ search rules)

pub all_named-returns-in_default : goal.all_named-returns-in_default
all_named-returns-in_default t c =
    sym (one_unnamed named_ids c.args.queries.now c.queries.query-index c.query-item.result c.queries-test.true (ap named_ids (sym c.query-item.is) ∙ search rules))

pub all_named-queries-preserved : goal.all_named-queries-preserved
all_named-queries-preserved t c =
    all_more named_ids c.args.queries.now c.queries.query-index c.query-item.result c.queries.all.items c.in-Some.named c.append.new.self.items c.queries-test.true c.queries.invariant
    (ap named_ids (sym c.query-item.is) ∙ search rules) (search rules)
