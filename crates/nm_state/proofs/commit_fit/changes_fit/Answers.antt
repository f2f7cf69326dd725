use Rattle.std.proofs.Common.{subst, IsTrue, arith, rules}
use Rattle.std.proofs.lemmas.List.Sums.{fold_more}
use Rattle.nm_tables.specs.FileTable.{files_in}
use Rattle.nm_parts.specs.ChangeLaws.{fit_more, fit_at}
use Rattle.nm_state.proofs.commit_fit.changes_fit.Goals as goal

pub returns-then-not-change_fits : goal.returns-then-not-change_fits
returns-then-not-change_fits c = (
  λ none. absurd (cc none),
  λ fit. subst IsTrue c.if-not-change_fits.true
      (c.change_fits.ensures.1 (fit_at (files_in c.args.file_table.now) (files_in c.changes.file_table) c.args.changes.now c.changes.change-index c.change-item.result c.changes.invariant.after c.changes-test.true c.change-item.is fit)),
)

pub changes-preserved : goal.changes-preserved
changes-preserved c = record {
  filed = c.in_ok-follow.ensures.filed;
  after = grind (arith, fold_more);
  fit = fit_more (files_in c.args.file_table.now) (files_in c.changes.file_table) c.args.changes.now c.changes.change-index c.change-item.result c.changes.invariant.after c.changes-test.true c.change-item.is c.changes.invariant.fit
      (c.change_fits.ensures.0 (search rules));
}
