use Rattle.std.proofs.Common.{sym, ◌∙◌}
use Rattle.nm_command.proofs.TableLemmas.{row-found, row-passed}
use Rattle.nm_command.proofs.table.meaning_of.Goals as goal

pub returns-then-eq : goal.returns-then-eq
returns-then-eq g c =
    row-found (λ row. (row.0.now, row.1)) c.args.word.now c.args.rows.now c.rows.name-index c.rows-item.result c.rows-test.true c.rows-item.is
    (sym c.eq.ensures ∙ c.if-eq.true) c.rows.invariant

pub rows-preserved : goal.rows-preserved
rows-preserved g c =
    row-passed (λ row. (row.0.now, row.1)) c.args.word.now c.args.rows.now c.rows.name-index c.rows-item.result c.rows-test.true c.rows-item.is
    (sym c.eq.ensures ∙ c.if-eq.false) c.rows.invariant
