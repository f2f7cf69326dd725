use Rattle.nm_log.specs.Replies.{printed_line}
use Rattle.nm_log.proofs.Printed.{line_fails}
use Rattle.nm_log.proofs.print.put_lines.Goals as goal

pub returns-in_err-print_line : goal.returns-in_err-print_line
returns-in_err-print_line g c =
    line_fails printed_line (g.O.Sink.observed c.args.out.now) (g.O.Sink.observed c.lines.out) (g.O.Sink.observed c.print_line.new.out) c.from_residual.result _ (tt {0}) c.args.lines.now c.lines.log-index c.log-item.result
    c.lines-test.true c.log-item.is c.from_residual.ensures.0 c.lines.invariant c.in_err-print_line.ensures
