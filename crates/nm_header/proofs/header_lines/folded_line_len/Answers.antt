use Rattle.std.proofs.Common.{sym, ◌∙◌}
use Rattle.nm_header.proofs.HeaderLemmas.{folded_none}
use Rattle.nm_header.proofs.header_lines.folded_line_len.Goals as goal

pub returns-then-not-continues-clause-none : goal.returns-then-not-continues-clause-none
returns-then-not-continues-clause-none c = folded_none c.args.bytes.now (sym c.continues.ensures ∙ c.if-not-continues.true)
