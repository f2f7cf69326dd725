use Rattle.std.proofs.Common.{sym, ◌∙◌}
use Rattle.nm_header.proofs.HeaderLemmas.{rest_after, rest_of_none}
use Rattle.nm_header.proofs.header_lines.empty_line_len.Goals as goal

pub returns-then-is_empty-clause-value : goal.returns-then-is_empty-clause-value
returns-then-is_empty-clause-value c = rest_of_none c.args.bytes.now (sym c.is_empty.ensures ∙ c.if-is_empty.true)

pub returns-clause-value : goal.returns-clause-value
returns-clause-value c = rest_after c.args.bytes.now c.line_len.result c.line_len.ensures.first c.line_len.ensures.some c.line_len.ensures.within c.requires
