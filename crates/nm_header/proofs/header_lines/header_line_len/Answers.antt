use Rattle.std.proofs.Common.{sym, ◌∙◌}
use Rattle.nm_header.proofs.HeaderLemmas.{header_of_none}
use Rattle.nm_header.proofs.header_lines.header_line_len.Goals as goal

pub returns-then-is_empty : goal.returns-then-is_empty
returns-then-is_empty c = header_of_none c.args.bytes.now (sym c.is_empty.ensures ∙ c.if-is_empty.true)
