use Rattle.nm_dump.proofs.TagLineLemmas.{line_read}
use Rattle.nm_dump.proofs.laws.a_written_line_is_read_back.Goals as goal

pub returns : goal.returns
returns c = line_read c.a_written_tag_is_read_back.ensures
