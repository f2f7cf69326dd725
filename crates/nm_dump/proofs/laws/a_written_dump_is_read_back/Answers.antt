use Rattle.nm_dump.proofs.WholeLemmas.{changes_dump_read, changes_dump_told}
use Rattle.nm_dump.proofs.laws.a_written_dump_is_read_back.Goals as goal

pub returns-clause-changes : goal.returns-clause-changes
returns-clause-changes c = changes_dump_read c.a_written_tag_is_read_back.ensures

pub returns-clause-told : goal.returns-clause-told
returns-clause-told c = changes_dump_told c.a_written_tag_is_read_back.ensures
