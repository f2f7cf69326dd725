use Rattle.nm_tags.proofs.DecodeLemmas.{tag_read}
use Rattle.nm_tags.proofs.laws.a_written_tag_is_read_back.Goals as goal

pub returns : goal.returns
returns c = tag_read
