use Rattle.nm_record.proofs.SizeLemmas.{base_parts}
use Rattle.nm_record.proofs.laws.a_base_takes_what_its_parts_take.Goals as goal

pub returns : goal.returns
returns c = base_parts
