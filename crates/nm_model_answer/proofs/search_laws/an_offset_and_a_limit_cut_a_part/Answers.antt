use Rattle.nm_model_answer.proofs.PartLemmas.{part_is}
use Rattle.nm_model_answer.proofs.search_laws.an_offset_and_a_limit_cut_a_part.Goals as goal

pub returns : goal.returns
returns c = part_is
