use Rattle.nm_query.proofs.DepthLemmas.{pairs-answer, pairs-refused, signs-answer, signs-refused}
use Rattle.nm_query.proofs.token_laws.depth_ends_at_64_levels.Goals as goal

pub returns-clause-pairs : goal.returns-clause-pairs
returns-clause-pairs c = pairs-answer

pub returns-clause-signs : goal.returns-clause-signs
returns-clause-signs c = signs-answer

pub returns-clause-too_many_pairs : goal.returns-clause-too_many_pairs
returns-clause-too_many_pairs c = pairs-refused

pub returns-clause-too_many_signs : goal.returns-clause-too_many_signs
returns-clause-too_many_signs c = signs-refused
