use Rattle.nm_segment.proofs.HitsInLemmas.{hits_of-append}
use Rattle.nm_segment.proofs.laws.hits_of_more_documents_follow.Goals as goal

pub returns : goal.returns
returns c = hits_of-append
