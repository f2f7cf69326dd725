use Rattle.nm_segment.specs.Docs.{hits_of}
use Rattle.nm_segment.proofs.HitLemmas.{complete, contained, has_it, sound}
use Rattle.nm_segment.proofs.laws.hits_are_where_the_word_stands.Goals as goal

pub returns : goal.returns
returns c = λ docs word field hit sorted. (
  (λ h. sound docs word field hit sorted (has_it hit (hits_of docs word field) h.0 h.1 h.2)),
  (λ h. contained hit (hits_of docs word field) (complete docs word field hit h)),
)
