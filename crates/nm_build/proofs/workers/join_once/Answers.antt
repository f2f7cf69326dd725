use Rattle.std.proofs.Common.{List, ◌++◌, length, ap, ◌∙◌}
use Rattle.std.proofs.lemmas.Result.{IfOk-weaker}
use Rattle.nm_segment.specs.declared.doc_words.DocWords.{DocWords}
use Rattle.nm_build.specs.Parts.{docs_of}
use Rattle.nm_build.proofs.PartLemmas.{few_left, joined-alike, length-alike}
use Rattle.nm_build.proofs.workers.join_once.Goals as goal

pub returns-clause-docs : goal.returns-clause-docs
returns-clause-docs g c = IfOk-weaker c.with_last.result _ _
    (λ found all. all ∙ (ap (λ (ds : List DocWords). ds ++ docs_of c.in_ok-pairs.last) (joined-alike c.in_ok-pairs.pairs c.in_ok-found.found c.in_ok-found.ensures) ∙ c.in_ok-pairs.ensures.docs)) c.with_last.ensures.docs

pub returns-clause-fewer : goal.returns-clause-fewer
returns-clause-fewer g c = IfOk-weaker c.with_last.result _ _
    (λ found count. few_left (length found) (length c.in_ok-found.found) (length c.in_ok-pairs.pairs) (length c.args.segments) c.in_ok-pairs.last count (length-alike c.in_ok-pairs.pairs c.in_ok-found.found c.in_ok-found.ensures) c.in_ok-pairs.ensures.count c.requires.some)
    c.with_last.ensures.count
