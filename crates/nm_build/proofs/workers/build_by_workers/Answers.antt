use Rattle.std.proofs.Common.{◌∙◌}
use Rattle.std.proofs.lemmas.Result.{IfOk-weaker}
use Rattle.nm_build.proofs.PartLemmas.{joined-alike}
use Rattle.nm_build.proofs.workers.build_by_workers.Goals as goal

pub join_all-requires-clause-rising : goal.join_all-requires-clause-rising
join_all-requires-clause-rising g c = λ lifetimes outlives.
    let all = joined-alike c.in_ok-parts.parts c.in_ok-segments.segments c.in_ok-segments.ensures ∙ (c.in_ok-parts.ensures ∙ c.as_slice.ensures) in
    rw all c.requires.docs.rising

pub returns : goal.returns
returns g c =
    let all = joined-alike c.in_ok-parts.parts c.in_ok-segments.segments c.in_ok-segments.ensures ∙ (c.in_ok-parts.ensures ∙ c.as_slice.ensures) in
    IfOk-weaker c.join_all.result _ _ (λ segment is. is ∙ all) c.join_all.ensures
