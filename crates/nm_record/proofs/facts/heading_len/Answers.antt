use Rattle.std.proofs.Common.{◌∙◌}
use Rattle.nm_codec.specs.StepLaws.{both}
use Rattle.nm_record.proofs.LenLemmas.{all_pass}
use Rattle.nm_record.proofs.facts.heading_len.Goals as goal

pub returns-clause-value : goal.returns-clause-value
returns-clause-value c =
    let facts = c.args.facts.now in
    both _ _ (c.len.ensures.value ∙ all_pass facts.from) (both _ _ (c.len-2.ensures.value ∙ all_pass facts.to) (both _ _ c.len-3.ensures.value c.content_len.ensures.value))
