use Rattle.std.proofs.Common.{List, ◌++◌, sym, ap, ◌∙◌, append_assoc}
use Rattle.nm_segment.specs.declared.doc_words.DocWords.{DocWords}
use Rattle.nm_build.specs.Parts.{joined}
use Rattle.nm_build.proofs.PartLemmas.{cut_back, cut_front, joined-more}
use Rattle.nm_build.proofs.cut.cut_docs.Goals as goal

pub new-requires : goal.new-requires
new-requires c = cut_front c.split_at.result.0.now c.split_at.result.1.now c.parts.rest.now (sym c.split_at.ensures.by_index.0) c.parts.invariant.rest

pub parts-preserved : goal.parts-preserved
parts-preserved c =
    let part : List DocWords = c.split_at.result.0.now in
    let others : List DocWords = c.split_at.result.1.now in
    record {
      all =
          ap (λ (ps : List (List DocWords)). joined ps ++ others) c.in_ok-push.ensures.ok
          ∙ (ap (λ (ds : List DocWords). ds ++ others) (joined-more c.parts.parts c.in_ok-new.field-0 ∙ ap (λ (ds : List DocWords). joined c.parts.parts ++ ds) c.in_ok-new.ensures)
          ∙ (append_assoc (joined c.parts.parts) part others ∙ (ap (λ (ds : List DocWords). joined c.parts.parts ++ ds) (sym c.split_at.ensures.by_index.0) ∙ c.parts.invariant.all)));
      rest = cut_back part others c.parts.rest.now (sym c.split_at.ensures.by_index.0) c.parts.invariant.rest;
    }
