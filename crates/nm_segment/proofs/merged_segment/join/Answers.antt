use Rattle.std.proofs.Common.{List, ◌++◌, ap, ◌∙◌}
use Rattle.nm_segment.specs.declared.doc_words.DocWords.{DocWords}
use Rattle.nm_segment.proofs.WalkLemmas.{joined}
use Rattle.nm_segment.proofs.merged_segment.join.Goals as goal

pub of_index-requires : goal.of_index-requires
of_index-requires c =
    let docs = c.in_ok-back.ensures.docs ∙ ap (λ (ds : List DocWords). ds ++ c.args.back.now) (c.in_ok-front.ensures.docs ∙ ap (λ (ds : List DocWords). ds ++ c.args.front.now) c.new-docs.ensures) in
    joined c.args.front.now c.args.back.now _ c.in_ok-words.words c.in_ok-words.runs _ _ c.requires c.in_ok-front.ensures.given c.in_ok-back.ensures.given docs c.in_ok-front.ensures.all c.in_ok-back.ensures.all c.in_ok-words.ensures.words
    c.in_ok-words.ensures.runs
