use Rattle.std.proofs.Common.{List, ◌++◌, sym, ap, ◌∙◌}
use Rattle.std.proofs.lemmas.List.Elements.{filter-append}
use Rattle.nm_segment.specs.declared.doc_words.DocWords.{DocWords}
use Rattle.nm_segment.specs.Merge.{lives, living}
use Rattle.nm_segment.proofs.LiveLemmas.{same_living}
use Rattle.nm_segment.proofs.WalkLemmas.{merged}
use Rattle.nm_segment.proofs.merged_segment.merge.Goals as goal

pub of_index-requires : goal.of_index-requires
of_index-requires c =
    let live = c.in_ok-live.live in
    let docs = c.in_ok-back.ensures.docs ∙ ap (λ (ds : List DocWords). ds ++ living live c.args.back.now) (c.in_ok-front.ensures.docs ∙ ap (λ (ds : List DocWords). ds ++ living live c.args.front.now) c.new-docs.ensures) in
    merged live c.args.front.now c.args.back.now c.new-3.new.docs c.in_ok-words.words c.in_ok-words.runs _ _ c.requires c.in_ok-front.ensures.given c.in_ok-back.ensures.given docs c.in_ok-front.ensures.living c.in_ok-back.ensures.living c.in_ok-words.ensures.words
    c.in_ok-words.ensures.runs

pub returns : goal.returns
returns c =
    let live = c.in_ok-live.live in
    let docs = c.in_ok-back.ensures.docs ∙ ap (λ (ds : List DocWords). ds ++ living live c.args.back.now) (c.in_ok-front.ensures.docs ∙ ap (λ (ds : List DocWords). ds ++ living live c.args.front.now) c.new-docs.ensures) in
    c.of_index.ensures ∙ (docs ∙ (sym (filter-append (λ (d : DocWords). lives live d.doc) c.args.front.now c.args.back.now) ∙ same_living live c.args.live.now (c.args.front.now ++ c.args.back.now) c.in_ok-live.ensures))
