use Rattle.std.proofs.Common.{◌++◌, refl, ◌∙◌}
use Rattle.std.specs.Option.{option_map}
use Rattle.nm_segment.specs.Docs.{words}
use Rattle.nm_segment.specs.Merge.{docs_of_part}
use Rattle.nm_segment.proofs.HitsInLemmas.{words_sorted}
use Rattle.nm_segment.proofs.MergeLemmas.{place_back, place_front}
use Rattle.nm_segment.proofs.WalkLemmas.{all_merged, next_of, nothing_merged, smaller, word_met}
use Rattle.nm_segment.proofs.merged_index.index_of_parts.Goals as goal

pub words-init : goal.words-init
words-init c = rw (c.new-words.ensures, c.new-runs.ensures) (nothing_merged (words c.args.front.now.segment.now) (words c.args.back.now.segment.now) (docs_of_part c.args.front.now ++ docs_of_part c.args.back.now))

pub add_next-requires-clause-front : goal.add_next-requires-clause-front
add_next-requires-clause-front c =
    let is = next_of _ c.words.at _ c.words.other (words c.args.front.now.segment.now) (words c.args.back.now.segment.now) c.in-Some.next c.words-in-words.ensures c.words-in-words-2.ensures c.in-Some.ensures in
    place_front (words c.args.front.now.segment.now) c.words.at (words c.args.back.now.segment.now) c.words.other c.in-Some.next is c.words.invariant.in_front c.words.invariant.in_back (words_sorted c.args.front.now.segment.now)

pub add_next-requires-clause-back : goal.add_next-requires-clause-back
add_next-requires-clause-back c =
    let is = next_of _ c.words.at _ c.words.other (words c.args.front.now.segment.now) (words c.args.back.now.segment.now) c.in-Some.next c.words-in-words.ensures c.words-in-words-2.ensures c.in-Some.ensures in
    place_back (words c.args.front.now.segment.now) c.words.at (words c.args.back.now.segment.now) c.words.other c.in-Some.next is c.words.invariant.in_front c.words.invariant.in_back (words_sorted c.args.back.now.segment.now)

pub words-smaller : goal.words-smaller
words-smaller c =
    let is = next_of _ c.words.at _ c.words.other (words c.args.front.now.segment.now) (words c.args.back.now.segment.now) c.in-Some.next c.words-in-words.ensures c.words-in-words-2.ensures c.in-Some.ensures in
    smaller (words c.args.front.now.segment.now) c.words.at (words c.args.back.now.segment.now) c.words.other (docs_of_part c.args.front.now ++ docs_of_part c.args.back.now) c.words.words c.words.runs c.in-Some.next c.words.invariant is
    (words_sorted c.args.front.now.segment.now) (words_sorted c.args.back.now.segment.now) c.in-Some.next.rest.0 c.in-Some.next.rest.1 refl

pub words-preserved : goal.words-preserved
words-preserved c =
    let is = next_of _ c.words.at _ c.words.other (words c.args.front.now.segment.now) (words c.args.back.now.segment.now) c.in-Some.next c.words-in-words.ensures c.words-in-words-2.ensures c.in-Some.ensures in
    word_met (words c.args.front.now.segment.now) c.words.at (words c.args.back.now.segment.now) c.words.other (docs_of_part c.args.front.now ++ docs_of_part c.args.back.now) c.words.words c.words.runs c.in-Some.next c.words.invariant is
    (words_sorted c.args.front.now.segment.now) (words_sorted c.args.back.now.segment.now) c.in-Some.next.rest.0 c.in-Some.next.rest.1 refl c.add_next.new.words c.add_next.new.runs c.in_ok-add_next.ensures

pub returns-clause-words : goal.returns-clause-words
returns-clause-words c =
    let ended = c.in_default.ensures in
    c.shrink_to_fit.ensures ∙ all_merged c.args.front.now.segment.now c.args.back.now.segment.now (option_map (λ l. l.now) c.args.front.now.live) (option_map (λ l. l.now) c.args.back.now.live) c.words.at c.words.other c.words.words c.words.runs
    (rw c.words-in-words.ensures at ended.0) (rw c.words-in-words-2.ensures at ended.1) c.words.invariant
