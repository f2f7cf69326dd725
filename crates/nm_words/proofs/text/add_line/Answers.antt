-- What was found is what the words so far gave; at the end these are all words of the text.
use Rattle.std.proofs.Common.{sym, ◌∙◌, ap, ◌++◌, map, append_assoc}
use Rattle.std.specs.List.{flat_map, slice_split}
use Rattle.std.proofs.lemmas.List.{map_push}
use Rattle.std.proofs.lemmas.Iterator.Consumers.{YieldsList-end}
use Rattle.unicode_segmentation.proofs.SegmentsLemmas.{YieldsList-from_gives}
use Rattle.unicode_segmentation.specs.Iter.{unicode_words_left}
use Rattle.nm_words.specs.Words.{is_cut, words_in}
use Rattle.nm_words.proofs.PieceLemmas.{more_words}
use Rattle.nm_words.proofs.text.add_line.Goals as goal

pub words-preserved : goal.words-preserved
words-preserved c =
    let before = words_in (flat_map (slice_split is_cut) (map (λ w. w.now) c.words.yielded)) in
    let here = words_in (slice_split is_cut c.in-Some.word.now) in
    c.in_ok-add_pieces.ensures ∙ ap (λ f. f ++ here) c.words.invariant ∙ append_assoc c.args.found.now before here
    ∙ ap (λ l. c.args.found.now ++ l) (sym (more_words (map (λ w. w.now) c.words.yielded) c.in-Some.word.now) ∙ ap (λ l. words_in (flat_map (slice_split is_cut) l)) (sym (map_push (λ w. w.now) c.words.yielded c.in-Some.word)))

pub returns : goal.returns
returns c =
    let t = YieldsList-end (YieldsList-from_gives _ _ c.into_iter-word-iterator.result) c.words.yielded _ c.words.yielded_by _ _ c.in-None.is c.next.ensures.steps in
    c.words.invariant ∙ ap (λ l. c.args.found.now ++ words_in (flat_map (slice_split is_cut) l)) (t.0 ∙ ap unicode_words_left c.into_iter-word-iterator.ensures.into_iter_gives ∙ c.unicode_words-word-items.ensures.left)
