use Rattle.std.proofs.Common.{◌∷◌, length, sym, ap, ◌∙◌, arith}
use Rattle.nm_tags.specs.TagLines.{after_first_word, words_in}
use Rattle.nm_tags.proofs.LineLemmas.{after_word_is_shorter, words_first, words_none}
use Rattle.nm_tags.proofs.SpaceLemmas.{some_word}
use Rattle.nm_tags.proofs.words.next_word.Goals as goal

pub returns-in-Some-clause-words : goal.returns-in-Some-clause-words
returns-in-Some-clause-words c =
    let text = c.args.text.now in
    words_first text (some_word text c.in-Some.ensures.some)
    ∙ (ap (λ w. w ∷ words_in (after_first_word text)) (sym c.in-Some.ensures.first) ∙ ap (λ t. c.in-Some.word.now ∷ words_in t) (sym c.in-Some.ensures.after))

pub returns-in-Some-clause-shorter : goal.returns-in-Some-clause-shorter
returns-in-Some-clause-shorter c =
    let text = c.args.text.now in
    let short = after_word_is_shorter text (some_word text c.in-Some.ensures.some) in
    omega (arith, ap length c.in-Some.ensures.after)

pub returns-in-None-clause-words : goal.returns-in-None-clause-words
returns-in-None-clause-words c = words_none c.args.text.now c.in-None.ensures.first
