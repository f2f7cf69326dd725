use Rattle.std.proofs.Common.{◌||◌, List, ℕ, sym, ap, ◌∙◌}
use Rattle.nm_base.specs.Order.{has_text}
use Rattle.nm_segment.specs.Docs.{words}
use Rattle.nm_segment.specs.Merge.{docs_of_part}
use Rattle.nm_segment.proofs.WalkLemmas.{within, words-joined}
use Rattle.nm_segment.proofs.merged_index.has_word.Goals as goal

pub returns-then-has : goal.returns-then-has
returns-then-has c =
    let word : List ℕ = c.args.next.now.word.now in
    let front = docs_of_part c.args.front.now in
    let back = docs_of_part c.args.back.now in
    sym (words-joined front back word ∙ ap (λ b. b || has_text (words back) word) (sym (c.has.ensures word c.requires.front) ∙ c.if-has.true))

pub has-requires-2 : goal.has-requires-2
has-requires-2 c = within (words c.args.back.now.segment.now) c.args.next.now.word.now c.args.next.now.back c.requires.back

pub returns : goal.returns
returns c =
    let word : List ℕ = c.args.next.now.word.now in
    let front = docs_of_part c.args.front.now in
    let back = docs_of_part c.args.back.now in
    c.has-2.ensures word c.requires.back ∙ sym (words-joined front back word ∙ ap (λ b. b || has_text (words back) word) (sym (c.has.ensures word c.requires.front) ∙ c.if-has.false))
