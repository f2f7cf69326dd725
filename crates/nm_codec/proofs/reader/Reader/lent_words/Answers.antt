use Rattle.std.proofs.Common.{◌≡◌, subst, ◌∙◌, refl, drop, take}
use Rattle.nm_base.specs.LentWords.{words_at}
use Rattle.nm_codec.specs.Shared.{IsEndOf}
use Rattle.nm_codec.proofs.HopLemmas.{lent-here, reads}
use Rattle.nm_codec.proofs.reader.Reader.lent_words.Goals as goal

pub lent-requires : goal.lent-requires
lent-requires c =
    let rest = c.self.inside.rest.now in
    let len = c.in-Some-words_len.len in
    let found = c.in-Some-words_len.ensures in
    let end = subst (λ o. IsEndOf o c.self.inside.len rest) c.in-Some.is c.self.invariant.1 in
    let there = lent-here c.args.count len rest found.2 found.0 found.1 c.if-not-are_texts.ensures in
    rw (c.in_ok-copy.ensures, ← end.1) there.0

pub returns : goal.returns
returns c =
    let rest = c.self.inside.rest.now in
    let len = c.in-Some-words_len.len in
    let found = c.in-Some-words_len.ensures in
    let end = subst (λ o. IsEndOf o c.self.inside.len rest) c.in-Some.is c.self.invariant.1 in
    let there = lent-here c.args.count len rest found.2 found.0 found.1 c.if-not-are_texts.ensures in
    let read = reads c.args.count rest (drop len rest) found.1 c.if-not-are_texts.ensures in
    let same : words_at c.args.count (take len rest) ≡ words_at c.args.count rest = there.1 in
    let words : c.in_ok-words.words ≡ words_at c.args.count rest = c.in_ok-words.ensures ∙ rw (c.in_ok-copy.ensures, ← end.1) same in
    rw (← c.self.view_is, words, c.split_at.ensures.back) (read, refl)
