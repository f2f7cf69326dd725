use Rattle.std.proofs.Common.{◌≡◌, ℕ, ◌+◌, ◌-◌, true, take, drop, ap, sym, ◌∙◌, arith}
use Rattle.std.specs.Str.{is_utf8}
use Rattle.nm_base.specs.LentWords.{length_at}
use Rattle.nm_codec.specs.Hops.{are_texts}
use Rattle.nm_codec.proofs.HopLemmas.{texts-on}
use Rattle.nm_codec.proofs.words_len.each_is_text.Goals as goal

pub words-preserved : goal.words-preserved
words-preserved c =
    let rest = c.words.rest.now in
    let text : is_utf8 (take (length_at rest) (drop 4 rest)) ≡ true = ap is_utf8 (sym c.in-Some.ensures.0) ∙ c.if-not-is_text.ensures in
    ap (are_texts (c.args.count - (c.words.counter + 1))) c.in-Some.ensures.1 ∙ texts-on c.args.count c.words.counter rest (are_texts c.args.count c.args.bytes.now) c.words-test.true text c.words.invariant

pub returns : goal.returns
unfolding are_texts
returns c =
    let done : c.args.count - c.words.counter ≡ 0 = omega (arith, c.words-test.false) in
    sym c.words.invariant ∙ ap (λ (k : ℕ). are_texts k c.words.rest.now) done
