use Rattle.std.proofs.Common.{refl}
use Rattle.nm_decode.proofs.WordLemmas.{framed_span}
use Rattle.nm_decode.proofs.words.word_at.Goals as goal

pub returns-clause-place : goal.returns-clause-place
returns-clause-place c =
    framed_span c.args.text.now c.in-Some.charset.now c.in-Some.encoding.now c.in-Some.encoded.now _ refl c.in-Some.ensures.form
