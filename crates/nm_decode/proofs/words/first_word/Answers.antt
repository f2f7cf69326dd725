use Rattle.std.proofs.Common.{sym, ◌∙◌, arith}
use Rattle.nm_decode.proofs.WordLemmas.{found_later}
use Rattle.nm_decode.proofs.words.first_word.Goals as goal

pub places-preserved : goal.places-preserved
places-preserved c = (
  found_later c.args.text.now c.split_at.result.1.now c.places.at c.split_at.ensures.back c.places-test.true
      (sym c.in_ok-word.ensures.value ∙ c.in_default.is) c.places.invariant.0,
  omega arith,
)
