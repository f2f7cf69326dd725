use Rattle.std.proofs.Common.{◌∙◌}
use Rattle.nm_codec.specs.declared.read_error.ReadError.TheVariants as errors
use Rattle.nm_codec.specs.Grammar.{word_grammar}
use Rattle.nm_codec.specs.ReadSteps.{items_at}
use Rattle.nm_codec.proofs.ItemLemmas.{goes_on, is_done, stops}
use Rattle.nm_codec.proofs.words.read_words.Goals as goal

pub returns-in-Err : goal.returns-in-Err
returns-in-Err c =
    let read = word_grammar.read in
    stops read c.words.words c.args.count c.words.counter (items_at read c.args.count c.args.reader.now.rest) c.args.reader.now c.words.reader c.read_word.new.reader c.read_word.new.reader
    (errors.Bad c.in-Err.bad.at) c.words.invariant.1 c.words-test.true c.words.invariant.0 c.in-Err.ensures

pub words-preserved : goal.words-preserved
words-preserved c =
    let read = word_grammar.read in
    let given = c.in-Ok.ensures in
    let pushed = c.in_ok-push-in-Ok.ensures.ok in (
      rw pushed (goes_on read c.words.words c.args.count c.words.counter c.words.reader.rest (items_at read c.args.count c.args.reader.now.rest) c.in-Ok.word.now c.read_word.new.reader.rest
          c.words-test.true given.0 c.words.invariant.0),
      given.1 ∙ c.words.invariant.1,
    )

pub returns : goal.returns
returns c =
    let read = word_grammar.read in (
      rw c.shrink_to_fit.ensures (is_done read c.words.words c.args.count c.words.counter c.words.reader.rest (items_at read c.args.count c.args.reader.now.rest) c.words-test.false c.words.invariant.0),
      c.words.invariant.1,
    )
