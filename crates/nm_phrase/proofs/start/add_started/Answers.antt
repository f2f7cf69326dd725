use Rattle.std.proofs.Common.{◌≡◌, ℕ, ◌+◌, List, ◌∙◌, arith}
use Rattle.nm_segment.specs.Docs.{words}
use Rattle.nm_segment.specs.Starts.{starting}
use Rattle.nm_phrase.specs.Found.{numbers_of}
use Rattle.nm_phrase.proofs.StartLemmas.{all_added, word_added}
use Rattle.nm_phrase.proofs.start.add_started.Goals as goal

pub words-preserved : goal.words-preserved
words-preserved g c =
    let found : List ℕ → List ℕ = numbers_of c.args.place.now.segment.now c.args.place.now.field c.args.before.now in
    let list : List (List ℕ) = starting c.args.start.now (words c.args.place.now.segment.now) in
    let next : c.in-Some-checked_add.next ≡ c.words.at + 1 = omega (arith, c.in-Some-checked_add.ensures) in (
      word_added found list c.words.at c.in-Some-checked_add.next c.in-Some.word.now c.words.docs.keys c.add_found.new.docs.keys c.in-Some.ensures.word next c.in_ok-add_found.ensures.docs ∙ c.words.invariant.0,
      omega (arith, c.in-Some.ensures.steps.1.1, c.in-Some.ensures.steps.2, c.add_found.ensures.steps, c.words.invariant.1),
    )

pub returns-clause-docs : goal.returns-clause-docs
returns-clause-docs g c =
    let found : List ℕ → List ℕ = numbers_of c.args.place.now.segment.now c.args.place.now.field c.args.before.now in
    all_added found (starting c.args.start.now (words c.args.place.now.segment.now)) c.words.at c.words.docs.keys _ c.in_default.ensures.word
    c.words.invariant.0
