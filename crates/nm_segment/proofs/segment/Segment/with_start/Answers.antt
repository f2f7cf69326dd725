use Rattle.std.proofs.Common.{◌≡◌, ℕ, ◌≤◌, MatchOption, Some, List, length, slice_get, subst, ap, ◌∙◌}
use Rattle.nm_segment.specs.Docs.{words}
use Rattle.nm_segment.specs.Starts.{starting}
use Rattle.nm_segment.proofs.HitsInLemmas.{words_sorted}
use Rattle.nm_segment.proofs.segment.Segment.with_start.Goals as goal

pub word_with_start-requires : goal.word_with_start-requires
word_with_start-requires g c = rw c.self.invariant.in_order (words_sorted c.self.inside.docs)

pub returns-clause-word : goal.returns-clause-word
returns-clause-word g c =
    let same : c.self.inside.words ≡ words c.args.self.now = c.self.invariant.in_order ∙ ap words c.self.view_is in
    subst (λ (list : List (List ℕ)). MatchOption c.word_with_start.result (length (starting c.args.start.now list) ≤ c.args.at) (λ word. slice_get (starting c.args.start.now list) c.args.at ≡ Some word.now)) same c.word_with_start.ensures.word
