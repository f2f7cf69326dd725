use Rattle.std.proofs.Common.{◌≡◌, ℕ, ◌+◌, ◌<◌, Some, [], length, get_or, sym, ap, ◌∙◌, arith}
use Rattle.nm_segment.specs.Starts.{begins}
use Rattle.nm_segment.proofs.StartLemmas.{found, missing}
use Rattle.nm_segment.proofs.starts.word_with_start.Goals as goal

pub returns-then-place-len-clause-word : goal.returns-then-place-len-clause-word
returns-then-place-len-clause-word g c =
    missing c.args.start.now c.args.words.now c.count_below.result c.args.at c.requires c.count_below.ensures.place (λ less. absurd (omega (arith, less)))

pub returns-then-not-starts_with-clause-word : goal.returns-then-not-starts_with-clause-word
returns-then-not-starts_with-clause-word g c =
    let place : c.saturating_add-place.result ≡ c.count_below.result + c.args.at = omega arith in
    let same : c.get-word.result.now ≡ get_or c.args.words.now (c.count_below.result + c.args.at) [] = c.get-word.ensures ∙ ap (λ (n : ℕ). get_or c.args.words.now n []) place in
    missing c.args.start.now c.args.words.now c.count_below.result c.args.at c.requires c.count_below.ensures.place (λ less. ap (begins c.args.start.now) (sym same) ∙ sym c.if-not-starts_with.ensures.value)

pub returns-clause-word : goal.returns-clause-word
returns-clause-word g c =
    let place : c.saturating_add-place.result ≡ c.count_below.result + c.args.at = omega arith in
    let same : c.get-word.result.now ≡ get_or c.args.words.now (c.count_below.result + c.args.at) [] = c.get-word.ensures ∙ ap (λ (n : ℕ). get_or c.args.words.now n []) place in
    let less : c.count_below.result + c.args.at < length c.args.words.now = omega arith in
    found c.args.start.now c.args.words.now c.count_below.result c.args.at c.requires c.count_below.ensures.place less (ap (begins c.args.start.now) (sym same) ∙ sym c.if-not-starts_with.ensures.value) ∙ ap Some (sym same)
