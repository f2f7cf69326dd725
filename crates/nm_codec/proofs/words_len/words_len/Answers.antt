use Rattle.std.proofs.Common.{◌≡◌, ℕ, ◌-◌, List, Some, ap, sym, ◌∙◌, arith, drop, length}
use Rattle.nm_codec.specs.Hops.{after_words}
use Rattle.nm_codec.proofs.HopLemmas.{end-on, hop, hops-on}
use Rattle.nm_codec.proofs.words_len.words_len.Goals as goal

pub words-init : goal.words-init
words-init c =
    let bytes = c.args.bytes.now in
    let all : c.args.count - 0 ≡ c.args.count = omega arith in
    let none : 0 ≡ length bytes - length bytes = omega arith in
    (ap (λ (k : ℕ). after_words k bytes) all, omega arith, ap (λ (k : ℕ). drop k bytes) none)

pub words-preserved : goal.words-preserved
words-preserved c =
    let here = hop c.words.rest.now c.in_ok-rest.rest.now c.in_ok-rest.ensures in
    let ends = end-on c.args.bytes.now c.words.rest.now c.in_ok-rest.rest.now here c.words.invariant.1 c.words.invariant.2 in
    (hops-on c.args.count c.words.counter c.words.rest.now c.in_ok-rest.rest.now (after_words c.args.count c.args.bytes.now) c.words-test.true c.in_ok-rest.ensures c.words.invariant.0, ends.0, ends.1)

pub returns : goal.returns
unfolding after_words
returns c =
    let done : 0 ≡ c.args.count - c.words.counter = omega (arith, c.words-test.false) in
    (omega arith, sym c.words.invariant.0 ∙ (ap (λ (k : ℕ). after_words k c.words.rest.now) (sym done) ∙ ap (λ (t : List ℕ). Some t) c.words.invariant.2), λ i. omega (arith, c.type_inv.bytes i))
