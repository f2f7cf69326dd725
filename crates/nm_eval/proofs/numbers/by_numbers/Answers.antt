use Rattle.std.proofs.Common.{rules, ◌≡◌, ap, ◌∙◌, take_all, arith}
use Rattle.std.specs.Map.{values_of}
use Rattle.nm_eval.specs.Numbers.{live_at_numbers}
use Rattle.nm_eval.proofs.NumberLemmas.{live_are, none_yet}
use Rattle.nm_eval.proofs.numbers.by_numbers.Goals as goal

pub ids-init : goal.ids-init
ids-init c = none_yet c.args.snapshot.now c.new-numbered.result.entries c.new-numbered.ensures.empty

pub returns : goal.returns
returns c =
    let collected : c.from_vec.result ≡ values_of c.ids.numbered.entries = search rules in
    let all : c.ids.numbered.entries ≡ live_at_numbers c.args.snapshot.now c.args.ids.now =
    c.ids.invariant ∙ ap (live_at_numbers c.args.snapshot.now) (take_all c.ids.id-index c.args.ids.now (omega (arith, c.ids-test.false))) in
    live_are c.args.snapshot.now c.args.ids.now c.ids.numbered.entries c.from_vec.result collected all
