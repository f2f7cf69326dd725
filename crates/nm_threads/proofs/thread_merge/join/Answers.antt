use Rattle.std.proofs.Common.{sym, ap, ◌∙◌, arith}
use Rattle.std.proofs.lemmas.Option.{same_Some}
use Rattle.nm_threads.specs.Maps.{at, labelling_of}
use Rattle.nm_threads.proofs.MergeLemmas.{join_itself, join_turned, lens_le, maps_joined, labels_joined}
use Rattle.nm_threads.proofs.thread_merge.join.Goals as goal

pub returns-then-first-second-clause-labels : goal.returns-then-first-second-clause-labels
returns-then-first-second-clause-labels g c =
    join_itself (labelling_of c.args.maps.now).labels c.args.first.thread.name c.args.second.thread.name
    (ap (λ thread. thread.name) (same_Some c.args.first.thread c.args.second.thread (sym c.requires.first ∙ ap (λ group. at group c.args.maps.now.threads) c.if-first-second.true ∙ c.requires.second)))

pub returns-then-first-second-2-clause-maps : goal.returns-then-first-second-2-clause-maps
returns-then-first-second-2-clause-maps g c =
    maps_joined c.args.maps.now c.merge.new.maps c.requires.maps c.args.first.group c.args.second.group c.args.first.thread c.args.second.thread (record { name = c.min.result; len = c.saturating_add.result }) c.requires.first c.requires.second c.if-first-second.false c.min.ensures
    (omega (arith, c.saturating_add.ensures, lens_le c.args.maps.now c.requires.maps c.args.first.group c.args.second.group c.args.first.thread c.args.second.thread c.requires.first c.requires.second c.if-first-second.false, c.requires.maps.small.1))
    c.in_ok-merge.ensures.ids c.in_ok-merge.ensures.numbers c.in_ok-merge.ensures.next c.in_ok-merge.ensures.members c.in_ok-merge.ensures.groups c.in_ok-merge.ensures.threads

pub returns-then-first-second-2-clause-labels : goal.returns-then-first-second-2-clause-labels
returns-then-first-second-2-clause-labels g c =
    labels_joined c.args.maps.now c.merge.new.maps c.requires.maps c.args.first.group c.args.second.group c.args.first.thread c.args.second.thread (record { name = c.min.result; len = c.saturating_add.result }) c.requires.first c.requires.second c.if-first-second.false c.min.ensures
    (omega (arith, c.saturating_add.ensures, lens_le c.args.maps.now c.requires.maps c.args.first.group c.args.second.group c.args.first.thread c.args.second.thread c.requires.first c.requires.second c.if-first-second.false, c.requires.maps.small.1))
    c.in_ok-merge.ensures.ids c.in_ok-merge.ensures.numbers c.in_ok-merge.ensures.next c.in_ok-merge.ensures.members c.in_ok-merge.ensures.groups c.in_ok-merge.ensures.threads

pub returns-clause-maps : goal.returns-clause-maps
returns-clause-maps g c =
    maps_joined c.args.maps.now c.merge-2.new.maps c.requires.maps c.args.second.group c.args.first.group c.args.second.thread c.args.first.thread (record { name = c.min.result; len = c.saturating_add.result }) c.requires.second c.requires.first (λ is. c.if-first-second.false (sym is)) (omega (arith, c.min.ensures))
    (omega (arith, c.saturating_add.ensures, lens_le c.args.maps.now c.requires.maps c.args.first.group c.args.second.group c.args.first.thread c.args.second.thread c.requires.first c.requires.second c.if-first-second.false, c.requires.maps.small.1))
    c.in_ok-merge-2.ensures.ids c.in_ok-merge-2.ensures.numbers c.in_ok-merge-2.ensures.next c.in_ok-merge-2.ensures.members c.in_ok-merge-2.ensures.groups c.in_ok-merge-2.ensures.threads

pub returns-clause-labels : goal.returns-clause-labels
returns-clause-labels g c =
    (labels_joined c.args.maps.now c.merge-2.new.maps c.requires.maps c.args.second.group c.args.first.group c.args.second.thread c.args.first.thread (record { name = c.min.result; len = c.saturating_add.result }) c.requires.second c.requires.first (λ is. c.if-first-second.false (sym is)) (omega (arith, c.min.ensures))
    (omega (arith, c.saturating_add.ensures, lens_le c.args.maps.now c.requires.maps c.args.first.group c.args.second.group c.args.first.thread c.args.second.thread c.requires.first c.requires.second c.if-first-second.false, c.requires.maps.small.1))
    c.in_ok-merge-2.ensures.ids c.in_ok-merge-2.ensures.numbers c.in_ok-merge-2.ensures.next c.in_ok-merge-2.ensures.members c.in_ok-merge-2.ensures.groups c.in_ok-merge-2.ensures.threads)
    ∙ join_turned (labelling_of c.args.maps.now).labels c.args.second.thread.name c.args.first.thread.name
