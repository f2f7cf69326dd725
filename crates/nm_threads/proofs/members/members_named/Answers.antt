use Rattle.std.proofs.Common.{ap, ◌∙◌, ◌+◌, length, map, arith}
use Rattle.std.specs.List.{filter_map}
use Rattle.nm_threads.specs.Labels.{named}
use Rattle.nm_threads.specs.Maps.{at, labelling_of}
use Rattle.nm_threads.proofs.ThreadLemmas.{ids_found, len_found, none_named}
use Rattle.nm_threads.proofs.members.members_named.Goals as goal

pub returns-in_default-clause-ids : goal.returns-in_default-clause-ids
returns-in_default-clause-ids g c = c.new.ensures ∙ ap (map (λ label. label.id)) (none_named c.args.name (labelling_of c.args.maps.now).labels c.in_default.ensures)

pub returns-in_default-clause-steps : goal.returns-in_default-clause-steps
returns-in_default-clause-steps g c = omega (arith, ap length (none_named c.args.name (labelling_of c.args.maps.now).labels c.in_default.ensures))

pub returns-clause-ids : goal.returns-clause-ids
returns-clause-ids g c =
    c.in_ok-ids.ensures.ids
    ∙ ap (filter_map (λ n. at n c.args.maps.now.ids)) c.as_slice.ensures
    ∙ ids_found c.args.maps.now c.requires c.in-Some.group c.in-Some.ensures.0 c.in-Some.ensures.1 c.in_ok-numbers.numbers c.in_ok-numbers.ensures.rising c.in_ok-numbers.ensures.all
    ∙ ap (λ name. map (λ label. label.id) (named name (labelling_of c.args.maps.now).labels)) c.in-Some.ensures.2

pub returns-clause-steps : goal.returns-clause-steps
returns-clause-steps g c =
    c.in_ok-ids.ensures.steps
    ∙ ap (λ all. c.args.steps.now + length all) c.as_slice.ensures
    ∙ ap (λ more. c.args.steps.now + more)
    (len_found c.args.maps.now c.requires c.in-Some.group c.in-Some.ensures.0 c.in-Some.ensures.1 c.in_ok-numbers.numbers c.in_ok-numbers.ensures.rising c.in_ok-numbers.ensures.all
    ∙ ap (λ name. length (named name (labelling_of c.args.maps.now).labels)) c.in-Some.ensures.2)
