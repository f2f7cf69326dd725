use Rattle.std.proofs.Common.{ap, sym, ◌∙◌, cond, None}
use Rattle.std.specs.Cmp.Lexicographic.{slice_cmp}
use Rattle.std.specs.Ordering.{is_eq, nat_cmp}
use Rattle.nm_threads.specs.Maps.{at_id}
use Rattle.nm_threads.proofs.RemoveLemmas.{ids_left, groups_left, numbers_left}
use Rattle.nm_threads.proofs.SortedLemmas.{at_from, at_not_none}
use Rattle.nm_threads.proofs.removal.remove_number.Goals as goal

pub returns-in_default-clause-ids : goal.returns-in_default-clause-ids
returns-in_default-clause-ids c = let one = c.requires.numbers.owned c.args.number c.args.group c.requires.group in absurd (at_not_none c.args.number c.args.maps.now.ids one.0 one.1 (sym c.in_default.ensures))

pub returns-in_default-clause-groups : goal.returns-in_default-clause-groups
returns-in_default-clause-groups c = let one = c.requires.numbers.owned c.args.number c.args.group c.requires.group in absurd (at_not_none c.args.number c.args.maps.now.ids one.0 one.1 (sym c.in_default.ensures))

pub returns-clause-numbers : goal.returns-clause-numbers
returns-clause-numbers c =
    numbers_left c.args.maps.now c.requires.numbers c.args.number c.args.group c.requires.group c.in-Some.id.now (at_from c.args.number c.args.maps.now.ids c.in-Some.id.now (sym c.in-Some.ensures)) c.remove-2.new.self c.remove.new.self c.remove-3.new.self c.remove-4.new.self
    c.in_ok-remove-2.ensures.ok
    (λ other. c.in_ok-remove.ensures.found other ∙ ap (λ id. cond (is_eq (slice_cmp nat_cmp other id)) None (at_id other c.args.maps.now.numbers)) c.in_ok-id.ensures)
    c.in_ok-remove-3.ensures.found c.in_ok-remove-4.ensures.found

pub returns-clause-ids : goal.returns-clause-ids
returns-clause-ids c =
    ids_left c.args.maps.now c.requires.numbers c.args.number c.args.group c.requires.group c.in-Some.id.now (at_from c.args.number c.args.maps.now.ids c.in-Some.id.now (sym c.in-Some.ensures)) c.remove-2.new.self c.remove.new.self c.remove-3.new.self c.remove-4.new.self
    c.in_ok-remove-2.ensures.ok
    (λ other. c.in_ok-remove.ensures.found other ∙ ap (λ id. cond (is_eq (slice_cmp nat_cmp other id)) None (at_id other c.args.maps.now.numbers)) c.in_ok-id.ensures)
    c.in_ok-remove-3.ensures.found c.in_ok-remove-4.ensures.found

pub returns-clause-groups : goal.returns-clause-groups
returns-clause-groups c =
    groups_left c.args.maps.now c.requires.numbers c.args.number c.args.group c.requires.group c.in-Some.id.now (at_from c.args.number c.args.maps.now.ids c.in-Some.id.now (sym c.in-Some.ensures)) c.remove-2.new.self c.remove.new.self c.remove-3.new.self c.remove-4.new.self
    c.in_ok-remove-2.ensures.ok
    (λ other. c.in_ok-remove.ensures.found other ∙ ap (λ id. cond (is_eq (slice_cmp nat_cmp other id)) None (at_id other c.args.maps.now.numbers)) c.in_ok-id.ensures)
    c.in_ok-remove-3.ensures.found c.in_ok-remove-4.ensures.found
