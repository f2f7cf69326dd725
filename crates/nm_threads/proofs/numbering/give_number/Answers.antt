use Rattle.std.proofs.Common.{◌≡◌, sym, ap, ◌∙◌, refl, None}
use Rattle.std.specs.BTreeMap.{insert_entry}
use Rattle.std.specs.Option.{is_some}
use Rattle.std.specs.Ordering.{nat_cmp}
use Rattle.nm_threads.specs.Maps.{at_id}
use Rattle.nm_threads.proofs.NumberLemmas.{given_old, has_is, maps_given, labels_given, new_id, old_ids}
use Rattle.nm_threads.proofs.numbering.give_number.Goals as goal

pub returns-in-Some-clause-given : goal.returns-in-Some-clause-given
returns-in-Some-clause-given c = given_old c.args.maps.now c.requires.maps c.args.id.now (ap is_some (sym c.in_ok-there.ensures.there ∙ c.in-Some.is))

pub returns-clause-maps : goal.returns-clause-maps
returns-clause-maps c =
    let absent : at_id c.args.id.now c.args.maps.now.numbers ≡ None = sym c.in_ok-there.ensures.there ∙ c.in_default.is in
    maps_given c.args.maps.now c.requires.maps c.args.id.now absent (c.requires.room (sym (has_is c.args.maps.now c.requires.maps c.args.id.now) ∙ ap is_some absent))
    c.insert.new.self c.insert_new.new.self c.insert-2.new.self c.insert-3.new.self c.insert-4.new.self
    (record { name = c.args.maps.now.next; len = 1 }) refl refl (c.in_ok-insert.ensures.ok ∙ ap (insert_entry nat_cmp c.args.maps.now.ids c.args.maps.now.next) c.in_ok-copy.ensures)
    (c.in_ok-there.ensures.new c.in_default.is)
    c.in_ok-insert-2.ensures.found c.in_ok-insert-3.ensures.found _ c.in_ok-insert-4.ensures.found

pub returns-clause-given : goal.returns-clause-given
returns-clause-given c =
    let absent : at_id c.args.id.now c.args.maps.now.numbers ≡ None = sym c.in_ok-there.ensures.there ∙ c.in_default.is in
    labels_given c.args.maps.now c.requires.maps c.args.id.now absent (c.requires.room (sym (has_is c.args.maps.now c.requires.maps c.args.id.now) ∙ ap is_some absent))
    c.insert.new.self c.insert_new.new.self c.insert-2.new.self c.insert-3.new.self c.insert-4.new.self
    (record { name = c.args.maps.now.next; len = 1 }) refl refl (c.in_ok-insert.ensures.ok ∙ ap (insert_entry nat_cmp c.args.maps.now.ids c.args.maps.now.next) c.in_ok-copy.ensures)
    (c.in_ok-there.ensures.new c.in_default.is)
    c.in_ok-insert-2.ensures.found c.in_ok-insert-3.ensures.found _ c.in_ok-insert-4.ensures.found

pub returns-clause-number : goal.returns-clause-number
returns-clause-number c =
    let absent : at_id c.args.id.now c.args.maps.now.numbers ≡ None = sym c.in_ok-there.ensures.there ∙ c.in_default.is in
    new_id c.args.maps.now c.requires.maps c.args.id.now absent (c.requires.room (sym (has_is c.args.maps.now c.requires.maps c.args.id.now) ∙ ap is_some absent))
    c.insert.new.self c.insert_new.new.self c.insert-2.new.self c.insert-3.new.self c.insert-4.new.self
    (record { name = c.args.maps.now.next; len = 1 }) refl refl (c.in_ok-insert.ensures.ok ∙ ap (insert_entry nat_cmp c.args.maps.now.ids c.args.maps.now.next) c.in_ok-copy.ensures)
    (c.in_ok-there.ensures.new c.in_default.is)
    c.in_ok-insert-2.ensures.found c.in_ok-insert-3.ensures.found _ c.in_ok-insert-4.ensures.found

pub returns-clause-others : goal.returns-clause-others
returns-clause-others c = λ number other among.
    let absent : at_id c.args.id.now c.args.maps.now.numbers ≡ None = sym c.in_ok-there.ensures.there ∙ c.in_default.is in
    old_ids c.args.maps.now c.requires.maps c.args.id.now absent (c.requires.room (sym (has_is c.args.maps.now c.requires.maps c.args.id.now) ∙ ap is_some absent))
    c.insert.new.self c.insert_new.new.self c.insert-2.new.self c.insert-3.new.self c.insert-4.new.self
    (record { name = c.args.maps.now.next; len = 1 }) refl refl (c.in_ok-insert.ensures.ok ∙ ap (insert_entry nat_cmp c.args.maps.now.ids c.args.maps.now.next) c.in_ok-copy.ensures)
    (c.in_ok-there.ensures.new c.in_default.is)
    c.in_ok-insert-2.ensures.found c.in_ok-insert-3.ensures.found _ c.in_ok-insert-4.ensures.found number other among
