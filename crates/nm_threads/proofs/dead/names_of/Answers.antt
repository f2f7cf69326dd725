use Rattle.std.proofs.Common.{refl, sym, ap, ◌∙◌}
use Rattle.std.specs.Option.{is_some}
use Rattle.nm_threads.specs.Labels.{Label}
use Rattle.nm_threads.specs.Maps.{at, labelling_of}
use Rattle.nm_threads.proofs.DeadLemmas.{named_more, named_same}
use Rattle.nm_threads.proofs.PlaceLemmas.{no_entry, label_at_place}
use Rattle.nm_threads.proofs.RowLemmas.{maps_labelling}
use Rattle.nm_threads.proofs.dead.names_of.Goals.{in-Some+in_ok-insert, in_default}
use Rattle.nm_threads.proofs.dead.names_of.Goals as goal

pub ids-preserved : goal.ids-preserved
ids-preserved c = λ name. elim c.match-place_of.branch [
  | in-Some+in_ok-insert w ↦
      let place = w.in-Some.ensures in
      let label : Label = record { id = c.id-item.result; number = place.0; name = w.in-Some.place.thread.name } in
      let among = label_at_place c.args.maps.now c.requires c.id-item.result place.0 w.in-Some.place.group w.in-Some.place.thread place.1 place.2 place.3 in
      ap (λ all. is_some (at name all)) w.names-is
      ∙ named_more (labelling_of c.args.maps.now).labels c.args.ids.now c.ids.id-index c.ids-test.true c.id-item.result (sym c.id-item.is) c.ids.names w.insert.new.self (record {}) label among
      (λ b second is. (maps_labelling c.args.maps.now c.requires).ids label b among second is) refl w.in_ok-insert.ensures.found c.ids.invariant name
  | in_default w ↦
      ap (λ all. is_some (at name all)) w.names-is
      ∙ named_same (labelling_of c.args.maps.now).labels c.args.ids.now c.ids.id-index c.ids-test.true c.id-item.result (sym c.id-item.is) c.ids.names (no_entry c.args.maps.now c.requires c.id-item.result w.in_default.ensures) c.ids.invariant name
]
