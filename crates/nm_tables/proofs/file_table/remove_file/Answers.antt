use Rattle.std.proofs.Common.{refl}
use Rattle.nm_tables.proofs.FileTableLemmas.{remove_filed}
use Rattle.nm_tables.proofs.file_table.remove_file.Goals as goal

pub returns-clause-filed : goal.returns-clause-filed
returns-clause-filed c =
    (remove_filed c.args.file_table.now (record { files = c.remove.new.self; places = c.remove-2.new.self; of_id = c.remove_place.new.of_id; next = c.args.file_table.now.next }) c.requires.filed c.args.path.now c.lying_at-place.result.0
    c.lying_at-place.result.1.now c.in_ok-facts.facts c.get.result.now c.lying_at-place.ensures.place c.lying_at-place.ensures.file c.in_ok-facts.ensures c.get.ensures c.in_ok-remove.ensures.ok c.in_ok-remove.ensures.found
    c.in_ok-remove-2.ensures.found c.in_ok-remove_place.ensures refl).0

pub returns-clause-facts : goal.returns-clause-facts
returns-clause-facts c =
    (remove_filed c.args.file_table.now (record { files = c.remove.new.self; places = c.remove-2.new.self; of_id = c.remove_place.new.of_id; next = c.args.file_table.now.next }) c.requires.filed c.args.path.now c.lying_at-place.result.0
    c.lying_at-place.result.1.now c.in_ok-facts.facts c.get.result.now c.lying_at-place.ensures.place c.lying_at-place.ensures.file c.in_ok-facts.ensures c.get.ensures c.in_ok-remove.ensures.ok c.in_ok-remove.ensures.found
    c.in_ok-remove-2.ensures.found c.in_ok-remove_place.ensures refl).2

pub returns-clause-files : goal.returns-clause-files
returns-clause-files c =
    (remove_filed c.args.file_table.now (record { files = c.remove.new.self; places = c.remove-2.new.self; of_id = c.remove_place.new.of_id; next = c.args.file_table.now.next }) c.requires.filed c.args.path.now c.lying_at-place.result.0
    c.lying_at-place.result.1.now c.in_ok-facts.facts c.get.result.now c.lying_at-place.ensures.place c.lying_at-place.ensures.file c.in_ok-facts.ensures c.get.ensures c.in_ok-remove.ensures.ok c.in_ok-remove.ensures.found
    c.in_ok-remove-2.ensures.found c.in_ok-remove_place.ensures refl).1
