use Rattle.std.proofs.Common.{refl, ◌+◌}
use Rattle.nm_tables.proofs.FileTableLemmas.{added}
use Rattle.nm_tables.proofs.file_table.add_file.Goals as goal

pub returns-clause-filed : goal.returns-clause-filed
returns-clause-filed c =
    (added c.args.file_table.now (record { files = c.insert.new.self; places = c.insert-2.new.self; of_id = c.place_file.new.of_id; next = c.args.file_table.now.next + 1 }) c.args.path.now c.in_ok-copy-3.field-0 c.args.facts.now
    (c.in_ok-copy.field-0, c.in_ok-copy-2.field-0) c.requires.filed c.requires.new c.in_ok-copy-3.ensures (λ i. (c.in_ok-copy.ensures i, c.in_ok-copy-2.ensures i))
    c.in_ok-insert.ensures.ok c.in_ok-insert.ensures.found c.in_ok-insert-2.ensures.found c.in_ok-place_file.ensures refl c.requires.dated).0

pub returns-clause-files : goal.returns-clause-files
returns-clause-files c =
    (added c.args.file_table.now (record { files = c.insert.new.self; places = c.insert-2.new.self; of_id = c.place_file.new.of_id; next = c.args.file_table.now.next + 1 }) c.args.path.now c.in_ok-copy-3.field-0 c.args.facts.now
    (c.in_ok-copy.field-0, c.in_ok-copy-2.field-0) c.requires.filed c.requires.new c.in_ok-copy-3.ensures (λ i. (c.in_ok-copy.ensures i, c.in_ok-copy-2.ensures i))
    c.in_ok-insert.ensures.ok c.in_ok-insert.ensures.found c.in_ok-insert-2.ensures.found c.in_ok-place_file.ensures refl c.requires.dated).1
