use Rattle.std.proofs.Common.{refl, ap, ◌∙◌, cond}
use Rattle.std.specs.Prelude.{Some}
use Rattle.std.specs.Cmp.Lexicographic.{slice_cmp}
use Rattle.std.specs.Ordering.{is_eq, nat_cmp}
use Rattle.nm_tables.proofs.FileTableLemmas.{move_filed}
use Rattle.nm_tables.proofs.file_table.move_file.Goals as goal

pub returns-clause-filed : goal.returns-clause-filed
returns-clause-filed c =
    (move_filed c.args.file_table.now (record { files = c.insert.new.self; places = c.insert-2.new.self; of_id = c.args.file_table.now.of_id; next = c.args.file_table.now.next }) c.requires.filed c.args.from.now c.lying_at-place.result.0
    c.lying_at-place.result.1.now c.lying_at-place.ensures.place c.lying_at-place.ensures.file c.args.to.now c.in_ok-copy-3.field-0 (c.in_ok-copy.field-0, c.in_ok-copy-2.field-0) c.requires.free
    c.in_ok-copy-3.ensures (λ i. (c.in_ok-copy.ensures i, c.in_ok-copy-2.ensures i)) c.in_ok-insert.ensures.ok c.in_ok-insert.ensures.found
    (λ other. c.in_ok-insert-2.ensures.found other ∙ ap (λ rest. cond (is_eq (slice_cmp nat_cmp other c.in_ok-copy-3.field-0)) (Some c.lying_at-place.result.0) rest) (c.in_ok-remove.ensures.found other))
    refl refl).0

pub returns-clause-files : goal.returns-clause-files
returns-clause-files c =
    (move_filed c.args.file_table.now (record { files = c.insert.new.self; places = c.insert-2.new.self; of_id = c.args.file_table.now.of_id; next = c.args.file_table.now.next }) c.requires.filed c.args.from.now c.lying_at-place.result.0
    c.lying_at-place.result.1.now c.lying_at-place.ensures.place c.lying_at-place.ensures.file c.args.to.now c.in_ok-copy-3.field-0 (c.in_ok-copy.field-0, c.in_ok-copy-2.field-0) c.requires.free
    c.in_ok-copy-3.ensures (λ i. (c.in_ok-copy.ensures i, c.in_ok-copy-2.ensures i)) c.in_ok-insert.ensures.ok c.in_ok-insert.ensures.found
    (λ other. c.in_ok-insert-2.ensures.found other ∙ ap (λ rest. cond (is_eq (slice_cmp nat_cmp other c.in_ok-copy-3.field-0)) (Some c.lying_at-place.result.0) rest) (c.in_ok-remove.ensures.found other))
    refl refl).1
