use Rattle.std.proofs.Common.{ap, sym, ◌∙◌, ℕ, List}
use Rattle.std.specs.Option.{is_some}
use Rattle.nm_base.specs.declared.facts.Facts.{Facts}
use Rattle.nm_tables.specs.FileTable.{files_at_places}
use Rattle.nm_tables.proofs.FileTableLemmas.{has_places}
use Rattle.nm_tables.proofs.IteratorLemmas.{files_there, no_files}
use Rattle.nm_tables.proofs.file_table.files_by_hint.Goals as goal

pub returns-in_err-slot_hint-clause-live : goal.returns-in_err-slot_hint-clause-live
returns-in_err-slot_hint-clause-live c = ap is_some c.from_residual.ensures ∙ sym (no_files c.args.file_table.now c.requires c.args.id.now (sym c.in_err-slot_hint.ensures))

pub returns-in_err-slot_hint-clause-files : goal.returns-in_err-slot_hint-clause-files
returns-in_err-slot_hint-clause-files c = rw c.from_residual.ensures (no_files c.args.file_table.now c.requires c.args.id.now (sym c.in_err-slot_hint.ensures))

pub returns-clause-live : goal.returns-clause-live
returns-clause-live c = ap is_some (sym c.in_ok-slot_hint.ensures) ∙ has_places c.args.file_table.now c.requires c.args.id.now

pub returns-clause-files : goal.returns-clause-files
returns-clause-files c =
    c.of-files.ensures ∙ ap (λ (files : List (ℕ × (List ℕ × Facts))). files_at_places files c.as_slice.result.now) c.pairs.ensures
    ∙ ap (files_at_places c.args.file_table.now.files) (c.as_slice.ensures ∙ c.get.ensures)
    ∙ files_there c.args.file_table.now c.requires c.args.id.now c.in_ok-slot_hint.places.now (sym c.in_ok-slot_hint.ensures)
