use Rattle.std.proofs.Common.{◌∙◌, ap, ℕ, List}
use Rattle.nm_base.specs.declared.facts.Facts.{Facts}
use Rattle.nm_tables.specs.FileTable.{files_at_places}
use Rattle.nm_tables.proofs.IteratorLemmas.{files_there, no_files}
use Rattle.nm_tables.proofs.file_table.files_of.Goals as goal

pub returns-in_err-places : goal.returns-in_err-places
returns-in_err-places c = rw c.from_residual.ensures (no_files c.args.file_table.now c.requires c.args.id.now c.in_err-places.ensures)

pub returns : goal.returns
returns c =
    c.of.ensures ∙ ap (λ (files : List (ℕ × (List ℕ × Facts))). files_at_places files c.as_slice.result.now) c.pairs.ensures
    ∙ ap (files_at_places c.args.file_table.now.files) (c.as_slice.ensures ∙ c.get-2.ensures) ∙ files_there c.args.file_table.now c.requires c.args.id.now c.in_ok-places.places.now c.in_ok-places.ensures
