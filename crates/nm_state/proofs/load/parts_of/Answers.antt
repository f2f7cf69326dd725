use Rattle.std.proofs.Common.{◌∙◌, ◌++◌, ap, map, refl}
use Rattle.nm_model_index.specs.Index.{row_of}
use Rattle.nm_state.proofs.LoadLemmas.{opened}
use Rattle.nm_state.proofs.load.parts_of.Goals as goal

pub returns-clause-parts : goal.returns-clause-parts
returns-clause-parts c =
    (opened c.args.base.now
    (record {
      revision = c.args.base.now.revision;
      file_table = c.in_ok-file_table.file_table;
      kept = c.in_ok-kept.kept;
      labels = c.in_ok-labels.labels;
      tags = c.in_ok-tags.tags;
    }) c.in_ok-rows.rows c.requires.valid (c.in_ok-rows.ensures ∙ ap (λ files. map (λ file. row_of file.1) files ++ c.args.base.now.kept) c.as_slice.ensures) refl c.in_ok-file_table.ensures.filed
    (c.in_ok-file_table.ensures.files ∙ c.as_slice-2.ensures) c.in_ok-kept.ensures.kept (c.in_ok-kept.ensures.rows ∙ c.as_slice-3.ensures) c.in_ok-labels.ensures.entries c.in_ok-labels.ensures.next c.in_ok-labels.ensures.labels
    (c.in_ok-tags.ensures ∙ c.as_slice-4.ensures)).0
