use Rattle.std.proofs.Common.{◌≡◌, map, take}
use Rattle.nm_model_index.specs.Index.{row_of}
use Rattle.nm_state.proofs.load.file_rows.Given as goal

abbrev pub invariant-files : goal.invariant-files
invariant-files l = l.rows ≡ map (λ file. row_of file.1) (take l.file-index l.files)
