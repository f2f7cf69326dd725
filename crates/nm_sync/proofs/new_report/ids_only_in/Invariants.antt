use Rattle.std.proofs.Common.{◌≡◌, fold, map}
use Rattle.nm_base.specs.Order.{insert, sorted}
use Rattle.nm_sync.proofs.SameLemmas.{lacking-ids}
use Rattle.nm_sync.proofs.new_report.ids_only_in.Given as goal

abbrev pub invariant-files : goal.invariant-files
invariant-files l =
    fold insert l.ids (lacking-ids l.first.files (map (λ file. file.1.id) l.file-iterator)) ≡ sorted (lacking-ids l.first.files (map (λ file. file.1.id) l.second.files))
