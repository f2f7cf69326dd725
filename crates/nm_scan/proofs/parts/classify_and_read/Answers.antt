use Rattle.std.proofs.Common.{rules}
use Rattle.nm_scan.proofs.PartLemmas.{reads_from_ok}
use Rattle.nm_scan.proofs.parts.classify_and_read.Goals as goal

pub returns-clause-reads : goal.returns-clause-reads
returns-clause-reads g c = reads_from_ok _ _ _ _ _ _ _ c.args.part.now.read c.map_jobs_beside-next.result.0.read c.in_default.is (search rules)
