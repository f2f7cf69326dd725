use Rattle.nm_eval.proofs.FileLemmas.{told_files}
use Rattle.nm_eval.proofs.message.Message.of.Goals as goal

pub invariant_of-result : goal.invariant_of-result
invariant_of-result c = told_files c.args.snapshot.now.files c.args.id.now c.files-files.result c.files-files.ensures
