use Rattle.nm_model_answer.specs.RenameOutcomes.{unmoved_line}
use Rattle.nm_log.proofs.LineLemmas.{one-more}
use Rattle.nm_log.proofs.replies.add_all_unmoved.Goals as goal

pub files-preserved : goal.files-preserved
files-preserved c = one-more unmoved_line c.args.text.now c.files.text c.add_unmoved.new.text c.args.all.now c.files.unmoved-index c.unmoved-item.result c.files-test.true c.unmoved-item.is c.files.invariant c.in_ok-add_unmoved.ensures
