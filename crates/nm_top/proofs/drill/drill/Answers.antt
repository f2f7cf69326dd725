use Rattle.std.proofs.Common.{refl}
use Rattle.nm_top.specs.Drill.{run, wrong_words}
use Rattle.nm_top.proofs.DrillLemmas.{usage-said}
use Rattle.nm_top.proofs.drill.drill.Goals as goal

pub returns-in-Ok-run_its_session : goal.returns-in-Ok-run_its_session
returns-in-Ok-run_its_session g c = run c.in-Ok.count c.in-Ok.ensures.ok c.in-Ok-run_its_session.ensures c.end-status.ensures

pub returns-in-Err-Usage : goal.returns-in-Err-Usage
returns-in-Err-Usage g c =
    wrong_words c.in-Err-Usage.word c.in-Err-Usage.kind
    (usage-said c.args.words.now _ c.in-Err-Usage.word c.in-Err-Usage.kind c.in-Err-Usage.field-0-is c.in-Err-Usage.ensures.err) refl c.refuse-in-Err-Usage.ensures
