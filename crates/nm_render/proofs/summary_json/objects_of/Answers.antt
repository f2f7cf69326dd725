use Rattle.serde_json.specs.View.{view}
use Rattle.nm_model_answer.specs.Summary.{members_of, summary_by}
use Rattle.nm_render.specs.Groups.{listed}
use Rattle.nm_render.specs.SummaryData.{summary_data}
use Rattle.nm_render.proofs.ObjectLemmas.{seen_more}
use Rattle.nm_render.proofs.summary_json.objects_of.Goals as goal

pub names-preserved : goal.names-preserved
names-preserved c =
    seen_more view (λ name. summary_data (summary_by c.args.snapshot.now name (listed c.args.matched.now name) (members_of c.args.snapshot.now name))) c.names.objects.items c.push.new.self.items
    c.in_ok-thread_object.field-0 c.args.names.now c.names.name-index 0 c.names-test.true c.in_ok-push.ensures.items c.in_ok-thread_object.ensures c.names.invariant
