use Rattle.std.proofs.Common.{◌≡◌, map, take}
use Rattle.serde_json.specs.View.{view}
use Rattle.nm_model_answer.specs.Summary.{members_of, summary_by}
use Rattle.nm_render.specs.Groups.{listed}
use Rattle.nm_render.specs.SummaryData.{summary_data}
use Rattle.nm_render.proofs.summary_json.objects_of.Given as goal

abbrev pub invariant-names : goal.invariant-names
invariant-names l = map view l.objects.items ≡ map (λ name. summary_data (summary_by l.snapshot name (listed l.matched name) (members_of l.snapshot name))) (take l.name-index l.names)
