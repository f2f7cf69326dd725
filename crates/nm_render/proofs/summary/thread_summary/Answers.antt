use Rattle.std.proofs.Common.{ap₂, ◌∙◌}
use Rattle.nm_model_answer.specs.Summary.{summary_by}
use Rattle.nm_render.proofs.GroupLemmas.{members_same}
use Rattle.nm_render.proofs.summary.thread_summary.Goals as goal

pub returns-clause-value : goal.returns-clause-value
returns-clause-value c =
    c.in_ok-summary.ensures.value
    ∙ ap₂ (summary_by c.args.snapshot.now c.args.name) c.listed-matched.ensures (c.as_slice-2.ensures ∙ c.in_ok-members.ensures ∙ members_same c.args.snapshot.now c.args.name)
