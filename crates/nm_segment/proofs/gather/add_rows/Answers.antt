use Rattle.std.proofs.Common.{ℕ, List, [], ◌++◌, sym, ap, ◌∙◌, append-nil}
use Rattle.nm_segment.proofs.RunsLemmas.{no_runs_of, one_more}
use Rattle.nm_segment.proofs.gather.add_rows.Goals as goal

pub rows-init : goal.rows-init
rows-init c = ([], sym (append-nil c.args.runs.now), no_runs_of)

pub rows-preserved : goal.rows-preserved
rows-preserved c =
    let was = c.rows.invariant in
    let run = c.in_ok-add_to.ensures in
    one_more c.args.runs.now c.rows.runs c.push.new.self was.0 c.args.rows.now c.rows.row-index _ run.0 c.as_slice.result.now c.rows-test.true c.row-item.is was.1 was.2 run.2 (c.as_slice.ensures ∙ (run.1 ∙ ap (λ (x : List ℕ). x ++ run.0) c.new-run.ensures)) c.in_ok-push.ensures.ok
