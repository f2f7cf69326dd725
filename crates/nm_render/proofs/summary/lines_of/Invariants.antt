use Rattle.std.proofs.Common.{◌≡◌, take}
use Rattle.std.specs.List.{flat_map}
use Rattle.nm_model_answer.specs.Summary.{members_of, summary_by, summary_line}
use Rattle.nm_render.specs.Groups.{listed}
use Rattle.nm_render.proofs.summary.lines_of.Given as goal

abbrev pub invariant-names : goal.invariant-names
invariant-names l = l.lines ≡ flat_map (λ name. summary_line (summary_by l.snapshot name (listed l.matched name) (members_of l.snapshot name))) (take l.name-index l.names)
