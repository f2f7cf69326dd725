use Rattle.std.proofs.Common.{◌≡◌, ◌+◌, length}
use Rattle.nm_model_answer.specs.View.{files_of}
use Rattle.nm_render.proofs.count.add_files.Given as goal

-- those counted so far, and those that are left, are all
abbrev pub invariant-files : goal.invariant-files
invariant-files l = l.number + length l.rest ≡ l.before + length (files_of l.snapshot l.id)

abbrev pub decreases-files : goal.decreases-files
decreases-files l = length l.rest
