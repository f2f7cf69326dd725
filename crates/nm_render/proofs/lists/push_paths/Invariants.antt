use Rattle.std.proofs.Common.{◌≡◌, ◌++◌, length, map}
use Rattle.nm_model_answer.specs.View.{files_of}
use Rattle.nm_render.proofs.lists.push_paths.Given as goal

-- the paths so far, and those of what is left, are all
abbrev pub invariant-files : goal.invariant-files
invariant-files l = l.paths ++ map (λ file. file.0) l.rest ≡ l.initial.paths ++ map (λ file. file.0) (files_of l.snapshot l.id)

abbrev pub decreases-files : goal.decreases-files
decreases-files l = length l.rest
