use Rattle.std.proofs.Common.{◌≡◌, ◌++◌, codes, length, map}
use Rattle.nm_model_answer.specs.Search.{lines_text}
use Rattle.nm_model_answer.specs.View.{files_of}
use Rattle.nm_render.proofs.message.push_files.Given as goal

-- the lines so far, and those of what is left, are all
abbrev pub invariant-files : goal.invariant-files
invariant-files l =
    l.text ++ lines_text (codes "file ") (map (λ file. file.0) l.rest)
    ≡ l.initial.text ++ lines_text (codes "file ") (map (λ file. file.0) (files_of l.snapshot l.id))

abbrev pub decreases-files : goal.decreases-files
decreases-files l = length l.rest
