use Rattle.std.proofs.Common.{◌≡◌, map, take}
use Rattle.nm_model_answer.specs.View.{tags_of}
use Rattle.nm_model_answer.specs.WantedTags.{asked_tags}
use Rattle.nm_changes.proofs.wanted_tags.line_sets.Given as goal

abbrev pub invariant-found : goal.invariant-found
invariant-found l = l.sets ≡ map (λ id. (id, asked_tags l.line (tags_of l.before id))) (take l.id-index l.found)
