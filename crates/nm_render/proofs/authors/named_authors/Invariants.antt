use Rattle.std.proofs.Common.{◌≡◌, map, take}
use Rattle.std.specs.List.{filter}
use Rattle.nm_model_answer.specs.Summary.{author_of, is_some_text}
use Rattle.nm_render.proofs.authors.named_authors.Given as goal

abbrev pub invariant-ids : goal.invariant-ids
invariant-ids l = l.authors ≡ filter is_some_text (map (author_of l.snapshot) (take l.id-index l.ids))
