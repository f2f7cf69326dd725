use Rattle.std.proofs.Common.{◌≡◌, take}
use Rattle.std.specs.List.{filter}
use Rattle.nm_model_answer.specs.Matches.{is_match}
use Rattle.nm_model_answer.specs.View.{view_of}
use Rattle.nm_eval.proofs.matcher.matches_among.Given as goal

-- what is found are the matches so far
abbrev pub invariant-ids : goal.invariant-ids
invariant-ids l =
    l.found ≡ filter (λ id. is_match l.query l.moment l.exclude (view_of l.snapshot id)) (take l.id-index l.live)
