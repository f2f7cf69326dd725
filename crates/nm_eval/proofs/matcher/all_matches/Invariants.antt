use Rattle.std.proofs.Common.{◌≡◌, ◌++◌, length}
use Rattle.std.specs.List.{AllByRecursion, filter}
use Rattle.nm_model_answer.specs.Matches.{is_match, matches_of}
use Rattle.nm_model_answer.specs.Test.{passes}
use Rattle.nm_model_answer.specs.View.{View, view_of}
use Rattle.nm_eval.proofs.LiveLemmas.{HasItsFiles, ids_in}
use Rattle.nm_eval.proofs.matcher.all_matches.Given as goal

-- what is found, and what matches of what is left, is all; what is asked passes as the query does; and what is left comes with its files
abbrev pub invariant-messages : goal.invariant-messages
invariant-messages l =
    (l.found ++ filter (λ id. is_match l.query l.moment l.exclude (view_of l.snapshot id)) (ids_in l.rest) ≡ matches_of l.snapshot l.query l.moment l.exclude)
    × ((message : View) → passes l.asked message l.moment ≡ passes l.query message l.moment)
    × AllByRecursion (HasItsFiles l.snapshot.files) l.rest

abbrev pub decreases-messages : goal.decreases-messages
decreases-messages l = length l.rest
