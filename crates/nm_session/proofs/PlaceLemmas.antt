-- The place of a read in the marks, and which steps are before it and after it. For `LoopLemmas` and the proofs of `barrier`.
use Rattle.std.proofs.Common.{◌≡◌, ℕ, true, false, List, [], ◌∷◌, ◌++◌, refl, sym, ap, ◌∙◌, subst, arith}
use Rattle.nm_commit.specs.declared.change.Commit.{Commit}
use Rattle.nm_history.specs.LineResult.{LeaveAlone, shows}
use Rattle.nm_model_machine.specs.declared.step.Step.{Step}
use Rattle.nm_session.specs.Loop.{StandFor}
use Rattle.nm_trace.specs.Trace.{AreOfOthers, made_in, steps_of}
use Rattle.nm_trace.specs.declared.trace.Mark.{Mark}
use Rattle.nm_trace.specs.declared.trace.Mark.TheVariants as marks
use Rattle.nm_session.proofs.TraceLemmas.{stand-append, steps-append}

-- the commits that the marks in front represent, and those after them
pub record IsCut (ms ns : List Mark) (commits : List Commit) : Type 0 where
  pub first : List Commit
  pub second : List Commit
  pub are : commits ≡ first ++ second
  pub front : StandFor ms first
  pub back : StandFor ns second

more-cut : (ms ns : List Mark) (commit : Commit) (commits : List Commit) (rest : IsCut ms ns commits) → commit ∷ commits ≡ (commit ∷ rest.first) ++ rest.second
more-cut ms ns commit commits rest = ap (λ (l : List Commit). commit ∷ l) rest.are

pub stand-cut : (ms ns : List Mark) (commits : List Commit) → StandFor (ms ++ ns) commits → IsCut ms ns commits
stand-cut [] ns commits h = record { first = []; second = commits; are = refl; front = tt; back = h }
stand-cut (marks.Made ∷ ms) ns [] h = absurd h
stand-cut (marks.Made ∷ ms) ns (commit ∷ commits) h =
    let rest = stand-cut ms ns commits h in
    record { first = commit ∷ rest.first; second = rest.second; are = more-cut ms ns commit commits rest; front = rest.front; back = rest.back }
stand-cut (marks.Begun ∷ ms) ns [] h = absurd h
stand-cut (marks.Begun ∷ ms) ns (commit ∷ commits) h =
    let rest = stand-cut ms ns commits h in
    record { first = commit ∷ rest.first; second = rest.second; are = more-cut ms ns commit commits rest; front = rest.front; back = rest.back }
stand-cut (marks.LaneRead lane ∷ ms) ns commits h = let rest = stand-cut ms ns commits h in record { first = rest.first; second = rest.second; are = rest.are; front = rest.front; back = rest.back }
stand-cut (marks.Reply lane said ∷ ms) ns commits h = let rest = stand-cut ms ns commits h in record { first = rest.first; second = rest.second; are = rest.are; front = rest.front; back = rest.back }
stand-cut (marks.Met ∷ ms) ns commits h = let rest = stand-cut ms ns commits h in record { first = rest.first; second = rest.second; are = rest.are; front = rest.front; back = rest.back }

-- marks between them that represent no commit

module _ (ms lane_read ns : List Mark) (commits : List Commit) (cut : IsCut ms ns commits) (stand : StandFor lane_read []) where
  pub steps-cut : steps_of (ms ++ ns) commits ≡ steps_of ms cut.first ++ steps_of ns cut.second
  steps-cut = ap (steps_of (ms ++ ns)) cut.are ∙ steps-append ms ns cut.first cut.second cut.front

  pub steps-between : steps_of (ms ++ (lane_read ++ ns)) commits ≡ steps_of ms cut.first ++ (steps_of lane_read [] ++ steps_of ns cut.second)
  steps-between =
      ap (steps_of (ms ++ (lane_read ++ ns))) cut.are
      ∙ (steps-append ms (lane_read ++ ns) cut.first cut.second cut.front ∙ ap (λ (l : List Step). steps_of ms cut.first ++ l) (steps-append lane_read ns [] cut.second stand))

  pub stand-between : StandFor (ms ++ (lane_read ++ ns)) commits
  stand-between = subst (StandFor (ms ++ (lane_read ++ ns))) (sym cut.are) (stand-append ms (lane_read ++ ns) cut.first cut.second cut.front (stand-append lane_read ns [] cut.second stand cut.back))

-- the steps after

pub others-alone : (lane : ℕ) (ns : List Mark) (commits : List Commit) → StandFor ns commits → AreOfOthers lane ns → LeaveAlone lane (steps_of ns commits)
others-alone lane [] commits h others = tt
others-alone lane (marks.Made ∷ ns) [] h others = absurd h
others-alone lane (marks.Made ∷ ns) (commit ∷ commits) h others = (refl, (refl, (refl, others-alone lane ns commits h others.1)))
others-alone lane (marks.Begun ∷ ns) [] h others = absurd h
others-alone lane (marks.Begun ∷ ns) (commit ∷ commits) h others = (refl, others-alone lane ns commits h others.1)
others-alone lane (marks.LaneRead other ∷ ns) commits h others = (others.0, others-alone lane ns commits h others.1)
others-alone lane (marks.Reply other said ∷ ns) commits h others = (others.0, others-alone lane ns commits h others.1)
others-alone lane (marks.Met ∷ ns) commits h others = let no : false ≡ true = others.0 in absurd (cc)

pub shows-made : (ns : List Mark) (commits : List Commit) → StandFor ns commits → shows (steps_of ns commits) ≡ made_in ns
shows-made [] commits h = refl
shows-made (marks.Made ∷ ns) [] h = absurd h
shows-made (marks.Made ∷ ns) (commit ∷ commits) h = omega (arith, shows-made ns commits h)
shows-made (marks.Begun ∷ ns) [] h = absurd h
shows-made (marks.Begun ∷ ns) (commit ∷ commits) h = omega (arith, shows-made ns commits h)
shows-made (marks.LaneRead other ∷ ns) commits h = omega (arith, shows-made ns commits h)
shows-made (marks.Reply other said ∷ ns) commits h = omega (arith, shows-made ns commits h)
shows-made (marks.Met ∷ ns) commits h = omega (arith, shows-made ns commits h)
