-- The steps of marks after marks, and those of a line. For `LoopLemmas`, `PlaceLemmas` and `EndLemmas`.
use Rattle.std.proofs.Common.{◌≡◌, ℕ, ◌+◌, ◌*◌, suc, List, [], ◌∷◌, ◌++◌, length, map, refl, sym, ap, ◌∙◌, arith}
use Rattle.std.proofs.lemmas.List.{length-append}
use Rattle.std.specs.List.{AllByRecursion, flat_map}
use Rattle.nm_commit.specs.declared.change.Commit.{Commit}
use Rattle.nm_history.specs.LineResult.{begin_step, commit_steps, line_steps, lane_read_steps, reply_step, said_of}
use Rattle.nm_history.specs.Lines.{RunLine, begun}
use Rattle.nm_history.specs.MachineRun.{Replied, replied_where, reply_to}
use Rattle.nm_log.specs.ParsedLine.{parse_line}
use Rattle.nm_log.specs.declared.line_parser.ParsedLine.{ParsedLine}
use Rattle.nm_log.specs.declared.line_parser.ParsedLine.TheVariants as asked
use Rattle.nm_log.specs.declared.outcome.Outcome.{Outcome}
use Rattle.nm_log.specs.declared.outcome.Outcome.TheVariants as outcomes
use Rattle.nm_model_machine.specs.declared.step.Step.{Step}
use Rattle.nm_model_machine.specs.declared.step.Step.TheVariants as steps
use Rattle.nm_session.specs.Loop.{StandFor}
use Rattle.nm_trace.specs.Trace.{begun_mark, line_marks, lane_read_marks, reply_mark, said_mark, said_marks, steps_of}
use Rattle.nm_trace.specs.declared.trace.Mark.{Mark}
use Rattle.nm_trace.specs.declared.trace.Mark.TheVariants as marks
use Rattle.nm_log.specs.declared.log.Said.{Said}

pub stand-append : (ms ns : List Mark) (xs ys : List Commit) → StandFor ms xs → StandFor ns ys → StandFor (ms ++ ns) (xs ++ ys)
stand-append [] ns [] ys h more = more
stand-append [] ns (x ∷ xs) ys h more = absurd h
stand-append (marks.Made ∷ ms) ns [] ys h more = absurd h
stand-append (marks.Made ∷ ms) ns (x ∷ xs) ys h more = stand-append ms ns xs ys h more
stand-append (marks.Begun ∷ ms) ns [] ys h more = absurd h
stand-append (marks.Begun ∷ ms) ns (x ∷ xs) ys h more = stand-append ms ns xs ys h more
stand-append (marks.LaneRead lane ∷ ms) ns xs ys h more = stand-append ms ns xs ys h more
stand-append (marks.Reply lane said ∷ ms) ns xs ys h more = stand-append ms ns xs ys h more
stand-append (marks.Met ∷ ms) ns xs ys h more = stand-append ms ns xs ys h more

pub steps-append : (ms ns : List Mark) (xs ys : List Commit) → StandFor ms xs → steps_of (ms ++ ns) (xs ++ ys) ≡ steps_of ms xs ++ steps_of ns ys
steps-append [] ns [] ys h = refl
steps-append [] ns (x ∷ xs) ys h = absurd h
steps-append (marks.Made ∷ ms) ns [] ys h = absurd h
steps-append (marks.Made ∷ ms) ns (x ∷ xs) ys h = ap (λ (l : List Step). steps.Begin x ∷ steps.Append ∷ steps.Show ∷ l) (steps-append ms ns xs ys h)
steps-append (marks.Begun ∷ ms) ns [] ys h = absurd h
steps-append (marks.Begun ∷ ms) ns (x ∷ xs) ys h = ap (λ (l : List Step). steps.Begin x ∷ l) (steps-append ms ns xs ys h)
steps-append (marks.LaneRead lane ∷ ms) ns xs ys h = ap (λ (l : List Step). steps.See lane ∷ l) (steps-append ms ns xs ys h)
steps-append (marks.Reply lane said ∷ ms) ns xs ys h = ap (λ (l : List Step). steps.Reply lane said.request said.text ∷ l) (steps-append ms ns xs ys h)
steps-append (marks.Met ∷ ms) ns xs ys h = ap (λ (l : List Step). steps.Meet ∷ l) (steps-append ms ns xs ys h)

-- the marks of a line

replies-stand : (replies : List Replied) → StandFor (map reply_mark replies) []
replies-stand [] = tt
replies-stand (replied ∷ replies) = replies-stand replies

flight-stands : (in_flight : List Commit) (replies : List Replied) → StandFor (map begun_mark in_flight ++ map reply_mark replies) in_flight
flight-stands [] replies = replies-stand replies
flight-stands (commit ∷ in_flight) replies = flight-stands in_flight replies

pub line-stands : (made in_flight : List Commit) (replies : List Replied) → StandFor (line_marks made in_flight replies) (made ++ in_flight)
line-stands [] in_flight replies = flight-stands in_flight replies
line-stands (commit ∷ made) in_flight replies = line-stands made in_flight replies

pub lane_read-stands : (lane : ℕ) (replies : List Replied) → StandFor (lane_read_marks lane replies) []
lane_read-stands lane replies = replies-stand replies

-- their steps

replies-steps : (replies : List Replied) → steps_of (map reply_mark replies) [] ≡ map reply_step replies
replies-steps [] = refl
replies-steps (replied ∷ replies) = ap (λ (l : List Step). steps.Reply replied.lane replied.request replied.text ∷ l) (replies-steps replies)

flight-steps : (in_flight : List Commit) (replies : List Replied) → steps_of (map begun_mark in_flight ++ map reply_mark replies) in_flight ≡ map begin_step in_flight ++ map reply_step replies
flight-steps [] replies = replies-steps replies
flight-steps (commit ∷ in_flight) replies = ap (λ (l : List Step). steps.Begin commit ∷ l) (flight-steps in_flight replies)

pub line-steps : (made in_flight : List Commit) (replies : List Replied) → steps_of (line_marks made in_flight replies) (made ++ in_flight) ≡ line_steps made in_flight replies
line-steps [] in_flight replies = flight-steps in_flight replies
line-steps (commit ∷ made) in_flight replies = ap (λ (l : List Step). steps.Begin commit ∷ steps.Append ∷ steps.Show ∷ l) (line-steps made in_flight replies)

pub lane_read-steps-are : (lane : ℕ) (replies : List Replied) → steps_of (lane_read_marks lane replies) [] ≡ lane_read_steps lane replies
lane_read-steps-are lane replies = ap (λ (l : List Step). steps.See lane ∷ l) (replies-steps replies)

-- how many they are

pub mapped : {A B : Type 0} (f : A → B) (xs : List A) → length (map f xs) ≡ length xs
mapped f [] = refl
mapped f (x ∷ xs) = ap (λ n. suc n) (mapped f xs)

commits-length : (made : List Commit) → length (flat_map commit_steps made) ≡ 3 * length made
commits-length [] = refl
commits-length (commit ∷ made) = omega (arith, commits-length made)

pub line-length : (made in_flight : List Commit) (replies : List Replied) → length (line_steps made in_flight replies) ≡ 3 * length made + (length in_flight + length replies)
line-length made in_flight replies =
    omega (
      arith,
      length-append (flat_map commit_steps made) (map begin_step in_flight ++ map reply_step replies),
      commits-length made,
      length-append (map begin_step in_flight) (map reply_step replies),
      mapped begin_step in_flight,
      mapped reply_step replies,
    )

-- they begin the commits that they represent
pub begun-are : (ms : List Mark) (xs : List Commit) → StandFor ms xs → begun (steps_of ms xs) ≡ xs
begun-are [] [] h = refl
begun-are [] (x ∷ xs) h = absurd h
begun-are (marks.Made ∷ ms) [] h = absurd h
begun-are (marks.Made ∷ ms) (x ∷ xs) h = ap (λ (l : List Commit). x ∷ l) (begun-are ms xs h)
begun-are (marks.Begun ∷ ms) [] h = absurd h
begun-are (marks.Begun ∷ ms) (x ∷ xs) h = ap (λ (l : List Commit). x ∷ l) (begun-are ms xs h)
begun-are (marks.LaneRead lane ∷ ms) xs h = begun-are ms xs h
begun-are (marks.Reply lane said ∷ ms) xs h = begun-are ms xs h
begun-are (marks.Met ∷ ms) xs h = begun-are ms xs h
