-- The marks of what a line said. For `LineLemmas` and `LaneReadLemmas`.
use Rattle.std.proofs.Common.{◌≡◌, ℕ, suc, List, [], ◌∷◌, length, map, refl, sym, ap, ◌∙◌}
use Rattle.std.specs.List.{AllByRecursion}
use Rattle.nm_history.specs.LineResult.{said_of}
use Rattle.nm_history.specs.Lines.{RunLine}
use Rattle.nm_history.specs.MachineRun.{Replied, replied_where, reply_to}
use Rattle.nm_log.specs.ParsedLine.{parse_line}
use Rattle.nm_log.specs.declared.line_parser.ParsedLine.{ParsedLine}
use Rattle.nm_log.specs.declared.line_parser.ParsedLine.TheVariants as asked
use Rattle.nm_log.specs.declared.log.Said.{Said}
use Rattle.nm_log.specs.declared.outcome.Outcome.{Outcome}
use Rattle.nm_log.specs.declared.outcome.Outcome.TheVariants as outcomes
use Rattle.nm_trace.specs.Trace.{reply_mark, said_mark, said_marks}
use Rattle.nm_trace.specs.declared.trace.Mark.{Mark}

-- a line replies in its lane

abbrev OfLane : ℕ → List Replied → Type 0
OfLane lane replies = AllByRecursion (λ (replied : Replied). replied.lane ≡ lane) replies

asked-lane : (line : ParsedLine) (lane revision : ℕ) (text : List ℕ) → OfLane lane (replied_where outcomes.Ok line lane revision text)
asked-lane (asked.Request request) lane revision text = (refl, tt)
asked-lane (asked.Usage word kind) lane revision text = tt

in-lane : (outcome : Outcome) (line : ParsedLine) (lane revision : ℕ) (text : List ℕ) → OfLane lane (replied_where outcome line lane revision text)
in-lane outcomes.Ok line lane revision text = asked-lane line lane revision text
in-lane (outcomes.Usage word kind) line lane revision text = tt
in-lane (outcomes.BadQuery at kind) line lane revision text = tt
in-lane (outcomes.BadDate at) line lane revision text = tt
in-lane (outcomes.BadLine bad kind) line lane revision text = tt
in-lane (outcomes.NotOne found) line lane revision text = tt
in-lane (outcomes.Gone path) line lane revision text = tt
in-lane outcomes.MailFault line lane revision text = tt
in-lane outcomes.DiskFault line lane revision text = tt
in-lane (outcomes.Closed fault) line lane revision text = tt
in-lane (outcomes.Limit limit) line lane revision text = tt
in-lane outcomes.NoMemory line lane revision text = tt

marks-in : (lane : ℕ) (replies : List Replied) → OfLane lane replies → said_marks lane (map said_of replies) ≡ map reply_mark replies
marks-in lane [] h = refl
marks-in lane (replied ∷ replies) h =
    ap (λ (l : List Mark). said_mark lane (said_of replied) ∷ l) (marks-in lane replies h.1) ∙ ap (λ (n : ℕ). said_mark n (said_of replied) ∷ map reply_mark replies) (sym h.0)

-- so what was said has the marks of its replies
pub said-marks : (ran : RunLine) (said : List Said) → said ≡ map said_of (reply_to ran) → said_marks ran.1.lane said ≡ map reply_mark (reply_to ran)
said-marks ran said is = ap (said_marks ran.1.lane) is ∙ marks-in ran.1.lane (reply_to ran) (in-lane ran.1.outcome (parse_line ran.0) ran.1.lane ran.1.revision ran.1.text)

pub mapped : {A B : Type 0} (f : A → B) (xs : List A) → length (map f xs) ≡ length xs
mapped f [] = refl
mapped f (x ∷ xs) = ap (λ n. suc n) (mapped f xs)
