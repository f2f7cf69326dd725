-- How many commits the steps of a line acknowledge. For the proof of `a_line_more_keeps_the_clocks`.
use Rattle.std.proofs.Common.{◌≡◌, ℕ, ℤ, ◌+◌, List, [], ◌∷◌, ◌++◌, length, map, refl, ap, suc, arith}
use Rattle.std.specs.List.{flat_map}
use Rattle.std.proofs.lemmas.List.{length-append}
use Rattle.nm_commit.specs.declared.change.Commit.{Commit}
use Rattle.nm_model_index.specs.declared.base.Base.{Base}
use Rattle.nm_model_machine.specs.declared.step.Step.{Step}
use Rattle.nm_model_machine.specs.declared.step.Step.TheVariants.{Begin, Append, Show, See, Meet, Reply, Crash, Reopen}
use Rattle.nm_history.specs.Call.{Devices}
use Rattle.nm_history.specs.CrashPrefix.{appends}
use Rattle.nm_history.specs.LineResult.{IsLineResult, Place, StandsAt, begin_step, commit_steps, line_steps, reply_step}
use Rattle.nm_history.specs.Lines.{RunLine}
use Rattle.nm_history.specs.MachineRun.{Replied, reply_to}

pub appends-append : (steps more : List Step) → appends (steps ++ more) ≡ appends steps + appends more
appends-append [] more = omega arith
appends-append (Begin commit ∷ steps) more = appends-append steps more
appends-append (Append ∷ steps) more = omega (arith, appends-append steps more)
appends-append (Show ∷ steps) more = appends-append steps more
appends-append (See lane ∷ steps) more = appends-append steps more
appends-append (Meet ∷ steps) more = appends-append steps more
appends-append (Reply lane request text ∷ steps) more = appends-append steps more
appends-append (Crash kept ∷ steps) more = appends-append steps more
appends-append (Reopen ∷ steps) more = appends-append steps more

appends-commits : (made : List Commit) → appends (flat_map commit_steps made) ≡ length made
appends-commits [] = refl
appends-commits (commit ∷ made) = ap (λ n. suc n) (appends-commits made)

appends-flight : (in_flight : List Commit) → appends (map begin_step in_flight) ≡ 0
appends-flight [] = refl
appends-flight (commit ∷ in_flight) = appends-flight in_flight

pub appends-replies : (replies : List Replied) → appends (map reply_step replies) ≡ 0
appends-replies [] = refl
appends-replies (replied ∷ replies) = appends-replies replies

appends-line : (made in_flight : List Commit) (replies : List Replied) → appends (line_steps made in_flight replies) ≡ length made
appends-line made in_flight replies =
    omega (
      arith,
      appends-append (flat_map commit_steps made) (map begin_step in_flight ++ map reply_step replies),
      appends-commits made,
      appends-append (map begin_step in_flight) (map reply_step replies),
      appends-flight in_flight,
      appends-replies replies,
    )

pub clocks-more : (opening : Base) (moment : ℤ) (phase : ℕ) (entry : Devices) (steps taken : List Step) (lines : List RunLine) (acknowledged : List Commit)
    (old new : Place) (ran : RunLine) → StandsAt opening entry steps lines acknowledged old → (result : IsLineResult moment phase old ran taken new)
    → length old.writer.acked ≡ appends steps → length new.writer.acked ≡ appends (steps ++ taken)
clocks-more opening moment phase entry steps taken lines acknowledged old new ran at result h =
    omega (
      arith,
      ap length result.has_made.acked,
      length-append old.writer.acked result.has_made.clocks,
      result.has_made.one_each,
      h,
      appends-append steps taken,
      ap appends result.steps,
      appends-line result.made result.in_flight (reply_to ran),
    )
