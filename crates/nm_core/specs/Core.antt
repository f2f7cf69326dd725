-- What a Core holds, and what it answers to a step. Cited by `machine`.
use Rattle.std.specs.Prelude.{◌≡◌, ℕ, ℤ, Bool, List, [], ◌∷◌, ◌++◌, map, Option, Some, None, Result, Ok, Err, IfSome}
use Rattle.std.specs.Option.{option_map}
use Rattle.nm_commit.specs.declared.change.Commit.{Commit}
use Rattle.nm_model_index.specs.Index.{committed, folded}
use Rattle.nm_model_index.specs.declared.base.Base.{Base}
use Rattle.nm_core.specs.declared.machine.CoreError.{CoreError}
use Rattle.nm_core.specs.declared.machine.CoreError.TheVariants.{NotNow, NoMemory}
use Rattle.nm_core.specs.declared.machine.Made.{Made}
use Rattle.nm_model_machine.specs.Laws.{met_after}
use Rattle.nm_model_machine.specs.Machine.{Machine, IsAllowed, Takes}
use Rattle.nm_model_machine.specs.declared.step.Step.{Step}

-- the machine's state, and how many commits were acknowledged at the last barrier or opening, 0 before the first
pub record Kept : Type 0 where
  pub machine : Machine
  pub met : ℕ

-- the commits, without the indexes beside them
abbrev pub commits_of : List Made → List Commit
commits_of made = map (λ one. one.commit) made

-- and the indexes
abbrev pub indexes_of : List Made → List Base
indexes_of made = map (λ one. one.index) made

-- the commit that is begun
abbrev pub begun_of : Option Made → Option Commit
begun_of in_flight = option_map (λ one. one.commit) in_flight

-- the index after each of the commits
abbrev pub indexes_after : Base → List Commit → List Base
indexes_after index [] = []
indexes_after index (commit ∷ commits) = committed index commit ∷ indexes_after (committed index commit) commits

-- beside each commit is the index after it; so with the one that is begun
pub record AreIndexes (opening : Base) (made : List Made) (in_flight : Option Made) : Type 0 where
  pub kept : indexes_of made ≡ indexes_after opening (commits_of made)
  pub next : IfSome in_flight (λ one. one.index ≡ committed (folded opening (commits_of made)) one.commit)

-- the state with these parts
abbrev pub machine_of : Base → List Made → Option Made → ℕ → List ℕ → Bool → Machine
machine_of opening made in_flight shown lanes up =
    record { opening = opening; commits = commits_of made; in_flight = begun_of in_flight; shown = shown; lanes = lanes; up = up }

-- the machine once a commit is acknowledged
abbrev pub with_commit : Machine → Commit → Machine
with_commit m commit = record m { commits = m.commits ++ commit ∷ []; in_flight = None }

-- The commit that is begun is acknowledged; where none is, that is not now.
abbrev pub Acknowledges : {T : Type 0} → Kept → Result T CoreError → Kept → Type 0
Acknowledges old (Ok done) new = (commit : Commit) × (old.machine.in_flight ≡ Some commit) × (new ≡ record { machine = with_commit old.machine commit; met = old.met })
Acknowledges old (Err NotNow) new = (old.machine.in_flight ≡ None) × (new ≡ old)
Acknowledges old (Err NoMemory) new = new ≡ old

-- A step is taken, or refused because it is not allowed; a refusal, as running out of memory, leaves all as it was.
abbrev pub Answers : {T : Type 0} → ℤ → Kept → Step → Result T CoreError → Kept → Type 0
Answers moment old step (Ok done) new = Takes moment old.machine step new.machine × (new.met ≡ met_after old.met old.machine step)
Answers moment old step (Err NotNow) new = ¬ IsAllowed moment old.machine step × (new ≡ old)
Answers moment old step (Err NoMemory) new = new ≡ old
