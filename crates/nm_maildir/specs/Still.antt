-- A tree of mail in memory, which fails at listed calls. Cited by `memory_files`, `names`, `nm_drill` and others.
use Rattle.std.specs.Prelude.{◌≡◌, ℕ, Bool, true, false, Result, Ok, Err, Some, ◌&&◌, not, List, [], ◌∷◌, map}
use Rattle.nm_faults.specs.Calls.{CallCounts, counted, is_next_listed}
use Rattle.nm_maildir.specs.Observed.{ObservedMail}
use Rattle.nm_maildir.specs.declared.answers.MailError.{MailError}
use Rattle.nm_maildir.specs.declared.answers.MailError.TheVariants.{Failed, NoMemory}
use Rattle.nm_maildir.specs.Tree.{Tree}
use Rattle.nm_base.specs.Order.{has_text}

-- the tree, the paths read, and its calls
pub record Still : Type 0 where
  pub tree : Tree
  pub reads : List (List ℕ)
  pub calls : CallCounts

-- the tree at its making: nothing was read yet
abbrev pub still_of : List (List ℕ) → List (List ℕ × List ℕ) → List ℕ → Still
still_of dirs files failing = record {
  tree = record { dirs = dirs; files = files };
  reads = [];
  calls = record { failing = failing; made = 0; faults = 0 };
}

-- its tree and the paths read are known
abbrev pub observed_still : Still → ObservedMail
observed_still still = record { tree = Some still.tree; reads = Some still.reads; faults = still.calls.faults }

abbrev pub paths_of : List (List ℕ × List ℕ) → List (List ℕ)
paths_of files = map (λ file. file.0) files

-- no path occurs twice
abbrev pub are_distinct : List (List ℕ) → Bool
are_distinct [] = true
are_distinct (path ∷ paths) = not (has_text paths path) && are_distinct paths

-- A call is counted, and failed exactly where it is listed. One that was out of memory left all as it was.
abbrev pub CountsCall : {T : Type 0} → Still → Still → Result T MailError → Type 0
CountsCall old new (Ok answer) = (new.calls ≡ counted old.calls) × (is_next_listed old.calls ≡ false)
CountsCall old new (Err Failed) = (new.calls ≡ counted old.calls) × (is_next_listed old.calls ≡ true)
CountsCall old new (Err NoMemory) = new ≡ old
