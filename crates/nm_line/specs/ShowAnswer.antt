-- What a show has asked the mail folder for, and what it answers or why there is nothing to show.
-- Cited by `show`.
use Rattle.std.specs.Prelude.{◌≡◌, ◌⊎◌, ℕ, ℤ, Bool, true, false, List, [], None, Some, length, Result, Ok, Err}
use Rattle.nm_model_answer.specs.Show.{gone_path, is_not_one, lead_paths, show_text, shown_ids}
use Rattle.nm_base.specs.declared.asks.ShowAsk.{ShowAsk}
use Rattle.nm_history.specs.Given.{AsksNothing}
use Rattle.nm_model_index.specs.declared.base.Base.{Base}
use Rattle.nm_base.specs.declared.limit.Limit.TheVariants.{ShowBytes}
use Rattle.nm_log.specs.declared.outcome.Outcome.{Outcome}
use Rattle.nm_log.specs.declared.outcome.Outcome.TheVariants as outcomes
use Rattle.nm_maildir.specs.Observed.{ObservedMail}
use Rattle.nm_maildir.specs.declared.given.Given.{Given}
use Rattle.nm_query.specs.declared.query.Query.{Query}
use Rattle.nm_render.specs.declared.show.ShowError.{ShowError}
use Rattle.nm_render.specs.declared.show.ShowError.TheVariants as texts
use Rattle.nm_scan.specs.Bodies.{HasReadBodies, StopsInBodies}
use Rattle.nm_scan.specs.declared.bodies_error.BodiesError.{BodiesError}
use Rattle.nm_scan.specs.declared.bodies_error.BodiesError.TheVariants as stops
use Rattle.nm_line.specs.declared.show.ShowFault.{ShowFault}
use Rattle.nm_line.specs.declared.show.ShowFault.TheVariants as faults

-- what a show that finds no memory has asked: nothing, or all files, or the first of them
abbrev pub AsksSome : ObservedMail → ObservedMail → ℕ → List (List ℕ) → List Given → Type 0
AsksSome old new left paths given =
    AsksNothing old new given ⊎ (HasReadBodies old new left [] given paths ⊎ ((error : BodiesError) × StopsInBodies old new left [] given paths error))

-- The messages that were found are shown: their files were read, and this is the text, or the file that raw form asks for is missing; or
-- the reading stopped.
abbrev pub IsAfterReads : ShowAsk → Base → List (List ℕ) → ℕ → ObservedMail → ObservedMail → List Given → Result (List ℕ) ShowFault → Type 0
IsAfterReads ask index ids left old new given (Ok text) =
    HasReadBodies old new left [] given (lead_paths index ids) × (gone_path ask given ≡ None) × (text ≡ show_text ask index ids given)
IsAfterReads ask index ids left old new given (Err (faults.NotOne found)) =
    AsksNothing old new given × (is_not_one ask ids ≡ true) × (found ≡ length ids)
IsAfterReads ask index ids left old new given (Err (faults.Gone path)) =
    HasReadBodies old new left [] given (lead_paths index ids) × (gone_path ask given ≡ Some path)
IsAfterReads ask index ids left old new given (Err faults.MailFault) = StopsInBodies old new left [] given (lead_paths index ids) stops.MailFault
IsAfterReads ask index ids left old new given (Err faults.ShowBytes) = StopsInBodies old new left [] given (lead_paths index ids) stops.ShowBytes
IsAfterReads ask index ids left old new given (Err faults.NoMemory) = AsksSome old new left (lead_paths index ids) given

-- the messages are not one where one is wanted, and this tells it
abbrev pub tells_not_one : Result (List ℕ) ShowFault → Bool
tells_not_one (Ok text) = false
tells_not_one (Err (faults.NotOne found)) = true
tells_not_one (Err (faults.Gone path)) = false
tells_not_one (Err faults.MailFault) = false
tells_not_one (Err faults.ShowBytes) = false
tells_not_one (Err faults.NoMemory) = false

-- there was no memory
abbrev pub is_out_of_memory : Result (List ℕ) ShowFault → Bool
is_out_of_memory (Ok text) = false
is_out_of_memory (Err (faults.NotOne found)) = false
is_out_of_memory (Err (faults.Gone path)) = false
is_out_of_memory (Err faults.MailFault) = false
is_out_of_memory (Err faults.ShowBytes) = false
is_out_of_memory (Err faults.NoMemory) = true

-- the mail folder failed
abbrev pub is_folder_fault : ShowFault → Bool
is_folder_fault (faults.NotOne found) = false
is_folder_fault (faults.Gone path) = false
is_folder_fault faults.MailFault = true
is_folder_fault faults.ShowBytes = false
is_folder_fault faults.NoMemory = false

-- What a show of this query leaves: raw form is refused of more or fewer messages than one, and only then; and what the reads say.
pub record IsAfterShow (ask : ShowAsk) (index : Base) (moment : ℤ) (query : Query) (left : ℕ) (old new : ObservedMail) (given : List Given) (result : Result (List ℕ) ShowFault) : Type 0 where
  pub one : is_out_of_memory result ≡ false → tells_not_one result ≡ is_not_one ask (shown_ids ask index moment query)
  pub reads : IsAfterReads ask index (shown_ids ask index moment query) left old new given result

-- what a text, or a reading, is refused for
abbrev pub show_fault : ShowError → ShowFault
show_fault (texts.NotOne found) = faults.NotOne found
show_fault (texts.Gone path) = faults.Gone path
show_fault texts.NoMemory = faults.NoMemory

abbrev pub bodies_fault : BodiesError → ShowFault
bodies_fault stops.MailFault = faults.MailFault
bodies_fault stops.ShowBytes = faults.ShowBytes
bodies_fault stops.NoMemory = faults.NoMemory

-- how a show ends that is refused so
abbrev pub show_outcome : ShowFault → Outcome
show_outcome (faults.NotOne found) = outcomes.NotOne found
show_outcome (faults.Gone path) = outcomes.Gone path
show_outcome faults.MailFault = outcomes.MailFault
show_outcome faults.ShowBytes = outcomes.Limit ShowBytes
show_outcome faults.NoMemory = outcomes.NoMemory
