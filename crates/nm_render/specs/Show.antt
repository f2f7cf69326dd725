-- Why `show` answers no text.
use Rattle.std.specs.Prelude.{◌≡◌, ℕ, List, Some, IsTrue, length, ⊤}
use Rattle.nm_base.specs.declared.asks.ShowAsk.{ShowAsk}
use Rattle.nm_maildir.specs.declared.given.Given.{Given}
use Rattle.nm_model_answer.specs.Show.{first_lost, gone_path, is_not_one}
use Rattle.nm_render.specs.declared.show.ShowError.{ShowError}
use Rattle.nm_render.specs.declared.show.ShowError.TheVariants.{NotOne, Gone, NoMemory}

-- the file with this path is missing
abbrev pub IsGone : List ℕ → ShowError → Type 0
IsGone path (NotOne found) = ⊥
IsGone path (Gone told) = told ≡ path
IsGone path NoMemory = ⊤

-- of messages that were found: raw form shows one, and these are more or none
abbrev pub IsIdsFault : ShowAsk → List (List ℕ) → ShowError → Type 0
IsIdsFault ask ids (NotOne found) = IsTrue (is_not_one ask ids) × (found ≡ length ids)
IsIdsFault ask ids (Gone path) = ⊥
IsIdsFault ask ids NoMemory = ⊤

-- of what the folder gave: the file that raw form asks for is missing
abbrev pub IsTextFault : ShowAsk → List Given → ShowError → Type 0
IsTextFault ask given (NotOne found) = ⊥
IsTextFault ask given (Gone path) = gone_path ask given ≡ Some path
IsTextFault ask given NoMemory = ⊤

-- the same, where raw form is asked
abbrev pub IsRawFault : List Given → ShowError → Type 0
IsRawFault given (NotOne found) = ⊥
IsRawFault given (Gone path) = first_lost given ≡ Some path
IsRawFault given NoMemory = ⊤
