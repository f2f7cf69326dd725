-- What a dump is read as. Cited by `dump_writer`, `restore_laws` and `line_writer`.
use Rattle.std.specs.Prelude.{◌≡◌, ℕ, ◌+◌, Bool, true, false, not, List, [], ◌∷◌, map}
use Rattle.std.specs.List.{AllByRecursion, list_all}
use Rattle.std.specs.Str.{is_utf8}
use Rattle.nm_base.specs.Bounds.{is_white_space}
use Rattle.nm_base.specs.MessageId.{is_message_id}
use Rattle.nm_dump.specs.Tags.{set_tag, AreTags}
use Rattle.nm_tags.specs.TagLines.{begins_comment}
use Rattle.nm_tags.specs.declared.wanted.Wanted.{Wanted}

-- an id in UTF-8, and tags: so is every message of a program
abbrev pub IsMessage : List ℕ → List (List ℕ) → Type 0
IsMessage id tags = (is_utf8 id ≡ true) × (is_message_id id ≡ true) × AreTags tags

abbrev pub AreMessages : List (List ℕ × List (List ℕ)) → Type 0
AreMessages messages = AllByRecursion (λ message. IsMessage message.0 message.1) messages

-- each message by its id, with its tags set, from this line on
abbrev pub wanted_from : ℕ → List (List ℕ × List (List ℕ)) → List Wanted
wanted_from number [] = []
wanted_from number (message ∷ more) = record { line = number; id = message.0; ops = map set_tag message.1 } ∷ wanted_from (number + 1) more

-- none of the tags holds white space
abbrev pub without_spaces : List (List ℕ) → Bool
without_spaces tags = list_all (λ tag. list_all (λ b. not (is_white_space b)) tag) tags

-- what the form of sup can write: no id begins with `#`, and no tag holds white space
abbrev pub AreFitForSup : List (List ℕ × List (List ℕ)) → Type 0
AreFitForSup messages = AllByRecursion (λ message. (begins_comment message.0 ≡ false) × (without_spaces message.1 ≡ true)) messages
