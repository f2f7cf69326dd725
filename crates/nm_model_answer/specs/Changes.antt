-- What a request that sets tags asks for, and the model's answer: the lines on ids that no message has, and then those on the files
-- that keep their names.
-- Cited by `nm_model_plan`, `nm_history` and `nm_session`.
use Rattle.std.specs.Prelude.{ℕ, ℤ, List, [], ◌++◌}
use Rattle.nm_model_index.specs.declared.base.Base.{Base}
use Rattle.nm_maildir.specs.declared.given.Given.{Given}
use Rattle.nm_model_answer.specs.RenameOutcomes.{sync_report, sync_text}
use Rattle.nm_model_answer.specs.Restore.{dump_lines, restorings_of, strangers, strangers_text}
use Rattle.nm_model_answer.specs.Tag.{taggings_of}
use Rattle.nm_model_answer.specs.WantedTags.{wanted_by}
use Rattle.nm_model_answer.specs.declared.request.Request.{Request}
use Rattle.nm_model_answer.specs.declared.request.Request.TheVariants.{New, Count, Search, Dump, Show, Tag, Restore}
use Rattle.nm_model_answer.specs.declared.tag_change.TagChange.{TagChange}

-- the changes of tags that a request asks for, the first one first
abbrev pub taggings_for : Request → List ℕ → List TagChange
taggings_for New input = []
taggings_for (Count ask) input = []
taggings_for (Search ask) input = []
taggings_for (Dump ask) input = []
taggings_for (Show ask) input = []
taggings_for (Tag ask) input = taggings_of ask input
taggings_for (Restore ask) input = restorings_of ask input

-- the tags that it wants, in the place of those of the index
abbrev pub wanted_for : Request → List ℕ → ℤ → Base → Base
wanted_for request input moment index = wanted_by moment index (taggings_for request input)

-- the ids that it names and no message of the index has
abbrev pub strangers_for : Request → List ℕ → Base → List (List ℕ)
strangers_for New input index = []
strangers_for (Count ask) input index = []
strangers_for (Search ask) input index = []
strangers_for (Dump ask) input index = []
strangers_for (Show ask) input index = []
strangers_for (Tag ask) input index = []
strangers_for (Restore ask) input index = strangers index (dump_lines ask input)

-- what it is answered, by the index before it and by what became of the renames
abbrev pub change_answer : Request → List ℕ → Base → ℤ → List Given → List ℕ
change_answer request input before moment given =
    strangers_text (strangers_for request input before) ++ sync_text (sync_report before (wanted_for request input moment before) given)
