-- What a line that changes the index has at hand before it does. Cited by `tag`, `restore`, `change` and `fault_texts`.
use Rattle.std.specs.Prelude.{◌≡◌, ℕ, true, List, None}
use Rattle.nm_model_answer.specs.Changes.{strangers_for, taggings_for}
use Rattle.nm_history.specs.Requests.{is_tagging, refused_text_of}
use Rattle.nm_model_index.specs.declared.base.Base.{Base}
use Rattle.nm_log.specs.Replies.{refusal_line}
use Rattle.nm_log.specs.declared.outcome.Outcome.TheVariants.{DiskFault, MailFault}
use Rattle.nm_line.specs.declared.change.Changes.{Changes}
use Rattle.nm_line.specs.declared.fault_texts.FaultTexts.{FaultTexts}

-- the lines of the faults of devices
pub record AreFaultTexts (texts : FaultTexts) : Type 0 where
  pub mail : texts.mail ≡ refusal_line MailFault
  pub disk : texts.disk ≡ refusal_line DiskFault

-- these are what a request asks for that sets tags, where its input is of its form
pub record AreAsked (changes : Changes) (input : List ℕ) (index : Base) : Type 0 where
  pub tags : is_tagging changes.request ≡ true
  pub right : refused_text_of changes.request input ≡ None
  pub lines : changes.lines ≡ taggings_for changes.request input
  pub strangers : changes.strangers ≡ strangers_for changes.request input index
