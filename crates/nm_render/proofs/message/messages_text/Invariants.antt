use Rattle.std.proofs.Common.{◌≡◌, ◌++◌, length}
use Rattle.nm_model_answer.specs.Show.{messages_text}
use Rattle.nm_render.proofs.message.messages_text.Given as goal

-- the messages so far, and those that are left, are all
abbrev pub invariant-messages : goal.invariant-messages
invariant-messages l = l.text ++ messages_text l.snapshot l.rest l.further ≡ messages_text l.snapshot l.ids l.given

abbrev pub decreases-messages : goal.decreases-messages
decreases-messages l = length l.rest
