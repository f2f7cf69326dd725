use Rattle.std.proofs.Common.{◌≡◌, ◌++◌, codes, map, take}
use Rattle.nm_model_answer.specs.Show.{mailbox_text}
use Rattle.nm_render.specs.Joined.{after_first}
use Rattle.nm_render.proofs.mailboxes.push_more.Given as goal

abbrev pub invariant-mailboxes : goal.invariant-mailboxes
invariant-mailboxes l = l.text ≡ l.initial.text ++ after_first (codes ", ") (map mailbox_text (take l.mailbox-index l.mailboxes))
