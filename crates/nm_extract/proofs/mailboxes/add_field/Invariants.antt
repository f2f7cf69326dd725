use Rattle.std.proofs.Common.{◌≡◌, ◌++◌, take}
use Rattle.std.specs.List.{flat_map}
use Rattle.nm_extract.specs.Mailboxes.{decoded_mailboxes}
use Rattle.nm_extract.proofs.mailboxes.add_field.Given as goal

abbrev pub invariant-texts : goal.invariant-texts
invariant-texts l = l.found ≡ l.initial.found ++ flat_map decoded_mailboxes (take l.text-index l.text-items)
