use Rattle.nm_header.proofs.AddressLemmas.{group_name, group_read}
use Rattle.nm_header.proofs.laws.a_group_is_its_mailboxes.Goals as goal

pub returns-clause-name : goal.returns-clause-name
returns-clause-name c = group_name

pub returns-clause-members : goal.returns-clause-members
returns-clause-members c = group_read
