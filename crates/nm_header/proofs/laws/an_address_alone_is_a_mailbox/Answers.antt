use Rattle.nm_header.proofs.AddressLemmas.{last_read}
use Rattle.nm_header.proofs.laws.an_address_alone_is_a_mailbox.Goals as goal

pub returns : goal.returns
returns c = last_read
