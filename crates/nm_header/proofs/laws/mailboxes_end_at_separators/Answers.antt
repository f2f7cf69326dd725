use Rattle.nm_header.proofs.AddressLemmas.{alone_read, named_read, nothing_read, space_read}
use Rattle.nm_header.proofs.laws.mailboxes_end_at_separators.Goals as goal

pub returns-clause-named : goal.returns-clause-named
returns-clause-named c = named_read

pub returns-clause-alone : goal.returns-clause-alone
returns-clause-alone c = alone_read

pub returns-clause-nothing : goal.returns-clause-nothing
returns-clause-nothing c = nothing_read

pub returns-clause-space : goal.returns-clause-space
returns-clause-space c = space_read
