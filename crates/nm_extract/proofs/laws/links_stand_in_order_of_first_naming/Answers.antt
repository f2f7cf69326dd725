use Rattle.nm_extract.proofs.LinkLaws.{every_id_is_linked, links_in_order}
use Rattle.nm_extract.proofs.laws.links_stand_in_order_of_first_naming.Goals as goal

pub returns-clause-every : goal.returns-clause-every
returns-clause-every c = every_id_is_linked

pub returns-clause-order : goal.returns-clause-order
returns-clause-order c = links_in_order
