use Rattle.nm_extract.proofs.LinkLaws.{links_are_named, links_are_others, links_are_distinct}
use Rattle.nm_extract.proofs.laws.a_mail_links_to_others_once.Goals as goal

pub returns-clause-named : goal.returns-clause-named
returns-clause-named c = links_are_named

pub returns-clause-others : goal.returns-clause-others
returns-clause-others c = links_are_others

pub returns-clause-once : goal.returns-clause-once
returns-clause-once c = links_are_distinct
