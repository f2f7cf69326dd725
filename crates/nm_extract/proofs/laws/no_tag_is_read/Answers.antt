use Rattle.nm_extract.proofs.HtmlLaws.{stripped_has_no_tag, stripped_stays}
use Rattle.nm_extract.proofs.laws.no_tag_is_read.Goals as goal

pub returns-clause-none : goal.returns-clause-none
returns-clause-none c = stripped_has_no_tag

pub returns-clause-stays : goal.returns-clause-stays
returns-clause-stays c = stripped_stays
