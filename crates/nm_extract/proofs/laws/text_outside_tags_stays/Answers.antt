use Rattle.nm_extract.proofs.HtmlLaws.{tag_stripped, unclosed_stripped}
use Rattle.nm_extract.proofs.laws.text_outside_tags_stays.Goals as goal

pub returns-clause-tag : goal.returns-clause-tag
returns-clause-tag c = tag_stripped

pub returns-clause-unclosed : goal.returns-clause-unclosed
returns-clause-unclosed c = unclosed_stripped
