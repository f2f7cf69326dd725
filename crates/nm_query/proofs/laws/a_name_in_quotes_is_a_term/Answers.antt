use Rattle.nm_query.proofs.NameLemmas.{folder-term, id-term, tag-term, type-term}
use Rattle.nm_query.proofs.laws.a_name_in_quotes_is_a_term.Goals as goal

pub returns-clause-tag : goal.returns-clause-tag
returns-clause-tag c = tag-term

pub returns-clause-id : goal.returns-clause-id
returns-clause-id c = id-term

pub returns-clause-mime : goal.returns-clause-mime
returns-clause-mime c = type-term

pub returns-clause-folder : goal.returns-clause-folder
returns-clause-folder c = folder-term
