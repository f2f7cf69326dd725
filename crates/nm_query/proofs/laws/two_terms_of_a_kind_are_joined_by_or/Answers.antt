use Rattle.nm_query.proofs.KindLemmas.{kind-term}
use Rattle.nm_query.proofs.PrintLemmas.{terms-beside}
use Rattle.nm_query.proofs.laws.two_terms_of_a_kind_are_joined_by_or.Goals as goal

pub returns-clause-kind : goal.returns-clause-kind
returns-clause-kind c = kind-term

pub returns-clause-joined : goal.returns-clause-joined
returns-clause-joined c = terms-beside
