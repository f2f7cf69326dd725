use Rattle.nm_query.proofs.QuotedLemmas.{any-term, attachment-term, body-term, from-term, subject-term, to-term}
use Rattle.nm_query.proofs.token_laws.a_text_in_quotes_is_asked_for_its_words.Goals as goal

pub returns-clause-any : goal.returns-clause-any
returns-clause-any c = any-term

pub returns-clause-to : goal.returns-clause-to
returns-clause-to c = to-term

pub returns-clause-body : goal.returns-clause-body
returns-clause-body c = body-term

pub returns-clause-attachment : goal.returns-clause-attachment
returns-clause-attachment c = attachment-term

pub returns-clause-from : goal.returns-clause-from
returns-clause-from c = from-term

pub returns-clause-subject : goal.returns-clause-subject
returns-clause-subject c = subject-term
