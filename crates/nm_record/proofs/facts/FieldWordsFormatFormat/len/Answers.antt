use Rattle.nm_record.proofs.facts.FieldWordsFormatFormat.len.Goals as goal

pub returns-clause-value : goal.returns-clause-value
returns-clause-value c = c.len-2.ensures.value
