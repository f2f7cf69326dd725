use Rattle.std.proofs.Common.{subst}
use Rattle.nm_trace.specs.ReservedLog.{AreFallbacks}
use Rattle.nm_trace.proofs.FallbackLemmas.{fallbacks-front, fallbacks-last}
use Rattle.nm_trace.proofs.reserved_log.take_fallback.Goals as goal

pub returns-clause-text : goal.returns-clause-text
returns-clause-text c = fallbacks-last c.pop.new.self c.in-Some.text (subst AreFallbacks c.in-Some.ensures c.requires.texts)

pub returns-clause-texts : goal.returns-clause-texts
returns-clause-texts c = fallbacks-front c.pop.new.self c.in-Some.text (subst AreFallbacks c.in-Some.ensures c.requires.texts)
