use Rattle.std.proofs.Common.{subst}
use Rattle.nm_model_plan.specs.Apart.{AreApart}
use Rattle.nm_model_plan.specs.Numbering.{AreNumbered}
use Rattle.nm_writer.specs.Writer.{WriterState}
use Rattle.nm_writer.proofs.writer.Writer.shows_an_ordered_index.Goals as goal

pub returns-clause-numbered : goal.returns-clause-numbered
returns-clause-numbered c = subst (λ (w : WriterState). AreNumbered w.shown) c.self.view_is c.self.invariant.2

pub returns-clause-apart : goal.returns-clause-apart
returns-clause-apart c = subst (λ (w : WriterState). AreApart w.shown.files) c.self.view_is c.self.invariant.3
