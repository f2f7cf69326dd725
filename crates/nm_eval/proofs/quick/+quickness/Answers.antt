use Rattle.std.proofs.Common.{sym, ap, ◌∙◌}
use Rattle.std.specs.List.{list_all}
use Rattle.nm_eval.specs.Quick.{is_quick}
use Rattle.nm_eval.proofs.QuickLemmas.{quick-And, quick-Or, quick-Xor}
use Rattle.nm_eval.proofs.quick.+quickness.Goals as goal

pub is_quick-returns-in-And : goal.is_quick-returns-in-And
is_quick-returns-in-And t c = c.all_quick.ensures ∙ ap (list_all is_quick) c.as_slice.ensures ∙ sym (quick-And c.in-And.queries) ∙ ap is_quick (sym c.in-And.is)

pub is_quick-returns-in-Or : goal.is_quick-returns-in-Or
is_quick-returns-in-Or t c = c.all_quick-in-Or.ensures ∙ ap (list_all is_quick) c.as_slice-in-Or.ensures ∙ sym (quick-Or c.in-Or.queries) ∙ ap is_quick (sym c.in-Or.is)

pub is_quick-returns-in-Xor : goal.is_quick-returns-in-Xor
is_quick-returns-in-Xor t c = c.all_quick-in-Xor.ensures ∙ ap (list_all is_quick) c.as_slice-in-Xor.ensures ∙ sym (quick-Xor c.in-Xor.queries) ∙ ap is_quick (sym c.in-Xor.is)
