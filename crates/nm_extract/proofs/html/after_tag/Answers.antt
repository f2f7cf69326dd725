use Rattle.std.proofs.Common.{false, sym, ap, ◌∙◌}
use Rattle.nm_extract.specs.Html.{strip_from}
use Rattle.nm_extract.proofs.HtmlLemmas.{strip-after, strip-lost}
use Rattle.nm_extract.proofs.html.after_tag.Goals as goal

pub returns-in-Some-clause-value : goal.returns-in-Some-clause-value
returns-in-Some-clause-value c = strip-after c.args.text.now c.in-Some.ensures.place ∙ ap (strip_from false) (sym c.in-Some.ensures.back)

pub returns-in-None-clause-value : goal.returns-in-None-clause-value
returns-in-None-clause-value c = strip-lost c.args.text.now c.in-None.ensures.place
