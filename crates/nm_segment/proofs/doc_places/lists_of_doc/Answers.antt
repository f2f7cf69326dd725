use Rattle.std.proofs.Common.{sym, ◌∙◌}
use Rattle.nm_segment.proofs.doc_places.lists_of_doc.Goals as goal

pub returns-in-Some-clause-lists : goal.returns-in-Some-clause-lists
returns-in-Some-clause-lists g c = c.as_slice.ensures ∙ (c.get.ensures ∙ sym (c.in-Some.ensures.place.1 c.index-docs-at.result))
