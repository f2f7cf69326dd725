use Rattle.std.proofs.Common.{◌∙◌}
use Rattle.nm_text.proofs.PlaceLemmas.{place_found}
use Rattle.nm_text.proofs.cuts.first_place.Goals as goal

pub returns-clause-place : goal.returns-clause-place
returns-clause-place c = c.unwrap_or.ensures ∙ place_found c.args.wanted c.args.bytes.now c.find_byte.result c.find_byte.ensures
