use Rattle.std.proofs.Common.{◌∙◌, sym, []}
use Rattle.nm_shared.proofs.SpotLemmas.{spot_is}
use Rattle.nm_shared.proofs.search.spot_of.Goals as goal

-- the run that is chosen, and the place in it
pub returns : goal.returns
returns g c =
    spot_is g.met.K.Ord.total c.args.key.now c.args.runs.now c.run_of.result c.saturating_sub-run.result c.as_slice-items.result.now c.place_of-at.result c.is_key_at-found.result
    c.saturating_sub-run.ensures
    (sym (c.in-Some.ensures.lookup.3.1 []) ∙ sym c.as_slice-items.ensures)
    c.in-Some.ensures.lookup.3.0
    c.requires.filled c.requires.sorted c.run_of.ensures c.place_of-at.ensures c.is_key_at-found.ensures.found c.is_key_at-found.ensures.missing
