use Rattle.std.proofs.Common.{rules, ◌≡◌}
use Rattle.nm_sync.proofs.ScanLemmas.{gone-are, unknown-are}
use Rattle.nm_sync.proofs.comparison.side_by_side.Goals as goal

pub returns-clause-unknown : goal.returns-clause-unknown
returns-clause-unknown c =
    let paths : c.as_slice.result.now ≡ c.args.listed.now = search rules in
    unknown-are c.args.shown.now.files c.args.listed.now c.in_ok-known.known c.as_slice.result.now c.as_slice-2.result.now c.in_ok-unknown.unknown
    c.in_ok-known.ensures.paths paths c.as_slice-2.ensures c.in_ok-unknown.ensures

pub returns-clause-gone : goal.returns-clause-gone
returns-clause-gone c =
    let others : c.as_slice-4.result.now ≡ c.args.listed.now = search rules in
    gone-are c.args.shown.now.files c.args.listed.now c.in_ok-known.known c.as_slice-3.result.now c.as_slice-4.result.now c.in_ok-gone.gone
    c.in_ok-known.ensures.paths c.as_slice-3.ensures others c.in_ok-gone.ensures
