use Rattle.std.proofs.Common.{◌∙◌, [], arith}
use Rattle.nm_shared.proofs.MapLemmas.{join_is}
use Rattle.nm_shared.proofs.runs.join_run.Goals as goal

pub returns-clause-items : goal.returns-clause-items
returns-clause-items g c =
    (join_is c.args.runs.now.items c.as_slice-all.result.now c.remove.new.self.items c.args.at c.saturating_add.result c.in-Some-Some.front.now c.in-Some-Some.back.now c.as_slice-front.result.now c.as_slice-back.result.now c.in_ok-joined-2.joined
    c.as_slice-all.ensures.value (c.in-Some-Some.ensures.lookup.3.1 []) c.in-Some-Some.ensures'.lookup.3.0 (c.in-Some-Some.ensures'.lookup.3.1 []) (omega (arith, c.in-Some-Some.ensures.lookup.3.0, c.as_slice-all.type_inv.0)) c.as_slice-front.ensures c.as_slice-back.ensures
    (c.in_ok-joined-2.ensures ∙ c.in_ok-joined.ensures) c.remove.ensures.items).0

pub returns-clause-filled : goal.returns-clause-filled
returns-clause-filled g c =
    (join_is c.args.runs.now.items c.as_slice-all.result.now c.remove.new.self.items c.args.at c.saturating_add.result c.in-Some-Some.front.now c.in-Some-Some.back.now c.as_slice-front.result.now c.as_slice-back.result.now c.in_ok-joined-2.joined
    c.as_slice-all.ensures.value (c.in-Some-Some.ensures.lookup.3.1 []) c.in-Some-Some.ensures'.lookup.3.0 (c.in-Some-Some.ensures'.lookup.3.1 []) (omega (arith, c.in-Some-Some.ensures.lookup.3.0, c.as_slice-all.type_inv.0)) c.as_slice-front.ensures c.as_slice-back.ensures
    (c.in_ok-joined-2.ensures ∙ c.in_ok-joined.ensures) c.remove.ensures.items).1 c.requires
