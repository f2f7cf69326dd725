use Rattle.std.proofs.Common.{◌∙◌, [], arith}
use Rattle.nm_shared.proofs.MapLemmas.{cut_is}
use Rattle.nm_shared.proofs.runs.cut_run.Goals as goal

pub returns-clause-items : goal.returns-clause-items
returns-clause-items g c =
    (cut_is c.args.runs.now.items c.deref.result.now c.insert.new.self.items c.args.at c.middle_of-middle.result c.in-Some.run'.now c.as_slice-items.result.now c.in_ok-front.front c.in_ok-back.back
    c.deref.ensures.value (c.in-Some.ensures.lookup.3.1 []) c.in-Some.ensures.lookup.3.0 c.as_slice-items.ensures c.middle_of-middle.ensures.low (omega arith)
    (c.in_ok-front.ensures ∙ c.in_ok-copied.ensures) (c.in_ok-back.ensures ∙ c.in_ok-copied-2.ensures) c.in_ok-insert.ensures.items).0

pub returns-clause-filled : goal.returns-clause-filled
returns-clause-filled g c =
    (cut_is c.args.runs.now.items c.deref.result.now c.insert.new.self.items c.args.at c.middle_of-middle.result c.in-Some.run'.now c.as_slice-items.result.now c.in_ok-front.front c.in_ok-back.back
    c.deref.ensures.value (c.in-Some.ensures.lookup.3.1 []) c.in-Some.ensures.lookup.3.0 c.as_slice-items.ensures c.middle_of-middle.ensures.low (omega arith)
    (c.in_ok-front.ensures ∙ c.in_ok-copied.ensures) (c.in_ok-back.ensures ∙ c.in_ok-copied-2.ensures) c.in_ok-insert.ensures.items).1 c.requires
