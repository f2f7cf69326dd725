use Rattle.std.proofs.Common.{sym, ap, ◌∙◌}
use Rattle.std.specs.BTreeMap.{insert_entry}
use Rattle.std.specs.Ordering.{nat_cmp}
use Rattle.nm_eval.proofs.NumberLemmas.{put-dead, put-live, put-unnumbered}
use Rattle.nm_eval.proofs.numbers.add_numbered.Goals as goal

pub returns-then-not-is_live : goal.returns-then-not-is_live
returns-then-not-is_live c = λ ids so_far. so_far ∙ put-dead c.args.snapshot.now ids c.args.id.now (sym c.is_live.ensures ∙ c.if-not-is_live.true)

pub returns-in_default : goal.returns-in_default
returns-in_default c = λ ids so_far. so_far ∙ put-unnumbered c.args.snapshot.now ids c.args.id.now c.in_default.ensures

pub returns : goal.returns
returns c = λ ids so_far.
    c.in_ok-insert.ensures.entries
    ∙ (ap (λ id. insert_entry nat_cmp c.args.numbered.now.entries c.in-Some.number id) c.in_ok-copy.ensures
    ∙ (ap (λ pairs. insert_entry nat_cmp pairs c.in-Some.number c.args.id.now) so_far
    ∙ put-live c.args.snapshot.now ids c.args.id.now c.in-Some.number c.a_snapshot_is_a_valid_index.ensures (sym c.is_live.ensures ∙ c.if-not-is_live.false) c.in-Some.ensures))
