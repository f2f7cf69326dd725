use Rattle.std.proofs.Common.{◌^◌, ◌<◌, ap, sym, ◌∙◌, ◌++◌, arith}
use Rattle.nm_blocks.proofs.NumberLemmas.{goes_on, has_room, number_bytes-short}
use Rattle.nm_blocks.proofs.number.put_number.Goals as goal

pub push-requires : goal.push-requires
push-requires c = has_room c.args.draft.now c.groups.draft c.args.number c.groups.rest c.requires c.groups.invariant

pub groups-preserved : goal.groups-preserved
groups-preserved c =
    let fits : c.groups.rest < 2 ^ 32 = omega arith in
    rw c.push.ensures (goes_on c.groups.draft _ c.groups.rest c.groups-test.true fits c.groups.invariant)

pub push-requires-2 : goal.push-requires-2
push-requires-2 c = has_room c.args.draft.now c.groups.draft c.args.number c.groups.rest c.requires c.groups.invariant

pub returns : goal.returns
returns c = c.push-2.ensures ∙ ap (λ bytes. c.groups.draft ++ bytes) (sym (number_bytes-short c.groups.rest c.groups-test.false)) ∙ c.groups.invariant
