use Rattle.std.proofs.Common.{length, ap, arith}
use Rattle.std.proofs.lemmas.List.Folds.{length-flat_map-take}
use Rattle.nm_codec.proofs.list.write_items.Goals as goal

pub write-requires : goal.write-requires
write-requires g c =
    let spelling = g.F.Format.grammar.bytes in
    let within = length-flat_map-take spelling c.args.items.now c.items.item-index c.item-item.result c.items-test.true in
    let here = ap (λ x. length (spelling x)) c.item-item.is in
    omega (arith, within, here, c.requires)
