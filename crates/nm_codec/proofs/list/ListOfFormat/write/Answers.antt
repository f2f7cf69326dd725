use Rattle.std.proofs.Common.{arith}
use Rattle.nm_codec.specs.ListLaws.{few}
use Rattle.nm_codec.proofs.list.ListOfFormat.write.Goals as goal

pub overflow_cast-len : goal.overflow_cast-len
overflow_cast-len g c =
    let items = c.args.value.now in
    omega (arith, few g.F.Format.grammar.read g.F.Format.grammar.bytes g.F.Format.grammar.some items, c.requires, c.len.ensures)
