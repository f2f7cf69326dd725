use Rattle.std.proofs.Common.{arith, sym, subst}
use Rattle.std.specs.Prelude.{IsTrue}
use Rattle.nm_maildir.specs.Still.{are_distinct, paths_of}
use Rattle.nm_drill.specs.Drill.{drill_files}
use Rattle.nm_drill.proofs.PathLemmas.{distinct_in_order, in_order}
use Rattle.nm_drill.proofs.tree.drill_tree.Goals as goal

pub new-requires-2 : goal.new-requires-2
new-requires-2 c = let n = c.args.count in
    subst (λ files. IsTrue (are_distinct (paths_of files))) (sym c.in_ok-files.ensures) (distinct_in_order (paths_of (drill_files n)) (in_order n 1 (omega (arith, c.requires.most))))
