use Rattle.std.proofs.Common.{sym, ap, take, ◌∙◌, ◌∷◌, ◌++◌, []}
use Rattle.std.proofs.lemmas.List.{take_more}
use Rattle.nm_scan.proofs.WalkLemmas.{names-stop}
use Rattle.nm_scan.proofs.walk.add_files.Goals as goal

pub returns-in-Err-clause-walks : goal.returns-in-Err-clause-walks
returns-in-Err-clause-walks c =
    names-stop c.args.walk.now c.names.walk c.add_file.new.walk c.args.dir.now c.args.names.now c.names.name-index c.name-item.result c.in-Err.error
    (take_more c.args.names.now c.names.name-index c.name-item.result c.names-test.true ∙ ap (λ l. take c.names.name-index c.args.names.now ++ l ∷ []) (sym c.name-item.is))
    c.names.invariant.walks c.in-Err.ensures.walks
