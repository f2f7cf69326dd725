use Rattle.std.proofs.lemmas.Bool.{OnTrue_at, OnTrue_from}
use Rattle.nm_tables.specs.FileTable.{files_in}
use Rattle.nm_tables.proofs.HintLemmas.{thread_lives}
use Rattle.nm_tables.proofs.hints.knows_live.Goals as goal

pub returns : goal.returns
returns c =
    let own = c.in-Some.ensures.label in
    OnTrue_from c.in_ok-live.live _
    (λ is rows are. let one = OnTrue_at is c.in_ok-live.ensures in
    thread_lives c.a_thread_has_one_name.ensures c.same_is_what_is_computed.ensures c.args.labels.now (files_in c.args.file_table.now) c.in-Some.name c.args.id.now one.0 own.0 c.next.ensures.labelling own.1 one.1 rows are)
