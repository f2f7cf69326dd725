use Rattle.nm_model_answer.specs.Dump.{tagged}
use Rattle.nm_base.specs.Order.{sorted}
use Rattle.nm_dump.proofs.RestoredDumpLemmas.{changes_restored, messages_restored, sup_restored, tagged_once}
use Rattle.nm_dump.proofs.restore_laws.a_dump_restores_its_tags.Goals as goal

pub returns-clause-lines : goal.returns-clause-lines
returns-clause-lines c = messages_restored c.a_restore_sets_the_tags_of_each_message.ensures.live

pub returns-clause-changes : goal.returns-clause-changes
returns-clause-changes c =
    let read = c.a_written_dump_is_read_back.ensures in
    changes_restored c.a_restore_sets_the_tags_of_each_message.ensures.live read.changes read.told

pub returns-clause-sup : goal.returns-clause-sup
returns-clause-sup c = sup_restored c.a_restore_sets_the_tags_of_each_message.ensures.live c.a_written_sup_dump_is_read_back.ensures

pub returns-clause-index : goal.returns-clause-index
returns-clause-index c =
    let read = c.a_written_dump_is_read_back.ensures in
    λ moment old index form ids other valid h.
    changes_restored c.a_restore_sets_the_tags_of_each_message.ensures.live read.changes read.told moment index form (tagged old (sorted ids)) other h (tagged_once old ids valid)

pub returns-clause-index_sup : goal.returns-clause-index_sup
returns-clause-index_sup c =
    λ moment old index ids valid h fit.
    sup_restored c.a_restore_sets_the_tags_of_each_message.ensures.live c.a_written_sup_dump_is_read_back.ensures moment index (tagged old (sorted ids)) h fit (tagged_once old ids valid)
