use Rattle.std.proofs.Common.{false}
use Rattle.nm_model_answer.specs.Dump.{dump, tagged}
use Rattle.nm_model_answer.specs.Restore.{restorings_of}
use Rattle.nm_base.specs.Order.{sorted}
use Rattle.nm_base.specs.declared.forms.DumpForm.TheVariants.{BatchTag, Sup}
use Rattle.nm_base.specs.declared.forms.ReadForm.TheVariants as forms
use Rattle.nm_dump.proofs.RestoredDumpLemmas.{all_committed}
use Rattle.nm_dump.proofs.restore_laws.a_restored_dump_is_in_the_index.Goals as goal

pub returns-clause-changes : goal.returns-clause-changes
returns-clause-changes c =
    λ moment old index form ids other valid h numbered.
    all_committed c.the_commit_of_tags_leaves_what_is_wanted.ensures.lines moment index numbered (restorings_of (record { form = form; accumulate = false }) (dump BatchTag old ids)) (tagged old (sorted ids))
    (c.a_dump_restores_its_tags.ensures.index moment old index form ids other valid h)

pub returns-clause-sup : goal.returns-clause-sup
returns-clause-sup c =
    λ moment old index ids valid h fit numbered.
    all_committed c.the_commit_of_tags_leaves_what_is_wanted.ensures.lines moment index numbered (restorings_of (record { form = forms.Sup; accumulate = false }) (dump Sup old ids)) (tagged old (sorted ids))
    (c.a_dump_restores_its_tags.ensures.index_sup moment old index ids valid h fit)
