use Rattle.std.proofs.Common.{rules, refl}
use Rattle.nm_model_index.specs.Index.{committed}
use Rattle.nm_writer.specs.NameTags.{IsFollowed}
use Rattle.nm_writer.proofs.NameTagLemmas.{named-are, next-is}
use Rattle.nm_writer.proofs.name_tags.with_names.Goals as goal

pub returns-clause-commit : goal.returns-clause-commit
returns-clause-commit g c =
    let followed : IsFollowed c.args.shown.now (record { changes = c.args.changes }) c.args.ids.now c.in_ok-sets.field-0 = search rules in
    named-are c.args.shown.now (committed c.args.shown.now (record { changes = c.args.changes })) c.args.changes c.in_ok-commit.commit.changes c.args.ids.now c.in_ok-sets.field-0.sets
    refl followed.sets c.in_ok-commit.ensures

pub returns-clause-next : goal.returns-clause-next
returns-clause-next g c =
    let followed : IsFollowed c.args.shown.now (record { changes = c.args.changes }) c.args.ids.now c.in_ok-sets.field-0 = search rules in
    next-is c.args.shown.now (committed c.args.shown.now (record { changes = c.args.changes })) c.in_ok-sets.field-0.next c.args.changes c.in_ok-commit.commit.changes c.in_ok-sets.field-0.sets refl followed.next c.in_ok-commit.ensures
