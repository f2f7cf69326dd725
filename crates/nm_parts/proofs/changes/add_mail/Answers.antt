use Rattle.std.proofs.Common.{refl, ap, subst, ◌≤◌, ◌^◌}
use Rattle.nm_parts.specs.Parts.{base_of}
use Rattle.nm_parts.proofs.AddLemmas.{mail_added}
use Rattle.nm_parts.specs.MailLaws.{mailed_is}
use Rattle.nm_parts.proofs.changes.add_mail.Goals as goal

pub label_mail-requires : goal.label_mail-requires
label_mail-requires c = subst (λ n. n ≤ 2 ^ 63) (ap (λ b. b.next) (mailed_is (base_of c.args.parts.now) c.args.path.now c.args.facts.now)) c.requires.room

pub returns-clause-parts : goal.returns-clause-parts
returns-clause-parts c =
    (mail_added c.thread_laws.ensures c.args.parts.now
    (record {
      revision = c.args.parts.now.revision;
      file_table = c.add_file.new.file_table;
      kept = c.args.parts.now.kept;
      labels = c.label_mail.new.labels;
      tags = c.tag_mail.new.tags;
    }) c.args.path.now c.args.facts.now c.requires.parts refl refl c.in_ok-add_file.ensures.filed c.in_ok-add_file.ensures.files c.in_ok-label_mail.ensures.numbers c.in_ok-label_mail.ensures.labels c.in_ok-tag_mail.ensures.tags (c.in_ok-tag_mail.ensures.tagged c.args.path.now c.requires.parts.tagged)).0

pub returns-clause-base : goal.returns-clause-base
returns-clause-base c =
    (mail_added c.thread_laws.ensures c.args.parts.now
    (record {
      revision = c.args.parts.now.revision;
      file_table = c.add_file.new.file_table;
      kept = c.args.parts.now.kept;
      labels = c.label_mail.new.labels;
      tags = c.tag_mail.new.tags;
    }) c.args.path.now c.args.facts.now c.requires.parts refl refl c.in_ok-add_file.ensures.filed c.in_ok-add_file.ensures.files c.in_ok-label_mail.ensures.numbers c.in_ok-label_mail.ensures.labels c.in_ok-tag_mail.ensures.tags (c.in_ok-tag_mail.ensures.tagged c.args.path.now c.requires.parts.tagged)).1
