use Rattle.std.proofs.Common.{sym}
use Rattle.std.specs.Map.{values_of}
use Rattle.nm_tables.proofs.MailRowLemmas.{all_stay, one_more_mail}
use Rattle.nm_tables.proofs.kept.forget_rows.Goals as goal

pub ids-init : goal.ids-init
ids-init c = record { kept = c.requires; rows = sym (all_stay (values_of c.args.kept.now)) }

pub ids-preserved : goal.ids-preserved
ids-preserved c = record {
  kept = c.in_ok-forget_mail.ensures.kept;
  rows = one_more_mail (values_of c.args.kept.now) c.ids.kept c.forget_mail.new.kept c.args.ids.now c.ids.id-index c.id-item.result c.ids-test.true c.id-item.is c.ids.invariant.rows c.in_ok-forget_mail.ensures.rows;
}
