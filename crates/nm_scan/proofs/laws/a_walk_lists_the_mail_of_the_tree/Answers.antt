use Rattle.std.proofs.Common.{[]}
use Rattle.nm_scan.specs.Mail.{root}
use Rattle.nm_scan.proofs.CompleteLemmas.{all-mail, listed-are}
use Rattle.nm_scan.proofs.MailLemmas.{met-mail}
use Rattle.nm_scan.proofs.laws.a_walk_lists_the_mail_of_the_tree.Goals as goal

pub returns : goal.returns
returns c = record { met = listed-are; mail = λ tree path h. met-mail 33 tree [] path root h; all = all-mail }
