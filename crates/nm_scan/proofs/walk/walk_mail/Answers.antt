use Rattle.nm_scan.proofs.WalkLemmas.{mail-stops}
use Rattle.nm_scan.specs.Walk.{inside}
use Rattle.std.proofs.Common.{◌-◌}
use Rattle.nm_scan.proofs.walk.walk_mail.Goals as goal

pub returns-in-Err-clause-walks : goal.returns-in-Err-clause-walks
returns-in-Err-clause-walks g c =
    let mail = g.M.Maildir in
    mail-stops (mail.observed c.args.mail.now).tree c.args.walk.now c.enter.new.walk (c.args.folder.now.levels - 1) (inside c.args.folder.now.path c.args.name.now) c.in-Err.error c.in-Err.ensures.walks
