use Rattle.std.proofs.Common.{refl, arith}
use Rattle.nm_scan.proofs.WalkLemmas.{begun, told-again, walk-stops}
use Rattle.nm_scan.specs.declared.scan_error.ScanError.TheVariants as errors
use Rattle.nm_scan.proofs.walk.list_paths.Goals as goal

pub folders-init : goal.folders-init
folders-init g c =
    let mail = g.M.Maildir in
    record {
      walks = begun (mail.observed c.args.mail.now).tree c.new.result c.in_ok-root.root c.new-pending.result c.push.new.self c.new.ensures c.in_ok-root.ensures c.new-pending.ensures c.in_ok-push.ensures.ok;
      tree = refl;
      reads = refl;
      faults = refl;
      few = omega arith;
    }

pub returns-in-Err-clause-limit : goal.returns-in-Err-clause-limit
returns-in-Err-clause-limit g c = λ limit e.
    let mail = g.M.Maildir in
    walk-stops (mail.observed c.args.mail.now).tree (mail.observed c.folders.mail).tree c.folders.walk c.folders.pending c.pop.new.self c.in-Some.folder limit c.folders.invariant.tree c.in-Some.ensures c.folders.invariant.walks
    (c.in-Err.ensures.limit limit (told-again c.in-Err.error (errors.Limit limit) e))
