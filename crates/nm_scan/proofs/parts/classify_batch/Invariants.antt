use Rattle.std.proofs.Common.{◌≡◌, ◌-◌, ◌<◌, [], length, OnOk}
use Rattle.std.specs.Vec.Iter.{into_iter_items, into_iter_len}
use Rattle.nm_scan.proofs.PartLemmas.{IsUnderWay}
use Rattle.nm_scan.specs.Found.{IsClosed}
use Rattle.nm_scan.specs.FileReads.{full_answers}
use Rattle.nm_scan.proofs.parts.classify_batch.Given as goal

-- parts are classified in turn
abbrev pub invariant-parts : goal.invariant-parts
invariant-parts g l =
    let mail = g.M.Maildir in
    record {
      under_way : IsUnderWay (mail.observed l.fn.mail) (mail.observed l.mail) (into_iter_items l.fn.paths) (into_iter_items l.paths) l.lacks l.part.found l.all.items l.part.read;
      closed : OnOk l.part.read (l.part.found ≡ [] → IsClosed (into_iter_items l.paths) l.lacks);
      some : 0 < l.most;
      whole : into_iter_len l.paths ≡ length (into_iter_items l.paths);
    }

abbrev pub decreases-parts : goal.decreases-parts
decreases-parts g l = full_answers - length l.all.items
