use Rattle.std.proofs.Common.{◌≡◌, [], length}
use Rattle.std.specs.Vec.Iter.{into_iter_items, into_iter_len}
use Rattle.nm_scan.proofs.PartLemmas.{GoesOn}
use Rattle.nm_scan.proofs.files.read_files.Given as goal

-- a batch that went on goes on
abbrev pub invariant-files : goal.invariant-files
invariant-files g l =
    let mail = g.M.Maildir in
    record {
      batch : GoesOn (mail.observed l.initial.mail) (mail.observed l.mail) (into_iter_items l.initial.paths) (into_iter_items l.paths) l.initial.lacks l.lacks l.found;
      none : l.found ≡ [] → l.left ≡ l.fn.most;
      whole : into_iter_len l.paths ≡ length (into_iter_items l.paths);
    }

abbrev pub decreases-files : goal.decreases-files
decreases-files g l = l.left
