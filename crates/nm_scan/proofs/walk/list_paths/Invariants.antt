use Rattle.std.proofs.Common.{◌≡◌, ◌≤◌, ◌-◌, IfSome, reverse}
use Rattle.nm_base.specs.Limits.{max_folders}
use Rattle.nm_scan.specs.Walk.{to_come, walked, walked_through}
use Rattle.nm_scan.proofs.walk.list_paths.Given as goal

-- what is still to come, from here on, ends as the whole walk does
abbrev pub invariant-folders : goal.invariant-folders
invariant-folders g l =
    let mail = g.M.Maildir in
    record {
      walks : IfSome (mail.observed l.initial.mail).tree (λ t. walked_through t ≡ walked l.walk (to_come t (reverse l.pending)));
      tree : (mail.observed l.mail).tree ≡ (mail.observed l.initial.mail).tree;
      reads : (mail.observed l.mail).reads ≡ (mail.observed l.initial.mail).reads;
      faults : (mail.observed l.mail).faults ≡ (mail.observed l.initial.mail).faults;
      few : l.walk.folders ≤ max_folders;
    }

abbrev pub decreases-folders : goal.decreases-folders
decreases-folders g l = max_folders - l.walk.folders
