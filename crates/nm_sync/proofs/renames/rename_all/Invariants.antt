use Rattle.std.proofs.Common.{◌≡◌, length}
use Rattle.std.specs.List.{flat_map}
use Rattle.nm_model_plan.specs.Moves.{move_given}
use Rattle.nm_sync.specs.Noted.{since}
use Rattle.nm_sync.specs.Renamed.{AsksRenames, IsKept}
use Rattle.nm_sync.proofs.RenameLemmas.{InRenames}
use Rattle.nm_sync.proofs.renames.rename_all.Given as goal

-- the first renames are done, and the others are left
abbrev pub invariant-renames : goal.invariant-renames
invariant-renames g l =
    let mail = g.M.Maildir in
    record {
      renames : InRenames l.shown.files l.fn.plan l.rename-iterator.rest.items (since l.initial.given l.given) l.done.unmoved;
      whole : l.rename-iterator.rest.len ≡ length l.rename-iterator.rest.items;
      kept : IsKept l.shown.files l.done;
      moves : l.done.moves ≡ flat_map move_given (since l.initial.given l.given);
      asks : AsksRenames (mail.observed l.initial.mail) (mail.observed l.mail) l.initial.given l.given;
      mail_same : (mail.observed l.mail).faults ≡ (mail.observed l.initial.mail).faults;
    }
