use Rattle.std.proofs.Common.{◌^◌}
use Rattle.nm_parts.specs.Parts.{base_of}
use Rattle.nm_parts.specs.ChangeLaws.{fits_at, room_at}
use Rattle.nm_parts.proofs.commit_changes.apply_changes.Goals as goal

pub apply_change-requires-clause-fits : goal.apply_change-requires-clause-fits
apply_change-requires-clause-fits c =
    fits_at c.files_follow_their_changes.ensures (base_of c.args.parts.now) (base_of c.changes.parts) c.args.changes.now c.changes.change-index c.change-item.result c.changes-test.true c.requires.fits c.changes.invariant.base c.change-item.is

pub apply_change-requires-clause-room : goal.apply_change-requires-clause-room
apply_change-requires-clause-room c =
    room_at c.numbers_never_fall.ensures (base_of c.args.parts.now) (base_of c.changes.parts) c.args.changes.now c.changes.change-index c.change-item.result (2 ^ 63) c.changes-test.true c.requires.room c.changes.invariant.base c.change-item.is
