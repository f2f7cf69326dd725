use Rattle.std.proofs.Common.{◌≡◌, not, length}
use Rattle.std.specs.List.{filter}
use Rattle.std.specs.Map.{values_of}
use Rattle.nm_base.specs.Order.{same_text}
use Rattle.nm_tables.specs.Kept.{AreKept}
use Rattle.nm_tables.proofs.kept.forget_mail.Given as goal

-- the rows of other mails stay
abbrev pub invariant-rows : goal.invariant-rows
invariant-rows l = record {
  kept : AreKept l.kept;
  rows : filter (λ row. not (same_text row.id l.id)) (values_of l.kept) ≡ filter (λ row. not (same_text row.id l.id)) (values_of l.initial.kept);
}

abbrev pub decreases-rows : goal.decreases-rows
decreases-rows l = length l.kept
