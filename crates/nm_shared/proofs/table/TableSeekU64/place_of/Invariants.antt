use Rattle.std.proofs.Common.{◌≡◌, ◌≢◌, ◌-◌, ◌<◌, ◌≤◌, length, get_or}
use Rattle.std.specs.Ordering.{nat_cmp}
use Rattle.std.specs.declared.cmp.Ordering.TheVariants.{Greater}
use Rattle.nm_shared.proofs.table.TableSeekU64.place_of.Given as goal

abbrev pub invariant-steps : goal.invariant-steps
invariant-steps g l = (l.low ≤ l.high) × (l.high ≤ length l.items)
    × ((entry : _) → 0 < l.low → nat_cmp l.key (get_or l.items (l.low - 1) entry).0 ≡ Greater)
    × ((entry : _) → l.high < length l.items → nat_cmp l.key (get_or l.items l.high entry).0 ≢ Greater)
