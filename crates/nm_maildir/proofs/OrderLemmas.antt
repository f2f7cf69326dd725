-- Lists in order. For the proofs of `no_names` and `list_of`.
use Rattle.std.proofs.Common.{[]}
use Rattle.std.specs.List.Sorted.{IsStrictlySortedBy}
use Rattle.nm_base.specs.Order.{IsSorted}

pub none_in_order : IsSorted []
unfolding IsStrictlySortedBy
none_in_order = tt
