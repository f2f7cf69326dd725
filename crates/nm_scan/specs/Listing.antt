-- What a listing of a mail folder tells. Cited by `nm_writer` and `nm_history`.
use Rattle.std.specs.Prelude.{◌≡◌, ℕ, IsTrue, List, Option, Ok, Err, IfSome}
use Rattle.nm_base.specs.Order.{IsSorted}
use Rattle.nm_base.specs.declared.limit.Limit.{Limit}
use Rattle.nm_maildir.specs.Tree.{Tree}
use Rattle.nm_scan.specs.Walk.{is_walk_limit, scanned}

-- What was listed: the paths rise, and a tree that is known says which they are.
pub record IsListing (tree : Option Tree) (listed : List (List ℕ)) : Type 0 where
  pub rising : IsSorted listed
  pub told : IfSome tree (λ t. scanned t ≡ Ok listed)

-- The tree has more folders or files than are listed, or folders that are deeper, and no other limit; one that is reported says
-- which.
abbrev pub PassesListing : Option Tree → Limit → Type 0
PassesListing tree limit = IsTrue (is_walk_limit limit) × IfSome tree (λ t. scanned t ≡ Err limit)
