-- Names in byte order, without repeats. Cited by `folder_io`, `folder_mail`, `maildir` and others.
use Rattle.nm_base.specs.Order.{IsSorted}
use Rattle.nm_maildir.specs.declared.answers.Listing.{Listing}

-- both lists of a listing ascend
pub record AreInOrder (listing : Listing) : Type 0 where
  pub dirs : IsSorted listing.dirs
  pub files : IsSorted listing.files
