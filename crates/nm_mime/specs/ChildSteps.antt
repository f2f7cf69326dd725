-- Where the reader comes after a part. Cited by `children`.
use Rattle.std.specs.Prelude.{ℕ, ◌<◌, ◌≤◌}
use Rattle.nm_mime.specs.declared.children.NextSpan.{NextSpan}

-- the part comes before `end`, and the bytes after it begin after the front of these, whose length is n
pub record IsNextInside (len end : ℕ) (found : NextSpan) : Type 0 where
  pub rises : found.span.from ≤ found.span.to
  pub ends : found.span.to ≤ end
  pub goes_on : 0 < found.next
  pub within : found.next ≤ len
