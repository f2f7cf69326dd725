-- What was noted since, from what was appended. For the proofs of `Writer::scan_and_take_in`, `Writer::set_tags` and others.
use Rattle.std.proofs.Common.{◌≡◌, List, [], ◌++◌, sym, ap, ◌∙◌, append-nil, append_assoc}
use Rattle.std.proofs.Math.Seq.{drop-append_seam}
use Rattle.nm_maildir.specs.declared.given.Given.{Given}
use Rattle.nm_sync.specs.Noted.{since}

-- what was appended was noted since
since-is : (old new more : List Given) → new ≡ old ++ more → since old new ≡ more
since-is old new more is = ap (since old) is ∙ drop-append_seam old more

-- where nothing was appended, nothing was
pub since-none : (old new : List Given) → new ≡ old → since old new ≡ []
since-none old new same = since-is old new [] (same ∙ sym (append-nil old))

-- what was appended first, and what was after it
pub since-then : (old mid new first more : List Given) → mid ≡ old ++ first → new ≡ mid ++ more → since old new ≡ first ++ more
since-then old mid new first more one two = since-is old new (first ++ more) (two ∙ (ap (λ (l : List Given). l ++ more) one ∙ append_assoc old first more))
