use Rattle.std.proofs.Common.{ap}
use Rattle.nm_flags.specs.Renames.{asked_flags}
use Rattle.nm_name.specs.declared.flags.Flags.{Flags}
use Rattle.nm_flags.proofs.laws.each_letter_follows_its_tag.Goals as goal

pub returns-clause-draft : goal.returns-clause-draft
returns-clause-draft c = λ tags path changes. ap (λ (f : Flags). f.draft) (c.what_is_written_is_read.ensures.path path (asked_flags tags) changes)

pub returns-clause-flagged : goal.returns-clause-flagged
returns-clause-flagged c = λ tags path changes. ap (λ (f : Flags). f.flagged) (c.what_is_written_is_read.ensures.path path (asked_flags tags) changes)

pub returns-clause-passed : goal.returns-clause-passed
returns-clause-passed c = λ tags path changes. ap (λ (f : Flags). f.passed) (c.what_is_written_is_read.ensures.path path (asked_flags tags) changes)

pub returns-clause-replied : goal.returns-clause-replied
returns-clause-replied c = λ tags path changes. ap (λ (f : Flags). f.replied) (c.what_is_written_is_read.ensures.path path (asked_flags tags) changes)

pub returns-clause-seen : goal.returns-clause-seen
returns-clause-seen c = λ tags path changes. ap (λ (f : Flags). f.seen) (c.what_is_written_is_read.ensures.path path (asked_flags tags) changes)

pub returns-clause-trashed : goal.returns-clause-trashed
returns-clause-trashed c = λ tags path changes. ap (λ (f : Flags). f.trashed) (c.what_is_written_is_read.ensures.path path (asked_flags tags) changes)
