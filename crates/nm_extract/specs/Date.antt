-- The date of a mail (RFC 5322, section 3.3), as `jiff` reads it, without comments. Cited by `dates`.
use Rattle.std.specs.Prelude.{ℕ, ℤ, pos, List, Result, Ok, Err, int_div, false, slice_get, codes, Option, Some, None, if◌then◌else◌}
use Rattle.jiff_core.specs.declared.error.Error.{Error}
use Rattle.jiff_fmt.specs.Rfc2822.{timestamp}
use Rattle.nm_base.specs.Limits.{is_date}
use Rattle.nm_text.specs.WhiteSpace.{trimmed}
use Rattle.nm_header.specs.Comments.{plain_of}
use Rattle.nm_header.specs.Texts.{texts_of}
use Rattle.nm_header.specs.declared.header.HeaderField.{HeaderField}

-- a second out of the range counts as none was read
abbrev pub kept_second : ℤ → ℤ
kept_second second = if is_date second then second else pos 0

-- the second of a moment in nanoseconds, where one was read
abbrev pub second_read : Result ℤ Error → ℤ
second_read (Ok nanos) = kept_second (int_div nanos (pos 1000000000))
second_read (Err error) = pos 0

-- the second that a Date says
abbrev pub second_of : List ℕ → ℤ
second_of text = second_read (timestamp false (trimmed (plain_of text)))

-- that of the first of such texts, or 0 where there is none
abbrev pub first_second : Option (List ℕ) → ℤ
first_second None = pos 0
first_second (Some text) = second_of text

-- the second that the first Date says, or 0
abbrev pub date_of : List HeaderField → ℤ
date_of fields = first_second (slice_get (texts_of fields (codes "date")) 0)
