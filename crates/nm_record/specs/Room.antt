-- The numbers that an index keeps to, and which of them it passes. Cited by `nm_state` and `nm_writer`.
use Rattle.std.specs.Prelude.{ℕ, ◌^◌, ◌||◌, nat_lt, length, Option, None, Some, if◌then◌else◌}
use Rattle.nm_base.specs.Limits.{max_files, max_index_bytes}
use Rattle.nm_base.specs.declared.limit.Limit.{Limit}
use Rattle.nm_base.specs.declared.limit.Limit.TheVariants.{Files, IndexBytes, Numbers}
use Rattle.nm_model_index.specs.declared.base.Base.{Base}
use Rattle.nm_record.specs.BaseBytes.{base_len}

-- the most that the revision and the next number come to
abbrev pub max_number : ℕ
max_number = 2 ^ 63

-- the first number that the index passes: that of files, that of bytes, that of the next number and of the revision
abbrev pub limit_passed : Base → Option Limit
limit_passed index =
    if nat_lt max_files (length index.files) then Some Files
    else if nat_lt max_index_bytes (base_len index) then Some IndexBytes
    else if nat_lt max_number index.next || nat_lt max_number index.revision then Some Numbers
    else None
