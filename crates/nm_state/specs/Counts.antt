-- What an index comes to. Cited by `room`.
use Rattle.std.specs.Prelude.{◌≡◌, length, min}
use Rattle.nm_base.specs.Limits.{max_count}
use Rattle.nm_model_index.specs.declared.base.Base.{Base}
use Rattle.nm_record.specs.BaseBytes.{base_len}
use Rattle.nm_state.specs.declared.room.Counts.{Counts}

-- these numbers of files and bytes, and this next number, as far as a number can count them
pub record AreCounts (index : Base) (counts : Counts) : Type 0 where
  pub files : counts.files ≡ length index.files
  pub bytes : counts.bytes ≡ min (base_len index) max_count
  pub next : counts.next ≡ min index.next max_count
