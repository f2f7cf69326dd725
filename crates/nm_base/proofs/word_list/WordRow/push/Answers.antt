use Rattle.std.proofs.Common.{refl}
use Rattle.std.proofs.lemmas.Str.{is_utf8-from_IsUtf8}
use Rattle.nm_base.proofs.word_list.WordRow.push.Goals as goal

pub push_bytes-requires : goal.push_bytes-requires
push_bytes-requires c = rw (c.as_bytes.ensures.value, c.requires, is_utf8-from_IsUtf8 c.args.word.now c.utf8.word) refl
