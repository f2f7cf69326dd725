use Rattle.std.proofs.Common.{◌≡◌, take}
use Rattle.std.specs.Prelude.{string_bytes}
use Rattle.nm_tags.specs.Encoding.{encoded_tag}
use Rattle.nm_tags.proofs.encode.encode_tag.Given as goal

abbrev pub invariant-bytes : goal.invariant-bytes
invariant-bytes l = string_bytes l.written ≡ encoded_tag (take l.byte-index l.byte-items)
