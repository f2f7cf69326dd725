use Rattle.std.proofs.Common.{◌≡◌, ◌<◌, ◌++◌, drop}
use Rattle.nm_decode.specs.Base64.{base64_of}
use Rattle.nm_decode.proofs.GroupLemmas.{after, values}
use Rattle.nm_decode.proofs.groups.base64_bytes.Given as goal

abbrev pub invariant-characters : goal.invariant-characters
invariant-characters l = record {
  made : l.out.items ++ after l.place l.last (values (drop l.byte-index l.data)) ≡ base64_of l.bytes;
  place : l.place < 4;
  last : l.last < 64;
}
