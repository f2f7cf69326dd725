use Rattle.std.proofs.Common.{◌≡◌, ◌<◌, ◌^◌, take}
use Rattle.nm_query.specs.Terms.{hex_number}
use Rattle.nm_query.proofs.terms.hex_number.Given as goal

abbrev pub invariant-digits : goal.invariant-digits
invariant-digits l = (l.number ≡ hex_number (take l.digit-index l.text)) × (l.number < 16 ^ l.digit-index)
