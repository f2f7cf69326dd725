use Rattle.std.proofs.Common.{◌≡◌, ◌<◌, ◌^◌, take}
use Rattle.nm_dates.specs.Numbers.{number_of}
use Rattle.nm_dates.proofs.numbers.number_of.Given as goal

abbrev pub invariant-digits : goal.invariant-digits
invariant-digits l = (l.number ≡ number_of (take l.digit-index l.text)) × (l.number < 10 ^ l.digit-index)
