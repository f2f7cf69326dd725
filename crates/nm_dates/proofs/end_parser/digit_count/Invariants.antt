use Rattle.std.proofs.Common.{◌≡◌, ℕ, ◌<◌, true, get_or}
use Rattle.nm_dates.specs.Numbers.{is_digit}
use Rattle.nm_dates.proofs.end_parser.digit_count.Given as goal

abbrev pub invariant-digits : goal.invariant-digits
invariant-digits l = (k : ℕ) → k < l.at → is_digit (get_or l.text k 0) ≡ true
