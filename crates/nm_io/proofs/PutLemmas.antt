-- What a writer holds after the pieces of a text, one after the other. For the proof of `write_whole`.
use Rattle.std.proofs.Common.{◌≡◌, ℕ, ◌+◌, ◌-◌, List, Option, length, take, drop, sym, ap, subst}
use Rattle.std.proofs.KnownBytes.{Appends-trans}
use Rattle.std.proofs.Math.Seq.{take-add}
use Rattle.std.specs.Io.KnownBytes.{Appends}
use Rattle.std.proofs.lemmas.List.{take_rest}

-- n more bytes from `at` on
pub puts_more : (a b c : Option (List ℕ)) (xs : List ℕ) (at n : ℕ) → Appends a b (take at xs)
    → Appends b c (take n (take (length xs - at) (drop at xs))) → Appends a c (take (at + n) xs)
puts_more a b c xs at n p q =
    let piece : take n (take (length xs - at) (drop at xs)) ≡ take n (drop at xs) = ap (take n) (take_rest xs at) in
    subst (Appends a c) (sym (take-add at n xs)) (Appends-trans a b c (take at xs) (take n (drop at xs)) p (subst (Appends b c) piece q))
