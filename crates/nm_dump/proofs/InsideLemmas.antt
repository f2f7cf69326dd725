-- Where a text in parentheses may be cut. For the proof of `inside`.
use Rattle.std.proofs.Common.{◌≡◌, ℕ, ◌==◌, ◌&&◌, ◌<◌, ◌≤◌, true, nat_le, List, length, slice_index, arith}
use Rattle.std.specs.Str.{IsUtf8, IsCharBoundary}
use Rattle.std.proofs.lemmas.Bool.{and_parts}
use Rattle.std.proofs.lemmas.Bool.Decides.{nat_tests}
use Rattle.std.proofs.lemmas.Str.{IsCharBoundary-after_ascii}
use Rattle.nm_model_answer.specs.Sup.{is_in_parentheses}

-- it has two bytes at least
pub two_bytes : (text : List ℕ) → is_in_parentheses text ≡ true → 2 ≤ length text
two_bytes text e =
    let long = (and_parts (nat_le 2 (length text)) _ (and_parts (nat_le 2 (length text) && slice_index text 0 == 40) _ e).0).0 in
    grind (arith, nat_tests)

-- after the opening one
pub cut_after_first : (text : List ℕ) → IsUtf8 text → is_in_parentheses text ≡ true → IsCharBoundary text 1
cut_after_first text u e =
    let first = (and_parts (nat_le 2 (length text)) _ (and_parts (nat_le 2 (length text) && slice_index text 0 == 40) _ e).0).1 in
    let long = two_bytes text e in
    let low : slice_index text 0 < 128 = grind (arith, nat_tests) in
    IsCharBoundary-after_ascii text 0 u (omega arith) low
