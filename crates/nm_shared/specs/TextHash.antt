-- The hash of a text: of FNV-1a the prime, by which what is so far is multiplied before a byte is added.
-- Cited by `text_hash`.
use Rattle.std.specs.Prelude.{◌≡◌, ℕ, ◌+◌, ◌*◌, ◌^◌, ◌%◌, List, fold, true}
use Rattle.std.proofs.Common.{sym, ◌∙◌}
use Rattle.std.specs.Cmp.Lexicographic.{slice_cmp}
use Rattle.std.specs.Ordering.{is_eq, nat_cmp}
use Rattle.std.proofs.lemmas.Map.Text.{is_eq-slice_cmp}
use Rattle.std.proofs.lemmas.Slice.Eq.{bytes_eq-Decides}

-- the hash once a byte is added
abbrev pub next_hash : ℕ → ℕ → ℕ
next_hash hash byte = ((hash * 1099511628211) % 2 ^ 64 + byte) % 2 ^ 64

abbrev pub text_hash : List ℕ → ℕ
text_hash bytes = fold next_hash 0 bytes

-- texts that are the same in their order are the same
pub text_from : (a b : List ℕ) → is_eq (slice_cmp nat_cmp a b) ≡ true → a ≡ b
text_from a b e = (bytes_eq-Decides a b).0 (sym (is_eq-slice_cmp a b) ∙ e)
