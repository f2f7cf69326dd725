-- Entries take what their ids take. For proofs alone: those of `MeasuredLabels` and `nm_state`.
use Rattle.std.proofs.Common.{◌≡◌, refl, ℕ, ◌+◌, List, [], ◌∷◌, length, length-append, map, arith}
use Rattle.std.proofs.lemmas.List.Sums.{sum_by-cons}
use Rattle.nm_codec.specs.Encoding.{text_bytes, u64_bytes}
use Rattle.nm_record.specs.BaseBytes.{entry_bytes}
use Rattle.nm_tables.specs.Measures.{entries_len, ids_len}

-- the number of an id takes eight bytes whatever it is
pub entry_len_is : (id : List ℕ) (n : ℕ) → length (entry_bytes (id, n)) ≡ length (entry_bytes (id, 0))
entry_len_is id n = omega (arith, length-append (text_bytes id) (u64_bytes n), length-append (text_bytes id) (u64_bytes 0))

pub entries-cons : (e : List ℕ × ℕ) (es : List (List ℕ × ℕ)) → entries_len (e ∷ es) ≡ length (entry_bytes e) + entries_len es
entries-cons e es = sum_by-cons (λ (entry : List ℕ × ℕ). length (entry_bytes entry)) e es

ids-cons : (id : List ℕ) (ids : List (List ℕ)) → ids_len (id ∷ ids) ≡ length (entry_bytes (id, 0)) + ids_len ids
ids-cons id ids = sum_by-cons (λ (i : List ℕ). length (entry_bytes (i, 0))) id ids

pub entries_ids : (es : List (List ℕ × ℕ)) → ids_len (map (λ entry. entry.0) es) ≡ entries_len es
entries_ids [] = refl
entries_ids (e ∷ es) = omega (arith, ids-cons e.0 (map (λ (entry : List ℕ × ℕ). entry.0) es), entries-cons e es, entries_ids es, entry_len_is e.0 e.1)
