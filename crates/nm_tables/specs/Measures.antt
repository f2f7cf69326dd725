-- What the parts of a snapshot take in the bytes of its index.
-- Cited by `measured_labels`, `measured_map`, `message_tags` and others.
use Rattle.std.specs.Prelude.{◌≡◌, ℕ, ◌+◌, ◌||◌, true, List, length}
use Rattle.std.proofs.Common.{ap, sym, ◌∙◌}
use Rattle.std.specs.List.{sum_by}
use Rattle.std.specs.Cmp.Lexicographic.{slice_cmp}
use Rattle.std.specs.Ordering.{is_eq, nat_cmp}
use Rattle.std.proofs.lemmas.Map.Text.{is_eq-slice_cmp}
use Rattle.std.proofs.lemmas.Slice.Eq.{bytes_eq-Decides}
use Rattle.nm_base.specs.Order.{has_text}
use Rattle.nm_threads.specs.Labels.{Labelling, entries_of, has_entry, numbered}
use Rattle.nm_codec.specs.Encoding.{text_bytes}
use Rattle.nm_record.specs.BaseBytes.{entry_bytes}
use Rattle.nm_record.specs.Tags.{tags_grammar}

-- the pairs of a map, each its key and its value
abbrev pub pairs_len : {K V : Type 0} → (K → ℕ) → (V → ℕ) → List (K × V) → ℕ
pairs_len key value pairs = sum_by (λ pair. key pair.0 + value pair.1) pairs

-- messages with their tags
abbrev pub all_tags_len : List (List ℕ × List (List ℕ)) → ℕ
all_tags_len tags = pairs_len (λ id. length (text_bytes id)) (λ set. length (tags_grammar.bytes set)) tags

-- ids with their numbers
abbrev pub entries_len : List (List ℕ × ℕ) → ℕ
entries_len entries = sum_by (λ entry. length (entry_bytes entry)) entries

-- ids that get numbers
abbrev pub ids_len : List (List ℕ) → ℕ
ids_len ids = sum_by (λ id. length (entry_bytes (id, 0))) ids

-- of the ids so far these had no number, and take n bytes with it
pub record AreSeen (labels : Labelling) (ids seen : List (List ℕ)) (bytes : ℕ) : Type 0 where
  pub known : (id : List ℕ) → has_entry (numbered (entries_of labels.labels) labels.next ids).0 id ≡ (has_entry (entries_of labels.labels) id || has_text seen id)
  pub counted : entries_len (numbered (entries_of labels.labels) labels.next ids).0 ≡ entries_len (entries_of labels.labels) + bytes

-- texts that are the same in their order are the same
pub text_from : (a b : List ℕ) → is_eq (slice_cmp nat_cmp a b) ≡ true → a ≡ b
text_from a b e = (bytes_eq-Decides a b).0 (sym (is_eq-slice_cmp a b) ∙ e)

-- and take the same as bytes
pub bytes_alike : (a b : List ℕ) → is_eq (slice_cmp nat_cmp a b) ≡ true → length a ≡ length b
bytes_alike a b e = ap (λ (t : List ℕ). length t) (text_from a b e)
