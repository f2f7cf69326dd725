-- What an index takes in bytes, part by part. For the proof of `a_base_takes_what_its_parts_take`.
use Rattle.std.proofs.Common.{◌≡◌, ap, ◌∙◌, ℕ, ◌+◌, List, ◌++◌, length, length-append, arith}
use Rattle.std.specs.List.{flat_map, sum_by}
use Rattle.std.proofs.lemmas.List.Concat.{length-flat_map}
use Rattle.nm_codec.specs.Encoding.{list_bytes, u32_bytes, u64_bytes}
use Rattle.nm_model_index.specs.Index.{row_bytes}
use Rattle.nm_model_index.specs.declared.base.Base.{Base}
use Rattle.nm_record.specs.BaseBytes.{base_len, entry_bytes}
use Rattle.nm_record.specs.Commits.{arrival_grammar, tagging_grammar}

list_len : {A : Type 0} (bytes : A → List ℕ) (xs : List A) → length (list_bytes bytes xs) ≡ 4 + sum_by (λ x. length (bytes x)) xs
list_len bytes xs = length-append (u32_bytes (length xs)) (flat_map bytes xs) ∙ ap (λ n. 4 + n) (length-flat_map bytes xs)

six : (a b c d e f : List ℕ) → length (a ++ b ++ c ++ d ++ e ++ f) ≡ length a + length b + length c + length d + length e + length f
six a b c d e f = omega (arith, length-append (a ++ b ++ c ++ d ++ e) f, length-append (a ++ b ++ c ++ d) e, length-append (a ++ b ++ c) d, length-append (a ++ b) c, length-append a b)

pub base_parts : (index : Base) → base_len index ≡ 32 + sum_by (λ file. length (arrival_grammar.bytes file)) index.files + sum_by (λ row. length (row_bytes row)) index.kept
    + sum_by (λ entry. length (entry_bytes entry)) index.entries + sum_by (λ tagged. length (tagging_grammar.bytes tagged)) index.tags
base_parts index =
    let all = six (u64_bytes index.revision) (u64_bytes index.next) (list_bytes arrival_grammar.bytes index.files) (list_bytes row_bytes index.kept) (list_bytes entry_bytes index.entries) (list_bytes tagging_grammar.bytes index.tags) in
    let files = list_len arrival_grammar.bytes index.files in
    let kept = list_len row_bytes index.kept in
    let entries = list_len entry_bytes index.entries in
    let tags = list_len tagging_grammar.bytes index.tags in
    omega (arith, all, files, kept, entries, tags)
