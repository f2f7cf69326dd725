-- An index in bytes: its revision, the next number, its files in the order of their arrival, its kept rows, its entries, and the
-- live ids with their tags.
-- Cited by `laws` and `nm_state`.
use Rattle.std.specs.Prelude.{ℕ, List, ◌++◌, length}
use Rattle.nm_model_index.specs.Index.{row_bytes}
use Rattle.nm_model_index.specs.declared.base.Base.{Base}
use Rattle.nm_codec.specs.Encoding.{list_bytes, text_bytes, u64_bytes}
use Rattle.nm_record.specs.Commits.{arrival_grammar, tagging_grammar}

-- an id and its number
abbrev pub entry_bytes : List ℕ × ℕ → List ℕ
entry_bytes entry = text_bytes entry.0 ++ u64_bytes entry.1

-- the one encoding of an index
abbrev pub base_bytes : Base → List ℕ
base_bytes index =
    u64_bytes index.revision ++ u64_bytes index.next ++ list_bytes arrival_grammar.bytes index.files ++ list_bytes row_bytes index.kept
    ++ list_bytes entry_bytes index.entries ++ list_bytes tagging_grammar.bytes index.tags

-- how many bytes that is
abbrev pub base_len : Base → ℕ
base_len index = length (base_bytes index)
