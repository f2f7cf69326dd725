-- The one encoding of numbers, texts and lists: numbers big-endian, a text and a list after their length in four bytes.
-- Cited by `list`, `text`, `nm_record` and others.
use Rattle.std.specs.Prelude.{ℕ, ℤ, List, ◌++◌, length}
use Rattle.std.specs.List.{flat_map}
use Rattle.std.specs.Int.{w8, w32, w64, to_be_bytes, cast_unsigned}

abbrev pub u8_bytes : ℕ → List ℕ
u8_bytes n = to_be_bytes w8 n

abbrev pub u32_bytes : ℕ → List ℕ
u32_bytes n = to_be_bytes w32 n

abbrev pub u64_bytes : ℕ → List ℕ
u64_bytes n = to_be_bytes w64 n

-- as two's complement
abbrev pub i64_bytes : ℤ → List ℕ
i64_bytes z = to_be_bytes w64 (cast_unsigned w64 z)

-- the length, and the bytes
abbrev pub text_bytes : List ℕ → List ℕ
text_bytes text = u32_bytes (length text) ++ text

-- the count, and the items
abbrev pub list_bytes : {A : Type 0} → (A → List ℕ) → List A → List ℕ
list_bytes item_bytes items = u32_bytes (length items) ++ flat_map item_bytes items
