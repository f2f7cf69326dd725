-- Reading from left to right: a value and the bytes after it, or the place of the first byte that is not of the grammar.
-- A place is given by how many bytes are left from there on, so that it is the same for a part of the bytes and for all.
-- Cited by `format`, `list`, `nm_record` and others.
use Rattle.std.specs.Prelude.{◌≡◌, ℕ, zero, suc, ◌-◌, ◌≤◌, ℤ, Bool, true, ◌&&◌, Option, None, Some, List, [], ◌∷◌, ◌++◌, ◌<◌, length, slice_get, slice_index, take, drop, Result, Ok, Err, nat_lt, ◌==◌, if◌then◌else◌}
use Rattle.std.specs.Int.{Width, w8, w32, w64, byte_len, from_be_bytes, cast_signed}
use Rattle.std.specs.Ordering.{is_lt}
use Rattle.std.specs.declared.cmp.Ordering.{Ordering}
use Rattle.std.specs.Str.{is_utf8}
use Rattle.nm_codec.specs.declared.read_error.Bad.{Bad}
use Rattle.nm_codec.specs.declared.read_error.ReadError.{ReadError}
use Rattle.nm_codec.specs.declared.read_error.ReadError.TheVariants as errors

-- what reading gives: a value and the bytes after it, or how many bytes are left where the first one outside of the grammar is
abbrev pub Reading : Type 0 → Type 0
Reading A = Result (A × List ℕ) ℕ

-- a step of reading, and then what depends on its value
infixl 10 ◌>>=◌
-- one reading, and then another on what it gives; a fault ends both
abbrev pub ◌>>=◌ : {A B : Type 0} → Result A ℕ → (A → Result B ℕ) → Result B ℕ
(Ok x) >>= f = f x
(Err left) >>= f = Err left

-- a number of a width; bytes that end too soon have the fault at their end
abbrev pub number_at : Width → List ℕ → Reading ℕ
number_at w bytes = if nat_lt (length bytes) (byte_len w) then Err 0 else Ok (from_be_bytes w (take (byte_len w) bytes), drop (byte_len w) bytes)

-- a number in two's complement
unfoldable pub signed_at : List ℕ → Reading ℤ
signed_at bytes = do
  n ← number_at w64 bytes
  Ok (cast_signed w64 n.0, n.1)

-- a text; one that is not UTF-8 has the fault where it begins
unfoldable pub text_at : List ℕ → Reading (List ℕ)
text_at bytes = do
  n ← number_at w32 bytes
  if nat_lt (length n.1) n.0 then Err 0 else if is_utf8 (take n.0 n.1) then Ok (take n.0 n.1, drop n.0 n.1) else Err (length bytes)

-- a value that passes a test; one that does not has the fault where it begins
unfoldable pub tested_at : {A : Type 0} → (A → Bool) → (List ℕ → Reading A) → List ℕ → Reading A
tested_at test read bytes = do
  x ← read bytes
  if test x.0 then Ok x else Err (length bytes)

-- a value that is made of what is read
unfoldable pub mapped_at : {A B : Type 0} → (A → B) → (List ℕ → Reading A) → List ℕ → Reading B
mapped_at make read bytes = do
  x ← read bytes
  Ok (make x.0, x.1)

-- a value that a byte represents; the fault of a byte that represents none is its own place
abbrev pub chosen : {A : Type 0} → Option A → List ℕ → ℕ → Reading A
chosen (Some a) rest left = Ok (a, rest)
chosen None rest left = Err left

-- a byte at the front, as a code
unfoldable pub coded_at : {A : Type 0} → (ℕ → Option A) → List ℕ → Reading A
coded_at value_of bytes = do
  n ← number_at w8 bytes
  chosen (value_of n.0) n.1 (length bytes)

-- the first value is below the second in an order
abbrev pub is_below : {A : Type 0} → (A → A → Ordering) → A → A → Bool
is_below cmp a b = is_lt (cmp a b)

-- the value may come after the one before
abbrev pub follows : {A : Type 0} → (A → A → Bool) → Option A → A → Bool
follows below None x = true
follows below (Some last) x = below last x

-- each value may come after the one before
abbrev pub is_rising : {A : Type 0} → (A → A → Bool) → Option A → List A → Bool
is_rising below last [] = true
is_rising below last (x ∷ xs) = follows below last x && is_rising below (Some x) xs

-- n items that rise; the fault of one that does not is where it begins
unfoldable pub rising_items_at : {A : Type 0} → (A → A → Bool) → (List ℕ → Reading A) → Option A → ℕ → List ℕ → Reading (List A)
rising_items_at below read last zero bytes = Ok ([], bytes)
rising_items_at below read last (suc n) bytes = do
  first ← tested_at (follows below last) read bytes
  others ← rising_items_at below read (Some first.0) n first.1
  Ok (first.0 ∷ others.0, others.1)

-- a list that rises: its count, and its items
unfoldable pub rising_at : {A : Type 0} → (A → A → Bool) → (List ℕ → Reading A) → List ℕ → Reading (List A)
rising_at below read bytes = do
  n ← number_at w32 bytes
  rising_items_at below read None n.0 n.1

-- n items
unfoldable pub items_at : {A : Type 0} → (List ℕ → Reading A) → ℕ → List ℕ → Reading (List A)
items_at read zero bytes = Ok ([], bytes)
items_at read (suc n) bytes = do
  first ← read bytes
  others ← items_at read n first.1
  Ok (first.0 ∷ others.0, others.1)

-- two values, the second after the first
unfoldable pub pair_at : {A B : Type 0} → (List ℕ → Reading A) → (List ℕ → Reading B) → List ℕ → Reading (A × B)
pair_at first second bytes = do
  x ← first bytes
  y ← second x.1
  Ok ((x.0, y.0), y.1)

-- a list: its count, and its items
unfoldable pub list_at : {A : Type 0} → (List ℕ → Reading A) → List ℕ → Reading (List A)
list_at read bytes = do
  n ← number_at w32 bytes
  items_at read n.0 n.1

-- all of the bytes: what is left over is the fault
unfoldable pub all_of : {A : Type 0} → (List ℕ → Reading A) → List ℕ → Result A ℕ
all_of read bytes = do
  x ← read bytes
  if length x.1 == 0 then Ok x.0 else Err (length x.1)

-- where a reader is: how many bytes there are in all, and those that are left
pub record Place : Type 0 where
  pub len : ℕ
  pub rest : List ℕ

-- what a reader answered is what reading gives from its place; a fault is reported by its place in all the bytes
abbrev pub Gives : {A : Type 0} → Place → Result A Bad → Place → Reading A → Type 0
Gives old (Ok x) new read = (read ≡ Ok (x, new.rest)) × (new.len ≡ old.len)
Gives old (Err bad) new read = (bad.at ≤ old.len) × (read ≡ Err (old.len - bad.at))

-- as `Gives`, unless memory ran out
abbrev pub GivesUnlessNoMemory : {A : Type 0} → Place → Result A ReadError → Place → Reading A → Type 0
GivesUnlessNoMemory old (Ok x) new read = (read ≡ Ok (x, new.rest)) × (new.len ≡ old.len)
GivesUnlessNoMemory old (Err errors.NoMemory) new read = Unit {0}
GivesUnlessNoMemory old (Err (errors.Bad at)) new read = (at ≤ old.len) × (read ≡ Err (old.len - at))

-- what was answered for all of the bytes is what reading gives, unless memory ran out
abbrev pub AnswersUnlessNoMemory : {A : Type 0} → List ℕ → Result A ReadError → Result A ℕ → Type 0
AnswersUnlessNoMemory bytes (Ok x) read = read ≡ Ok x
AnswersUnlessNoMemory bytes (Err errors.NoMemory) read = Unit {0}
AnswersUnlessNoMemory bytes (Err (errors.Bad at)) read = (at ≤ length bytes) × (read ≡ Err (length bytes - at))

-- the last of some items, if there is one
abbrev pub last_of : {A : Type 0} → List A → Option A
last_of xs = slice_get xs (length xs - 1)

-- numbers that are bytes
abbrev pub IsBytes : List ℕ → Type 0
IsBytes bytes = (i : ℕ) → slice_index bytes i < 256

-- the text is at the front of the bytes, and then the rest
pub record Takes (bytes text rest : List ℕ) : Type 0 where
  pub parts : bytes ≡ text ++ rest
  pub rest_fits : IsBytes rest
