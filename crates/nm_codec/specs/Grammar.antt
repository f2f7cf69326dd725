-- A grammar: how values of one kind are encoded in bytes, with the promise that what is written is read again and that
-- what is read was written so. Grammars are put together from others, and the promise with them.
-- Cited by `format`, `list`, `nm_record` and others.
use Rattle.std.specs.Prelude.{◌≡◌, ℕ, ℤ, ◌<◌, ◌^◌, Bool, true, ◌&&◌, List, ◌++◌, length, Option, None, Some, Ok, FitsSigned}
use Rattle.std.specs.List.{list_all}
use Rattle.std.specs.Int.{w64}
use Rattle.std.specs.Str.{is_utf8}
use Rattle.nm_base.specs.Word.{is_word}
use Rattle.nm_codec.specs.ReadSteps.{IsBytes, Reading, Takes, coded_at, is_rising, list_at, mapped_at, pair_at, rising_at, signed_at, tested_at, text_at}
use Rattle.nm_codec.specs.Encoding.{i64_bytes, list_bytes, text_bytes, u8_bytes}
use Rattle.nm_codec.specs.TextLaws.{some_text, text_again, text_only}
use Rattle.nm_codec.specs.PairLaws.{some_pair, pair_again, pair_only}
use Rattle.nm_codec.specs.ListLaws.{some_list, list_again, list_only}
use Rattle.nm_codec.specs.SignedLaws.{coded_again, coded_read, signed_tested_again, signed_tested_only, some_byte, some_signed}
use Rattle.nm_codec.specs.RisingLaws.{rising_again, rising_only}
use Rattle.nm_codec.specs.MapLaws.{mapped_again, mapped_only, tested_again, tested_only}

-- One encoding of the values of a type: how they are read and written, which values have one, and that reading and writing undo each other.
pub record Grammar (A : Type 0) : Type 0 where
  -- what is at the front of bytes, or where the first byte outside of the grammar is
  pub read : List ℕ → Reading A
  -- the bytes of a value
  pub bytes : A → List ℕ
  -- which of the lists and numbers that a contract sees are values of the kind
  pub is_value : A → Bool
  -- a value takes a byte at least
  pub some : (a : A) → 0 < length (bytes a)
  -- what is written is read again, whatever follows
  pub again : (a : A) (rest : List ℕ) → is_value a ≡ true → length (bytes a) < 2 ^ 32 → read (bytes a ++ rest) ≡ Ok (a, rest)
  -- what is read was written so
  pub only : (all : List ℕ) (a : A) (rest : List ℕ) → IsBytes all → read all ≡ Ok (a, rest) → Takes all (bytes a) rest × (is_value a ≡ true)

-- a text after its length
abbrev pub text_grammar : Grammar (List ℕ)
text_grammar = record { read = text_at; bytes = text_bytes; is_value = is_utf8; some = some_text; again = text_again; only = text_only }

-- a value, and another one after it
abbrev pub pair_grammar : {A B : Type 0} → Grammar A → Grammar B → Grammar (A × B)
pair_grammar f g = record {
  read = pair_at f.read g.read;
  bytes = λ pair. f.bytes pair.0 ++ g.bytes pair.1;
  is_value = λ pair. f.is_value pair.0 && g.is_value pair.1;
  some = some_pair f.bytes g.bytes f.some;
  again = pair_again f.read g.read f.bytes g.bytes f.is_value g.is_value f.again g.again;
  only = pair_only f.read g.read f.bytes g.bytes f.is_value g.is_value f.only g.only;
}

-- items after their count
abbrev pub list_grammar : {A : Type 0} → Grammar A → Grammar (List A)
list_grammar f = record {
  read = list_at f.read;
  bytes = list_bytes f.bytes;
  is_value = list_all f.is_value;
  some = some_list f.read f.bytes;
  again = list_again f.read f.bytes f.is_value f.some f.again;
  only = list_only f.read f.bytes f.is_value f.only;
}

-- the values that pass a test; the fault of one that does not is where it begins
abbrev pub tested_grammar : {A : Type 0} → (A → Bool) → Grammar A → Grammar A
tested_grammar test f = record {
  read = tested_at test f.read;
  bytes = f.bytes;
  is_value = λ a. f.is_value a && test a;
  some = f.some;
  again = tested_again test f.read f.bytes f.is_value f.again;
  only = tested_only test f.read f.bytes f.is_value f.only;
}

-- values that are made of others, and from which these can be had again
abbrev pub mapped_grammar : {A B : Type 0} (make : A → B) (parts : B → A) → ((b : B) → make (parts b) ≡ b) → ((a : A) → parts (make a) ≡ a) → Grammar A → Grammar B
mapped_grammar make parts made had f = record {
  read = mapped_at make f.read;
  bytes = λ b. f.bytes (parts b);
  is_value = λ b. f.is_value (parts b);
  some = λ b. f.some (parts b);
  again = mapped_again make parts made f.read f.bytes f.is_value f.again;
  only = mapped_only make parts had f.read f.bytes f.is_value f.only;
}

-- numbers in two's complement that pass a test, which none passes that has more than eight bytes
abbrev pub signed_grammar : (test : ℤ → Bool) → ((z : ℤ) → test z ≡ true → FitsSigned w64 z) → Grammar ℤ
signed_grammar test fits = record {
  read = tested_at test signed_at;
  bytes = i64_bytes;
  is_value = test;
  some = some_signed;
  again = signed_tested_again test fits;
  only = signed_tested_only test;
}

-- values that one byte represents
abbrev pub code_grammar : {A : Type 0} (value_of : ℕ → Option A) (code_of : A → ℕ) → ((a : A) → value_of (code_of a) ≡ Some a) → ((a : A) → code_of a < 2 ^ 8)
    → ((n : ℕ) (a : A) → value_of n ≡ Some a → code_of a ≡ n) → Grammar A
code_grammar value_of code_of back small code = record {
  read = coded_at value_of;
  bytes = λ a. u8_bytes (code_of a);
  is_value = λ a. true;
  some = λ a. some_byte (code_of a);
  again = λ a rest v short. coded_again value_of code_of back small a rest;
  only = coded_read value_of code_of code;
}

-- items that rise, after their count; the fault of one that does not is where it begins
abbrev pub rising_grammar : {A : Type 0} → (A → A → Bool) → Grammar A → Grammar (List A)
rising_grammar below f = record {
  read = rising_at below f.read;
  bytes = list_bytes f.bytes;
  is_value = λ xs. list_all f.is_value xs && is_rising below None xs;
  some = some_list f.read f.bytes;
  again = rising_again below f.read f.bytes f.is_value f.some f.again;
  only = rising_only below f.read f.bytes f.is_value f.only;
}

-- a word of a text
abbrev pub word_grammar : Grammar (List ℕ)
word_grammar = tested_grammar is_word text_grammar

-- the words of a text, after their count
abbrev pub words_grammar : Grammar (List (List ℕ))
words_grammar = list_grammar word_grammar
