-- Bytes that represent a character each: a run of ASCII is itself. For the proof of `decode_single_byte`.
use Rattle.std.proofs.Common.{◌≡◌, ℕ, suc, ◌<◌, List, [], ◌∷◌, ◌++◌, map, refl, sym, ap, ◌∙◌, arith, append_assoc}
use Rattle.std.proofs.lemmas.Str.{encodes-append, encodes-IsAscii}
use Rattle.std.proofs.lemmas.List.{map-append, append-nil}
use Rattle.std.proofs.lemmas.Bool.Decides.{nat_tests}
use Rattle.std.specs.Str.{IsAscii, encode_utf8_all}
use Rattle.std.specs.Char.{encode_utf8}
use Rattle.nm_decode.specs.Charsets.{char_in, single_byte_text}
use Rattle.nm_decode.specs.declared.charset.Charset.{Charset}
use Rattle.nm_decode.specs.declared.charset.Charset.TheVariants.{Ascii, Latin1, Utf8}

-- below 128 a byte is its own character
char_in-ascii : (charset : Charset) (b : ℕ) → b < 128 → char_in charset b ≡ b
char_in-ascii Latin1 b h = refl
char_in-ascii Ascii b h = grind (arith, nat_tests)
char_in-ascii Utf8 b h = grind (arith, nat_tests)

map-ascii : (charset : Charset) (run : List ℕ) → IsAscii run → map (char_in charset) run ≡ run
map-ascii charset [] h = refl
map-ascii charset (b ∷ run) h =
    ap (λ x. x ∷ map (char_in charset) run) (char_in-ascii charset b (h 0))
    ∙ ap (λ xs. b ∷ xs) (map-ascii charset run (λ i. h (suc i)))

-- the turn of a loop that decodes a run of ASCII and one byte after it
pub single_byte-run : (charset : Charset) (run more : List ℕ) → IsAscii run → single_byte_text charset (run ++ more) ≡ run ++ single_byte_text charset more
single_byte-run charset run more h =
    ap encode_utf8_all (map-append (char_in charset) run more)
    ∙ encodes-append (map (char_in charset) run) (map (char_in charset) more)
    ∙ ap (λ xs. encode_utf8_all xs ++ single_byte_text charset more) (map-ascii charset run h)
    ∙ ap (λ xs. xs ++ single_byte_text charset more) (encodes-IsAscii run h)

pub single_byte-turn : (charset : Charset) (out rest run after more all : List ℕ) (b : ℕ) → IsAscii run → rest ≡ run ++ after → after ≡ b ∷ more
    → out ++ single_byte_text charset rest ≡ all → ((out ++ run) ++ encode_utf8 (char_in charset b)) ++ single_byte_text charset more ≡ all
single_byte-turn charset out rest run after more all b h e f g =
    append_assoc (out ++ run) (encode_utf8 (char_in charset b)) (single_byte_text charset more)
    ∙ append_assoc out run (encode_utf8 (char_in charset b) ++ single_byte_text charset more)
    ∙ ap (λ xs. out ++ xs) (sym (single_byte-run charset run (b ∷ more) h))
    ∙ ap (λ xs. out ++ single_byte_text charset (run ++ xs)) (sym f)
    ∙ ap (λ xs. out ++ single_byte_text charset xs) (sym e)
    ∙ g

pub single_byte-end : (charset : Charset) (out rest run after all : List ℕ) → IsAscii run → rest ≡ run ++ after → after ≡ []
    → out ++ single_byte_text charset rest ≡ all → out ++ run ≡ all
single_byte-end charset out rest run after all h e f g =
    ap (λ xs. out ++ xs) (sym (append-nil run) ∙ sym (single_byte-run charset run [] h))
    ∙ ap (λ xs. out ++ single_byte_text charset (run ++ xs)) (sym f)
    ∙ ap (λ xs. out ++ single_byte_text charset xs) (sym e)
    ∙ g
