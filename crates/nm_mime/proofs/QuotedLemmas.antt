-- How far a quoted string goes, and what it says, by its first byte. For `Utf8Lemmas` and `WrittenLemmas`.
use Rattle.std.proofs.Common.{◌≡◌, ℕ, ◌+◌, cond, false, ◌==◌, List, [], ◌∷◌, ◌++◌, take, drop, ap, ◌∙◌}
use Rattle.std.specs.List.{flat_map}
use Rattle.nm_text.specs.Cuts.{len_through}
use Rattle.nm_text.specs.QuotedStrings.{is_special, pair_more, pairs_of, quoted_len, unquoted, unquoted_pair}
use Rattle.nm_text.specs.CutLaws.{cut-cons, cut-nil}

pub quoted-nil : quoted_len [] ≡ 0
quoted-nil = ap (len_through (is_special 34)) (cut-nil pair_more)

pub unquoted-nil : unquoted [] ≡ []
unquoted-nil = ap (flat_map unquoted_pair) (cut-nil pair_more)

-- the string is closed
pub quoted-close : (more : List ℕ) → quoted_len (34 ∷ more) ≡ 1
quoted-close more = ap (len_through (is_special 34)) (cut-cons pair_more 34 more)

pub unquoted-close : (more : List ℕ) → unquoted (34 ∷ more) ≡ unquoted more
unquoted-close more = ap (flat_map unquoted_pair) (cut-cons pair_more 34 more)

-- a `\` with the byte that it takes
pub quoted-pair : (c : ℕ) (more : List ℕ) → quoted_len (92 ∷ c ∷ more) ≡ 2 + quoted_len more
quoted-pair c more = ap (len_through (is_special 34)) (cut-cons pair_more 92 (c ∷ more))

pub quoted-last : quoted_len (92 ∷ []) ≡ 1
quoted-last = ap (len_through (is_special 34)) (cut-cons pair_more 92 [] ∙ ap (λ l. (92 ∷ []) ∷ l) (cut-nil pair_more))

-- any other byte
pairs-byte : (b : ℕ) (more : List ℕ) → (b == 92) ≡ false → pairs_of (b ∷ more) ≡ (b ∷ []) ∷ pairs_of more
pairs-byte b more pair = cut-cons pair_more b more ∙ ap (λ v. (b ∷ take (cond v 1 0) more) ∷ pairs_of (drop (cond v 1 0) more)) pair

pub quoted-byte : (b : ℕ) (more : List ℕ) → (b == 34) ≡ false → (b == 92) ≡ false → quoted_len (b ∷ more) ≡ 1 + quoted_len more
quoted-byte b more quote pair = ap (len_through (is_special 34)) (pairs-byte b more pair) ∙ ap (λ v. cond v 1 (1 + quoted_len more)) quote

pub unquoted-byte : (b : ℕ) (more : List ℕ) → (b == 34) ≡ false → (b == 92) ≡ false → unquoted (b ∷ more) ≡ b ∷ unquoted more
unquoted-byte b more quote pair = ap (flat_map unquoted_pair) (pairs-byte b more pair) ∙ ap (λ v. cond v [] (b ∷ []) ++ unquoted more) quote
