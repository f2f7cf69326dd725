-- The standard encoding of bytes reads back as the bytes. For the proof of `base64_reads_back`.
use Rattle.std.proofs.Common.{◌≡◌, ℕ, zero, suc, ◌+◌, ◌*◌, ◌/◌, ◌%◌, ◌<◌, ◌≤◌, Bool, true, false, not, ◌&&◌, List, [], ◌∷◌, ◌++◌, map, take, replicate, length, get_or, slice_index, refl, ap, ◌∙◌, cond, eqb, ◌⊎◌, inl, inr, arith}
use Rattle.std.specs.List.{before_first, filter, position_or_len}
use Rattle.std.proofs.lemmas.Bool.{and_parts, cases_lt, eqb-true, not-true}
use Rattle.base64.specs.Engines.{standard}
use Rattle.base64.specs.GeneralPurpose.{encode_of, engine_symbols}
use Rattle.base64.specs.Rfc4648.{encode_symbols, padding_len}
use Rattle.base64.specs.Tables.{all_below}
use Rattle.nm_text.specs.Cuts.{is_byte}
use Rattle.nm_decode.specs.Base64.{base64_of, bytes_of_groups, is_symbol, kept, six_bits}

-- the character of six bits
abbrev pub symbol_at : ℕ → ℕ
symbol_at v = slice_index (engine_symbols standard) v

-- it counts, it has these bits, and it isn't `=`
abbrev is_good : ℕ → Bool
is_good v = is_symbol (symbol_at v) && (eqb (six_bits (symbol_at v)) v && not (eqb (symbol_at v) 61))

all_good : all_below is_good 64 ≡ true
all_good = refl

below-step : (p : ℕ → Bool) (n v : ℕ) → v < suc n → (v < n) ⊎ (n ≤ v) → p n ≡ true → (v < n → p v ≡ true) → p v ≡ true
below-step p n v l (inl k) e h = h k
below-step p n v l (inr k) e h = let q : v ≡ n = omega arith in ap p q ∙ e

pub below : (p : ℕ → Bool) (n v : ℕ) → v < n → all_below p n ≡ true → p v ≡ true
below p zero v l e = absurd (omega arith)
below p (suc n) v l e =
    let h = and_parts (p n) (all_below p n) e in
    below-step p n v l (cases_lt v n) h.0 (λ k. below p n v k h.1)

good : (v : ℕ) → v < 64 → is_good v ≡ true
good v l = below is_good 64 v l all_good

-- the first `=` isn't before a character that counts
before-cons : (s : ℕ) (rest : List ℕ) (n m : ℕ) → m ≡ suc n → take m (s ∷ rest) ≡ s ∷ take n rest
before-cons s rest n m e = ap (λ j. take j (s ∷ rest)) e

before-more : (s : ℕ) (rest : List ℕ) → eqb s 61 ≡ false → before_first (is_byte 61) (s ∷ rest) ≡ s ∷ before_first (is_byte 61) rest
before-more s rest e =
    let k : position_or_len (is_byte 61) (s ∷ rest) ≡ suc (position_or_len (is_byte 61) rest) = rw e (omega arith) in
    before-cons s rest (position_or_len (is_byte 61) rest) (position_or_len (is_byte 61) (s ∷ rest)) k

filter-keep : (s : ℕ) (rest : List ℕ) → is_symbol s ≡ true → filter is_symbol (s ∷ rest) ≡ s ∷ filter is_symbol rest
filter-keep s rest h = ap (λ t. cond t (s ∷ filter is_symbol rest) (filter is_symbol rest)) h

-- numbers of six bits
abbrev pub Small : List ℕ → Type 0
Small [] = Unit {0}
Small (v ∷ vs) = (v < 64) × Small vs

-- their characters, with padding after them, give them back
kept-back : (vs : List ℕ) (k : ℕ) → Small vs → map six_bits (kept (map symbol_at vs ++ replicate k 61)) ≡ vs
kept-back [] zero h = refl
kept-back [] (suc k) h = refl
kept-back (v ∷ vs) k h =
    let g = good v h.0 in
    let p = and_parts (is_symbol (symbol_at v)) (eqb (six_bits (symbol_at v)) v && not (eqb (symbol_at v) 61)) g in
    let q = and_parts (eqb (six_bits (symbol_at v)) v) (not (eqb (symbol_at v) 61)) p.1 in
    let rest = map symbol_at vs ++ replicate k 61 in
    ap (λ xs. map six_bits (filter is_symbol xs)) (before-more (symbol_at v) rest (not-true (eqb (symbol_at v) 61) q.1))
    ∙ ap (map six_bits) (filter-keep (symbol_at v) (before_first (is_byte 61) rest) p.0)
    ∙ ap (λ x. x ∷ map six_bits (kept rest)) (eqb-true (six_bits (symbol_at v)) v q.0)
    ∙ ap (λ xs. v ∷ xs) (kept-back vs k h.1)

-- the six bits of the characters of a message
abbrev pub sextets : List ℕ → List ℕ
sextets [] = []
sextets (a ∷ []) = (a / 4) ∷ (a % 4 * 16) ∷ []
sextets (a ∷ b ∷ []) = (a / 4) ∷ (a % 4 * 16 + b / 16) ∷ (b % 16 * 4) ∷ []
sextets (a ∷ b ∷ c ∷ rest) = (a / 4) ∷ (a % 4 * 16 + b / 16) ∷ (b % 16 * 4 + c / 64) ∷ (c % 64) ∷ sextets rest

pub symbols-are : (m : List ℕ) → encode_symbols (engine_symbols standard) m ≡ map symbol_at (sextets m)
unfolding encode_symbols
symbols-are [] = refl
symbols-are (a ∷ []) = refl
symbols-are (a ∷ b ∷ []) = refl
symbols-are (a ∷ b ∷ c ∷ rest) =
    ap (λ xs. symbol_at (a / 4) ∷ symbol_at (a % 4 * 16 + b / 16) ∷ symbol_at (b % 16 * 4 + c / 64) ∷ symbol_at (c % 64) ∷ xs) (symbols-are rest)

pub small-sextets : (m : List ℕ) → ((i : ℕ) → get_or m i 0 < 256) → Small (sextets m)
small-sextets [] h = tt
small-sextets (a ∷ []) h = (omega (arith, h 0), (omega (arith, h 0), tt))
small-sextets (a ∷ b ∷ []) h = (omega (arith, h 0), (omega (arith, h 0, h 1), (omega (arith, h 1), tt)))
small-sextets (a ∷ b ∷ c ∷ rest) h =
    (omega (arith, h 0), (omega (arith, h 0, h 1), (omega (arith, h 1, h 2), (omega (arith, h 2), small-sextets rest (λ i. h (suc (suc (suc i))))))))

three : (x a y b z c : ℕ) (xs ys : List ℕ) → x ≡ a → y ≡ b → z ≡ c → xs ≡ ys → x ∷ y ∷ z ∷ xs ≡ a ∷ b ∷ c ∷ ys
three x a y b z c xs ys e f g h = cc

bytes-back : (m : List ℕ) → ((i : ℕ) → get_or m i 0 < 256) → bytes_of_groups (sextets m) ≡ m
bytes-back [] h = refl
bytes-back (a ∷ []) h =
    let x : a / 4 * 4 + a % 4 * 16 / 16 ≡ a = omega (arith, h 0) in
    ap (λ y. y ∷ []) x
bytes-back (a ∷ b ∷ []) h =
    let x : a / 4 * 4 + (a % 4 * 16 + b / 16) / 16 ≡ a = omega (arith, h 0, h 1) in
    let y : (a % 4 * 16 + b / 16) % 16 * 16 + b % 16 * 4 / 4 ≡ b = omega (arith, h 0, h 1) in
    ap (λ i. i ∷ ((a % 4 * 16 + b / 16) % 16 * 16 + b % 16 * 4 / 4) ∷ []) x ∙ ap (λ i. a ∷ i ∷ []) y
bytes-back (a ∷ b ∷ c ∷ rest) h =
    let x : a / 4 * 4 + (a % 4 * 16 + b / 16) / 16 ≡ a = omega (arith, h 0, h 1) in
    let y : (a % 4 * 16 + b / 16) % 16 * 16 + (b % 16 * 4 + c / 64) / 4 ≡ b = omega (arith, h 0, h 1, h 2) in
    let z : (b % 16 * 4 + c / 64) % 4 * 64 + c % 64 ≡ c = omega (arith, h 1, h 2) in
    three (a / 4 * 4 + (a % 4 * 16 + b / 16) / 16) a ((a % 4 * 16 + b / 16) % 16 * 16 + (b % 16 * 4 + c / 64) / 4) b
    ((b % 16 * 4 + c / 64) % 4 * 64 + c % 64) c (bytes_of_groups (sextets rest)) rest x y z (bytes-back rest (λ i. h (suc (suc (suc i)))))

pub base64_back : (m : List ℕ) → ((i : ℕ) → get_or m i 0 < 256) → base64_of (encode_of standard m) ≡ m
base64_back m h =
    ap (λ xs. bytes_of_groups (map six_bits (kept (xs ++ replicate (padding_len (length m)) 61)))) (symbols-are m)
    ∙ ap bytes_of_groups (kept-back (sextets m) (padding_len (length m)) (small-sextets m h))
    ∙ bytes-back m h
