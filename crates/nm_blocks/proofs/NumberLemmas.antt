-- Numbers in bytes: how a number's bytes go on, how many there are, and that they are read again.
-- For `put_number`, `take_number` and the lemmas on blocks.
use Rattle.std.proofs.Common.{◌≡◌, ℕ, zero, suc, ◌+◌, ◌-◌, ◌*◌, ◌/◌, ◌%◌, ◌^◌, ◌<◌, ◌≤◌, Bool, true, false, ltb, min, List, [], ◌∷◌, ◌++◌, length, refl, ap, sym, ◌∙◌, append_assoc, length-append, arith, inl, inr}
use Rattle.std.proofs.lemmas.Bool.{cases_lt, lt-ltb, le-ltb}
use Rattle.nm_blocks.specs.Gaps.{capped}
use Rattle.nm_blocks.specs.Numbers.{groups, number_bytes, number_at}

-- the numbers that n groups after the first hold
abbrev room : ℕ → ℕ
room zero = 128
room (suc more) = 128 * room more

short : (more n : ℕ) → n < 128 → groups more n ≡ n ∷ []
unfolding groups
short zero n lt = refl
short (suc more) n lt = let t : ltb n 128 ≡ true = lt-ltb _ _ lt in rw t refl

long : (more n : ℕ) → 128 ≤ n → groups (suc more) n ≡ (n % 128 + 128) ∷ groups more (n / 128)
unfolding groups
long more n le = let t : ltb n 128 ≡ false = le-ltb _ _ le in rw t refl

-- one group more than needed changes nothing
enough : (more n : ℕ) → n < room more → groups more n ≡ groups (suc more) n
enough zero n lt = short zero n lt ∙ sym (short 1 n lt)
enough (suc more) n lt =
    elim (cases_lt n 128) [
      | inl few ↦ short (suc more) n few ∙ sym (short (suc (suc more)) n few)
      | inr many ↦ long more n many ∙ ap (λ bytes. (n % 128 + 128) ∷ bytes) (enough more (n / 128) (omega arith)) ∙ sym (long (suc more) n many)
    ]

pub number_bytes-short : (n : ℕ) → n < 128 → number_bytes n ≡ n ∷ []
unfolding number_bytes
number_bytes-short n lt = short 4 n lt

pub number_bytes-long : (n : ℕ) → 128 ≤ n → n < 2 ^ 32 → number_bytes n ≡ (n % 128 + 128) ∷ number_bytes (n / 128)
unfolding number_bytes
number_bytes-long n le lt = long 3 n le ∙ ap (λ bytes. (n % 128 + 128) ∷ bytes) (enough 3 (n / 128) (omega arith))

few : (more n : ℕ) → length (groups more n) ≤ suc more
unfolding groups
few zero n = omega arith
few (suc more) n =
    elim (cases_lt n 128) [
      | inl lt ↦ rw (short (suc more) n lt) (omega arith)
      | inr le ↦ rw (long more n le) (omega (arith, few more (n / 128)))
    ]

pub number_bytes-few : (n : ℕ) → length (number_bytes n) ≤ 5
unfolding number_bytes
number_bytes-few n = few 4 n

pub one : (byte : ℕ) (bytes : List ℕ) → byte < 128 → number_at (byte ∷ bytes) ≡ (byte, bytes)
unfolding number_at
one byte bytes lt = let t : ltb byte 128 ≡ true = lt-ltb _ _ lt in rw t refl

pub more_follow : (byte : ℕ) (bytes : List ℕ) → 128 ≤ byte
    → number_at (byte ∷ bytes) ≡ (capped (byte - 128 + 128 * (number_at bytes).0), (number_at bytes).1)
unfolding number_at
more_follow byte bytes le = let t : ltb byte 128 ≡ false = le-ltb _ _ le in rw t refl

again : (more n : ℕ) (rest : List ℕ) → n < room more → n < 2 ^ 32 → number_at (groups more n ++ rest) ≡ (n, rest)
again zero n rest lt fits = rw (short zero n lt) (one n rest lt)
again (suc more) n rest lt fits =
    elim (cases_lt n 128) [
      | inl few ↦ rw (short (suc more) n few) (one n rest few)
      | inr many ↦
          let whole : capped (n % 128 + 128 - 128 + 128 * (n / 128)) ≡ n = omega arith in
          rw (long more n many) (more_follow (n % 128 + 128) (groups more (n / 128) ++ rest) (omega arith)
          ∙ rw (again more (n / 128) rest (omega arith) (omega arith)) (ap (λ m. (m, rest)) whole))
    ]

pub number_again : (n : ℕ) (rest : List ℕ) → n < 2 ^ 32 → number_at (number_bytes n ++ rest) ≡ (n, rest)
unfolding number_bytes
number_again n rest fits = again 4 n rest (omega arith) fits

-- reading takes no byte that is not there
pub number_at-shorter : (bytes : List ℕ) → length (number_at bytes).1 ≤ length bytes
unfolding number_at
number_at-shorter [] = omega arith
number_at-shorter (byte ∷ bytes) =
    elim (cases_lt byte 128) [
      | inl lt ↦ rw (one byte bytes lt) (omega arith)
      | inr le ↦ rw (more_follow byte bytes le) (omega (arith, number_at-shorter bytes))
    ]

some : (more n : ℕ) → 0 < length (groups more n)
unfolding groups
some zero n = omega arith
some (suc more) n =
    elim (cases_lt n 128) [
      | inl lt ↦ rw (short (suc more) n lt) (omega arith)
      | inr le ↦ rw (long more n le) (omega arith)
    ]

pub number_bytes-some : (n : ℕ) → 0 < length (number_bytes n)
unfolding number_bytes
number_bytes-some n = some 4 n

-- while bytes of a number are written, there is room for one more
pub has_room : (begun written : List ℕ) (n rest : ℕ) → length begun + 5 ≤ 2049 → written ++ number_bytes rest ≡ begun ++ number_bytes n → length written < 2049
has_room begun written n rest room all =
    omega (arith, room, simp length-append at (ap length all), number_bytes-few n, number_bytes-some rest)

-- the lowest seven bits are written
pub goes_on : (written all : List ℕ) (n : ℕ) → 128 ≤ n → n < 2 ^ 32 → written ++ number_bytes n ≡ all → (written ++ (n % 128 + 128) ∷ []) ++ number_bytes (n / 128) ≡ all
goes_on written all n le lt so_far =
    append_assoc written ((n % 128 + 128) ∷ []) (number_bytes (n / 128)) ∙ ap (λ bytes. written ++ bytes) (sym (number_bytes-long n le lt)) ∙ so_far

pub none : (bytes : List ℕ) → length bytes ≡ 0 → number_at bytes ≡ (0, bytes)
unfolding number_at
none [] e = refl
none (byte ∷ bytes) e = absurd (omega arith)

-- how bytes are read, for `take_number`
pub ruleset reading = (one, more_follow, none)

-- for `put_hit`
pub ruleset short_numbers = (number_bytes-few, length-append)
