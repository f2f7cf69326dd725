-- Blocks that are read hit by hit, and block by block. For `Unpack` and the lemmas on what was packed.
use Rattle.std.proofs.Common.{◌≡◌, ℕ, zero, suc, ◌-◌, ◌<◌, ◌≤◌, List, [], ◌∷◌, ◌++◌, length, refl, ap, sym, ◌∙◌, arith}
use Rattle.nm_blocks.specs.declared.hit.Hit.{Hit}
use Rattle.nm_blocks.specs.Numbers.{number_at}
use Rattle.nm_blocks.specs.Blocks.{blocks_hits, hit_at, hits_at, hits_left, origin, run_hits}
use Rattle.nm_blocks.proofs.NumberLemmas.{number_at-shorter}

hit_at-shorter : (before : Hit) (bytes : List ℕ) → length (hit_at before bytes).1 ≤ length bytes
unfolding hit_at
hit_at-shorter before bytes =
    let doc = number_at bytes in
    let list = number_at doc.1 in
    omega (arith, number_at-shorter bytes, number_at-shorter doc.1, number_at-shorter list.1)

pub hits_at-shorter : (left : ℕ) (before : Hit) (bytes : List ℕ) → length (hits_at left before bytes).1 ≤ length bytes
unfolding hits_at
hits_at-shorter zero before bytes = omega arith
hits_at-shorter (suc left) before bytes =
    let hit = hit_at before bytes in
    omega (arith, hit_at-shorter before bytes, hits_at-shorter left hit.0 hit.1)

-- n blocks as there are bytes are enough
enough : (more others : ℕ) (bytes : List ℕ) → length bytes ≤ more → length bytes ≤ others → blocks_hits more bytes ≡ blocks_hits others bytes
unfolding blocks_hits
enough zero zero bytes lt le = refl
enough zero (suc others) [] lt le = refl
enough zero (suc others) (byte ∷ bytes) lt le = absurd (omega arith)
enough (suc more) zero [] lt le = refl
enough (suc more) zero (byte ∷ bytes) lt le = absurd (omega arith)
enough (suc more) (suc others) [] lt le = refl
enough (suc more) (suc others) (zero ∷ bytes) lt le = refl
enough (suc more) (suc others) (suc count ∷ bytes) lt le =
    let block = hits_at (suc count) origin bytes in
    let shorter = hits_at-shorter (suc count) origin bytes in
    ap (λ (hits : List Hit). block.0 ++ hits) (enough more others block.1 (omega arith) (omega arith))

-- no byte, no hit
pub no_byte : (bytes rest : List ℕ) (before : Hit) → length bytes ≡ 0 → hits_left 0 before rest ≡ run_hits bytes
unfolding hits_left run_hits blocks_hits
no_byte [] rest before e = refl
no_byte (byte ∷ bytes) rest before e = absurd (omega arith)

pub run_hits-nil : run_hits [] ≡ []
unfolding run_hits blocks_hits
run_hits-nil = refl

-- a count, and its hits
pub run_hits-block : (count : ℕ) (bytes : List ℕ) → 0 < count → run_hits (count ∷ bytes) ≡ (hits_at count origin bytes).0 ++ run_hits (hits_at count origin bytes).1
unfolding run_hits blocks_hits
run_hits-block zero bytes some = absurd (omega arith)
run_hits-block (suc count) bytes some =
    let block = hits_at (suc count) origin bytes in
    let shorter = hits_at-shorter (suc count) origin bytes in
    ap (λ (hits : List Hit). block.0 ++ hits) (enough (length bytes) (length block.1) block.1 (omega arith) (omega arith))

empty : (rest : List ℕ) → hits_left 0 origin rest ≡ run_hits (0 ∷ rest)
unfolding hits_left run_hits blocks_hits
empty rest = refl

several : (left : ℕ) (before : Hit) (bytes : List ℕ) → hits_left (suc left) before bytes ≡ (hits_at (suc left) before bytes).0 ++ run_hits (hits_at (suc left) before bytes).1
unfolding hits_left
several left before bytes = refl

-- the first byte is the count of a block
pub opened : (bytes rest : List ℕ) (count : ℕ) → bytes ≡ count ∷ rest → hits_left count origin rest ≡ run_hits bytes
opened bytes rest zero e = rw e (empty rest)
opened bytes rest (suc count) e = rw e (several count origin rest ∙ sym (run_hits-block (suc count) rest (omega arith)))

pub none_left : (left : ℕ) (before : Hit) (bytes : List ℕ) → left ≡ 0 → hits_left left before bytes ≡ []
unfolding hits_left
none_left zero before bytes e = refl
none_left (suc left) before bytes e = absurd (omega arith)

-- the last hit of a block
pub one_left : (left : ℕ) (before : Hit) (bytes : List ℕ) → left ≡ 1 → hits_left left before bytes ≡ (hit_at before bytes).0 ∷ run_hits (hit_at before bytes).1
unfolding hits_left hits_at
one_left left before bytes e = rw e refl

-- a hit with others after it in its block
pub more_left : (left : ℕ) (before : Hit) (bytes : List ℕ) → 1 < left → hits_left left before bytes ≡ (hit_at before bytes).0 ∷ hits_left (left - 1) (hit_at before bytes).0 (hit_at before bytes).1
unfolding hits_left hits_at
more_left zero before bytes some = absurd (omega arith)
more_left (suc zero) before bytes some = absurd (omega arith)
more_left (suc (suc left)) before bytes some = let e : suc (suc left) - 1 ≡ suc left = omega arith in rw e refl

-- what is read, for `Unpack`
pub ruleset blocks = (no_byte, opened, none_left, one_left, more_left)
