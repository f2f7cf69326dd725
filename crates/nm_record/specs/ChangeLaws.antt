-- A change is read again as it was written, and what is read was written so. Cited by `CommitGrammar`.
use Rattle.std.proofs.Common.{◌≡◌, ℕ, zero, suc, ◌^◌, ◌<◌, true, List, ◌++◌, length, Ok, refl, ap, subst, arith}
use Rattle.std.specs.Int.{w8}
use Rattle.nm_commit.specs.declared.change.Change.{Change}
use Rattle.nm_commit.specs.declared.change.Change.TheVariants.{Add, Drop, Move, SetTags}
use Rattle.nm_codec.specs.Grammar.{Grammar}
use Rattle.nm_codec.specs.ReadSteps.{IsBytes, Takes, mapped_at, number_at}
use Rattle.nm_codec.specs.Encoding.{u8_bytes}
use Rattle.nm_codec.specs.StepLaws.{bind_ok, ok_is, Takes-then}
use Rattle.nm_codec.specs.NumberLaws.{is_width_8, number_again, number_only}
use Rattle.nm_record.specs.Commits.{arrival_grammar, change_at, change_bytes, is_change, kind_at, move_grammar, tagging_grammar}
use Rattle.nm_record.specs.Facts.{path_grammar}

-- a change has a byte at least
pub some_change : (change : Change) → 0 < length (change_bytes change)
some_change (Add path facts) = omega arith
some_change (Drop path) = omega arith
some_change (Move from to) = omega arith
some_change (SetTags id tags) = omega arith

module _ {A : Type 0} (make : A → Change) (g : Grammar A) where
  -- what comes after a kind is read again
  kind_again : (kind : ℕ) → kind < 2 ^ 8 → ((bytes : List ℕ) (left : ℕ) → kind_at kind bytes left ≡ mapped_at make g.read bytes)
      → (a : A) (rest : List ℕ) → g.is_value a ≡ true → length (g.bytes a) < 2 ^ 32 → change_at ((u8_bytes kind ++ g.bytes a) ++ rest) ≡ Ok (make a, rest)
  unfolding change_at mapped_at
  kind_again kind small is a rest v short =
      let first = number_again w8 (2 ^ 8) is_width_8 kind (g.bytes a ++ rest) small in
      rw (first, is (g.bytes a ++ rest) (length (u8_bytes kind ++ (g.bytes a ++ rest))), g.again a rest v short) refl

  -- what comes after a kind was written so
  kind_only : (bytes : List ℕ) (change : Change) (rest : List ℕ) → IsBytes bytes → mapped_at make g.read bytes ≡ Ok (change, rest)
      → (a : A) × (make a ≡ change) × Takes bytes (g.bytes a) rest × (g.is_value a ≡ true)
  unfolding mapped_at
  kind_only bytes change rest fits e =
      let f = bind_ok (g.read bytes) (λ x. Ok (make x.0, x.1)) (change, rest) e in
      let is = ok_is (make f.0.0, f.0.1) (change, rest) f.2 in
      let first = g.only bytes f.0.0 f.0.1 fits f.1 in
      (f.0.0, ap (λ (p : Change × List ℕ). p.0) is, subst (λ (r : List ℕ). Takes bytes (g.bytes f.0.0) r) (ap (λ (p : Change × List ℕ). p.1) is) first.0, first.1)

-- a change that was written is read
pub change_again : (change : Change) (rest : List ℕ) → is_change change ≡ true → length (change_bytes change) < 2 ^ 32 → change_at (change_bytes change ++ rest) ≡ Ok (change, rest)
change_again (Add path facts) rest v short = kind_again (λ p. Add p.0 p.1) arrival_grammar 1 (omega arith) (λ bytes left. refl) (path, facts) rest v (omega (arith, short))
change_again (Drop path) rest v short = kind_again Drop path_grammar 2 (omega arith) (λ bytes left. refl) path rest v (omega (arith, short))
change_again (Move from to) rest v short = kind_again (λ p. Move p.0 p.1) move_grammar 3 (omega arith) (λ bytes left. refl) (from, to) rest v (omega (arith, short))
change_again (SetTags id tags) rest v short = kind_again (λ p. SetTags p.0 p.1) tagging_grammar 4 (omega arith) (λ bytes left. refl) (id, tags) rest v (omega (arith, short))

-- a change of a kind, and its bytes
abbrev IsOf : ℕ → List ℕ → Change → List ℕ → Type 0
IsOf kind bytes change rest = (body : List ℕ) × Takes bytes body rest × (u8_bytes kind ++ body ≡ change_bytes change) × (is_change change ≡ true)

-- what is read after a kind was written so
of_kind : (kind : ℕ) (bytes : List ℕ) (left : ℕ) (change : Change) (rest : List ℕ) → IsBytes bytes → kind_at kind bytes left ≡ Ok (change, rest) → IsOf kind bytes change rest
of_kind zero bytes left change rest fits e = absurd cc
of_kind (suc zero) bytes left change rest fits e =
    let k = kind_only (λ p. Add p.0 p.1) arrival_grammar bytes change rest fits e in
    subst (λ (c : Change). IsOf 1 bytes c rest) k.1 (arrival_grammar.bytes k.0, k.2, refl, k.3)
of_kind (suc (suc zero)) bytes left change rest fits e =
    let k = kind_only Drop path_grammar bytes change rest fits e in
    subst (λ (c : Change). IsOf 2 bytes c rest) k.1 (path_grammar.bytes k.0, k.2, refl, k.3)
of_kind (suc (suc (suc zero))) bytes left change rest fits e =
    let k = kind_only (λ p. Move p.0 p.1) move_grammar bytes change rest fits e in
    subst (λ (c : Change). IsOf 3 bytes c rest) k.1 (move_grammar.bytes k.0, k.2, refl, k.3)
of_kind (suc (suc (suc (suc zero)))) bytes left change rest fits e =
    let k = kind_only (λ p. SetTags p.0 p.1) tagging_grammar bytes change rest fits e in
    subst (λ (c : Change). IsOf 4 bytes c rest) k.1 (tagging_grammar.bytes k.0, k.2, refl, k.3)
of_kind (suc (suc (suc (suc (suc n))))) bytes left change rest fits e = absurd cc

-- a change that was read was written so
pub change_only : (all : List ℕ) (change : Change) (rest : List ℕ) → IsBytes all → change_at all ≡ Ok (change, rest) → Takes all (change_bytes change) rest × (is_change change ≡ true)
unfolding change_at
change_only all change rest fits e =
    let f = bind_ok (number_at w8 all) (λ kind. kind_at kind.0 kind.1 (length all)) (change, rest) e in
    let first = number_only w8 (2 ^ 8) is_width_8 all f.0.0 f.0.1 fits f.1 in
    let k = of_kind f.0.0 f.0.1 (length all) change rest first.0.rest_fits f.2 in
    (subst (λ (t : List ℕ). Takes all t rest) k.2 (Takes-then all (u8_bytes f.0.0) f.0.1 k.0 rest first.0 k.1), k.3)
