-- Where a run of words begins, it has some bytes. For the proof of `unprefixed_at`.
use Rattle.std.proofs.Common.{◌≡◌, ◌+◌, ◌<◌, true, false, cond, not, List, ℕ, [], ◌∷◌, arith}
use Rattle.std.specs.List.{position_or_len}
use Rattle.std.proofs.lemmas.Bool.Decides.{nat_tests}
use Rattle.nm_query.specs.Lexemes.{begins_run, goes_on}
use Rattle.nm_query.specs.Values.{begins_with, ends_of, ends_run}
use Rattle.nm_query.specs.declared.values.Ends.TheVariants.{Run}

pub run_some : (text : List ℕ) → begins_run text ≡ true → 0 < position_or_len (ends_of Run) text
run_some [] h = absurd (cc)
run_some (b ∷ more) h =
    elim (ends_run b) as (λ v. not v ≡ true → 0 < cond (not v) (1 + position_or_len (ends_of Run) more) 0) [
      | true ↦ λ h. absurd (cc)
      | false ↦ λ h. omega arith
    ] h

pub run_here : (text : List ℕ) → goes_on text ≡ true → begins_with 40 text ≡ false → begins_with 41 text ≡ false → begins_with 34 text ≡ false → begins_run text ≡ true
run_here [] h opens closes quote = h
run_here (b ∷ more) h opens closes quote = grind (arith, nat_tests)
