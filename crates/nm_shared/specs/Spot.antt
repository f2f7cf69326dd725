-- Where a key is among runs of pairs in order. Cited by `room` and `search`.
use Rattle.std.specs.Prelude.{◌≡◌, ◌+◌, ◌<◌, ◌≤◌, Bool, true, false, List, [], ◌∷◌, ◌++◌, length, take, drop}
use Rattle.std.specs.declared.cmp.Ordering.{Ordering}
use Rattle.std.specs.declared.cmp.Ordering.TheVariants.{Less, Equal, Greater}
use Rattle.std.specs.List.{AllByRecursion}
use Rattle.nm_shared.specs.Runs.{flat, run_at}
use Rattle.nm_shared.specs.declared.search.Spot.{Spot}

module _ {K V : Type 0} (cmp : K → K → Ordering) (key : K) where
  -- each key of the entries is below the key
  abbrev pub AllBelow : List (K × V) → Type 0
  AllBelow entries = AllByRecursion (λ entry. cmp key entry.0 ≡ Greater) entries

  -- each key of the entries is above the key
  abbrev pub AllAbove : List (K × V) → Type 0
  AllAbove entries = AllByRecursion (λ entry. cmp key entry.0 ≡ Less) entries

  -- the first entry has the key, and the others are above it
  abbrev pub BeginsAt : List (K × V) → Type 0
  BeginsAt [] = ⊥
  BeginsAt (entry ∷ entries) = (cmp key entry.0 ≡ Equal) × AllAbove entries

  -- what follows a place: the key and what is above it, or that alone
  abbrev pub Follows : Bool → List (K × V) → Type 0
  Follows true entries = BeginsAt entries
  Follows false entries = AllAbove entries

  -- what comes before the spot is below the key, and what follows is not
  pub record IsSpotOf (runs : List (List (K × V))) (spot : Spot) : Type 0 where
    pub run_within : 0 < length runs → spot.run < length runs
    pub within : spot.at ≤ length (run_at runs spot.run)
    pub found_within : spot.found ≡ true → spot.at < length (run_at runs spot.run)
    pub before_run : AllBelow (flat (take spot.run runs))
    pub before : AllBelow (take spot.at (run_at runs spot.run))
    pub after : Follows spot.found (drop spot.at (run_at runs spot.run) ++ flat (drop (spot.run + 1) runs))
