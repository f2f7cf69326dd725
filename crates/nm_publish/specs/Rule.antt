-- The rule over what readers find and over what each seat knows. Cited by `reader`, `rule` and `seats`.
use Rattle.std.specs.Prelude.{◌≡◌, ℕ, ◌<◌, List, length, Option, Some, IfSome, IsSomeAnd}
use mathlib.Core.List.{IsPrefix}
use mathlib.Core.Option.{some}
use lib.ListN.{get_elem?}
use Rattle.std.specs.Arc.{arc_value}
use Rattle.logbook.specs.Pages.{Book}
use Rattle.nm_publish.specs.List.{index_at}
use Rattle.nm_publish.specs.declared.rule.Known.{Known}
use Rattle.nm_publish.specs.declared.slot.Next.{Next}
use Rattle.nm_publish.specs.declared.slot.Slot.{Slot}

-- what is shown is the index after the commits of its list
pub record IsStanding (slot : Slot) : Type 0 where
  pub begun : 0 < length slot.seen.log
  pub index : arc_value slot.snap ≡ index_at slot.seen.log

-- the seat knows a beginning of the list that is shown, if it knows one
abbrev pub IsBeginning : Option Known → Slot → Type 0
IsBeginning known slot = IfSome known (λ known. (known.seen.book ≡ slot.seen.book) × (0 < length known.seen.log) × IsPrefix known.seen.log slot.seen.log)

-- what is shown represents its list, of which each seat knows a beginning
pub record Holds (slot : Slot) (views : List (Option Known)) : Type 0 where
  pub standing : IsStanding slot
  pub each : (seat : ℕ) (known : Option Known) → get_elem? views seat ≡ some known → IsBeginning known slot

-- what is found represents its list, which begins with what was known; all of it is known then
pub record IsObservation (old : Option Known) (before after : Slot) (new : Option Known) : Type 0 where
  pub standing : IsStanding after
  pub grown : IsBeginning old after
  pub known : new ≡ Some (record { seen = after.seen })

-- what is to be shown next represents a list that begins with the one shown before
pub record Follows (slot : Slot) (next : Next) : Type 0 where
  pub book : next.seen.book ≡ slot.seen.book
  pub grown : IsPrefix slot.seen.log next.seen.log
  pub index : arc_value next.snap ≡ index_at next.seen.log

-- the seat knows a beginning of this list
abbrev pub KnowsOf : Option Known → Book → Type 0
KnowsOf known book = IsSomeAnd known (λ known. known.seen.book ≡ book)
