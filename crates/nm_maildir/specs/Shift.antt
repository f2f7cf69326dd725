-- Trees of mail that follow one another: each call finds the next of them. Cited by `shift_tree`.
use Rattle.std.specs.Prelude.{◌≡◌, ℕ, List, [], ◌∷◌, map, None}
use Rattle.nm_maildir.specs.Observed.{ObservedMail}
use Rattle.nm_maildir.specs.Still.{Still}
use Rattle.nm_maildir.specs.Tree.{Tree}

-- the tree that the next call finds, those that come after it, and how often a call has failed
pub record Shift : Type 0 where
  pub tree : Tree
  pub later : List Tree
  pub faults : ℕ

-- neither what it holds nor what was read is known
abbrev pub observed_shift : Shift → ObservedMail
observed_shift shift = record { tree = None; reads = None; faults = shift.faults }

-- what the trees hold
abbrev pub trees_of : List Still → List Tree
trees_of stills = map (λ still. still.tree) stills

-- After a call that left its tree so, the next one finds the tree that comes next; the last one stays.
abbrev pub Shifts : Shift → Tree → Shift → Type 0
Shifts old kept new = elim old.later [ [] ↦ (new.tree ≡ kept) × (new.later ≡ []) | next ∷ more ↦ (new.tree ≡ next) × (new.later ≡ more) ]
