-- Which index the bytes of a head file hold: records from the first byte on, each the bytes of a commit that fits the index
-- which those before it leave. And which limit such an index passes, the first record that is bad or passes one being
-- reported.
-- Cited by `head`, `replay`, `nm_history` and others.
use Rattle.std.specs.Prelude.{◌≡◌, ◌⊎◌, ℕ, true, min, List, [], ◌∷◌, ◌++◌, None, Some, length, map}
use Rattle.std.specs.List.{AllByRecursion}
use Rattle.nm_base.specs.Limits.{max_count}
use Rattle.nm_base.specs.declared.limit.Limit.{Limit}
use Rattle.nm_commit.specs.Files.{Fits}
use Rattle.nm_commit.specs.declared.change.Commit.{Commit}
use Rattle.nm_model_index.specs.Fits.{FitInTurn}
use Rattle.nm_model_index.specs.Index.{committed, empty_index, folded}
use Rattle.nm_model_index.specs.declared.base.Base.{Base}
use Rattle.nm_journal.specs.Records.{HasRecords, IsBroken, records_of}
use Rattle.nm_record.specs.CommitGrammar.{commit_grammar}
use Rattle.nm_record.specs.Room.{limit_passed}

-- the bytes of commits
abbrev pub bodies_of : List Commit → List (List ℕ)
bodies_of commits = map (λ commit. commit_grammar.bytes commit) commits

-- the commits have the values that commits may have
abbrev pub AreCommits : List Commit → Type 0
AreCommits commits = AllByRecursion (λ commit. commit_grammar.is_value commit ≡ true) commits

-- bodies of records that are commits, each fitting the index that those before it leave, and the index after them
pub record HasCommits (bodies : List (List ℕ)) (commits : List Commit) (index : Base) : Type 0 where
  pub bodies_are : bodies ≡ bodies_of commits
  pub values : AreCommits commits
  pub fit : FitInTurn empty_index commits
  pub index_is : index ≡ folded empty_index commits

-- the body is that of no commit which fits the index
abbrev pub IsNoCommit : Base → List ℕ → Type 0
IsNoCommit index body = (commit : Commit) → commit_grammar.is_value commit ≡ true → body ≡ commit_grammar.bytes commit → ¬ Fits index.files commit

-- no index that these commits leave, one after the other, passes a limit
abbrev pub StayWithin : Base → List Commit → Type 0
StayWithin index [] = Unit {0}
StayWithin index (commit ∷ commits) = (limit_passed (committed index commit) ≡ None) × StayWithin (committed index commit) commits

-- After these bodies comes one that is no commit which fits the index they leave; `at` is the place of its gate. No index before it passes a limit.
pub record HasBadBody (bodies : List (List ℕ)) (at : ℕ) : Type 0 where
  pub front : List (List ℕ)
  pub body : List ℕ
  pub more : List (List ℕ)
  pub bodies_are : bodies ≡ front ++ body ∷ more
  pub commits : List Commit
  pub index : Base
  pub before : HasCommits front commits index
  pub within : StayWithin empty_index commits
  pub bad : IsNoCommit index body
  pub at_is : at ≡ min (length (records_of front)) max_count

-- After these bodies comes that of a commit which fits, and the index with it passes this limit. No index before it passes one.
pub record HasPassed (bodies : List (List ℕ)) (limit : Limit) : Type 0 where
  pub front : List (List ℕ)
  pub commit : Commit
  pub more : List (List ℕ)
  pub bodies_are : bodies ≡ front ++ commit_grammar.bytes commit ∷ more
  pub commits : List Commit
  pub index : Base
  pub before : HasCommits front commits index
  pub within : StayWithin empty_index commits
  pub value : commit_grammar.is_value commit ≡ true
  pub fits : Fits index.files commit
  pub passed : limit_passed (committed index commit) ≡ Some limit

-- the bytes hold this index
pub record HoldsIndex (bytes : List ℕ) (index : Base) : Type 0 where
  pub commits : List Commit
  pub records : HasRecords 0 (bodies_of commits) bytes
  pub values : AreCommits commits
  pub fit : FitInTurn empty_index commits
  pub index_is : index ≡ folded empty_index commits

-- the bytes hold this index, and no index that one of their records leaves passes a limit
pub record HoldsWithin (bytes : List ℕ) (index : Base) : Type 0 where
  pub held : HoldsIndex bytes index
  pub within : StayWithin empty_index held.commits

-- The bytes are records, and the index after one of them passes this limit; no record before it is bad or passes one.
abbrev pub PassesLimit : List ℕ → Limit → Type 0
PassesLimit bytes limit = (bodies : List (List ℕ)) × HasRecords 0 bodies bytes × HasPassed bodies limit

-- The bytes hold no index: from `at` on they are no records, or they are records and the body of that at `at` is bad.
abbrev pub HoldsNoIndex : List ℕ → ℕ → Type 0
HoldsNoIndex bytes at = IsBroken 0 bytes at ⊎ ((bodies : List (List ℕ)) × HasRecords 0 bodies bytes × HasBadBody bodies at)
