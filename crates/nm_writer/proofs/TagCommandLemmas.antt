-- What the commit of tags and the renames after it leave. For the proofs of `Writer::commit_changes`, `Writer::set_tags` and
-- `Writer::tag`.
use Rattle.std.proofs.Common.{◌≡◌, inr, ℕ, List, [], ◌∷◌, length, refl, sym, ap, ◌∙◌, arith, subst, Result, Ok, Err, append-nil}
use Rattle.std.specs.List.{flat_map}
use Rattle.nm_commit.specs.Files.{Fits}
use Rattle.nm_commit.specs.declared.change.Change.{Change}
use Rattle.nm_commit.specs.declared.change.Commit.{Commit}
use Rattle.nm_flags.specs.declared.renames.Rename.{Rename}
use Rattle.nm_model_index.specs.Fits.{FitInTurn}
use Rattle.nm_model_index.specs.declared.base.Base.{Base}
use Rattle.nm_maildir.specs.declared.given.Given.{Given}
use Rattle.nm_model_plan.specs.Apart.{AreApart}
use Rattle.nm_model_answer.specs.RenameOutcomes.{note_of, renames_done, renames_for}
use Rattle.nm_model_plan.specs.Moves.{HasTried, move_commit, tag_commits}
use Rattle.nm_model_plan.specs.Numbering.{AreNumbered}
use Rattle.nm_model_plan.specs.TagCommit.{commit_with, tag_commit}
use Rattle.nm_model_answer.specs.declared.sync_report.SyncReport.{SyncReport}
use Rattle.nm_model_answer.specs.declared.sync_report.Unmoved.{Unmoved}
use Rattle.nm_sync.specs.Renamed.{AreTried}
use Rattle.nm_writer.specs.Tagged.{IsAfterRenames, IsAfterTags, SetsTagsFirst}
use Rattle.nm_writer.specs.Writer.{WriterState}
use Rattle.nm_writer.specs.AfterCommit.{FailsWithin, HasCommitted, IsAfterCommits, PassesWithin, StopsWithin, with_commits}
use Rattle.nm_writer.specs.declared.write_error.WriteError.{WriteError}
use Rattle.nm_writer.specs.declared.write_error.WriteError.TheVariants as errors
use Rattle.nm_base.specs.declared.facts.Facts.{Facts}
use Rattle.nm_writer.proofs.DoneLemmas.{fit-second, made-made, none-stopped, published-then, then-made}

-- some changes make one commit, and none make none
pub commit-of-some : (changes : List Change) → (length changes ≡ 0 → ⊥) → commit_with changes ≡ record { changes = changes } ∷ []
commit-of-some [] some = absurd (some refl)
commit-of-some (change ∷ changes) some = refl

pub commit-of-none : (changes : List Change) → length changes ≡ 0 → commit_with changes ≡ []
commit-of-none [] none = refl
commit-of-none (change ∷ changes) none = absurd (omega (arith, none))

pub fits-alone : (index : Base) (changes : List Change) → (length changes ≡ 0 → ⊥) → FitInTurn index (commit_with changes) → Fits index.files (record { changes = changes })
fits-alone index [] some fit = absurd (some refl)
fits-alone index (change ∷ changes) some fit = fit.0

abbrev report_of : List (List ℕ × Unmoved) → SyncReport
report_of list = record { unmoved = list }

-- the law on renames of which none is noted
abbrev pub AreUntried : Type 0
AreUntried = (files : List (List ℕ × Facts)) (plan : List Rename) → AreTried files plan []

-- nothing is tried while nothing is noted
pub none-tried : (law : AreUntried) (index wanted : Base) (given : List Given) → given ≡ [] → HasTried index wanted given
none-tried law index wanted given none =
    none ∙ (law index.files (renames_for index wanted) ∙ sym (ap (λ (n : List Given). flat_map note_of (renames_done index wanted n)) none))

-- and no move is due
pub no-moves : (index wanted : Base) (given : List Given) → given ≡ [] → tag_commits index wanted given ≡ tag_commit index wanted
no-moves index wanted given none = ap (tag_commits index wanted) none ∙ append-nil (tag_commit index wanted)

-- the commit of tags was refused, before any rename
pub tags-refused : (law : AreUntried) (old new : WriterState) (wanted : Base) (given : List Given) (faults : ℕ) (error : WriteError) → given ≡ [] → IsAfterCommits {T = Unit {0}} old (tag_commit old.shown wanted) faults (Err error) new
    → IsAfterTags wanted given old faults (Err error) new
tags-refused law old new wanted given faults errors.MailFault none h = absurd h
tags-refused law old new wanted given faults errors.DiskFault none h =
    (none-tried law old.shown wanted given none, subst (λ (due : List Commit). FailsWithin old due faults new) (sym (no-moves old.shown wanted given none)) h)
tags-refused law old new wanted given faults (errors.Closed fault) none h = absurd h
tags-refused law old new wanted given faults (errors.Limit limit) none h =
    (none-tried law old.shown wanted given none, subst (λ (due : List Commit). PassesWithin old due limit new) (sym (no-moves old.shown wanted given none)) h)
tags-refused law old new wanted given faults errors.NoMemory none h =
    (none-tried law old.shown wanted given none, subst (λ (due : List Commit). StopsWithin old due new) (sym (no-moves old.shown wanted given none)) h)

-- memory ran out before anything was done
pub nothing-set : (law : AreUntried) (old : WriterState) (wanted : Base) (given : List Given) (faults : ℕ) → given ≡ [] → IsAfterTags wanted given old faults (Err errors.NoMemory) old
nothing-set law old wanted given faults none = (none-tried law old.shown wanted given none, none-stopped old (tag_commits old.shown wanted given))

-- some commits were published since
abbrev PublishesSome : WriterState → WriterState → Type 0
PublishesSome old new = (made : List Commit) × (new.published ≡ with_commits old.published made)

commits-publish : (old new : WriterState) (due : List Commit) (faults : ℕ) (outcome : Result (Unit {0}) WriteError) → IsAfterCommits old due faults outcome new → PublishesSome old new
commits-publish old new due faults (Ok done) h = (due, h.published)
commits-publish old new due faults (Err errors.MailFault) h = absurd h
commits-publish old new due faults (Err errors.DiskFault) h = (h.done, h.published)
commits-publish old new due faults (Err (errors.Closed fault)) h = absurd h
commits-publish old new due faults (Err (errors.Limit limit)) h = (h.done, h.made.published)
commits-publish old new due faults (Err errors.NoMemory) h = (h.done, h.made.published)

renames-publish : (files : List (List ℕ × Facts)) (plan : List Rename) (given : List Given) (old new : WriterState) (faults : ℕ) (result : Result SyncReport WriteError) → IsAfterRenames files plan given old faults result new → PublishesSome old new
renames-publish files plan given old new faults (Ok report) h = (move_commit given, h.1.published)
renames-publish files plan given old new faults (Err errors.MailFault) h = commits-publish old new (move_commit given) faults h.outcome h.after
renames-publish files plan given old new faults (Err errors.DiskFault) h = (h.done, h.published)
renames-publish files plan given old new faults (Err (errors.Closed fault)) h = absurd h
renames-publish files plan given old new faults (Err (errors.Limit limit)) h = (h.done, h.made.published)
renames-publish files plan given old new faults (Err errors.NoMemory) h = (h.done, h.made.published)

-- the renames come after the commit of tags, whatever they leave
pub renames-after : (old mid new : WriterState) (wanted : Base) (files : List (List ℕ × Facts)) (plan : List Rename) (given : List Given) (faults : ℕ) (result : Result SyncReport WriteError) → HasCommitted old (tag_commit old.shown wanted) mid
    → IsAfterRenames files plan given mid faults result new → SetsTagsFirst wanted given old new
renames-after old mid new wanted files plan given faults result made h =
    let more : PublishesSome mid new = renames-publish files plan given mid new faults result h in
    inr (more.0, published-then old.published mid.published new.published (tag_commit old.shown wanted) more.0 made.published more.1)

-- The commit of tags was made, and then the renames were tried.
module _ (old mid new : WriterState) (wanted : Base) (given : List Given) (faults : ℕ) (made : HasCommitted old (tag_commit old.shown wanted) mid) where
  renames-then : (result : Result SyncReport WriteError) → HasTried old.shown wanted given → IsAfterRenames old.shown.files (renames_for old.shown wanted) given mid faults result new → IsAfterTags wanted given old faults result new
  renames-then (Ok report) tried h = (tried, h.0, made-made old mid new (tag_commit old.shown wanted) (move_commit given) made h.1, ap (λ (l : List (List ℕ × Unmoved)). report_of l) h.2)
  renames-then (Err errors.MailFault) tried h = (tried, (mid, made, h))
  renames-then (Err errors.DiskFault) tried h = (tried, then-made {T = Unit {0}} old mid new (tag_commit old.shown wanted) (move_commit given) faults (Err errors.DiskFault) made h)
  renames-then (Err (errors.Closed fault)) tried h = absurd h
  renames-then (Err (errors.Limit limit)) tried h = (tried, then-made {T = Unit {0}} old mid new (tag_commit old.shown wanted) (move_commit given) faults (Err (errors.Limit limit)) made h)
  renames-then (Err errors.NoMemory) tried h = (tried, then-made {T = Unit {0}} old mid new (tag_commit old.shown wanted) (move_commit given) faults (Err errors.NoMemory) made h)

  pub tags-then : (plan : List Rename) (result : Result SyncReport WriteError) → plan ≡ renames_for old.shown wanted → mid.shown.files ≡ old.shown.files → AreTried mid.shown.files plan given
      → IsAfterRenames mid.shown.files plan given mid faults result new → IsAfterTags wanted given old faults result new
  tags-then plan result are same tried h =
      renames-then result (subst (λ (p : List Rename). AreTried old.shown.files p given) are (subst (λ (f : List (List ℕ × Facts)). AreTried f plan given) same tried))
      (subst (λ (p : List Rename). IsAfterRenames old.shown.files p given mid faults result new) are (subst (λ (f : List (List ℕ × Facts)). IsAfterRenames f plan given mid faults result new) same h))

-- whatever was tried, the moves fit after the tags
pub moves-fit : (fit : (index wanted : Base) (given : List Given) → AreNumbered index → AreApart index.files → HasTried index wanted given → FitInTurn index (tag_commits index wanted given)) (old mid : WriterState) (wanted : Base) (plan : List Rename)
    → AreNumbered old.shown → AreApart old.shown.files → plan ≡ renames_for old.shown wanted → mid.shown.files ≡ old.shown.files → HasCommitted old (tag_commit old.shown wanted) mid
    → (given : List Given) → AreTried mid.shown.files plan given → FitInTurn mid.shown (move_commit given)
moves-fit fit old mid wanted plan numbered apart are same made given tried =
    let tried_all : HasTried old.shown wanted given = subst (λ (p : List Rename). AreTried old.shown.files p given) are (subst (λ (f : List (List ℕ × Facts)). AreTried f plan given) same tried) in
    subst (λ (b : Base). FitInTurn b (move_commit given)) (sym made.shown) (fit-second old.shown (tag_commit old.shown wanted) (move_commit given) (fit old.shown wanted given numbered apart tried_all))
