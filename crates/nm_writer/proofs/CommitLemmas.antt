-- What a commit makes of a disk that a writer is on. For the proof of `Writer::make`.
use Rattle.std.proofs.Common.{◌≡◌, inl, inr, ℕ, true, List, [], ◌∷◌, ◌++◌, Option, None, Some, IfSome, refl, sym, ap, ◌∙◌, subst}
use Rattle.std.specs.List.{AllByRecursion}
use Rattle.std.proofs.lemmas.List.Sums.{fold-append}
use Rattle.nm_commit.specs.Files.{Fits}
use Rattle.nm_commit.specs.declared.change.Commit.{Commit}
use Rattle.nm_disk.specs.Calls.{GoesOn}
use Rattle.nm_disk.specs.Observed.{Moments}
use Rattle.nm_disk.specs.declared.disk.FileNo.{FileNo}
use Rattle.nm_disk.specs.declared.disk.FileNo.TheVariants.{Head}
use Rattle.nm_disk.specs.declared.state.DiskState.{DiskState}
use Rattle.nm_model_index.specs.Index.{committed, folded}
use Rattle.nm_model_index.specs.declared.base.Base.{Base}
use Rattle.nm_journal.specs.Journal.{IsBeforeOrAfter, JournalState, StandsOn}
use Rattle.nm_journal.specs.Moments.{GoesThrough, LeavesOnly, TouchesOnly}
use Rattle.nm_journal.specs.Records.{HasRecords}
use Rattle.nm_publish.specs.Published.{Published, ShowerState, index_of, with_commit}
use Rattle.nm_record.specs.CommitGrammar.{commit_grammar}
use Rattle.nm_replay.specs.StoredIndex.{HasCommits, HoldsIndex}
use Rattle.nm_writer.specs.Writer.{StandsOnIndex, WriterState}
use Rattle.nm_writer.specs.AfterCommit.{HoldsEither}

-- the law of one commit more
abbrev pub HoldsMore : Type 0
HoldsMore =
    (bodies : List (List ℕ)) (commits : List Commit) (index : Base) (body : List ℕ) (commit : Commit) (new : Base) → HasCommits bodies commits index → body ≡ commit_grammar.bytes commit → commit_grammar.is_value commit ≡ true
    → Fits index.files commit → new ≡ committed index commit → HasCommits (bodies ++ body ∷ []) (commits ++ commit ∷ []) new

pub folded-more : (index : Base) (commits : List Commit) (commit : Commit) → folded index (commits ++ commit ∷ []) ≡ committed (folded index commits) commit
folded-more index commits commit = fold-append committed index commits (commit ∷ [])

-- records of these commits hold the index after them
pub holds : (bodies : List (List ℕ)) (commits : List Commit) (index : Base) (bytes : List ℕ) → HasCommits bodies commits index → HasRecords 0 bodies bytes → HoldsIndex bytes index
holds bodies commits index bytes h records = record {
  commits = commits;
  records = subst (λ l. HasRecords 0 l bytes) h.bodies_are records;
  values = h.values;
  fit = h.fit;
  index_is = h.index_is;
}

either : (law : HoldsMore) (bodies : List (List ℕ)) (commits : List Commit) (index : Base) (commit : Commit) (frame bytes : List ℕ) → HasCommits bodies commits index → frame ≡ commit_grammar.bytes commit → commit_grammar.is_value commit ≡ true → Fits index.files commit
    → IsBeforeOrAfter 0 bodies frame bytes → HoldsEither index commit bytes
either law bodies commits index commit frame bytes h is value fits (inl before) = inl (holds bodies commits index bytes h before)
either law bodies commits index commit frame bytes h is value fits (inr after) =
    inr (holds (bodies ++ frame ∷ []) (commits ++ commit ∷ []) (committed index commit) bytes (law bodies commits index frame commit (committed index commit) h is value fits refl) after)

each-map : (file : FileNo) (P Q : List ℕ → Type 0) → ((bytes : List ℕ) → P bytes → Q bytes) → (states : List DiskState) → AllByRecursion (LeavesOnly file P) states → AllByRecursion (LeavesOnly file Q) states
each-map file P Q f [] h = tt
each-map file P Q f (state ∷ states) h = (λ bytes left. f bytes (h.0 bytes left), each-map file P Q f states h.1)

through-map : (file : FileNo) (P Q : List ℕ → Type 0) (old new : Moments) → ((bytes : List ℕ) → P bytes → Q bytes) → GoesThrough file P old new → GoesThrough file Q old new
through-map file P Q old new f h = record { states = h.states; each = each-map file P Q f h.states h.each; are = h.are }

-- at every moment of an append the disk holds one of the two indices a writer that is on a disk has its journal there
pub journal-stands : (told : Option Moments) (writer : WriterState) (journal : JournalState) → writer.journal ≡ journal → IfSome told (λ m. StandsOnIndex m.present writer)
    → IfSome told (λ m. (bodies : List (List ℕ)) × StandsOn m.present journal bodies)
journal-stands None writer journal same stands = tt
journal-stands (Some m) writer journal same stands = (stands.bodies, subst (λ (j : JournalState). StandsOn m.present j stands.bodies) same stands.journal)

pub any-moment : (law : HoldsMore) (old new : Option Moments) (writer : WriterState) (journal : JournalState) (commit : Commit) (frame : List ℕ) → writer.journal ≡ journal → IfSome old (λ m. StandsOnIndex m.present writer)
    → frame ≡ commit_grammar.bytes commit → commit_grammar.is_value commit ≡ true → Fits writer.shown.files commit
    → GoesOn (λ o n. (bodies : List (List ℕ)) → StandsOn o.present journal bodies → GoesThrough journal.file (IsBeforeOrAfter journal.start bodies frame) o n) old new
    → GoesOn (λ o n. GoesThrough Head (HoldsEither writer.shown commit) o n) old new
any-moment law None None writer journal commit frame same stands is value fits h = tt
any-moment law None (Some n) writer journal commit frame same stands is value fits h = h
any-moment law (Some o) None writer journal commit frame same stands is value fits h = h
any-moment law (Some o) (Some n) writer journal commit frame same stands is value fits h =
    let through : GoesThrough journal.file (IsBeforeOrAfter journal.start stands.bodies frame) o n = h stands.bodies (subst (λ (j : JournalState). StandsOn o.present j stands.bodies) same stands.journal) in
    let file : journal.file ≡ Head = ap (λ (j : JournalState). j.file) (sym same) ∙ stands.file in
    let start : journal.start ≡ 0 = ap (λ (j : JournalState). j.start) (sym same) ∙ stands.start in
    through-map Head (IsBeforeOrAfter 0 stands.bodies frame) (HoldsEither writer.shown commit) o n (λ bytes found. either law stands.bodies stands.commits writer.shown commit frame bytes stands.holds is value fits found)
    (subst (λ (k : ℕ). GoesThrough Head (IsBeforeOrAfter k stands.bodies frame) o n) start (subst (λ (f : FileNo). GoesThrough f (IsBeforeOrAfter journal.start stands.bodies frame) o n) file through))

-- an append writes the head alone
pub others : (old new : Option Moments) (writer : WriterState) (journal : JournalState) → writer.journal ≡ journal → IfSome old (λ m. StandsOnIndex m.present writer) → GoesOn (TouchesOnly journal.file) old new → GoesOn (TouchesOnly Head) old new
others None None writer journal same stands h = tt
others None (Some n) writer journal same stands h = h
others (Some o) None writer journal same stands h = h
others (Some o) (Some n) writer journal same stands h = subst (λ (f : FileNo). TouchesOnly f o n) (ap (λ (j : JournalState). j.file) (sym same) ∙ stands.file) h

-- after an append the writer is on the disk with the commit
pub stands-after : (law : HoldsMore) (old new : Option Moments) (writer after : WriterState) (journal : JournalState) (commit : Commit) (frame : List ℕ) → writer.journal ≡ journal → IfSome old (λ m. StandsOnIndex m.present writer)
    → frame ≡ commit_grammar.bytes commit → commit_grammar.is_value commit ≡ true → Fits writer.shown.files commit → after.shown ≡ committed writer.shown commit → after.journal.file ≡ journal.file → after.journal.start ≡ journal.start
    → GoesOn (λ o n. (bodies : List (List ℕ)) → StandsOn o.present journal bodies → StandsOn n.present after.journal (bodies ++ frame ∷ [])) old new
    → GoesOn (λ o n. StandsOnIndex n.present after) old new
stands-after law None None writer after journal commit frame same stands is value fits made file start h = tt
stands-after law None (Some n) writer after journal commit frame same stands is value fits made file start h = h
stands-after law (Some o) None writer after journal commit frame same stands is value fits made file start h = h
stands-after law (Some o) (Some n) writer after journal commit frame same stands is value fits made file start h = record {
  bodies = stands.bodies ++ frame ∷ [];
  commits = stands.commits ++ commit ∷ [];
  file = file ∙ (ap (λ (j : JournalState). j.file) (sym same) ∙ stands.file);
  start = start ∙ (ap (λ (j : JournalState). j.start) (sym same) ∙ stands.start);
  journal = h stands.bodies (subst (λ (j : JournalState). StandsOn o.present j stands.bodies) same stands.journal);
  holds = law stands.bodies stands.commits writer.shown frame commit after.shown stands.holds is value fits made;
}

-- one commit more that is published leaves the index after it
pub index-more : (old new : Published) (commit : Commit) → new ≡ with_commit old commit → index_of new ≡ committed (index_of old) commit
index-more old new commit is = ap index_of is ∙ folded-more old.opening old.commits commit

-- what was staged is published when it is shown
pub staged-published : (before staged after : ShowerState) (commit : Commit) → staged ≡ record before { staged = Some commit } → ((other : Commit) → staged.staged ≡ Some other → after.shown ≡ with_commit staged.shown other) → after.shown ≡ with_commit before.shown commit
staged-published before staged after commit is shows = shows commit (ap (λ (s : ShowerState). s.staged) is) ∙ ap (λ (s : ShowerState). with_commit s.shown commit) is
