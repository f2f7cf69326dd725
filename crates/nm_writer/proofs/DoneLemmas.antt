-- Commits made one after the other. For the proofs of `commit_added`, `let_go`, `commit_some` and others.
use Rattle.std.proofs.Common.{◌≡◌, ℕ, ◌+◌, ◌<◌, List, [], ◌∷◌, ◌++◌, fold, length, Result, Ok, Err, refl, sym, ap, ap₂, ◌∙◌, subst, append_assoc, append-nil, length-append, arith}
use Rattle.std.proofs.lemmas.List.Sums.{fold-append}
use Rattle.nm_faults.specs.Faults.{HasCauseOf}
use Rattle.nm_base.specs.declared.facts.Facts.{Facts}
use Rattle.nm_commit.specs.Files.{FitChanges, Fits, changed}
use Rattle.nm_commit.specs.declared.change.Change.{Change}
use Rattle.nm_commit.specs.declared.change.Commit.{Commit}
use Rattle.nm_model_index.specs.Fits.{FitInTurn}
use Rattle.nm_model_index.specs.Index.{applied, committed, folded}
use Rattle.nm_model_index.specs.declared.base.Base.{Base}
use Rattle.nm_model_plan.specs.NameTags.{commit_of, follow_names, with_names}
use Rattle.nm_publish.specs.Published.{Published}
use Rattle.nm_writer.specs.Writer.{WriterState}
use Rattle.nm_writer.specs.AfterCommit.{AreWithin, HasCommitted, IsAfterCommit, IsAfterCommits, IsPassed, StopsWithin, is_write_fault, with_commits}
use Rattle.nm_writer.specs.declared.write_error.WriteError.{WriteError}
use Rattle.nm_writer.specs.declared.write_error.WriteError.TheVariants as errors

-- no commit more leaves what was published
pub none-published : (published : Published) → published ≡ with_commits published []
none-published published = ap (λ (l : List Commit). record published { commits = l }) (sym (append-nil published.commits))

-- commits more, and then others
pub published-then : (old mid new : Published) (first second : List Commit) → mid ≡ with_commits old first → new ≡ with_commits mid second → new ≡ with_commits old (first ++ second)
published-then old mid new first second h k =
    k ∙ (ap (λ (p : Published). with_commits p second) h ∙ ap (λ (l : List Commit). record old { commits = l }) (append_assoc old.commits first second))

-- no commit leaves the writer as it was
pub none-made : (w : WriterState) → HasCommitted w [] w
none-made w = record { within = tt; published = none-published w.published; shown = refl; begun = sym (append-nil w.begun); clocks = []; acked = sym (append-nil w.acked); each = refl; closed = refl }

pub none-stopped : (w : WriterState) (due : List Commit) → StopsWithin w due w
none-stopped w due = record { done = []; more = due; due_are = refl; made = none-made w }

-- one commit
pub one-made : {T : Type 0} (old new : WriterState) (commit : Commit) (clock faults : ℕ) (result : Result T WriteError) → IsAfterCommit old commit clock faults result new → IsAfterCommits old (commit ∷ []) faults result new
one-made old new commit clock faults (Ok done) h = record { within = (h.4, tt); published = h.5; shown = h.0; begun = h.1; clocks = clock ∷ []; acked = h.2; each = refl; closed = h.3 }
one-made old new commit clock faults (Err errors.MailFault) h = absurd h
one-made old new commit clock faults (Err errors.DiskFault) h =
    record {
      done = [];
      commit = commit;
      more = [];
      due_are = refl;
      within = (h.4, tt);
      published = h.5 ∙ none-published old.published;
      shown = h.0;
      begun = h.1;
      clocks = [];
      acked = h.2 ∙ sym (append-nil old.acked);
      each = refl;
      closed = h.3;
    }
one-made old new commit clock faults (Err (errors.Closed fault)) h = absurd h
one-made old new commit clock faults (Err (errors.Limit limit)) h = record {
  done = [];
  commit = commit;
  more = [];
  due_are = refl;
  made = subst (λ (w : WriterState). HasCommitted old [] w) (sym h.1) (none-made old);
  passed = subst (λ (w : WriterState). IsPassed (length w.begun) w.shown commit limit) (sym h.1) h.0;
}
one-made old new commit clock faults (Err errors.NoMemory) h = subst (λ (w : WriterState). StopsWithin old (commit ∷ []) w) (sym h) (none-stopped old (commit ∷ []))

-- commits that pass no limit, and then others
within-then : (made : ℕ) (index : Base) (first second : List Commit) → AreWithin made index first → AreWithin (made + length first) (folded index first) second → AreWithin made index (first ++ second)
within-then made index [] second h k = let none : made + 0 ≡ made = omega arith in subst (λ n. AreWithin n index second) none k
within-then made index (commit ∷ first) second h k =
    let one : made + length (commit ∷ first) ≡ (made + 1) + length first = omega arith in
    (h.0, within-then (made + 1) (committed index commit) first second h.1 (subst (λ n. AreWithin n (folded (committed index commit) first) second) one k))

within-made : (old mid : WriterState) (first second : List Commit) → old.begun ++ first ≡ mid.begun → mid.shown ≡ folded old.shown first → AreWithin (length old.begun) old.shown first → AreWithin (length mid.begun) mid.shown second
    → AreWithin (length old.begun) old.shown (first ++ second)
within-made old mid first second begun shown h k =
    let count : length mid.begun ≡ length old.begun + length first = ap (λ (l : List Commit). length l) (sym begun) ∙ length-append old.begun first in
    within-then (length old.begun) old.shown first second h
    (subst (λ n. AreWithin n (folded old.shown first) second) count (subst (λ (b : Base). AreWithin (length mid.begun) b second) shown k))

-- commits, and then others
pub made-made : (old mid new : WriterState) (first second : List Commit) → HasCommitted old first mid → HasCommitted mid second new → HasCommitted old (first ++ second) new
made-made old mid new first second h k = record {
  within = within-made old mid first second (sym h.begun) h.shown h.within k.within;
  published = published-then old.published mid.published new.published first second h.published k.published;
  shown = k.shown ∙ (ap (λ (b : Base). folded b second) h.shown ∙ sym (fold-append committed old.shown first second));
  begun = k.begun ∙ (ap (λ (l : List Commit). l ++ second) h.begun ∙ append_assoc old.begun first second);
  clocks = h.clocks ++ k.clocks;
  acked = k.acked ∙ (ap (λ (l : List ℕ). l ++ k.clocks) h.acked ∙ append_assoc old.acked h.clocks k.clocks);
  each = omega (arith, length-append h.clocks k.clocks, length-append first second, h.each, k.each);
  closed = k.closed ∙ h.closed;
}

pub then-made : {T : Type 0} (old mid new : WriterState) (first second : List Commit) (faults : ℕ) (result : Result T WriteError) → HasCommitted old first mid → IsAfterCommits mid second faults result new → IsAfterCommits old (first ++ second) faults result new
then-made old mid new first second faults (Ok done) h k = made-made old mid new first second h k
then-made old mid new first second faults (Err errors.MailFault) h k = absurd k
then-made old mid new first second faults (Err errors.DiskFault) h k = record {
  done = first ++ k.done;
  commit = k.commit;
  more = k.more;
  due_are = ap (λ (l : List Commit). first ++ l) k.due_are ∙ sym (append_assoc first k.done (k.commit ∷ k.more));
  within = subst (AreWithin (length old.begun) old.shown) (sym (append_assoc first k.done (k.commit ∷ []))) (within-made old mid first (k.done ++ k.commit ∷ []) (sym h.begun) h.shown h.within k.within);
  published = published-then old.published mid.published new.published first k.done h.published k.published;
  shown = k.shown ∙ (ap (λ (b : Base). folded b k.done) h.shown ∙ sym (fold-append committed old.shown first k.done));
  begun = k.begun ∙ (ap (λ (l : List Commit). l ++ (k.done ++ k.commit ∷ [])) h.begun ∙ (append_assoc old.begun first (k.done ++ k.commit ∷ []) ∙ ap (λ (l : List Commit). old.begun ++ l) (sym (append_assoc first k.done (k.commit ∷ [])))));
  clocks = h.clocks ++ k.clocks;
  acked = k.acked ∙ (ap (λ (l : List ℕ). l ++ k.clocks) h.acked ∙ append_assoc old.acked h.clocks k.clocks);
  each = omega (arith, length-append h.clocks k.clocks, length-append first k.done, h.each, k.each);
  closed = k.closed;
}
then-made old mid new first second faults (Err (errors.Closed fault)) h k = absurd k
then-made old mid new first second faults (Err (errors.Limit limit)) h k = record {
  done = first ++ k.done;
  commit = k.commit;
  more = k.more;
  due_are = ap (λ (l : List Commit). first ++ l) k.due_are ∙ sym (append_assoc first k.done (k.commit ∷ k.more));
  made = made-made old mid new first k.done h k.made;
  passed = k.passed;
}
then-made old mid new first second faults (Err errors.NoMemory) h k = record {
  done = first ++ k.done;
  more = k.more;
  due_are = ap (λ (l : List Commit). first ++ l) k.due_are ∙ sym (append_assoc first k.done k.more);
  made = made-made old mid new first k.done h k.made;
}

-- what refuses some commits refuses these and others
pub refused-more : (T U : Type 0) (old new : WriterState) (first second : List Commit) (faults : ℕ) (error : WriteError) → IsAfterCommits {T = T} old first faults (Err error) new → IsAfterCommits {T = U} old (first ++ second) faults (Err error) new
refused-more T U old new first second faults errors.MailFault h = absurd h
refused-more T U old new first second faults errors.DiskFault h = record {
  done = h.done;
  commit = h.commit;
  more = h.more ++ second;
  due_are = ap (λ (l : List Commit). l ++ second) h.due_are ∙ append_assoc h.done (h.commit ∷ h.more) second;
  within = h.within;
  published = h.published;
  shown = h.shown;
  begun = h.begun;
  clocks = h.clocks;
  acked = h.acked;
  each = h.each;
  closed = h.closed;
}
refused-more T U old new first second faults (errors.Closed fault) h = absurd h
refused-more T U old new first second faults (errors.Limit limit) h = record {
  done = h.done;
  commit = h.commit;
  more = h.more ++ second;
  due_are = ap (λ (l : List Commit). l ++ second) h.due_are ∙ append_assoc h.done (h.commit ∷ h.more) second;
  made = h.made;
  passed = h.passed;
}
refused-more T U old new first second faults errors.NoMemory h = record {
  done = h.done;
  more = h.more ++ second;
  due_are = ap (λ (l : List Commit). l ++ second) h.due_are ∙ append_assoc h.done h.more second;
  made = h.made;
}

-- the same refusal, of a call that answers another value
pub refused-alike : (T U : Type 0) (old new : WriterState) (due : List Commit) (faults : ℕ) (error : WriteError) → IsAfterCommits {T = T} old due faults (Err error) new → IsAfterCommits {T = U} old due faults (Err error) new
refused-alike T U old new due faults errors.MailFault h = absurd h
refused-alike T U old new due faults errors.DiskFault h = h
refused-alike T U old new due faults (errors.Closed fault) h = absurd h
refused-alike T U old new due faults (errors.Limit limit) h = h
refused-alike T U old new due faults errors.NoMemory h = h

-- all were made, and then no memory was left
pub all-stopped : (old new : WriterState) (due : List Commit) → HasCommitted old due new → StopsWithin old due new
all-stopped old new due h = record { done = due; more = []; due_are = sym (append-nil due); made = h }

-- the later ones of commits that fit in turn fit what the earlier ones leave
pub fit-first : (index : Base) (first second : List Commit) → FitInTurn index (first ++ second) → FitInTurn index first
fit-first index [] second fit = tt
fit-first index (commit ∷ first) second fit = (fit.0, fit-first (committed index commit) first second fit.1)

pub fit-second : (index : Base) (first second : List Commit) → FitInTurn index (first ++ second) → FitInTurn (folded index first) second
fit-second index [] second fit = fit
fit-second index (commit ∷ first) second fit = fit-second (committed index commit) first second fit.1

-- some changes make one commit
-- the commit that is asked of a snapshot is that of its index
pub named-is : (shown index : Base) (changes all : List Change) (slice ids : List (List ℕ)) → all ≡ with_names shown changes slice → shown ≡ index → slice ≡ ids → all ≡ with_names index changes ids
named-is shown index changes all slice ids is shown_is slice_is = is ∙ ap₂ (λ (b : Base) (l : List (List ℕ)). with_names b changes l) shown_is slice_is

pub one-commit : (index : Base) (changes : List Change) (ids : List (List ℕ)) → (length changes ≡ 0 → ⊥) → commit_of index changes ids ≡ record { changes = with_names index changes ids } ∷ []
one-commit index [] ids some = absurd (some refl)
one-commit index (change ∷ changes) ids some = refl

abbrev one_of : List Change → List Commit
one_of changes = record { changes = changes } ∷ []

-- it is that of these changes, where they are those with the tags that follow
pub commit-is : (index : Base) (changes all : List Change) (ids : List (List ℕ)) → (length changes ≡ 0 → ⊥) → all ≡ with_names index changes ids → one_of all ≡ commit_of index changes ids
commit-is index changes all ids some is = ap one_of is ∙ sym (one-commit index changes ids some)

pub no-commit : (index : Base) (changes : List Change) (ids : List (List ℕ)) → length changes ≡ 0 → commit_of index changes ids ≡ []
no-commit index [] ids none = refl
no-commit index (change ∷ changes) ids none = absurd (omega (arith, none))

-- the changes alone fit, where they do with the tags that follow
fit-front : (files : List (List ℕ × Facts)) (changes more : List Change) → FitChanges files (changes ++ more) → FitChanges files changes
fit-front files [] more h = tt
fit-front files (change ∷ changes) more h = (h.0, fit-front (changed files change) changes more h.1)

some-length : (changes : List Change) → (length changes ≡ 0 → ⊥) → 0 < length changes
some-length [] some = absurd (some refl)
some-length (change ∷ changes) some = omega arith

pub front-fits : (index : Base) (changes : List Change) (ids : List (List ℕ)) → (length changes ≡ 0 → ⊥) → FitInTurn index (commit_of index changes ids) → Fits index.files (record { changes = changes })
front-fits index changes ids some fit = record {
  some = some-length changes some;
  each = fit-front index.files changes (follow_names (fold applied index changes) ids) (subst (FitInTurn index) (one-commit index changes ids some) fit).0.each;
}

-- a fault after what had none
pub cause-then : {T : Type 0} (before mid now : ℕ) (result : Result T WriteError) → mid ≡ before → HasCauseOf is_write_fault mid now result → HasCauseOf is_write_fault before now result
cause-then before mid now result same h = subst (λ (n : ℕ). HasCauseOf is_write_fault n now result) same h

pub ruleset stops = (none-stopped, all-stopped)
