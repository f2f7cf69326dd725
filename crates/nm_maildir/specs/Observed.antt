-- What is observed of a mail folder at a moment, and what each call makes of it.
-- Cited by `folder_mail`, `maildir`, `nm_scan` and others.
use Rattle.std.specs.Prelude.{◌≡◌, ℕ, Bool, true, false, List, [], ◌∷◌, ◌++◌, Option, Result, Ok, Err, MatchResult}
use Rattle.std.specs.Option.{option_map}
use Rattle.nm_base.specs.declared.memory.Failed as memory
use Rattle.nm_faults.specs.Faults.{HasCause, HasCauseOf}
use Rattle.nm_maildir.specs.declared.answers.MailError.{MailError}
use Rattle.nm_maildir.specs.declared.answers.MailError.TheVariants.{Failed, NoMemory}
use Rattle.nm_maildir.specs.declared.answers.Renamed.{Renamed}
use Rattle.nm_maildir.specs.declared.answers.Renamed.TheVariants.{Moved, Missing, Exists}
use Rattle.nm_maildir.specs.Tree.{Tree, moved}

-- what it holds and the paths read, where they are known, and how often it has failed
pub record ObservedMail : Type 0 where
  pub tree : Option Tree
  pub reads : Option (List (List ℕ))
  pub faults : ℕ

-- a failure of the system; being out of memory is none
abbrev pub is_mail_fault : MailError → Bool
is_mail_fault Failed = true
is_mail_fault NoMemory = false

-- the cause of what a call of a mail folder answers
abbrev pub HasMailCause : {T : Type 0} → ℕ → ℕ → Result T MailError → Type 0
HasMailCause before now result = HasCauseOf is_mail_fault before now result

-- What every call keeps: the tree and the reads are those expected, and only a failure raised the count.
pub record KeepsMail {T : Type 0} (expected new : ObservedMail) (result : Result T MailError) : Type 0 where
  pub tree : new.tree ≡ expected.tree
  pub reads : new.reads ≡ expected.reads
  pub cause : HasMailCause expected.faults new.faults result

-- What an opening makes: the tree that is at the path is the folder's, or after a failure the one before. The reads stay, and only a failure raised the count.
pub record OpensMail {T : Type 0} (old : ObservedMail) (there : Option Tree) (new : ObservedMail) (result : Result T memory.Failed) : Type 0 where
  pub tree : MatchResult result (λ _. new.tree ≡ there) (λ _. new.tree ≡ old.tree)
  pub reads : new.reads ≡ old.reads
  pub cause : HasCause old.faults new.faults result

-- the paths read so far, and this one; a call that was out of memory read nothing
abbrev pub reads_with : {T : Type 0} → List (List ℕ) → List ℕ → Result T MailError → List (List ℕ)
reads_with reads path (Ok got) = reads ++ path ∷ []
reads_with reads path (Err Failed) = reads ++ path ∷ []
reads_with reads path (Err NoMemory) = reads

-- the same, where the paths are known
abbrev pub reads_after : {T : Type 0} → Option (List (List ℕ)) → List ℕ → Result T MailError → Option (List (List ℕ))
reads_after reads path result = option_map (λ paths. reads_with paths path result) reads

-- what is expected after a read
abbrev pub after_read : {T : Type 0} → ObservedMail → List ℕ → Result T MailError → ObservedMail
after_read old path result = record {
  tree = old.tree;
  reads = reads_after old.reads path result;
  faults = old.faults;
}

-- the tree after a rename: only one that answers Moved changes it
abbrev pub tree_with : {E : Type 0} → Tree → List ℕ → List ℕ → Result Renamed E → Tree
tree_with tree from to (Ok Moved) = moved tree from to
tree_with tree from to (Ok Missing) = tree
tree_with tree from to (Ok Exists) = tree
tree_with tree from to (Err e) = tree

-- what is expected after a rename
abbrev pub after_rename : ObservedMail → List ℕ → List ℕ → Result Renamed MailError → ObservedMail
after_rename old from to result = record {
  tree = option_map (λ tree. tree_with tree from to result) old.tree;
  reads = old.reads;
  faults = old.faults;
}
