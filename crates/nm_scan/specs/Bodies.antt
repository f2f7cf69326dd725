-- What `show` reads of a mail folder: files one after the other, of n bytes in all.
-- Cited by `bodies`, `bodies_error`, `nm_session` and others.
use Rattle.std.specs.Prelude.{◌≡◌, ℕ, ◌+◌, ◌-◌, ◌<◌, ◌≤◌, Bool, true, false, List, [], ◌∷◌, ◌++◌, length, take, Option, IfSome, IsTrue, nat_lt}
use Rattle.nm_base.specs.Limits.{max_mail_bytes}
use Rattle.nm_maildir.specs.Observed.{ObservedMail}
use Rattle.nm_maildir.specs.Tree.{Tree, got_of}
use Rattle.nm_maildir.specs.declared.answers.Got.{Got}
use Rattle.nm_maildir.specs.declared.answers.Got.TheVariants as got
use Rattle.nm_maildir.specs.declared.answers.MailError.{MailError}
use Rattle.nm_maildir.specs.declared.answers.MailError.TheVariants as fault
use Rattle.nm_maildir.specs.declared.given.Given.{Given}
use Rattle.nm_maildir.specs.declared.given.Given.TheVariants as givens
use Rattle.nm_maildir.specs.declared.given.ReadAnswer.{ReadAnswer}
use Rattle.nm_maildir.specs.declared.given.ReadAnswer.TheVariants as answers
use Rattle.nm_scan.specs.FileReads.{after_reads, read_with}
use Rattle.nm_scan.specs.declared.bodies_error.BodiesError.{BodiesError}
use Rattle.nm_scan.specs.declared.bodies_error.BodiesError.TheVariants.{MailFault, ShowBytes, NoMemory}

-- ---- how many bytes

-- the bytes that an answer brought
abbrev pub body_len : ReadAnswer → ℕ
body_len answers.Mail = 0
body_len answers.NotMail = 0
body_len answers.Missing = 0
body_len answers.TooLong = 0
body_len (answers.Body bytes) = length bytes

-- the bytes of a body that the folder gave
abbrev pub given_len : Given → ℕ
given_len (givens.Listed paths) = 0
given_len (givens.Read path answer) = body_len answer
given_len (givens.Renamed from to answer) = 0

-- the bytes of all bodies that the folder gave
abbrev pub bytes_given : List Given → ℕ
bytes_given [] = 0
bytes_given (first ∷ given) = given_len first + bytes_given given

-- how many of n bytes these leave
abbrev pub left_after : ℕ → List Given → ℕ
left_after left given = left - bytes_given given

-- ---- one file

-- what a read says of a file whose bytes are shown
abbrev pub body_of : Got → ReadAnswer
body_of (got.Found bytes) = answers.Body bytes
body_of got.Missing = answers.Missing
body_of got.TooLong = answers.TooLong

-- an answer to a read of a body
abbrev pub is_body_answer : ReadAnswer → Bool
is_body_answer answers.Mail = false
is_body_answer answers.NotMail = false
is_body_answer answers.Missing = true
is_body_answer answers.TooLong = true
is_body_answer (answers.Body bytes) = true

-- the file has more bytes than are left, and fewer are left than a file may have
abbrev pub is_over : ℕ → ReadAnswer → Bool
is_over left answers.Mail = false
is_over left answers.NotMail = false
is_over left answers.Missing = false
is_over left answers.TooLong = nat_lt left max_mail_bytes
is_over left (answers.Body bytes) = false

-- What a read of the path gave, of at most the bytes that are left; a tree that is known says what that is.
pub record IsBody (tree : Option Tree) (left : ℕ) (path : List ℕ) (answer : ReadAnswer) : Type 0 where
  pub read : IsTrue (is_body_answer answer)
  pub within : is_over left answer ≡ false
  pub told : IfSome tree (λ t. answer ≡ body_of (got_of t path left))

-- ---- files one after the other

-- What reads of the paths gave, one after the other, each of at most the bytes that those before it left.
abbrev pub AreBodies : Option Tree → ℕ → List Given → List (List ℕ) → Type 0
AreBodies tree left given [] = given ≡ []
AreBodies tree left given (path ∷ paths) =
    (answer : ReadAnswer) × (more : List Given) × (given ≡ givens.Read path answer ∷ more)
    × IsBody tree left path answer × AreBodies tree (left - body_len answer) more paths

-- All the paths were read, and nothing else was asked; that is noted after what was noted before.
pub record HasReadBodies (old new : ObservedMail) (left : ℕ) (old_given new_given : List Given) (paths : List (List ℕ)) : Type 0 where
  pub given : List Given
  pub given_is : new_given ≡ old_given ++ given
  pub bodies : AreBodies old.tree left given paths
  pub mail : new ≡ after_reads old paths

-- Why the reading stops at a path, how often it was asked for, and what is noted of it: the folder failed, or the file has more bytes
-- than are left, or memory ran out.
abbrev pub IsStop : BodiesError → Option Tree → ℕ → List ℕ → ℕ → List Given → Type 0
IsStop MailFault tree left path asked given = (asked ≡ 1) × (given ≡ [])
IsStop ShowBytes tree left path asked given =
    (asked ≡ 1) × (given ≡ givens.Read path answers.TooLong ∷ []) × (left < max_mail_bytes) × IfSome tree (λ t. got_of t path left ≡ got.TooLong)
IsStop NoMemory tree left path asked given = (asked ≤ 1) × (given ≡ [])

-- The reading stopped at the path.
pub record StopsAtBody (old new : ObservedMail) (left : ℕ) (old_given new_given : List Given) (path : List ℕ) (error : BodiesError) : Type 0 where
  pub asked : ℕ
  pub given : List Given
  pub given_is : new_given ≡ old_given ++ given
  pub why : IsStop error old.tree left path asked given
  pub read : new.reads ≡ read_with old.reads (take asked (path ∷ []))
  pub tree : new.tree ≡ old.tree

-- The first of the paths were read, and at the next one the reading stopped.
pub record StopsInBodies (old new : ObservedMail) (left : ℕ) (old_given new_given : List Given) (paths : List (List ℕ)) (error : BodiesError) : Type 0 where
  pub before : List (List ℕ)
  pub path : List ℕ
  pub after : List (List ℕ)
  pub paths_are : paths ≡ before ++ path ∷ after
  pub mid : ObservedMail
  pub mid_given : List Given
  pub first : HasReadBodies old mid left old_given mid_given before
  pub stop : StopsAtBody mid new (left_after left first.given) mid_given new_given path error

-- a failure of the mail folder
abbrev pub is_folder_fault : BodiesError → Bool
is_folder_fault MailFault = true
is_folder_fault ShowBytes = false
is_folder_fault NoMemory = false

-- a file was read, and n bytes are left
pub record HasReadBody (old new : ObservedMail) (left rest : ℕ) (old_given new_given : List Given) (path : List ℕ) : Type 0 where
  pub answer : ReadAnswer
  pub given_is : new_given ≡ old_given ++ givens.Read path answer ∷ []
  pub body : IsBody old.tree left path answer
  pub rest_is : rest ≡ left - body_len answer
  pub mail : new ≡ after_reads old (path ∷ [])

-- what a fault of the folder is to a reading of bodies
abbrev pub bodies_error_of : MailError → BodiesError
bodies_error_of fault.Failed = MailFault
bodies_error_of fault.NoMemory = NoMemory
