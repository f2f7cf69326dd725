-- What lane 0 works on: where a session is by it, and what a line leaves of the index and of the loans. Cited by `lane_zero` and what it calls.
use Rattle.std.specs.Prelude.{◌≡◌, ℕ, None, IfSome}
use Rattle.nm_disk.specs.Observed.{ObservedDisk}
use Rattle.nm_history.specs.LineResult.{Place}
use Rattle.nm_model_index.specs.declared.base.Base.{Base}
use Rattle.nm_line.specs.Line.{IsEven, place_at}
use Rattle.nm_line.specs.declared.desk.Desk.{Desk}
use Rattle.nm_maildir.specs.Observed.{ObservedMail}
use Rattle.nm_writer.specs.Durable.{IsDurable}
use Rattle.nm_writer.specs.Writer.{StandsOnIndex, WriterState}

-- where a session is, by what is observed of the devices and how many bytes may still be shown
abbrev pub place_of : {M D : Type 0} → (M → ObservedMail) → (D → ObservedDisk) → Desk M D → ℕ → Place
place_of mail disk desk left = place_at desk.writer.now (mail desk.mail.now) (disk desk.disk.now) left

-- whatever a crash leaves holds the index of an open writer
abbrev pub Stands : WriterState → ObservedDisk → Type 0
Stands writer disk = writer.closed ≡ None → IfSome disk.told (λ moments. StandsOnIndex moments.present writer)

-- a line may be run
abbrev pub IsReady : WriterState → ObservedDisk → Type 0
IsReady writer disk = IsEven writer × Stands writer disk

-- what was acknowledged before is not lost
abbrev pub StaysDurable : {M D : Type 0} → (D → ObservedDisk) → Desk M D → Desk M D → Type 0
StaysDurable disk old new =
    (entry : ObservedDisk) (opening : Base) → IsDurable entry opening (disk old.disk.now) old.writer.now → IsDurable entry opening (disk new.disk.now) new.writer.now

-- what was lent is what it was made of
abbrev pub KeepsLoans : {M D : Type 0} → Desk M D → Desk M D → Type 0
KeepsLoans old new =
    (new.writer.ghost_name ≡ old.writer.ghost_name) × (new.mail.ghost_name ≡ old.mail.ghost_name) × (new.disk.ghost_name ≡ old.disk.ghost_name)
