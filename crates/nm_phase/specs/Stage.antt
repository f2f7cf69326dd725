-- What a session has on its stage: where it is by it, and what of it was lent. Cited by `stage` and `nm_session`.
use Rattle.std.specs.Prelude.{◌≡◌, ℕ}
use Rattle.nm_disk.specs.Observed.{ObservedDisk}
use Rattle.nm_history.specs.LineResult.{Place}
use Rattle.nm_model_index.specs.declared.base.Base.{Base}
use Rattle.nm_line.specs.Line.{place_at}
use Rattle.nm_maildir.specs.Observed.{ObservedMail}
use Rattle.nm_phase.specs.declared.stage.Stage.{Stage}
use Rattle.nm_writer.specs.Durable.{IsDurable}

-- where a session is, by what is observed of the devices and how many bytes may still be shown
abbrev pub place_in : {M D O : Type 0} → (M → ObservedMail) → (D → ObservedDisk) → Stage M D O → ℕ → Place
place_in mail disk stage left = place_at stage.writer.now (mail stage.mail.now) (disk stage.disk.now) left

-- what was acknowledged before is not lost
abbrev pub StaysDurable : {M D O : Type 0} → (D → ObservedDisk) → Stage M D O → Stage M D O → Type 0
StaysDurable disk old new =
    (entry : ObservedDisk) (opening : Base) → IsDurable entry opening (disk old.disk.now) old.writer.now → IsDurable entry opening (disk new.disk.now) new.writer.now

-- what was lent is what it was made of
pub record KeepsLoans {M D O : Type 0} (old new : Stage M D O) : Type 0 where
  pub reserved : new.reserved.ghost_name ≡ old.reserved.ghost_name
  pub writer : new.writer.ghost_name ≡ old.writer.ghost_name
  pub mail : new.mail.ghost_name ≡ old.mail.ghost_name
  pub disk : new.disk.ghost_name ≡ old.disk.ghost_name
  pub out : new.out.ghost_name ≡ old.out.ghost_name
