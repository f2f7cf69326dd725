-- The devices of a call that is run, as they are lent: what is observed of them. Cited by `devices`.
use Rattle.std.specs.Prelude.{◌≡◌}
use Rattle.nm_disk.specs.Observed.{ObservedDisk}
use Rattle.nm_history.specs.Call as calls
use Rattle.nm_io.specs.Observed.{ObservedSink, ObservedStream}
use Rattle.nm_maildir.specs.Observed.{ObservedMail}
use Rattle.nm_top.specs.declared.devices.Devices.{Devices}

-- what is observed of the devices of a call, of which the input is so
abbrev pub devices_of : {M D O E : Type 0} → (M → ObservedMail) → (D → ObservedDisk) → (O → ObservedSink) → (E → ObservedSink) → ObservedStream → Devices M D O E → calls.Devices
devices_of mail disk out err input lent = calls.devices (mail lent.mail.now) (disk lent.disk.now) input (out lent.out.now) (err lent.err.now)

-- the same devices are lent
abbrev pub KeepsLoans : {M D O E : Type 0} → Devices M D O E → Devices M D O E → Type 0
KeepsLoans old new =
    (new.mail.ghost_name ≡ old.mail.ghost_name) × (new.disk.ghost_name ≡ old.disk.ghost_name) × (new.out.ghost_name ≡ old.out.ghost_name) × (new.err.ghost_name ≡ old.err.ghost_name)
