-- What a read of a disk in memory gives is one of the states that a crash may leave. Cited by `mem_disk`.
use Rattle.std.proofs.Common.{◌≡◌, ℕ, ◌+◌, ◌-◌, ◌<◌, ◌≤◌, min, max, Bool, true, false, ◌||◌, ◌&&◌, leb, ltb, List, [], ◌∷◌, ◌++◌, length, take, drop, get_or, fold, replicate, if◌then◌else◌, refl, ap, ◌∙◌, arith, length-append, length-take, length-drop, get_or-take, get_or-drop, le_refl, inl, inr, true≢false}
use Rattle.std.proofs.lemmas.List.{get_or_append_left, get_or-append_right, length-replicate}
use Rattle.std.proofs.lemmas.Bool.{cases_lt}
use Rattle.std.proofs.lemmas.Bool.Decides.{nat_tests}
use Rattle.nm_disk.specs.declared.disk.FileNo.{FileNo}
use Rattle.nm_disk.specs.declared.disk.FileNo.TheVariants.{Head, BankA, BankB}
use Rattle.nm_disk.specs.declared.event.Deed.{Deed}
use Rattle.nm_disk.specs.declared.event.Deed.TheVariants.{Write, FailedWrite, Sync, FailedSync}
use Rattle.nm_disk.specs.declared.event.Event.{Event}
use Rattle.nm_disk.specs.declared.state.DiskState.{DiskState}
use Rattle.nm_disk.specs.declared.state.Range.{Range}
use Rattle.nm_disk.specs.declared.files.Files.{Files}
use Rattle.nm_disk.specs.declared.crash.Pick.{Pick}
use Rattle.nm_disk.specs.declared.crash.Pick.TheVariants.{Old, New, Fill}
use Rattle.nm_disk.specs.Calls.{range_of, synced}
use Rattle.nm_disk.specs.CrashStates.{IsImage, IsLeft, bytes_of, overwritten, with_bytes, reach, same_file}
use Rattle.nm_disk.specs.Memory.{MemState, after_deed, after_event, filled, fresh_state, is_begun, moments_of, picked, stopped}
use Rattle.nm_disk.specs.Observed.{Moments}

-- the place is one of `n` from `at` on
abbrev pub is_within : ℕ → ℕ → ℕ → Bool
is_within at n place = leb at place && ltb place (at + n)

pub length-overwritten : (old bytes : List ℕ) (at : ℕ) → length (overwritten old at bytes) ≡ min at (length old) + length bytes + (length old - (at + length bytes))
length-overwritten old bytes at =
    length-append (take at old ++ bytes) (drop (at + length bytes) old)
    ∙ ap (λ n. n + length (drop (at + length bytes) old)) (length-append (take at old) bytes ∙ ap (λ n. n + length bytes) (length-take at old))
    ∙ ap (λ n. min at (length old) + length bytes + n) (length-drop (at + length bytes) old)

is_past : (at n place : ℕ) → at ≤ place → is_within at n place ≡ false → at + n ≤ place
is_past at n place from outside = grind (arith, nat_tests)

pub or-false : (a b : Bool) → (a || b) ≡ false → (a ≡ false) × (b ≡ false)
or-false true b e = absurd (true≢false e)
or-false false b e = (refl, e)

-- a byte outside of what was written stays
pub overwritten-elsewhere : (old bytes : List ℕ) (at n place : ℕ) → length bytes ≤ n → place < length old → is_within at n place ≡ false
    → get_or (overwritten old at bytes) place 0 ≡ get_or old place 0
overwritten-elsewhere old bytes at n place fits inside outside =
    elim (cases_lt place at) [
      | inl before ↦
          let front : length (take at old) ≡ min at (length old) = length-take at old in
          get_or_append_left (take at old ++ bytes) (drop (at + length bytes) old) 0 place (omega (arith, front, length-append (take at old) bytes))
          ∙ get_or_append_left (take at old) bytes 0 place (omega (arith, front))
          ∙ get_or-take at old place 0 before
      | inr from ↦
          let past : at + n ≤ place = is_past at n place from outside in
          let front : length (take at old ++ bytes) ≡ at + length bytes = omega (arith, length-append (take at old) bytes, length-take at old) in
          get_or-append_right (take at old ++ bytes) (drop (at + length bytes) old) (at + length bytes) place 0 front (omega arith)
          ∙ get_or-drop (at + length bytes) old (place - (at + length bytes)) 0
          ∙ ap (λ k. get_or old k 0) (omega arith)
    ]

-- what a read gives of a file is a crash state of it after a write too, if it was one before
left_after_write : (synced old bytes : List ℕ) (written : ℕ → Bool) (end at n : ℕ) → length bytes ≤ n → IsLeft synced written end old
    → IsLeft synced (λ place. is_within at n place || written place) (max (at + n) end) (overwritten old at bytes)
left_after_write synced old bytes written end at n fits was = record {
  no_shorter = omega (arith, was.no_shorter, length-overwritten old bytes at);
  no_longer = omega (arith, was.no_longer, length-overwritten old bytes at);
  elsewhere = λ place inside outside.
      let apart = or-false (is_within at n place) (written place) outside in
      overwritten-elsewhere old bytes at n place fits (omega (arith, inside, was.no_shorter)) apart.0 ∙ was.elsewhere place inside apart.1;
}

-- the state after a write of which the first bytes, perhaps all, were taken
abbrev wrote_some : DiskState → FileNo → ℕ → List ℕ → ℕ → DiskState
wrote_some state file at taken n = record {
  now = with_bytes state.now file (overwritten (bytes_of file state.now) at taken);
  synced = state.synced;
  written = range_of file at n ∷ state.written;
}

image_after_write : (state : DiskState) (file : FileNo) (at : ℕ) (taken : List ℕ) (n : ℕ) → length taken ≤ n → IsImage state state.now
    → IsImage (wrote_some state file at taken n) (with_bytes state.now file (overwritten (bytes_of file state.now) at taken))
image_after_write state Head at taken n fits was Head = left_after_write _ _ taken _ _ at n fits (was Head)
image_after_write state Head at taken n fits was BankA = was BankA
image_after_write state Head at taken n fits was BankB = was BankB
image_after_write state BankA at taken n fits was Head = was Head
image_after_write state BankA at taken n fits was BankA = left_after_write _ _ taken _ _ at n fits (was BankA)
image_after_write state BankA at taken n fits was BankB = was BankB
image_after_write state BankB at taken n fits was Head = was Head
image_after_write state BankB at taken n fits was BankA = was BankA
image_after_write state BankB at taken n fits was BankB = left_after_write _ _ taken _ _ at n fits (was BankB)

-- where nothing was written since the sync, a read gives what was synced
pub image_of_synced : (files : Files) → IsImage (fresh_state files) files
image_of_synced files file = record { no_shorter = le_refl _; no_longer = le_refl _; elsewhere = λ place inside outside. refl }

image_after_deed : (state : DiskState) (deed : Deed) → IsImage state state.now → IsImage (after_deed state deed) (after_deed state deed).now
image_after_deed state (Write file at bytes) was = image_after_write state file at bytes (length bytes) (le_refl _) was
image_after_deed state (FailedWrite file at bytes taken) was =
    image_after_write state file at (take taken bytes) (length bytes) (omega (arith, length-take taken bytes)) was
image_after_deed state Sync was = image_of_synced state.now
image_after_deed state FailedSync was = was

image_after_events : (moments : Moments) (events : List Event) → IsImage moments.present moments.present.now
    → IsImage (fold after_event moments events).present (fold after_event moments events).present.now
image_after_events moments [] was = was
image_after_events moments (event ∷ events) was =
    image_after_events (after_event moments event) events (image_after_deed moments.present event.deed was)

pub mem_reads_an_image : (disk : MemState) → IsImage (moments_of disk.start disk.events).present (moments_of disk.start disk.events).present.now
mem_reads_an_image disk = image_after_events _ disk.events (image_of_synced disk.start)

-- there is one moment more for each thing that a call did
pub length-past : (moments : Moments) (events : List Event) → length (fold after_event moments events).past ≡ length moments.past + length events
length-past moments [] = omega arith
length-past moments (event ∷ events) = omega (arith, length-past (after_event moments event) events)

pub le_reach : (ranges : List Range) (file : FileNo) (len : ℕ) → len ≤ reach ranges file len
le_reach [] file len = le_refl len
le_reach (range ∷ ranges) file len =
    elim (same_file range.file file) as (λ same. len ≤ (if same then max (range.start + range.len) (reach ranges file len) else reach ranges file len)) [
      | true ↦ omega (arith, le_reach ranges file len)
      | false ↦ le_reach ranges file len
    ]

filled_is_image : (byte : ℕ) (was : Files) (ranges : List Range) (now : Files)
    → IsImage (record { now = now; synced = was; written = ranges }) (filled byte was ranges)
filled_is_image byte was [] now = λ file. record { no_shorter = le_refl _; no_longer = le_refl _; elsewhere = λ place inside outside. refl }
filled_is_image byte was (range ∷ ranges) now =
    let files = filled byte was ranges in
    image_after_write (record { now = files; synced = was; written = ranges }) range.file range.start (replicate range.len byte) range.len
    (omega (arith, length-replicate range.len byte)) (filled_is_image byte was ranges files)

image_of_pick : (pick : Pick) (state : DiskState) → IsImage state state.now → IsImage state (picked pick state)
image_of_pick Old state was = λ file.
    record { no_shorter = le_refl _; no_longer = le_reach state.written file _; elsewhere = λ place inside outside. refl }
image_of_pick New state was = was
image_of_pick (Fill byte) state was = filled_is_image byte state.synced state.written state.now

image_if : (begun : Bool) (state : DiskState) (deed : Deed) → IsImage state state.now
    → IsImage (if begun then after_deed state deed else state) (if begun then after_deed state deed else state).now
image_if true state deed was = image_after_deed state deed was
image_if false state deed was = was

image_when_stopped : (call : ℕ) (state : DiskState) (events : List Event) → IsImage state state.now
    → (let at_stop = fold (λ (state : DiskState) (event : Event). if is_begun call event then after_deed state event.deed else state) state events in
    IsImage at_stop at_stop.now)
image_when_stopped call state [] was = was
image_when_stopped call state (event ∷ events) was =
    image_when_stopped call (if is_begun call event then after_deed state event.deed else state) events (image_if (is_begun call event) state event.deed was)

-- what is picked at a crash is a crash state of that moment
pub picked_is_image : (disk : MemState) (call : ℕ) (pick : Pick) → IsImage (stopped disk call) (picked pick (stopped disk call))
picked_is_image disk call pick =
    image_of_pick pick (stopped disk call) (image_when_stopped call (fresh_state disk.start) disk.events (image_of_synced disk.start))
