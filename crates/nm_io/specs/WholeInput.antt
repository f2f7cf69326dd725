-- Reading a source to its end: which of its errors is a fault of the source. Cited by `whole_input`.
use Rattle.std.specs.Prelude.{ℕ, Bool, true, false, Result}
use Rattle.nm_faults.specs.Faults.{HasCauseOf}
use Rattle.nm_io.specs.declared.whole_input.TakeError.{TakeError}
use Rattle.nm_io.specs.declared.whole_input.TakeError.TheVariants.{ReadFault, TooLong, NoMemory}

abbrev pub is_read_fault : TakeError → Bool
is_read_fault ReadFault = true
is_read_fault TooLong = false
is_read_fault NoMemory = false

abbrev pub HasTakeCause : {T : Type 0} → ℕ → ℕ → Result T TakeError → Type 0
HasTakeCause before now result = HasCauseOf is_read_fault before now result
