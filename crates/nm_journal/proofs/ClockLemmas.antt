-- The clock of a disk over calls. For the proofs of `open_gate`, `stage` and `write_record`.
use Rattle.std.proofs.Common.{inl, inr, ℕ, Result, Ok, Err, arith}
use Rattle.nm_base.specs.declared.memory.Failed.{Failed}
use Rattle.nm_disk.specs.Calls.{Ticks}
use Rattle.nm_journal.specs.Moments.{NeverFalls}

pub ticked : {T : Type 0} (before now : ℕ) (result : Result T Failed) → Ticks before now result → NeverFalls before now
ticked before now (Ok done) is fits = (omega (arith, is, fits), omega (arith, is, fits))
ticked before now (Err error) (inl same) fits = (omega (arith, same, fits), omega (arith, same, fits))
ticked before now (Err error) (inr more) fits = (omega (arith, more, fits), omega (arith, more, fits))

pub then-on : (before mid now : ℕ) → NeverFalls before mid → NeverFalls mid now → NeverFalls before now
then-on before mid now first second fits =
    let to = first fits in
    let on = second to.1 in
    (omega (arith, to.0, on.0), on.1)
