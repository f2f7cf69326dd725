use Rattle.std.proofs.Common.{◌≡◌, ℕ, List, ap, arith}
use Rattle.nm_threads.specs.Labels.{entries_of}
use Rattle.nm_tables.specs.Measures.{entries_len}
use Rattle.nm_tables.proofs.measured_labels.MeasuredLabels.add_row.Goals as goal

pub invariant_of-self-2 : goal.invariant_of-self-2
invariant_of-self-2 c =
    let before : c.self.inside.bytes ≡ entries_len (entries_of c.self.inside.labels.labels) = c.self.invariant in
    let after = ap (λ (all : List (List ℕ × ℕ) × ℕ). entries_len all.0) c.in_ok-add_uncounted.ensures.numbers in
    omega (arith, before, after, c.in_ok-more.ensures, c.in_ok-bytes.ensures)
