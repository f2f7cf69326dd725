-- How the program ends: what is observed of a folder that was opened, by its fields.
-- For the proof of `program`.
use Rattle.std.proofs.Common.{◌≡◌, ℕ, List, Option, ap, ◌∙◌}
use Rattle.nm_disk.specs.Observed.{Moments, ObservedDisk}
use Rattle.nm_maildir.specs.Observed.{ObservedMail}
use Rattle.nm_maildir.specs.Tree.{Tree}

abbrev mail-of : Option Tree → Option (List (List ℕ)) → ℕ → ObservedMail
mail-of tree reads faults = record { tree = tree; reads = reads; faults = faults }

pub mail-same : (old new : ObservedMail) → new.tree ≡ old.tree → new.reads ≡ old.reads → new.faults ≡ old.faults → new ≡ old
mail-same old new tree reads faults =
    ap (λ (t : Option Tree). mail-of t new.reads new.faults) tree
    ∙ (ap (λ (r : Option (List (List ℕ))). mail-of old.tree r new.faults) reads ∙ ap (λ (n : ℕ). mail-of old.tree old.reads n) faults)

abbrev disk-of : Option Moments → ℕ → ℕ → ObservedDisk
disk-of told clock faults = record { told = told; clock = clock; faults = faults }

pub disk-same : (old new : ObservedDisk) → new.told ≡ old.told → new.clock ≡ old.clock → new.faults ≡ old.faults → new ≡ old
disk-same old new told clock faults =
    ap (λ (t : Option Moments). disk-of t new.clock new.faults) told
    ∙ (ap (λ (n : ℕ). disk-of old.told n new.faults) clock ∙ ap (λ (n : ℕ). disk-of old.told old.clock n) faults)
