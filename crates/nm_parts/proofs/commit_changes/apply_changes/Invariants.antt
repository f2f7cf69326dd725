use Rattle.std.proofs.Common.{◌≡◌, take}
use Rattle.std.specs.Prelude.{fold}
use Rattle.nm_model_index.specs.Index.{applied}
use Rattle.nm_parts.specs.Parts.{AreParts, base_of}
use Rattle.nm_parts.proofs.commit_changes.apply_changes.Given as goal

abbrev pub invariant-changes : goal.invariant-changes
invariant-changes l = record {
  parts : AreParts l.parts;
  base : base_of l.parts ≡ fold applied (base_of l.initial.parts) (take l.change-index l.changes);
}
