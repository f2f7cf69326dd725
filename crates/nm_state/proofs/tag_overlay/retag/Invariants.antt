use Rattle.std.proofs.Common.{◌≡◌, take}
use Rattle.nm_parts.specs.Parts.{AreParts, base_of}
use Rattle.nm_state.specs.Snapshot.{retagged}
use Rattle.nm_state.proofs.tag_overlay.retag.Given as goal

abbrev pub invariant-sets : goal.invariant-sets
invariant-sets l = record {
  parts : AreParts l.parts;
  base : base_of l.parts ≡ retagged (base_of l.initial.parts) (take l.set-index l.sets);
  files : (base_of l.parts).files ≡ (base_of l.initial.parts).files;
}
