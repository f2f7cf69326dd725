use Rattle.nm_publish.specs.Published.{GoesOn}
use Rattle.nm_phase.specs.Observations.{AreObservations}
use Rattle.nm_phase.proofs.reads.see_lines.Given as goal

abbrev pub invariant-lines : goal.invariant-lines
invariant-lines l = record {
  grown : GoesOn l.initial.reader l.reader;
  observations : AreObservations l.setting.moment l.lines l.reader l.observations;
}
