use Rattle.std.proofs.Common.{rules, ◌≡◌, [], sym, subst}
use Rattle.nm_phase.specs.Observations.{AreObservations}
use Rattle.nm_phase.proofs.ObservationLemmas.{observations-later}
use Rattle.nm_phase.proofs.barrier.hand_over.Goals as goal

pub returns-clause-lane_answer : goal.returns-clause-lane_answer
returns-clause-lane_answer c = λ moment lines h.
    let none : c.replace.new.dest ≡ [] = search rules in
    let was : c.replace.result ≡ c.args.lane.now.observations = search rules in (
      record { book_is = c.learn.ensures.learned.book; observations = subst (AreObservations moment lines c.learn.new.self) (sym none) tt },
      record {
        known = c.learn.new.self;
        goes_on = c.learn.ensures.learned;
        sights_are = subst (AreObservations moment lines c.learn.new.self) (sym was)
            (observations-later moment lines c.args.lane.now.reader c.learn.new.self c.args.lane.now.observations c.learn.ensures.grown h.observations);
      },
    )
