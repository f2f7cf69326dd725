use Rattle.std.proofs.Common.{ℕ, ◌+◌, ◌-◌, List, min, ap, ◌∙◌, arith, subst, sym}
use Rattle.std.specs.Prelude.{Contains}
use Rattle.nm_threads.specs.Labels.{thread_len}
use Rattle.nm_threads.specs.Maps.{labelling_of}
use Rattle.nm_threads.proofs.NumberLemmas.{known_at}
use Rattle.nm_threads.proofs.RowLemmas.{link_is}
use Rattle.nm_threads.proofs.StepLemmas.{join_is, join_pays, thread_is, thread_stays}
use Rattle.nm_threads.proofs.WorkLemmas.{potential_given, join_work}
use Rattle.nm_threads.proofs.rows.add_link.Goals as goal

pub place_at-first-requires-clause-known : goal.place_at-first-requires-clause-known
place_at-first-requires-clause-known g c = (c.args.own.now, c.in_ok-other.ensures.others c.args.number c.args.own.now c.requires.own)

pub place_at-second-requires-clause-known : goal.place_at-second-requires-clause-known
place_at-second-requires-clause-known g c = (c.args.link.now, c.in_ok-other.ensures.number)

pub returns-clause-own : goal.returns-clause-own
returns-clause-own g c =
    subst (λ (ids : List (ℕ × List ℕ)). Contains ids (c.args.number, c.args.own.now)) (sym c.in_ok-join.ensures.ids) (c.in_ok-other.ensures.others c.args.number c.args.own.now c.requires.own)

pub returns-clause-links : goal.returns-clause-links
returns-clause-links g c =
    let own = c.in_ok-other.ensures.others c.args.number c.args.own.now c.requires.own in
    link_is c.args.maps.now c.give_number.new.maps c.join.new.maps c.requires.maps c.args.own.now c.args.link.now c.in_ok-other.ensures.given c.args.number c.in_ok-other.other c.place_at-first.result.group c.place_at-second.result.group c.place_at-first.result.thread
    c.place_at-second.result.thread own c.place_at-first.ensures.group c.place_at-first.ensures.thread c.in_ok-other.ensures.number c.place_at-second.ensures.group c.place_at-second.ensures.thread c.in_ok-join.ensures.next c.in_ok-join.ensures.labels

pub returns-clause-steps : goal.returns-clause-steps
returns-clause-steps g c =
    let own = c.in_ok-other.ensures.others c.args.number c.args.own.now c.requires.own in
    omega (
      arith,
      c.tick.ensures,
      thread_is c.give_number.new.maps c.in_ok-other.ensures.maps c.args.own.now c.args.number c.place_at-first.result.group c.place_at-first.result.thread own c.place_at-first.ensures.group c.place_at-first.ensures.thread,
      thread_stays c.args.maps.now c.give_number.new.maps c.requires.maps c.in_ok-other.ensures.maps c.args.link.now c.in_ok-other.ensures.given c.args.own.now (known_at c.args.maps.now c.args.number c.args.own.now c.requires.own),
      join_pays c.give_number.new.maps c.join.new.maps c.in_ok-other.ensures.maps c.in_ok-join.ensures.maps c.args.own.now c.args.number c.place_at-first.result.group c.place_at-second.result.group c.place_at-first.result.thread
          c.place_at-second.result.thread own c.place_at-first.ensures.group c.place_at-first.ensures.thread c.place_at-second.ensures.thread c.in_ok-join.ensures.labels c.tick.new.self c.join.new.steps c.in_ok-join.ensures.steps,
    )

pub returns-clause-exact : goal.returns-clause-exact
returns-clause-exact g c =
    let own = c.in_ok-other.ensures.others c.args.number c.args.own.now c.requires.own in
    let had =
    sym (thread_stays c.args.maps.now c.give_number.new.maps c.requires.maps c.in_ok-other.ensures.maps c.args.link.now c.in_ok-other.ensures.given c.args.own.now (known_at c.args.maps.now c.args.number c.args.own.now c.requires.own))
    ∙ thread_is c.give_number.new.maps c.in_ok-other.ensures.maps c.args.own.now c.args.number c.place_at-first.result.group c.place_at-first.result.thread own c.place_at-first.ensures.group c.place_at-first.ensures.thread in
    join_is c.give_number.new.maps c.join.new.maps c.in_ok-other.ensures.maps c.in_ok-join.ensures.maps c.args.own.now c.args.number c.place_at-first.result.group c.place_at-second.result.group c.place_at-first.result.thread
    c.place_at-second.result.thread own c.place_at-first.ensures.group c.place_at-first.ensures.thread c.place_at-second.ensures.thread c.in_ok-join.ensures.labels c.tick.new.self c.join.new.steps c.in_ok-join.ensures.steps
    ∙ ap (λ before. before + min c.place_at-first.result.thread.len (thread_len c.args.own.now (labelling_of c.join.new.maps).labels - c.place_at-first.result.thread.len)) c.tick.ensures
    ∙ ap (λ had. c.args.steps.now + 1 + min had (thread_len c.args.own.now (labelling_of c.join.new.maps).labels - had)) (sym had)

pub returns-clause-work : goal.returns-clause-work
returns-clause-work g c = λ f doubles.
    omega (
      arith,
      c.tick.ensures,
      potential_given f c.args.maps.now c.give_number.new.maps c.requires.maps c.in_ok-other.ensures.maps c.args.link.now c.in_ok-other.ensures.given,
      join_work f doubles c.give_number.new.maps c.join.new.maps c.in_ok-other.ensures.maps c.place_at-first.result.group c.place_at-second.result.group c.place_at-first.result.thread c.place_at-second.result.thread c.place_at-first.ensures.thread
          c.place_at-second.ensures.thread c.in_ok-join.ensures.labels c.tick.new.self c.join.new.steps c.in_ok-join.ensures.steps,
    )
