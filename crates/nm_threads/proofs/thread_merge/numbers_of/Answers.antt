use Rattle.std.proofs.Common.{ap}
use Rattle.nm_threads.proofs.MemberLemmas.{front, numbers_all, numbers_rise, no_front}
use Rattle.nm_threads.proofs.thread_merge.numbers_of.Goals as goal

pub returns-then-of-group-clause-all : goal.returns-then-of-group-clause-all
returns-then-of-group-clause-all c =
    numbers_all c.args.group c.members.numbers c.members.rest c.args.members.now c.members.invariant (no_front c.args.group c.members.rest c.next.new.self c.in-Some.entry.now c.in-Some.ensures.steps c.if-of-group.true) c.iter_from-rest.ensures.sorted

pub returns-then-of-group-clause-rising : goal.returns-then-of-group-clause-rising
returns-then-of-group-clause-rising c =
    numbers_rise c.args.group c.members.numbers c.members.rest c.args.members.now c.members.invariant (no_front c.args.group c.members.rest c.next.new.self c.in-Some.entry.now c.in-Some.ensures.steps c.if-of-group.true) c.iter_from-rest.ensures.sorted

pub returns-clause-all : goal.returns-clause-all
returns-clause-all c = numbers_all c.args.group c.members.numbers c.members.rest c.args.members.now c.members.invariant (ap (front c.args.group) c.in_default.ensures.steps.0) c.iter_from-rest.ensures.sorted

pub returns-clause-rising : goal.returns-clause-rising
returns-clause-rising c = numbers_rise c.args.group c.members.numbers c.members.rest c.args.members.now c.members.invariant (ap (front c.args.group) c.in_default.ensures.steps.0) c.iter_from-rest.ensures.sorted
