use Rattle.std.proofs.Common.{sym, ap, ◌∙◌, ◌++◌, ◌∷◌, [], arith, Some, None}
use Rattle.nm_threads.proofs.ThreadLemmas.{found_more}
use Rattle.std.proofs.lemmas.List.{append-nil}
use Rattle.nm_threads.proofs.members.ids_at.Goals.{in-Some+in_ok-copy+in_ok-push, in_default}
use Rattle.nm_threads.proofs.members.ids_at.Goals as goal

pub numbers-preserved : goal.numbers-preserved
numbers-preserved g c = elim c.match-get_numbered.branch [
  | in-Some+in_ok-copy+in_ok-push w ↦ record {
    ids =
        w.found-is ∙ w.in_ok-push.ensures.ok ∙ ap (λ id. c.numbers.found ++ id ∷ []) w.in_ok-copy.ensures
        ∙ found_more c.args.ids.now c.args.numbers.now c.numbers.number-index c.numbers-test.true c.numbers.found c.numbers.invariant.ids (Some w.in-Some.id.now) (sym w.in-Some.ensures);
    steps = omega (arith, c.tick.ensures, c.numbers.invariant.steps);
  }
  | in_default w ↦ record {
    ids =
        w.found-is ∙ sym (append-nil c.numbers.found)
        ∙ found_more c.args.ids.now c.args.numbers.now c.numbers.number-index c.numbers-test.true c.numbers.found c.numbers.invariant.ids None (sym w.in_default.ensures);
    steps = omega (arith, c.tick.ensures, c.numbers.invariant.steps);
  }
]
