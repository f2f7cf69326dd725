use Rattle.std.proofs.Common.{sym, ◌∙◌}
use Rattle.nm_shared.proofs.PlacesLemmas.{nothing_late, nothing_left, nothing_early, early_taken, late_taken, both_taken}
use Rattle.nm_shared.proofs.merge.Merge.take_first.Goals as goal

pub returns-in_err-next : goal.returns-in_err-next
returns-in_err-next c =
    let left : _ = nothing_left c.self.inside.late c.self.inside.early c.self.invariant c.in_default.ensures.first c.peek.new.self c.next.new.self c.in_default.ensures.stays c.in_err-next.ensures.steps.0 c.in_err-next.ensures.steps.1 in
    rw c.from_residual.ensures (sym c.self.view_is ∙ left.0, left.1)

pub invariant_of-self-in_default : goal.invariant_of-self-in_default
invariant_of-self-in_default c =
    (nothing_late c.self.inside.late c.self.inside.early c.self.invariant c.in_default.ensures.first c.peek.new.self c.next.new.self c.in_ok-next.field-0.now c.in_default.ensures.stays c.in_ok-next.ensures.steps).1

pub returns-in_default : goal.returns-in_default
returns-in_default c =
    sym c.self.view_is
    ∙ (nothing_late c.self.inside.late c.self.inside.early c.self.invariant c.in_default.ensures.first c.peek.new.self c.next.new.self c.in_ok-next.field-0.now c.in_default.ensures.stays c.in_ok-next.ensures.steps).0

pub invariant_of-self-in_default-peek : goal.invariant_of-self-in_default-peek
invariant_of-self-in_default-peek c =
    (nothing_early c.self.inside.late c.self.inside.early c.self.invariant c.in-Some.late.now c.in-Some.ensures.first c.peek.new.self c.next-in_default-peek.new.self c.in-Some.ensures.stays c.in_default-peek.ensures.first c.peek-2.new.self c.next-in_default-peek.result
    c.in_default-peek.ensures.stays c.next-in_default-peek.ensures.steps).1

pub returns-in_default-peek : goal.returns-in_default-peek
returns-in_default-peek c =
    sym c.self.view_is
    ∙ (nothing_early c.self.inside.late c.self.inside.early c.self.invariant c.in-Some.late.now c.in-Some.ensures.first c.peek.new.self c.next-in_default-peek.new.self c.in-Some.ensures.stays c.in_default-peek.ensures.first c.peek-2.new.self c.next-in_default-peek.result
    c.in_default-peek.ensures.stays c.next-in_default-peek.ensures.steps).0

pub invariant_of-self-in-Less : goal.invariant_of-self-in-Less
invariant_of-self-in-Less c =
    (early_taken c.self.inside.late c.self.inside.early c.self.invariant c.in-Some.late.now c.in-Some.ensures.first c.peek.new.self c.peek.new.self c.in-Some.ensures.stays c.in-Some-peek.early.now c.in-Some-peek.ensures.first c.peek-2.new.self c.next-in-Less.new.self c.in-Some-peek.ensures.stays
    c.next-in-Less.result c.next-in-Less.ensures.steps c.in-Less.ensures).1

pub returns-in-Less : goal.returns-in-Less
returns-in-Less c =
    sym c.self.view_is
    ∙ (early_taken c.self.inside.late c.self.inside.early c.self.invariant c.in-Some.late.now c.in-Some.ensures.first c.peek.new.self c.peek.new.self c.in-Some.ensures.stays c.in-Some-peek.early.now c.in-Some-peek.ensures.first c.peek-2.new.self c.next-in-Less.new.self c.in-Some-peek.ensures.stays
    c.next-in-Less.result c.next-in-Less.ensures.steps c.in-Less.ensures).0

pub invariant_of-self-in-Greater : goal.invariant_of-self-in-Greater
invariant_of-self-in-Greater c =
    (late_taken c.self.inside.late c.self.inside.early c.self.invariant c.in-Some.late.now c.in-Some.ensures.first c.peek.new.self c.next-in-Greater.new.self c.in-Some.ensures.stays c.in-Some-peek.early.now c.in-Some-peek.ensures.first c.peek-2.new.self c.peek-2.new.self c.in-Some-peek.ensures.stays
    c.next-in-Greater.result c.next-in-Greater.ensures.steps c.in-Greater.ensures).1

pub returns-in-Greater : goal.returns-in-Greater
returns-in-Greater c =
    sym c.self.view_is
    ∙ (late_taken c.self.inside.late c.self.inside.early c.self.invariant c.in-Some.late.now c.in-Some.ensures.first c.peek.new.self c.next-in-Greater.new.self c.in-Some.ensures.stays c.in-Some-peek.early.now c.in-Some-peek.ensures.first c.peek-2.new.self c.peek-2.new.self c.in-Some-peek.ensures.stays
    c.next-in-Greater.result c.next-in-Greater.ensures.steps c.in-Greater.ensures).0

pub invariant_of-self-in-Equal : goal.invariant_of-self-in-Equal
invariant_of-self-in-Equal c =
    (both_taken c.self.inside.late c.self.inside.early c.self.invariant c.in-Some.late.now c.in-Some.ensures.first c.peek.new.self c.next-in-Equal-2.new.self c.in-Some.ensures.stays c.in-Some-peek.early.now c.in-Some-peek.ensures.first c.peek-2.new.self c.next-in-Equal.new.self c.in-Some-peek.ensures.stays
    c.next-in-Equal.result c.next-in-Equal-2.result c.next-in-Equal.ensures.steps c.next-in-Equal-2.ensures.steps c.in-Equal.ensures).1

pub returns-in-Equal : goal.returns-in-Equal
returns-in-Equal c =
    sym c.self.view_is
    ∙ (both_taken c.self.inside.late c.self.inside.early c.self.invariant c.in-Some.late.now c.in-Some.ensures.first c.peek.new.self c.next-in-Equal-2.new.self c.in-Some.ensures.stays c.in-Some-peek.early.now c.in-Some-peek.ensures.first c.peek-2.new.self c.next-in-Equal.new.self c.in-Some-peek.ensures.stays
    c.next-in-Equal.result c.next-in-Equal-2.result c.next-in-Equal.ensures.steps c.next-in-Equal-2.ensures.steps c.in-Equal.ensures).0
