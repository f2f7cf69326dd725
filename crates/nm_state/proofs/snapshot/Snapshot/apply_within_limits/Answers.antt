use Rattle.std.proofs.Common.{◌∙◌, ap, sym}
use Rattle.std.specs.Prelude.{Some}
use Rattle.nm_base.specs.declared.limit.Limit.{Limit}
use Rattle.nm_record.specs.Room.{limit_passed}
use Rattle.nm_state.proofs.RoomLemmas.{same_limit}
use Rattle.nm_state.proofs.snapshot.Snapshot.apply_within_limits.Goals as goal

pub returns-in-None-clause-within : goal.returns-in-None-clause-within
returns-in-None-clause-within c = sym (c.in-None.ensures ∙ ap limit_passed c.in_ok-new-2.ensures)

pub returns-in-Some-clause-limit : goal.returns-in-Some-clause-limit
returns-in-Some-clause-limit c = λ limit same. sym (c.in-Some.ensures ∙ ap limit_passed c.in_ok-new-2.ensures) ∙ ap (λ (l : Limit). Some l) (same_limit c.in-Some.limit limit same)
