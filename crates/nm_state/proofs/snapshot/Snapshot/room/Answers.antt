use Rattle.std.proofs.Common.{◌+◌, ◌∙◌, ap, arith, subst, sym}
use Rattle.std.specs.Prelude.{Some, min}
use Rattle.nm_base.specs.Limits.{max_count}
use Rattle.nm_base.specs.declared.limit.Limit.{Limit}
use Rattle.nm_model_index.specs.Index.{committed}
use Rattle.nm_model_index.specs.declared.base.Base.{Base}
use Rattle.nm_state.specs.Counts.{AreCounts}
use Rattle.nm_state.proofs.RoomLemmas.{next_within, revision_within, same_limit}
use Rattle.nm_state.proofs.snapshot.Snapshot.room.Goals as goal

pub returns-in-None-clause-ok : goal.returns-in-None-clause-ok
returns-in-None-clause-ok c =
    sym (c.in-None.ensures (committed c.args.self.now c.args.commit.now) (subst (λ (index : Base). AreCounts (committed index c.args.commit.now) c.in_ok-counts.counts) c.self.view_is c.in_ok-counts.ensures)
    (c.saturating_add.ensures ∙ ap (λ (index : Base). min (index.revision + 1) max_count) c.self.view_is))

pub returns-in-None-clause-enough : goal.returns-in-None-clause-enough
returns-in-None-clause-enough c =
    let passes = sym (c.in-None.ensures (committed c.args.self.now c.args.commit.now) (subst (λ (index : Base). AreCounts (committed index c.args.commit.now) c.in_ok-counts.counts) c.self.view_is c.in_ok-counts.ensures)
    (c.saturating_add.ensures ∙ ap (λ (index : Base). min (index.revision + 1) max_count) c.self.view_is)) in
    let after = committed c.args.self.now c.args.commit.now in
    ((omega (arith, next_within after passes)), (omega (arith, revision_within after passes)))

pub returns-in-Some-clause-limit : goal.returns-in-Some-clause-limit
returns-in-Some-clause-limit c = λ limit same.
    sym (c.in-Some.ensures (committed c.args.self.now c.args.commit.now) (subst (λ (index : Base). AreCounts (committed index c.args.commit.now) c.in_ok-counts.counts) c.self.view_is c.in_ok-counts.ensures)
    (c.saturating_add.ensures ∙ ap (λ (index : Base). min (index.revision + 1) max_count) c.self.view_is)) ∙ ap (λ (l : Limit). Some l) (same_limit c.in-Some.limit limit same)
