use Rattle.std.proofs.Common.{List, sym, subst, ◌∙◌}
use Rattle.std.proofs.lemmas.Bool.{eqb-true, eqb-false}
use Rattle.nm_commit.specs.Files.{Fits}
use Rattle.nm_commit.specs.declared.change.Commit.{Commit}
use Rattle.nm_model_index.specs.declared.base.Base.{Base}
use Rattle.nm_writer.specs.AfterCommit.{HasCommitted, IsAfterCommits}
use Rattle.nm_writer.proofs.DoneLemmas.{commit-is, front-fits, named-is, no-commit, none-made, one-made}
use Rattle.nm_writer.proofs.writer.Writer.commit_some.Goals as goal

pub returns-then-is_empty-clause-after : goal.returns-then-is_empty-clause-after
returns-then-is_empty-clause-after g c =
    let none = no-commit c.args.self.now.shown c.args.changes c.args.ids.now (eqb-true _ _ (sym c.is_empty.ensures ∙ c.if-is_empty.true)) in
    subst (λ (l : List Commit). HasCommitted c.args.self.now l c.args.self.now) (sym none) (none-made c.args.self.now)

pub with_names-requires : goal.with_names-requires
with_names-requires g c = (
  c.type_bounds.sync-R,
  subst (λ (b : Base). Fits b.files (record { changes = c.args.changes })) (sym c.snapshot.ensures)
      (front-fits c.args.self.now.shown c.args.changes c.args.ids.now (eqb-false _ _ (sym c.is_empty.ensures ∙ c.if-is_empty.false)) c.requires.fit),
)

pub returns-clause-after : goal.returns-clause-after
returns-clause-after g c =
    let disk = g.D.Disk.observed c.commit.new.disk in
    let named = named-is _ c.args.self.now.shown c.args.changes c.in_ok-named.named.commit.changes c.as_slice.result.now c.args.ids.now c.in_ok-named.ensures.commit c.snapshot.ensures c.as_slice.ensures in
    subst (λ (l : List Commit). IsAfterCommits c.args.self.now l disk.faults c.commit.result c.commit.new.self)
    (commit-is c.args.self.now.shown c.args.changes c.in_ok-named.named.commit.changes c.args.ids.now (eqb-false _ _ (sym c.is_empty.ensures ∙ c.if-is_empty.false)) named)
    (one-made c.args.self.now c.commit.new.self _ disk.clock disk.faults c.commit.result c.commit.ensures.after)
