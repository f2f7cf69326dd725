use Rattle.std.proofs.Common.{rules, List, sym, subst, ◌∙◌}
use Rattle.std.proofs.lemmas.Bool.{eqb-true, eqb-false}
use Rattle.nm_commit.specs.declared.change.Commit.{Commit}
use Rattle.nm_writer.specs.AfterCommit.{HasCommitted, IsAfterCommits}
use Rattle.nm_writer.proofs.DoneLemmas.{none-made, one-made}
use Rattle.nm_writer.proofs.TagCommandLemmas.{commit-of-none, commit-of-some, fits-alone}
use Rattle.nm_writer.proofs.writer.Writer.commit_changes.Goals as goal

pub returns-then-is_empty-clause-after : goal.returns-then-is_empty-clause-after
returns-then-is_empty-clause-after g c =
    let none = commit-of-none c.args.changes (eqb-true _ _ (sym c.is_empty.ensures ∙ c.if-is_empty.true)) in
    subst (λ (l : List Commit). HasCommitted c.args.self.now l c.args.self.now) (sym none) (none-made c.args.self.now)

pub commit-requires-clause-fits : goal.commit-requires-clause-fits
commit-requires-clause-fits g c =
    let fits = fits-alone c.args.self.now.shown c.args.changes (eqb-false _ _ (sym c.is_empty.ensures ∙ c.if-is_empty.false)) c.requires.fit in
    search (rules, fits)

pub returns-clause-after : goal.returns-clause-after
returns-clause-after g c =
    let disk = g.D.Disk.observed c.commit.new.disk in
    subst (λ (l : List Commit). IsAfterCommits c.args.self.now l disk.faults c.commit.result c.commit.new.self)
    (sym (commit-of-some c.args.changes (eqb-false _ _ (sym c.is_empty.ensures ∙ c.if-is_empty.false))))
    (one-made c.args.self.now c.commit.new.self _ disk.clock disk.faults c.commit.result c.commit.ensures.after)
