use Rattle.std.proofs.Common.{rules, ◌≡◌, List, Err, refl, sym, ap, ◌∙◌, subst}
use Rattle.nm_commit.specs.declared.change.Change.{Change}
use Rattle.nm_model_index.specs.Fits.{FitInTurn}
use Rattle.nm_model_index.specs.declared.base.Base.{Base}
use Rattle.nm_model_plan.specs.Apart.{AreApart}
use Rattle.nm_model_answer.specs.RenameOutcomes.{renames_for}
use Rattle.nm_model_plan.specs.Numbering.{AreNumbered}
use Rattle.nm_model_plan.specs.TagCommit.{commit_with, tag_changes, tag_commit}
use Rattle.nm_sync.specs.Noted.{since}
use Rattle.nm_writer.specs.Tagged.{IsAfterTags}
use Rattle.nm_writer.specs.Writer.{WriterState}
use Rattle.nm_writer.specs.AfterCommit.{HasCommitted, IsAfterCommits}
use Rattle.nm_writer.specs.declared.write_error.WriteError.TheVariants as errors
use Rattle.nm_writer.proofs.NotedLemmas.{since-none}
use Rattle.nm_writer.proofs.TagCommandLemmas.{moves-fit, nothing-set, renames-after, tags-refused, tags-then}
use Rattle.nm_writer.proofs.writer.Writer.set_tags.Goals as goal

pub returns-in_err-planned-clause-after : goal.returns-in_err-planned-clause-after
returns-in_err-planned-clause-after g c =
    let faults = (g.D.Disk.observed c.args.disk.now).faults in
    let is : c.from_residual.result ≡ Err errors.NoMemory = search rules in
    subst (λ result. IsAfterTags c.args.wanted.now.after (since c.args.given.now c.args.given.now) c.args.self.now faults result c.args.self.now) (sym is)
    (nothing-set c.no_rename_is_noted_at_first.ensures c.args.self.now c.args.wanted.now.after (since c.args.given.now c.args.given.now) faults (since-none c.args.given.now c.args.given.now refl))

pub commit_changes-requires-clause-fit : goal.commit_changes-requires-clause-fit
commit_changes-requires-clause-fit g c =
    let wanted = c.args.wanted.now.after in
    let changes : c.in_ok-planned.planned.changes ≡ tag_changes c.args.self.now.shown wanted = subst (λ (b : Base). c.in_ok-planned.planned.changes ≡ tag_changes b wanted) c.snapshot.ensures c.in_ok-planned.ensures.changes in
    let fit = subst (λ (l : List Change). FitInTurn c.args.self.now.shown (commit_with l)) (sym changes) (c.the_commit_of_tags_leaves_what_is_wanted.ensures.fits c.args.self.now.shown wanted) in
    search (rules, fit)

pub rename_files-requires-clause-fit : goal.rename_files-requires-clause-fit
rename_files-requires-clause-fit g c =
    let wanted = c.args.wanted.now.after in
    let old = c.args.self.now in
    let mid = c.commit_changes.new.self in
    let changes : c.in_ok-planned.planned.changes ≡ tag_changes old.shown wanted = subst (λ (b : Base). c.in_ok-planned.planned.changes ≡ tag_changes b wanted) c.snapshot.ensures c.in_ok-planned.ensures.changes in
    let are : c.in_ok-planned.planned.renames ≡ renames_for old.shown wanted = subst (λ (b : Base). c.in_ok-planned.planned.renames ≡ renames_for b wanted) c.snapshot.ensures c.in_ok-planned.ensures.renames in
    let made : HasCommitted old (tag_commit old.shown wanted) mid = subst (λ (l : List Change). HasCommitted old (commit_with l) mid) changes c.in-Ok.ensures.after in
    let fit = moves-fit c.tag_commits_fit.ensures old mid wanted c.in_ok-planned.planned.renames (subst (λ (w : WriterState). AreNumbered w.shown) c.self.view_is c.self.invariant.2)
    (subst (λ (w : WriterState). AreApart w.shown.files) c.self.view_is c.self.invariant.3) are (ap (λ (b : Base). b.files) made.shown ∙ c.the_commit_of_tags_leaves_what_is_wanted.ensures.files old.shown wanted) made in
    search (rules, fit)

pub returns-in-Ok-clause-after : goal.returns-in-Ok-clause-after
returns-in-Ok-clause-after g c =
    let wanted = c.args.wanted.now.after in
    let old = c.args.self.now in
    let mid = c.commit_changes.new.self in
    let changes : c.in_ok-planned.planned.changes ≡ tag_changes old.shown wanted = subst (λ (b : Base). c.in_ok-planned.planned.changes ≡ tag_changes b wanted) c.snapshot.ensures c.in_ok-planned.ensures.changes in
    let are : c.in_ok-planned.planned.renames ≡ renames_for old.shown wanted = subst (λ (b : Base). c.in_ok-planned.planned.renames ≡ renames_for b wanted) c.snapshot.ensures c.in_ok-planned.ensures.renames in
    let made : HasCommitted old (tag_commit old.shown wanted) mid = subst (λ (l : List Change). HasCommitted old (commit_with l) mid) changes c.in-Ok.ensures.after in
    tags-then old mid c.rename_files.new.self wanted (since c.args.given.now c.rename_files.new.given) (g.D.Disk.observed c.rename_files.new.disk).faults made c.in_ok-planned.planned.renames c.rename_files.result are
    (ap (λ (b : Base). b.files) made.shown ∙ c.the_commit_of_tags_leaves_what_is_wanted.ensures.files old.shown wanted) c.rename_files.ensures.tried c.rename_files.ensures.after

pub returns-in-Ok-clause-renames_after : goal.returns-in-Ok-clause-renames_after
returns-in-Ok-clause-renames_after g c =
    let wanted = c.args.wanted.now.after in
    let old = c.args.self.now in
    let mid = c.commit_changes.new.self in
    let changes : c.in_ok-planned.planned.changes ≡ tag_changes old.shown wanted = subst (λ (b : Base). c.in_ok-planned.planned.changes ≡ tag_changes b wanted) c.snapshot.ensures c.in_ok-planned.ensures.changes in
    let made : HasCommitted old (tag_commit old.shown wanted) mid = subst (λ (l : List Change). HasCommitted old (commit_with l) mid) changes c.in-Ok.ensures.after in
    renames-after old mid c.rename_files.new.self wanted mid.shown.files c.in_ok-planned.planned.renames (since c.args.given.now c.rename_files.new.given) (g.D.Disk.observed c.rename_files.new.disk).faults c.rename_files.result made c.rename_files.ensures.after

pub returns-in-Err-clause-after : goal.returns-in-Err-clause-after
returns-in-Err-clause-after g c =
    let wanted = c.args.wanted.now.after in
    let old = c.args.self.now in
    let faults = (g.D.Disk.observed c.commit_changes.new.disk).faults in
    let changes : c.in_ok-planned.planned.changes ≡ tag_changes old.shown wanted = subst (λ (b : Base). c.in_ok-planned.planned.changes ≡ tag_changes b wanted) c.snapshot.ensures c.in_ok-planned.ensures.changes in
    tags-refused c.no_rename_is_noted_at_first.ensures old c.commit_changes.new.self wanted (since c.args.given.now c.args.given.now) faults c.in-Err.error (since-none c.args.given.now c.args.given.now refl)
    (subst (λ (l : List Change). IsAfterCommits {T = Unit {0}} old (commit_with l) faults (Err c.in-Err.error) c.commit_changes.new.self) changes c.in-Err.ensures.after)
