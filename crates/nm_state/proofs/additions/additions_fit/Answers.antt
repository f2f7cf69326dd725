use Rattle.std.proofs.Common.{◌≡◌, refl, sym, ap, subst, ◌∙◌, IsTrue, rules, ℕ, ◌+◌, Bool, List, take}
use Rattle.std.specs.Prelude.{Option, IfSome}
use Rattle.std.specs.List.{fold}
use Rattle.std.proofs.lemmas.List.Sums.{fold_more}
use Rattle.nm_base.specs.declared.facts.Facts.{Facts}
use Rattle.nm_commit.specs.Files.{changed}
use Rattle.nm_commit.specs.declared.change.Change.{Change}
use Rattle.nm_state.specs.Additions.{AreWith, IsTried}
use Rattle.nm_tables.specs.FileTable.{files_in}
use Rattle.nm_state.specs.declared.additions.Added.{Added}
use Rattle.nm_parts.specs.ChangeLaws.{fit_at, fit_more}
use Rattle.nm_state.proofs.additions.additions_fit.Goals as goal

-- what was known of a change
abbrev Told : List (List ℕ × Facts) → Change → Added → Added → Option Bool → Type 0
Told before change old new told = IfSome told (λ fits. IsTried before change old new fits)

pub returns-then-not-fits : goal.returns-then-not-fits
returns-then-not-fits c =
    let before = files_in c.args.file_table.now in
    let after = fold changed before (take c.changes.change-index c.args.changes.now) in
    let tried = subst (Told before c.change-item.result c.changes.added c.try_change.new.added) c.in-Some.is c.in_ok-fits.ensures in (
      λ none. absurd (cc none),
      λ fits. subst IsTrue c.if-not-fits.true ((tried.fit after c.changes.invariant.added).1 (fit_at before after c.args.changes.now c.changes.change-index c.change-item.result refl c.changes-test.true c.change-item.is fits)),
    )

pub changes-preserved : goal.changes-preserved
changes-preserved c =
    let before = files_in c.args.file_table.now in
    let after = fold changed before (take c.changes.change-index c.args.changes.now) in
    let tried = subst (Told before c.change-item.result c.changes.added c.try_change.new.added) c.in-Some.is c.in_ok-fits.ensures in
    let more : fold changed before (take (c.changes.change-index + 1) c.args.changes.now) ≡ changed after c.change-item.result =
    fold_more changed before c.args.changes.now c.changes.change-index c.change-item.result c.changes-test.true ∙ ap (changed after) (sym c.change-item.is) in
    record {
      added = subst (λ (files : List (List ℕ × Facts)). AreWith before files c.try_change.new.added) (sym more) (tried.brought after c.changes.invariant.added (search rules));
      fit = fit_more before after c.args.changes.now c.changes.change-index c.change-item.result refl c.changes-test.true c.change-item.is c.changes.invariant.fit ((tried.fit after c.changes.invariant.added).0 (search rules));
    }
