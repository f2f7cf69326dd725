use Rattle.std.proofs.Common.{rules, ◌≡◌, ◌≤◌, ℕ, false, List, [], ◌∷◌, ◌++◌, None, length, sym, ap, ◌∙◌, subst, arith}
use Rattle.std.proofs.lemmas.List.{length_push}
use Rattle.nm_base.specs.Limits.{max_commits}
use Rattle.nm_model_index.specs.declared.base.Base.{Base}
use Rattle.nm_commit.specs.Files.{Fits}
use Rattle.nm_model_plan.specs.Apart.{AreApart}
use Rattle.nm_model_plan.specs.Numbering.{AreNumbered}
use Rattle.nm_commit.specs.declared.change.Commit.{Commit}
use Rattle.nm_model_index.specs.Index.{committed}
use Rattle.nm_journal.specs.Journal.{JournalState, ReceiptState}
use Rattle.nm_publish.specs.Published.{index_of, with_commit}
use Rattle.nm_writer.specs.Writer.{WriterState}
use Rattle.nm_writer.specs.AfterCommit.{IsWithin}
use Rattle.nm_writer.proofs.CommitLemmas.{any-moment, index-more, journal-stands, others, staged-published, stands-after}
use Rattle.nm_writer.proofs.writer.Writer.make.Goals as goal

pub append-requires-clause-stands : goal.append-requires-clause-stands
append-requires-clause-stands g c =
    journal-stands (g.D.Disk.observed c.args.disk.now).told c.args.self.now c.self.inside.journal (ap (λ (w : WriterState). w.journal) (sym c.self.view_is)) c.requires.stands

pub invariant_of-self-in-Ok : goal.invariant_of-self-in-Ok
invariant_of-self-in-Ok g c =
    let alive : c.self.inside.closed ≡ None → c.append.new.self.failed ≡ false = search rules in
    let few : length c.push_spare.new.self.0 ≤ max_commits =
    omega (
      arith,
      c.in_ok-frame.ensures.within.0,
      ap (λ (l : List Commit). length l) c.push_spare.ensures.list,
      length_push c.reserve.new.self.0 c.args.commit,
      ap (λ (l : List Commit). length l) c.reserve.ensures.list,
      ap (λ (l : List Commit). length l) c.as_slice-made.ensures,
    ) in
    let published : c.show.new.self.shown ≡ with_commit c.self.inside.shower.shown c.args.commit =
    staged-published c.self.inside.shower c.stage.new.self c.show.new.self c.args.commit c.in_ok-stage.ensures c.show.ensures.shown in
    let is : index_of c.show.new.self.shown ≡ committed (index_of c.self.inside.shower.shown) c.args.commit = index-more c.self.inside.shower.shown c.show.new.self.shown c.args.commit published in (
      alive,
      few,
      subst AreNumbered (sym is) (c.numbers_stay_in_order.ensures.kept (index_of c.self.inside.shower.shown) (c.args.commit ∷ []) c.self.invariant.2),
      subst (λ (b : Base). AreApart b.files) (sym is)
          (c.files_stay_apart.ensures.kept (index_of c.self.inside.shower.shown) (c.args.commit ∷ []) c.self.invariant.3 (subst (λ (w : WriterState). Fits w.shown.files c.args.commit) (sym c.self.view_is) c.requires.fits, tt)),
      c.show.ensures.staged,
    )

pub returns-in-Ok-clause-stands : goal.returns-in-Ok-clause-stands
returns-in-Ok-clause-stands g c =
    let disk = g.D.Disk in
    let published : c.show.new.self.shown ≡ with_commit c.self.inside.shower.shown c.args.commit =
    staged-published c.self.inside.shower c.stage.new.self c.show.new.self c.args.commit c.in_ok-stage.ensures c.show.ensures.shown in
    let is : index_of c.show.new.self.shown ≡ committed (index_of c.self.inside.shower.shown) c.args.commit = index-more c.self.inside.shower.shown c.show.new.self.shown c.args.commit published in
    stands-after c.one_commit_more_is_held.ensures (disk.observed c.args.disk.now).told (disk.observed c.append.new.disk).told c.args.self.now _ c.self.inside.journal c.args.commit c.in_ok-frame.frame
    (ap (λ (w : WriterState). w.journal) (sym c.self.view_is)) c.requires.stands c.in_ok-frame.ensures.frame c.in_ok-frame.ensures.value c.requires.fits
    (is ∙ ap (λ (w : WriterState). committed w.shown c.args.commit) c.self.view_is)
    (ap (λ (j : JournalState). j.file) c.in-Ok.ensures.ok) (ap (λ (j : JournalState). j.start) c.in-Ok.ensures.ok) c.in-Ok.ensures.stands

pub returns-in-Ok-clause-any_moment : goal.returns-in-Ok-clause-any_moment
returns-in-Ok-clause-any_moment g c =
    let disk = g.D.Disk in
    any-moment c.one_commit_more_is_held.ensures (disk.observed c.args.disk.now).told (disk.observed c.append.new.disk).told c.args.self.now c.self.inside.journal c.args.commit c.in_ok-frame.frame
    (ap (λ (w : WriterState). w.journal) (sym c.self.view_is)) c.requires.stands c.in_ok-frame.ensures.frame c.in_ok-frame.ensures.value c.requires.fits c.append.ensures.any_moment

pub returns-clause-any_moment : goal.returns-clause-any_moment
returns-clause-any_moment g c =
    let disk = g.D.Disk in
    any-moment c.one_commit_more_is_held.ensures (disk.observed c.args.disk.now).told (disk.observed c.append.new.disk).told c.args.self.now c.self.inside.journal c.args.commit c.in_ok-frame.frame
    (ap (λ (w : WriterState). w.journal) (sym c.self.view_is)) c.requires.stands c.in_ok-frame.ensures.frame c.in_ok-frame.ensures.value c.requires.fits c.append.ensures.any_moment

pub returns-in-Ok-clause-others : goal.returns-in-Ok-clause-others
returns-in-Ok-clause-others g c =
    let disk = g.D.Disk in
    others (disk.observed c.args.disk.now).told (disk.observed c.append.new.disk).told c.args.self.now c.self.inside.journal (ap (λ (w : WriterState). w.journal) (sym c.self.view_is)) c.requires.stands c.append.ensures.others

pub returns-clause-others : goal.returns-clause-others
returns-clause-others g c =
    let disk = g.D.Disk in
    others (disk.observed c.args.disk.now).told (disk.observed c.append.new.disk).told c.args.self.now c.self.inside.journal (ap (λ (w : WriterState). w.journal) (sym c.self.view_is)) c.requires.stands c.append.ensures.others

pub returns-in-Ok-clause-after : goal.returns-in-Ok-clause-after
returns-in-Ok-clause-after g c =
    let published : c.show.new.self.shown ≡ with_commit c.self.inside.shower.shown c.args.commit =
    staged-published c.self.inside.shower c.stage.new.self c.show.new.self c.args.commit c.in_ok-stage.ensures c.show.ensures.shown in
    let is : index_of c.show.new.self.shown ≡ committed (index_of c.self.inside.shower.shown) c.args.commit = index-more c.self.inside.shower.shown c.show.new.self.shown c.args.commit published in
    let begun = c.reserve.ensures.list ∙ ap (λ (w : WriterState). w.begun) c.self.view_is in
    let acked = c.reserve-2.ensures.list ∙ ap (λ (w : WriterState). w.acked) c.self.view_is in
    let shown = c.deref.ensures ∙ (c.now.ensures ∙ ap (λ (w : WriterState). w.shown) c.self.view_is) in
    let made = ap (λ (l : List Commit). length l) (c.as_slice-made.ensures ∙ ap (λ (w : WriterState). w.begun) c.self.view_is) in (
      is ∙ ap (λ (w : WriterState). committed w.shown c.args.commit) c.self.view_is,
      c.push_spare.ensures.list ∙ ap (λ (l : List Commit). l ++ c.args.commit ∷ []) begun,
      c.push_spare-in-Ok.ensures.list ∙ (ap (λ (l : List ℕ). l ++ c.clock.result ∷ []) acked
          ∙ ap (λ (n : ℕ). c.args.self.now.acked ++ n ∷ []) (c.clock.ensures ∙ ap (λ (r : ReceiptState). r.clock) c.in-Ok.ensures.receipt)),
      ap (λ (w : WriterState). w.closed) c.self.view_is,
      subst (λ (b : Base). IsWithin (length c.args.self.now.begun) b c.args.commit) shown (subst (λ (n : ℕ). IsWithin n c.deref.result.now c.args.commit) made c.in_ok-frame.ensures.within),
      published ∙ ap (λ (w : WriterState). with_commit w.published c.args.commit) c.self.view_is,
    )
