use Rattle.std.proofs.Common.{◌+◌, ◌≤◌, ◌^◌, ap, arith, refl, subst}
use Rattle.std.specs.Prelude.{fold}
use Rattle.nm_model_index.specs.Index.{applied, committed}
use Rattle.nm_model_index.specs.declared.base.Base.{Base}
use Rattle.nm_state.specs.Counts.{AreCounts}
use Rattle.nm_parts.specs.Parts.{base_of}
use Rattle.nm_state.specs.Renumbered.{renumbered}
use Rattle.nm_parts.specs.ChangeLaws.{rises}
use Rattle.nm_state.proofs.RenumberLemmas.{counts_alike}
use Rattle.nm_state.proofs.room.counts_anew.Goals as goal

pub returns : goal.returns
returns c =
    let index = base_of c.args.parts.now in
    let changes = c.args.commit.now.changes in
    let is = c.in_ok-anew.ensures.base in
    let are : AreCounts (committed (renumbered index) c.args.commit.now) c.in_ok-counts.counts = subst (λ (b : Base). AreCounts (committed b c.args.commit.now) c.in_ok-counts.counts) is c.in_ok-counts.ensures in
    let most : (fold applied (renumbered index) changes).next ≤ 2 ^ 63 = subst (λ (b : Base). (fold applied b changes).next ≤ 2 ^ 63) is (c.has_ids.ensures.enough c.if-not-has_ids.false) in
    counts_alike c.a_base_takes_what_its_parts_take.ensures index changes (index.revision + 1) c.in_ok-counts.counts (record { files = c.in_ok-counts.counts.files; bytes = c.in_ok-counts.counts.bytes; next = c.saturating_add.result }) are
    (omega (arith, most)) (rises c.numbers_never_fall.ensures changes (renumbered index)) refl refl
    (omega (arith, c.saturating_add.ensures, c.saturating_sub-more.ensures, c.next.ensures.next, ap (λ (b : Base). b.next) is, c.next-2.ensures.next)) (index.revision + 1)
