use Rattle.std.proofs.Common.{◌≡◌, ℕ, List, ap, false, subst}
use Rattle.nm_base.specs.declared.facts.Facts.{Facts}
use Rattle.nm_commit.specs.Files.{has_id}
use Rattle.nm_tables.specs.FileTable.{at_text}
use Rattle.nm_tables.specs.SortedLaws.{same_pairs}
use Rattle.nm_state.proofs.TagLemmas.{taken_more}
use Rattle.nm_state.proofs.export.tags_by_id.Goals as goal

pub files-preserved : goal.files-preserved
files-preserved c =
    let before = subst (λ (files : List (List ℕ × Facts)). (id : List ℕ) → has_id files id ≡ false → at_text id c.files.all ≡ at_text id c.args.tags.now) c.in-Some.ensures.steps c.files.invariant in
    taken_more c.args.tags.now c.files.all c.take_tags.new.all (c.in-Some.field-0-0.now, c.in-Some.facts.now) c.next.new.self before c.in_ok-take_tags.ensures

pub returns : goal.returns
returns c =
    same_pairs c.files.all c.args.tags.now c.len.ensures.sorted c.order.ensures (λ id. c.files.invariant id (ap (λ (files : List (List ℕ × Facts)). has_id files id) c.in_default.ensures.steps.0))
