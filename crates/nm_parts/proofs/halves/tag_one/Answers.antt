use Rattle.std.proofs.Common.{refl, ap, ◌∙◌, List, ℕ}
use Rattle.std.specs.BTreeMap.{insert_entry}
use Rattle.std.specs.Cmp.Lexicographic.{slice_cmp}
use Rattle.std.specs.Ordering.{nat_cmp}
use Rattle.nm_tables.specs.FileTable.{files_in}
use Rattle.nm_parts.proofs.TagLemmas.{retagged_one}
use Rattle.nm_parts.proofs.halves.tag_one.Goals as goal

pub returns : goal.returns
returns c = (
  refl,
  c.in_ok-set_tags.ensures.tags ∙ ap (λ (set : List (List ℕ)). insert_entry (slice_cmp nat_cmp) c.args.filed.now.tags c.args.id.now set) c.in_ok-copy.ensures,
  λ are live.
      retagged_one (files_in c.args.filed.now.file_table) c.args.filed.now.tags c.set_tags.new.all c.args.id.now c.in_ok-copy.field-0 c.in_ok-set_tags.ensures.sorted c.in_ok-set_tags.ensures.found are live,
)
