use Rattle.std.proofs.Common.{◌≡◌, ◌≢◌, ◌∙◌, ℕ, List, true, ap, subst, refl}
use Rattle.std.specs.Prelude.{Contains}
use Rattle.std.specs.BTreeSet.{insert_key}
use Rattle.std.specs.Map.{values_of}
use Rattle.nm_base.specs.declared.facts.Facts.{Facts}
use Rattle.nm_base.specs.declared.facts.LinkRow.{LinkRow}
use Rattle.nm_commit.specs.Files.{has_id}
use Rattle.nm_model_index.specs.Index.{row_cmp, row_of}
use Rattle.nm_tables.specs.FileTable.{files_in}
use Rattle.nm_parts.specs.Parts.{AreTagged}
use Rattle.nm_parts.proofs.TakeLemmas.{taken}
use Rattle.nm_parts.proofs.removal.take_out.Goals as goal

pub returns-clause-parts : goal.returns-clause-parts
returns-clause-parts c =
    let row_is : c.in_ok-row.row ≡ row_of c.in_ok-facts.facts = c.in_ok-row.ensures ∙ ap row_of c.get.ensures in
    taken c.thread_laws.ensures c.args.parts.now
    (record {
      revision = c.args.parts.now.revision;
      file_table = c.remove_file.new.file_table;
      kept = c.keep_row.new.kept;
      labels = c.args.parts.now.labels;
      tags = c.untag.new.tags;
    }) c.args.path.now c.in_ok-facts.facts c.requires.parts c.in_ok-facts.ensures.filed c.in_ok-keep_row.ensures.kept refl c.in_ok-facts.ensures.files c.in_ok-facts.ensures.facts
    (subst (λ (row : LinkRow). values_of c.keep_row.new.kept ≡ insert_key row_cmp (values_of c.args.parts.now.kept) row) row_is c.in_ok-keep_row.ensures.rows)
    (subst (λ (row : LinkRow). Contains (values_of c.keep_row.new.kept) row) row_is c.in_ok-keep_row.ensures.there)
    (subst (λ (facts : Facts). (files : List (List ℕ × Facts)) → AreTagged files c.args.parts.now.tags → has_id files facts.id ≡ true → ((other : List ℕ) → other ≢ facts.id → has_id (files_in c.remove_file.new.file_table) other ≡ has_id files other) → AreTagged (files_in c.remove_file.new.file_table) c.untag.new.tags)
    c.get-2.ensures c.in_ok-untag.ensures.tagged)
