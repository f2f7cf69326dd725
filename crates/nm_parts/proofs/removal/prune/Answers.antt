use Rattle.std.proofs.Common.{◌≡◌, subst, sym, refl, not, List, ℕ}
use Rattle.std.specs.List.{filter}
use Rattle.std.specs.Map.{values_of}
use Rattle.nm_base.specs.Order.{has_text}
use Rattle.nm_model_index.specs.Index.{rows_of}
use Rattle.nm_tables.specs.FileTable.{files_in}
use Rattle.nm_tables.specs.Hints.{IsDeadThread}
use Rattle.nm_parts.specs.Parts.{base_of}
use Rattle.nm_parts.proofs.PruneLemmas.{dead_goes, live_stays, stays_by_itself}
use Rattle.nm_parts.proofs.removal.prune.Goals as goal

pub returns-then-is_live-clause-parts : goal.returns-then-is_live-clause-parts
returns-then-is_live-clause-parts c = (stays_by_itself c.thread_laws.ensures c.args.parts.now c.args.id.now c.requires (sym c.if-is_live.ensures)).0

pub returns-then-is_live-clause-base : goal.returns-then-is_live-clause-base
returns-then-is_live-clause-base c = (stays_by_itself c.thread_laws.ensures c.args.parts.now c.args.id.now c.requires (sym c.if-is_live.ensures)).1

pub returns-in_default-clause-parts : goal.returns-in_default-clause-parts
returns-in_default-clause-parts c =
    let live = subst (IsDeadThread c.args.parts.now.labels.labels (files_in c.args.parts.now.file_table) c.args.id.now) c.in_default.is c.in_ok-dead.ensures.dead in
    (live_stays c.thread_laws.ensures c.args.parts.now c.args.id.now c.requires c.dead_thread.new.self c.in_ok-dead.ensures.labels (live (rows_of (base_of c.args.parts.now)) c.requires.labels)).0

pub returns-in_default-clause-base : goal.returns-in_default-clause-base
returns-in_default-clause-base c =
    let live = subst (IsDeadThread c.args.parts.now.labels.labels (files_in c.args.parts.now.file_table) c.args.id.now) c.in_default.is c.in_ok-dead.ensures.dead in
    (live_stays c.thread_laws.ensures c.args.parts.now c.args.id.now c.requires c.dead_thread.new.self c.in_ok-dead.ensures.labels (live (rows_of (base_of c.args.parts.now)) c.requires.labels)).1

pub returns-clause-parts : goal.returns-clause-parts
returns-clause-parts c =
    let dead = subst (IsDeadThread c.args.parts.now.labels.labels (files_in c.args.parts.now.file_table) c.args.id.now) c.in-Some.is c.in_ok-dead.ensures.dead in
    (dead_goes c.thread_laws.ensures c.args.parts.now c.args.id.now c.requires c.dead_thread.new.self c.in_ok-dead.ensures.labels c.in-Some.dead (dead (rows_of (base_of c.args.parts.now)) c.requires.labels)
    (record {
      revision = c.args.parts.now.revision;
      file_table = c.args.parts.now.file_table;
      kept = c.forget_rows.new.kept;
      labels = c.drop_thread.new.self;
      tags = c.args.parts.now.tags;
    }) refl refl refl c.in_ok-drop_thread.ensures.next c.in_ok-drop_thread.ensures.entries c.in_ok-drop_thread.ensures.labels c.in_ok-forget_rows.ensures.kept
    (subst (λ (ids : List (List ℕ)). values_of c.forget_rows.new.kept ≡ filter (λ row. not (has_text ids row.id)) (values_of c.args.parts.now.kept)) c.as_slice-2.ensures c.in_ok-forget_rows.ensures.rows)).0

pub returns-clause-base : goal.returns-clause-base
returns-clause-base c =
    let dead = subst (IsDeadThread c.args.parts.now.labels.labels (files_in c.args.parts.now.file_table) c.args.id.now) c.in-Some.is c.in_ok-dead.ensures.dead in
    (dead_goes c.thread_laws.ensures c.args.parts.now c.args.id.now c.requires c.dead_thread.new.self c.in_ok-dead.ensures.labels c.in-Some.dead (dead (rows_of (base_of c.args.parts.now)) c.requires.labels)
    (record {
      revision = c.args.parts.now.revision;
      file_table = c.args.parts.now.file_table;
      kept = c.forget_rows.new.kept;
      labels = c.drop_thread.new.self;
      tags = c.args.parts.now.tags;
    }) refl refl refl c.in_ok-drop_thread.ensures.next c.in_ok-drop_thread.ensures.entries c.in_ok-drop_thread.ensures.labels c.in_ok-forget_rows.ensures.kept
    (subst (λ (ids : List (List ℕ)). values_of c.forget_rows.new.kept ≡ filter (λ row. not (has_text ids row.id)) (values_of c.args.parts.now.kept)) c.as_slice-2.ensures c.in_ok-forget_rows.ensures.rows)).1
