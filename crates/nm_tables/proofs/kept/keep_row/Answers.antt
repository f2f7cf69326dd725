use Rattle.std.proofs.Common.{◌∙◌, sym, refl}
use Rattle.std.proofs.lemmas.Bool.{cond-true}
use Rattle.std.specs.Prelude.{Some}
use Rattle.std.specs.Cmp.Lexicographic.{slice_cmp}
use Rattle.std.specs.Ordering.{is_eq, nat_cmp}
use Rattle.nm_tables.specs.FileTable.{at_text}
use Rattle.nm_base.specs.KeyLaws.{same_id}
use Rattle.nm_tables.proofs.KeptLemmas.{kept_more, kept_same, same_row}
use Rattle.nm_tables.proofs.kept.keep_row.Goals as goal

pub returns-then-eq-clause-rows : goal.returns-then-eq-clause-rows
returns-then-eq-clause-rows c =
    (kept_same c.args.kept.now c.args.row c.in-Some.there.now c.in_ok-bytes.bytes c.requires c.in_ok-bytes.ensures (sym c.get-in-Some.ensures ∙ same_row c.get-in-Some.result.now c.args.row c.if-eq.ensures) c.in-Some.ensures).0

pub returns-then-eq-clause-there : goal.returns-then-eq-clause-there
returns-then-eq-clause-there c =
    (kept_same c.args.kept.now c.args.row c.in-Some.there.now c.in_ok-bytes.bytes c.requires c.in_ok-bytes.ensures (sym c.get-in-Some.ensures ∙ same_row c.get-in-Some.result.now c.args.row c.if-eq.ensures) c.in-Some.ensures).1

pub returns-clause-kept : goal.returns-clause-kept
returns-clause-kept c =
    (kept_more c.args.kept.now c.insert.new.self c.args.row c.in_ok-new.field-0 c.in_ok-bytes.bytes c.requires c.in_ok-bytes.ensures c.in_ok-new.ensures c.in_default.ensures c.in_ok-insert.ensures.ok
    (c.in_ok-insert.ensures.found c.in_ok-bytes.bytes
    ∙ cond-true (is_eq (slice_cmp nat_cmp c.in_ok-bytes.bytes c.in_ok-bytes.bytes)) (Some c.in_ok-new.field-0) (at_text c.in_ok-bytes.bytes c.args.kept.now) (same_id c.in_ok-bytes.bytes c.in_ok-bytes.bytes refl))).0

pub returns-clause-rows : goal.returns-clause-rows
returns-clause-rows c =
    (kept_more c.args.kept.now c.insert.new.self c.args.row c.in_ok-new.field-0 c.in_ok-bytes.bytes c.requires c.in_ok-bytes.ensures c.in_ok-new.ensures c.in_default.ensures c.in_ok-insert.ensures.ok
    (c.in_ok-insert.ensures.found c.in_ok-bytes.bytes
    ∙ cond-true (is_eq (slice_cmp nat_cmp c.in_ok-bytes.bytes c.in_ok-bytes.bytes)) (Some c.in_ok-new.field-0) (at_text c.in_ok-bytes.bytes c.args.kept.now) (same_id c.in_ok-bytes.bytes c.in_ok-bytes.bytes refl))).1

pub returns-clause-there : goal.returns-clause-there
returns-clause-there c =
    (kept_more c.args.kept.now c.insert.new.self c.args.row c.in_ok-new.field-0 c.in_ok-bytes.bytes c.requires c.in_ok-bytes.ensures c.in_ok-new.ensures c.in_default.ensures c.in_ok-insert.ensures.ok
    (c.in_ok-insert.ensures.found c.in_ok-bytes.bytes
    ∙ cond-true (is_eq (slice_cmp nat_cmp c.in_ok-bytes.bytes c.in_ok-bytes.bytes)) (Some c.in_ok-new.field-0) (at_text c.in_ok-bytes.bytes c.args.kept.now) (same_id c.in_ok-bytes.bytes c.in_ok-bytes.bytes refl))).2
