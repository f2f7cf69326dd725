use Rattle.std.proofs.Common.{◌≡◌, ℕ, List, ap, arith, length, subst}
use Rattle.std.specs.Prelude.{MatchOption, Option, Some}
use Rattle.std.specs.BTreeMap.{is_at}
use Rattle.std.specs.Cmp.Lexicographic.{slice_cmp}
use Rattle.std.specs.List.{filter}
use Rattle.std.specs.Map.{values_of}
use Rattle.std.specs.Ordering.{nat_cmp}
use Rattle.nm_base.specs.declared.facts.LinkRow.{LinkRow}
use Rattle.nm_tables.specs.FileTable.{at_text}
use Rattle.nm_tables.specs.Kept.{HasNoRow}
use Rattle.nm_tables.proofs.MailRowLemmas.{kept_less, no_more, one_less, others, shorter}
use Rattle.nm_tables.proofs.kept.forget_mail.Goals as goal

-- what was found, as a map has it
abbrev Found : List (List ℕ × LinkRow) → List ℕ → Option (List ℕ) → Type 0
Found kept id found = MatchOption found (HasNoRow (values_of kept) id) (λ bytes. (row : LinkRow) × (row.id ≡ id) × (at_text bytes kept ≡ Some row))

pub rows-smaller : goal.rows-smaller
rows-smaller c =
    let one = subst (Found c.rows.kept c.args.id.now) c.in-Some.is c.in_ok-bytes.ensures in
    omega (arith, shorter (is_at (slice_cmp nat_cmp c.in-Some.bytes)) c.rows.kept one.0 one.2, ap (λ (kept : List (List ℕ × LinkRow)). length kept) c.in_ok-remove.ensures.ok)

pub rows-preserved : goal.rows-preserved
rows-preserved c =
    let one = subst (Found c.rows.kept c.args.id.now) c.in-Some.is c.in_ok-bytes.ensures in
    record {
      kept = kept_less c.rows.kept c.remove.new.self c.in-Some.bytes c.rows.invariant.kept c.in_ok-remove.ensures.ok;
      rows = one_less c.rows.kept c.remove.new.self (filter (others c.args.id.now) (values_of c.args.kept.now)) c.args.id.now c.in-Some.bytes one.0 one.1 one.2 c.in_ok-remove.ensures.ok c.rows.invariant.rows;
    }

pub returns-clause-rows : goal.returns-clause-rows
returns-clause-rows c =
    let none = subst (Found c.rows.kept c.args.id.now) c.in_default.is c.in_ok-bytes.ensures in
    no_more c.rows.kept (filter (others c.args.id.now) (values_of c.args.kept.now)) c.args.id.now none c.rows.invariant.rows
