use Rattle.std.proofs.Common.{◌≡◌, ◌∙◌, ℕ, List, ap, subst, sym}
use Rattle.std.specs.Prelude.{Some}
use Rattle.std.specs.BTreeMap.Range.{entries_from}
use Rattle.std.specs.Cmp.Lexicographic.{slice_cmp}
use Rattle.std.specs.Ordering.{nat_cmp}
use Rattle.nm_base.specs.Order.{same_text}
use Rattle.nm_base.specs.declared.facts.LinkRow.{LinkRow}
use Rattle.nm_tables.specs.FileTable.{at_text}
use Rattle.nm_base.specs.KeyLaws.{same_text_from}
use Rattle.nm_tables.proofs.MailRowLemmas.{begins_not, found_ahead, none_ahead, other_ahead, same_by}
use Rattle.nm_tables.proofs.kept.row_of_mail.Goals as goal

pub returns-in_default : goal.returns-in_default
returns-in_default c =
    let start = c.in_ok-start.start in
    none_ahead c.args.kept.now c.requires c.args.id.now start c.in_ok-start.ensures (ap (entries_from (slice_cmp nat_cmp start)) (sym c.pairs.ensures) ∙ sym c.iter_from-ahead.ensures.rest ∙ c.in_default.ensures.steps.0)

pub returns-then-not-begins_with : goal.returns-then-not-begins_with
returns-then-not-begins_with c =
    let start = c.in_ok-start.start in
    other_ahead c.args.kept.now c.requires c.args.id.now start c.in_ok-start.ensures c.in-Some.first.now c.next.new.self
    (ap (entries_from (slice_cmp nat_cmp start)) (sym c.pairs.ensures) ∙ sym c.iter_from-ahead.ensures.rest ∙ c.in-Some.ensures.steps) (begins_not start c.in-Some.first.now.0 c.if-not-begins_with.ensures)

pub returns : goal.returns
returns c =
    let start = c.in_ok-start.start in
    let first = c.in-Some.first.now in
    let same : first.1.id ≡ c.args.id.now = sym (ap (λ (row : LinkRow). row.id) c.get.ensures) ∙ same_text_from c.get.result.now.id c.args.id.now (same_by (same_text c.get.result.now.id c.args.id.now) c.if-ne.ensures) in
    let found : at_text first.0 c.args.kept.now ≡ Some first.1 =
    found_ahead c.args.kept.now c.requires c.args.id.now start c.in_ok-start.ensures first c.next.new.self (ap (entries_from (slice_cmp nat_cmp start)) (sym c.pairs.ensures) ∙ sym c.iter_from-ahead.ensures.rest ∙ c.in-Some.ensures.steps) in
    (first.1, same, subst (λ (key : List ℕ). at_text key c.args.kept.now ≡ Some first.1) (sym c.in_ok-bytes.ensures) found)
