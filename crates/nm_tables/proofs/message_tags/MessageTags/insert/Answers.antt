use Rattle.std.proofs.Common.{◌∙◌, ap, sym, cond, Some}
use Rattle.std.specs.BTreeMap.{insert_entry}
use Rattle.std.specs.Cmp.Lexicographic.{slice_cmp}
use Rattle.std.specs.Ordering.{is_eq, nat_cmp}
use Rattle.nm_tables.specs.FileTable.{at_text}
use Rattle.nm_tables.specs.Measures.{all_tags_len}
use Rattle.nm_tables.proofs.SortedLemmas.{found_with, sorted_with}
use Rattle.nm_tables.proofs.message_tags.MessageTags.insert.Goals as goal

pub invariant_of-self-2 : goal.invariant_of-self-2
invariant_of-self-2 c =
    c.in_ok-bytes.ensures
    ∙ ap all_tags_len (sym (
    sorted_with c.self.inside.map c.insert.new.self c.in_ok-copy.field-0 c.in_ok-shared.shared c.in_ok-insert.ensures.found
    ∙ (λ i. insert_entry (slice_cmp nat_cmp) (c.self.view_is i) (c.in_ok-copy.ensures i) (c.in_ok-shared.ensures i))
    ))

pub returns-clause-tags : goal.returns-clause-tags
returns-clause-tags c =
    sorted_with c.self.inside.map c.insert.new.self c.in_ok-copy.field-0 c.in_ok-shared.shared c.in_ok-insert.ensures.found
    ∙ (λ i. insert_entry (slice_cmp nat_cmp) (c.self.view_is i) (c.in_ok-copy.ensures i) (c.in_ok-shared.ensures i))

pub returns-clause-found : goal.returns-clause-found
returns-clause-found c = λ other.
    found_with c.self.inside.map c.insert.new.self c.in_ok-copy.field-0 c.in_ok-shared.shared c.in_ok-insert.ensures.found other
    ∙ (λ i. cond (is_eq (slice_cmp nat_cmp other (c.in_ok-copy.ensures i))) (Some (c.in_ok-shared.ensures i)) (at_text other (c.self.view_is i)))
