use Rattle.std.proofs.Common.{◌∙◌, ap, sym, cond, None}
use Rattle.std.specs.BTreeMap.{is_at}
use Rattle.std.specs.Cmp.Lexicographic.{slice_cmp}
use Rattle.std.specs.Map.{remove_entry}
use Rattle.std.specs.Ordering.{is_eq, nat_cmp}
use Rattle.nm_tables.specs.FileTable.{at_text}
use Rattle.nm_tables.specs.Measures.{all_tags_len}
use Rattle.nm_tables.proofs.SortedLemmas.{found_without, sorted_without}
use Rattle.nm_tables.proofs.message_tags.MessageTags.remove.Goals as goal

pub invariant_of-self-2 : goal.invariant_of-self-2
invariant_of-self-2 c =
    c.bytes_without-bytes.ensures
    ∙ ap all_tags_len
    (sym (sorted_without c.self.inside.map c.remove.new.self c.args.id.now c.in_ok-remove.ensures.found ∙ ap (remove_entry (is_at (slice_cmp nat_cmp c.args.id.now))) c.self.view_is))

pub returns-clause-tags : goal.returns-clause-tags
returns-clause-tags c = sorted_without c.self.inside.map c.remove.new.self c.args.id.now c.in_ok-remove.ensures.found ∙ ap (remove_entry (is_at (slice_cmp nat_cmp c.args.id.now))) c.self.view_is

pub returns-clause-found : goal.returns-clause-found
returns-clause-found c = λ other.
    found_without c.self.inside.map c.remove.new.self c.args.id.now c.in_ok-remove.ensures.found other ∙ ap (λ tags. cond (is_eq (slice_cmp nat_cmp other c.args.id.now)) None (at_text other tags)) c.self.view_is
