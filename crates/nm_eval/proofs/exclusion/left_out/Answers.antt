use Rattle.std.proofs.Common.{rules, ◌≡◌, ◌∷◌, [], ◌||◌, sym, ap, ◌∙◌}
use Rattle.std.specs.List.{list_any}
use Rattle.std.proofs.Math.Bool.{or-false}
use Rattle.std.proofs.lemmas.List.Sorted.{list_any-IsPermutation}
use Rattle.nm_base.specs.Order.{has_text, same_text}
use Rattle.nm_eval.specs.Exclusion.{is_among}
use Rattle.nm_eval.proofs.LeftOutLemmas.{is_out, none_out, one_out, out_by_tags}
use Rattle.nm_eval.proofs.exclusion.left_out.Goals as goal

-- the walk has what the tags have, in another order
pub messages-init : goal.messages-init
messages-init c id =
    ap (λ ids. has_text ids id || list_any (is_out c.args.exclusion id) c.tagged-rest.result) c.new-ids.ensures
    ∙ sym (list_any-IsPermutation (is_out c.args.exclusion id) c.args.snapshot.now.tags c.tagged-rest.result c.tagged-rest.ensures)

pub messages-preserved-in_ok-insert : goal.messages-preserved-in_ok-insert
messages-preserved-in_ok-insert c id =
    let next : c.messages.rest ≡ (c.in-Some.id.now, c.in-Some.tags.now) ∷ c.next.new.self = search rules in
    let has : has_text c.insert.new.self id ≡ (same_text id c.in-Some.id.now || has_text c.messages.ids id) = search rules in
    ap (λ b. b || list_any (is_out c.args.exclusion id) c.next.new.self) has
    ∙ one_out (same_text id c.in-Some.id.now) (is_among c.args.exclusion c.in-Some.tags.now) (has_text c.messages.ids id) (list_any (is_out c.args.exclusion id) c.next.new.self)
    (list_any (is_out c.args.exclusion id) c.args.snapshot.now.tags)
    (ap (λ tagged. has_text c.messages.ids id || list_any (is_out c.args.exclusion id) tagged) (sym next) ∙ c.messages.invariant id)
    (sym c.is_among.ensures ∙ c.if-is_among.true)

pub messages-preserved : goal.messages-preserved
messages-preserved c id =
    let next : c.messages.rest ≡ (c.in-Some.id.now, c.in-Some.tags.now) ∷ c.next.new.self = search rules in
    none_out (same_text id c.in-Some.id.now) (is_among c.args.exclusion c.in-Some.tags.now) (has_text c.messages.ids id) (list_any (is_out c.args.exclusion id) c.next.new.self)
    (list_any (is_out c.args.exclusion id) c.args.snapshot.now.tags)
    (ap (λ tagged. has_text c.messages.ids id || list_any (is_out c.args.exclusion id) tagged) (sym next) ∙ c.messages.invariant id)
    (sym c.is_among.ensures ∙ c.if-is_among.false)

pub returns : goal.returns
returns c id =
    let none : c.messages.rest ≡ [] = search rules in
    sym (or-false (has_text c.messages.ids id))
    ∙ ap (λ tagged. has_text c.messages.ids id || list_any (is_out c.args.exclusion id) tagged) (sym none) ∙ c.messages.invariant id
    ∙ out_by_tags c.args.exclusion id c.args.snapshot.now.tags c.a_snapshot_is_a_valid_index.ensures.in_order
