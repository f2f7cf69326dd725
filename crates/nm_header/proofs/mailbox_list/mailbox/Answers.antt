-- The name ends at a `<`, or there is none.
use Rattle.std.proofs.Common.{refl, sym, ◌∙◌, ap, drop}
use Rattle.nm_header.specs.Mailboxes.{is_angle, name_ends}
use Rattle.nm_header.proofs.MailboxLemmas.{angle_inside, angle_made, plain_made, stop_after, stops_same}
use Rattle.nm_header.proofs.mailbox_list.mailbox.Goals as goal

pub returns-then-not-is_angle : goal.returns-then-not-is_angle
returns-then-not-is_angle c =
    let stops = stops_same name_ends c.as_bytes.result.now c.args.text.now c.stop_len-name_size.result c.as_bytes.ensures.value c.stop_len-name_size.ensures in
    plain_made c.args.text.now c.new-name.result c.in_ok-address.address c.range.result.now c.args.size c.stop_len-name_size.result c.requires stops (ap (λ t. is_angle (drop c.stop_len-name_size.result t)) (sym c.as_bytes-2.ensures.value) ∙ (sym c.is_angle.ensures ∙ c.if-not-is_angle.true)) c.new-name.ensures c.range.ensures.value c.in_ok-address.ensures

pub range_from-requires : goal.range_from-requires
range_from-requires c =
    let stops = stops_same name_ends c.as_bytes.result.now c.args.text.now c.stop_len-name_size.result c.as_bytes.ensures.value c.stop_len-name_size.ensures in
    λ _. stop_after name_ends c.args.text.now c.stop_len-name_size.result refl c.utf8.text stops (angle_inside c.args.text.now c.stop_len-name_size.result (ap (λ t. is_angle (drop c.stop_len-name_size.result t)) (sym c.as_bytes-2.ensures.value) ∙ (sym c.is_angle.ensures ∙ c.if-not-is_angle.false)))

pub returns : goal.returns
returns c =
    let stops = stops_same name_ends c.as_bytes.result.now c.args.text.now c.stop_len-name_size.result c.as_bytes.ensures.value c.stop_len-name_size.ensures in
    angle_made c.args.text.now c.in_ok-name.name c.in_ok-address-2.address c.range-2.result.now c.range_from.result.now c.enclosed.result.now c.stop_len-name_size.result stops (ap (λ t. is_angle (drop c.stop_len-name_size.result t)) (sym c.as_bytes-2.ensures.value) ∙ (sym c.is_angle.ensures ∙ c.if-not-is_angle.false)) c.range-2.ensures.value c.in_ok-name.ensures c.range_from.ensures.value c.enclosed.ensures c.in_ok-address-2.ensures
