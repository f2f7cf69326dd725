-- The part ends at the end, at a `:`, or at a separator.
use Rattle.std.proofs.Common.{refl, sym, ◌∙◌, ap, arith, get_or}
use Rattle.nm_header.specs.Mailboxes.{part_ends}
use Rattle.nm_header.proofs.MailboxLemmas.{part_colon, part_end, part_separator, stop_after, stops_same}
use Rattle.nm_header.proofs.mailbox_list.add_part.Goals as goal

pub returns-then-size-text-clause-found : goal.returns-then-size-text-clause-found
returns-then-size-text-clause-found c =
    part_end c.args.text.now c.stop_len-size.result c.args.found.now c.add_mailbox.new.found (stops_same part_ends c.as_bytes.result.now c.args.text.now c.stop_len-size.result c.as_bytes.ensures.value c.stop_len-size.ensures) (omega arith) c.in_ok-add_mailbox.ensures

pub returns-then-as_bytes-size-eq58-clause-found :
    goal.returns-then-as_bytes-size-eq58-clause-found
returns-then-as_bytes-size-eq58-clause-found c =
    let stops = stops_same part_ends c.as_bytes.result.now c.args.text.now c.stop_len-size.result c.as_bytes.ensures.value c.stop_len-size.ensures in
    let within = stops.within in
    part_colon c.args.text.now c.stop_len-size.result c.args.found.now stops (omega arith) (ap (λ t. get_or t c.stop_len-size.result 0) (sym c.as_bytes-2.ensures.value) ∙ c.if-as_bytes-size-eq58.true)

pub returns-then-as_bytes-size-eq58-clause-boundary :
    goal.returns-then-as_bytes-size-eq58-clause-boundary
returns-then-as_bytes-size-eq58-clause-boundary c =
    let stops = stops_same part_ends c.as_bytes.result.now c.args.text.now c.stop_len-size.result c.as_bytes.ensures.value c.stop_len-size.ensures in
    let within = stops.within in
    stop_after part_ends c.args.text.now c.stop_len-size.result refl c.utf8.text stops (omega arith)

pub returns-clause-found : goal.returns-clause-found
returns-clause-found c =
    let stops = stops_same part_ends c.as_bytes.result.now c.args.text.now c.stop_len-size.result c.as_bytes.ensures.value c.stop_len-size.ensures in
    let within = stops.within in
    part_separator c.args.text.now c.stop_len-size.result c.args.found.now c.add_mailbox-2.new.found stops (omega arith) (λ e. c.if-as_bytes-size-eq58.false (ap (λ t. get_or t c.stop_len-size.result 0) c.as_bytes-2.ensures.value ∙ e)) c.in_ok-add_mailbox-2.ensures

pub returns-clause-boundary : goal.returns-clause-boundary
returns-clause-boundary c =
    let stops = stops_same part_ends c.as_bytes.result.now c.args.text.now c.stop_len-size.result c.as_bytes.ensures.value c.stop_len-size.ensures in
    let within = stops.within in
    stop_after part_ends c.args.text.now c.stop_len-size.result refl c.utf8.text stops (omega arith)
