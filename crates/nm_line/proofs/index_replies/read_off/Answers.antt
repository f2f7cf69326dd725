use Rattle.std.proofs.Common.{rules, ◌≡◌, ℤ, IfOk, sym, ap, ◌∙◌, subst, w64, to_z, of_z}
use Rattle.nm_model_answer.specs.Count.{count_found, counts_found}
use Rattle.nm_model_answer.specs.Dump.{dump_found}
use Rattle.nm_model_answer.specs.Found.{search_found}
use Rattle.nm_line.specs.Line.{IsReadOff}
use Rattle.nm_prepare.specs.declared.prepared.Reading.{Reading}
use Rattle.nm_line.proofs.IndexReplyLemmas.{count-read, counts-read, dump-read, search-read}
use Rattle.nm_line.proofs.index_replies.read_off.Goals as goal

pub returns-in_ok-text-in-Count : goal.returns-in_ok-text-in-Count
returns-in_ok-text-in-Count c =
    let moment = c.args.setting.now.moment in
    let index = c.args.snapshot.now in
    let second : to_z w64 (of_z w64 moment) ≡ moment = search rules in
    let found : c.in_ok-text-in-Count.text ≡ count_found c.in-Count.ask index moment c.in-Count.query = subst (λ (m : ℤ). c.in_ok-text-in-Count.text ≡ count_found c.in-Count.ask index m c.in-Count.query) second c.in_ok-text-in-Count.ensures in
    subst (λ (r : Reading). IfOk c.replied.result (IsReadOff moment index r)) (sym c.in-Count.is)
    (count-read moment index c.in-Count.ask c.in-Count.query c.in_ok-text-in-Count.text c.replied.result found c.replied.ensures)

pub returns-in_ok-text-in-Counts : goal.returns-in_ok-text-in-Counts
returns-in_ok-text-in-Counts c =
    let moment = c.args.setting.now.moment in
    let index = c.args.snapshot.now in
    let second : to_z w64 (of_z w64 moment) ≡ moment = search rules in
    let found : c.in_ok-text-in-Counts.text ≡ counts_found c.in-Counts.ask index moment c.as_slice.result.now = subst (λ (m : ℤ). c.in_ok-text-in-Counts.text ≡ counts_found c.in-Counts.ask index m c.as_slice.result.now) second c.in_ok-text-in-Counts.ensures in
    subst (λ (r : Reading). IfOk c.replied-in-Counts.result (IsReadOff moment index r)) (sym c.in-Counts.is)
    (counts-read moment index c.in-Counts.ask c.in-Counts.queries c.in_ok-text-in-Counts.text c.replied-in-Counts.result (found ∙ ap (counts_found c.in-Counts.ask index moment) c.as_slice.ensures) c.replied-in-Counts.ensures)

pub returns-in_ok-text-in-Search : goal.returns-in_ok-text-in-Search
returns-in_ok-text-in-Search c =
    let moment = c.args.setting.now.moment in
    let index = c.args.snapshot.now in
    let second : to_z w64 (of_z w64 moment) ≡ moment = search rules in
    let found : c.in_ok-text-in-Search.text ≡ search_found c.in-Search.ask index moment c.in-Search.query = subst (λ (m : ℤ). c.in_ok-text-in-Search.text ≡ search_found c.in-Search.ask index m c.in-Search.query) second c.in_ok-text-in-Search.ensures.text in
    subst (λ (r : Reading). IfOk c.replied-in-Search.result (IsReadOff moment index r)) (sym c.in-Search.is)
    (search-read moment index c.in-Search.ask c.in-Search.query c.in_ok-text-in-Search.text c.replied-in-Search.result found c.replied-in-Search.ensures)

pub returns-in_ok-text-in-Dump : goal.returns-in_ok-text-in-Dump
returns-in_ok-text-in-Dump c =
    let moment = c.args.setting.now.moment in
    let index = c.args.snapshot.now in
    let second : to_z w64 (of_z w64 moment) ≡ moment = search rules in
    let found : c.in_ok-text-in-Dump.text ≡ dump_found c.in-Dump.ask index moment c.in-Dump.query = subst (λ (m : ℤ). c.in_ok-text-in-Dump.text ≡ dump_found c.in-Dump.ask index m c.in-Dump.query) second c.in_ok-text-in-Dump.ensures in
    subst (λ (r : Reading). IfOk c.replied-in-Dump.result (IsReadOff moment index r)) (sym c.in-Dump.is)
    (dump-read moment index c.in-Dump.ask c.in-Dump.query c.in_ok-text-in-Dump.text c.replied-in-Dump.result found c.replied-in-Dump.ensures)
