use Rattle.std.proofs.Common.{◌≡◌, ◌≤◌, length, take}
use Rattle.std.specs.List.{flat_map}
use Rattle.nm_model_answer.specs.NewText.{mail_given}
use Rattle.nm_sync.proofs.new_report.count_mails.Given as goal

abbrev pub invariant-given : goal.invariant-given
invariant-given l = record {
  count : l.count ≡ length (flat_map mail_given (take l.answer-index l.given));
  few : l.count ≤ l.answer-index;
}
