use Rattle.std.proofs.Common.{◌≡◌, ◌++◌, [], ◌∷◌, length}
use Rattle.std.specs.List.{flat_map}
use Rattle.nm_model_answer.specs.Dump.{dump_text, message_line, tagged}
use Rattle.nm_dump.specs.ReadBack.{AreMessages}
use Rattle.nm_dump.proofs.dump_writer.dump_text.Given as goal

-- the text so far, and the lines of the messages that are left, are all; and all are messages where those that are left are
abbrev pub invariant-ids : goal.invariant-ids
invariant-ids l = record {
  text : l.text ++ flat_map (λ message. message_line l.form message.0 message.1 ++ 10 ∷ []) (tagged l.snapshot l.rest) ≡ dump_text l.form (tagged l.snapshot l.ids);
  messages : AreMessages (tagged l.snapshot l.rest) → AreMessages (tagged l.snapshot l.ids);
}

abbrev pub decreases-ids : goal.decreases-ids
decreases-ids l = length l.rest
