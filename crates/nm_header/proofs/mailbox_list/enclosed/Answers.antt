use Rattle.std.proofs.Common.{sym}
use Rattle.std.specs.List.{position_or_len}
use Rattle.std.proofs.lemmas.List.{take_all}
use Rattle.nm_text.specs.Cuts.{is_byte}
use Rattle.nm_header.proofs.mailbox_list.enclosed.Goals as goal

pub returns-in-None : goal.returns-in-None
returns-in-None c = sym (take_all (position_or_len (is_byte 62) c.args.text.now) c.args.text.now c.in-None.ensures.place)
