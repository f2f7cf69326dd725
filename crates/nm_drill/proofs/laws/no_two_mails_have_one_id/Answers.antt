use Rattle.std.proofs.Common.{◌++◌, codes}
use Rattle.std.proofs.lemmas.Fmt.{decimal_injective}
use Rattle.std.proofs.lemmas.List.{append_cancel_left, append_cancel_right}
use Rattle.std.specs.Fmt.{decimal}
use Rattle.nm_drill.proofs.laws.no_two_mails_have_one_id.Goals as goal

pub returns : goal.returns
returns c j k small fits same =
    decimal_injective j k small fits
    (append_cancel_right (decimal j) (decimal k) (codes "@drill.example")
    (append_cancel_left (codes "d") (decimal j ++ codes "@drill.example") (decimal k ++ codes "@drill.example") same))
