use Rattle.std.proofs.Common.{◌/◌, ◌%◌, refl, arith}
use Rattle.nm_drill.proofs.laws.a_mail_is_dated_by_its_number.Goals as goal

pub returns : goal.returns
returns c k day = record {
  hour = k / 3600;
  minute = k / 60 % 60;
  second = k % 60;
  bounds = (omega arith, omega arith, omega arith);
  sum = omega arith;
  told = refl;
}
