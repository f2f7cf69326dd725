use Rattle.std.proofs.Common.{◌≡◌, ◌++◌, length}
use Rattle.std.specs.Prelude.{IsUtf8}
use Rattle.nm_mime.specs.Params.{params_in, params_of}
use Rattle.nm_mime.proofs.param_list.params.Given as goal

-- so far, and what is left, is all
abbrev pub invariant-params : goal.invariant-params
invariant-params l = (l.found ++ params_in l.left ≡ params_of l.text) × IsUtf8 l.left

abbrev pub decreases-params : goal.decreases-params
decreases-params l = length l.left
