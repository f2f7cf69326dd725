use Rattle.std.proofs.Common.{◌≡◌, drop}
use Rattle.std.specs.Prelude.{find}
use Rattle.nm_mime.specs.Params.{is_param}
use Rattle.nm_mime.proofs.param_list.first_named.Given as goal

-- none of the parameters so far has the name
abbrev pub invariant-params : goal.invariant-params
invariant-params l = find (is_param l.name) (drop l.param-index l.params) ≡ find (is_param l.name) l.params
