use Rattle.std.proofs.Common.{◌≡◌, ◌++◌, take, string_bytes}
use Rattle.nm_render.specs.Joined.{after_first}
use Rattle.nm_render.proofs.shown.push_more.Given as goal

abbrev pub invariant-texts : goal.invariant-texts
invariant-texts l = string_bytes l.whole ≡ string_bytes l.initial.whole ++ after_first l.between (take l.text-index l.texts)
