use Rattle.std.proofs.Common.{◌≡◌, ◌∷◌, ◌≤◌, drop}
use Rattle.nm_query.specs.Nesting.{IsCounted, is_too_deep, passes_depth}
use Rattle.nm_query.proofs.nesting.is_too_deep.Given as goal

abbrev pub invariant-tokens : goal.invariant-tokens
invariant-tokens l = record {
  counted : IsCounted l.nesting;
  few : l.nesting.depth ≤ 64;
  rest : passes_depth (l.nesting.inner ∷ l.nesting.outer) (drop l.placed-index l.tokens) ≡ is_too_deep l.tokens;
}
