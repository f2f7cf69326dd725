use Rattle.std.proofs.Common.{◌≡◌, take}
use Rattle.std.specs.Prelude.{string_bytes}
use Rattle.nm_command.specs.Requests.{query_of}
use Rattle.nm_command.proofs.command_parser.query.Given as goal

-- the words so far are joined
abbrev pub invariant-words : goal.invariant-words
invariant-words l = string_bytes l.query ≡ query_of (take l.at l.words)
