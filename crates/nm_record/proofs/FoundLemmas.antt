-- What was answered for all of the bytes was written so. For the proof of `read_whole`.
use Rattle.std.proofs.Common.{◌≡◌, ℕ, true, List, Result, Ok, Err}
use Rattle.std.specs.Prelude.{IfOk}
use Rattle.nm_commit.specs.declared.change.Commit.{Commit}
use Rattle.nm_codec.specs.declared.read_error.ReadError.{ReadError}
use Rattle.nm_codec.specs.AllLaws.{all_only}
use Rattle.nm_codec.specs.ReadSteps.{AnswersUnlessNoMemory, IsBytes, all_of}
use Rattle.nm_record.specs.CommitGrammar.{commit_grammar}

pub is_found : (bytes : List ℕ) (result : Result Commit ReadError) → IsBytes bytes → AnswersUnlessNoMemory bytes result (all_of commit_grammar.read bytes)
    → IfOk result (λ commit. (bytes ≡ commit_grammar.bytes commit) × (commit_grammar.is_value commit ≡ true))
is_found bytes (Ok commit) fits answer = all_only commit_grammar bytes commit fits answer
is_found bytes (Err e) fits answer = tt
