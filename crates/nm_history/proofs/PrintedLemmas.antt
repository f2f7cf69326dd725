-- What is printed of a line more, and the status with it.
-- For the proofs of `a_line_more_is_printed_last` and `a_line_more_keeps_the_first_fault`.
use Rattle.std.proofs.Common.{◌≡◌, ◌||◌, ℕ, Bool, true, false, List, [], ◌∷◌, ◌++◌, Option, None, Some, refl, ap, ◌∙◌, append-nil}
use Rattle.std.proofs.lemmas.Grind.{flat_map-append}
use Rattle.std.specs.List.{flat_map}
use Rattle.nm_log.specs.Replies.{printed_line, reply_of}
use Rattle.nm_log.specs.declared.log.LineLog.{LineLog}
use Rattle.nm_history.proofs.LawLemmas.{first-append}
use Rattle.nm_history.specs.Status.{any_is_out_of_memory, fault_of, fault_or, first_fault, is_out_of_memory}

-- the texts of one line more
text-more : (text : LineLog → List ℕ) (logs : List LineLog) (log : LineLog) → flat_map text (logs ++ log ∷ []) ≡ flat_map text logs ++ text log
text-more text logs log = flat_map-append text logs (log ∷ []) ∙ ap (λ (l : List ℕ). flat_map text logs ++ l) (append-nil (text log))

pub printed-more : (logs : List LineLog) (log : LineLog) → flat_map printed_line (logs ++ log ∷ []) ≡ flat_map printed_line logs ++ printed_line log
printed-more = text-more printed_line

pub replies-more : (logs : List LineLog) (log : LineLog) → flat_map reply_of (logs ++ log ∷ []) ≡ flat_map reply_of logs ++ reply_of log
replies-more = text-more reply_of

-- a fault, and then no other
fault-last : (fault : Option ℕ) → fault_or fault None ≡ fault
fault-last None = refl
fault-last (Some status) = refl

pub fault-more : (logs : List LineLog) (log : LineLog) → first_fault (logs ++ log ∷ []) ≡ fault_or (first_fault logs) (fault_of log.outcome)
fault-more logs log = first-append logs (log ∷ []) ∙ ap (fault_or (first_fault logs)) (fault-last (fault_of log.outcome))

or-last : (b : Bool) → (b || false) ≡ b
or-last true = refl
or-last false = refl

or-more : (a b c : Bool) → (a || (b || c)) ≡ ((a || b) || c)
or-more true b c = refl
or-more false b c = refl

pub memory-more : (logs : List LineLog) (log : LineLog) → any_is_out_of_memory (logs ++ log ∷ []) ≡ (any_is_out_of_memory logs || is_out_of_memory log.outcome)
memory-more [] log = or-last (is_out_of_memory log.outcome)
memory-more (first ∷ logs) log = ap (λ b. is_out_of_memory first.outcome || b) (memory-more logs log) ∙ or-more (is_out_of_memory first.outcome) (any_is_out_of_memory logs) (is_out_of_memory log.outcome)
