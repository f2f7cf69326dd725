-- The printed log, line by line. For the proofs of `put_lines` and `put_replies`.
use Rattle.std.proofs.Common.{◌≡◌, ℕ, ◌<◌, List, ◌∷◌, ◌++◌, Ok, Err, IsErr, length, take, drop, get_or, suc, sym, ap, ◌∙◌, subst, take-append-drop}
use Rattle.std.proofs.Math.Seq.{drop-cons}
use Rattle.std.proofs.lemmas.Grind.{flat_map-append}
use Rattle.std.specs.List.{flat_map}
use Rattle.nm_base.specs.declared.memory.Failed.{Failed}
use Rattle.nm_io.specs.Observed.{ObservedSink, Puts}
use Rattle.nm_log.specs.declared.log.LineLog.{LineLog}
use Rattle.nm_log.proofs.Puts.{Answer, Puts-first, Puts-then}

-- all that is printed: the lines before one, that line, and those after it
split_line : (text_of : LineLog → List ℕ) (lines : List LineLog) (i : ℕ) (log : LineLog) → i < length lines → log ≡ get_or lines i log
    → flat_map text_of lines ≡ flat_map text_of (take i lines) ++ (text_of log ++ flat_map text_of (drop (suc i) lines))
split_line text_of lines i log within is =
    ap (flat_map text_of) (sym (take-append-drop i lines)) ∙ (flat_map-append text_of (take i lines) (drop i lines)
    ∙ ap (λ (l : List LineLog). flat_map text_of (take i lines) ++ flat_map text_of l) (drop-cons lines i log within ∙ ap (λ (x : LineLog). x ∷ drop (suc i) lines) (sym is)))

-- where a line isn't printed whole, the log isn't
pub line_fails : (text_of : LineLog → List ℕ) (a b c : ObservedSink) (r : Answer) (e : Failed) (x : Unit {0}) (lines : List LineLog) (i : ℕ) (log : LineLog)
    → i < length lines → log ≡ get_or lines i log → IsErr r → Puts a b (Ok x) (flat_map text_of (take i lines)) → Puts {T = Unit {0}} b c (Err e) (text_of log) → Puts a c r (flat_map text_of lines)
line_fails text_of a b c r e x lines i log within is failed so_far put =
    let rest : List ℕ = flat_map text_of (drop (suc i) lines) in
    subst (Puts a c r) (sym (split_line text_of lines i log within is))
    (Puts-then a b c r x (flat_map text_of (take i lines)) (text_of log ++ rest) so_far (Puts-first b c r e (text_of log) rest failed put))
