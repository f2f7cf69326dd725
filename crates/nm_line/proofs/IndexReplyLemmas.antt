-- What is read off an index. For the proof of `read_off`.
use Rattle.std.proofs.Common.{◌≡◌, ℕ, ℤ, Bool, List, [], Result, Ok, Err, IfOk, if◌then◌else◌, sym, ap, ◌∙◌}
use Rattle.nm_model_answer.specs.Count.{batch_answer, count_found, counts_found, words_answer}
use Rattle.nm_model_answer.specs.Dump.{dump_found}
use Rattle.nm_model_answer.specs.Found.{search_found}
use Rattle.nm_model_answer.specs.declared.request.Request.TheVariants as requests
use Rattle.nm_base.specs.declared.asks.CountAsk.{CountAsk}
use Rattle.nm_base.specs.declared.asks.DumpAsk.{DumpAsk}
use Rattle.nm_base.specs.declared.asks.SearchAsk.{SearchAsk}
use Rattle.nm_base.specs.declared.memory.NoMemory.{NoMemory}
use Rattle.nm_model_index.specs.declared.base.Base.{Base}
use Rattle.nm_line.specs.Line.{IsReadOff, replied_with}
use Rattle.nm_line.specs.declared.line_answer.LineAnswer.{LineAnswer}
use Rattle.nm_prepare.specs.declared.prepared.Reading.TheVariants as readings
use Rattle.nm_query.specs.declared.query.Query.{Query}
use Rattle.nm_query.specs.declared.query_error.QueryError.{QueryError}
use Rattle.nm_tags.specs.declared.line_error.LineKind.{LineKind}

pub count-read : (moment : ℤ) (index : Base) (ask : CountAsk) (query : Query) (text : List ℕ) (result : Result LineAnswer NoMemory) → text ≡ count_found ask index moment query
    → IfOk result (λ done. done ≡ replied_with (requests.Count ask) text) → IfOk result (IsReadOff moment index (readings.Count ask query))
count-read moment index ask query text (Err error) found said = tt
count-read moment index ask query text (Ok done) found said = λ input made.
    said ∙ ap (replied_with (requests.Count ask)) (found ∙ sym (
    ap (λ (b : Bool). if b then batch_answer ask input index moment else words_answer ask index moment) made.0
    ∙ ap (λ (r : Result Query QueryError). elim r [ Ok query ↦ count_found ask index moment query | Err refusal ↦ [] ]) made.1))

pub counts-read : (moment : ℤ) (index : Base) (ask : CountAsk) (texts : List Query) (text : List ℕ) (result : Result LineAnswer NoMemory) → text ≡ counts_found ask index moment texts
    → IfOk result (λ done. done ≡ replied_with (requests.Count ask) text) → IfOk result (IsReadOff moment index (readings.Counts ask texts))
counts-read moment index ask texts text (Err error) found said = tt
counts-read moment index ask texts text (Ok done) found said = λ input made.
    said ∙ ap (replied_with (requests.Count ask)) (found ∙ sym (
    ap (λ (b : Bool). if b then batch_answer ask input index moment else words_answer ask index moment) made.0
    ∙ ap (λ (r : Result (List Query) (ℕ × LineKind)). elim r [ Ok queries ↦ counts_found ask index moment queries | Err fault ↦ [] ]) made.1))

pub search-read : (moment : ℤ) (index : Base) (ask : SearchAsk) (query : Query) (text : List ℕ) (result : Result LineAnswer NoMemory) → text ≡ search_found ask index moment query
    → IfOk result (λ done. done ≡ replied_with (requests.Search ask) text) → IfOk result (IsReadOff moment index (readings.Search ask query))
search-read moment index ask query text (Err error) found said = tt
search-read moment index ask query text (Ok done) found said = λ input made.
    said ∙ ap (replied_with (requests.Search ask)) (found ∙ sym (ap (λ (r : Result Query QueryError). elim r [ Ok query ↦ search_found ask index moment query | Err refusal ↦ [] ]) made))

pub dump-read : (moment : ℤ) (index : Base) (ask : DumpAsk) (query : Query) (text : List ℕ) (result : Result LineAnswer NoMemory) → text ≡ dump_found ask index moment query
    → IfOk result (λ done. done ≡ replied_with (requests.Dump ask) text) → IfOk result (IsReadOff moment index (readings.Dump ask query))
dump-read moment index ask query text (Err error) found said = tt
dump-read moment index ask query text (Ok done) found said = λ input made.
    said ∙ ap (replied_with (requests.Dump ask)) (found ∙ sym (ap (λ (r : Result Query QueryError). elim r [ Ok query ↦ dump_found ask index moment query | Err refusal ↦ [] ]) made))
