-- The bytes of changes, one after the other, are those of their commit. For the proofs of `encode_beside`, `encode_rest`
-- and `framed`.
use Rattle.std.proofs.Common.{◌≡◌, ℕ, ◌-◌, List, [], ◌∷◌, ◌++◌, length, map, take, drop, refl, sym, ap, ap₂, ◌∙◌, take-append-drop}
use Rattle.std.specs.Int.{to_be_bytes, w32}
use Rattle.std.specs.List.{AllZip, flat_map}
use Rattle.std.proofs.Math.Seq.{take-length}
use Rattle.std.proofs.lemmas.List.{length-drop, map-append}
use Rattle.nm_commit.specs.declared.change.Change.{Change}
use Rattle.nm_commit.specs.declared.change.Commit.{Commit}
use Rattle.nm_record.specs.CommitGrammar.{commit_grammar}
use Rattle.nm_record.specs.Commits.{change_bytes}

pub encoded : (changes : List Change) (pieces : List (List ℕ)) → AllZip (λ change bytes. bytes ≡ change_bytes change) changes pieces → pieces ≡ map change_bytes changes
encoded [] [] all = refl
encoded [] (piece ∷ pieces) all = absurd all
encoded (change ∷ changes) [] all = absurd all
encoded (change ∷ changes) (piece ∷ pieces) (first, rest) = ap₂ (λ (a : List ℕ) (b : List (List ℕ)). a ∷ b) first (encoded changes pieces rest)

joined : (changes : List Change) → flat_map (λ piece. piece) (map change_bytes changes) ≡ flat_map change_bytes changes
joined [] = refl
joined (change ∷ changes) = ap (λ (l : List ℕ). change_bytes change ++ l) (joined changes)

pub commit_is : (commit : Commit) (pieces slice : List (List ℕ)) (count : List ℕ) (len : ℕ) → pieces ≡ map change_bytes commit.changes → slice ≡ pieces → count ≡ to_be_bytes w32 len
    → len ≡ length commit.changes → count ++ flat_map (λ piece. piece) slice ≡ commit_grammar.bytes commit
commit_is commit pieces slice count len all slice_is count_is len_is =
    ap₂ (λ (a b : List ℕ). a ++ b) (count_is ∙ ap (to_be_bytes w32) len_is) (ap (flat_map (λ piece. piece)) (slice_is ∙ all) ∙ joined commit.changes)

-- all that comes after the first n
behind : {A : Type 0} (n : ℕ) (xs : List A) → take (length xs - n) (drop n xs) ≡ drop n xs
behind n xs = ap (λ (k : ℕ). take k (drop n xs)) (sym (length-drop n xs)) ∙ take-length (drop n xs)

pub all_are : (changes : List Change) (pieces all : List (List ℕ)) (len : ℕ) → pieces ≡ map change_bytes (take (length pieces) changes) → len ≡ length pieces
    → all ≡ pieces ++ map change_bytes (take (length changes - len) (drop len changes)) → all ≡ map change_bytes changes
all_are changes pieces all len is len_is all_is =
    all_is
    ∙ (ap (λ (l : List Change). pieces ++ map change_bytes l) (behind len changes)
    ∙ (ap (λ (n : ℕ). pieces ++ map change_bytes (drop n changes)) len_is
    ∙ (ap (λ (l : List (List ℕ)). l ++ map change_bytes (drop (length pieces) changes)) is
    ∙ (sym (map-append change_bytes (take (length pieces) changes) (drop (length pieces) changes)) ∙ ap (map change_bytes) (take-append-drop (length pieces) changes)))))
