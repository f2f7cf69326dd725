-- The lines of a dump, one by one: what was asked so far, and what the rest asks for.
-- For the proofs of `is_first` and `restoring`.
use Rattle.std.proofs.Common.{◌≡◌, ℕ, ◌+◌, ◌<◌, Bool, true, false, not, ◌||◌, List, [], ◌∷◌, ◌++◌, Option, Some, map, drop, length, get_or, refl, sym, ap, ◌∙◌, append_assoc, cond}
use Rattle.std.proofs.lemmas.List.{drop_more}
use Rattle.std.proofs.lemmas.Map.Text.{is_eq-slice_cmp}
use Rattle.std.specs.BTreeMap.{is_at}
use Rattle.std.specs.Cmp.Lexicographic.{slice_cmp}
use Rattle.std.specs.Map.{lookup}
use Rattle.std.specs.Option.{is_some}
use Rattle.std.specs.Ordering.{is_eq, nat_cmp}
use Rattle.std.specs.List.{flat_map}
use Rattle.nm_model_answer.specs.Restore.{restoring_of, restorings_by, stranger_of, strangers, with_firsts}
use Rattle.nm_model_answer.specs.declared.tag_change.TagChange.{TagChange}
use Rattle.nm_base.specs.Order.{has_text, same_text}
use Rattle.nm_dump.specs.Named.{Names}
use Rattle.nm_model_index.specs.declared.base.Base.{Base}
use Rattle.nm_tags.specs.declared.wanted.Wanted.{Wanted}

-- what the lines before this place ask for, and what the others ask for after them, are all
pub record InRestoring (accumulate : Bool) (index : Base) (wanted : List Wanted) (at : ℕ) (named : List (List ℕ × ℕ)) (lines : List TagChange) (told : List (List ℕ)) : Type 0 where
  pub before : List (List ℕ)
  pub names : Names named before
  pub lines_are : lines ++ map (restoring_of accumulate) (with_firsts before (drop at wanted)) ≡ restorings_by accumulate wanted
  pub strangers_are : told ++ flat_map (stranger_of index) (with_firsts before (drop at wanted)) ≡ strangers index wanted

-- one line more
pub line_more : (accumulate : Bool) (index : Base) (wanted : List Wanted) (at : ℕ) (line : Wanted) (named more : List (List ℕ × ℕ)) (lines all : List TagChange) (told others : List (List ℕ)) (first : Bool)
    → at < length wanted → line ≡ get_or wanted at line → InRestoring accumulate index wanted at named lines told
    → ((before : List (List ℕ)) → Names named before → (first ≡ not (has_text before line.id)) × Names more (line.id ∷ before))
    → all ≡ lines ++ restoring_of accumulate (first, line) ∷ [] → others ≡ told ++ stranger_of index (first, line)
    → InRestoring accumulate index wanted (at + 1) more all others
line_more accumulate index wanted at line named more lines all told others first within is h names asked strange =
    let rest : List (Bool × Wanted) = with_firsts (line.id ∷ h.before) (drop (at + 1) wanted) in
    let is_first : first ≡ not (has_text h.before line.id) = (names h.before h.names).0 in
    let here : with_firsts h.before (drop at wanted) ≡ (first, line) ∷ rest =
    ap (with_firsts h.before) (drop_more wanted at line within ∙ ap (λ (x : Wanted). x ∷ drop (at + 1) wanted) (sym is)) ∙ ap (λ (b : Bool). (b, line) ∷ rest) (sym is_first) in
    record {
      before = line.id ∷ h.before;
      names = (names h.before h.names).1;
      lines_are = ap (λ (l : List TagChange). l ++ map (restoring_of accumulate) rest) asked
          ∙ (append_assoc lines (restoring_of accumulate (first, line) ∷ []) (map (restoring_of accumulate) rest)
          ∙ (ap (λ (l : List (Bool × Wanted)). lines ++ map (restoring_of accumulate) l) (sym here) ∙ h.lines_are));
      strangers_are = ap (λ (l : List (List ℕ)). l ++ flat_map (stranger_of index) rest) strange
          ∙ (append_assoc told (stranger_of index (first, line)) (flat_map (stranger_of index) rest)
          ∙ (ap (λ (l : List (Bool × Wanted)). told ++ flat_map (stranger_of index) l) (sym here) ∙ h.strangers_are));
    }

some-by : (found : Bool) (old : Option ℕ) → is_some (cond found (Some 0) old) ≡ (found || is_some old)
some-by true old = refl
some-by false old = refl

-- an id more
pub names_more : (old new : List (List ℕ × ℕ)) (before : List (List ℕ)) (id : List ℕ) → Names old before
    → ((other : List ℕ) → lookup (is_at (slice_cmp nat_cmp other)) new ≡ cond (is_eq (slice_cmp nat_cmp other id)) (Some 0) (lookup (is_at (slice_cmp nat_cmp other)) old)) → Names new (id ∷ before)
names_more old new before id names found other =
    ap is_some (found other)
    ∙ (some-by (is_eq (slice_cmp nat_cmp other id)) (lookup (is_at (slice_cmp nat_cmp other)) old)
    ∙ (ap (λ (b : Bool). b || is_some (lookup (is_at (slice_cmp nat_cmp other)) old)) (is_eq-slice_cmp other id) ∙ ap (λ (b : Bool). same_text other id || b) (names other)))
