-- The tree after a line. For the proof of `the_tree_follows_renames`.
use Rattle.std.proofs.Common.{◌≡◌, ℕ, true, false, List, [], ◌∷◌, ◌++◌, Option, Some, fold, refl, ap}
use Rattle.std.proofs.lemmas.List.Sums.{fold-append}
use Rattle.std.specs.Option.{option_map}
use Rattle.nm_log.specs.Kind.{Kind, ReadsIndex, SetsTags, ShowsFiles, TakesMail, kind_of}
use Rattle.nm_history.specs.Lines.{given_in, tree_after_line, tree_by}
use Rattle.nm_history.specs.Requests.{asks_to_tag, sets_tags}
use Rattle.nm_log.specs.declared.line_parser.ParsedLine.{ParsedLine}
use Rattle.nm_log.specs.declared.line_parser.ParsedLine.TheVariants as asked
use Rattle.nm_maildir.specs.Tree.{moved, Tree}
use Rattle.nm_maildir.specs.declared.answers.Renamed.TheVariants as answers
use Rattle.nm_maildir.specs.declared.given.Given.{Given}
use Rattle.nm_maildir.specs.declared.given.Given.TheVariants as given

moved-last : (tree : Tree) (noted : List Given) (from to : List ℕ) → Some (fold given_in tree (noted ++ given.Renamed from to answers.Moved ∷ [])) ≡ Some (moved (fold given_in tree noted) from to)
moved-last tree noted from to = ap (λ (t : Tree). Some t) (fold-append given_in tree noted (given.Renamed from to answers.Moved ∷ []))

moved-by : (kind : Kind) (tree : Tree) (noted : List Given) (from to : List ℕ) → sets_tags kind ≡ true
    → tree_by kind (noted ++ given.Renamed from to answers.Moved ∷ []) (Some tree) ≡ option_map (λ t. moved t from to) (tree_by kind noted (Some tree))
moved-by TakesMail tree noted from to tags = absurd (cc)
moved-by ReadsIndex tree noted from to tags = absurd (cc)
moved-by (ShowsFiles ask) tree noted from to tags = absurd (cc)
moved-by SetsTags tree noted from to tags = moved-last tree noted from to

pub moved-after : (line : ParsedLine) (tree : Tree) (noted : List Given) (from to : List ℕ) → asks_to_tag line ≡ true
    → tree_after_line line (noted ++ given.Renamed from to answers.Moved ∷ []) (Some tree) ≡ option_map (λ t. moved t from to) (tree_after_line line noted (Some tree))
moved-after (asked.Usage word kind) tree noted from to tags = absurd (cc)
moved-after (asked.Request request) tree noted from to tags = moved-by (kind_of request) tree noted from to tags

still-by : (kind : Kind) (tree : Option Tree) (noted : List Given) → sets_tags kind ≡ false → tree_by kind noted tree ≡ tree
still-by TakesMail tree noted quiet = refl
still-by ReadsIndex tree noted quiet = refl
still-by (ShowsFiles ask) tree noted quiet = refl
still-by SetsTags tree noted quiet = absurd (cc)

pub still-after : (line : ParsedLine) (tree : Option Tree) (noted : List Given) → asks_to_tag line ≡ false → tree_after_line line noted tree ≡ tree
still-after (asked.Usage word kind) tree noted quiet = refl
still-after (asked.Request request) tree noted quiet = still-by (kind_of request) tree noted quiet
