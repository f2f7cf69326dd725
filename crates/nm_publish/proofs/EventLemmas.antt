-- What lists of events say was published. For the proofs of `Shower::show_staged` and `Shown::is_before`.
use Rattle.std.proofs.Common.{◌≡◌, ℕ, suc, ◌+◌, ◌<◌, ◌≤◌, Bool, true, false, nat_le, MatchBool, Option, None, Some, IfSome, List, [], ◌∷◌, ◌++◌, length, map, refl, ap, sym, subst, ◌∙◌, arith, length-append}
use Rattle.std.specs.Option.{option_map}
use Rattle.std.proofs.lemmas.List.{length-map, map-append}
use Rattle.std.proofs.lemmas.List.Sums.{fold-append}
use Rattle.std.proofs.lemmas.Bool.Decides.{nat_tests}
use mathlib.Core.List.{IsPrefix}
use Rattle.logbook.specs.Pages.{Book, Named}
use Rattle.nm_commit.specs.declared.change.Commit.{Commit}
use Rattle.nm_model_index.specs.Index.{committed, folded}
use Rattle.nm_model_index.specs.declared.base.Base.{Base}
use Rattle.nm_publish.specs.List.{IsHeld, commit_in, commits_of, head_of, index_at, index_in, opening_of}
use Rattle.nm_publish.specs.Published.{GoesOn, published, with_commit}
use Rattle.nm_publish.specs.declared.event.Event.{Event}
use Rattle.nm_publish.specs.declared.event.Event.TheVariants as event
use Rattle.nm_publish.proofs.PrefixLemmas.{prefix_map, prefix_shorter}

-- a list that goes on begins with the same index
pub opening_kept : (xs ys : List Event) → 0 < length xs → IsPrefix xs ys → opening_of ys ≡ opening_of xs
opening_kept [] ys begun p = absurd (omega arith)
opening_kept (x ∷ xs) [] begun p = absurd (cc (p.1))
opening_kept (x ∷ xs) (y ∷ ys) begun p = let heads : x ≡ y = cc (p.1) in ap index_in (sym heads)

-- and its commits go on
pub commits_grow : (xs ys : List Event) → 0 < length xs → IsPrefix xs ys → IsPrefix (commits_of xs) (commits_of ys)
commits_grow [] ys begun p = absurd (omega arith)
commits_grow (x ∷ xs) [] begun p = absurd (cc (p.1))
commits_grow (x ∷ xs) (y ∷ ys) begun p = let tails : xs ++ p.0 ≡ ys = cc (p.1) in prefix_map commit_in xs ys (p.0, tails)

-- beside the commits a list has its first event alone
pub one_more : (xs : List Event) → 0 < length xs → length xs ≡ suc (length (commits_of xs))
one_more [] begun = absurd (omega arith)
one_more (x ∷ xs) begun = ap suc (sym (length-map xs commit_in))

pub commits_added : (xs : List Event) (e : Event) → 0 < length xs → commits_of (xs ++ e ∷ []) ≡ commits_of xs ++ commit_in e ∷ []
commits_added [] e begun = absurd (omega arith)
commits_added (x ∷ xs) e begun = map-append commit_in xs (e ∷ [])

pub opening_added : (xs : List Event) (e : Event) → 0 < length xs → opening_of (xs ++ e ∷ []) ≡ opening_of xs
opening_added [] e begun = absurd (omega arith)
opening_added (x ∷ xs) e begun = refl

pub begun_added : (xs : List Event) (e : Event) → 0 < length (xs ++ e ∷ [])
begun_added xs e = omega (arith, length-append xs (e ∷ []))

pub counted_added : (xs : List Event) (e : Event) → 0 < length xs → length (commits_of (xs ++ e ∷ [])) ≡ length (commits_of xs) + 1
counted_added xs e begun = ap length (commits_added xs e begun) ∙ length-append (commits_of xs) (commit_in e ∷ [])

-- the index after one commit more
pub index_added : (xs : List Event) (commit : Commit) → 0 < length xs → index_at (xs ++ event.Adds commit ∷ []) ≡ committed (index_at xs) commit
index_added [] commit begun = absurd (omega arith)
index_added (x ∷ xs) commit begun =
    ap (λ (commits : List Commit). folded (index_in x) commits) (map-append commit_in xs (event.Adds commit ∷ []))
    ∙ fold-append committed (index_in x) (map commit_in xs) (commit ∷ [])

pub published_added : (book other : Book) (xs ys : List Event) (commit : Commit) → other ≡ book → 0 < length xs → ys ≡ xs ++ event.Adds commit ∷ []
    → published other ys ≡ with_commit (published book xs) commit
published_added book other xs ys commit alike begun is =
    ap (published other) is
    ∙ (λ i. record { book = alike i; opening = opening_added xs (event.Adds commit) begun i; commits = commits_added xs (event.Adds commit) begun i })

-- the writer holds a list with a commit more
pub held_added : (book other : Book) (xs ys : List Event) (head : Named) (count : ℕ) (now next : Base) (commit : Commit) → IsHeld book xs head count now
    → other ≡ book → ys ≡ xs ++ event.Adds commit ∷ [] → next ≡ committed now commit → IsHeld other ys head (count + 1) next
held_added book other xs ys head count now next commit held alike is after = record {
  begun = subst (λ (l : List Event). 0 < length l) (sym is) (begun_added xs (event.Adds commit));
  head_is = held.head_is ∙ ap head_of (sym alike);
  counted = ap (λ (n : ℕ). n + 1) held.counted ∙ (sym (counted_added xs (event.Adds commit) held.begun) ∙ ap (λ (l : List Event). length (commits_of l)) (sym is));
  index = after ∙ (ap (λ (b : Base). committed b commit) held.index ∙ (sym (index_added xs commit held.begun) ∙ ap index_at (sym is)));
}

-- of two beginnings of one list that of the greater revision goes on from the other
pub goes_on : ((index : Base) (commits : List Commit) → (folded index commits).revision ≡ index.revision + length commits)
    → (book other : Book) → other ≡ book → (xs ys zs : List Event) → 0 < length xs → 0 < length ys → IsPrefix xs zs → IsPrefix ys zs
    → (index_at xs).revision ≤ (index_at ys).revision → GoesOn (published book xs) (published other ys)
goes_on law book other alike_book xs ys zs some_x some_y p q le =
    let same : opening_of ys ≡ opening_of xs = sym (opening_kept ys zs some_y q) ∙ opening_kept xs zs some_x p in
    let first : ℕ = (opening_of xs).revision in
    let second : ℕ = (opening_of ys).revision in
    let alike : second ≡ first = ap (λ (b : Base). b.revision) same in
    let x_is : (index_at xs).revision ≡ first + length (commits_of xs) = law (opening_of xs) (commits_of xs) in
    let y_is : (index_at ys).revision ≡ second + length (commits_of ys) = law (opening_of ys) (commits_of ys) in
    let fewer : length (commits_of xs) ≤ length (commits_of ys) = omega (arith, x_is, y_is, alike, le) in
    record {
      book = alike_book;
      opening = same;
      commits = prefix_shorter (commits_of xs) (commits_of ys) (commits_of zs) (commits_grow xs zs some_x p) (commits_grow ys zs some_y q) fewer;
    }

-- what holds of two numbers in their order holds as their comparison says
pub by_order : {A B : Type 0} (test : Bool) (a b : ℕ) → nat_le a b ≡ test → (a ≤ b → A) → (b ≤ a → B) → MatchBool test A B
by_order true a b is f g = f (grind (arith, nat_tests))
by_order false a b is f g = g (grind (arith, nat_tests))

-- where nothing is staged, what holds of it holds
pub none_staged : {A B : Type 0} (f : A → B) (P : A → Type 0) (staged : Option A) → option_map f staged ≡ None → IfSome staged P
none_staged f P None none = tt
none_staged f P (Some x) none = absurd (cc none)
