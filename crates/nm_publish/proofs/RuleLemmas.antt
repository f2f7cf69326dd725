-- Each step of a seat keeps the rule. For the proofs of `writer_seat`, `another_seat`, `look` and others.
use Rattle.std.proofs.Common.{◌≡◌, ℕ, ◌<◌, ◌≢◌, List, [], ◌∷◌, ◌++◌, length, fold, set, refl, sym, ap, ◌∙◌, subst, ⊎_elim, Option, Some, None}
use mathlib.Core.List.{IsPrefix}
use mathlib.Core.Option.{some, some-ne-none}
use lib.ListN.{get_elem?}
use Rattle.std.specs.Arc.{arc_value}
use Rattle.atomic_table.proofs.Lists.{at_set, at_snoc}
use Rattle.left_right.specs.Register.{Admits, TurnsAt, Forks, Merges}
use Rattle.nm_commit.specs.declared.change.Commit.{Commit}
use Rattle.nm_model_index.specs.Index.{committed}
use Rattle.nm_model_index.specs.declared.base.Base.{Base}
use Rattle.nm_publish.specs.List.{index_at}
use Rattle.nm_publish.specs.Rule.{Follows, Holds, IsBeginning, IsObservation, IsStanding}
use Rattle.nm_publish.specs.declared.event.Event.{Event}
use Rattle.nm_publish.specs.declared.event.Event.TheVariants as event
use Rattle.nm_publish.specs.declared.rule.Known.{Known}
use Rattle.nm_publish.specs.declared.slot.Content.{Content}
use Rattle.nm_publish.specs.declared.slot.Next.{Next}
use Rattle.nm_publish.specs.declared.slot.Slot.{Slot}
use Rattle.nm_publish.proofs.EventLemmas.{index_added}
use Rattle.nm_publish.proofs.PrefixLemmas.{prefix_added, prefix_begun, prefix_self, prefix_trans}

-- every seat knows a beginning
abbrev Each : Slot → List (Option Known) → Type 0
Each slot views = (seat : ℕ) (known : Option Known) → get_elem? views seat ≡ some known → IsBeginning known slot

each_set : (slot : Slot) (views : List (Option Known)) (seat : ℕ) (v : Option Known) → Each slot views → IsBeginning v slot → Each slot (set views seat v)
each_set slot views seat v each fits j u at =
    ⊎_elim (λ (t : (j ≡ seat) × (v ≡ u)). subst (λ (w : Option Known). IsBeginning w slot) t.1 fits) (λ (t : (j ≢ seat) × (get_elem? views j ≡ some u)). each j u t.1)
    (at_set views seat j v u at)

each_new : (slot : Slot) (views : List (Option Known)) (v : Option Known) → Each slot views → IsBeginning v slot → Each slot (views ++ v ∷ [])
each_new slot views v each fits j u at =
    ⊎_elim (each j u) (λ (same : v ≡ u). subst (λ (w : Option Known). IsBeginning w slot) same fits) (at_snoc views v u j at)

-- a beginning of a list begins what goes on from it
longer : (known : Option Known) (x y : Slot) → y.seen.book ≡ x.seen.book → IsPrefix x.seen.log y.seen.log → IsBeginning known x → IsBeginning known y
longer None x y book grown fits = tt
longer (Some known) x y book grown fits = (fits.0 ∙ sym book, fits.1, prefix_trans known.seen.log x.seen.log y.seen.log fits.2 grown)

-- a new seat knows nothing
pub admits : Admits Holds None
admits x views h = record { standing = h.standing; each = each_new x views None h.each tt }

-- what is shown goes on, or stays; the seat that does or sees it knows all of it
pub turns : (seat : ℕ) (v : Option Known) (x y : Slot) → y.seen.book ≡ x.seen.book → IsPrefix x.seen.log y.seen.log → (IsStanding x → IsStanding y) → TurnsAt Holds seat v x y IsObservation
turns seat v x y book grown stands views h at =
    let standing : IsStanding y = stands h.standing in
    let all : Option Known = Some (record { seen = y.seen }) in
    let fits : IsBeginning all y = (refl, standing.begun, prefix_self y.seen.log) in (
      all,
      record { standing = standing; each = each_set y views seat all (λ j u e. longer u x y book grown (h.each j u e)) fits },
      record { standing = standing; grown = longer v x y book grown (h.each seat v at); known = refl },
    )

-- a reader that enters
pub enters : (seat : ℕ) (v : Option Known) (x : Slot) → TurnsAt Holds seat v x x IsObservation
enters seat v x = turns seat v x x refl (prefix_self x.seen.log) (λ standing. standing)

-- what both copies have in common, and what they have after an operation
abbrev content : Slot → Content
content slot = record { index = arc_value slot.snap; seen = slot.seen }

abbrev replaced : Content → Next → Content
replaced old next = record { index = arc_value next.snap; seen = next.seen }

-- the writer that publishes
pub shows : (seat : ℕ) (v : Option Known) (x : Slot) (next : Next) (pending : List Next) → pending ≡ next ∷ [] → Follows x next
    → (y : Slot) → content y ≡ fold replaced (content x) pending → TurnsAt Holds seat v x y IsObservation
shows seat v x next pending one follows y is =
    let same : content y ≡ replaced (content x) next = is ∙ ap (fold replaced (content x)) one in
    let log : y.seen.log ≡ next.seen.log = ap (λ (c : Content). c.seen.log) same in
    let book : y.seen.book ≡ next.seen.book = ap (λ (c : Content). c.seen.book) same in
    let index : arc_value y.snap ≡ arc_value next.snap = ap (λ (c : Content). c.index) same in
    let grown : IsPrefix x.seen.log y.seen.log = subst (λ (l : List Event). IsPrefix x.seen.log l) (sym log) follows.grown in
    turns seat v x y (book ∙ follows.book) grown
    (λ standing. record { begun = prefix_begun x.seen.log y.seen.log standing.begun grown; index = index ∙ (follows.index ∙ ap index_at (sym log)) })

-- the same may be shown again
pub follows_alike : (slot : Slot) (next : Next) → next.seen ≡ slot.seen → arc_value next.snap ≡ index_at next.seen.log → Follows slot next
follows_alike slot next same index =
    let log : next.seen.log ≡ slot.seen.log = ap (λ (c : Content). c.seen.log) (λ i. record { index = arc_value slot.snap; seen = same i }) in
    let book : next.seen.book ≡ slot.seen.book = ap (λ (c : Content). c.seen.book) (λ i. record { index = arc_value slot.snap; seen = same i }) in
    record { book = book; grown = subst (λ (l : List Event). IsPrefix slot.seen.log l) (sym log) (prefix_self slot.seen.log); index = index }

-- what has a commit more may be shown next
pub follows_added : (slot : Slot) (next : Next) (commit : Commit) (index : Base) → next.seen.book ≡ slot.seen.book → next.seen.log ≡ slot.seen.log ++ event.Adds commit ∷ []
    → 0 < length slot.seen.log → index ≡ index_at slot.seen.log → arc_value next.snap ≡ committed index commit → Follows slot next
follows_added slot next commit index book is begun now after = record {
  book = book;
  grown = prefix_added slot.seen.log next.seen.log (event.Adds commit) is;
  index = after ∙ (ap (λ (b : Base). committed b commit) now ∙ (sym (index_added slot.seen.log commit begun) ∙ ap index_at (sym is)));
}

none_known : (slot : Slot) (j : ℕ) (known : Option Known) → get_elem? (None ∷ []) j ≡ some known → IsBeginning known slot
none_known slot j known at = ⊎_elim (λ (none : get_elem? [] j ≡ some known). absurd (some-ne-none known (sym none))) (λ (same : None ≡ known). subst (λ (w : Option Known). IsBeginning w slot) same tt) (at_snoc [] None known j at)

-- the writer's seat knows nothing at first
pub holds_first : (slot : Slot) → 0 < length slot.seen.log → arc_value slot.snap ≡ index_at slot.seen.log → Holds slot (None ∷ [])
holds_first slot begun index = record { standing = record { begun = begun; index = index }; each = none_known slot }

-- the writer that tells what it knows
pub forks : (seat : ℕ) (v : Option Known) → Forks Holds seat v v v
forks seat v x views h at =
    let mine : IsBeginning v x = h.each seat v at in
    record { standing = h.standing; each = each_new x (set views seat v) v (each_set x views seat v h.each mine) mine }

-- a reader that learns what was told
pub merges : (seat : ℕ) (v : Option Known) (other : ℕ) (w : Option Known) → Merges Holds seat v other w w None
merges seat v other w x views h at apart there =
    let told : IsBeginning w x =
    ⊎_elim (λ (t : (other ≡ seat) × (w ≡ w)). absurd (apart t.0)) (λ (t : (other ≢ seat) × (get_elem? views other ≡ some w)). h.each other w t.1)
    (at_set views seat other w w there) in
    record { standing = h.standing; each = each_set x (set views seat w) other None (each_set x views seat w h.each told) tt }
