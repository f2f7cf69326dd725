-- What a crash leaves where writes were pending when the call began: its settled moments come after the sync of the opening.
-- For `BankLemmas`.
use Rattle.std.proofs.Common.{◌≡◌, ◌⊎◌, inl, inr, ℕ, ◌<◌, ◌≤◌, suc, min, List, [], ◌∷◌, ◌++◌, length, refl, sym, ap, ◌∙◌, subst, append_assoc, arith, length-append}
use Rattle.std.proofs.Math.Nat.{eq-or-lt_of_le}
use Rattle.nm_base.specs.Limits.{max_count}
use Rattle.nm_commit.specs.declared.change.Commit.{Commit}
use Rattle.nm_disk.specs.Calls.{synced}
use Rattle.nm_disk.specs.CrashStates.{IsImage, MayLeave, bytes_of}
use Rattle.nm_disk.specs.Observed.{Moments, bytes_now, later}
use Rattle.nm_disk.specs.declared.disk.FileNo.TheVariants.{Head}
use Rattle.nm_disk.specs.declared.state.DiskState.{DiskState}
use Rattle.nm_disk.specs.declared.state.Range.{Range}
use Rattle.nm_model_index.specs.declared.base.Base.{Base}
use Rattle.nm_journal.specs.Moments.{IsSynced, LeavesNothingNew, SyncsOrFails, all_moments}
use Rattle.nm_writer.specs.Durable.{HoldsPrefix, KeptSince, acked_by}
use Rattle.nm_replay.specs.StoredIndex.{HoldsIndex}
use Rattle.nm_history.specs.CrashPrefix.{HasSettled, IsMoment, KeepsCommits}
use Rattle.nm_history.proofs.CrashLemmas.{durable-keeps, each-at, left-quiet, opening-keeps}

-- two places of one list with as much after them are one
same-place : {X : Type 0} (xs : List X) (x : X) (zs ys : List X) (y : X) (ws : List X) → xs ++ x ∷ zs ≡ ys ++ y ∷ ws → length zs ≡ length ws → x ≡ y
same-place [] x zs [] y ws e n = cc
same-place [] x zs (b ∷ ys) y ws e n = absurd (omega (arith, n, ap length e, length-append ys (y ∷ ws)))
same-place (a ∷ xs) x zs [] y ws e n = absurd (omega (arith, n, ap length e, length-append xs (x ∷ zs)))
same-place (a ∷ xs) x zs (b ∷ ys) y ws e n = same-place xs x zs ys y ws (cc) n

none-pending : (state : DiskState) (range : Range) (ranges : List Range) → state.written ≡ range ∷ ranges → state.written ≡ [] → ⊥
none-pending state range ranges e f = let g : range ∷ ranges ≡ [] = sym e ∙ f in absurd (omega (arith, ap length g))

later-than : (n m : ℕ) → (n ≡ m) ⊎ (n < m) → (n ≡ m → ⊥) → suc n ≤ m
later-than n m (inl same) other = absurd (other same)
later-than n m (inr less) other = omega (arith, less)

joined : (a b c m : List DiskState) → m ≡ b ++ c → (a ++ b) ++ c ≡ a ++ m
joined a b c m is = append_assoc a b c ∙ ap (λ (l : List DiskState). a ++ l) (sym is)

module _ (entry : DiskState) (past : List DiskState) (range : Range) (ranges : List Range) (pending : entry.written ≡ range ∷ ranges) where
  -- a settled moment of the call is younger than its entry
  settled-later : (newer states moments : List DiskState) → newer ++ moments ≡ states ++ entry ∷ past → (h : HasSettled (length past) moments) → suc (length past) ≤ length h.earlier
  settled-later newer states moments e h =
      let all : (newer ++ h.later) ++ h.settled ∷ h.earlier ≡ states ++ entry ∷ past = joined newer h.later (h.settled ∷ h.earlier) moments h.order ∙ e in
      later-than (length past) (length h.earlier) (eq-or-lt_of_le h.in_call)
      (λ n. none-pending entry range ranges pending (ap (λ (s : DiskState). s.written) (sym (same-place (newer ++ h.later) h.settled h.earlier states entry past all (sym n))) ∙ h.quiet))

  -- and so is a moment since
  moment-later : (newer states older : List DiskState) (state : DiskState) → newer ++ state ∷ older ≡ states ++ entry ∷ past → HasSettled (length past) (state ∷ older) → suc (length past) ≤ length older
  moment-later newer states older state e h =
      omega (arith, settled-later newer states (state ∷ older) e h, ap length h.order, length-append h.later (h.settled ∷ h.earlier))

-- a session whose opening synced the disk
module _ (once : (bytes : List ℕ) (one other : Base) → HoldsIndex bytes one → HoldsIndex bytes other → one ≡ other)
    (opening : Base) (commits : List Commit) (acked : List ℕ) (before opened now : Moments) (held : HoldsIndex (bytes_now before Head) opening) where
  -- where writes were pending at its entry, its moments come after the sync
  pub since-opened : (range : Range) (ranges : List Range) → before.present.written ≡ range ∷ ranges → IsSynced before opened → KeptSince opening commits acked opened now
      → (state : DiskState) (number : ℕ) (moment : IsMoment before now state number) → length opened.past ≤ length moment.older
  since-opened range ranges pending is kept state number moment =
      let past : opened.past ≡ before.present ∷ before.past = ap (λ (m : Moments). m.past) is in
      let order : moment.newer ++ state ∷ moment.older ≡ kept.states ++ before.present ∷ before.past =
      sym moment.order ∙ (kept.are ∙ ap (λ (l : List DiskState). kept.states ++ l) past) in
      omega (arith, ap length past, moment-later before.present before.past range ranges pending moment.newer kept.states moment.older state order moment.since)

  synced-keeps : (range : Range) (ranges : List Range) → before.present.written ≡ range ∷ ranges → IsSynced before opened → KeptSince opening commits acked opened now → KeepsCommits commits acked before now
  synced-keeps range ranges pending is kept other state number bytes holds moment left =
      let same : opening ≡ other = once (bytes_now before Head) opening other held holds in
      let young = since-opened range ranges pending is kept state number moment in
      let keeps = each-at opening commits acked kept.states opened.past moment.newer state moment.older (sym kept.are ∙ moment.order) young kept.each bytes left in
      subst (λ (index : Base). HoldsPrefix index commits (min number max_count) (acked_by (min number max_count) acked) bytes) same
      (subst (λ n. HoldsPrefix opening commits (min n max_count) (acked_by (min n max_count) acked) bytes) (sym moment.number_is) keeps)

  keeps-by : (written : List Range) → before.present.written ≡ written → IsSynced before opened → (before.present.written ≡ [] → KeptSince opening commits acked before now) → KeptSince opening commits acked opened now
      → KeepsCommits commits acked before now
  keeps-by [] quiet is from_entry kept = durable-keeps once opening commits acked before now held (from_entry quiet)
  keeps-by (range ∷ ranges) pending is from_entry kept = synced-keeps range ranges pending is kept

  pub session-keeps : IsSynced before opened → (before.present.written ≡ [] → KeptSince opening commits acked before now) → KeptSince opening commits acked opened now → KeepsCommits commits acked before now
  session-keeps is from_entry kept = keeps-by before.present.written refl is from_entry kept

-- the index from before, which a crash leaves of a synced disk
index-stays : (opening : Base) (entry state : DiskState) (bytes acked : List ℕ) (number : ℕ) → state ≡ synced entry → HoldsIndex (bytes_of Head entry.now) opening → MayLeave state Head bytes → HoldsPrefix opening [] number (acked_by number []) bytes
index-stays opening entry state bytes acked number is holds left =
    let same : bytes ≡ bytes_of Head entry.now = left-quiet Head (synced entry) bytes refl (subst (λ (s : DiskState). MayLeave s Head bytes) is left) in
    record { count = 0; within = omega arith; least = omega arith; most = λ small. omega arith; holds = subst (λ (b : List ℕ). HoldsIndex b opening) (sym same) holds }

-- a moment of an opening that ends with a settled disk is that of its sync; none is where it ends with none that is settled
module _ (before now : Moments) (range : Range) (ranges : List Range) (pending : before.present.written ≡ range ∷ ranges) (state : DiskState) (number : ℕ) (moment : IsMoment before now state number) where
  unsynced : now ≡ before → state ≡ synced before.present
  unsynced same =
      let order : moment.newer ++ state ∷ moment.older ≡ [] ++ before.present ∷ before.past = sym moment.order ∙ ap all_moments same in
      let young = moment-later before.present before.past range ranges pending moment.newer [] moment.older state order moment.since in
      absurd (omega (arith, young, ap length order, length-append moment.newer (state ∷ moment.older)))

  failed-sync : (failed : DiskState) → now ≡ later before failed → failed.written ≡ before.present.written → state ≡ synced before.present
  failed-sync failed is written =
      let order : moment.newer ++ state ∷ moment.older ≡ (failed ∷ []) ++ before.present ∷ before.past = sym moment.order ∙ ap all_moments is in
      let h : HasSettled (length before.past) (state ∷ moment.older) = moment.since in
      let young = settled-later before.present before.past range ranges pending moment.newer (failed ∷ []) (state ∷ moment.older) order h in
      let all : (moment.newer ++ h.later) ++ h.settled ∷ h.earlier ≡ [] ++ failed ∷ before.present ∷ before.past = joined moment.newer h.later (h.settled ∷ h.earlier) (state ∷ moment.older) h.order ∙ order in
      let last : length h.earlier ≡ length (before.present ∷ before.past) =
      omega (arith, young, ap length all, length-append (moment.newer ++ h.later) (h.settled ∷ h.earlier)) in
      let one : h.settled ≡ failed = same-place (moment.newer ++ h.later) h.settled h.earlier [] failed (before.present ∷ before.past) all last in
      absurd (none-pending before.present range ranges pending (sym written ∙ (ap (λ (s : DiskState). s.written) (sym one) ∙ h.quiet)))

  settled-sync : IsSynced before now → state ≡ synced before.present
  settled-sync is =
      let order : moment.newer ++ state ∷ moment.older ≡ (synced before.present ∷ []) ++ before.present ∷ before.past = sym moment.order ∙ ap all_moments is in
      let young = moment-later before.present before.past range ranges pending moment.newer (synced before.present ∷ []) moment.older state order moment.since in
      let last : length moment.older ≡ length (before.present ∷ before.past) =
      omega (arith, young, ap length order, length-append moment.newer (state ∷ moment.older)) in
      same-place moment.newer state moment.older [] (synced before.present) (before.present ∷ before.past) order last

  pub pending-moment : SyncsOrFails before now → state ≡ synced before.present
  pending-moment (inl (inl same)) = unsynced same
  pending-moment (inl (inr failed)) = failed-sync failed.0 failed.1 failed.3
  pending-moment (inr is) = settled-sync is

refused-by : (before now : Moments) (written : List Range) → before.present.written ≡ written → IsImage before.present before.present.now → SyncsOrFails before now
    → LeavesNothingNew Head before now → KeepsCommits [] [] before now
refused-by before now [] quiet image syncs through = opening-keeps before now quiet image through
refused-by before now (range ∷ ranges) pending image syncs through = λ other state number bytes holds moment left.
    index-stays other before.present state bytes [] (min number max_count) (pending-moment before now range ranges pending state number moment syncs) holds left

pub refused-keeps : (before now : Moments) → IsImage before.present before.present.now → SyncsOrFails before now
    → LeavesNothingNew Head before now → KeepsCommits [] [] before now
refused-keeps before now image syncs through = refused-by before now before.present.written refl image syncs through
