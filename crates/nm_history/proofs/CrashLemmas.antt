-- What a crash leaves before the first commit. For `BankLemmas` and `SettledLemmas`.
use Rattle.std.proofs.Common.{◌≡◌, ℕ, ◌+◌, ◌≤◌, min, List, [], ◌∷◌, ◌++◌, length, sym, ap, ◌∙◌, subst, arith, length-append}
use Rattle.std.specs.List.{AllByRecursion}
use Rattle.nm_base.specs.Limits.{max_count}
use Rattle.nm_commit.specs.declared.change.Commit.{Commit}
use Rattle.nm_disk.specs.CrashStateLaws.{left_when_synced}
use Rattle.nm_disk.specs.CrashStates.{IsImage, IsLeft, MayLeave, bytes_of, is_written, reach}
use Rattle.nm_disk.specs.Observed.{Moments, bytes_now}
use Rattle.nm_disk.specs.declared.disk.FileNo.{FileNo}
use Rattle.nm_disk.specs.declared.disk.FileNo.TheVariants.{Head}
use Rattle.nm_disk.specs.declared.state.DiskState.{DiskState}
use Rattle.nm_disk.specs.declared.state.Range.{Range}
use Rattle.nm_model_index.specs.declared.base.Base.{Base}
use Rattle.nm_journal.specs.Moments.{LeavesNothingNew, LeavesOnly}
use Rattle.nm_writer.specs.Durable.{EachKeeps, HoldsPrefix, KeepsAcknowledged, KeptSince, acked_by}
use Rattle.nm_replay.specs.StoredIndex.{HoldsIndex}
use Rattle.nm_history.specs.CrashPrefix.{HasSettled, IsMoment, KeepsCommits}

-- where no write is pending, a crash leaves what was synced
pub left-quiet : (file : FileNo) (state : DiskState) (bytes : List ℕ) → state.written ≡ [] → MayLeave state file bytes → bytes ≡ bytes_of file state.synced
left-quiet file state bytes quiet left =
    let synced : List ℕ = bytes_of file state.synced in
    left_when_synced synced bytes (subst (λ (written : List Range). IsLeft synced (is_written written file) (reach written file (length synced)) bytes) quiet left)

-- and that is what a read gives
left-is-now : (file : FileNo) (state : DiskState) (bytes : List ℕ) → state.written ≡ [] → IsImage state state.now → MayLeave state file bytes → bytes ≡ bytes_of file state.now
left-is-now file state bytes quiet image left = left-quiet file state bytes quiet left ∙ sym (left-quiet file state (bytes_of file state.now) quiet (image file))

-- a state that is no older than this one is this one or one of the new ones
pub is-new : (P : DiskState → Type 0) (states : List DiskState) (present : DiskState) (past newer : List DiskState) (state : DiskState) (older : List DiskState)
    → states ++ present ∷ past ≡ newer ++ state ∷ older → length past ≤ length older → AllByRecursion P states → P present → P state
is-new P [] present past [] state older e n all p = let same : present ≡ state = cc in subst P same p
is-new P [] present past (other ∷ newer) state older e n all p =
    absurd (omega (arith, n, ap length e, length-append newer (state ∷ older)))
is-new P (first ∷ states) present past [] state older e n all p = let same : first ≡ state = cc in subst P same all.0
is-new P (first ∷ states) present past (other ∷ newer) state older e n all p = is-new P states present past newer state older (cc) n all.1 p

-- a moment of the call is no older than the one at which it began
no-older : (entered : ℕ) (state : DiskState) (older : List DiskState) → HasSettled entered (state ∷ older) → entered ≤ length older
no-older entered state older h =
    omega (arith, h.in_call, ap length h.order, length-append h.later (h.settled ∷ h.earlier))

-- where none was pending when the call began, each of its moments leaves what a read gave then, of a file of which nothing new is left
pub quiet-settled : (file : FileNo) (before now : Moments) → before.present.written ≡ [] → IsImage before.present before.present.now → LeavesNothingNew file before now
    → (state : DiskState) (number : ℕ) (bytes : List ℕ) → IsMoment before now state number → MayLeave state file bytes → bytes ≡ bytes_now before file
quiet-settled file before now quiet image through state number bytes moment left =
    let entry : DiskState = before.present in
    let may : LeavesOnly file (MayLeave entry file) state =
    is-new (LeavesOnly file (MayLeave entry file)) through.states entry before.past moment.newer state moment.older
    (sym through.are ∙ moment.order) (no-older (length before.past) state moment.older moment.since) through.each (λ bytes left. left) in
    left-is-now file entry bytes quiet image (may bytes left)

pub opening-keeps : (before now : Moments) → before.present.written ≡ [] → IsImage before.present before.present.now
    → LeavesNothingNew Head before now → KeepsCommits [] [] before now
opening-keeps before now quiet image through opening state number bytes holds moment left =
    let same : bytes ≡ bytes_now before Head = quiet-settled Head before now quiet image through state number bytes moment left in
    record {
      count = 0;
      within = omega arith;
      least = omega arith;
      most = λ small. omega arith;
      holds = subst (λ (b : List ℕ). HoldsIndex b opening) (sym same) holds;
    }

-- at a moment among these, which is no older than what went before them, a crash leaves what was acknowledged by then
pub each-at : (opening : Base) (commits : List Commit) (acked : List ℕ) (states past newer : List DiskState) (state : DiskState) (older : List DiskState)
    → states ++ past ≡ newer ++ state ∷ older → length past ≤ length older → EachKeeps opening commits acked (length past) states
    → KeepsAcknowledged opening commits acked (min (length older) max_count) state
each-at opening commits acked [] past newer state older e n h = absurd (omega (arith, n, ap length e, length-append newer (state ∷ older)))
each-at opening commits acked (first ∷ states) past [] state older e n h =
    let same : first ≡ state = cc in
    let rest : states ++ past ≡ older = cc in
    let number : length past + length states ≡ length older = omega (arith, ap length rest, length-append states past) in
    subst (λ (s : DiskState). KeepsAcknowledged opening commits acked (min (length older) max_count) s) same
    (subst (λ n. KeepsAcknowledged opening commits acked (min n max_count) first) number h.0)
each-at opening commits acked (first ∷ states) past (other ∷ newer) state older e n h = each-at opening commits acked states past newer state older (cc) n h.1

module _ (once : (bytes : List ℕ) (one other : Base) → HoldsIndex bytes one → HoldsIndex bytes other → one ≡ other) where
  pub durable-keeps : (opening : Base) (commits : List Commit) (acked : List ℕ) (before now : Moments) → HoldsIndex (bytes_now before Head) opening
      → KeptSince opening commits acked before now → KeepsCommits commits acked before now
  durable-keeps opening commits acked before now held kept other state number bytes holds moment left =
      let same : opening ≡ other = once (bytes_now before Head) opening other held holds in
      let keeps =
      each-at opening commits acked kept.states before.past moment.newer state moment.older (sym kept.are ∙ moment.order)
      (no-older (length before.past) state moment.older moment.since) kept.each bytes left in
      subst (λ (index : Base). HoldsPrefix index commits (min number max_count) (acked_by (min number max_count) acked) bytes) same
      (subst (λ n. HoldsPrefix opening commits (min n max_count) (acked_by (min n max_count) acked) bytes) (sym moment.number_is) keeps)
