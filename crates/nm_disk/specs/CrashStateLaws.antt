-- What a write and a sync do to the crash states of a file, as the crates above use it.
-- For proofs alone, of `nm_journal` and `nm_history`.
use Rattle.std.proofs.Common.{◌≡◌, ℕ, zero, suc, ◌+◌, ◌<◌, ◌≤◌, min, max, Bool, false, ◌||◌, List, [], ◌∷◌, length, get_or, refl, sym, ap, ◌∙◌, arith, inl, inr, ext_get_or, le_refl, if◌then◌else◌}
use Rattle.std.proofs.lemmas.Bool.{cases_Bool}
use Rattle.nm_disk.specs.declared.disk.FileNo.{FileNo}
use Rattle.nm_disk.specs.declared.disk.FileNo.TheVariants.{Head, BankA, BankB}
use Rattle.nm_disk.specs.declared.files.Files.{Files}
use Rattle.nm_disk.specs.declared.state.DiskState.{DiskState}
use Rattle.nm_disk.specs.Calls.{range_of, synced, wrote}
use Rattle.nm_disk.specs.CrashStates.{IsLeft, MayLeave, bytes_of, is_written, overwritten, reach}
use Rattle.nm_disk.specs.MemoryLaws.{is_within, le_reach, length-overwritten, overwritten-elsewhere}

-- m bytes, each by its place
tabulated : ℕ → (ℕ → ℕ) → List ℕ
tabulated zero f = []
tabulated (suc m) f = f 0 ∷ tabulated m (λ place. f (suc place))

length-tabulated : (m : ℕ) (f : ℕ → ℕ) → length (tabulated m f) ≡ m
unfolding tabulated
length-tabulated zero f = refl
length-tabulated (suc m) f = ap suc (length-tabulated m (λ place. f (suc place)))

get_or-tabulated : (m : ℕ) (f : ℕ → ℕ) (place : ℕ) → place < m → get_or (tabulated m f) place 0 ≡ f place
unfolding tabulated
get_or-tabulated zero f place inside = absurd (let no : ⊥ = omega (arith, inside) in no)
get_or-tabulated (suc m) f zero inside = refl
get_or-tabulated (suc m) f (suc place) inside = get_or-tabulated m (λ place. f (suc place)) place (omega (arith, inside))

-- bytes that are those before but for a range, and perhaps longer
pub record ComesOf (at n : ℕ) (before after : List ℕ) : Type 0 where
  pub no_shorter : length before ≤ length after
  pub elsewhere : (place : ℕ) → place < length before → is_within at n place ≡ false → get_or after place 0 ≡ get_or before place 0

-- what a crash may leave after a write comes of something that it might have left before
pub left_before_write : (synced : List ℕ) (written : ℕ → Bool) (end at n : ℕ) (bytes : List ℕ) → length synced ≤ end
    → IsLeft synced (λ place. is_within at n place || written place) (max (at + n) end) bytes
    → (before : List ℕ) × IsLeft synced written end before × ComesOf at n before bytes
left_before_write synced written end at n bytes long left =
    let size = max (length synced) (min (length bytes) end) in
    let byte_at : ℕ → ℕ = λ place. if is_within at n place then get_or synced place 0 else get_or bytes place 0 in
    let same : length (tabulated size byte_at) ≡ size = length-tabulated size byte_at in
    let inside_or_not : (place : ℕ) → place < size → (get_or (tabulated size byte_at) place 0 ≡ byte_at place) = get_or-tabulated size byte_at in (
      tabulated size byte_at,
      record {
        no_shorter = omega (arith, same);
        no_longer = omega (arith, same, long);
        elsewhere = λ place inside outside.
            inside_or_not place (omega (arith, inside))
            ∙ elim (cases_Bool (is_within at n place)) [
              | inl within ↦ ap (λ (b : Bool). if b then get_or synced place 0 else get_or bytes place 0) within
              | inr apart ↦
                  ap (λ (b : Bool). if b then get_or synced place 0 else get_or bytes place 0) apart
                  ∙ left.elsewhere place inside (ap (λ (b : Bool). b || written place) apart ∙ outside)
            ];
      },
      record {
        no_shorter = omega (arith, same, left.no_shorter);
        elsewhere = λ place inside apart.
            sym (inside_or_not place (omega (arith, inside, same)) ∙ ap (λ (b : Bool). if b then get_or synced place 0 else get_or bytes place 0) apart);
      },
    )

-- after a sync a crash leaves what a read gives
pub left_when_synced : (bytes left : List ℕ) → IsLeft bytes (λ place. false) (length bytes) left → left ≡ bytes
left_when_synced bytes left is =
    ext_get_or 0 left bytes (omega (arith, is.no_shorter, is.no_longer)) (λ place inside. is.elsewhere place (omega (arith, inside, is.no_longer)) refl)

-- what a crash may leave of the file after a write to it, good or failed, comes of something that it might have left
-- before
pub before_write : (state : DiskState) (file : FileNo) (at n : ℕ) (now : Files) (bytes : List ℕ)
    → MayLeave (record { now = now; synced = state.synced; written = range_of file at n ∷ state.written }) file bytes
    → (before : List ℕ) × MayLeave state file before × ComesOf at n before bytes
before_write state Head at n now bytes left = left_before_write _ (is_written state.written Head) (reach state.written Head _) at n bytes (le_reach state.written Head _) left
before_write state BankA at n now bytes left = left_before_write _ (is_written state.written BankA) (reach state.written BankA _) at n bytes (le_reach state.written BankA _) left
before_write state BankB at n now bytes left = left_before_write _ (is_written state.written BankB) (reach state.written BankB _) at n bytes (le_reach state.written BankB _) left

-- after a sync a crash leaves of the file what a read gives
pub when_synced : (state : DiskState) (file : FileNo) (bytes : List ℕ) → MayLeave (synced state) file bytes → bytes ≡ bytes_of file state.now
when_synced state file bytes left = left_when_synced (bytes_of file state.now) bytes left

-- what a read gives of the file after a write that went well
pub now_written : (state : DiskState) (file : FileNo) (at : ℕ) (bytes : List ℕ)
    → bytes_of file (wrote state file at bytes).now ≡ overwritten (bytes_of file state.now) at bytes
now_written state Head at bytes = refl
now_written state BankA at bytes = refl
now_written state BankB at bytes = refl

-- what was written over bytes comes of them
pub overwritten_comes_of : (before bytes : List ℕ) (at : ℕ) → ComesOf at (length bytes) before (overwritten before at bytes)
overwritten_comes_of before bytes at = record {
  no_shorter = omega (arith, length-overwritten before bytes at);
  elsewhere = λ place inside apart. overwritten-elsewhere before bytes at (length bytes) place (le_refl _) inside apart;
}
