-- Steps in which a lane has no part: how the machine grows in them, and that they are taken as well where the lane has looked before.
-- For `EarlierLemmas`.
use Rattle.std.proofs.Common.{◌≡◌, ◌≢◌, ℕ, ℤ, ◌+◌, ◌≤◌, ◌==◌, Bool, true, false, not, cond, List, [], ◌∷◌, ◌++◌, if◌then◌else◌, filter, length, fold, slice_index, slice_set, refl, sym, ap, ◌∙◌, subst, arith, append-nil, append_assoc}
use Rattle.std.specs.List.{AllByRecursion}
use Rattle.std.proofs.lemmas.Bool.Decides.{nat_tests}
use Rattle.std.proofs.lemmas.List.{length-append, get_or-set_other, length-set, set_comm}
use Rattle.std.proofs.lemmas.List.Elements.{filter-append}
use Rattle.nm_model_answer.specs.Answer.{is_reply}
use Rattle.nm_commit.specs.declared.change.Commit.{Commit}
use Rattle.nm_model_machine.specs.Machine as machine
use Rattle.nm_model_machine.specs.Machine.{Machine, commits_in_flight, index_after}
use Rattle.nm_model_machine.specs.declared.step.Step.{Step}
use Rattle.nm_model_machine.specs.declared.step.Step.TheVariants as steps
use Rattle.nm_history.specs.LineResult.{LeaveAlone, is_show, leaves_alone, shows}
use Rattle.nm_history.specs.MachineRun.{LaneStep, NeverStops, is_of_lane, is_stop, lane_steps_by, lane_steps_from, lane_read_in, next, phase_after, reply_in}
use Rattle.nm_history.proofs.MachineLemmas.{next-is}
use Rattle.nm_history.proofs.PhaseLemmas.{filter-lane}

-- ---- steps, cut in two

pub never-cut : (front back : List Step) → NeverStops (front ++ back) → NeverStops front × NeverStops back
never-cut [] back h = (tt, h)
never-cut (step ∷ front) back h = let cut = never-cut front back h.1 in ((h.0, cut.0), cut.1)

-- the machine at the cut
pub record Cut (moment : ℤ) (m : Machine) (front back : List Step) (last : Machine) : Type 0 where
  pub mid : Machine
  pub before : machine.Runs moment m front mid
  pub behind : machine.Runs moment mid back last

pub runs-cut : (moment : ℤ) (m : Machine) (front back : List Step) (last : Machine) → machine.Runs moment m (front ++ back) last → Cut moment m front back last
runs-cut moment m [] back last h = record { mid = m; before = refl; behind = h }
runs-cut moment m (step ∷ front) back last h =
    let cut = runs-cut moment h.0 front back last h.2 in
    record { mid = cut.mid; before = (h.0, h.1, cut.before); behind = cut.behind }

-- ---- what is shown was acknowledged

abbrev pub IsKnown : Machine → Type 0
IsKnown m = m.shown ≤ length m.commits

known-next : (m : Machine) (step : Step) → is_stop step ≡ false → IsKnown m → IsKnown (next m step)
known-next m (steps.Begin commit) e h = h
known-next m steps.Append e h = omega (arith, h, length-append m.commits (commits_in_flight m.in_flight))
known-next m steps.Show e h = omega arith
known-next m (steps.See lane) e h = h
known-next m steps.Meet e h = h
known-next m (steps.Reply lane request text) e h = h
known-next m (steps.Crash kept) e h = absurd (cc)
known-next m steps.Reopen e h = absurd (cc)

pub known-last : (moment : ℤ) (m : Machine) (taken : List Step) (last : Machine) → NeverStops taken → machine.Runs moment m taken last → IsKnown m → IsKnown last
known-last moment m [] last never h known = subst IsKnown (sym h) known
known-last moment m (step ∷ taken) last never h known =
    known-last moment h.0 taken last never.1 h.2 (subst IsKnown (sym (next-is moment m step h.0 never.0 h.1)) (known-next m step never.0 known))

-- ---- steps in which a lane has no part

not-stop : (lane : ℕ) (step : Step) → leaves_alone lane step ≡ true → is_stop step ≡ false
not-stop lane (steps.Begin commit) e = refl
not-stop lane steps.Append e = refl
not-stop lane steps.Show e = refl
not-stop lane (steps.See other) e = refl
not-stop lane steps.Meet e = refl
not-stop lane (steps.Reply other request text) e = refl
not-stop lane (steps.Crash kept) e = absurd (cc)
not-stop lane steps.Reopen e = absurd (cc)

same-phase : (lane phase : ℕ) (step : Step) → leaves_alone lane step ≡ true → phase_after phase step ≡ phase
same-phase lane phase (steps.Begin commit) e = refl
same-phase lane phase steps.Append e = refl
same-phase lane phase steps.Show e = refl
same-phase lane phase (steps.See other) e = refl
same-phase lane phase steps.Meet e = absurd (cc)
same-phase lane phase (steps.Reply other request text) e = refl
same-phase lane phase (steps.Crash kept) e = refl
same-phase lane phase steps.Reopen e = refl

pub phase-stays : (lane phase : ℕ) (back : List Step) → LeaveAlone lane back → fold phase_after phase back ≡ phase
phase-stays lane phase [] alone = refl
phase-stays lane phase (step ∷ back) alone = ap (λ (n : ℕ). fold phase_after n back) (same-phase lane phase step alone.0) ∙ phase-stays lane phase back alone.1

-- how the machine grows in them, by n shows
pub record Grows (m : Machine) (count : ℕ) (last : Machine) : Type 0 where
  pub more : List Commit
  pub commits : last.commits ≡ m.commits ++ more
  pub shown : last.shown ≡ m.shown + count
  pub opening : last.opening ≡ m.opening
  pub lanes : length last.lanes ≡ length m.lanes
  pub up : last.up ≡ m.up

grows-then : (m mid last : Machine) (count more : ℕ) → Grows m count mid → Grows mid more last → Grows m (count + more) last
grows-then m mid last count more h k = record {
  more = h.more ++ k.more;
  commits = k.commits ∙ (ap (λ (l : List Commit). l ++ k.more) h.commits ∙ append_assoc m.commits h.more k.more);
  shown = omega (arith, h.shown, k.shown);
  opening = k.opening ∙ h.opening;
  lanes = k.lanes ∙ h.lanes;
  up = k.up ∙ h.up;
}

-- with no show
grows-quiet : (m last : Machine) (more : List Commit) → last.commits ≡ m.commits ++ more → last.shown ≡ m.shown → last.opening ≡ m.opening → length last.lanes ≡ length m.lanes → last.up ≡ m.up → Grows m 0 last
grows-quiet m last more commits shown opening lanes up =
    record { more = more; commits = commits; shown = omega (arith, shown); opening = opening; lanes = lanes; up = up }

grows-next : (moment : ℤ) (lane : ℕ) (m : Machine) (step : Step) → leaves_alone lane step ≡ true → machine.IsAllowed moment m step → Grows m (shows (step ∷ [])) (next m step)
grows-next moment lane m (steps.Begin commit) e h = grows-quiet m (next m (steps.Begin commit)) [] (sym (append-nil m.commits)) refl refl refl refl
grows-next moment lane m steps.Append e h = grows-quiet m (next m steps.Append) (commits_in_flight m.in_flight) refl refl refl refl refl
grows-next moment lane m steps.Show e h = record {
  more = [];
  commits = sym (append-nil m.commits);
  shown = h.1;
  opening = refl;
  lanes = length-set m.lanes 0 (length m.commits);
  up = refl;
}
grows-next moment lane m (steps.See other) e h = grows-quiet m (next m (steps.See other)) [] (sym (append-nil m.commits)) refl refl (length-set m.lanes other m.shown) refl
grows-next moment lane m steps.Meet e h = absurd (cc)
grows-next moment lane m (steps.Reply other request text) e h = grows-quiet m m [] (sym (append-nil m.commits)) refl refl refl refl
grows-next moment lane m (steps.Crash kept) e h = absurd (cc)
grows-next moment lane m steps.Reopen e h = absurd (cc)

shows-first : (step : Step) (back : List Step) → shows (step ∷ []) + shows back ≡ shows (step ∷ back)
shows-first step back = sym (ap length (filter-append is_show (step ∷ []) back) ∙ length-append (filter is_show (step ∷ [])) (filter is_show back))

pub grows-all : (moment : ℤ) (lane : ℕ) (m : Machine) (back : List Step) (last : Machine) → LeaveAlone lane back → machine.Runs moment m back last → Grows m (shows back) last
grows-all moment lane m [] last alone h = subst (Grows m 0) (sym h) (grows-quiet m m [] (sym (append-nil m.commits)) refl refl refl refl)
grows-all moment lane m (step ∷ back) last alone h =
    let first : Grows m (shows (step ∷ [])) h.0 =
    subst (Grows m (shows (step ∷ []))) (sym (next-is moment m step h.0 (not-stop lane step alone.0) h.1)) (grows-next moment lane m step alone.0 h.1.allowed) in
    subst (λ (n : ℕ). Grows m n last) (shows-first step back) (grows-then m h.0 last (shows (step ∷ [])) (shows back) first (grows-all moment lane h.0 back last alone.1 h.2))

-- ---- they are taken as well where the lane has looked

-- a lane that sees n commits
abbrev pub lane_answer : ℕ → ℕ → Machine → Machine
lane_answer lane value m = record m { lanes = slice_set m.lanes lane value }

other-lane : (other lane : ℕ) → not (other == lane) ≡ true → other ≢ lane
other-lane other lane e same = grind (arith, nat_tests)

module _ (lane value : ℕ) (another : 1 ≤ lane) where
  not-first : lane ≢ 0
  not-first e = omega (arith, e, another)

  next-lane_answer : (m : Machine) (step : Step) → leaves_alone lane step ≡ true → next (lane_answer lane value m) step ≡ lane_answer lane value (next m step)
  next-lane_answer m (steps.Begin commit) e = refl
  next-lane_answer m steps.Append e = refl
  next-lane_answer m steps.Show e =
      ap (λ (l : List ℕ). record m { shown = length m.commits; lanes = l }) (set_comm m.lanes lane 0 value (length m.commits) not-first)
  next-lane_answer m (steps.See other) e =
      ap (λ (l : List ℕ). record m { lanes = l }) (set_comm m.lanes lane other value m.shown (λ same. other-lane other lane e (sym same)))
  next-lane_answer m steps.Meet e = absurd (cc)
  next-lane_answer m (steps.Reply other request text) e = refl
  next-lane_answer m (steps.Crash kept) e = absurd (cc)
  next-lane_answer m steps.Reopen e = absurd (cc)

  allowed-lane_answer : (moment : ℤ) (m : Machine) (step : Step) → leaves_alone lane step ≡ true → machine.IsAllowed moment m step → machine.IsAllowed moment (lane_answer lane value m) step
  allowed-lane_answer moment m (steps.Begin commit) e h = h
  allowed-lane_answer moment m steps.Append e h = h
  allowed-lane_answer moment m steps.Show e h = h
  allowed-lane_answer moment m (steps.See other) e h = (h.0, h.1, omega (arith, h.2, length-set m.lanes lane value))
  allowed-lane_answer moment m steps.Meet e h = absurd (cc)
  allowed-lane_answer moment m (steps.Reply other request text) e h = (
    h.0,
    omega (arith, h.1, length-set m.lanes lane value),
    ap (λ (n : ℕ). is_reply (index_after m n) moment request text) (get_or-set_other m.lanes lane other value 0 (other-lane other lane e)) ∙ h.2,
  )
  allowed-lane_answer moment m (steps.Crash kept) e h = absurd (cc)
  allowed-lane_answer moment m steps.Reopen e h = absurd (cc)

  leaves-lane_answer : (moment : ℤ) (m : Machine) (step : Step) (new : Machine) → leaves_alone lane step ≡ true → machine.Leaves m step new → machine.Leaves (lane_answer lane value m) step (lane_answer lane value new)
  leaves-lane_answer moment m (steps.Begin commit) new e h = ap (lane_answer lane value) h
  leaves-lane_answer moment m steps.Append new e h = (h.0, h.1, ap (lane_answer lane value) h.2)
  leaves-lane_answer moment m steps.Show new e h = ap (lane_answer lane value) h ∙ sym (next-lane_answer m steps.Show e)
  leaves-lane_answer moment m (steps.See other) new e h = ap (lane_answer lane value) h ∙ sym (next-lane_answer m (steps.See other) e)
  leaves-lane_answer moment m steps.Meet new e h = absurd (cc)
  leaves-lane_answer moment m (steps.Reply other request text) new e h = ap (lane_answer lane value) h
  leaves-lane_answer moment m (steps.Crash kept) new e h = absurd (cc)
  leaves-lane_answer moment m steps.Reopen new e h = absurd (cc)

  pub runs-lane_answer : (moment : ℤ) (m : Machine) (back : List Step) (last : Machine) → LeaveAlone lane back → machine.Runs moment m back last → machine.Runs moment (lane_answer lane value m) back (lane_answer lane value last)
  runs-lane_answer moment m [] last alone h = ap (lane_answer lane value) h
  runs-lane_answer moment m (step ∷ back) last alone h = (
    lane_answer lane value h.0,
    record { allowed = allowed-lane_answer moment m step alone.0 h.1.allowed; after = leaves-lane_answer moment m step h.0 alone.0 h.1.after },
    runs-lane_answer moment h.0 back last alone.1 h.2,
  )

  -- what lanes do in them
  does-lane_answer : (phase : ℕ) (m : Machine) (step : Step) → leaves_alone lane step ≡ true → lane_steps_by phase (lane_answer lane value m) step ≡ lane_steps_by phase m step
  does-lane_answer phase m (steps.Begin commit) e = refl
  does-lane_answer phase m steps.Append e = refl
  does-lane_answer phase m steps.Show e = refl
  does-lane_answer phase m (steps.See other) e = refl
  does-lane_answer phase m steps.Meet e = refl
  does-lane_answer phase m (steps.Reply other request text) e =
      ap (λ (n : ℕ). reply_in phase (record { lane = other; revision = m.opening.revision + n; request = request; text = text }) ∷ []) (get_or-set_other m.lanes lane other value 0 (other-lane other lane e))
  does-lane_answer phase m (steps.Crash kept) e = refl
  does-lane_answer phase m steps.Reopen e = refl

  pub all-lane_answer : (phase : ℕ) (m : Machine) (back : List Step) → LeaveAlone lane back → lane_steps_from phase (lane_answer lane value m) back ≡ lane_steps_from phase m back
  all-lane_answer phase m [] alone = refl
  all-lane_answer phase m (step ∷ back) alone =
      ap (λ (l : List LaneStep). l ++ lane_steps_from (phase_after phase step) (next (lane_answer lane value m) step) back) (does-lane_answer phase m step alone.0)
      ∙ ap (λ (l : List LaneStep). lane_steps_by phase m step ++ l)
      (ap (λ (x : Machine). lane_steps_from (phase_after phase step) x back) (next-lane_answer m step alone.0) ∙ all-lane_answer (phase_after phase step) (next m step) back alone.1)

-- the lane does nothing in them

not-true : (b : Bool) → not b ≡ true → b ≡ false
not-true true e = absurd (cc)
not-true false e = refl

no-part : (other lane : ℕ) (step : LaneStep) (more : List LaneStep) → not (other == lane) ≡ true → step.lane ≡ other → filter (is_of_lane lane) (step ∷ more) ≡ filter (is_of_lane lane) more
no-part other lane step more e is =
    let away : is_of_lane lane step ≡ false = ap (λ (n : ℕ). n == lane) is ∙ not-true (other == lane) e in
    ap (λ (b : Bool). cond b (step ∷ filter (is_of_lane lane) more) (filter (is_of_lane lane) more)) away

pub idle-in : (lane phase : ℕ) (m : Machine) (back : List Step) → LeaveAlone lane back → filter (is_of_lane lane) (lane_steps_from phase m back) ≡ []
idle-in lane phase m [] alone = refl
idle-in lane phase m (steps.Begin commit ∷ back) alone = idle-in lane phase (next m (steps.Begin commit)) back alone.1
idle-in lane phase m (steps.Append ∷ back) alone = idle-in lane phase (next m steps.Append) back alone.1
idle-in lane phase m (steps.Show ∷ back) alone = idle-in lane phase (next m steps.Show) back alone.1
idle-in lane phase m (steps.See other ∷ back) alone =
    no-part other lane (lane_read_in phase other (m.opening.revision + m.shown)) (lane_steps_from phase (next m (steps.See other)) back) alone.0 refl
    ∙ idle-in lane phase (next m (steps.See other)) back alone.1
idle-in lane phase m (steps.Meet ∷ back) alone = absurd (cc)
idle-in lane phase m (steps.Reply other request text ∷ back) alone =
    no-part other lane (reply_in phase (record { lane = other; revision = m.opening.revision + slice_index m.lanes other; request = request; text = text })) (lane_steps_from phase m back) alone.0 refl
    ∙ idle-in lane phase m back alone.1
idle-in lane phase m (steps.Crash kept ∷ back) alone = absurd (cc)
idle-in lane phase m (steps.Reopen ∷ back) alone = absurd (cc)

-- ---- so in each lane the order of its own steps is the same

none-left : (lane : ℕ) (own back : List LaneStep) → filter (is_of_lane lane) own ≡ [] → filter (is_of_lane lane) (own ++ back) ≡ filter (is_of_lane lane) (back ++ own)
none-left lane own back none =
    filter-append (is_of_lane lane) own back
    ∙ (ap (λ (l : List LaneStep). l ++ filter (is_of_lane lane) back) none
    ∙ (sym (append-nil (filter (is_of_lane lane) back))
    ∙ (ap (λ (l : List LaneStep). filter (is_of_lane lane) back ++ l) (sym none) ∙ sym (filter-append (is_of_lane lane) back own))))

same-lane : (who lane : ℕ) → (who == lane) ≡ true → who ≡ lane
same-lane who lane e = grind (arith, nat_tests)

either-way : (same : Bool) (lane : ℕ) (own back : List LaneStep) → filter (is_of_lane lane) own ≡ (if same then own else []) → (same ≡ true → filter (is_of_lane lane) back ≡ [])
    → filter (is_of_lane lane) (own ++ back) ≡ filter (is_of_lane lane) (back ++ own)
either-way true lane own back mine idle = sym (none-left lane back own (idle refl))
either-way false lane own back mine idle = none-left lane own back mine

swapped : (lane who : ℕ) (own back : List LaneStep) → AllByRecursion (λ (step : LaneStep). step.lane ≡ who) own → filter (is_of_lane who) back ≡ []
    → filter (is_of_lane lane) (own ++ back) ≡ filter (is_of_lane lane) (back ++ own)
swapped lane who own back mine idle =
    either-way (who == lane) lane own back (filter-lane lane who own mine) (λ e. subst (λ (n : ℕ). filter (is_of_lane n) back ≡ []) (same-lane who lane e) idle)

-- after others
pub swapped-behind : (lane who : ℕ) (front own back : List LaneStep) → AllByRecursion (λ (step : LaneStep). step.lane ≡ who) own → filter (is_of_lane who) back ≡ []
    → filter (is_of_lane lane) (front ++ (own ++ back)) ≡ filter (is_of_lane lane) ((front ++ back) ++ own)
swapped-behind lane who front own back mine idle =
    filter-append (is_of_lane lane) front (own ++ back)
    ∙ (ap (λ (l : List LaneStep). filter (is_of_lane lane) front ++ l) (swapped lane who own back mine idle)
    ∙ (sym (filter-append (is_of_lane lane) front (back ++ own)) ∙ ap (filter (is_of_lane lane)) (sym (append_assoc front back own))))
