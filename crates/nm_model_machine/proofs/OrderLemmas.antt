-- Steps of the machine keep its order, and nothing falls along its runs.
-- For the proofs of `nothing_falls`, `only_what_is_shown_is_seen`, `what_was_met_is_seen` and others.
use Rattle.std.proofs.Common.{◌≡◌, ℕ, ℤ, Bool, true, false, zero, suc, ◌<◌, ◌≤◌, List, [], ◌∷◌, ◌++◌, length, get_or, set, refl, sym, ap, ◌∙◌, subst, arith, append-nil, append_assoc, length-append, length-set, replicate}
use Rattle.std.proofs.lemmas.List.{length-replicate}
use Rattle.nm_commit.specs.declared.change.Commit.{Commit}
use Rattle.nm_model_index.specs.declared.base.Base.{Base}
use Rattle.nm_model_machine.specs.Laws.{InOrder, NothingFalls, met_after}
use Rattle.nm_model_machine.specs.Machine.{Machine, Takes, Runs, commits_in_flight, left_by, start}
use Rattle.nm_model_machine.specs.declared.step.Step.{Step}
use Rattle.nm_model_machine.specs.declared.step.Step.TheVariants.{Begin, Append, Show, See, Meet, Reply, Crash, Reopen}

-- what is true of the value written, and of each other value, is true of each value after the write
set_cases : (P : ℕ → ℕ → Type 0) (xs : List ℕ) (i v k : ℕ) → k < length (set xs i v) → P k v → (k < length xs → P k (get_or xs k 0)) → P k (get_or (set xs i v) k 0)
set_cases P [] i v k h p q = absurd (omega (arith, length-set {A = ℕ}))
set_cases P (x ∷ xs) zero v zero h p q = p
set_cases P (x ∷ xs) zero v (suc k) h p q = q h
set_cases P (x ∷ xs) (suc i) v zero h p q = q (omega arith)
set_cases P (x ∷ xs) (suc i) v (suc k) h p q = set_cases (λ j y. P (suc j) y) xs i v k (omega arith) p (λ h'. q (omega arith))

get_or-replicate : (n v k : ℕ) → k < length (replicate n v) → get_or (replicate n v) k 0 ≡ v
get_or-replicate zero v k h = absurd (omega arith)
get_or-replicate (suc n) v zero h = refl
get_or-replicate (suc n) v (suc k) h = get_or-replicate n v k (omega arith)

pub start_order : (opening : Base) (lanes : ℕ) → InOrder 0 (start opening lanes)
start_order opening lanes = record {
  seen = λ lane h. omega arith;
  known = λ lane h. omega (arith, get_or-replicate lanes 0 lane h);
  last_barrier = omega arith;
  shown = omega arith;
}

-- a crash takes no commit away
left_more : (m : Machine) (kept : Bool) → (more : List Commit) × (left_by m kept ≡ m.commits ++ more)
left_more m true = (commits_in_flight m.in_flight, refl)
left_more m false = ([], sym (append-nil m.commits))

length_more : (early late : List Commit) → (more : List Commit) × (late ≡ early ++ more) → length early ≤ length late
length_more early late m = omega (arith, ap length m.1, length-append early m.0)

module _ (moment : ℤ) where
  pub take_keeps : (met : ℕ) (old : Machine) (step : Step) (new : Machine) → InOrder met old → Takes moment old step new → InOrder (met_after met old step) new
  take_keeps met old (Begin commit) new o t = subst (InOrder met) (sym t.after) (record { seen = o.seen; known = o.known; last_barrier = o.last_barrier; shown = o.shown })
  take_keeps met old Append new o t =
      subst (InOrder met) (sym t.after.2) (record { seen = o.seen; known = o.known; last_barrier = o.last_barrier; shown = omega (arith, o.shown, length-append old.commits (t.after.0 ∷ [])) })
  take_keeps met old Show new o t = subst (InOrder met) (sym t.after) (record {
    seen = λ lane h. set_cases (λ k v. met ≤ v) old.lanes 0 (length old.commits) lane h (omega (arith, o.last_barrier, o.shown)) (o.seen lane);
    known = λ lane h. set_cases (λ k v. v ≤ length old.commits) old.lanes 0 (length old.commits) lane h (omega arith) (λ h'. omega (arith, o.known lane h', o.shown));
    last_barrier = omega (arith, o.last_barrier, o.shown);
    shown = omega arith;
  })
  take_keeps met old (See at) new o t = subst (InOrder met) (sym t.after) (record {
    seen = λ lane h. set_cases (λ k v. met ≤ v) old.lanes at old.shown lane h o.last_barrier (o.seen lane);
    known = λ lane h. set_cases (λ k v. v ≤ old.shown) old.lanes at old.shown lane h (omega arith) (o.known lane);
    last_barrier = o.last_barrier;
    shown = o.shown;
  })
  take_keeps met old Meet new o t = subst (InOrder (length old.commits)) (sym t.after) (record {
    seen = λ lane h. omega (arith, t.allowed.1, get_or-replicate (length old.lanes) old.shown lane h);
    known = λ lane h. omega (arith, get_or-replicate (length old.lanes) old.shown lane h);
    last_barrier = omega (arith, t.allowed.1);
    shown = o.shown;
  })
  take_keeps met old (Reply lane request text) new o t = subst (InOrder met) (sym t.after) o
  take_keeps met old (Crash kept) new o t = subst (InOrder met) (sym t.after) (record {
    seen = o.seen;
    known = o.known;
    last_barrier = o.last_barrier;
    shown = omega (arith, o.shown, length_more old.commits (left_by old kept) (left_more old kept));
  })
  take_keeps met old Reopen new o t = subst (InOrder (length old.commits)) (sym t.after) (record {
    seen = λ lane h. omega (arith, get_or-replicate (length old.lanes) (length old.commits) lane h);
    known = λ lane h. omega (arith, get_or-replicate (length old.lanes) (length old.commits) lane h);
    last_barrier = omega arith;
    shown = omega arith;
  })

  -- what a barrier kept never falls
  met_rises : (met : ℕ) (old : Machine) (step : Step) → InOrder met old → met ≤ met_after met old step
  met_rises met old (Begin commit) o = omega arith
  met_rises met old Append o = omega arith
  met_rises met old Show o = omega arith
  met_rises met old (See lane) o = omega arith
  met_rises met old Meet o = omega (arith, o.last_barrier, o.shown)
  met_rises met old (Reply lane request text) o = omega arith
  met_rises met old (Crash kept) o = omega arith
  met_rises met old Reopen o = omega (arith, o.last_barrier, o.shown)

  -- where all see n, they see all below
  lower : (n met : ℕ) (m : Machine) → n ≤ met → InOrder met m → InOrder n m
  lower n met m h o = record { seen = λ lane l. omega (arith, o.seen lane l); known = o.known; last_barrier = omega (arith, o.last_barrier); shown = o.shown }

  pub run_keeps : (met : ℕ) (old : Machine) (steps : List Step) (new : Machine) → InOrder met old → Runs moment old steps new → InOrder met new
  run_keeps met old [] new o r = subst (InOrder met) (sym r) o
  run_keeps met old (step ∷ steps) new o r =
      run_keeps met r.0 steps new (lower met (met_after met old step) r.0 (met_rises met old step o) (take_keeps met old step r.0 o r.1)) r.2

  falls_not : (m : Machine) → NothingFalls m m
  falls_not m = record { commits = ([], sym (append-nil m.commits)); shown = omega arith; lanes = refl; seen = λ lane h. omega arith }

  falls_trans : (a b c : Machine) → NothingFalls a b → NothingFalls b c → NothingFalls a c
  falls_trans a b c p q = record {
    commits = (p.commits.0 ++ q.commits.0, q.commits.1 ∙ ap (λ l. l ++ q.commits.0) p.commits.1 ∙ append_assoc a.commits p.commits.0 q.commits.0);
    shown = omega (arith, p.shown, q.shown);
    lanes = q.lanes ∙ p.lanes;
    seen = λ lane h. let h' : lane < length b.lanes = omega (arith, p.lanes) in omega (arith, p.seen lane h, q.seen lane h');
  }

  take_falls_not : (met : ℕ) (old : Machine) (step : Step) (new : Machine) → InOrder met old → Takes moment old step new → NothingFalls old new
  take_falls_not met old (Begin commit) new o t =
      subst (NothingFalls old) (sym t.after) (record { commits = ([], sym (append-nil old.commits)); shown = omega arith; lanes = refl; seen = λ lane h. omega arith })
  take_falls_not met old Append new o t =
      subst (NothingFalls old) (sym t.after.2) (record { commits = (t.after.0 ∷ [], refl); shown = omega arith; lanes = refl; seen = λ lane h. omega arith })
  take_falls_not met old Show new o t = subst (NothingFalls old) (sym t.after) (record {
    commits = ([], sym (append-nil old.commits));
    shown = o.shown;
    lanes = length-set old.lanes 0 (length old.commits);
    seen = λ lane h. set_cases (λ k v. get_or old.lanes k 0 ≤ v) old.lanes 0 (length old.commits) lane (omega (arith, length-set old.lanes 0 (length old.commits)))
        (omega (arith, o.known lane h, o.shown)) (λ h'. omega arith);
  })
  take_falls_not met old (See at) new o t = subst (NothingFalls old) (sym t.after) (record {
    commits = ([], sym (append-nil old.commits));
    shown = omega arith;
    lanes = length-set old.lanes at old.shown;
    seen = λ lane h. set_cases (λ k v. get_or old.lanes k 0 ≤ v) old.lanes at old.shown lane (omega (arith, length-set old.lanes at old.shown)) (o.known lane h) (λ h'. omega arith);
  })
  take_falls_not met old Meet new o t = subst (NothingFalls old) (sym t.after) (record {
    commits = ([], sym (append-nil old.commits));
    shown = omega arith;
    lanes = length-replicate (length old.lanes) old.shown;
    seen = λ lane h. omega (arith, o.known lane h, get_or-replicate (length old.lanes) old.shown lane (omega (arith, length-replicate (length old.lanes) old.shown)));
  })
  take_falls_not met old (Reply lane request text) new o t = subst (NothingFalls old) (sym t.after) (falls_not old)
  take_falls_not met old (Crash kept) new o t =
      subst (NothingFalls old) (sym t.after) (record { commits = left_more old kept; shown = omega arith; lanes = refl; seen = λ lane h. omega arith })
  take_falls_not met old Reopen new o t = subst (NothingFalls old) (sym t.after) (record {
    commits = ([], sym (append-nil old.commits));
    shown = o.shown;
    lanes = length-replicate (length old.lanes) (length old.commits);
    seen = λ lane h. omega (arith, o.known lane h, o.shown, get_or-replicate (length old.lanes) (length old.commits) lane (omega (arith, length-replicate (length old.lanes) (length old.commits))));
  })

  run_falls_not : (met : ℕ) (old : Machine) (steps : List Step) (new : Machine) → InOrder met old → Runs moment old steps new → NothingFalls old new
  run_falls_not met old [] new o r = subst (NothingFalls old) (sym r) (falls_not old)
  run_falls_not met old (step ∷ steps) new o r =
      falls_trans old r.0 new (take_falls_not met old step r.0 o r.1) (run_falls_not (met_after met old step) r.0 steps new (take_keeps met old step r.0 o r.1) r.2)

  pub nothing_falls_along : (opening : Base) (lanes : ℕ) (before after : List Step) (early late : Machine) → Runs moment (start opening lanes) before early → Runs moment early after late → NothingFalls early late
  nothing_falls_along opening lanes before after early late r s =
      run_falls_not 0 early after late (run_keeps 0 (start opening lanes) before early (start_order opening lanes) r) s

  pub shown_alone : (opening : Base) (lanes : ℕ) (steps : List Step) (last : Machine) → Runs moment (start opening lanes) steps last → InOrder 0 last
  shown_alone opening lanes steps last r = run_keeps 0 (start opening lanes) steps last (start_order opening lanes) r

  pub met_is_seen : (opening : Base) (lanes : ℕ) (before after : List Step) (early met late : Machine)
      → Runs moment (start opening lanes) before early → Takes moment early Meet met → Runs moment met after late → InOrder (length early.commits) late
  met_is_seen opening lanes before after early met late r t s =
      run_keeps (length early.commits) met after late (take_keeps 0 early Meet met (shown_alone opening lanes before early r) t) s

  pub reopened_is_seen : (opening : Base) (lanes : ℕ) (before after : List Step) (early there late : Machine)
      → Runs moment (start opening lanes) before early → Takes moment early Reopen there → Runs moment there after late → InOrder (length early.commits) late
  reopened_is_seen opening lanes before after early there late r t s =
      run_keeps (length early.commits) there after late (take_keeps 0 early Reopen there (shown_alone opening lanes before early r) t) s
