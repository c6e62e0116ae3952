-- What holds of each state that a seat's actions lead to: its scenario is that of the opening, and it has at most 8 processors, as many as the scenario.
use Rattle.std.proofs.Common.{◌≡◌, ℕ, zero, suc, ◌≤◌, List, [], ◌∷◌, Option, None, Some, length, replicate, map, arith, refl, sym, ap, ◌∙◌, length-append}
use Rattle.rk_model.specs.declared.scenario.Scenario.{Scenario}
use Rattle.rk_model.specs.declared.entry.Entry.{Entry}
use Rattle.rk_model.specs.State.{Plain, ClusterState}
use Rattle.rk_model.specs.Scheduling.Seats.{all_cpus, cpu_count}
use Rattle.rk_model.specs.Steps.{Act, act}
use Rattle.rk_model.specs.Histories.{free_cluster, vacant, started, opening, after}
use Rattle.rk_model.specs.Text.Scenarios.{IsScenario, cpus_in}
use Rattle.rk_model.proofs.LimitLemmas.{limits_of}
use Rattle.rk_directives.specs.Sound.{KeepsLines}
use Rattle.rk_kernel.proofs.HistoryLemmas.{IsKept, Both, kept_act, kept_opening, kept_after}
use Rattle.rk_kernel.proofs.SoundSettlingLemmas.{cpus-settled}

-- a state that is sound, and of this scenario
abbrev pub Reached : Scenario → Plain → Type 0
Reached s k = Both (λ (j : Plain). j.scenario ≡ s) k

keeps_scenario : (s : Scenario) → IsKept (λ (k : Plain). k.scenario ≡ s)
keeps_scenario s = record { settled = λ k next last sound gentle same. gentle.scenario ∙ same; passed = λ k sound same. same }

pub reached_opening : (s : Scenario) → IsScenario s → Reached s (opening s)
reached_opening s is = kept_opening (λ (k : Plain). k.scenario ≡ s) (keeps_scenario s) s (limits_of s is) refl

pub reached_next : (s : Scenario) (k : Plain) (q : ℕ) (a : Act) → Reached s k → act k q ≡ Some a → Reached s a.next
reached_next s k q a reached did = kept_act (λ (j : Plain). j.scenario ≡ s) (keeps_scenario s) k q a reached did

pub reached_few : (s : Scenario) (k : Plain) → Reached s k → cpu_count k ≤ 8
reached_few s k reached = reached.0.few_cpus

pub reached_scenario : (s : Scenario) (k : Plain) → Reached s k → k.scenario ≡ s
reached_scenario s k reached = reached.1

length_replicate : (n : ℕ) → length (replicate {A = Option ℕ} n None) ≡ n
length_replicate zero = refl
length_replicate (suc n) = omega (arith, length_replicate n)

pub cpus_free : (ms : List ℕ) → length (all_cpus (map free_cluster ms)) ≡ cpus_in ms
cpus_free [] = refl
cpus_free (m ∷ ms) = length-append (replicate m None) (all_cpus (map free_cluster ms)) ∙ (rw (length_replicate m, cpus_free ms) refl)

-- at the opening there are the processors of the scenario
pub cpus_opening : (s : Scenario) → cpu_count (opening s) ≡ cpus_in s.clusters
cpus_opening s = cpus-settled (vacant s) (started s) [] ∙ cpus_free s.clusters

-- settling keeps how many there are
cpus_kept : (olds news : List ClusterState) → KeepsLines olds news → length (all_cpus news) ≡ length (all_cpus olds)
cpus_kept [] [] keeps = refl
cpus_kept [] (b ∷ news) keeps = absurd keeps
cpus_kept (a ∷ olds) [] keeps = absurd keeps
cpus_kept (a ∷ olds) (b ∷ news) keeps = length-append b.cpus (all_cpus news) ∙ (rw (keeps.1, cpus_kept olds news keeps.2) refl) ∙ sym (length-append a.cpus (all_cpus olds))

pub kept_count : (n : ℕ) → IsKept (λ k. cpu_count k ≡ n)
kept_count n = record {
  settled = λ k next last sound gentle e. cpus-settled k next last ∙ (cpus_kept k.clusters next.clusters gentle.lines ∙ e);
  passed = λ k sound e. e;
}

-- after each history there are the processors of the scenario
pub count_after : (s : Scenario) (xs : List Entry) → IsScenario s → cpu_count (after s xs) ≡ cpus_in s.clusters
count_after s xs is = (kept_after (λ k. cpu_count k ≡ cpus_in s.clusters) (kept_count (cpus_in s.clusters)) s xs is (cpus_free s.clusters)).1
