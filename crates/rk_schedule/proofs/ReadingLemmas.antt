-- What reading bytes comes to: the history whose schedule they are, or their fault.
use Rattle.std.proofs.Common.{◌≡◌, ℕ, List, Option, Some, None, Result, Ok, Err, sym, ap, ◌∙◌, subst}
use Rattle.std.specs.Prelude.{IfOk, IfErr}
use Rattle.rk_model.specs.declared.scenario.Scenario.{Scenario}
use Rattle.rk_model.specs.declared.entry.Entry.{Entry}
use Rattle.rk_model.specs.Recorded.{Recorded}
use Rattle.rk_model.specs.Histories.{opening}
use Rattle.rk_model.specs.Text.Scenarios.{IsScenario, cpus_in}
use Rattle.rk_model.specs.Text.ScheduleFaults.{ScheduleFault, IsScheduleOf, IsFaultOf, ScheduleFaultIs}
use Rattle.rk_kernel.proofs.StatisticsLaws.{statistics_shown}
use Rattle.rk_kernel.proofs.ReachedLemmas.{Reached, reached_opening, reached_next, reached_few, reached_scenario}
use Rattle.rk_schedule.specs.declared.errors.ScheduleError.{ScheduleError}
use Rattle.rk_schedule.specs.declared.errors.ScheduleError.TheVariants.{Refused, Memory}
use Rattle.rk_schedule.specs.Reading.{Verdict, verdict}
use Rattle.rk_schedule.specs.ReadingAnswers.{Reads, IsRefusal, Gives, Refuses}
use Rattle.rk_schedule.specs.ScheduleLaws.{OneHistory, OneAnswer}
use Rattle.rk_schedule.proofs.PeriodLineLemmas.{stored_shown}
use Rattle.rk_schedule.proofs.TogetherLemmas.{Keeps}
use Rattle.rk_schedule.proofs.CleanLemmas.{named_bodies, clean_schedule}
use Rattle.rk_schedule.proofs.VerdictLemmas.{Told, AreShown, verdict_told}
use Rattle.rk_schedule.proofs.OneFaultLemmas.{AllClean, one_answer, one_fault, not_both}
use Rattle.rk_schedule.proofs.OneHistoryLemmas.{one_history}

keeps : (s : Scenario) → Keeps s (Reached s)
keeps s = record { next = reached_next s; few = reached_few s; scenario = reached_scenario s }

shown : (s : Scenario) → IsScenario s → AreShown s
shown s is = λ ys legal. stored_shown s ys statistics_shown is legal

all_clean : (s : Scenario) → IsScenario s → AllClean s
all_clean s is = λ xs legal. clean_schedule s (Reached s) (keeps s) (reached_opening s is) (named_bodies s is) xs legal

-- what the machine says of bytes
pub told : (s : Scenario) (bytes : List ℕ) → IsScenario s → Told s bytes (verdict s (cpus_in s.clusters) (opening s) bytes)
told s bytes is = verdict_told s (Reached s) bytes (shown s is) (keeps s) (reached_opening s is)

-- a schedule is that of one history
pub schedule_once : OneHistory
schedule_once s xs ys is legal its e = one_history s (Reached s) (keeps s) (reached_opening s is) (all_clean s is) xs ys legal its e

answer_of : (s : Scenario) (bytes : List ℕ) (v : Verdict) → Told s bytes v → (fault : Option ScheduleFault) × ScheduleFaultIs s bytes fault
answer_of s bytes (Ok xs) is = (None, (xs, is))
answer_of s bytes (Err fault) is = (Some fault, is)

-- there is one answer to what is wrong with bytes
pub answered_once : OneAnswer
answered_once s bytes is =
    let a = answer_of s bytes (verdict s (cpus_in s.clusters) (opening s) bytes) (told s bytes is) in
    (a.0, a.1, λ other its. one_answer s bytes other a.0 (all_clean s is) its a.1)

-- ---- what was read

told_as : (s : Scenario) (bytes : List ℕ) (v w : Verdict) → v ≡ w → Told s bytes v → Told s bytes w
told_as s bytes v w e t = subst (Told s bytes) e t

pub history_read : (s : Scenario) (bytes : List ℕ) (result : Result Recorded ScheduleError) → IsScenario s → Reads result (verdict s (cpus_in s.clusters) (opening s) bytes) → IfOk result (λ (h : Recorded). IsScheduleOf s bytes h.entries)
history_read s bytes (Ok h) is e = told_as s bytes _ _ e (told s bytes is)
history_read s bytes (Err (Refused line why)) is e = tt
history_read s bytes (Err Memory) is e = tt

pub refusal_read : (s : Scenario) (bytes : List ℕ) (result : Result Recorded ScheduleError) → IsScenario s → Reads result (verdict s (cpus_in s.clusters) (opening s) bytes) → IfErr result (IsRefusal s bytes)
refusal_read s bytes (Ok h) is e = tt
refusal_read s bytes (Err (Refused line why)) is e = told_as s bytes _ _ e (told s bytes is)
refusal_read s bytes (Err Memory) is e = tt

pub only_read : (s : Scenario) (bytes : List ℕ) (result : Result Recorded ScheduleError) → IsScenario s → Reads result (verdict s (cpus_in s.clusters) (opening s) bytes) → (xs : List Entry) → IsScheduleOf s bytes xs → Gives result xs
only_read s bytes (Ok h) is e xs its =
    let mine = told_as s bytes _ _ e (told s bytes is) in
    schedule_once s h.entries xs is mine.finished.allowed.legal its.finished.allowed.legal (sym mine.text ∙ its.text)
only_read s bytes (Err (Refused line why)) is e xs its = not_both s bytes xs _ (all_clean s is) its (told_as s bytes _ _ e (told s bytes is))
only_read s bytes (Err Memory) is e xs its = tt

pub fault_read : (s : Scenario) (bytes : List ℕ) (result : Result Recorded ScheduleError) → IsScenario s → Reads result (verdict s (cpus_in s.clusters) (opening s) bytes) → (fault : ScheduleFault) → IsFaultOf s bytes fault → Refuses result fault
fault_read s bytes (Ok h) is e fault its = not_both s bytes h.entries fault (all_clean s is) (told_as s bytes _ _ e (told s bytes is)) its
fault_read s bytes (Err (Refused line why)) is e fault its =
    let mine : ScheduleFault = record { line = line; why = why } in
    let same : mine ≡ fault = one_fault s bytes mine fault (told_as s bytes _ _ e (told s bytes is)) its in
    (ap (λ (f : ScheduleFault). f.line) same, ap (λ (f : ScheduleFault). f.why) same)
fault_read s bytes (Err Memory) is e fault its = tt
