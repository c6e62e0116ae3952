-- The text of a history: its schedule. It is a list of lines, each of which is given here without its line feed.
use Rattle.std.specs.Prelude.{ℕ, zero, suc, ◌+◌, ◌-◌, List, [], ◌∷◌, ◌++◌, Bool, true, false, Option, Some, None, slice_get, codes, ◌==◌, if◌then◌else◌}
use Rattle.std.specs.Fmt.{decimal, digits}
use Rattle.rk_model.specs.declared.limits.TheConstants.{MOST_OBJECTS}
use Rattle.rk_model.specs.declared.ids.Class.TheVariants.{Period}
use Rattle.rk_model.specs.declared.period.Stats.{Stats}
use Rattle.rk_model.specs.declared.scenario.Scenario.{Scenario}
use Rattle.rk_model.specs.declared.scenario.Body.{Body}
use Rattle.rk_model.specs.declared.scenario.Op.{Op}
use Rattle.rk_model.specs.Text.Forms.{word_of}
use Rattle.rk_model.specs.declared.entry.Entry.{Entry}
use Rattle.rk_model.specs.declared.entry.View.{View}
use Rattle.rk_model.specs.declared.entry.View.TheVariants.{Idle, Spins, Runs}
use Rattle.rk_model.specs.declared.entry.What.{What}
use Rattle.rk_model.specs.declared.entry.What.TheVariants.{Call, Return, Tick, End}
use Rattle.rk_model.specs.Ids.{id_of}
use Rattle.rk_model.specs.State.{Plain, op_at, period_at}
use Rattle.rk_model.specs.Scheduling.Running.{running}
use Rattle.rk_model.specs.Scheduling.Seats.{cpu_count}
use Rattle.rk_model.specs.Directives.Lines.{kind_of, is_act}
use Rattle.rk_model.specs.Histories.{opening, next_by, after, ends}
use Rattle.rk_model.specs.Statistics.{statistics}

-- The text of these lines: each line is followed by one line feed.
abbrev pub text_of_lines : List (List ℕ) → List ℕ
text_of_lines [] = []
text_of_lines (line ∷ lines) = line ++ 10 ∷ text_of_lines lines

-- ---- the words of directives

-- the word of a task's exit
unfoldable pub exit_word : List ℕ
exit_word = codes "task.exit"

-- the word of what stands at a line of a body; behind the last line it is the exit
abbrev pub first_word : Option Op → List ℕ
first_word None = exit_word
first_word (Some op) = word_of op

-- whether the line of an op is a directive: each is, but for work and a goto
abbrev pub is_directive : Op → Bool
is_directive op = is_act (kind_of op)

-- ---- the line of a directive

-- the name of a body
abbrev pub name_in : Option Body → List ℕ
name_in None = []
name_in (Some body) = body.name

-- the processor and the task of a directive
unfoldable pub seat_text : Entry → List ℕ
seat_text x = codes "p" ++ decimal x.seat ++ codes " t" ++ decimal x.task ++ codes " "

-- the body and the line of a directive
unfoldable pub place_text : Scenario → Entry → List ℕ
place_text s x = name_in (slice_get s.bodies x.body) ++ codes ":" ++ decimal x.line ++ codes " "

-- Which directive it is: the processor and the task, the body and the line, and the word.
unfoldable pub call_text : Scenario → Entry → List ℕ
call_text s x = seat_text x ++ place_text s x ++ first_word (op_at s x.body x.line)

-- a status in decimal and an out number in hexadecimal digits
unfoldable pub reply_text : ℕ → ℕ → List ℕ
reply_text status out = decimal status ++ 32 ∷ digits 16 false out

-- What it answers, behind the word: that it waits, or how it was done, or how it came back.
unfoldable pub answer_text : What → ℕ → ℕ → List ℕ
answer_text Call status out = if status == 255 then codes " waits" else codes " done " ++ reply_text status out
answer_text Return status out = codes " back " ++ reply_text status out
answer_text Tick status out = []
answer_text End status out = []

-- The line of a directive: which it is, and what it answers.
abbrev pub directive_line : Scenario → Entry → List ℕ
directive_line s x = call_text s x ++ answer_text x.what x.status x.out

-- ---- the line of a tick

-- what a processor does
unfoldable pub view_text : View → List ℕ
view_text Idle = codes " -"
view_text (Spins t) = codes " s" ++ decimal t
view_text (Runs t) = codes " t" ++ decimal t

-- what n processors do, from p on
abbrev pub views_from : Plain → ℕ → ℕ → List ℕ
views_from k p zero = []
views_from k p (suc n) = view_text (running k p) ++ views_from k (p + 1) n

-- The line of a tick that comes after the state k: the new present tick, and what each processor did before it.
unfoldable pub tick_line : Plain → List ℕ
tick_line k = codes "tick " ++ decimal (k.present + 1) ++ views_from k 0 (cpu_count k)

-- ---- the lines of periods

-- the id of a period, in hexadecimal digits
unfoldable pub period_text : ℕ → List ℕ
period_text index = codes "period " ++ digits 16 false (id_of Period index)

-- a number behind a space
abbrev pub number_text : ℕ → List ℕ
number_text n = 32 ∷ decimal n

-- Statistics: how many jobs ended and how many of them late, and then the least, the greatest and the sum of the ticks that they computed, and of those that elapsed in them.
unfoldable pub stats_text : Stats → List ℕ
stats_text stats =
    number_text stats.count ++ number_text stats.missed
    ++ number_text stats.cpu_least ++ number_text stats.cpu_greatest ++ number_text stats.cpu_total
    ++ number_text stats.wall_least ++ number_text stats.wall_greatest ++ number_text stats.wall_total

-- The line of a period: its id, and its statistics.
abbrev pub period_line : ℕ → Stats → List ℕ
period_line index stats = period_text index ++ stats_text stats

-- the lines of the period of an index, of which these are the statistics: one where it lives
abbrev pub lines_of_period : Plain → (ℕ → Stats) → ℕ → List (List ℕ)
lines_of_period k stats index = if (period_at k index).live then period_line index (stats index) ∷ [] else []

-- the lines of n periods, from an index on
abbrev pub period_lines_among : Plain → (ℕ → Stats) → ℕ → ℕ → List (List ℕ)
period_lines_among k stats index zero = []
period_lines_among k stats index (suc n) = lines_of_period k stats index ++ period_lines_among k stats (index + 1) n

-- The lines of the periods that live in a state, by their indices from one on, of which these are the statistics.
unfoldable pub period_lines_from : Plain → (ℕ → Stats) → ℕ → List (List ℕ)
period_lines_from k stats index = period_lines_among k stats index (MOST_OBJECTS + 1 - index)

-- The lines of the periods that live after a history, by their indices: of each the statistics of the jobs that the history shows.
abbrev pub period_lines : Scenario → List Entry → List (List ℕ)
period_lines s xs = period_lines_from (after s xs) (statistics s xs) 1

-- ---- the lines of a history

-- the lines of an entry that comes after the state k: one, but the end has none
abbrev pub lines_of_entry : Plain → Entry → What → List (List ℕ)
lines_of_entry k x Call = directive_line k.scenario x ∷ []
lines_of_entry k x Return = directive_line k.scenario x ∷ []
lines_of_entry k x Tick = tick_line k ∷ []
lines_of_entry k x End = []

-- The lines of entries that come after the state k, in their order.
abbrev pub entry_lines : Plain → List Entry → List (List ℕ)
entry_lines k [] = []
entry_lines k (x ∷ xs) = lines_of_entry k x x.what ++ entry_lines (next_by k x) xs

-- the first line
unfoldable pub header_line : List ℕ
header_line = codes "schedule 1"

-- The lines of a history: the first line, and those of its entries.
abbrev pub history_lines : Scenario → List Entry → List (List ℕ)
history_lines s xs = header_line ∷ entry_lines (opening s) xs

-- The text of those lines alone: what a schedule says of the entries, without how it ends.
abbrev pub history_text : Scenario → List Entry → List ℕ
history_text s xs = text_of_lines (history_lines s xs)

-- the last line: the horizon where the history ends with End, and else that it was cut
unfoldable pub final_line : Scenario → Bool → List ℕ
final_line s true = codes "end " ++ decimal s.horizon
final_line s false = codes "limit"

-- The lines of the schedule of a history: the first line and those of its entries, those of the periods that live after it, and the last line.
abbrev pub schedule_lines : Scenario → List Entry → List (List ℕ)
schedule_lines s xs = history_lines s xs ++ period_lines s xs ++ final_line s (ends xs) ∷ []

-- The schedule of a history.
abbrev pub schedule_text : Scenario → List Entry → List ℕ
schedule_text s xs = text_of_lines (schedule_lines s xs)
