-- The load of a number: the text of a scenario that anybody can make again.
use Rattle.std.specs.Prelude.{ℕ, zero, suc, ◌+◌, ◌*◌, ◌/◌, ◌%◌, ◌-◌, List, [], ◌∷◌, ◌++◌, false, codes}
use Rattle.std.specs.Fmt.{decimal, digit_glyph}
use Rattle.rk_model.specs.Text.Schedules.{text_of_lines}
use Rattle.rk_scenario.specs.declared.generator.Activity.{Activity}
use Rattle.rk_scenario.specs.declared.generator.TheConstants.{TASKS}

-- ---- what is drawn

-- the generator's number after one more draw
abbrev pub next_number : ℕ → ℕ
next_number x = (1664525 * x + 1013904223) % 4294967296

-- the generator's number after so many draws
unfoldable pub after_draws : ℕ → ℕ → ℕ
after_draws x zero = x
after_draws x (suc n) = after_draws (next_number x) n

-- what is drawn of so many numbers from 0 on, where the generator's number is x after the draw
abbrev pub drawn : ℕ → ℕ → ℕ
drawn x choices = x / 65536 % choices

-- What is drawn for the body of a task by the next five draws: the ticks of its period, the semaphore that it obtains, the ticks that it computes with and without it, and the task to which it sends an event.
abbrev pub activity_drawn : ℕ → Activity
activity_drawn x = record {
  period = 20 + 10 * drawn (after_draws x 1) 20;
  semaphore = 1 + drawn (after_draws x 2) 8;
  owning = 1 + drawn (after_draws x 3) 4;
  afterwards = 1 + drawn (after_draws x 4) 8;
  receiver = 1 + drawn (after_draws x 5) 32;
}

-- The priority that the next draw gives a task.
abbrev pub priority_drawn : ℕ → ℕ
priority_drawn x = 10 + drawn (after_draws x 1) 100

-- ---- numbers of a fixed length

-- three decimal digits
abbrev pub three_digits : ℕ → List ℕ
three_digits n = (48 + n / 100) ∷ (48 + n / 10 % 10) ∷ (48 + n % 10) ∷ []

-- two hexadecimal digits in lower case
abbrev pub two_hex_digits : ℕ → List ℕ
two_hex_digits n = digit_glyph false (n / 16) ∷ digit_glyph false (n % 16) ∷ []

-- ---- lines

-- The lines in front of the tasks' bodies: the processors and the limits, and the body that makes the semaphores, four of each kind.
unfoldable pub front_lines : List (List ℕ)
front_lines =
    codes "rtems 1"
    ∷ codes "cluster 2" ∷ codes "cluster 2" ∷ codes "cluster 2" ∷ codes "cluster 2"
    ∷ codes "ticks 10000"
    ∷ codes "limit 1000000"
    ∷ codes "body b0"
    ∷ codes "sem.create BUS0 1 binary fifo mrsp 5 v0"
    ∷ codes "sem.create BUS1 1 binary fifo mrsp 5 v0"
    ∷ codes "sem.create BUS2 1 binary fifo mrsp 5 v0"
    ∷ codes "sem.create BUS3 1 binary fifo mrsp 5 v0"
    ∷ codes "sem.create INH0 1 binary priority inherit 0 v0"
    ∷ codes "sem.create INH1 1 binary priority inherit 0 v0"
    ∷ codes "sem.create INH2 1 binary priority inherit 0 v0"
    ∷ codes "sem.create INH3 1 binary priority inherit 0 v0"
    ∷ codes "end"
    ∷ []

-- the line that begins the body of the task of an index
unfoldable pub body_line : ℕ → List ℕ
body_line index = codes "body b" ++ decimal index

-- the line that creates the period of the task of an index
unfoldable pub create_line : ℕ → List ℕ
create_line index = codes "period.create P" ++ three_digits index ++ codes " v0"

-- the line that begins the next job of a period of so many ticks
unfoldable pub next_job_line : ℕ → List ℕ
next_job_line ticks = codes "period.period v0 " ++ decimal ticks

-- the line that obtains the semaphore of an index
unfoldable pub obtain_line : ℕ → List ℕ
obtain_line semaphore = codes "sem.obtain 0x1a01000" ++ decimal semaphore ++ codes " 0"

-- a line of work
unfoldable pub work_line : ℕ → List ℕ
work_line ticks = codes "work " ++ decimal ticks

-- the line that releases the semaphore of an index
unfoldable pub release_line : ℕ → List ℕ
release_line semaphore = codes "sem.release 0x1a01000" ++ decimal semaphore

-- the line that sends an event to the task of an index
unfoldable pub send_line : ℕ → List ℕ
send_line receiver = codes "event.send 0x0a0100" ++ two_hex_digits receiver ++ codes " 1"

-- The body of the task of an index.
abbrev pub body_lines : ℕ → Activity → List (List ℕ)
body_lines index a =
    body_line index
    ∷ create_line index
    ∷ next_job_line a.period
    ∷ obtain_line a.semaphore
    ∷ work_line a.owning
    ∷ release_line a.semaphore
    ∷ work_line a.afterwards
    ∷ send_line a.receiver
    ∷ codes "goto 2"
    ∷ codes "end"
    ∷ []

-- The line that starts the task of an index.
unfoldable pub init_line : ℕ → ℕ → ℕ → List ℕ
init_line index cluster priority = codes "init T" ++ three_digits index ++ codes " " ++ decimal cluster ++ codes " " ++ decimal priority ++ codes " b" ++ decimal index

-- ---- the whole text

-- the bodies of n tasks, from an index on; each is drawn after the one before it
abbrev pub bodies_among : ℕ → ℕ → ℕ → List (List ℕ)
bodies_among index x zero = []
bodies_among index x (suc n) = body_lines index (activity_drawn x) ++ bodies_among (index + 1) (after_draws x 5) n

-- The bodies of the tasks, from an index on.
unfoldable pub bodies_from : ℕ → ℕ → List (List ℕ)
bodies_from index x = bodies_among index x (TASKS + 1 - index)

-- the lines that start n tasks, from an index on; each priority is drawn after the one before it
abbrev pub inits_among : ℕ → ℕ → ℕ → List (List ℕ)
inits_among index x zero = []
inits_among index x (suc n) = init_line index (index % 4) (priority_drawn x) ∷ inits_among (index + 1) (after_draws x 1) n

-- The lines that start the tasks, from an index on.
unfoldable pub inits_from : ℕ → ℕ → List (List ℕ)
inits_from index x = inits_among index x (TASKS + 1 - index)

-- The lines of the load of a number: those in front, the bodies, and the lines that start the tasks. The generator starts with the number, and all bodies are drawn first.
abbrev pub load_lines : ℕ → List (List ℕ)
load_lines n = front_lines ++ bodies_from 1 n ++ init_line 0 0 1 ∷ inits_from 1 (after_draws n (5 * TASKS))

-- The load of a number.
abbrev pub load_text : ℕ → List ℕ
load_text n = text_of_lines (load_lines n)
