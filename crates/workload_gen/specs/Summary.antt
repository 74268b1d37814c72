-- The summary of what the commands of a script were answered.
use Rattle.std.specs.Prelude.{ℕ, ◌+◌, ◌%◌, ◌^◌, List, ◌∷◌, [], ◌++◌, Option, Some, None, codes, decimal, fold, nat_lt, if◌then◌else◌}
use Rattle.map_model.specs.Answer.{Answer, Counted, NearestOne, Highest}
use Rattle.map_model.specs.Reply.{Reply, Answered, Refused}
use Rattle.map_model.specs.Cost.{Spent, SpentAtOnce, Cost, Untold, Updating, Joining, Asking}
use Rattle.map_model.specs.Output.{Told}
use Rattle.answer_text.specs.declared.reply.Reply as answers
use Rattle.answer_text.specs.Reply.{reply_of, cost_of}

-- what the commands were answered, added up; how many items are live stands elsewhere
pub record Summary : Type 0 where
  -- how many commands there were, and how many of them were refused
  pub commands : ℕ
  pub refused : ℕ
  -- the answers of `count`, added up
  pub counted : ℕ
  -- the identifiers that `near` and `top` gave, added up modulo 2 ^ 64
  pub ids : ℕ
  -- what all questions cost
  pub parts : ℕ
  pub touches : ℕ
  -- the accepted update of the most turns, and of several the first
  pub largest : Option Spent

-- the summary of no commands
abbrev pub no_commands : Summary
no_commands = record { commands = 0; refused = 0; counted = 0; ids = 0; parts = 0; touches = 0; largest = None }

-- ---- one more command

-- what an answer adds to what was counted
abbrev pub count_in : Answer → ℕ
count_in (Counted n) = n
count_in _ = 0

-- the identifier that an answer gives, 0 where it gives none
abbrev pub id_in : Answer → ℕ
id_in (NearestOne (Some found)) = found.id
id_in (Highest (Some peak)) = peak.id
id_in _ = 0

-- one more answer
abbrev pub with_answer : Answer → Summary → Summary
with_answer answer s = record s { counted = s.counted + count_in answer; ids = (s.ids + id_in answer) % 2 ^ 64 }

-- one more reply
abbrev pub with_reply : Reply → Summary → Summary
with_reply (Refused cause) s = record s { refused = s.refused + 1 }
with_reply (Answered answer) s = with_answer answer s
with_reply _ s = s

-- of the most turns, and of several the first
abbrev pub larger : Option Spent → Spent → Spent
larger None spent = spent
larger (Some most) spent = if nat_lt most.turns spent.turns then spent else most

-- an update where parts are joined at once, with the bound of the turns of all such updates
abbrev pub of_joining : SpentAtOnce → Spent
of_joining s = record { turns = s.turns; turn_bound = s.turn_bound; marks = s.marks; mark_bound = s.mark_bound }

-- one more cost
abbrev pub with_cost : Cost → Summary → Summary
with_cost Untold s = s
with_cost (Updating spent) s = record s { largest = Some (larger s.largest spent) }
with_cost (Joining spent) s = record s { largest = Some (larger s.largest (of_joining spent)) }
with_cost (Asking asked) s = record s { parts = s.parts + asked.parts; touches = s.touches + asked.touches }

-- the summary with one more command that was answered
abbrev pub told_more : Summary → Told → Summary
told_more s told = record (with_cost told.cost (with_reply told.reply s)) { commands = s.commands + 1 }

-- the summary of all answers, the first one first
abbrev pub summary_of : List Told → Summary
summary_of told = fold told_more no_commands told

-- a reply with what it cost, as the definitions have it
abbrev pub told_of : answers.Reply → Told
told_of reply = record { reply = reply_of reply; cost = cost_of reply }

-- ---- its lines

-- a word, a space, a number and a line feed
abbrev pub number_line : List ℕ → ℕ → List ℕ
number_line word n = word ++ 32 ∷ decimal n ++ 10 ∷ []

-- the turns of the update of the most turns, 0 where there is none
abbrev pub most_turns : Option Spent → ℕ
most_turns None = 0
most_turns (Some spent) = spent.turns

-- the bound of its turns, 0 where there is none
abbrev pub most_bound : Option Spent → ℕ
most_bound None = 0
most_bound (Some spent) = spent.turn_bound

-- the last line: turns and bound of that update
abbrev pub largest_line : Option Spent → List ℕ
largest_line most = codes "largest " ++ decimal (most_turns most) ++ 47 ∷ decimal (most_bound most) ++ 10 ∷ []

-- the summary in eight lines, with the number of live items
abbrev pub summary_text : Summary → (live : ℕ) → List ℕ
summary_text s live =
    number_line (codes "commands") s.commands
    ++ number_line (codes "refused") s.refused
    ++ number_line (codes "live") live
    ++ number_line (codes "counted") s.counted
    ++ number_line (codes "ids") s.ids
    ++ number_line (codes "parts") s.parts
    ++ number_line (codes "touches") s.touches
    ++ largest_line s.largest
