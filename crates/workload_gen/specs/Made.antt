-- Made scripts: the commands that a seed and a size stand for.
use Rattle.std.specs.Prelude.{◌≡◌, ◌==◌, ℕ, zero, suc, ◌+◌, ◌-◌, ◌*◌, ◌/◌, ◌%◌, ◌^◌, Bool, true, false, not, ◌&&◌, List, [], ◌∷◌, Option, Some, None, codes, if◌then◌else◌}
use Rattle.map_model.specs.Shape as shapes
use Rattle.map_model.specs.Answer as questions
use Rattle.map_model.specs.Command.{Command, MakeLayer, Add, Drop, Ask}
use Rattle.map_model.specs.Line as lines
use Rattle.map_model.specs.Version.{One}
use Rattle.map_questions.specs.Any.{point_question_of}
use Rattle.map_questions.specs.declared.any_question.PointQuestion.{PointQuestion}
use Rattle.script_lang.specs.declared.command.Command as script
use Rattle.script_lang.specs.Command.{command_of}

-- ---- drawn numbers

-- the generator's state after a draw, of 64 bits
abbrev pub stepped : ℕ → ℕ
stepped state = (state * 6364136223846793005 + 1442695040888963407) % 2 ^ 64

-- the number that a draw gives, of 32 bits, by the state after it
abbrev pub upper_half : ℕ → ℕ
upper_half state = state / 2 ^ 32

-- the same as a coordinate below 2 ^ 20
abbrev pub coordinate : ℕ → ℕ
coordinate state = upper_half state / 4096

-- the same as a weight below 2 ^ 10
abbrev pub weight : ℕ → ℕ
weight state = upper_half state / 4194304

-- ---- a round

-- Between two rounds: the generator's state, and the live identifiers, which are those from `first` on and below `next`.
pub record Between : Type 0 where
  pub state : ℕ
  pub first : ℕ
  pub next : ℕ

-- a round's command, and what stands after it
pub record Round : Type 0 where
  pub command : Command
  pub after : Between

-- after one draw
abbrev pub drawn : Between → Between
drawn b = record b { state = stepped b.state }

-- after two draws
abbrev pub drawn_twice : Between → Between
drawn_twice b = drawn (drawn b)

-- after three draws
abbrev pub drawn_thrice : Between → Between
drawn_thrice b = drawn (drawn_twice b)

-- the name of the layer
abbrev pub made : List ℕ
made = codes "made"

-- an identifier is live
abbrev pub has_live : Between → Bool
has_live b = not (b.first == b.next)

-- a point of three draws: its x, its y and its weight
abbrev pub drawn_point : Between → shapes.Shape
drawn_point b = shapes.Point (coordinate (drawn b).state) (coordinate (drawn_twice b).state) (weight (drawn_thrice b).state)

-- adds the next identifier, with a drawn point
abbrev pub add_round : Between → Round
add_round b = record { command = Add made b.next (drawn_point b); after = record (drawn_thrice b) { next = b.next + 1 } }

-- drops the first live identifier
abbrev pub drop_first : Between → Round
drop_first b = record { command = Drop made b.first; after = record b { first = b.first + 1 } }

-- drops the last live identifier
abbrev pub drop_last : Between → Round
drop_last b = record { command = Drop made (b.next - 1); after = record b { next = b.next - 1 } }

-- 65,536 by 65,536 places, from a corner on
abbrev pub square_from : ℕ → ℕ → shapes.Rect
square_from x y = record { x1 = x; y1 = y; x2 = x + 65535; y2 = y + 65535 }

-- counts the points of a drawn square
abbrev pub count_round : Between → Round
count_round b = record {
  command = Ask made (questions.CountIn (square_from (coordinate (drawn b).state) (coordinate (drawn_twice b).state)));
  after = drawn_twice b;
}

-- asks for the point that is nearest to a drawn place
abbrev pub near_round : Between → Round
near_round b = record {
  command = Ask made (questions.Near (coordinate (drawn b).state) (coordinate (drawn_twice b).state));
  after = drawn_twice b;
}

-- asks for the highest point of a drawn span
abbrev pub top_round : Between → Round
top_round b = record {
  command = Ask made (questions.Top (coordinate (drawn b).state) (coordinate (drawn b).state + 65535));
  after = drawn b;
}

-- The round of a number below ten: 0 to 4 add, 5 drops the first identifier, 6 the last one, 7 counts, 8 asks for the nearest point, 9 for
-- the highest one. A round that would drop an item where none is live adds one.
abbrev pub round_by : ℕ → Between → Round
round_by number b =
    if number == 7 then count_round b
    else if number == 8 then near_round b
    else if number == 9 then top_round b
    else if (number == 5) && has_live b then drop_first b
    else if (number == 6) && has_live b then drop_last b
    else add_round b

-- the round of the next draw, modulo ten
abbrev pub round : Between → Round
round b = round_by (upper_half (drawn b).state % 10) (drawn b)

-- ---- a script

-- the command before all rounds: the layer of points `made`, with the indexes range, near and top
abbrev pub layer : Command
layer = MakeLayer made shapes.Points (record { range = true; near = true; top = true; stab = false; cross = false; batch = false })

-- before the first round no identifier is live, and the seed is the generator's state
abbrev pub before_all : (seed : ℕ) → Between
before_all seed = record { state = seed; first = 0; next = 0 }

-- the commands of so many rounds
abbrev pub rounds_from : ℕ → Between → List Command
rounds_from zero b = []
rounds_from (suc n) b = (round b).command ∷ rounds_from n (round b).after

-- the script of a seed and a size: the command that makes the layer, and as many rounds
abbrev pub made_script : (seed size : ℕ) → List Command
made_script seed size = layer ∷ rounds_from size (before_all seed)

-- ---- a script that is given command by command

-- what is to come: with the first command, where it wasn't given
abbrev pub to_come : (is_begun : Bool) → (rounds : ℕ) → Between → List Command
to_come false rounds b = layer ∷ rounds_from rounds b
to_come true rounds b = rounds_from rounds b

-- The first command to come is given, which a line of version 1 can say, and the others are to come after it; none where there is none.
abbrev pub GivesCommand : List Command → Option script.Command → List Command → Type 0
GivesCommand [] None after = after ≡ []
GivesCommand [] (Some given) after = ⊥
GivesCommand (command ∷ commands) None after = ⊥
GivesCommand (command ∷ commands) (Some given) after = (command_of given ≡ command) × lines.IsCommand One (command_of given) × (after ≡ commands)

-- ---- a question to the layer

abbrev pub asks : PointQuestion → Command
asks question = Ask made (point_question_of question)

abbrev pub IsQuestion : PointQuestion → Type 0
IsQuestion question = lines.IsQuestion One (point_question_of question)
