-- What became of lines, as C has it.
use Rattle.std.specs.Prelude.{◌≡◌, ℕ}
use Rattle.map_session.specs.declared.session.Done.{Done}
use Rattle.map_session.specs.declared.session.Done.TheVariants as done
use Rattle.livemap_c.specs.declared.status.Status.{Status}
use Rattle.livemap_c.specs.declared.status.Status.TheVariants.{Answered, Refused, Silent, NoMemory, WornOut}

-- a status as C has it
abbrev pub code_of : Status → ℕ
code_of Answered = 0
code_of Refused = 1
code_of Silent = 2
code_of NoMemory = 3
code_of WornOut = 4

-- what became of a line whose answer was written
abbrev pub status_of_done : Done → Status
status_of_done done.Answered = Answered
status_of_done done.Refused = Refused
status_of_done done.Silent = Silent

-- The number is that of a status of which P holds.
abbrev pub OnStatus : ℕ → (Status → Type 0) → Type 0
OnStatus code P = (status : Status) × (code ≡ code_of status) × P status
