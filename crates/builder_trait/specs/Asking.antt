-- What contracts see of a question that is put to parts, and of its sealed answer.
use Rattle.std.specs.Prelude.{ℕ, Bool}

-- A question that is put to parts: the question, the answer over the parts consulted so far, how many these are, how many live items they have
-- together, whether memory may be refused, and whether it was refused, so that the question is given up.
pub record OpenQuestion (Question Answer : Type 0) : Type 0 where
  pub question : Question
  pub so_far : Answer
  pub parts : ℕ
  pub live : ℕ
  pub refusable : Bool
  pub is_given_up : Bool

-- a question, its answer, how many parts were consulted for it, and how many live items these had together
pub record SealedAnswer (Question Answer : Type 0) : Type 0 where
  pub question : Question
  pub answer : Answer
  pub parts : ℕ
  pub live : ℕ
