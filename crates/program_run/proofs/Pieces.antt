-- Calls of the source that filled what they were handed.
use Rattle.std.proofs.Common.{◌≡◌, ◌==◌, ℕ, ◌+◌, ◌-◌, ◌*◌, ◌≤◌, ◌<◌, Bool, true, false, min, refl, List, ◌++◌, length, Option, Some, sym, ap, ◌∙◌, subst, arith, length-append, if◌then◌else◌}
use Rattle.std.specs.Prelude.{max}
use Rattle.std.specs.Io.KnownBytes.{Consumes}
use Rattle.std.proofs.KnownBytes.{Consumes-trans}
use Rattle.std.proofs.lemmas.Bool.Decides.{nat_tests}
use Rattle.map_io.specs.SinkTold.{CountsMore, CountsAtMost}
use Rattle.map_io.proofs.SinkLaws.{CountsAtMost-zero, CountsAtMost-trans, CountsAtMost-weaker, CountsAtMost-from_more}
use Rattle.map_session.specs.Answering.{Moment}
use Rattle.program_run.specs.Run.{script_limit, FillsPieces, IsReading, ReadsPieces}

pub pieces_at_first : (filled : Option ℕ) → FillsPieces filled filled 0
pieces_at_first filled = (0, CountsAtMost-zero filled, omega arith)

-- nothing is asked of the source
pub no_pieces : (rest : Option (List ℕ)) (filled : Option ℕ) → ReadsPieces rest rest filled filled
no_pieces rest filled = λ left left' is is'. (0, CountsAtMost-zero filled, omega arith)

-- A call that is handed what fits a piece and the script: where it is filled, a piece more came, or the script is at its limit.
module _ (first mid last : Option ℕ) (taken given piece : ℕ) (within : taken + given ≤ script_limit) (some : 1 ≤ given)
    (size : piece ≡ max 1 (min 4096 (script_limit - taken))) (front : FillsPieces first mid taken) where
  pieces_by : (whole : Bool) → (given == piece) ≡ whole → CountsMore mid last (if whole then 1 else 0) → FillsPieces first last (taken + given)
  pieces_by true is more =
      let same : given ≡ piece = grind (arith, nat_tests, is) in
      (front.0 + 1, CountsAtMost-trans first mid last front.0 1 front.1 (CountsAtMost-from_more mid last 1 more), omega (arith, front.2, same, size, within, some))
  pieces_by false is more =
      (front.0 + 0, CountsAtMost-trans first mid last front.0 0 front.1 (CountsAtMost-from_more mid last 0 more), omega (arith, front.2))

  pub pieces_more : CountsMore mid last (if given == piece then 1 else 0) → FillsPieces first last (taken + given)
  pieces_more more = pieces_by (given == piece) refl more

-- the last call
at_most_one : (mid last : Option ℕ) (whole : Bool) → CountsMore mid last (if whole then 1 else 0) → CountsAtMost mid last 1
at_most_one mid last true more = CountsAtMost-from_more mid last 1 more
at_most_one mid last false more = CountsAtMost-weaker mid last 0 1 (omega arith) (CountsAtMost-from_more mid last 0 more)

consumed_length : (left left' bytes : List ℕ) → left ≡ bytes ++ left' → length left ≡ length bytes + length left'
consumed_length left left' bytes is = ap length is ∙ length-append bytes left'

module _ (rest before rest' : Option (List ℕ)) (start now : Moment) (taken : ℕ) (begun bytes : List ℕ) (r : IsReading rest start taken before begun now)
    (c : Consumes before rest' bytes) (first mid last : Option ℕ) (front : FillsPieces first mid taken) where
  last_at_most : CountsAtMost mid last 1 → ReadsPieces rest rest' first last
  last_at_most more = λ left left' is is'.
      let all : Consumes rest rest' (r.text ++ bytes) = Consumes-trans rest before rest' r.text bytes r.consumed c in
      let split : Consumes (Some left) (Some left') (r.text ++ bytes) =
      subst (λ (o : Option (List ℕ)). Consumes o (Some left') (r.text ++ bytes)) is (subst (λ (o : Option (List ℕ)). Consumes rest o (r.text ++ bytes)) is' all) in
      let size = consumed_length left left' (r.text ++ bytes) split in
      (front.0 + 1, CountsAtMost-trans first mid last front.0 1 front.1 more, omega (arith, front.2, size, length-append r.text bytes, r.many))

  -- it gave so many bytes
  pub last_piece : (given piece : ℕ) → CountsMore mid last (if given == piece then 1 else 0) → ReadsPieces rest rest' first last
  last_piece given piece more = last_at_most (at_most_one mid last (given == piece) more)

  -- it failed
  pub no_last_piece : CountsMore mid last 0 → ReadsPieces rest rest' first last
  no_last_piece more = last_at_most (at_most_one mid last false more)
