-- Rooms for the parts that the next insert builds.
use Rattle.std.proofs.Common.{◌≡◌, ℕ, suc, ◌+◌, ◌*◌, ◌^◌, ◌<◌, ◌≤◌, ⊎_elim, Option, Some, None, List, [], ◌∷◌, length, refl, ap, arith, pow_mono}
use Rattle.std.proofs.Math.Nat.{pow-suc}
use Rattle.std.proofs.lemmas.Bool.{cases_lt}
use Rattle.builder_trait.specs.Parts.{Contents, live_of}
use Rattle.binary_stack.specs.Levels.{AreSameLevels}
use Rattle.binary_stack.specs.Rooms.{IsRoomFor, HaveRooms}

-- a power of two that is less than twice another is no greater
pub not_above : (m a b : ℕ) → 2 ^ b ≤ m → m < 2 * 2 ^ a → b ≤ a
not_above m a b low high = ⊎_elim
    (λ less.
    let up : suc a ≤ b = omega (arith, less) in
    let raised : 2 ^ suc a ≤ 2 ^ b = pow_mono up in
    absurd (omega (arith, low, high, pow-suc 2 a, raised)))
    (λ more. more)
    (cases_lt a b)

module _ {P Item : Type 0} (contents : P → Contents Item) where
  -- the first room, and the others
  pub first_room : (carried : ℕ) (p : P) (above : List (Option P)) (rooms : List ℕ) → HaveRooms contents carried (Some p ∷ above) rooms
      → (size : ℕ) × (rest : List ℕ) × (rooms ≡ size ∷ rest) × IsRoomFor contents carried size p
      × HaveRooms contents (carried + length (live_of (contents p))) above rest
  first_room carried p above [] h = absurd h
  first_room carried p above (size ∷ rest) h = (size, rest, refl, h.0, h.1)

  -- where items died, the rooms are still enough
  pub HaveRooms-marked : (carried fewer : ℕ) (old new : List (Option P)) (rooms : List ℕ) → fewer ≤ carried → AreSameLevels contents old new
      → HaveRooms contents carried old rooms → HaveRooms contents fewer new rooms
  HaveRooms-marked carried fewer [] [] rooms less same h = tt
  HaveRooms-marked carried fewer [] (l' ∷ new) rooms less same h = absurd same
  HaveRooms-marked carried fewer (l ∷ old) [] rooms less same h = absurd same
  HaveRooms-marked carried fewer (l ∷ old) (None ∷ new) rooms less same h = tt
  HaveRooms-marked carried fewer (None ∷ old) (Some q ∷ new) rooms less same h = absurd (omega (arith, same.0.parts))
  HaveRooms-marked carried fewer (Some p ∷ old) (Some q ∷ new) [] less same h = absurd h
  HaveRooms-marked carried fewer (Some p ∷ old) (Some q ∷ new) (size ∷ rooms) less same h =
      let items : length (contents q).items ≡ length (contents p).items = ap length same.0.items in (
        record { fits = omega (arith, h.0.fits, items); carried_fits = omega (arith, h.0.carried_fits, less) },
        HaveRooms-marked (carried + length (live_of (contents p))) (fewer + length (live_of (contents q))) old new rooms
            (omega (arith, less, same.0.live)) same.1 h.1,
      )
