-- Lines that are gathered into pieces of 64 bytes before a sink is given them.
use Rattle.std.specs.Prelude.{◌≡◌, ℕ, ◌+◌, ◌*◌, ◌/◌, ◌<◌, List, ◌++◌, length}
use Rattle.map_io.specs.SinkTold.{SinkTold, Delivers, CutOff}

-- So many lines were written, each in pieces of 64 bytes and one last.
abbrev pub DeliversLines : SinkTold → SinkTold → List ℕ → ℕ → Type 0
DeliversLines old new bytes lines = Delivers old new bytes ((length bytes + 63 * lines) / 64)

-- A proper prefix was written, in pieces of 64 bytes.
abbrev pub CutOffInPieces : SinkTold → SinkTold → List ℕ → Type 0
CutOffInPieces old new bytes = CutOff old new bytes (length bytes / 64)

-- Bytes went through a piece: what was in it and the bytes are what the sink was given, in full pieces, and what is in it now.
pub record Gathers (old new : SinkTold) (before after bytes : List ℕ) : Type 0 where
  pub given : List ℕ
  pub pieces : ℕ
  pub delivered : Delivers old new given pieces
  pub full : length given ≡ 64 * pieces
  pub whole : before ++ bytes ≡ given ++ after
  pub open_ : length after < 64
