-- What contracts see of a binary counter of parts, and what holds of it between two calls.
use Rattle.std.specs.Prelude.{◌≡◌, ℕ, ◌*◌, ◌^◌, ◌<◌, ◌≤◌, Option, IfSome, true, List, length}
use Rattle.std.specs.Option.{is_some}
use Rattle.query_laws.specs.Orders.{AllStampsDiffer}
use Rattle.builder_trait.specs.Builders.{Progress, begun}
use Rattle.builder_trait.specs.Parts.{Contents}
use Rattle.binary_stack.specs.Levels.{weight_of, all_items, HaveAtMost, AreLevels}
use Rattle.binary_stack.specs.Charge.{charge_of}
use Rattle.binary_stack.specs.Rooms.{AreWithin, HaveRooms}

-- a binary counter of parts: its levels, lowest first; how many inserts need no more memory; and the turns of all inserts so far
pub record Counter (P : Type 0) : Type 0 where
  pub levels : List (Option P)
  pub spare : ℕ
  pub spent : ℕ

module _ {P Item : Type 0} (contents : P → Contents Item) where
  -- stamps differ, each level has no more items than its weight, and the turns are paid by the charges of the parts that were built
  pub record IsCounter (stamp : Item → ℕ) (slope base : ℕ) (s : Counter P) : Type 0 where
    pub levels : AreLevels contents 0 s.levels
    pub small : HaveAtMost contents (2 ^ 30) s.levels
    pub apart : AllStampsDiffer stamp (all_items contents s.levels)
    pub light : weight_of s.levels ≤ 2 ^ 40
    pub few : length s.levels ≤ 41
    pub spare_few : s.spare ≤ 1
    pub paid : 2 * s.spent ≤ charge_of slope base 0 s.levels

  -- The memory of an insert: a builder for the part of its item, a place for one more level, and a room for each part that it joins. The levels have so
  -- many places, and the rooms these sizes.
  pub record IsReady {B : Type 0} (progress : B → Progress Item) (levels : List (Option P)) (capacity : ℕ) (starter : Option B)
      (sizes : List ℕ) : Type 0 where
    pub some : is_some starter ≡ true
    pub builder : IfSome starter (λ b. progress b ≡ begun 0)
    pub place : length levels < capacity
    pub rooms : HaveRooms contents 1 levels sizes
    pub within : AreWithin 0 sizes
