-- What contracts see of a part that is under construction or built.
use Rattle.std.specs.Prelude.{◌≡◌, ℕ, Bool, true, false, [], length, replicate}
use Rattle.builder_trait.specs.Parts.{Contents}
use Rattle.builder_trait.specs.Builders.{Progress}

-- what was put, each item live until the part is built and the item marked in it; whether the builder is sealed; how many turns
-- it has left; and whether the part is built
pub record Growth (Item : Type 0) : Type 0 where
  pub contents : Contents Item
  pub is_sealed : Bool
  pub left : ℕ
  pub is_built : Bool

module _ {Item : Type 0} where
  -- no part at all
  abbrev pub no_contents : Contents Item
  no_contents = record { items = []; flags = []; reordered = []; places = []; at_level = 0 }

  -- what was put, as a builder holds it before its seal
  abbrev pub put_of : Contents Item → Progress Item
  put_of part = record {
    items = part.items;
    reordered = part.reordered;
    places = part.places;
    at_level = part.at_level;
    is_sealed = false;
    left = 0;
  }

  abbrev pub IsAllLive : Contents Item → Type 0
  IsAllLive part = part.flags ≡ replicate (length part.items) true
