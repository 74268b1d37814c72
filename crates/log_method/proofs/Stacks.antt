-- A stack after a tick.
use Rattle.std.proofs.Common.{◌≡◌, ◌^◌, ◌≤◌, List, [], ◌∷◌, length, refl, arith}
use Rattle.std.proofs.lemmas.List.{length-append}
use Rattle.std.proofs.lemmas.List.Concat.{length-flat_map}
use Rattle.std.proofs.lemmas.List.Elements.{All-nil}
use Rattle.query_laws.specs.Orders.{AllStampsDiffer}
use Rattle.query_laws.proofs.Permutations.{Permuted-length}
use Rattle.builder_trait.specs.Parts.{Contents}
use Rattle.builder_trait.specs.Builders.{PartProfile}
use Rattle.log_levels.specs.Slots.{Slots, IsPartOf, items_in}
use Rattle.log_levels.specs.Levels.{weight_of, all_items}
use Rattle.log_levels.specs.Neighbours.{IsPunctual}
use Rattle.log_levels.specs.Towers.{AreOnTime}
use Rattle.log_method.specs.Height.{size_of}
use Rattle.log_method.specs.Stack.{IsStack}

module _ {P Item : Type 0} {contents : P → Contents Item} {profile : PartProfile Item} where
  pub IsStack-empty : IsStack contents profile (record { levels = [] })
  IsStack-empty = record {
    levels = tt;
    punctual = All-nil (IsPunctual profile);
    apart = λ i j d below within. absurd (omega (arith, within));
    light = omega arith;
    small = omega arith;
    few = omega arith;
  }

  pub IsStack-ticked : {old new : List (Slots P Item)} → IsStack contents profile (record { levels = old }) → AreOnTime contents profile new
      → AllStampsDiffer profile.stamp (all_items contents new) → weight_of new ≤ 2 ^ 31 → length new ≡ length old
      → length (all_items contents new) ≤ weight_of new → IsStack contents profile (record { levels = new })
  IsStack-ticked h on_time apart light as_many small = record {
    levels = on_time.levels;
    punctual = on_time.punctual;
    apart = apart;
    light = light;
    small = small;
    few = omega (arith, as_many, h.few);
  }

-- what is part of a list has no more items
pub IsPartOf-length : {Item : Type 0} (xs ys : List Item) → IsPartOf xs ys → length xs ≤ length ys
IsPartOf-length xs ys part = omega (arith, Permuted-length part.1, length-append xs part.0)

-- the items of all complete parts
pub size-all : {P Item : Type 0} (contents : P → Contents Item) (levels : List (Slots P Item)) → size_of contents levels ≡ length (all_items contents levels)
size-all contents [] = refl
size-all contents (l ∷ above) =
    omega (arith, size-all contents above, length-append (all_items contents above) (items_in contents l), length-flat_map (λ p. (contents p).items) l.parts)
