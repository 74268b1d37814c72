-- What the flat structure keeps.
use Rattle.std.specs.List.{flat_map}
use Rattle.std.specs.Option.{option_to_list}
use Rattle.std.specs.Prelude.{◌≡◌, ℕ, ◌+◌, ◌-◌, ◌<◌, ◌≤◌, ◌^◌, Bool, true, false, List, length, map, replicate, All, Some, slice_get}
use Rattle.query_laws.specs.StepLedger.{Entries}
use Rattle.query_laws.specs.declared.item.Order.{Order}
use Rattle.query_laws.specs.declared.item.Order.TheVariants.{First, Second}
use Rattle.builder_trait.specs.Parts.{Contents, IsRising, IsPart, live_of}

module _ {Item : Type 0} where
  -- the items at some places
  abbrev pub items_at : List Item → List ℕ → List Item
  items_at items places = flat_map (λ p. option_to_list (slice_get items p)) places

  -- each row has room for all items of a level
  pub record HasRoom (items : Entries Item) (places : Entries ℕ) (flags : Entries Bool) (at_level : ℕ) : Type 0 where
    pub level_small : at_level < 32
    pub room : items.capacity ≡ 2 ^ at_level
    pub room_places : places.capacity ≡ 2 ^ at_level
    pub room_flags : flags.capacity ≡ 2 ^ at_level

  -- the rows of a builder: both orders rise, each place of the second order is that of an item, and there is room for all
  pub record IsFlatBuilding (before : Order → Item → Item → Bool) (items : Entries Item) (places : Entries ℕ) (flags : Entries Bool)
      (at_level : ℕ) : Type 0 where
    pub wide : HasRoom items places flags at_level
    pub few : length items.items ≤ 2 ^ at_level
    pub rising : IsRising (before First) items.items
    pub rising_reordered : IsRising (before Second) (items_at items.items places.items)
    pub placed : map (slice_get items.items) places.items ≡ map Some (items_at items.items places.items)

  -- the flags that are written: none before the seal, and then one a turn, each true
  pub record IsFlagging (items reordered : List Item) (flags : List Bool) (is_sealed : Bool) (left : ℕ) : Type 0 where
    pub all_true : flags ≡ replicate (length flags) true
    pub none_yet : is_sealed ≡ false → (length flags ≡ 0) × (left ≡ 0)
    pub to_go : is_sealed ≡ true → length flags + left ≡ length items
    pub complete : is_sealed ≡ true → length reordered ≡ length items

  -- what rows hold of a part
  abbrev pub contents_of : List Item → List Bool → List ℕ → ℕ → Contents Item
  contents_of items flags places at_level = record {
    items = items;
    flags = flags;
    reordered = items_at items places;
    places = places;
    at_level = at_level;
  }

  -- the rows of a part, which its next builder takes over
  pub record IsFlatPart (before : Order → Item → Item → Bool) (items : Entries Item) (places : Entries ℕ) (flags : Entries Bool)
      (at_level live : ℕ) : Type 0 where
    pub wide : HasRoom items places flags at_level
    pub valid : IsPart before (contents_of items.items flags.items places.items at_level)
    pub live_counted : live ≡ length (live_of (contents_of items.items flags.items places.items at_level))

  -- the least and the greatest stamp of some items; of none, the greatest u64 and zero
  pub record AreStamps (stamp : Item → ℕ) (items : List Item) (least greatest : ℕ) : Type 0 where
    pub from_least : All (λ x. least ≤ stamp x) items
    pub to_greatest : All (λ x. stamp x ≤ greatest) items
    pub tight_least : (s : ℕ) → s < 2 ^ 64 - 1 → All (λ x. s < stamp x) items → s < least
    pub tight_greatest : (s : ℕ) → 0 < s → All (λ x. stamp x < s) items → greatest < s
    pub small : greatest < 2 ^ 64
