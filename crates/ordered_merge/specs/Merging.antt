-- What contracts see of a merge: two parts that are read into a builder, an item a turn.
use Rattle.std.specs.Prelude.{◌≡◌, ◌≢◌, ℕ, ◌+◌, ◌*◌, ◌^◌, ◌<◌, ◌≤◌, Bool, true, false, not, if◌then◌else◌, IsTrue, Option, Some, None, List, [], ◌++◌, length, take, map, slice_get}
use Rattle.std.specs.List.{items_where_true}
use Rattle.std.specs.Option.{is_some}
use Rattle.query_laws.specs.Permuted.{Permuted}
use Rattle.query_laws.specs.declared.item.Order.{Order}
use Rattle.query_laws.specs.declared.item.Order.TheVariants.{First, Second}
use Rattle.builder_trait.specs.Parts.{Contents, IsRising, live_of}
use Rattle.builder_trait.specs.Builders.{PartProfile, Progress}
use Rattle.builder_trait.specs.Rebuilding.{live_reordered_before, flags_reordered}

-- of one part: for each item that the first order has read its new place, or none where it was skipped; and how many items the second order
-- has read
pub record Reading : Type 0 where
  pub table : List (Option ℕ)
  pub reread : ℕ

-- A merge: room for so many items of each part; what was read of each; how many items were taken; the item that the first order read last; and
-- how many turns are left.
pub record Merging (Item : Type 0) : Type 0 where
  pub capacity : ℕ
  pub a : Reading
  pub b : Reading
  pub taken : ℕ
  pub reached : Option Item
  pub left : ℕ

-- nothing is read
abbrev pub nothing_read : Reading
nothing_read = record { table = []; reread = 0 }

-- the new place of an item, where it is taken
abbrev pub new_place : Bool → ℕ → Option ℕ
new_place live n = if live then Some n else None

-- the table has its old entries, and then a new place exactly for each item that is live now
pub record TakesLive (flags : List Bool) (old new : List (Option ℕ)) : Type 0 where
  pub longer : length old ≤ length new
  pub kept : (k : ℕ) → k < length old → slice_get new k ≡ slice_get old k
  pub taken : (k : ℕ) → length old ≤ k → k < length new → slice_get (map is_some new) k ≡ slice_get flags k

module _ {Item : Type 0} where
  -- a merge that isn't begun, with room for so many items of each part
  abbrev pub unbegun : ℕ → Merging Item
  unbegun n = record { capacity = n; a = nothing_read; b = nothing_read; taken = 0; reached = None; left = 0 }

  -- the part whose live items are exactly those that the table took
  abbrev pub chosen : List (Option ℕ) → Contents Item → Contents Item
  chosen table part = record part { flags = map is_some table }

  -- at its new place stands the same item
  abbrev pub HasNewPlaces : List (Option ℕ) → List Item → List Item → Type 0
  HasNewPlaces table xs merged = (k n : ℕ) → slice_get table k ≡ Some (Some n) → slice_get merged n ≡ slice_get xs k

  -- no item of one list has the stamp of an item of the other
  abbrev pub StampsDiffer : (Item → ℕ) → List Item → List Item → Type 0
  StampsDiffer stamp xs ys = (k l : ℕ) (x y : Item) → slice_get xs k ≡ Some x → slice_get ys l ≡ Some y → stamp x ≢ stamp y

  -- the first i of xs stand before all of ys but the first j
  abbrev pub StandAhead : (Item → Item → Bool) → ℕ → List Item → ℕ → List Item → Type 0
  StandAhead before i xs j ys =
      (k l : ℕ) (x y : Item) → k < i → j ≤ l → slice_get xs k ≡ Some x → slice_get ys l ≡ Some y → IsTrue (before x y)

  -- the first i of xs and the first j of ys stand before all the others
  pub record IsFront (before : Item → Item → Bool) (i : ℕ) (xs : List Item) (j : ℕ) (ys : List Item) : Type 0 where
    pub within : i ≤ length xs
    pub within_other : j ≤ length ys
    pub ahead : StandAhead before i xs j ys
    pub other_ahead : StandAhead before j ys i xs

  -- the item at i of xs stands before the one at j of ys, if there is one
  pub record IsNext (before : Item → Item → Bool) (i : ℕ) (xs : List Item) (j : ℕ) (ys : List Item) (x : Item) : Type 0 where
    pub here : slice_get xs i ≡ Some x
    pub earlier : (y : Item) → slice_get ys j ≡ Some y → IsTrue (before x y)

  -- two lists in one that rises
  pub record IsMerged (before : Item → Item → Bool) (merged xs ys : List Item) : Type 0 where
    pub rising : IsRising before merged
    pub same_items : Permuted merged (xs ++ ys)

  -- whether the item doesn't stand after the one that was read last
  abbrev pub is_passed : (Item → Item → Bool) → Option Item → Item → Bool
  is_passed before None x = false
  is_passed before (Some y) x = not (before y x)

  -- the first i items are passed, and no other
  abbrev pub PassedBelow : (Item → Item → Bool) → Option Item → ℕ → List Item → Type 0
  PassedBelow before reached i xs = (k : ℕ) (x : Item) → slice_get xs k ≡ Some x
      → (k < i → is_passed before reached x ≡ true) × (i ≤ k → is_passed before reached x ≡ false)

  -- the items of two parts that may be merged, with room for each and for both together
  pub record AreSources (stamp : Item → ℕ) (capacity at_level : ℕ) (xs ys : List Item) : Type 0 where
    pub fits : length xs ≤ capacity
    pub other_fits : length ys ≤ capacity
    pub room : length xs + length ys ≤ 2 ^ at_level
    pub stamps_differ : StampsDiffer stamp xs ys

  -- of the items that were read those that the table took
  abbrev pub taken_among : List (Option ℕ) → List Item → List Item
  taken_among table xs = items_where_true (take (length table) (map is_some table)) (take (length table) xs)

  -- in the first order the builder holds, of the items that were read, those that the tables took
  pub record HasTaken (before : Item → Item → Bool) (table other_table : List (Option ℕ)) (taken : ℕ) (reached : Option Item)
      (xs ys items : List Item) : Type 0 where
    pub front : IsFront before (length table) xs (length other_table) ys
    pub put : IsMerged before items (taken_among table xs) (taken_among other_table ys)
    pub new_places : HasNewPlaces table xs items
    pub other_new_places : HasNewPlaces other_table ys items
    pub counted : taken ≡ length items
    pub passed : PassedBelow before reached (length table) xs
    pub other_passed : PassedBelow before reached (length other_table) ys

  -- and in the second order, which begins once the first order has read all
  pub record HasRetaken (before : Item → Item → Bool) (a b : Reading) (part other : Contents Item) (builder : Progress Item) : Type 0 where
    pub front : IsFront before a.reread part.reordered b.reread other.reordered
    pub in_turn : 0 < a.reread + b.reread → length a.table + length b.table ≡ length part.items + length other.items
    pub put : IsMerged before builder.reordered (live_reordered_before a.reread (chosen a.table part))
        (live_reordered_before b.reread (chosen b.table other))
    pub placed : map (slice_get builder.items) builder.places ≡ map Some builder.reordered

  -- The builder holds in both orders what was taken among the items read so far, in the second order each with its place. What was read of both parts
  -- stands before all the rest; the second order begins once the first has read all; and the turns left are the items still to read.
  pub record Merges (profile : PartProfile Item) (m : Merging Item) (part other : Contents Item)
      (b : Progress Item) : Type 0 where
    pub sources : AreSources profile.stamp m.capacity b.at_level part.items other.items
    pub unsealed : b.is_sealed ≡ false
    pub to_go : m.left + (length m.a.table + length m.b.table + (m.a.reread + m.b.reread)) ≡ 2 * (length part.items + length other.items)
    pub taking : HasTaken (profile.before First) m.a.table m.b.table m.taken m.reached part.items other.items b.items
    pub retaking : HasRetaken (profile.before Second) m.a m.b part other b

  -- n items were read, and each that was live was taken
  pub record HasRead (n : ℕ) (old new : Merging Item) (part other : Contents Item) (b fresh : Progress Item) : Type 0 where
    pub left : new.left + n ≡ old.left
    pub capacity : new.capacity ≡ old.capacity
    pub taken : TakesLive part.flags old.a.table new.a.table
    pub other_taken : TakesLive other.flags old.b.table new.b.table
    pub level : fresh.at_level ≡ b.at_level

  -- the items that a table took
  abbrev pub taken_of : List (Option ℕ) → Contents Item → List Item
  taken_of table part = live_of (chosen table part)

  -- the same in the second order
  abbrev pub taken_reordered : List (Option ℕ) → Contents Item → List Item
  taken_reordered table part = items_where_true (flags_reordered (chosen table part)) part.reordered

  -- a merge has read all, and the builder holds in both orders exactly what the tables took, each item of the second order with its place
  pub record IsWhole (before : Order → Item → Item → Bool) (m : Merging Item) (part other : Contents Item) (b : Progress Item) : Type 0 where
    pub read : length m.a.table ≡ length part.items
    pub other_read : length m.b.table ≡ length other.items
    pub items : IsMerged (before First) b.items (taken_of m.a.table part) (taken_of m.b.table other)
    pub reordered : IsMerged (before Second) b.reordered (taken_reordered m.a.table part) (taken_reordered m.b.table other)
    pub placed : map (slice_get b.items) b.places ≡ map Some b.reordered
    pub as_many : length b.reordered ≡ length b.items

module _ {Item Part Builder : Type 0} (contents : Part → Contents Item) (progress : Builder → Progress Item) where
  -- the builder holds what the merge has read of two parts so far
  abbrev pub MergesInto : PartProfile Item → Merging Item → Part → Part → Builder → Type 0
  MergesInto profile m a b builder = Merges profile m (contents a) (contents b) (progress builder)

  -- a call read n items of two parts into a builder
  abbrev pub ReadsInto : ℕ → Merging Item → Merging Item → Part → Part → Builder → Builder → Type 0
  ReadsInto n old new a b builder fresh = HasRead n old new (contents a) (contents b) (progress builder) (progress fresh)
