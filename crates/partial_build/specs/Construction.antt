-- What contracts see of a construction: a new part made of two older ones, some ticks at a time, while items of these still die.
use Rattle.std.specs.Prelude.{◌≡◌, ℕ, ◌+◌, ◌-◌, ◌*◌, ◌^◌, ◌<◌, ◌≤◌, ◌&&◌, Bool, true, false, not, if◌then◌else◌, Option, Some, None, List, [], ◌++◌, min, length, map, All, ◌⊎◌, slice_get, slice_index_or}
use Rattle.std.specs.List.{items_where_true}
use Rattle.std.specs.Option.{is_some}
use Rattle.query_laws.specs.Orders.{AllStampsDiffer}
use Rattle.query_laws.specs.Permuted.{Permuted}
use Rattle.builder_trait.specs.Builders.{PartProfile}
use Rattle.builder_trait.specs.Parts.{Contents, IsPart, has_stamp, live_of}
use Rattle.ordered_merge.specs.Merging.{Merging, Merges, unbegun}
use Rattle.partial_build.specs.NewPart.{Growth, put_of, IsAllLive}
use Rattle.partial_build.specs.Quota.{quota}

-- A construction: the level that the new part goes to; the ticks done; what was read of the two sources, and which of their items were taken;
-- the new part, with those of its items that are marked; and the items that died in a source after they were taken, and wait to be marked.
pub record Construction (Item : Type 0) : Type 0 where
  pub level : ℕ
  pub ticks : ℕ
  pub merge : Merging Item
  pub part : Growth Item
  pub waiting : List Item

-- whether the item that was read at a place was taken
abbrev pub is_taken : List (Option ℕ) → ℕ → Bool
is_taken table k = is_some (slice_index_or table k None)

module _ {Item : Type 0} where
  -- half of the ticks: in these the part is built
  abbrev pub half_of : Construction Item → ℕ
  half_of c = 2 ^ (c.level - 1)

  -- the turns that are left: those of the merge, and those of the builder, or the most that it may have where it isn't sealed
  abbrev pub turns_left : PartProfile Item → Construction Item → ℕ
  turns_left profile c =
      c.merge.left + (if c.part.is_sealed then c.part.left else 2 ^ (c.level - 1) * (profile.slope * c.level + profile.base))

  -- how many items of both sources were read, in both orders
  abbrev pub read_of : Construction Item → ℕ
  read_of c = length c.merge.a.table + length c.merge.b.table + (c.merge.a.reread + c.merge.b.reread)

  -- Nothing was read yet, and where there is something to read the builder isn't sealed.
  pub record IsBegun (c : Construction Item) : Type 0 where
    pub unread : read_of c ≡ 0
    pub unsealed : 0 < c.merge.left → c.part.is_sealed ≡ false

  -- The turns of a tick: at most its quota, and fewer only where the part is built after it. Of a builder that is sealed just so many fewer are left,
  -- so that none is taken once it has ended; and before the seal no more are taken than may be left.
  pub record AreTaken (profile : PartProfile Item) (turns : ℕ) (old new : Construction Item) : Type 0 where
    pub few : turns ≤ quota profile.slope profile.base old.level
    pub whole : turns < quota profile.slope profile.base old.level → new.part.is_built ≡ true
    pub most : turns_left profile new + turns ≤ turns_left profile old
    pub exact : old.part.is_sealed ≡ true → turns_left profile new + turns ≡ turns_left profile old

  -- No work of a tick is done beside its turns: each item that is read in an order takes one, and where all is read then, so does each item of the new
  -- part until it is built.
  pub record IsPaid (turns : ℕ) (old new : Construction Item) : Type 0 where
    pub read : old.merge.left ≤ new.merge.left + turns
    pub made : old.part.is_sealed ≡ false → new.part.is_sealed ≡ true → old.merge.left + length new.part.contents.items ≤ new.part.left + turns

  -- The marks of a tick: where the part is built after it those of two items that waited, or of all where fewer did; and just these wait no longer.
  pub record AreDrained (marks : ℕ) (old new : Construction Item) : Type 0 where
    pub two : marks ≡ (if new.part.is_built then min 2 (length old.waiting) else 0)
    pub fewer : length new.waiting + marks ≡ length old.waiting

  -- Right after a tick, and before an item is noted: the turns left fit the ticks up to half of them, a quota each; and no more items wait than ticks
  -- are done, and no more than are to come.
  pub record IsOnTime (profile : PartProfile Item) (c : Construction Item) : Type 0 where
    pub in_time : turns_left profile c ≤ (half_of c - c.ticks) * quota profile.slope profile.base c.level
    pub few_waiting : length c.waiting ≤ c.ticks
    pub few_to_come : length c.waiting ≤ 2 ^ c.level - c.ticks

  -- whether the item with a stamp is live in the new part, and doesn't wait to be marked there
  abbrev pub stays : (Item → ℕ) → Contents Item → List Item → ℕ → Bool
  stays stamp part waiting s = has_stamp stamp s (live_of part) && not (has_stamp stamp s waiting)

  -- of what was read of a source, exactly that is live which was taken and stays
  abbrev pub IsUpToDate : (Item → ℕ) → Contents Item → List Item → List (Option ℕ) → Contents Item → Type 0
  IsUpToDate stamp part waiting table source =
      (k : ℕ) (x : Item) → k < length table → slice_get source.items k ≡ Some x
      → slice_get source.flags k ≡ Some (is_taken table k && stays stamp part waiting (stamp x))

  -- the item was taken of a source
  abbrev pub IsTakenOf : List (Option ℕ) → List Item → Item → Type 0
  IsTakenOf table xs x = (k : ℕ) × (k < length table) × (slice_get xs k ≡ Some x) × (is_taken table k ≡ true)

  -- What waits are different items, each taken of a source, and live in the new part.
  pub record AreWaiting (stamp : Item → ℕ) (m : Merging Item) (part a b : Contents Item) (waiting : List Item) : Type 0 where
    pub taken : All (λ x. IsTakenOf m.a.table a.items x ⊎ IsTakenOf m.b.table b.items x) waiting
    pub differ : AllStampsDiffer stamp waiting
    pub live : All (λ x. has_stamp stamp (stamp x) (live_of part) ≡ true) waiting

  -- what was read of a and b is in the new part or waits, as a and b are now
  pub record KeepsUp (profile : PartProfile Item) (m : Merging Item) (part : Contents Item) (waiting : List Item) (a b : Contents Item) : Type 0 where
    pub merges : Merges profile m a b (put_of part)
    pub valid : IsPart profile.before a
    pub other_valid : IsPart profile.before b
    pub apart : AllStampsDiffer profile.stamp a.items
    pub other_apart : AllStampsDiffer profile.stamp b.items
    pub up_to_date : IsUpToDate profile.stamp part waiting m.a.table a
    pub other_up_to_date : IsUpToDate profile.stamp part waiting m.b.table b
    pub waits : AreWaiting profile.stamp m part a b waiting

  -- A construction and its two sources, as these are now: of what was read of them exactly that is live which was taken, and is neither dead in
  -- the new part nor waits to be marked there.
  abbrev pub Builds : PartProfile Item → Construction Item → Contents Item → Contents Item → Type 0
  Builds profile c a b = KeepsUp profile c.merge c.part.contents c.waiting a b

  -- the items of a source that were dead when they were read
  abbrev pub skipped_of : List (Option ℕ) → List Item → List Item
  skipped_of table xs = items_where_true (map (λ e. not (is_some e)) table) xs

  -- The new part of two sources: live are the items that live in these, and together with those that were skipped its items are theirs.
  pub record IsPublished (c : Construction Item) (a b fresh : Contents Item) : Type 0 where
    pub live : Permuted (live_of fresh) (live_of a ++ live_of b)
    pub items : Permuted (fresh.items ++ (skipped_of c.merge.a.table a.items ++ skipped_of c.merge.b.table b.items)) (a.items ++ b.items)
    pub few : length fresh.items ≤ 2 ^ c.level
    pub level : fresh.at_level ≡ c.level

-- Between any two calls: what is left can be done in time, where one more item may wait than right after a tick.
pub record IsUnderConstruction {Item : Type 0} (profile : PartProfile Item) (room : ℕ) (c : Construction Item) : Type 0 where
  pub least : 1 ≤ c.level
  pub most : c.level < 32
  pub ticks_few : c.ticks ≤ 2 ^ c.level
  pub at_level : c.part.contents.at_level ≡ c.level
  pub flagged : length c.part.contents.flags ≡ length c.part.contents.items
  pub wide : 2 ^ (c.level - 1) + 1 ≤ room
  pub as_wide : c.merge.capacity ≡ 2 ^ (c.level - 1)
  pub fresh : c.part.is_built ≡ false → IsAllLive c.part.contents
  pub sealed : c.merge.left ≡ 0 → c.part.is_sealed ≡ true
  pub unsealed : 0 < c.merge.left → (c.part.is_sealed ≡ false) × (c.part.is_built ≡ false)
  pub to_turn : c.part.is_built ≡ false → c.part.is_sealed ≡ true → 0 < c.part.left
  pub built : c.part.is_built ≡ true → c.part.left ≡ 0
  pub in_time : turns_left profile c ≤ (2 ^ (c.level - 1) - c.ticks) * quota profile.slope profile.base c.level
  pub few_waiting : length c.waiting ≤ c.ticks + 1
  pub few_to_come : length c.waiting ≤ 2 ^ c.level - c.ticks + 1

-- room for a construction into a level, and nothing in it
pub record AreTables {Item : Type 0} (level : ℕ) (m : Merging Item) (waiting : List Item) (room : ℕ) : Type 0 where
  pub least : 1 ≤ level
  pub most : level < 32
  pub unbegun : m ≡ unbegun (2 ^ (level - 1))
  pub none_waiting : waiting ≡ []
  pub wide : 2 ^ (level - 1) + 1 ≤ room
