-- Entries of the tree, and which of them comes first.
use Rattle.std.specs.Prelude.{◌≡◌, ℕ, suc, ◌==◌, Bool, false, IsTrue, if◌then◌else◌, List, [], ◌∷◌, ◌++◌, map, replicate, Option, Some, None, ◌⊎◌}
use Rattle.std.specs.List.{AllByRecursion}
use Rattle.std.specs.Option.{option_to_list}
use Rattle.map_shapes.specs.declared.peak.Peak.{Peak}
use Rattle.map_shapes.specs.Found.{higher_le}
use Rattle.map_questions.specs.FirstFew.{first}
use Rattle.priority_tree.specs.declared.entry.Entry.{Entry}
use Rattle.priority_tree.specs.declared.leaf.Slot.{Slot}
use Rattle.priority_tree.specs.declared.leaf.Leaf.{Leaf}

-- the point by its height
abbrev pub peak_of : Entry → Peak
peak_of e = record { y = e.y; id = e.id }

-- the entry is higher than the other one, or as high and its identifier isn't greater
abbrev pub comes_first : Entry → Entry → Bool
comes_first a b = higher_le (peak_of a) (peak_of b)

-- the one of two that comes first
abbrev pub first_of : Option Entry → Option Entry → Option Entry
first_of None other = other
first_of (Some a) None = Some a
first_of (Some a) (Some b) = if comes_first a b then Some a else Some b

-- the best of some entries, by height and identifier
abbrev pub best_of : List Entry → Option Peak
best_of es = first higher_le (map peak_of es)

-- the entry is one of these
abbrev pub IsAmong : Entry → List Entry → Type 0
IsAmong e [] = ⊥
IsAmong e (x ∷ xs) = (e ≡ x) ⊎ IsAmong e xs

-- none of these comes before the entry
abbrev pub IsOver : Entry → List Entry → Type 0
IsOver e es = AllByRecursion (λ x. IsTrue (comes_first e x)) es

-- no other one of these has the entry's place
abbrev pub OwnsPlace : Entry → List Entry → Type 0
OwnsPlace e es = (x : Entry) → IsAmong x es → x.place ≡ e.place → x ≡ e

-- a place of the tree holds the point at this place of the first order
abbrev pub holds_place : Option Entry → ℕ → Bool
holds_place None place = false
holds_place (Some e) place = e.place == place

-- the first of these, where there is one
abbrev pub IsFront : Option Entry → List Entry → Type 0
IsFront None es = es ≡ []
IsFront (Some e) es = IsAmong e es × IsOver e es

-- what stands at a place of a leaf
abbrev pub entry_of : ℕ → Slot → Option Entry
entry_of place slot = if slot.stands then Some (record { y = slot.y; place = place; id = slot.id }) else None

-- what stands at neighbouring places
abbrev pub entries_from : ℕ → List Slot → List Entry
entries_from place [] = []
entries_from place (slot ∷ slots) = option_to_list (entry_of place slot) ++ entries_from (suc place) slots

-- a place at which no point stands, and a leaf of such
abbrev pub no_slot : Slot
no_slot = record { y = 0; stands = false; id = 0 }

abbrev pub empty_leaf : Leaf
empty_leaf = record { slots = replicate 16 no_slot }

-- a place whose point doesn't stand there any more
abbrev pub freed : Slot → Slot
freed slot = record slot { stands = false }
