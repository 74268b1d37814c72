-- The Fenwick tree over entries of sixteen places.
use Rattle.std.specs.Prelude.{◌≡◌, ℕ, ◌+◌, ◌-◌, ◌*◌, ◌/◌, ◌^◌, ◌<◌, ◌≤◌, List, Bool, false, if◌then◌else◌, nat_le, length, take, count_by, sum_by, slice_index_or, All}
use Rattle.query_laws.specs.StepLedger.{Entries}
use Rattle.row_blocks.specs.Blocks.{height_at}
use Rattle.weak_delete.specs.declared.place.Place.{Place}
use Rattle.weak_delete.specs.declared.live_counts.Node.{Node}
use Rattle.weak_delete.specs.Places.{is_live, live_amount}

-- the node counts and weighs the live places from `start` on and below `end`
pub record IsOver (places : List Place) (start end : ℕ) (node : Node) : Type 0 where
  pub count : node.count + count_by is_live (take start places) ≡ count_by is_live (take end places)
  pub weight : node.weight + sum_by live_amount (take start places) ≡ sum_by live_amount (take end places)

-- at which entry the range of the node that ends here begins: a node up to `unturned` still goes back to the first
abbrev pub start_of : ℕ → ℕ → ℕ
start_of unturned end = if nat_le end unturned then 0 else end - 2 ^ height_at end

abbrev pub no_node : Node
no_node = record { count = 0; weight = 0 }

-- each node is over the places of its range of entries
pub record AreNodes (places : List Place) (nodes : List Node) (unturned : ℕ) : Type 0 where
  pub over : (k : ℕ) → k < length nodes → IsOver places (16 * start_of unturned (k + 1)) (16 * (k + 1)) (slice_index_or nodes k no_node)

-- how many entries so many places fill or begin
abbrev pub entries_for : ℕ → ℕ
entries_for n = (n + 15) / 16

pub record IsFenwick (places : List Place) (weights : Entries (List ℕ)) (masks : Entries ℕ) (nodes : Entries Node) (total : Node)
    (cap len unturned : ℕ) (sealed : Bool) : Type 0 where
  pub node_each : length nodes.items ≡ entries_for len
  pub weights_each : length weights.items ≡ length nodes.items
  pub mask_each : length masks.items ≡ length nodes.items
  pub within : len ≤ cap
  pub room : nodes.capacity ≡ entries_for cap
  pub room_weights : weights.capacity ≡ entries_for cap
  pub room_masks : masks.capacity ≡ entries_for cap
  pub few : cap ≤ 2 ^ 31
  pub small : sum_by live_amount places ≤ len * (2 ^ 32 - 1)
  pub total_over : IsOver places 0 len total
  pub unturned_within : unturned ≤ len
  pub unsealed : sealed ≡ false → unturned ≡ len
  pub all_live : sealed ≡ false → All (λ mask. mask ≡ 2 ^ 16 - 1) masks.items
  pub nodes_over : AreNodes places nodes.items (entries_for unturned)
