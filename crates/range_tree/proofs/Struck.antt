-- The bit of a dead place is cleared, and the part's rows are kept.
use Rattle.std.proofs.Common.{◌≡◌, ◌≢◌, ℕ, ◌<◌, ◌⊎◌, inl, inr, Bool, true, false, cond, List, length, set, get_or, Some, slice_get, sym, ap, ◌∙◌, subst, arith}
use Rattle.std.proofs.lemmas.Bool.{cases_eq}
use Rattle.std.proofs.lemmas.List.{length-set, get_or-set_same, get_or-set_other}
use Rattle.query_laws.specs.StepLedger.{Entries}
use Rattle.builder_trait.specs.Parts.{Contents, IsPart}
use Rattle.rank_rows.specs.Ranked.{Ranked}
use Rattle.map_shapes.specs.declared.point.Point.{Point}
use Rattle.range_tree.specs.declared.leaves.Leaf.{Leaf}
use Rattle.range_tree.specs.declared.rows.RangeTree.{RangeTree}
use Rattle.range_tree.specs.Heights.{rows_to}
use Rattle.range_tree.specs.Tree.{before, AreLeaves, AreRows, y_at, live_bit, IsTree}
use Rattle.range_tree.specs.Growing.{IsKept}
use Rattle.range_tree.specs.Marks.{IsDying}
use Rattle.range_tree.proofs.SpanLemmas.{height-small, height-above}

pub struck_leaves : (points : List Point) (flags : List Bool) (place : ℕ) (old new : List Leaf) → AreLeaves points flags old → place < length flags
    → live_bit new place ≡ 0 → ((k : ℕ) → y_at new k ≡ y_at old k) → ((k : ℕ) → k ≢ place → live_bit new k ≡ live_bit old k) → length new ≡ length old
    → AreLeaves points (set flags place false) new
struck_leaves points flags place old new kept inside own ys others many = record {
  many = many ∙ kept.many;
  ys = λ k p at. ys k ∙ kept.ys k p at;
  live = λ k. by k (cases_eq k place);
}
  where
    by : (k : ℕ) → (k ≡ place) ⊎ (k ≢ place) → live_bit new k ≡ cond (get_or (set flags place false) k false) 1 0
    by k (inl same) =
        ap (live_bit new) same ∙ own
        ∙ sym (ap (λ b. cond b 1 0) (ap (λ i. get_or (set flags place false) i false) same ∙ get_or-set_same flags place false false inside))
    by k (inr other) = others k other ∙ kept.live k ∙ ap (λ b. cond b 1 0) (sym (get_or-set_other flags place k false false other))

-- the part before a place died
pub IsDying-before : (part : Contents Point) (flags : List Bool) (place : ℕ) (item : Point) (rows : RangeTree) → IsPart before part
    → part.flags ≡ set flags place false → slice_get flags place ≡ Some true → slice_get part.items place ≡ Some item
    → IsTree (record part { flags = flags }) rows → 0 < rows_to rows.height → IsDying (record part { flags = flags }) place item rows
IsDying-before part flags place item rows valid died live there tree some = record {
  valid = record {
    rising = valid.rising;
    rising_reordered = valid.rising_reordered;
    flagged = omega (arith, valid.flagged, ap length died, length-set flags place false);
    placed = valid.placed;
    each_place = valid.each_place;
    same_items = valid.same_items;
  };
  few = tree.few;
  low = height-small (record part { flags = flags }) rows tree;
  high = height-above (record part { flags = flags }) rows tree;
  top = tree.top some;
  rows_are = tree.ranks some;
  there = there;
  live = live;
}

-- which doesn't speak of leaves
pub IsDying-leaves : (part : Contents Point) (place : ℕ) (item : Point) (rows : RangeTree) (leaves : Entries Leaf) → IsDying part place item rows
    → IsDying part place item (record rows { leaves = leaves })
IsDying-leaves part place item rows leaves dying = record {
  valid = dying.valid;
  few = dying.few;
  low = dying.low;
  high = dying.high;
  top = dying.top;
  rows_are = dying.rows_are;
  there = dying.there;
  live = dying.live;
}

-- with the place taken out of leaves and ranks the rows are those of the part
pub IsKept-struck : (part : Contents Point) (flags : List Bool) (place : ℕ) (old : RangeTree) (leaves : Entries Leaf) (ranks : Ranked)
    → part.flags ≡ set flags place false → place < length flags → IsKept (record part { flags = flags }) old
    → leaves.capacity ≡ old.leaves.capacity → live_bit leaves.items place ≡ 0 → ((k : ℕ) → y_at leaves.items k ≡ y_at old.leaves.items k)
    → ((k : ℕ) → k ≢ place → live_bit leaves.items k ≡ live_bit old.leaves.items k) → length leaves.items ≡ length old.leaves.items
    → ranks.room ≡ old.ranks.room
    → (0 < rows_to old.height → AreRows (record part { flags = set flags place false }) old.height (rows_to old.height) ranks old.source.items)
    → IsKept part (record old { leaves = leaves; ranks = ranks })
IsKept-struck part flags place old leaves ranks died inside kept capacity own ys others many room marked = record {
  room = record {
    small = kept.room.small;
    xs = kept.room.xs;
    leaves = omega (arith, kept.room.leaves, capacity);
    top = kept.room.top;
    source = kept.room.source;
    target = kept.room.target;
    ranks = omega (arith, kept.room.ranks, room);
    none = kept.room.none;
  };
  tree = record {
    few = kept.tree.few;
    height = kept.tree.height;
    xs = kept.tree.xs;
    leaves = subst (λ (fs : List Bool). AreLeaves part.items fs leaves.items) (sym died)
        (struck_leaves part.items flags place old.leaves.items leaves.items kept.tree.leaves inside own ys others many);
    top = kept.tree.top;
    ranks = λ some. subst (λ (fs : List Bool). AreRows (record part { flags = fs }) old.height (rows_to old.height) ranks old.source.items) (sym died) (marked some);
  };
}
