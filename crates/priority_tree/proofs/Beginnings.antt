-- What stands in a tree in which no place holds anything, and how it begins to grow.
use Rattle.std.proofs.Common.{◌≡◌, ℕ, zero, suc, ◌+◌, ◌-◌, ◌*◌, ◌^◌, ◌<◌, ◌≤◌, true, List, [], ◌∷◌, ◌++◌, length, get_or, take, drop, replicate, Option, slice_get, refl, sym, ap, ap₂, ◌∙◌, arith, inl, inr, subst, pow-suc, pow_mono}
use Rattle.std.specs.Option.{option_to_list}
use Rattle.std.proofs.Math.Seq.{take-nil}
use Rattle.std.proofs.lemmas.Nat.{pow_pos}
use Rattle.std.proofs.lemmas.Bool.{cases_lt}
use Rattle.std.proofs.lemmas.List.{take_all}
use Rattle.builder_trait.specs.Builders.{Progress, all_live, IsQuota}
use Rattle.map_shapes.specs.declared.point.Point.{Point}
use Rattle.priority_tree.specs.declared.entry.Entry.{Entry}
use Rattle.priority_tree.specs.declared.leaf.Slot.{Slot}
use Rattle.priority_tree.specs.declared.heap.Heap.{Heap}
use Rattle.priority_tree.specs.Entries.{entry_of, entries_from, no_slot}
use Rattle.priority_tree.specs.Tree.{leaf_at, entries_in, IsHeap, IsHole, here}
use Rattle.priority_tree.specs.Live.{entry_at, live_entries, IsShape}
use Rattle.priority_tree.specs.Growing.{slot_at, slot_of, IsFilling, turns_above, IsGrowing}
use Rattle.priority_tree.proofs.TreeLemmas

-- points at neighbouring places, the first of them at this one
abbrev placed : ℕ → List Point → List Entry
placed k [] = []
placed k (p ∷ points) = entry_at k p ∷ placed (suc k) points

placed_nil : (k n : ℕ) → placed k (take n []) ≡ []
placed_nil k n = ap (placed k) (take-nil n)

all_placed : (k : ℕ) (points : List Point) → live_entries k (replicate (length points) true) points ≡ placed k points
all_placed k [] = refl
all_placed k (p ∷ points) = ap (λ l. entry_at k p ∷ l) (all_placed (suc k) points)

module _ {A : Type 0} where
  get_drop : (a : ℕ) (xs : List A) (k n : ℕ) → a + k ≡ n → slice_get (drop a xs) k ≡ slice_get xs n
  get_drop zero xs k n e = ap (slice_get xs) (omega arith)
  get_drop (suc a) [] k n e = refl
  get_drop (suc a) (x ∷ xs) k zero e = absurd (omega arith)
  get_drop (suc a) (x ∷ xs) k (suc n) e = get_drop a xs k n (omega arith)

  drop_nil : (n : ℕ) → ◌≡◌ {A = List A} [] (drop n [])
  drop_nil zero = refl
  drop_nil (suc n) = refl

  drop_drop : (a : ℕ) (xs : List A) (b n : ℕ) → a + b ≡ n → drop b (drop a xs) ≡ drop n xs
  drop_drop zero xs b n e = ap (λ m. drop m xs) (omega arith)
  drop_drop (suc a) [] zero n e = drop_nil n
  drop_drop (suc a) [] (suc b) n e = drop_nil n
  drop_drop (suc a) (x ∷ xs) b zero e = absurd (omega arith)
  drop_drop (suc a) (x ∷ xs) b (suc n) e = drop_drop a xs b n (omega arith)

-- what stands in a leaf that has some points
slots_placed : (place : ℕ) (slots : List Slot) (points : List Point) → ((k : ℕ) → k < length slots → get_or slots k no_slot ≡ slot_of (slice_get points k))
    → entries_from place slots ≡ placed place (take (length slots) points)
slots_placed place [] points each = refl
slots_placed place (slot ∷ slots) [] each =
    ap (λ (s : Slot). option_to_list (entry_of place s) ++ entries_from (suc place) slots) (each 0 (omega arith))
    ∙ slots_placed (suc place) slots [] (λ k few. each (suc k) (omega arith)) ∙ placed_nil (suc place) (length slots)
slots_placed place (slot ∷ slots) (p ∷ points) each =
    ap (λ (s : Slot). option_to_list (entry_of place s) ++ entries_from (suc place) slots) (each 0 (omega arith))
    ∙ ap (λ l. entry_at place p ∷ l) (slots_placed (suc place) slots points (λ k few. each (suc k) (omega arith)))

-- points in two parts
placed_parts : (k m n s : ℕ) (points : List Point) → m + n ≡ s → placed k (take s points) ≡ placed k (take m points) ++ placed (k + m) (take n (drop m points))
placed_parts k zero n s points e = ap₂ (λ a b. placed a (take b points)) (omega arith) (omega arith)
placed_parts k (suc m) n s [] e = placed_nil k s ∙ sym (placed_nil (k + suc m) n)
placed_parts k (suc m) n zero (p ∷ points) e = absurd (omega arith)
placed_parts k (suc m) n (suc s) (p ∷ points) e =
    ap (λ l. entry_at k p ∷ l) (placed_parts (suc k) m n s points (omega arith)
    ∙ ap (λ (i : ℕ). placed (suc k) (take m points) ++ placed i (take n (drop m points))) (omega arith))

-- so each point stands once in the tree
module _ (level : ℕ) (points : List Point) (heap : Heap) (filling : IsFilling level points heap) where
  leaf_points : (l k : ℕ) → k < length (leaf_at heap l).slots → slot_at heap l k ≡ slot_of (slice_get (drop (16 * l) points) k)
  leaf_points l k few =
      filling.slots l k (omega (arith, few, filling.sixteen l)) ∙ ap slot_of (sym (get_drop (16 * l) points k (16 * l + k) refl))

  entries_blank : (h start : ℕ) → entries_in heap h start ≡ placed (16 * start) (take (16 * 2 ^ h) (drop (16 * start) points))
  entries_blank zero start =
      slots_placed (16 * start) (leaf_at heap start).slots (drop (16 * start) points) (leaf_points start)
      ∙ ap (λ n. placed (16 * start) (take n (drop (16 * start) points))) (filling.sixteen start)
  entries_blank (suc h) start =
      let m : ℕ = 16 * 2 ^ h in
      let twice : m + m ≡ 16 * 2 ^ suc h = omega (arith, TreeLemmas.doubled h) in
      let later : 16 * (start + 2 ^ h) ≡ 16 * start + m = omega arith in
      ap (λ (o : Option Entry). option_to_list o ++ (entries_in heap h start ++ entries_in heap h (start + 2 ^ h))) (filling.blank (start + 2 ^ h))
      ∙ ap₂ (λ (a b : List Entry). a ++ b) (entries_blank h start)
      (entries_blank h (start + 2 ^ h)
      ∙ ap (λ n. placed n (take m (drop (16 * (start + 2 ^ h)) points))) later
      ∙ ap (λ l. placed (16 * start + m) (take m l)) (sym (drop_drop (16 * start) points m (16 * (start + 2 ^ h)) (sym later))))
      ∙ sym (placed_parts (16 * start) m m (16 * 2 ^ suc h) (drop (16 * start) points) twice)

  pub entries_begun : (height : ℕ) → length heap.leaves.items ≤ 2 ^ height → entries_in heap height 0 ≡ live_entries 0 (replicate (length points) true) points
  entries_begun height enough =
      entries_blank height 0 ∙ ap (placed 0) (take_all (16 * 2 ^ height) points (omega (arith, filling.leaves_enough, enough))) ∙ sym (all_placed 0 points)

-- ---- how high the tree is

pub low_height : (level n leaves : ℕ) → level < 32 → n ≤ 2 ^ level → 16 * leaves < n + 16 → leaves ≤ 2 ^ (level - 4)
low_height level n leaves small few fewer = elim (cases_lt level 4) [
  | inl low ↦
      let three : level ≤ 3 = omega arith in
      let most : 2 ^ level ≤ 2 ^ 3 = pow_mono three in
      omega (arith, most, pow_pos (level - 4))
  | inr high ↦
      let is : level ≡ suc (suc (suc (suc (level - 4)))) = omega arith in
      omega (arith, ap (λ n. 2 ^ n) is, pow-suc 2 (suc (suc (suc (level - 4)))), pow-suc 2 (suc (suc (level - 4))), pow-suc 2 (suc (level - 4)), pow-suc 2 (level - 4))
]

pub places_enough : (height leaves : ℕ) → ((h : ℕ) → leaves ≤ 2 ^ h → height ≤ h) → 0 < height → 2 ^ height ≤ 2 * leaves
places_enough zero leaves least some = absurd (omega arith)
places_enough (suc h) leaves least some = elim (cases_lt (2 ^ h) leaves) [
  | inl more ↦ omega (arith, more, TreeLemmas.doubled h)
  | inr few ↦ absurd (omega (arith, least h few))
]

pub above_height : (h : ℕ) → h + 1 ≤ 2 ^ h
above_height zero = omega arith
above_height (suc h) = omega (arith, above_height h, TreeLemmas.doubled h)

-- ---- the tree begins to grow

module _ (b : Progress Point) (heap : Heap) (filling : IsFilling b.at_level b.items heap) (few : length b.items ≤ 2 ^ b.at_level) (height : ℕ)
    (above : length heap.leaves.items ≤ 2 ^ height) (least : (h : ℕ) → length heap.leaves.items ≤ 2 ^ h → height ≤ h) where
  leaves_low : length heap.leaves.items ≤ 2 ^ (b.at_level - 4)
  leaves_low = low_height b.at_level (length b.items) (length heap.leaves.items) filling.small few filling.leaves_few

  height_low : height ≤ b.at_level - 4
  height_low = least (b.at_level - 4) leaves_low

  pub shape_begun : IsShape (length b.items) heap height
  shape_begun = record {
    leaves = filling.leaves_enough;
    low = omega (arith, height_low, filling.small);
    places = λ some. let most : 2 ^ height ≤ 2 ^ (b.at_level - 4) = pow_mono height_low in
        omega (arith, filling.places, places_enough height (length heap.leaves.items) least some, most);
    least = λ h within. least h (omega (arith, filling.leaves_few, within));
  }

  hole_begun : (s : ℕ) → IsHole heap 1 s
  hole_begun s = (filling.blank (s + 2 ^ 0), filling.sixteen s, filling.sixteen (s + 2 ^ 0))

  left_begun : 1 ≤ height → 2 * 2 ^ height - (height + 2) ≡ 1 + 1 * (2 ^ (height - 1) - (0 + 1)) + turns_above height 1
  left_begun some =
      let is : height ≡ suc (height - 1) = omega arith in
      let more = above_height (height - 1) in
      omega (arith, more, ap (λ n. 2 ^ n) is, pow-suc 2 (height - 1))

  all_heaps : height < 1 → IsHeap heap height 0
  all_heaps none =
      let is : 0 ≡ height = omega arith in
      subst (λ (h : ℕ). IsHeap heap h 0) is (filling.sixteen 0)

  no_turns : height < 1 → 2 * 2 ^ height - (height + 2) ≡ 0
  no_turns none =
      let is : height ≡ 0 = omega arith in
      ap (λ n. 2 * 2 ^ n - (n + 2)) is

  pub IsGrowing-begun : (left : ℕ) → left ≡ 2 * 2 ^ height - (height + 2)
      → IsGrowing (all_live b) (record { heap = heap; height = height; at = 1; block = 0; low = 1; hole = 0; left = left })
  IsGrowing-begun left left_is = (
    record {
      small = filling.small;
      few = few;
      room = filling.room;
      shape = shape_begun;
      entries = TreeLemmas.Permuted-same (entries_begun b.at_level b.items heap filling height above);
      started = omega arith;
      within = λ le. pow_pos (height - 1);
      here = λ le. here (hole_begun 0);
      done = λ j less. absurd (omega arith);
      rest = λ j less within. hole_begun (j * 2 ^ 1);
      blank = λ j. filling.blank (j * 2 ^ 1);
      ended = all_heaps;
      left_is = λ le. left_is ∙ left_begun le;
      none_left = λ over. left_is ∙ no_turns over;
    },
    λ le. omega arith,
  )

  pub IsQuota-begun : IsQuota 4 12 b.at_level (length b.items) (length b.items + (2 * 2 ^ height - (height + 2)))
  IsQuota-begun = let most : 2 ^ height ≤ 2 ^ b.at_level = pow_mono (omega (arith, height_low)) in
      record { enough = omega arith; bounded = omega (arith, most, few) }
