-- How the tree grows, pull by pull.
use Rattle.std.proofs.Common.{◌≡◌, ℕ, zero, suc, ◌+◌, ◌-◌, ◌*◌, ◌^◌, ◌<◌, ◌≤◌, ◌++◌, Option, None, sym, ap, ◌∙◌, arith, inl, inr, subst, pow-suc, add-one, pow_mono}
use Rattle.std.specs.Option.{option_to_list}
use Rattle.std.proofs.Math.Nat.{mul-le-mul_right}
use Rattle.std.proofs.lemmas.Nat.{pow_pos, pow-add}
use Rattle.std.proofs.lemmas.Bool.{cases_lt}
use Rattle.query_laws.specs.Permuted.{Permuted, composed}
use Rattle.query_laws.proofs.Permutations.{Permuted-append, Permuted-append_right}
use Rattle.builder_trait.specs.Parts.{Contents}
use Rattle.map_shapes.specs.declared.point.Point.{Point}
use Rattle.priority_tree.specs.declared.entry.Entry.{Entry}
use Rattle.priority_tree.specs.declared.heap.Heap.{Heap}
use Rattle.priority_tree.specs.declared.rows.TopRows.{TopRows}
use Rattle.priority_tree.specs.Tree.{node_at, entries_in, IsHeap, IsHole, IsHeapBut, here, IsBlock, IsSameOutside, IsSameWithin}
use Rattle.priority_tree.specs.Pulls.{IsPulled}
use Rattle.priority_tree.specs.Live.{IsShape}
use Rattle.priority_tree.specs.Growing.{turns_above, IsGrown, IsGrowing}
use Rattle.priority_tree.proofs.TreeLemmas
use Rattle.priority_tree.proofs.PullLemmas

-- ---- a change in a block of those of one height

times : (m a b : ℕ) → a ≤ b → a * m ≤ b * m
times m a b le = mul-le-mul_right m le

middle_of : (i d at : ℕ) → i * 2 ^ at + 2 ^ (d + at) ≡ (i + 2 ^ d) * 2 ^ at
middle_of i d at = omega (arith, pow-add 2 d at)

module _ {old new : Heap} (at j : ℕ) (same : IsSameOutside old new at (j * 2 ^ at)) (p : Permuted (entries_in new at (j * 2 ^ at)) (entries_in old at (j * 2 ^ at))) where
  before_block : (g i : ℕ) → i + 2 ^ g ≤ j * 2 ^ at → IsSameWithin old new g i
  before_block g i le = TreeLemmas.IsSameWithin-before at (j * 2 ^ at) g i same le

  behind_block : (g i : ℕ) → (j + 1) * 2 ^ at ≤ i → IsSameWithin old new g i
  behind_block g i le = TreeLemmas.IsSameWithin-behind at (j * 2 ^ at) g i same (omega arith)

  parted : (h i : ℕ) → node_at new (i + 2 ^ h) ≡ node_at old (i + 2 ^ h) → Permuted (entries_in new h i) (entries_in old h i)
      → Permuted (entries_in new h (i + 2 ^ h)) (entries_in old h (i + 2 ^ h)) → Permuted (entries_in new (suc h) i) (entries_in old (suc h) i)
  parted h i node first second =
      subst (λ (o : Option Entry). Permuted (option_to_list o ++ (entries_in new h i ++ entries_in new h (i + 2 ^ h))) (entries_in old (suc h) i)) (sym node)
      (Permuted-append_right (option_to_list (node_at old (i + 2 ^ h))) (Permuted-append first second))

  pub Permuted-block : (d i : ℕ) → i ≤ j → j < i + 2 ^ d → Permuted (entries_in new (d + at) (i * 2 ^ at)) (entries_in old (d + at) (i * 2 ^ at))
  Permuted-block zero i low high =
      let is : j ≡ i = omega arith in
      let same_height : at ≡ 0 + at = omega arith in
      subst (λ (h : ℕ). Permuted (entries_in new h (i * 2 ^ at)) (entries_in old h (i * 2 ^ at))) same_height
      (subst (λ (k : ℕ). Permuted (entries_in new at (k * 2 ^ at)) (entries_in old at (k * 2 ^ at))) is p)
  Permuted-block (suc d) i low high =
      let taller : suc (d + at) ≡ suc d + at = omega arith in
      let middle : i * 2 ^ at + 2 ^ (d + at) ≡ (i + 2 ^ d) * 2 ^ at = middle_of i d at in
      let within : j < i + 2 ^ d + 2 ^ d = omega (arith, TreeLemmas.doubled d) in
      subst (λ (h : ℕ). Permuted (entries_in new h (i * 2 ^ at)) (entries_in old h (i * 2 ^ at))) taller
      (elim (cases_lt j (i + 2 ^ d)) [
        | inl first ↦
            let end : (j + 1) * 2 ^ at ≤ (i + 2 ^ d) * 2 ^ at = times (2 ^ at) (j + 1) (i + 2 ^ d) (omega arith) in
            parted (d + at) (i * 2 ^ at) (same.nodes_behind (i * 2 ^ at + 2 ^ (d + at)) (omega (arith, end, middle))) (Permuted-block d i low first)
            (TreeLemmas.Permuted-same (TreeLemmas.entries_in-same (d + at) (i * 2 ^ at + 2 ^ (d + at)) (behind_block (d + at) (i * 2 ^ at + 2 ^ (d + at)) (omega (arith, end, middle)))))
        | inr second ↦
            let start : (i + 2 ^ d) * 2 ^ at ≤ j * 2 ^ at = times (2 ^ at) (i + 2 ^ d) j second in
            parted (d + at) (i * 2 ^ at) (same.nodes_before (i * 2 ^ at + 2 ^ (d + at)) (omega (arith, start, middle)))
            (TreeLemmas.Permuted-same (TreeLemmas.entries_in-same (d + at) (i * 2 ^ at) (before_block (d + at) (i * 2 ^ at) (omega (arith, start, middle)))))
            (subst (λ (k : ℕ). Permuted (entries_in new (d + at) k) (entries_in old (d + at) k)) (sym middle) (Permuted-block d (i + 2 ^ d) second within))
      ])

  pub Permuted-whole : (h : ℕ) → at ≤ h → j < 2 ^ (h - at) → Permuted (entries_in new h 0) (entries_in old h 0)
  Permuted-whole h le within =
      let is : h - at + at ≡ h = omega arith in
      let start : 0 * 2 ^ at ≡ 0 = omega arith in
      subst (λ (g : ℕ). Permuted (entries_in new g 0) (entries_in old g 0)) is
      (subst (λ (k : ℕ). Permuted (entries_in new (h - at + at) k) (entries_in old (h - at + at) k)) start
      (Permuted-block (h - at) 0 (omega arith) (omega (arith, within))))

  pub heap_before : (i : ℕ) → i < j → IsHeap old at (i * 2 ^ at) → IsHeap new at (i * 2 ^ at)
  heap_before i less held =
      TreeLemmas.IsHeap-same at (i * 2 ^ at) (before_block at (i * 2 ^ at) (omega (arith, times (2 ^ at) (i + 1) j (omega arith)))) held

  pub hole_behind : (i : ℕ) → j < i → IsHole old at (i * 2 ^ at) → IsHole new at (i * 2 ^ at)
  hole_behind i less hole =
      TreeLemmas.IsHole-same at (i * 2 ^ at) (behind_block at (i * 2 ^ at) (times (2 ^ at) (j + 1) i (omega arith))) hole

  pub blank_same : (i : ℕ) → node_at new (i * 2 ^ at) ≡ node_at old (i * 2 ^ at)
  blank_same i = elim (cases_lt j i) [
    | inl less ↦ same.nodes_behind (i * 2 ^ at) (omega (arith, times (2 ^ at) (j + 1) i (omega arith)))
    | inr more ↦ same.nodes_before (i * 2 ^ at) (times (2 ^ at) i j more)
  ]

-- ---- the block at hand

block_within : (h at j : ℕ) → at ≤ h → j < 2 ^ (h - at) → (j + 1) * 2 ^ at ≤ 2 ^ h
block_within h at j le within =
    let is : h - at + at ≡ h = omega arith in
    omega (arith, times (2 ^ at) (j + 1) (2 ^ (h - at)) (omega arith), pow-add 2 (h - at) at, ap (λ n. 2 ^ n) is)

pub block_of_shape : (n : ℕ) (heap : Heap) (height : ℕ) → IsShape n heap height → IsBlock heap height 0
block_of_shape n heap height shape =
    let most : 2 ^ height ≤ 2 ^ 27 = pow_mono shape.low in
    record { low = shape.low; small = omega (arith, most); places = λ some. omega (arith, shape.places some) }

module _ (part : Contents Point) (rows : TopRows) (grown : IsGrown part rows) where
  module _ (under : rows.at ≤ rows.height) where
    pub hole_here : IsHole rows.heap rows.low rows.hole
    hole_here = PullLemmas.hole_of rows.at (rows.block * 2 ^ rows.at) (grown.here under)

    pub hole_block : IsBlock rows.heap rows.low rows.hole
    hole_block =
        let within = PullLemmas.hole_within rows.at (rows.block * 2 ^ rows.at) (grown.here under) in
        let most : 2 ^ rows.height ≤ 2 ^ 27 = pow_mono grown.shape.low in
        let end = block_within rows.height rows.at rows.block under (grown.within under) in
        record {
          low = low_of (grown.here under);
          small = omega (arith, within.1, end, most);
          places = λ some. omega (arith, within.1, end, grown.shape.places (omega (arith, grown.started)));
        }
      where
        low_of : IsHeapBut rows.heap rows.low rows.hole rows.at (rows.block * 2 ^ rows.at) → rows.low ≤ 27
        low_of but = omega (arith, PullLemmas.hole_low rows.at (rows.block * 2 ^ rows.at) but, grown.shape.low)

    -- one pull
    module _ (new : Heap) (child : ℕ) (low : ℕ) (left : ℕ) (e : rows.low ≡ low + 1) (f : rows.left ≡ left + 1) (pulled : IsPulled rows.heap new rows.low rows.hole low child) where
      within_block : (rows.block * 2 ^ rows.at ≤ rows.hole) × (rows.hole + 2 ^ rows.low ≤ rows.block * 2 ^ rows.at + 2 ^ rows.at)
      within_block = PullLemmas.hole_within rows.at (rows.block * 2 ^ rows.at) (grown.here under)

      same : IsSameOutside rows.heap new rows.at (rows.block * 2 ^ rows.at)
      same = TreeLemmas.IsSameOutside-wider rows.low rows.hole rows.at (rows.block * 2 ^ rows.at) within_block.0 within_block.1 pulled.same

      p : Permuted (entries_in new rows.at (rows.block * 2 ^ rows.at)) (entries_in rows.heap rows.at (rows.block * 2 ^ rows.at))
      p = PullLemmas.Permuted-replaced pulled.same pulled.same_entries rows.at (rows.block * 2 ^ rows.at) (grown.here under)

      pub IsGrown-pulled : IsGrown part (record rows { heap = new; low = low; hole = child; left = left })
      IsGrown-pulled = record {
        small = grown.small;
        few = grown.few;
        room = record { leaves = same.leaf_room ∙ grown.room.leaves; nodes = same.node_room ∙ grown.room.nodes };
        shape = record {
          leaves = omega (arith, grown.shape.leaves, same.as_many_leaves);
          low = grown.shape.low;
          places = λ some. omega (arith, grown.shape.places some, same.as_many_nodes);
          least = grown.shape.least;
        };
        entries = composed (Permuted-whole rows.at rows.block same p rows.height under (grown.within under)) grown.entries;
        started = grown.started;
        within = grown.within;
        here = λ le. PullLemmas.IsHeapBut-replaced pulled.same pulled.same_entries rows.at (rows.block * 2 ^ rows.at) (grown.here under) pulled.but;
        done = λ j less. heap_before rows.at rows.block same p j less (grown.done j less);
        rest = λ j less few. hole_behind rows.at rows.block same p j less (grown.rest j less few);
        blank = λ j. blank_same rows.at rows.block same p j ∙ grown.blank j;
        ended = λ over. absurd (omega arith);
        left_is = λ le. omega (arith, grown.left_is le);
        none_left = λ over. absurd (omega arith);
      }

    -- the hole is in a leaf, so the block at hand is a heap
    module _ (in_leaf : rows.low ≡ 0) where
      heap_here : IsHeap rows.heap rows.at (rows.block * 2 ^ rows.at)
      heap_here = PullLemmas.whole rows.at (rows.block * 2 ^ rows.at)
          (subst (λ (n : ℕ). IsHeapBut rows.heap n rows.hole rows.at (rows.block * 2 ^ rows.at)) in_leaf (grown.here under))

      heaps : (j : ℕ) → j < rows.block + 1 → IsHeap rows.heap rows.at (j * 2 ^ rows.at)
      heaps j less = elim (cases_lt j rows.block) [
        | inl before ↦ grown.done j before
        | inr from ↦
            let is : rows.block ≡ j = omega arith in
            subst (λ (n : ℕ). IsHeap rows.heap rows.at (n * 2 ^ rows.at)) is heap_here
      ]

      -- the next block of the same height
      pub IsGrowing-next : rows.block + 1 < 2 ^ (rows.height - rows.at)
          → IsGrowing part (record rows { block = rows.block + 1; low = rows.at; hole = (rows.block + 1) * 2 ^ rows.at })
      IsGrowing-next more = (
        record {
          small = grown.small;
          few = grown.few;
          room = grown.room;
          shape = grown.shape;
          entries = grown.entries;
          started = grown.started;
          within = λ le. more;
          here = λ le. here (grown.rest (rows.block + 1) (omega arith) more);
          done = heaps;
          rest = λ j less few. grown.rest j (omega arith) few;
          blank = grown.blank;
          ended = grown.ended;
          left_is = λ le. next_left (2 ^ (rows.height - rows.at)) more (grown.left_is le);
          none_left = grown.none_left;
        },
        λ le. grown.started,
      )
        where
          next_left : (most : ℕ) → rows.block + 1 < most → rows.left ≡ rows.low + rows.at * (most - (rows.block + 1)) + turns_above rows.height rows.at
              → rows.left ≡ rows.at + rows.at * (most - (rows.block + 1 + 1)) + turns_above rows.height rows.at
          next_left most more is =
              let one_more : most - (rows.block + 1) ≡ most - (rows.block + 1 + 1) + 1 = omega arith in
              omega (arith, is, ap (λ n. rows.at * n) one_more)

pub under_way : (part : Contents Point) (rows : TopRows) → IsGrown part rows → 0 < rows.left → rows.at ≤ rows.height
under_way part rows grown some = elim (cases_lt rows.height rows.at) [
  | inl over ↦ absurd (omega (arith, grown.none_left over, some))
  | inr under ↦ under
]

-- ---- the next height

twice : (d : ℕ) → 2 ^ suc d ≡ 2 * 2 ^ d
twice d = omega (arith, pow-suc 2 d)

-- two blocks below a place that holds nothing are one with a hole
two_blocks : (heap : Heap) (at j : ℕ) → node_at heap ((2 * j + 1) * 2 ^ at) ≡ None → IsHeap heap at (2 * j * 2 ^ at) → IsHeap heap at ((2 * j + 1) * 2 ^ at)
    → IsHole heap (at + 1) (j * 2 ^ (at + 1))
two_blocks heap at j none first second =
    let start : 2 * j * 2 ^ at ≡ j * 2 ^ suc at = omega (arith, ap (λ n. j * n) (twice at)) in
    let middle : (2 * j + 1) * 2 ^ at ≡ j * 2 ^ suc at + 2 ^ at = omega (arith, ap (λ n. j * n) (twice at)) in
    subst (λ (h : ℕ). IsHole heap h (j * 2 ^ h)) (sym (add-one at)) (
      subst (λ (k : ℕ). node_at heap k ≡ None) middle none,
      subst (λ (k : ℕ). IsHeap heap at k) start first,
      subst (λ (k : ℕ). IsHeap heap at k) middle second,
    )

many : (d a : ℕ) → d + a + 3 ≤ 2 ^ d * (a + 3)
many zero a = omega arith
many (suc d) a = omega (arith, many d a, ap (λ n. n * (a + 3)) (twice d))

turns_next : (height at : ℕ) → at + 1 ≤ height
    → turns_above height at ≡ at + 1 + (at + 1) * (2 ^ (height - (at + 1)) - (0 + 1)) + turns_above height (at + 1)
turns_next height at le =
    let d : ℕ = height - (at + 1) in
    by d (2 ^ d) (pow_pos d) (many d at) (omega arith) (ap (λ n. 2 ^ n) (omega arith) ∙ twice d)
  where
    by : (d m : ℕ) → 0 < m → d + at + 3 ≤ m * (at + 3) → d + at + 1 ≡ height → 2 ^ (height - at) ≡ 2 * m
        → 2 ^ (height - at) * (at + 2) - (height + 2) ≡ at + 1 + (at + 1) * (m - (0 + 1)) + (m * (at + 1 + 2) - (height + 2))
    by d m some more is double =
        let q : ℕ = m - 1 in
        let m_is : m ≡ q + 1 = omega arith in
        let fewer : m - (0 + 1) ≡ q = omega arith in
        omega (arith, more, is, ap (λ n. n * (at + 2)) double, ap (λ n. (at + 1) * n) fewer, ap (λ n. (at + 1) * n) m_is, ap (λ n. n * (at + 1 + 2)) m_is, ap (λ n. n * (at + 3)) m_is)

module _ (part : Contents Point) (rows : TopRows) (grown : IsGrown part rows) (under : rows.at ≤ rows.height) (in_leaf : rows.low ≡ 0)
    (last : 2 ^ (rows.height - rows.at) ≤ rows.block + 1) where
  every : (j : ℕ) → j < 2 ^ (rows.height - rows.at) → IsHeap rows.heap rows.at (j * 2 ^ rows.at)
  every j few = heaps part rows grown under in_leaf j (omega arith)

  hole_of_two : rows.at + 1 ≤ rows.height → (j : ℕ) → j < 2 ^ (rows.height - (rows.at + 1)) → IsHole rows.heap (rows.at + 1) (j * 2 ^ (rows.at + 1))
  hole_of_two le j few =
      let double : 2 ^ (rows.height - rows.at) ≡ 2 * 2 ^ (rows.height - (rows.at + 1)) =
      ap (λ n. 2 ^ n) (omega arith) ∙ twice (rows.height - (rows.at + 1)) in
      two_blocks rows.heap rows.at j (grown.blank (2 * j + 1)) (every (2 * j) (omega (arith, few, double))) (every (2 * j + 1) (omega (arith, few, double)))

  blank_higher : (j : ℕ) → node_at rows.heap (j * 2 ^ (rows.at + 1)) ≡ None
  blank_higher j =
      let is : 2 * j * 2 ^ rows.at ≡ j * 2 ^ (rows.at + 1) = omega (arith, ap (λ n. j * n) (twice rows.at), ap (λ n. j * 2 ^ n) (add-one rows.at)) in
      subst (λ (k : ℕ). node_at rows.heap k ≡ None) is (grown.blank (2 * j))

  turns_now : rows.left ≡ turns_above rows.height rows.at
  turns_now =
      let none : 2 ^ (rows.height - rows.at) - (rows.block + 1) ≡ 0 = omega arith in
      omega (arith, grown.left_is under, ap (λ n. rows.at * n) none)

  whole_tree : rows.height < rows.at + 1 → IsHeap rows.heap rows.height 0
  whole_tree over =
      let same : rows.at ≡ rows.height = omega arith in
      let first : 0 * 2 ^ rows.at ≡ 0 = omega arith in
      subst (λ (h : ℕ). IsHeap rows.heap h 0) same (subst (λ (k : ℕ). IsHeap rows.heap rows.at k) first (every 0 (pow_pos (rows.height - rows.at))))

  no_turns : rows.height < rows.at + 1 → rows.left ≡ 0
  no_turns over =
      let none : rows.height - rows.at ≡ 0 = omega arith in
      omega (arith, turns_now, ap (λ n. 2 ^ n * (rows.at + 2)) none)

  pub IsGrowing-higher : IsGrowing part (record rows { at = rows.at + 1; block = 0; low = rows.at + 1; hole = 0 * 2 ^ (rows.at + 1) })
  IsGrowing-higher = (
    record {
      small = grown.small;
      few = grown.few;
      room = grown.room;
      shape = grown.shape;
      entries = grown.entries;
      started = omega arith;
      within = λ le. pow_pos (rows.height - (rows.at + 1));
      here = λ le. here (hole_of_two le 0 (pow_pos (rows.height - (rows.at + 1))));
      done = λ j less. absurd (omega arith);
      rest = λ j less few. hole_of_two (higher j few less) j few;
      blank = blank_higher;
      ended = whole_tree;
      left_is = λ le. turns_now ∙ turns_next rows.height rows.at le;
      none_left = no_turns;
    },
    λ le. omega arith,
  )
    where
      higher : (j : ℕ) → j < 2 ^ (rows.height - (rows.at + 1)) → 0 < j → rows.at + 1 ≤ rows.height
      higher j few some = elim (cases_lt rows.height (rows.at + 1)) [
        | inl over ↦
            let none : rows.height - (rows.at + 1) ≡ 0 = omega arith in
            absurd (omega (arith, few, some, ap (λ n. 2 ^ n) none))
        | inr le ↦ le
      ]
