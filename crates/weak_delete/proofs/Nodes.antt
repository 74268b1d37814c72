-- The nodes of a Fenwick tree over the places of their entries.
use Rattle.std.proofs.Common.{◌≡◌, ℕ, ◌+◌, ◌-◌, ◌*◌, ◌/◌, ◌^◌, ◌<◌, ◌≤◌, ◌%◌, ◌⊎◌, inl, inr, Bool, if◌then◌else◌, List, [], ◌∷◌, ◌++◌, length, take, drop, take-append-drop, set, get_or, true, false, cond, refl, sym, ap, subst, ◌∙◌, arith, get_or-set_same, get_or-set_other}
use Rattle.std.specs.List.{sum_by, count_by}
use Rattle.std.proofs.Math.Seq.{take-set-lt}
use Rattle.std.proofs.lemmas.List.{take-take, take_all, take-append-le, take-set-le, get_or_past, get_or_read, get_or-take, get_or_append_left, get_or_push, length-take, length-drop, length-set, length_push}
use Rattle.std.proofs.lemmas.List.Sums.{sum_by-take-le, sum_by-set, sum_by_more, sum_by_push, sum_by-append, count_by-le-length}
use Rattle.std.proofs.lemmas.Bool.{cases_lt, cases_eq}
use Rattle.std.proofs.lemmas.Bool.Decides.{nat_tests}
use Rattle.weak_delete.specs.declared.place.Place.{Place}
use Rattle.weak_delete.specs.declared.live_counts.Node.{Node}
use Rattle.weak_delete.specs.Places.{is_live, live_amount, live_place, IsLive, cleared, no_place}
use Rattle.row_blocks.specs.Blocks.{height_at}
use Rattle.row_blocks.proofs.Blocks.{starts_inside, IsHalved}
use Rattle.weak_delete.specs.Fenwick.{IsOver, AreNodes, start_of, no_node, entries_for}

-- a shorter prefix weighs no more
pub sum_by-prefix-le : {X : Type 0} (f : X → ℕ) (xs : List X) (i j : ℕ) → i ≤ j → sum_by f (take i xs) ≤ sum_by f (take j xs)
sum_by-prefix-le f xs i j h = subst (λ ys. sum_by f ys ≤ sum_by f (take j xs)) (take-take i j xs h) (sum_by-take-le f (take j xs) i)

-- where a test holds of all, it holds of all in a front
pub count_by-all : {X : Type 0} (p : X → Bool) (xs : List X) (i : ℕ) → i ≤ length xs → count_by p xs ≡ length xs → count_by p (take i xs) ≡ i
count_by-all p xs i within all =
    omega (
      arith,
      all,
      ap (count_by p) (sym (take-append-drop i xs)) ∙ sum_by-append (λ x. cond (p x) 1 0) (take i xs) (drop i xs),
      count_by-le-length p (take i xs),
      count_by-le-length p (drop i xs),
      length-take i xs,
      length-drop i xs,
    )

-- where all places are live, so are those of a front
pub live-front : (places seen : List Place) (total : Node) (len : ℕ) → IsOver places 0 len total → total.count ≡ len → length places ≡ len → places ≡ seen
    → (i : ℕ) → i ≤ length seen → count_by is_live (take i seen) ≡ i
live-front places seen total len over full long same i within =
    let all : count_by is_live places ≡ length places = omega (arith, over.count, full, long, ap (count_by is_live) (take_all len places (omega (arith, long)))) in
    subst (λ (ps : List Place). count_by is_live (take i ps) ≡ i) same (count_by-all is_live places i (omega (arith, within, ap length same)) all)

pub start_of-whole : (unturned end : ℕ) → end ≤ unturned → start_of unturned end ≡ 0
start_of-whole unturned end h = grind (arith, nat_tests)

pub start_of-turned : (unturned end : ℕ) → unturned < end → start_of unturned end ≡ end - 2 ^ height_at end
start_of-turned unturned end h = grind (arith, nat_tests)

-- what `count_by` sums up
abbrev pub live_one : Place → ℕ
live_one place = cond (is_live place) 1 0

-- a node less the node of a shorter range that begins there too
pub IsOver-less : {places : List Place} {first : ℕ} (start end : ℕ) (whole before node : Node) → IsOver places first end whole → IsOver places first start before
    → start ≤ end → node.count ≡ whole.count - before.count → node.weight ≡ whole.weight - before.weight → IsOver places start end node
IsOver-less {places} start end whole before node over_end over_start h count weight = record {
  count = omega (arith, over_end.count, over_start.count, sum_by-prefix-le live_one places start end h);
  weight = omega (arith, over_end.weight, over_start.weight, sum_by-prefix-le live_amount places start end h);
}

pub before-le : {places : List Place} {first : ℕ} (start end : ℕ) (whole before : Node) → IsOver places first end whole → IsOver places first start before
    → start ≤ end → (before.count ≤ whole.count) × (before.weight ≤ whole.weight)
before-le {places} start end whole before over_end over_start h = (
  omega (arith, over_end.count, over_start.count, sum_by-prefix-le live_one places start end h),
  omega (arith, over_end.weight, over_start.weight, sum_by-prefix-le live_amount places start end h),
)

-- what is left is what isn't turned
pub unturned-left : (sealed : Bool) (unturned left : ℕ) → (if sealed then unturned else 0) ≡ left → 0 < left → unturned ≡ left
unturned-left true unturned left e pos = e
unturned-left false unturned left e pos = let no : ⊥ = omega arith in absurd no

pub unturned-none : (sealed : Bool) (unturned left : ℕ) → (if sealed then unturned else 0) ≡ left → sealed ≡ true → left ≡ 0 → unturned ≡ 0
unturned-none true unturned left e is none = e ∙ none
unturned-none false unturned left e is none = absurd (cc)

-- ---- places that are put
module _ (places : List Place) (n weight : ℕ) (long : length places ≡ n) where
  -- a node over all places, with one more
  pub IsOver-put : (total : Node) (end : ℕ) → IsOver places 0 n total → n < end
      → IsOver (places ++ live_place weight ∷ []) 0 end (record { count = total.count + 1; weight = total.weight + weight })
  IsOver-put total end over past =
      let all : take end (places ++ live_place weight ∷ []) ≡ places ++ live_place weight ∷ [] =
      take_all end (places ++ live_place weight ∷ []) (omega (arith, length_push places (live_place weight))) in
      let was : take n places ≡ places = take_all n places (omega arith) in
      record {
        count = omega (arith, over.count, ap (count_by is_live) all, ap (count_by is_live) was, sum_by_push live_one places (live_place weight));
        weight = omega (arith, over.weight, ap (sum_by live_amount) all, ap (sum_by live_amount) was, sum_by_push live_amount places (live_place weight));
      }

  -- and one over places before it
  pub IsOver-kept : (node : Node) (start end : ℕ) → IsOver places start end node → start ≤ end → end ≤ n → IsOver (places ++ live_place weight ∷ []) start end node
  IsOver-kept node start end over ordered within =
      let low = take-append-le start places (live_place weight ∷ []) (omega arith) in
      let high = take-append-le end places (live_place weight ∷ []) (omega arith) in
      record {
        count = omega (arith, over.count, ap (count_by is_live) low, ap (count_by is_live) high);
        weight = omega (arith, over.weight, ap (sum_by live_amount) low, ap (sum_by live_amount) high);
      }

  -- while places are put, each node stands for all up to its end
  module _ (nodes : List Node) (total : Node) (each : AreNodes places nodes (entries_for n)) (as_many : length nodes ≡ entries_for n) (all : IsOver places 0 n total) where
    abbrev more : Node
    more = record { count = total.count + 1; weight = total.weight + weight }

    whole_at : (k : ℕ) → k < length nodes → IsOver places 0 (16 * (k + 1)) (get_or nodes k no_node)
    whole_at k within = let P : ℕ → Type 0 = λ s. IsOver places (16 * s) (16 * (k + 1)) (get_or nodes k no_node) in
        subst P (start_of-whole (entries_for n) (k + 1) (omega arith)) (each.over k within)

    from_whole : (after : List Node) (k : ℕ) → k + 1 ≤ entries_for (n + 1) → IsOver (places ++ live_place weight ∷ []) 0 (16 * (k + 1)) (get_or after k no_node)
        → IsOver (places ++ live_place weight ∷ []) (16 * start_of (entries_for (n + 1)) (k + 1)) (16 * (k + 1)) (get_or after k no_node)
    from_whole after k within over = let P : ℕ → Type 0 = λ s. IsOver (places ++ live_place weight ∷ []) (16 * s) (16 * (k + 1)) (get_or after k no_node) in
        subst P (sym (start_of-whole (entries_for (n + 1)) (k + 1) within)) over

    -- the first place of an entry has a node of its own
    pub AreNodes-put_first : n % 16 ≡ 0 → AreNodes (places ++ live_place weight ∷ []) (nodes ++ more ∷ []) (entries_for (n + 1))
    AreNodes-put_first first = record {
      over = λ k h.
          let count = length_push nodes more in
          from_whole (nodes ++ more ∷ []) k (omega arith) (elim (cases_lt k (length nodes)) [
            | inl earlier ↦
                subst (IsOver (places ++ live_place weight ∷ []) 0 (16 * (k + 1))) (sym (get_or_append_left nodes (more ∷ []) no_node k earlier))
                (IsOver-kept (get_or nodes k no_node) 0 (16 * (k + 1)) (whole_at k earlier) (omega arith) (omega arith))
            | inr last ↦
                subst (IsOver (places ++ live_place weight ∷ []) 0 (16 * (k + 1))) (sym (get_or_push nodes more no_node k (omega arith)))
                (IsOver-put total (16 * (k + 1)) all (omega arith))
          ]);
    }

    -- and the others are counted by that node
    pub AreNodes-put_behind : (n % 16 ≡ 0 → ⊥) → AreNodes (places ++ live_place weight ∷ []) (set nodes (n / 16) more) (entries_for (n + 1))
    AreNodes-put_behind behind = record {
      over = λ k h.
          let count = length-set nodes (n / 16) more in
          from_whole (set nodes (n / 16) more) k (omega arith) (elim (cases_eq k (n / 16)) [
            | inl last ↦
                subst (IsOver (places ++ live_place weight ∷ []) 0 (16 * (k + 1)))
                (sym (ap (λ i. get_or (set nodes (n / 16) more) i no_node) last ∙ get_or-set_same nodes (n / 16) more no_node (omega arith)))
                (IsOver-put total (16 * (k + 1)) all (omega arith))
            | inr earlier ↦
                subst (IsOver (places ++ live_place weight ∷ []) 0 (16 * (k + 1))) (sym (get_or-set_other nodes (n / 16) k more no_node earlier))
                (IsOver-kept (get_or nodes k no_node) 0 (16 * (k + 1)) (whole_at k (omega arith)) (omega arith) (omega (arith, earlier)))
          ]);
    }

-- ---- a place taken out

-- an element of a range is part of its sum
pub sum_by-inside-le : {X : Type 0} (f : X → ℕ) (xs : List X) (start end k : ℕ) (d : X) → start ≤ k → k < end → k < length xs
    → sum_by f (take start xs) + f (get_or xs k d) ≤ sum_by f (take end xs)
sum_by-inside-le f xs start end k d after before within =
    omega (arith, sum_by-prefix-le f xs start k after, sum_by_more f xs k d (omega arith), sum_by-prefix-le f xs (k + 1) end (omega arith))

pub live_within : (places : List Place) (k : ℕ) → IsLive places k → k < length places
live_within places k live = elim (cases_lt k (length places)) [
  | inl within ↦ within
  | inr past ↦ let no : false ≡ true = sym (ap is_live (get_or_past places k no_place past)) ∙ live in absurd (cc)
]

module _ (places : List Place) (k : ℕ) (live : IsLive places k) where
  -- the place as it is afterwards
  dead : Place
  dead = record (get_or places k no_place) { live = false }

  pub prefix-cleared-same : (f : Place → ℕ) (n : ℕ) → n ≤ k → sum_by f (take n (cleared places k)) ≡ sum_by f (take n places)
  prefix-cleared-same f n h = ap (sum_by f) (take-set-le n places k _ h)

  pub prefix-cleared-less : (f : Place → ℕ) (n : ℕ) → f (record (get_or places k no_place) { live = false }) ≡ 0 → k < n
      → sum_by f (take n (cleared places k)) + f (get_or places k no_place) ≡ sum_by f (take n places)
  prefix-cleared-less f n none h =
      let inside : k < length (take n places) = omega (arith, length-take n places, live_within places k live) in
      let same : get_or (take n places) k no_place ≡ get_or places k no_place = get_or-take n places k no_place h in
      omega (
        arith,
        ap (sum_by f) (take-set-lt n places k (record (get_or places k no_place) { live = false }) h),
        sum_by-set f (take n places) k (record (get_or places k no_place) { live = false }) no_place inside,
        ap f same,
      )

  pub IsOver-cleared-before : (start end : ℕ) (node : Node) → start ≤ end → end ≤ k → IsOver places start end node → IsOver (cleared places k) start end node
  IsOver-cleared-before start end node h before over = record {
    count = omega (arith, over.count, prefix-cleared-same live_one start (omega arith), prefix-cleared-same live_one end before);
    weight = omega (arith, over.weight, prefix-cleared-same live_amount start (omega arith), prefix-cleared-same live_amount end before);
  }

  pub IsOver-cleared-after : (start end : ℕ) (node : Node) → k < start → start ≤ end → IsOver places start end node → IsOver (cleared places k) start end node
  IsOver-cleared-after start end node after h over = record {
    count = omega (arith, over.count, prefix-cleared-less live_one start refl after, prefix-cleared-less live_one end refl (omega arith));
    weight = omega (arith, over.weight, prefix-cleared-less live_amount start refl after, prefix-cleared-less live_amount end refl (omega arith));
  }

  pub IsOver-cleared-inside : (start end : ℕ) (node less : Node) → start ≤ k → k < end → IsOver places start end node
      → node.count ≡ less.count + 1 → node.weight ≡ less.weight + (get_or places k no_place).amount → IsOver (cleared places k) start end less
  IsOver-cleared-inside start end node less after before over count weight = record {
    count = omega (arith, over.count, count, prefix-cleared-same live_one start after, prefix-cleared-less live_one end refl before, one);
    weight = omega (arith, over.weight, weight, prefix-cleared-same live_amount start after, prefix-cleared-less live_amount end refl before, whole);
  }
    where
      one : live_one (get_or places k no_place) ≡ 1
      one = ap (λ b. cond b 1 0) live

      whole : live_amount (get_or places k no_place) ≡ (get_or places k no_place).amount
      whole = ap (λ b. cond b (get_or places k no_place).amount 0) live

  -- a node over the place has it in its count and its weight
  pub node-of-live : (start end : ℕ) (node : Node) → start ≤ k → k < end → IsOver places start end node
      → (1 ≤ node.count) × ((get_or places k no_place).amount ≤ node.weight)
  node-of-live start end node after before over = (
    (let one : live_one (get_or places k no_place) ≡ 1 = ap (λ b. cond b 1 0) live in
        omega (arith, over.count, sum_by-inside-le live_one places start end k no_place after before (live_within places k live), one)),
    (let whole : live_amount (get_or places k no_place) ≡ (get_or places k no_place).amount = ap (λ b. cond b (get_or places k no_place).amount 0) live in
        omega (arith, over.weight, sum_by-inside-le live_amount places start end k no_place after before (live_within places k live), whole)),
  )

-- the node at an index is over its range, in a tree that is built
abbrev pub IsNodeAt : List Place → List Node → ℕ → Type 0
IsNodeAt places nodes i = IsOver places (16 * (i + 1 - 2 ^ height_at (i + 1))) (16 * (i + 1)) (get_or nodes i no_node)

-- on the way down to the entry of the place k: the nodes that end inside the block still count it, and no others
pub record IsClearing (places : List Place) (k : ℕ) (nodes : List Node) (start height : ℕ) : Type 0 where
  pub inside : (i : ℕ) → i < length nodes → start < i + 1 → i + 1 < start + 2 ^ height → IsNodeAt places nodes i
  pub below : (i : ℕ) → i < length nodes → i + 1 ≤ start → IsNodeAt (cleared places k) nodes i
  pub beyond : (i : ℕ) → i < length nodes → start + 2 ^ height ≤ i + 1 → IsNodeAt (cleared places k) nodes i

pub AreNodes-at : {places : List Place} {nodes : List Node} → AreNodes places nodes 0 → (i : ℕ) → i < length nodes → IsNodeAt places nodes i
AreNodes-at {places} {nodes} built i h = let P : ℕ → Type 0 = λ s. IsOver places (16 * s) (16 * (i + 1)) (get_or nodes i no_node) in
    subst P (start_of-turned 0 (i + 1) (omega arith)) (built.over i h)

pub AreNodes-from : (places : List Place) (nodes : List Node) → ((i : ℕ) → i < length nodes → IsNodeAt places nodes i) → AreNodes places nodes 0
AreNodes-from places nodes each = record {
  over = λ i h.
      let P : ℕ → Type 0 = λ s. IsOver places (16 * s) (16 * (i + 1)) (get_or nodes i no_node) in
      subst P (sym (start_of-turned 0 (i + 1) (omega arith))) (each i h);
}

-- the node that ends in the middle of a block is over its first half, as the code reads it
pub node_of_half : {places : List Place} {nodes : List Node} → AreNodes places nodes 0 → (start end : ℕ) (node : Node) → start + 2 ^ height_at end ≡ end → 0 < end
    → end ≤ length nodes → node ≡ get_or nodes (end - 1) node → IsOver places (16 * start) (16 * end) node
node_of_half {places} {nodes} built start end node half pos within read =
    let at = AreNodes-at built (end - 1) (omega arith) in
    let e : end - 1 + 1 ≡ end = omega arith in
    let there : end - 1 < length nodes = omega arith in
    let node_is : get_or nodes (end - 1) no_node ≡ node = sym (get_or_read nodes (end - 1) node there read no_node) in
    let from : end - 2 ^ height_at end ≡ start = omega (arith, half) in
    let P : ℕ → Type 0 = λ n. IsOver places (16 * (n - 2 ^ height_at n)) (16 * n) (get_or nodes (end - 1) no_node) in
    let Q : ℕ → Type 0 = λ n. IsOver places (16 * n) (16 * end) (get_or nodes (end - 1) no_node) in
    subst (IsOver places (16 * start) (16 * end)) node_is (subst Q from (subst P e at))

pub built_nodes : {places seen : List Place} {nodes : List Node} {unturned : ℕ} → AreNodes places nodes unturned → places ≡ seen → unturned ≡ 0 → AreNodes seen nodes 0
built_nodes {places} {seen} {nodes} {unturned} over same none =
    let P : List Place → Type 0 = λ ps. AreNodes ps nodes 0 in subst P same (subst (AreNodes places nodes) none over)

-- a node, and the one that stands before it
pub IsOver-joined : {places : List Place} {start middle end : ℕ} (later node : Node) → IsOver places middle end later → IsOver places start middle node
    → IsOver places start end (record { count = later.count + node.count; weight = later.weight + node.weight })
IsOver-joined later node over before = record { count = omega (arith, before.count, over.count); weight = omega (arith, before.weight, over.weight) }

-- its sums fit
pub IsOver-joined_fits : {places : List Place} {start middle end : ℕ} (later node : Node) → IsOver places middle end later → IsOver places start middle node
    → length places ≤ 2 ^ 31 → sum_by live_amount places ≤ length places * (2 ^ 32 - 1) → (later.count + node.count < 2 ^ 32) × (later.weight + node.weight < 2 ^ 64)
IsOver-joined_fits {places} {start} {middle} {end} later node over before few small = (
  omega (arith, before.count, over.count, count_by-le-length is_live (take end places), length-take end places),
  omega (arith, before.weight, over.weight, sum_by-take-le live_amount places end),
)

pub sum-cleared-le : (places : List Place) (k : ℕ) → k < length places → sum_by live_amount (cleared places k) ≤ sum_by live_amount places
sum-cleared-le places k within = omega (arith, sum_by-set live_amount places k (record (get_or places k no_place) { live = false }) no_place within)

-- ---- the way down to the entry of a place that is taken out
module _ {places : List Place} {k : ℕ} {nodes : List Node} {start height : ℕ} where
  -- into the second half: the node between the halves ends before the entry
  pub IsClearing-second : {half : ℕ} → IsLive places k → IsClearing places k nodes start height → IsHalved start height half → start + half ≤ k / 16 → IsClearing places k nodes (start + half) (height - 1)
  IsClearing-second {half} live clearing block before = record {
    inside = λ i h after until. clearing.inside i h (omega arith) (omega (arith, block.twice, block.is));
    below = λ i h until. elim (cases_lt start (i + 1)) [
      | inl after ↦ IsOver-cleared-before places k live _ _ _ (omega arith) (omega arith) (clearing.inside i h after (omega (arith, block.twice, block.some)))
      | inr already ↦ clearing.below i h already
    ];
    beyond = λ i h after. clearing.beyond i h (omega (arith, block.twice, block.is));
  }

  -- the node between the halves, as it is before
  pub IsClearing-node : {half : ℕ} (node : Node) → IsClearing places k nodes start height → IsHalved start height half
      → start + half ≤ length nodes → node ≡ get_or nodes (start + half - 1) node → IsOver places (16 * start) (16 * (start + half)) node
  IsClearing-node {half} node clearing block within read =
      let end : start + half - 1 + 1 ≡ start + half = omega (arith, block.some) in
      let there : start + half - 1 < length nodes = omega (arith, block.some) in
      let start_is : start + half - 2 ^ height_at (start + half) ≡ start = omega (arith, block.own) in
      let at = clearing.inside (start + half - 1) (omega (arith, block.some)) (omega (arith, block.some)) (omega (arith, block.some, block.twice)) in
      let node_is : get_or nodes (start + half - 1) no_node ≡ node = sym (get_or_read nodes (start + half - 1) node there read no_node) in
      let P : ℕ → Type 0 = λ n. IsOver places (16 * (n - 2 ^ height_at n)) (16 * n) (get_or nodes (start + half - 1) no_node) in
      let Q : ℕ → Type 0 = λ n. IsOver places (16 * n) (16 * (start + half)) (get_or nodes (start + half - 1) no_node) in
      subst (IsOver places (16 * start) (16 * (start + half))) node_is (subst Q start_is (subst P end at))

  -- into the first half, with the node between the halves changed
  pub IsClearing-first : {half : ℕ} (node less : Node) → IsLive places k → IsClearing places k nodes start height → IsHalved start height half → height ≤ 64 → start ≤ k / 16 → k / 16 < start + half
      → start + half ≤ length nodes → node ≡ get_or nodes (start + half - 1) node → node.count ≡ less.count + 1
      → node.weight ≡ less.weight + (get_or places k no_place).amount → IsClearing places k (set nodes (start + half - 1) less) start (height - 1)
  IsClearing-first {half} node less live clearing block small from before within read count weight = record {
    inside = λ i h after until.
        rw (get_or-set_other nodes (start + half - 1) i less no_node (omega (arith, block.is))) (clearing.inside i (omega (arith, long)) after (omega (arith, block.twice, block.is)));
    below = λ i h until.
        rw (get_or-set_other nodes (start + half - 1) i less no_node (omega (arith, block.some))) (clearing.below i (omega (arith, long)) until);
    beyond = λ i h after. elim (cases_eq i (start + half - 1)) [
      | inl here ↦ let P : ℕ → Type 0 = λ n. IsNodeAt (cleared places k) (set nodes (start + half - 1) less) n in subst P (sym here) changed
      | inr away ↦ rw (get_or-set_other nodes (start + half - 1) i less no_node away) (unchanged i (omega (arith, long)) (omega (arith, block.is, block.some)) (cases_lt (i + 1) (start + 2 ^ height)))
    ];
  }
    where
      long : length (set nodes (start + half - 1) less) ≡ length nodes
      long = length-set nodes (start + half - 1) less

      changed : IsNodeAt (cleared places k) (set nodes (start + half - 1) less) (start + half - 1)
      changed =
          let end : start + half - 1 + 1 ≡ start + half = omega (arith, block.some) in
          let there : start + half - 1 < length nodes = omega (arith, block.some) in
          let start_is : start + half - 2 ^ height_at (start + half) ≡ start = omega (arith, block.own) in
          let old = IsClearing-node node clearing block within read in
          let new : IsOver (cleared places k) (16 * start) (16 * (start + half)) less = IsOver-cleared-inside places k live (16 * start) (16 * (start + half)) node less (omega arith) (omega arith) old count weight in
          let Q : ℕ → Type 0 = λ n. IsOver (cleared places k) (16 * n) (16 * (start + half)) less in
          let P : ℕ → Type 0 = λ n. IsOver (cleared places k) (16 * (n - 2 ^ height_at n)) (16 * n) less in
          rw (get_or-set_same nodes (start + half - 1) less no_node there) (subst P (sym end) (subst Q (sym start_is) new))

      unchanged : (i : ℕ) → i < length nodes → start + half < i + 1 → (i + 1 < start + 2 ^ height) ⊎ (start + 2 ^ height ≤ i + 1) → IsNodeAt (cleared places k) nodes i
      unchanged i h after (inl until) =
          let inside : start + half + 2 ^ height_at (i + 1) ≤ i + 1 = starts_inside (start + half) (height - 1) (i + 1) block.second (omega arith) after (omega (arith, block.twice, block.is)) in
          IsOver-cleared-after places k live _ _ _ (omega arith) (omega arith) (clearing.inside i h (omega (arith, block.some)) until)
      unchanged i h after (inr past) = clearing.beyond i h past

  -- into the first half, where no node stands between the halves
  pub IsClearing-cut : {half : ℕ} → IsClearing places k nodes start height → IsHalved start height half → length nodes < start + half → IsClearing places k nodes start (height - 1)
  IsClearing-cut {half} clearing block short = record {
    inside = λ i h after until. clearing.inside i h after (omega (arith, block.twice, block.is));
    below = clearing.below;
    beyond = λ i h after. let no : ⊥ = omega (arith, block.is) in absurd no;
  }

  -- nothing is done yet
  pub IsClearing-begin : AreNodes places nodes 0 → start ≡ 0 → length nodes < 2 ^ height → IsClearing places k nodes start height
  IsClearing-begin built zero_start few = record {
    inside = λ i h after until. AreNodes-at built i h;
    below = λ i h until. let no : ⊥ = omega arith in absurd no;
    beyond = λ i h after. let no : ⊥ = omega arith in absurd no;
  }

  -- all is done
  pub IsClearing-end : IsClearing places k nodes start height → height ≡ 0 → AreNodes (cleared places k) nodes 0
  IsClearing-end clearing last =
      let one : 2 ^ height ≡ 1 = ap (λ i. 2 ^ i) last in
      AreNodes-from (cleared places k) nodes (λ i h.
      elim (cases_lt start (i + 1)) [
        | inl after ↦ clearing.beyond i h (omega (arith, one))
        | inr until ↦ clearing.below i h until
      ])
