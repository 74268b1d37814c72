-- A place that dies.
use Rattle.std.proofs.Common.{◌≡◌, ◌≢◌, ℕ, ◌+◌, ◌-◌, ◌*◌, ◌/◌, ◌%◌, ◌^◌, ◌<◌, ◌≤◌, ◌==◌, ◌⊎◌, inl, inr, List, Bool, true, false, cond, length, length-set, min, set, get_or, get_or-set_same, get_or-set_other, refl, sym, ap, ap₂, subst, ◌∙◌, arith}
use Rattle.std.specs.Int.{bit_at}
use Rattle.std.specs.Prelude.{slice_get, Some}
use Rattle.std.proofs.Math.Nat.{mul-le-mul_right}
use Rattle.std.proofs.lemmas.Bool.{cases_lt, cases_eq}
use Rattle.std.proofs.lemmas.Bool.Decides.{nat_tests}
use Rattle.std.proofs.lemmas.Nat.Bits.{bit_at-lt}
use Rattle.std.proofs.lemmas.Bool.{eqb-true}
use Rattle.std.proofs.lemmas.Option.{get_or_from_slice_get}
use Rattle.std.proofs.lemmas.List.FromFn.{length-map-range_with_len, get_or-map-range_with_len, fill_by_all}
use Rattle.row_blocks.specs.Blocks.{IsMultiple, start_of}
use Rattle.row_blocks.proofs.Partitioning.{blocks_apart, start_of-le, start_of-above, start_of-multiple}
use Rattle.query_laws.specs.StepLedger.{Entries}
use Rattle.rank_rows.specs.declared.word.Word.{Word}
use Rattle.rank_rows.specs.declared.store.Store.{Store}
use Rattle.rank_rows.specs.declared.ranks.RankRows.TheInside.{Inside}
use Rattle.rank_rows.specs.Totals.{total}
use Rattle.rank_rows.specs.Words.{word_at, second_at, dead_at, weight_at, dead_before, weight_before}
use Rattle.rank_rows.specs.Nodes.{AreNodes, IsMarking, IsReady, IsSameButDied}
use Rattle.rank_rows.specs.Putting.{IsKilled}
use Rattle.rank_rows.specs.declared.cursor.Cursor.{Cursor}
use Rattle.rank_rows.specs.Ranked.{Ranked, seconds, lives, IsPlace, AreTrees, IsFresh, IsKept, marked, block_height, word_of}
use Rattle.rank_rows.proofs.Reading.{seen, found, words_of}
use Rattle.rank_rows.proofs.Sums.{total-le, total-most, total-none, total-same, total-changed}
use Rattle.rank_rows.proofs.Trees.{AreNodes-kept}

-- bits and weights of which one changes
module _ (k lost : ℕ) (d d' x x' : ℕ → ℕ) (was_live : d k ≡ 0) (died : d' k ≡ 1) (others : (j : ℕ) → j ≢ k → d' j ≡ d j) (bits : (j : ℕ) → d' j ≤ 1)
    (weighed : x k ≡ lost) (weightless : x' k ≡ 0) (others_weigh : (j : ℕ) → j ≢ k → x' j ≡ x j) where
  pub IsMarking-changed : IsMarking (k / 64) lost (λ e. total d (64 * e)) (λ e. total x (64 * e)) (λ e. total d' (64 * e)) (λ e. total x' (64 * e))
  IsMarking-changed = record {
    before = λ e le. (
      total-same d' d (64 * e) (λ j low. others j (λ is. (let no : ⊥ = omega arith in no))),
      total-same x' x (64 * e) (λ j low. others_weigh j (λ is. (let no : ⊥ = omega arith in no))),
    );
    after = λ e above. (
      omega (arith, total-changed d' d k (64 * e) (omega arith) others, was_live, died),
      omega (arith, total-changed x' x k (64 * e) (omega arith) others_weigh, weighed, weightless),
    );
    few = λ e low. omega (arith, total-most d' 1 0 (64 * e) bits, total-none d', ap (total d') (let is : 0 + 64 * e ≡ 64 * e = omega arith in is));
    rising = λ a b le. total-le x' (64 * a) (64 * b) (omega arith);
  }

weight_at-set_same : (weights : List ℕ) (k : ℕ) → k < length weights → weight_at (set weights k 0) k ≡ 0
weight_at-set_same weights k within = get_or-set_same weights k 0 0 within

weight_at-set_other : (weights : List ℕ) (k j : ℕ) → j ≢ k → weight_at (set weights k 0) j ≡ weight_at weights j
weight_at-set_other weights k j other = get_or-set_other weights k j 0 0 other

-- a live place can die
pub IsReady-live : (words : List Word) (weights : List ℕ) (k lost first height end at : ℕ) → k < length weights → dead_at words k ≡ 0 → weight_at weights k ≡ lost
    → at ≡ k / 64 → AreNodes words (dead_before words) (weight_before weights) first height end → IsReady words first height end at lost
IsReady-live words weights k lost first height end at within live weighed is nodes =
    let d' : ℕ → ℕ = λ j. cond (j == k) 1 (dead_at words j) in
    let marking = IsMarking-changed k lost (dead_at words) d' (weight_at weights) (weight_at (set weights k 0)) live (own (dead_at words k)) (λ j other. apart j other)
    (λ j. bit j (dead_at words j) (bit_at-lt (word_at words (j / 64)).dead (j % 64))) weighed (weight_at-set_same weights k within) (weight_at-set_other weights k) in
    record {
      dead = dead_before words;
      weighs = weight_before weights;
      dead' = λ e. total d' (64 * e);
      weighs' = λ e. total (weight_at (set weights k 0)) (64 * e);
      marking = subst (λ a. IsMarking a lost (dead_before words) (weight_before weights) (λ e. total d' (64 * e)) (λ e. total (weight_at (set weights k 0)) (64 * e))) (sym is) marking;
      nodes = nodes;
    }
  where
    own : (v : ℕ) → cond (k == k) 1 v ≡ 1
    own v = grind (arith, nat_tests)

    apart : (j : ℕ) → j ≢ k → cond (j == k) 1 (dead_at words j) ≡ dead_at words j
    apart j other = grind (arith, nat_tests)

    bit : (j v : ℕ) → v < 2 → cond (j == k) 1 v ≤ 1
    bit j v small = grind (arith, nat_tests)

abbrev pair : List Bool → List Bool → List Bool × List Bool
pair a b = (a, b)

-- where the word of a place stands: w words behind the beginning of its row, in the block of words from f words behind it
pub record IsWordAt (stride height row base first end at f w len : ℕ) : Type 0 where
  pub base_is : base ≡ row * stride
  pub first_is : first ≡ base + f
  pub at_is : at ≡ base + w
  pub end_is : end ≡ min (base + stride) len
  pub block : IsMultiple f (block_height height row)
  pub from : f ≤ w
  pub below : w < f + 2 ^ block_height height row
  pub within : w < stride
  pub there : at < len

module _ (words words' : List Word) (weights weights' : List ℕ) (stride height row base first end at f w lost : ℕ)
    (place : IsWordAt stride height row base first end at f w (length words))
    (marking : IsMarking at lost (dead_before words) (weight_before weights) (dead_before words') (weight_before weights'))
    (same_weight : (e : ℕ) → (word_at words' e).weight ≡ (word_at words e).weight)
    (same_died : (e : ℕ) → (e ≤ first) ⊎ (first + 2 ^ block_height height row ≤ e) → (word_at words' e).died ≡ (word_at words e).died)
    (same_behind : (e : ℕ) → end ≤ e → (word_at words' e).died ≡ (word_at words e).died)
    (own : AreNodes words' (dead_before words') (weight_before weights') first (block_height height row) end) where
  -- a block before the word, and one behind it
  ahead : (start low last : ℕ) → ((e : ℕ) → start ≤ e → e < start + 2 ^ low → e < last → e ≤ first)
      → AreNodes words (dead_before words) (weight_before weights) start low last → AreNodes words' (dead_before words') (weight_before weights') start low last
  ahead start low last before nodes =
      AreNodes-kept words words' (dead_before words) (weight_before weights) (dead_before words') (weight_before weights') 0 0 start low last
      (λ e from to within. same_weight e) (λ e from to within. same_died e (inl (before e (omega arith) to within)))
      (λ e from to within. (let both = marking.before e (omega (arith, before e from to within, place.first_is, place.at_is, place.from)) in (omega (arith, both.0), omega (arith, both.1))))
      nodes

  past : (start low last : ℕ) → ((e : ℕ) → start ≤ e → e < start + 2 ^ low → e < last → (first + 2 ^ block_height height row ≤ e) ⊎ (end ≤ e))
      → AreNodes words (dead_before words) (weight_before weights) start low last → AreNodes words' (dead_before words') (weight_before weights') start low last
  past start low last after nodes =
      AreNodes-kept words words' (dead_before words) (weight_before weights) (dead_before words') (weight_before weights') 1 lost start low last
      (λ e from to within. same_weight e)
      (λ e from to within. elim (after e (omega arith) to within) [ inl high ↦ same_died e (inr high) | inr far ↦ same_behind e far ])
      (λ e from to within. marking.after e (elim (after e from to within) [
        | inl high ↦ omega (arith, high, place.first_is, place.at_is, place.below)
        | inr far ↦ omega (arith, far, place.end_is, place.at_is, place.within, place.there)
      ]))
      nodes

  below_row : (q : ℕ) → q < row → q * stride + stride ≤ row * stride
  below_row q less =
      let is : (q + 1) * stride ≡ q * stride + stride = grind arith in
      let le : (q + 1) * stride ≤ row * stride = mul-le-mul_right stride (let up : q + 1 ≤ row = omega arith in up) in
      omega (arith, is, le)

  above_row : (q : ℕ) → row < q → row * stride + stride ≤ q * stride
  above_row q less =
      let is : (row + 1) * stride ≡ row * stride + stride = grind arith in
      let le : (row + 1) * stride ≤ q * stride = mul-le-mul_right stride (let up : row + 1 ≤ q = omega arith in up) in
      omega (arith, is, le)

  in_row : (s : ℕ) → IsMultiple s (block_height height row) → s < stride → (s < f) ⊎ (f ≤ s) → (s ≡ f) ⊎ (s ≢ f)
      → AreNodes words (dead_before words) (weight_before weights) (word_of stride row s) (block_height height row) (min (word_of stride row stride) (length words))
      → AreNodes words' (dead_before words') (weight_before weights') (word_of stride row s) (block_height height row) (min (word_of stride row stride) (length words))
  in_row s block within (inl less) other nodes =
      let apart = blocks_apart block place.block less in
      ahead (word_of stride row s) (block_height height row) (min (word_of stride row stride) (length words))
      (λ e from to inside. omega (arith, to, apart, place.first_is, place.base_is)) nodes
  in_row s block within (inr le) (inl same) nodes =
      let start : first ≡ word_of stride row s = omega (arith, same, place.first_is, place.base_is) in
      let last : end ≡ min (word_of stride row stride) (length words) = place.end_is ∙ ap (λ b. min (b + stride) (length words)) place.base_is in
      subst (λ b. AreNodes words' (dead_before words') (weight_before weights') b (block_height height row) (min (word_of stride row stride) (length words))) start
      (subst (λ l. AreNodes words' (dead_before words') (weight_before weights') first (block_height height row) l) last own)
  in_row s block within (inr le) (inr other) nodes =
      let apart = blocks_apart place.block block (let less : f < s = omega (arith, other) in less) in
      past (word_of stride row s) (block_height height row) (min (word_of stride row stride) (length words))
      (λ e from to inside. inl (omega (arith, from, apart, place.first_is, place.base_is))) nodes

  pub AreTrees-marked : length words' ≡ length words → AreTrees words weights stride height → AreTrees words' weights' stride height
  AreTrees-marked many trees = record {
    each = λ q s block within there.
        subst (λ n. AreNodes words' (dead_before words') (weight_before weights') (word_of stride q s) (block_height height q) (min (word_of stride q stride) n)) (sym many)
        (at_row q s block within (trees.each q s block within (omega (arith, there, many))) (cases_lt q row) (cases_eq q row));
    begins = λ q s block within there. same_weight (word_of stride q s) ∙ trees.begins q s block within (omega (arith, there, many));
  }
    where
      at_row : (q s : ℕ) → IsMultiple s (block_height height q) → s < stride
          → AreNodes words (dead_before words) (weight_before weights) (word_of stride q s) (block_height height q) (min (word_of stride q stride) (length words))
          → (q < row) ⊎ (row ≤ q) → (q ≡ row) ⊎ (q ≢ row)
          → AreNodes words' (dead_before words') (weight_before weights') (word_of stride q s) (block_height height q) (min (word_of stride q stride) (length words))
      at_row q s block within nodes (inl less) other =
          let up = below_row q less in
          ahead (word_of stride q s) (block_height height q) (min (word_of stride q stride) (length words))
          (λ e from to inside. omega (arith, inside, up, place.first_is, place.base_is)) nodes
      at_row q s block within nodes (inr le) (inl same) =
          let P : ℕ → Type 0 = λ r. AreNodes words' (dead_before words') (weight_before weights') (word_of stride r s) (block_height height r) (min (word_of stride r stride) (length words)) in
          let N : ℕ → Type 0 = λ r. AreNodes words (dead_before words) (weight_before weights) (word_of stride r s) (block_height height r) (min (word_of stride r stride) (length words)) in
          subst P (sym same) (in_row s (subst (λ r. IsMultiple s (block_height height r)) same block) within (cases_lt s f) (cases_eq s f) (subst N same nodes))
      at_row q s block within nodes (inr le) (inr other) =
          let up = above_row q (let less : row < q = omega (arith, other) in less) in
          past (word_of stride q s) (block_height height q) (min (word_of stride q stride) (length words))
          (λ e from to inside. inr (omega (arith, from, up, place.end_is, place.base_is))) nodes

-- the tree of its block
pub tree-at : (words : List Word) (weights : List ℕ) (stride height row base first end at f w : ℕ) → IsWordAt stride height row base first end at f w (length words)
    → AreTrees words weights stride height → AreNodes words (dead_before words) (weight_before weights) first (block_height height row) end
tree-at words weights stride height row base first end at f w place trees =
    let tree = trees.each row f place.block (omega (arith, place.from, place.within)) (omega (arith, place.from, place.at_is, place.base_is, place.there)) in
    let start : word_of stride row f ≡ first = omega (arith, place.first_is, place.base_is) in
    let last : min (word_of stride row stride) (length words) ≡ end = ap (λ b. min (b + stride) (length words)) (sym place.base_is) ∙ sym place.end_is in
    subst (λ l. AreNodes words (dead_before words) (weight_before weights) first (block_height height row) l) last
    (subst (λ b. AreNodes words (dead_before words) (weight_before weights) b (block_height height row) (min (word_of stride row stride) (length words))) start tree)

-- the rows without a place that died: `mid` has it counted, and `new` has it dead
module _ (old mid new : Store) (stride height : ℕ) (cursor : Cursor) (row base first end at f w k lost : ℕ)
    (kept : IsKept old.words old.weights stride height cursor) (place : IsWordAt stride height row base first end at f w (length old.words.items))
    (at_is : at ≡ k / 64) (within : k < length old.weights.items) (live : dead_at old.words.items k ≡ 0) (weighed : weight_at old.weights.items k ≡ lost)
    (nodes : (ready : IsReady old.words.items first (block_height height row) end at lost)
    → AreNodes mid.words.items ready.dead' ready.weighs' first (block_height height row) end)
    (others : (e : ℕ) → (e ≤ first) ⊎ (first + 2 ^ block_height height row ≤ e) → word_at mid.words.items e ≡ word_at old.words.items e)
    (behind : (e : ℕ) → end ≤ e → word_at mid.words.items e ≡ word_at old.words.items e)
    (counted : (e : ℕ) → IsSameButDied (word_at old.words.items e) (word_at mid.words.items e)) (many : length mid.words.items ≡ length old.words.items)
    (room : mid.words.capacity ≡ old.words.capacity) (same_weights : mid.weights ≡ old.weights) (killed : IsKilled k mid new) where
  abbrev olds : List Word
  olds = old.words.items

  abbrev news : List Word
  news = new.words.items

  weights' : new.weights.items ≡ set old.weights.items k 0
  weights' = ap (λ (r : Entries ℕ). r.items) killed.weights ∙ ap (λ (r : Entries ℕ). set r.items k 0) same_weights

  count : length new.weights.items ≡ length old.weights.items
  count = ap length weights' ∙ length-set old.weights.items k 0

  long : length news ≡ length olds
  long = killed.entries ∙ many

  pub same_second : (j : ℕ) → second_at news j ≡ second_at olds j
  same_second j = killed.second j ∙ ap (λ m. bit_at m (j % 64)) (counted (j / 64)).second

  pub same_dead : (j : ℕ) → j ≢ k → dead_at news j ≡ dead_at olds j
  same_dead j other = killed.others j other ∙ ap (λ m. bit_at m (j % 64)) (counted (j / 64)).dead

  same_weight : (e : ℕ) → (word_at news e).weight ≡ (word_at olds e).weight
  same_weight e = (killed.kept e).weight ∙ (counted e).weight

  own_weight : weight_at new.weights.items k ≡ 0
  own_weight = ap (λ ws. weight_at ws k) weights' ∙ weight_at-set_same old.weights.items k within

  other_weight : (j : ℕ) → j ≢ k → weight_at new.weights.items j ≡ weight_at old.weights.items j
  other_weight j other = ap (λ ws. weight_at ws j) weights' ∙ weight_at-set_other old.weights.items k j other

  marking : IsMarking at lost (dead_before olds) (weight_before old.weights.items) (dead_before news) (weight_before new.weights.items)
  marking =
      subst (λ a. IsMarking a lost (dead_before olds) (weight_before old.weights.items) (dead_before news) (weight_before new.weights.items)) (sym at_is)
      (IsMarking-changed k lost (dead_at olds) (dead_at news) (weight_at old.weights.items) (weight_at new.weights.items) live killed.own same_dead
      (λ j. (let low = bit_at-lt (word_at news (j / 64)).dead (j % 64) in omega (arith, low))) weighed own_weight other_weight)

  own_tree : AreNodes olds (dead_before olds) (weight_before old.weights.items) first (block_height height row) end
  own_tree = tree-at olds old.weights.items stride height row base first end at f w place kept.trees

  pub ready_now : IsReady olds first (block_height height row) end at lost
  ready_now = record {
    dead = dead_before olds;
    weighs = weight_before old.weights.items;
    dead' = dead_before news;
    weighs' = weight_before new.weights.items;
    marking = marking;
    nodes = own_tree;
  }

  new_tree : AreNodes news (dead_before news) (weight_before new.weights.items) first (block_height height row) end
  unfolding ready_now
  new_tree =
      AreNodes-kept mid.words.items news (dead_before news) (weight_before new.weights.items) (dead_before news) (weight_before new.weights.items) 0 0 first
      (block_height height row) end (λ e from to inside. (killed.kept e).weight) (λ e from to inside. (killed.kept e).died)
      (λ e from to inside. (omega arith, omega arith)) (nodes ready_now)

  same_total : (n : ℕ) → total (second_at news) n ≡ total (second_at olds) n
  same_total n = total-same (second_at news) (second_at olds) n (λ j low. same_second j)

  stale : {A : Type 0} → IsFresh news → A
  stale fresh = let no : ⊥ = omega (arith, fresh k, killed.own) in absurd no

  pub IsKept-marked : IsKept new.words new.weights stride height cursor
  IsKept-marked = record {
    entries = omega (arith, long, kept.entries, count);
    within = omega (arith, count, kept.within, ap (λ (r : Entries ℕ). r.capacity) killed.weights, ap (λ (r : Entries ℕ). r.capacity) same_weights);
    room = omega (arith, kept.room, killed.room, room, ap (λ (r : Entries ℕ). r.capacity) killed.weights, ap (λ (r : Entries ℕ). r.capacity) same_weights);
    small = omega (arith, kept.small, ap (λ (r : Entries ℕ). r.capacity) killed.weights, ap (λ (r : Entries ℕ). r.capacity) same_weights);
    some = kept.some;
    few = kept.few;
    low = kept.low;
    placed = count ∙ kept.placed;
    at_within = kept.at_within;
    clear = record {
      second = λ j high. same_second j ∙ kept.clear.second j (omega (arith, high, count));
      dead = λ j high. same_dead j (λ e. (let no : ⊥ = omega (arith, e, high, count, within) in no)) ∙ kept.clear.dead j (omega (arith, high, count));
    };
    light = λ j. light j (cases_eq j k);
    ranks = record {
      ones = λ q v inside there.
          (let old_ones = kept.ranks.ones q v inside (omega (arith, there, long)) in
          omega (
            arith,
            old_ones,
            (killed.kept (word_of stride q v)).ones ∙ (counted (word_of stride q v)).ones,
            same_total (64 * word_of stride q (start_of (block_height height q) v)),
            same_total (64 * word_of stride q v),
          ));
    };
    weighed = λ fresh. stale fresh;
    trees = AreTrees-marked olds news old.weights.items new.weights.items stride height row base first end at f w lost place marking same_weight
        (λ e outside. (killed.kept e).died ∙ ap (λ (v : Word). v.died) (others e outside)) (λ e far. (killed.kept e).died ∙ ap (λ (v : Word). v.died) (behind e far)) new_tree long
        kept.trees;
    ones = omega (
      arith,
      kept.ones,
      same_total (64 * (cursor.row * stride) + start_of (height - cursor.row) cursor.at),
      same_total (length new.weights.items),
      ap (total (second_at olds)) count,
    );
    weight = λ fresh. stale fresh;
  }
    where
      light : (j : ℕ) → (j ≡ k) ⊎ (j ≢ k) → weight_at new.weights.items j < 2 ^ 32
      light j (inl is) = omega (arith, own_weight, ap (weight_at new.weights.items) is)
      light j (inr other) = omega (arith, other_weight j other, kept.light j)

  abbrev n : ℕ
  n = length old.weights.items

  seconds-marked : seconds news n ≡ seconds olds n
  seconds-marked =
      fill_by_all (λ j. second_at olds j == 1) (seconds news n) n true (length-map-range_with_len (λ j. second_at news j == 1) 0 n)
      (λ j low. get_or-map-range_with_len (λ j. second_at news j == 1) 0 n j j true low (omega arith) ∙ ap (λ b. b == 1) (same_second j))

  lives-marked : lives news n ≡ set (lives olds n) k false
  lives-marked =
      sym (fill_by_all (λ j. dead_at news j == 0) (set (lives olds n) k false) n true
      (length-set (lives olds n) k false ∙ length-map-range_with_len (λ j. dead_at olds j == 0) 0 n) (λ j low. each j low (cases_eq j k)))
    where
      each : (j : ℕ) → j < n → (j ≡ k) ⊎ (j ≢ k) → get_or (set (lives olds n) k false) j true ≡ (dead_at news j == 0)
      each j low (inl is) =
          ap (λ i. get_or (set (lives olds n) k false) i true) is
          ∙ get_or-set_same (lives olds n) k false true (let long : k < length (lives olds n) = omega (arith, within, length-map-range_with_len (λ j. dead_at olds j == 0) 0 n) in long)
          ∙ sym (ap (λ i. dead_at news i == 0) is ∙ ap (λ b. b == 0) killed.own)
      each j low (inr other) =
          get_or-set_other (lives olds n) k j false true other ∙ get_or-map-range_with_len (λ j. dead_at olds j == 0) 0 n j j true low (omega arith)
          ∙ sym (ap (λ b. b == 0) (same_dead j other))

  pub view-marked : (v : Ranked) (capacity r p : ℕ) → seen old.words.items old.weights.items stride height capacity ≡ v → k ≡ 64 * (r * v.stride) + p
      → seen new.words.items new.weights.items stride height capacity ≡ marked r p v
  view-marked v capacity r p is here =
      ap (λ m. record { second = seconds news m; live = lives news m; weights = new.weights.items; stride = stride; height = height; room = capacity }) count
      ∙ ap₂ (λ (bits : List Bool × List Bool) ws. record { second = bits.0; live = bits.1; weights = ws; stride = stride; height = height; room = capacity })
      (ap₂ (λ (a : List Bool) (b : List Bool). pair a b) seconds-marked lives-marked) weights'
      ∙ ap (λ (u : Ranked). record u { live = set u.live k false; weights = set u.weights k 0 }) is
      ∙ ap (λ i. record v { live = set v.live i false; weights = set v.weights i 0 }) here

-- the word of a place of a row
pub record HasWord (words : List Word) (weights : List ℕ) (stride height row base first end at k : ℕ) : Type 0 where
  pub f : ℕ
  pub place : IsWordAt stride height row base first end at f (k / 64) (length words)
  pub at_is : at ≡ (64 * (row * stride) + k) / 64
  pub within : 64 * (row * stride) + k < length weights
  pub position : base * 64 + k ≡ 64 * (row * stride) + k

pub word_there : (words : List Word) (weights : List ℕ) (stride height room : ℕ) (v : Ranked) (row k base start first end at : ℕ)
    → seen words weights stride height room ≡ v → IsPlace v row k → base ≡ row * v.stride → length words ≡ (length weights + 63) / 64
    → start ≡ start_of (height - row) k → first ≡ base + start / 64 → end ≡ min (base + stride) (length words) → at ≡ base + k / 64
    → HasWord words weights stride height row base first end at k
word_there words weights stride height room v row k base start first end at is place base_at entries start_at first_at end_at at_at =
    let f = found words weights stride height room v row k base is place base_at entries in
    let high : 6 ≤ height - row = omega (arith, place.high, ap (λ (v : Ranked). v.height) is) in
    let block = words_of (start_of (height - row) k) (height - row) high (start_of-multiple (height - row) k) in
    let low = start_of-le (height - row) k in
    let above = start_of-above (height - row) k in
    record {
      f = block.first;
      place = record {
        base_is = f.base_is;
        first_is = omega (arith, first_at, start_at, block.is);
        at_is = at_at;
        end_is = end_at;
        block = block.multiple;
        from = omega (arith, low, block.is);
        below = omega (arith, above, block.is, block.long);
        within = omega (arith, place.within, ap (λ (v : Ranked). v.stride) is);
        there = omega (arith, at_at, f.there);
      };
      at_is = omega (arith, at_at, f.base_is);
      within = f.position;
      position = omega (arith, f.base_is);
    }

-- what a live place is of words
pub live-at : (words : List Word) (weights : List ℕ) (stride height room : ℕ) (v : Ranked) (row k base : ℕ) → seen words weights stride height room ≡ v
    → IsPlace v row k → base ≡ row * v.stride → length words ≡ (length weights + 63) / 64 → slice_get v.live (64 * (row * v.stride) + k) ≡ Some true
    → dead_at words (64 * (row * stride) + k) ≡ 0
live-at words weights stride height room v row k base is place base_at entries live =
    let f = found words weights stride height room v row k base is place base_at entries in
    let p = 64 * (row * stride) + k in
    let here : slice_get (lives words (length weights)) p ≡ Some true = subst (λ (v : Ranked). slice_get v.live (64 * (row * v.stride) + k) ≡ Some true) (sym is) live in
    let test : (dead_at words p == 0) ≡ true =
    sym (get_or-map-range_with_len (λ j. dead_at words j == 0) 0 (length weights) p p true f.position (omega arith))
    ∙ get_or_from_slice_get (lives words (length weights)) p true true here in
    eqb-true (dead_at words p) 0 test

pub weight-at : (words : List Word) (weights : List ℕ) (stride height room : ℕ) (v : Ranked) (row k weight : ℕ) → seen words weights stride height room ≡ v
    → slice_get v.weights (64 * (row * v.stride) + k) ≡ Some weight → weight_at weights (64 * (row * stride) + k) ≡ weight
weight-at words weights stride height room v row k weight is there =
    get_or_from_slice_get weights (64 * (row * stride) + k) weight 0 (subst (λ (v : Ranked). slice_get v.weights (64 * (row * v.stride) + k) ≡ Some weight) (sym is) there)

-- the same of what the struct has
module _ (i : Inside) (v : Ranked) (is : seen i.store.words.items i.store.weights.items i.stride i.height i.store.weights.capacity ≡ v)
    (kept : IsKept i.store.words i.store.weights i.stride i.height i.cursor) (row k base start end lost : ℕ) (place : IsPlace v row k) (base_at : base ≡ row * v.stride)
    (start_at : start ≡ start_of (i.height - row) k) (end_at : end ≡ min (base + i.stride) (length i.store.words.items))
    (live : slice_get v.live (64 * (row * v.stride) + k) ≡ Some true) (weighed : slice_get v.weights (64 * (row * v.stride) + k) ≡ Some lost) where
  pub word_in : HasWord i.store.words.items i.store.weights.items i.stride i.height row base (base + start / 64) end (base + k / 64) k
  word_in =
      word_there i.store.words.items i.store.weights.items i.stride i.height i.store.weights.capacity v row k base start (base + start / 64) end (base + k / 64) is place base_at
      kept.entries start_at refl end_at refl

  live_in : dead_at i.store.words.items (64 * (row * i.stride) + k) ≡ 0
  live_in = live-at i.store.words.items i.store.weights.items i.stride i.height i.store.weights.capacity v row k base is place base_at kept.entries live

  weight_in : weight_at i.store.weights.items (64 * (row * i.stride) + k) ≡ lost
  weight_in = weight-at i.store.words.items i.store.weights.items i.stride i.height i.store.weights.capacity v row k lost is weighed

  pub ready_in : IsReady i.store.words.items (base + start / 64) (block_height i.height row) end (base + k / 64) lost
  ready_in =
      IsReady-live i.store.words.items i.store.weights.items (64 * (row * i.stride) + k) lost (base + start / 64) (block_height i.height row) end (base + k / 64) word_in.within
      live_in weight_in word_in.at_is
      (tree-at i.store.words.items i.store.weights.items i.stride i.height row base (base + start / 64) end (base + k / 64) word_in.f (k / 64) word_in.place kept.trees)

  module _ (mid new : Store)
      (nodes : (ready : IsReady i.store.words.items (base + start / 64) (block_height i.height row) end (base + k / 64) lost)
      → AreNodes mid.words.items ready.dead' ready.weighs' (base + start / 64) (block_height i.height row) end)
      (others : (e : ℕ) → (e ≤ base + start / 64) ⊎ (base + start / 64 + 2 ^ block_height i.height row ≤ e) → word_at mid.words.items e ≡ word_at i.store.words.items e)
      (behind : (e : ℕ) → end ≤ e → word_at mid.words.items e ≡ word_at i.store.words.items e)
      (counted : (e : ℕ) → IsSameButDied (word_at i.store.words.items e) (word_at mid.words.items e)) (many : length mid.words.items ≡ length i.store.words.items)
      (room : mid.words.capacity ≡ i.store.words.capacity) (same_weights : mid.weights ≡ i.store.weights) (killed : IsKilled (base * 64 + k) mid new) where
    killed_at : IsKilled (64 * (row * i.stride) + k) mid new
    killed_at = subst (λ p. IsKilled p mid new) word_in.position killed

    pub kept_in : IsKept new.words new.weights i.stride i.height i.cursor
    kept_in =
        IsKept-marked i.store mid new i.stride i.height i.cursor row base (base + start / 64) end (base + k / 64) word_in.f (k / 64) (64 * (row * i.stride) + k) lost kept
        word_in.place word_in.at_is word_in.within live_in weight_in nodes others behind counted many room same_weights killed_at

    pub view_in : seen new.words.items new.weights.items i.stride i.height new.weights.capacity ≡ marked row k v
    view_in =
        ap (seen new.words.items new.weights.items i.stride i.height)
        (ap (λ (r : Entries ℕ). r.capacity) killed_at.weights ∙ ap (λ (r : Entries ℕ). r.capacity) same_weights)
        ∙ view-marked i.store mid new i.stride i.height i.cursor row base (base + start / 64) end (base + k / 64) word_in.f (k / 64) (64 * (row * i.stride) + k) lost kept
        word_in.place word_in.at_is word_in.within live_in weight_in nodes others behind counted many room same_weights killed_at v i.store.weights.capacity row k is
        (ap (λ (u : Ranked). 64 * (row * u.stride) + k) is)
