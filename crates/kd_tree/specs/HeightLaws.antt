-- Blocks of a level, and the nodes of a tree.
use Rattle.std.proofs.Common.{◌≡◌, ℕ, zero, suc, ◌+◌, ◌-◌, ◌*◌, ◌/◌, ◌%◌, ◌^◌, ◌<◌, ◌≤◌, refl, ap, ◌∙◌, arith, add-one, pow-suc, ⊎_elim}
use Rattle.std.proofs.Math.Pow.{pow_mono}
use Rattle.std.proofs.Math.Nat.{mod-eq_of_lt}
use Rattle.std.proofs.lemmas.Nat.{pow_pos}
use Rattle.std.proofs.lemmas.Bool.{cases_lt}
use Rattle.row_blocks.specs.Heights.{height_of, IsLeastHeight-height_of}
use Rattle.kd_tree.specs.Heights.{span, depth_for, nodes_in, index}

twice : (n : ℕ) → 2 ^ (n + 1) ≡ 2 * 2 ^ n
twice n = omega (arith, ap (λ i. 2 ^ i) (add-one n) ∙ pow-suc 2 n)

pub four_more : (l : ℕ) → 4 ^ (l + 1) ≡ 4 * 4 ^ l
four_more l = omega (arith, ap (λ i. 4 ^ i) (add-one l) ∙ pow-suc 4 l)

pub four-is : (l : ℕ) → 4 ^ l ≡ 2 ^ (2 * l)
four-is zero = refl
four-is (suc l) =
    let next : suc l ≡ l + 1 = omega arith in
    let more : 2 * suc l ≡ 2 * l + 1 + 1 = omega arith in
    omega (arith, ap (λ i. 4 ^ i) next, four_more l, four-is l, ap (λ i. 2 ^ i) more, twice (2 * l + 1), twice (2 * l))

pub four_some : (l : ℕ) → 1 ≤ 4 ^ l
four_some l = omega (arith, four-is l, pow_pos (2 * l))

pub span_more : (l : ℕ) → span (l + 1) ≡ 4 * span l
span_more l = omega (arith, four_more l)

pub span_some : (l : ℕ) → 8 ≤ span l
span_some l = omega (arith, four_some l)

pub span-is : (l : ℕ) → 2 ^ (3 + 2 * l) ≡ span l
span-is l =
    let three : 3 + 2 * l ≡ 2 * l + 1 + 1 + 1 = omega arith in
    omega (arith, ap (λ i. 2 ^ i) three, twice (2 * l + 1 + 1), twice (2 * l + 1), twice (2 * l), four-is l)

-- that many positions a tree of enough levels has
pub covered : (n h d : ℕ) → n ≤ 2 ^ h → h ≤ 3 + 2 * d → n ≤ span d
covered n h d few high = let more : 2 ^ h ≤ 2 ^ (3 + 2 * d) = pow_mono high in omega (arith, span-is d)

-- the nodes of the four subtrees and the root
pub nodes_more : (d : ℕ) → nodes_in (suc d) ≡ 4 * nodes_in d + 1
unfolding nodes_in
nodes_more d = refl

pub nodes_none : nodes_in 0 ≡ 0
unfolding nodes_in
nodes_none = refl

pub nodes-is : (d : ℕ) → 3 * nodes_in d + 1 ≡ 4 ^ d
nodes-is zero = omega (arith, nodes_none)
nodes-is (suc d) =
    let next : suc d ≡ d + 1 = omega arith in
    omega (arith, nodes_more d, nodes-is d, four_more d, ap (λ i. 4 ^ i) next)

pub four_rise : (a b : ℕ) → a ≤ b → 4 ^ a ≤ 4 ^ b
four_rise a b le = let low : 2 ^ (2 * a) ≤ 2 ^ (2 * b) = pow_mono (omega arith) in omega (arith, four-is a, four-is b)

pub nodes_rise : (a b : ℕ) → a ≤ b → nodes_in a ≤ nodes_in b
nodes_rise a b le = omega (arith, nodes-is a, nodes-is b, four_rise a b le)

pub nodes_small : (d : ℕ) → d ≤ 15 → nodes_in d < 2 ^ 30
nodes_small d small = omega (arith, nodes-is d, four_rise d 15 small)

-- the shift and the division by which they are counted
pub nodes_value : (d : ℕ) → d ≤ 15 → (1 * 2 ^ (2 * d) % 18446744073709551616 - 1) / 3 ≡ nodes_in d
nodes_value d small =
    let within : 2 * d ≤ 30 = omega arith in
    let low : 2 ^ (2 * d) ≤ 2 ^ 30 = pow_mono {i = 2 * d} {j = 30} within in
    let one : 1 * 2 ^ (2 * d) ≡ 3 * nodes_in d + 1 = omega (arith, nodes-is d, four-is d) in
    let is : 1 * 2 ^ (2 * d) % 18446744073709551616 ≡ 1 * 2 ^ (2 * d) = mod-eq_of_lt (omega arith) in
    ap (λ m. (m - 1) / 3) (is ∙ one) ∙ omega arith

-- trees of few points
pub least_height : (n h : ℕ) → n < 2 ^ 64 → n ≤ 2 ^ h → height_of n ≤ h
least_height n h small few = (IsLeastHeight-height_of n small).least h few

pub depth_small : (n : ℕ) → n ≤ 2 ^ 31 → depth_for n ≤ 14
depth_small n few = omega (arith, least_height n 31 (omega arith) few)

pub depth_some : (n : ℕ) → 1 ≤ depth_for n
depth_some n = omega arith

pub depth_rise : (a b : ℕ) → a ≤ b → b ≤ 2 ^ 31 → depth_for a ≤ depth_for b
depth_rise a b le few =
    let above : b ≤ 2 ^ height_of b = (IsLeastHeight-height_of b (omega arith)).above in
    omega (arith, least_height a (height_of b) (omega arith) (omega arith))

pub depth_covers : (n : ℕ) → n ≤ 2 ^ 31 → n ≤ span (depth_for n)
depth_covers n few =
    let above : n ≤ 2 ^ height_of n = (IsLeastHeight-height_of n (omega arith)).above in covered n (height_of n) (depth_for n) above (omega arith)

-- twice the depth is little above the least height
pub depth_low : (n : ℕ) → 2 * depth_for n ≤ height_of n + 2
depth_low n = omega arith

pub few_points : (n level : ℕ) → level < 32 → n ≤ 2 ^ level → n ≤ 2 ^ 31
few_points n level small few =
    let low : level ≤ 31 = omega arith in
    let bound : 2 ^ level ≤ 2 ^ 31 = pow_mono {i = level} {j = 31} low in
    omega arith

-- where there are nodes above the lowest ones there are points
pub some_points : (n : ℕ) → 1 < depth_for n → 0 < n
some_points zero deep = absurd (omega (arith, least_height 0 0 (omega arith) (omega arith)))
some_points (suc n) deep = omega arith

module _ (depth level : ℕ) (within : level < depth) where
  pub four_below : 4 ^ (depth - level) ≡ 4 * 4 ^ (depth - 1 - level)
  four_below = ap (λ i. 4 ^ i) (omega arith) ∙ four_more (depth - 1 - level)

  -- the nodes of one level more
  pub nodes_below : nodes_in (depth - level) ≡ nodes_in (depth - 1 - level) + 4 ^ (depth - 1 - level)
  nodes_below = omega (arith, nodes-is (depth - level), nodes-is (depth - 1 - level), four_below)

  pub next_level : nodes_in (depth - (level + 1)) ≡ nodes_in (depth - 1 - level)
  next_level = ap nodes_in (omega arith)

  pub index_within : (place : ℕ) → place < 4 ^ (depth - 1 - level) → index depth level place < nodes_in depth - nodes_in (depth - 1 - level)
  index_within place below = omega (arith, nodes_below, nodes_rise (depth - level) depth (omega arith))

  pub index_next : (place : ℕ) → place + 1 ≡ 4 ^ (depth - 1 - level) → index depth (level + 1) 0 ≡ index depth level place + 1
  index_next place ends = omega (arith, nodes_below, next_level, nodes_rise (depth - level) depth (omega arith))

-- no two nodes stand in one place
pub index_before : (depth l j m k : ℕ) → l < depth → j < 4 ^ (depth - 1 - l) → l < m → m < depth → index depth l j < index depth m k
index_before depth l j m k within below less inside =
    omega (arith, index_within depth l within j below, nodes_rise (depth - m) (depth - 1 - l) (omega arith), nodes_rise (depth - 1 - l) depth (omega arith))

pub index_apart : (depth l j m k : ℕ) → l < depth → m < depth → j < 4 ^ (depth - 1 - l) → k < 4 ^ (depth - 1 - m) → index depth l j ≡ index depth m k
    → (l ≡ m) × (j ≡ k)
index_apart depth l j m k within inside below few same =
    ⊎_elim
    (λ less. absurd (omega (arith, index_before depth l j m k within below less inside)))
    (λ from.
    ⊎_elim
    (λ less. absurd (omega (arith, index_before depth m k l j inside few less within)))
    (λ up_to.
    let is : l ≡ m = omega arith in
    (is, omega (arith, ap (λ i. nodes_in (depth - i)) is)))
    (cases_lt m l))
    (cases_lt l m)

pub four_small : (e : ℕ) → e ≤ 15 → 4 ^ e ≤ 2 ^ 30
four_small e small = four_rise e 15 small
