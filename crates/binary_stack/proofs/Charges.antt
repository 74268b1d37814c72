-- The charges of a binary counter: what each insert adds to them, and how many they are.
use Rattle.std.proofs.Common.{◌≡◌, ℕ, zero, suc, ◌+◌, ◌-◌, ◌*◌, ◌^◌, ◌/◌, ◌<◌, ◌≤◌, ◌∙◌, Option, Some, None, List, [], ◌∷◌, length, refl, ap, sym, subst, arith, pow_mono}
use Rattle.std.proofs.Math.Nat.{mul-div-le, mul-le-mul, mul-le-mul_left, mul-le-mul_right}
use Rattle.builder_trait.specs.Builders.{IsQuota}
use Rattle.binary_stack.specs.Levels.{weight_of, raised}
use Rattle.binary_stack.specs.Charge.{charge_at, charge, charge_of}
use Rattle.binary_stack.proofs.Levels.{doubled, half_weight, lighter, raised-cons}

one_more : (w c rest : ℕ) → (1 + 2 * w) * c + rest ≡ (0 + 2 * w) * c + rest + c
one_more w c rest = omega arith

only_one : (s c : ℕ) → 2 * s + c + 0 ≤ 2 * s + ((1 + 2 * 0) * c + 0)
only_one s c = omega arith

two_more : (w c rest : ℕ) → (0 + 2 * (w + 1)) * c + rest ≡ (1 + 2 * w) * c + rest + c
two_more w c rest = omega arith

chain : (a b c : ℕ) → a ≤ b → b ≤ c → a ≤ c
chain a b c low high = omega arith

add_up : (a b c d e : ℕ) → a ≤ c → b ≤ d → e ≡ c + d → a + b ≤ e
add_up a b c d e low other sum = omega arith

add_twice : (a b c d e : ℕ) → a ≡ c → 2 * b ≤ d → e ≡ 2 * c + d → 2 * (a + b) ≤ e
add_twice a b c d e same other sum = omega arith

-- what an insert's first part cost, and then those that were joined
pub paid_up : (spent mid final first old new : ℕ) → 2 * spent ≤ old → 2 * mid ≤ 2 * spent + first → 2 * final + first + old ≤ 2 * mid + new → 2 * final ≤ new
paid_up spent mid final first old new paid one joined = omega arith

-- the turns of an insert, by the ledger
pub paid_here : (spent mid final first old new begun built ended : ℕ) {seen : ℕ} → 2 * mid ≤ 2 * spent + first → 2 * final + first + old ≤ 2 * mid + new
    → spent + 3 ≤ mid → mid ≤ final → built ≡ begun + (mid - spent) → ended ≡ built + (final - mid) → old ≡ seen → 2 * (ended - begun) + seen ≤ new
paid_here spent mid final first old new begun built ended one joined low up here rest same = omega arith

-- what a part costs on top
pub paid_more : (spent turns charge : ℕ) → 2 * turns ≤ charge → 2 * (spent + turns) ≤ 2 * spent + charge
paid_more spent turns charge paid = omega arith

-- turns below a bound of charges
pub few_turns : (turns charge : ℕ) → 2 * turns ≤ charge → charge ≤ 2 ^ 50 → turns < 2 ^ 50
few_turns turns charge paid few = omega arith

-- what a part cost, and then those above it
sum_up : (spent mid final c size next old rest new above : ℕ) → 2 * mid ≤ 2 * spent + size → size ≤ next → 2 * final + next + rest ≤ 2 * mid + above
    → old + c + above ≡ new + rest → 2 * final + c + old ≤ 2 * spent + new
sum_up spent mid final c size next old rest new above built few paid same = omega arith

module _ (slope base : ℕ) where
  -- the part of one item: two puts, and the turns of its builder
  pub charge-first : (n built : ℕ) → IsQuota slope base 0 n built → 2 * (2 + built) ≤ charge_at slope base 0
  charge-first n built quota = omega (arith, quota.bounded)

  -- the part of two: two turns for each of their items, and those of its builder
  pub charge-merged : (size few other n built : ℕ) → 1 ≤ size → few ≤ 2 ^ (size - 1) → other ≤ 2 ^ (size - 1) → IsQuota slope base size n built
      → 2 * (2 * (few + other) + built) ≤ charge_at slope base size
  charge-merged size few other n built some fits other_fits quota =
      let here : size ≡ size - 1 + 1 = omega (arith, some) in
      let twice : 2 ^ size ≡ 2 * 2 ^ (size - 1) = ap (λ k. 2 ^ k) here ∙ doubled (size - 1) in
      omega (arith, twice, fits, other_fits, quota.bounded)

  -- a part of a higher level is charged no less
  pub charge_at-rise : (i j : ℕ) → i ≤ j → charge_at slope base i ≤ charge_at slope base j
  charge_at-rise i j up =
      let items : 2 ^ i ≤ 2 ^ j = pow_mono up in
      let steep : slope * i ≤ slope * j = mul-le-mul_left slope up in
      let each : slope * i + base + 4 ≤ slope * j + base + 4 = omega (arith, steep) in
      mul-le-mul items each

  -- and no part more than this
  pub charge_at-few : (i : ℕ) → slope ≤ 4096 → base ≤ 4096 → i < 32 → charge_at slope base i ≤ 2 ^ 50
  charge_at-few i slope_small base_small low =
      let steep : slope * i ≤ 4096 * i = mul-le-mul_right i slope_small in
      let each : slope * i + base + 4 ≤ 2 ^ 18 = omega (arith, steep, base_small, low) in
      let up : i ≤ 32 = omega (arith, low) in
      let items : 2 ^ i ≤ 2 ^ 32 = pow_mono up in
      let product : 2 ^ i * (slope * i + base + 4) ≤ 2 ^ 32 * 2 ^ 18 = mul-le-mul items each in
      omega (arith, product)

  charge-none : (n level : ℕ) → charge slope base level n 0 ≡ 0
  charge-none zero level = refl
  charge-none (suc n) level = omega (arith, charge-none n (level + 1))

  module _ {P : Type 0} where
    pub charge-past : (i spent : ℕ) (p : P)
        → 2 * spent + charge_at slope base i + charge_of {P = P} slope base i [] ≤ 2 * spent + charge_of {P = P} slope base i (Some p ∷ [])
    charge-past i spent p = only_one spent (charge_at slope base i)

    pub charge-here : (i spent : ℕ) (p : P) (above : List (Option P))
        → 2 * spent + charge_at slope base i + charge_of slope base i (None ∷ above) ≤ 2 * spent + charge_of slope base i (Some p ∷ above)
    charge-here i spent p above =
        let more = one_more (weight_of above) (charge_at slope base i) (charge_of slope base (i + 1) above) in omega (arith, more)

    -- a part is built at the next level, which stays empty where it is carried on
    pub charge-joined : (i size spent mid final : ℕ) (other : P) (above new : List (Option P)) (top : Option P)
        → 2 * mid ≤ 2 * spent + charge_at slope base size → size ≤ i + 1
        → 2 * final + charge_at slope base (i + 1) + charge_of slope base (i + 1) above ≤ 2 * mid + charge_of slope base (i + 1) (raised top new)
        → weight_of (raised top new) ≡ weight_of above + 1
        → 2 * final + charge_at slope base i + charge_of slope base i (Some other ∷ above) ≤ 2 * spent + charge_of slope base i (raised top (None ∷ new))
    charge-joined i size spent mid final other above new top built few paid weight =
        let c = charge_at slope base i in
        let w = weight_of above in
        let ra = charge_of slope base (i + 1) above in
        let rn = charge_of slope base (i + 1) (raised top new) in
        let told : charge_of slope base i (None ∷ raised top new) ≡ (0 + 2 * (w + 1)) * c + rn = ap (λ n. (0 + 2 * n) * c + rn) weight in
        let same : charge_of slope base i (Some other ∷ above) + c + rn ≡ charge_of slope base i (None ∷ raised top new) + ra =
        omega (arith, told, two_more w c rn, two_more w c ra) in
        let sum = sum_up spent mid final c (charge_at slope base size) (charge_at slope base (i + 1)) (charge_of slope base i (Some other ∷ above)) ra
        (charge_of slope base i (None ∷ raised top new)) rn built (charge_at-rise size (i + 1) few) paid same in
        subst (λ ls. 2 * final + c + charge_of slope base i (Some other ∷ above) ≤ 2 * spent + charge_of slope base i ls) (sym (raised-cons top None new)) sum

    -- by the weight alone, over as many levels as it reaches
    pub charge-levels : (levels : List (Option P)) (level n : ℕ) → weight_of levels < 2 ^ n
        → charge_of slope base level levels ≡ charge slope base level n (weight_of levels)
    charge-levels [] level n light = sym (charge-none n level)
    charge-levels (l ∷ above) level zero light =
        let none : weight_of (l ∷ above) ≡ 0 = omega (arith, light) in
        let rest : weight_of above < 2 ^ zero = omega (arith, none) in
        let nothing : weight_of (l ∷ above) * charge_at slope base level ≡ 0 * charge_at slope base level = ap (λ w. w * charge_at slope base level) none in
        omega (arith, nothing, charge-levels above (level + 1) zero rest)
    charge-levels (l ∷ above) level (suc n) light =
        let w = weight_of above in
        ap (λ k. weight_of (l ∷ above) * charge_at slope base level + k)
        (charge-levels above (level + 1) n (lighter l above n light) ∙ ap (charge slope base (level + 1) n) (sym (half_weight l w)))

    -- no level is charged more than the highest for each of the weight
    pub charge-few : (levels : List (Option P)) (level n m : ℕ) → slope * (level + n) + base + 4 ≤ m → length levels ≤ n
        → charge_of slope base level levels ≤ 2 ^ level * weight_of levels * (n * m)
    charge-few [] level n m steep few = omega arith
    charge-few (l ∷ above) level zero m steep few = absurd (omega (arith, few))
    charge-few (l ∷ above) level (suc n) m steep few =
        let w = weight_of (l ∷ above) in
        let k = 2 ^ level * w in
        let low : slope * level ≤ slope * (level + suc n) = mul-le-mul_left slope (omega arith) in
        let each : slope * level + base + 4 ≤ m = omega (arith, low, steep) in
        let here : k * (slope * level + base + 4) ≤ k * m = mul-le-mul_left k each in
        let next : slope * (level + 1 + n) ≡ slope * (level + suc n) = ap (λ j. slope * j) (omega arith) in
        let rest = charge-few above (level + 1) n m (omega (arith, steep, next)) (omega (arith, few)) in
        let under : 2 ^ (level + 1) * weight_of above ≤ k =
        let twice : 2 * weight_of above ≤ w = omega arith in
        let product : 2 ^ level * (2 * weight_of above) ≤ 2 ^ level * w = mul-le-mul_left (2 ^ level) twice in
        let split : 2 ^ (level + 1) * weight_of above ≡ 2 * 2 ^ level * weight_of above = ap (λ j. j * weight_of above) (doubled level) in
        omega (arith, product, split) in
        let others : 2 ^ (level + 1) * weight_of above * (n * m) ≤ k * (n * m) = mul-le-mul_right (n * m) under in
        let sorted : w * charge_at slope base level ≡ k * (slope * level + base + 4) = shuffled w (2 ^ level) (slope * level + base + 4) in
        add_up (w * charge_at slope base level) (charge_of slope base (level + 1) above) (k * m) (k * (n * m)) (k * (suc n * m))
        (subst (λ a. a ≤ k * m) (sym sorted) here)
        (chain (charge_of slope base (level + 1) above) (2 ^ (level + 1) * weight_of above * (n * m)) (k * (n * m)) rest others)
        (spread k n m)
      where
        shuffled : (a b c : ℕ) → a * (b * c) ≡ b * a * c
        shuffled a b c = omega arith

        spread : (a b c : ℕ) → a * (suc b * c) ≡ a * c + a * (b * c)
        spread a b c = omega arith

  -- the sum of the charges, as a product
  level_sum : (level n s a : ℕ) → s ≡ 2 * level + n → 2 * (slope * level + a) + n * (slope * (s + 1) + 2 * a) ≡ suc n * (slope * s + 2 * a)
  level_sum level n s a is =
      subst (λ t. 2 * (slope * level + a) + n * (slope * (t + 1) + 2 * a) ≡ suc n * (slope * t + 2 * a)) (sym is) (omega arith)

  closed : (n level v s : ℕ) → s + 1 ≡ 2 * level + n
      → 2 * charge slope base level n v ≤ 2 ^ level * v * (n * (slope * s + 2 * (base + 4)))
  closed zero level v s is = omega arith
  closed (suc n) level v s is =
      let k = 2 ^ level * v in
      let half = v / 2 in
      let x = n * (slope * (s + 1) + 2 * (base + 4)) in
      let rest : 2 * charge slope base (level + 1) n half ≤ 2 ^ (level + 1) * half * x = closed n (level + 1) half (s + 1) (omega (arith, is)) in
      let twice : 2 * half ≤ v = mul-div-le v 2 in
      let product : 2 ^ level * (2 * half) ≤ 2 ^ level * v = mul-le-mul_left (2 ^ level) twice in
      let split : 2 ^ (level + 1) * half ≡ 2 * 2 ^ level * half = ap (λ j. j * half) (doubled level) in
      let under : 2 ^ (level + 1) * half ≤ k = omega (arith, product, split) in
      let others : 2 ^ (level + 1) * half * x ≤ k * x = mul-le-mul_right x under in
      let here : v * charge_at slope base level ≡ k * (slope * level + (base + 4)) = shuffled v (2 ^ level) (slope * level) base in
      let sum : k * (suc n * (slope * s + 2 * (base + 4))) ≡ 2 * (k * (slope * level + (base + 4))) + k * x =
      ap (λ j. k * j) (sym (level_sum level n s (base + 4) (omega (arith, is)))) ∙ spread k (slope * level + (base + 4)) x in
      add_twice (v * charge_at slope base level) (charge slope base (level + 1) n half) (k * (slope * level + (base + 4))) (k * x)
      (k * (suc n * (slope * s + 2 * (base + 4)))) here
      (chain (2 * charge slope base (level + 1) n half) (2 ^ (level + 1) * half * x) (k * x) rest others) sum
    where
      shuffled : (a b c d : ℕ) → a * (b * (c + d + 4)) ≡ b * a * (c + (d + 4))
      shuffled a b c d = omega arith

      spread : (a b c : ℕ) → a * (2 * b + c) ≡ 2 * (a * b) + a * c
      spread a b c = omega arith

  pub charge-closed : (g v : ℕ) → 2 * charge slope base 0 (g + 1) v ≤ v * ((g + 1) * (slope * g + 2 * (base + 4)))
  charge-closed g v =
      let bound = (g + 1) * (slope * g + 2 * (base + 4)) in
      let h : 2 * charge slope base 0 (g + 1) v ≤ 2 ^ 0 * v * bound = closed (g + 1) 0 v g (omega arith) in
      let one : 2 ^ 0 * v * bound ≡ 1 * v * bound = refl in
      omega (arith, h, one)
