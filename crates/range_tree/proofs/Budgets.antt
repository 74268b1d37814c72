-- What a question to a tree touches at most, in all.
use Rattle.std.proofs.Common.{◌≡◌, ℕ, ◌+◌, ◌-◌, ◌*◌, ◌/◌, ◌^◌, ◌<◌, ◌≤◌, ◌⊎◌, inl, inr, ap, arith, subst, pow_mono}
use Rattle.std.proofs.lemmas.Bool.{cases_lt}
use Rattle.std.proofs.lemmas.Nat.{mul-le}
use Rattle.range_tree.specs.declared.measure.Measure.{Measure}
use Rattle.range_tree.specs.declared.measure.Measure.TheVariants.{Count, Weight}
use Rattle.range_tree.specs.Costs.{blocks_touches, touches_to_measure}
use Rattle.range_tree.specs.Measures.{leaf_touches, most_scanned, word_touches}

-- squares grow faster
square_low : (h a : ℕ) → a + h ≡ 7 → 15 * h ≤ h * h + 56
square_low h a is = omega (arith, ap (λ x. x * h) is, ap (λ x. x * a) is)

square_high : (h a : ℕ) → h ≡ 8 + a → 15 * h ≤ h * h + 56
square_high h a is = subst (λ n. 15 * n ≤ n * n + 56) (let e : 8 + a ≡ h = omega (arith, is) in e) (omega arith)

square : (h : ℕ) → 15 * h ≤ h * h + 56
square h = by (cases_lt h 8)
  where
    by : (h < 8) ⊎ (8 ≤ h) → 15 * h ≤ h * h + 56
    by (inl low) = square_low h (7 - h) (omega arith)
    by (inr high) = square_high h (h - 8) (omega arith)

-- ---- a scan of few places

count_scanned : (h n d : ℕ) → d ≤ n → n ≤ 2 ^ h → d ≤ 1024 → 2 * (h + 1) + (d / 16 + 2 + 0) ≤ 2 * ((h + 2) * (h + 2))
count_scanned h n d few all most = by (cases_lt h 7)
  where
    by : (h < 7) ⊎ (7 ≤ h) → 2 * (h + 1) + (d / 16 + 2 + 0) ≤ 2 * ((h + 2) * (h + 2))
    by (inl low) =
        let six : h ≤ 6 = omega arith in
        let less : 2 ^ h ≤ 2 ^ 6 = pow_mono six in
        omega (arith, less, few, all)
    by (inr high) = omega (arith, mul-le 7 h h h high (omega arith), most, high)

-- the weights of the points are read too
sum_scanned : (h n d : ℕ) → d ≤ n → n ≤ 2 ^ h → d ≤ 2048 → 2 * (h + 1) + (d / 16 + 2 + d) ≤ 16 * ((h + 2) * (h + 2))
sum_scanned h n d few all most = by (cases_lt h 1) (cases_lt h 7) (cases_lt h 11)
  where
    by : (h < 1) ⊎ (1 ≤ h) → (h < 7) ⊎ (7 ≤ h) → (h < 11) ⊎ (11 ≤ h) → 2 * (h + 1) + (d / 16 + 2 + d) ≤ 16 * ((h + 2) * (h + 2))
    by (inl none) _ _ =
        let flat : h ≡ 0 = omega arith in
        let one : 2 ^ h ≡ 1 = ap (λ i. 2 ^ i) flat in
        omega (arith, one, few, all, flat)
    by (inr some) (inl low) _ =
        let six : h ≤ 6 = omega arith in
        let less : 2 ^ h ≤ 2 ^ 6 = pow_mono six in
        omega (arith, less, few, all, some)
    by (inr some) (inr high) (inl low) =
        let ten : h ≤ 10 = omega arith in
        let less : 2 ^ h ≤ 2 ^ 10 = pow_mono ten in
        omega (arith, less, few, all, mul-le 7 h h h high (omega arith))
    by (inr some) (inr high) (inr top) = omega (arith, mul-le 11 h h h top (omega arith), most, top)

-- where there is no whole block, few places are left
pub scanned_enough : (measure : Measure) → 1022 ≤ most_scanned measure
scanned_enough Count = omega arith
scanned_enough Weight = omega arith

pub measure_scanned : (measure : Measure) (h n d : ℕ) → d ≤ n → n ≤ 2 ^ h → d ≤ most_scanned measure
    → 2 * (h + 1) + (d / 16 + 2 + leaf_touches measure d) ≤ touches_to_measure measure h
measure_scanned Count h n d few all most = count_scanned h n d few all most
measure_scanned Weight h n d few all most = sum_scanned h n d few all most

-- at a part of some places
pub leaf_touches-both : (measure : Measure) (one two all : ℕ) → one + two ≤ all → leaf_touches measure one + leaf_touches measure two ≤ leaf_touches measure all
leaf_touches-both Count one two all few = omega arith
leaf_touches-both Weight one two all few = few

pub leaf_touches-few : (measure : Measure) (some all : ℕ) → some ≤ all → leaf_touches measure some ≤ leaf_touches measure all
leaf_touches-few Count some all few = omega arith
leaf_touches-few Weight some all few = few

-- a list of more of them takes a touch for each leaf
leaves_scanned : (h n d : ℕ) → d ≤ n → n ≤ 2 ^ h → d ≤ 8192 → 2 * (h + 1) + (d / 16 + 2) ≤ 4 * ((h + 2) * (h + 2))
leaves_scanned h n d few all most = by (cases_lt h 7) (cases_lt h 13)
  where
    by : (h < 7) ⊎ (7 ≤ h) → (h < 13) ⊎ (13 ≤ h) → 2 * (h + 1) + (d / 16 + 2) ≤ 4 * ((h + 2) * (h + 2))
    by (inl low) _ =
        let six : h ≤ 6 = omega arith in
        let less : 2 ^ h ≤ 2 ^ 6 = pow_mono six in
        omega (arith, less, few, all)
    by (inr high) (inl low) =
        let twelve : h ≤ 12 = omega arith in
        let less : 2 ^ h ≤ 2 ^ 12 = pow_mono twelve in
        omega (arith, less, few, all, mul-le 7 h h h high (omega arith), high)
    by (inr high) (inr top) = omega (arith, mul-le 13 h h h top (omega arith), most, top)

-- and one for each point
pub list_scanned : (h n d hits : ℕ) → d ≤ n → n ≤ 2 ^ h → d ≤ 8192 → 2 * (h + 1) + (d / 16 + 2 + hits) ≤ 4 * ((h + 2) * (h + 2)) + 8 * (h + 2) * hits
list_scanned h n d hits few all most = omega (arith, leaves_scanned h n d few all most, mul-le 1 hits (8 * (h + 2)) hits (omega arith) (omega arith))

-- ---- two ends of a block, and the rows below it

pub rows_counted : (h ends rows : ℕ) → rows + 8 ≡ h → ends ≤ 2 → blocks_touches 0 rows ends + 142 ≤ 2 * (h * h) + 4 * h
rows_counted h ends rows is few =
    let m = rows * (rows + 17) in
    let most : blocks_touches 0 rows ends + 142 ≤ 2 * ((rows + 8) * (rows + 8)) + 4 * (rows + 8) = omega (arith, mul-le ends m 2 m few (omega arith)) in
    subst (λ n. blocks_touches 0 rows ends + 142 ≤ 2 * (n * n) + 4 * n) is most

rows_weighed : (h ends rows : ℕ) → rows + 8 ≡ h → ends ≤ 2 → blocks_touches 128 rows ends + 2062 ≤ 2 * (h * h) + 260 * h
rows_weighed h ends rows is few =
    let m = rows * (rows + 145) in
    let most : blocks_touches 128 rows ends + 2062 ≤ 2 * ((rows + 8) * (rows + 8)) + 260 * (rows + 8) = omega (arith, mul-le ends m 2 m few (omega arith)) in
    subst (λ n. blocks_touches 128 rows ends + 2062 ≤ 2 * (n * n) + 260 * n) is most

-- both ends are scanned, and the blocks between are counted by rows
pub measure_counted : (measure : Measure) (h front back ends rows : ℕ) → rows + 8 ≡ h → ends ≤ 2 → front + back ≤ 1022
    → 2 * (h + 1) + 2 * (h + 1) + (front / 16 + 2 + leaf_touches measure front) + (back / 16 + 2 + leaf_touches measure back) + blocks_touches (word_touches measure) rows ends
    ≤ touches_to_measure measure h
measure_counted Count h front back ends rows is most few = omega (arith, rows_counted h ends rows is most, few)
measure_counted Weight h front back ends rows is most few = omega (arith, rows_weighed h ends rows is most, square h, few)

pub list_counted : (h front back one two three hits blocks : ℕ) → blocks + 142 ≤ 2 * (h * h) + 4 * h → front + back ≤ 1022 → one + two + three ≡ hits
    → 2 * (h + 1) + 2 * (h + 1) + (front / 16 + 2 + one) + (back / 16 + 2 + two) + (blocks + three * (8 * (h + 2)))
    ≤ 4 * ((h + 2) * (h + 2)) + 8 * (h + 2) * hits
list_counted h front back one two three hits blocks most few all =
    omega (
      arith,
      most,
      few,
      ap (λ n. 8 * (h + 2) * n) all,
      mul-le 1 one (8 * (h + 2)) one (omega arith) (omega arith),
      mul-le 1 two (8 * (h + 2)) two (omega arith) (omega arith),
    )
