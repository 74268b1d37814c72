-- A binary counter between two calls.
use Rattle.std.proofs.Common.{◌≡◌, ◌≢◌, ℕ, ◌+◌, ◌*◌, ◌^◌, ◌<◌, ◌≤◌, ◌⊎◌, ⊎_elim, Option, List, [], ◌∷◌, All, length, sym, subst, arith, pow_mono}
use Rattle.std.proofs.Math.Nat.{mul-le-mul_right}
use Rattle.std.proofs.lemmas.Bool.{cases_lt}
use Rattle.std.proofs.lemmas.List.Elements.{All-nil}
use Rattle.query_laws.specs.Orders.{AllStampsDiffer}
use Rattle.builder_trait.specs.Builders.{Progress}
use Rattle.builder_trait.specs.Parts.{Contents}
use Rattle.binary_stack.specs.Levels.{weight_of, items_in, live_items, all_items, IsTakenIn, AreSameLevels}
use Rattle.binary_stack.specs.Charge.{charge, charge_of}
use Rattle.binary_stack.specs.Counter.{Counter, IsCounter, IsReady}
use Rattle.binary_stack.proofs.Distinct.{AllStampsDiffer-part, AllStampsDiffer-push}
use Rattle.binary_stack.proofs.Charges.{charge-levels, charge-few, charge-closed}
use Rattle.binary_stack.proofs.Rooms.{HaveRooms-marked}
use Rattle.binary_stack.proofs.Marked.{all-same, weight-same, length-same, levels-same, sizes-same, charge-same}

-- a level more stands only on a full counter
few_levels : (n : ℕ) → (n < 41) ⊎ (41 ≤ n) → 2 ^ n ≤ 2 ^ 40 → n + 1 ≤ 41
few_levels n cases light = ⊎_elim
    (λ less. omega (arith, less))
    (λ more. let high : 2 ^ 41 ≤ 2 ^ n = pow_mono more in absurd (omega (arith, high, light)))
    cases

module _ {P Item : Type 0} {contents : P → Contents Item} {stamp : Item → ℕ} {slope base : ℕ} where
  pub IsCounter-empty : IsCounter contents stamp slope base (record { levels = []; spare = 0; spent = 0 })
  IsCounter-empty = record {
    levels = tt;
    small = All-nil (λ l. length (items_in contents l) ≤ 2 ^ 30);
    apart = λ i j d below within. absurd (omega (arith, within));
    light = omega arith;
    few = omega arith;
    spare_few = omega arith;
    paid = omega arith;
  }

  module _ {s : Counter P} (h : IsCounter contents stamp slope base s) where
    -- the turns so far are a small number
    pub spent-few : slope ≤ 4096 → base ≤ 4096 → s.spent < 2 ^ 63
    spent-few slope_small base_small =
        let steep : slope * 41 ≤ 4096 * 41 = mul-le-mul_right 41 slope_small in
        let each : slope * (0 + 41) + base + 4 ≤ 2 ^ 18 = omega (arith, steep, base_small) in
        omega (arith, h.paid, h.light, charge-few slope base s.levels 0 41 (2 ^ 18) each h.few)

    pub spent-charged : (g : ℕ) → weight_of s.levels < 2 ^ (g + 1) → 2 * s.spent ≤ charge slope base 0 (g + 1) (weight_of s.levels)
    spent-charged g light = omega (arith, h.paid, charge-levels slope base s.levels 0 (g + 1) light)

    pub spent-closed : (g : ℕ) → weight_of s.levels < 2 ^ (g + 1) → 4 * s.spent ≤ weight_of s.levels * ((g + 1) * (slope * g + 2 * (base + 4)))
    spent-closed g light = omega (arith, spent-charged g light, charge-closed slope base g (weight_of s.levels))

    pub IsCounter-inserted : {s' : Counter P} (item : Item) → All (λ x. stamp x ≢ stamp item) (all_items contents s.levels)
        → IsTakenIn contents (item ∷ []) s.levels s'.levels → weight_of s.levels < 2 ^ 40 → length (live_items contents s.levels) < 2 ^ 30
        → length s'.levels ≤ length s.levels + 1 → (length s.levels < length s'.levels → weight_of s'.levels ≡ 2 ^ length s.levels)
        → s'.spare ≤ 1 → 2 * s'.spent ≤ charge_of slope base 0 s'.levels → IsCounter contents stamp slope base s'
    IsCounter-inserted {s'} item others taken light live one_more higher spare paid = record {
      levels = taken.levels 0 (omega arith) h.levels;
      small = taken.sizes (2 ^ 30) (omega (arith, live)) h.small;
      apart = AllStampsDiffer-part stamp (all_items contents s'.levels) (item ∷ all_items contents s.levels) taken.items
          (AllStampsDiffer-push stamp item (all_items contents s.levels) others h.apart);
      light = omega (arith, taken.weight, light);
      few = ⊎_elim
          (λ longer. omega (arith, one_more, few_levels (length s.levels) (cases_lt (length s.levels) 41) (omega (arith, higher longer, taken.weight, light))))
          (λ same. omega (arith, same, h.few))
          (cases_lt (length s.levels) (length s'.levels));
      spare_few = spare;
      paid = paid;
    }

    pub IsCounter-marked : {s' : Counter P} → AreSameLevels contents s.levels s'.levels → s'.spare ≡ s.spare → s'.spent ≡ s.spent
        → IsCounter contents stamp slope base s'
    IsCounter-marked {s'} same spare spent = record {
      levels = levels-same contents s.levels s'.levels 0 same h.levels;
      small = sizes-same contents s.levels s'.levels (2 ^ 30) same h.small;
      apart = subst (AllStampsDiffer stamp) (sym (all-same contents s.levels s'.levels same)) h.apart;
      light = omega (arith, weight-same contents s.levels s'.levels same, h.light);
      few = omega (arith, length-same contents s.levels s'.levels same, h.few);
      spare_few = omega (arith, spare, h.spare_few);
      paid = omega (arith, spent, h.paid, charge-same contents slope base s.levels s'.levels 0 same);
    }

-- memory for an insert was taken
pub IsCounter-ready : {P Item : Type 0} {contents : P → Contents Item} {stamp : Item → ℕ} {slope base : ℕ} {s : Counter P} {levels : List (Option P)}
    → IsCounter contents stamp slope base s → levels ≡ s.levels
    → IsCounter contents stamp slope base (record { levels = levels; spare = 1; spent = s.spent })
IsCounter-ready {contents = contents} {stamp = stamp} {slope = slope} {base = base} {s = s} h same =
    subst (λ ls. IsCounter contents stamp slope base (record { levels = ls; spare = 1; spent = s.spent })) (sym same) (record {
      levels = h.levels;
      small = h.small;
      apart = h.apart;
      light = h.light;
      few = h.few;
      spare_few = omega arith;
      paid = h.paid;
    })

-- marks take no memory
pub IsReady-marked : {P Item B : Type 0} {contents : P → Contents Item} {progress : B → Progress Item} {old new : List (Option P)} {place : ℕ}
    {starter : Option B} {sizes : List ℕ} → IsReady contents progress old place starter sizes → AreSameLevels contents old new
    → IsReady contents progress new place starter sizes
IsReady-marked {contents = contents} {old = old} {new = new} {sizes = sizes} h same = record {
  some = h.some;
  builder = h.builder;
  place = omega (arith, h.place, length-same contents old new same);
  rooms = HaveRooms-marked contents 1 1 old new sizes (omega arith) same h.rooms;
  within = h.within;
}
