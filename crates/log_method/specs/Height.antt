-- How large the complete parts of levels are, and how high they stand.
use Rattle.std.specs.Prelude.{◌≡◌, ℕ, ◌+◌, ◌*◌, ◌^◌, ◌<◌, ◌≤◌, List, Some, All, length, drop, slice_get}
use Rattle.builder_trait.specs.Parts.{Contents}
use Rattle.log_levels.specs.Slots.{Slots, IsIdle}
use Rattle.log_levels.specs.Levels.{parts_of, touches_of, weight_of}

module _ {P Item : Type 0} where
  -- no complete part has more than so many items, dead ones included
  abbrev pub HaveAtMost : (P → Contents Item) → ℕ → List (Slots P Item) → Type 0
  HaveAtMost contents n levels = All (λ l. All (λ p. length (contents p).items ≤ n) l.parts) levels

  -- how many items all complete parts have together, dead ones included
  abbrev pub size_of : (P → Contents Item) → List (Slots P Item) → ℕ
  size_of contents levels = touches_of (λ p. length (contents p).items) levels

  -- What a question meets in levels of at most such a weight: no more than three parts on a level; and where the weight is less than
  -- 2 ^ (g + 1), no more than three for each level up to g, of which none has more than 2 ^ g items. All have no more than the weight.
  pub record AreFew (contents : P → Contents Item) (weight : ℕ) (levels : List (Slots P Item)) : Type 0 where
    pub on_level : All (λ l. length l.parts ≤ 3) levels
    pub parts : (g : ℕ) → weight < 2 ^ (g + 1) → parts_of levels ≤ 3 * (g + 1)
    pub sizes : (g : ℕ) → weight < 2 ^ (g + 1) → HaveAtMost contents (2 ^ g) levels
    pub items : size_of contents levels ≤ weight

  -- Where the weight is less than 2 ^ (g + 1), there are no more than three complete parts for each level up to g. They have no more items than it.
  pub record HaveFewParts (contents : P → Contents Item) (levels : List (Slots P Item)) : Type 0 where
    pub parts : (g : ℕ) → weight_of levels < 2 ^ (g + 1) → parts_of levels ≤ 3 * (g + 1)
    pub items : size_of contents levels ≤ weight_of levels

  -- the levels from a height on are idle, and the one right below it, if there is one, isn't
  pub record IsHeight (levels : List (Slots P Item)) (height : ℕ) : Type 0 where
    pub within : height ≤ length levels
    pub idle : All IsIdle (drop height levels)
    pub least : (k : ℕ) (l : Slots P Item) → height ≡ k + 1 → slice_get levels k ≡ Some l → IsIdle l → ⊥
