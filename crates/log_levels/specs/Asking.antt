-- A question that was put to the complete parts of levels.
use Rattle.std.specs.Prelude.{◌≡◌, ◌+◌, ◌≤◌, All, IfOk, List, Result, length}
use Rattle.builder_trait.specs.Asking.{OpenQuestion}
use Rattle.builder_trait.specs.Parts.{Contents}
use Rattle.log_levels.specs.Level.{IsOfLevel}
use Rattle.log_levels.specs.Levels.{live_items, parts_of}
use Rattle.log_levels.specs.Slots.{Slots}

module _ {P I Q A T E : Type 0} where
  -- A question was put to all complete parts of levels: where it isn't refused, their answers are joined to what was answered before.
  pub record HasAsked (contents : P → Contents I) (join : Q → A → A → A) (value : Q → List I → A) (levels : List (Slots P I)) (result : Result T E)
      (old new : OpenQuestion Q A) : Type 0 where
    pub if_ok : IfOk result (λ _. new ≡ record old {
      so_far = join old.question old.so_far (value old.question (live_items contents levels));
      parts = old.parts + parts_of levels;
      live = old.live + length (live_items contents levels);
    })

module _ {P I : Type 0} where
  -- on no level are there more than three complete parts, and each is of its level
  pub record AreThreeAtMost (contents : P → Contents I) (levels : List (Slots P I)) : Type 0 where
    pub three : All (λ l. length l.parts ≤ 3) levels
    pub of_level : All (λ l. All (λ p. IsOfLevel l.level (contents p)) l.parts) levels
