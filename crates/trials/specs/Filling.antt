-- Items that are put one after another.
use Rattle.std.specs.Prelude.{Bool, true, IsTrue, List, Option, Some, None}
use Rattle.builder_trait.specs.Builders.{IsAfter}

module _ {Item : Type 0} (before : Item → Item → Bool) where
  -- whether an item comes after the last one, if there is one
  abbrev pub comes_after : Option Item → Item → Bool
  comes_after None item = true
  comes_after (Some last) item = before last item

  -- what comes after the last one comes after all of these
  pub record Leads (last : Option Item) (xs : List Item) : Type 0 where
    pub each : (item : Item) → IsTrue (comes_after last item) → IsAfter before item xs
