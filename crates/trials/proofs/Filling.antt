-- Items that are put one after another.
use Rattle.std.proofs.Common.{ℕ, Bool, IsTrue, List, [], ◌∷◌, ◌++◌, Option, Some, None, get_or}
use Rattle.std.proofs.lemmas.List.Elements.{All-nil, All-push}
use Rattle.query_laws.specs.Orders.{IsStrictTotalOrder}
use Rattle.trials.specs.Filling.{comes_after, Leads}

module _ {Item : Type 0} {before : Item → Item → Bool} where
  pub Leads-nil : Leads before None []
  Leads-nil = record { each = λ item h. All-nil (λ y. IsTrue (before y item)) }

  -- one more, which comes after the last one
  pub Leads-push : {stamp : Item → ℕ} → IsStrictTotalOrder stamp before → (last : Option Item) (xs : List Item) (x : Item) → Leads before last xs
      → IsTrue (comes_after before last x) → Leads before (Some x) (xs ++ x ∷ [])
  Leads-push order last xs x leads after = record {
    each = λ item h. All-push (λ y. IsTrue (before y item)) xs x
        (λ k d within. order.transitive (get_or xs k d) x item (leads.each x after k d within) h) h;
  }
