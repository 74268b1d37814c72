-- An index that is made late of the items of a chain.
use Rattle.std.proofs.Common.{◌≡◌, ◌≢◌, ℕ, ◌^◌, ◌<◌, List, [], ◌∷◌, Some, length, refl, arith}
use Rattle.std.proofs.lemmas.Bool.Decides.{nat_tests}
use Rattle.std.proofs.lemmas.List.Elements.{All-nil}
use Rattle.query_laws.specs.Permuted.{nothing}
use Rattle.builder_trait.specs.Parts.{Contents}
use Rattle.id_chain.specs.Chain.{Entry, HandlesDiffer, before, first_handle}
use Rattle.id_chain.specs.StampsRise.{StampsRise}
use Rattle.id_chain.proofs.Entries.{linked_head}
use Rattle.global_rebuild.specs.Index.{IsIndexOf}
use Rattle.late_index.proofs.Catching.{starts}
use Rattle.layer_kinds.specs.Indexing.{Whole, Late, no_items, begun, IsOf}

module _ {P Item : Type 0} where
  pub begun_none : (es : List (Entry Item)) → es ≡ [] → begun {P = P} es ≡ Whole no_items
  begun_none [] none = refl
  begun_none (e ∷ es) none = absurd cc

  pub begun_some : (es : List (Entry Item)) → es ≢ [] → begun {P = P} es ≡ Late (record {
    store = record { builders = []; tables = [] };
    walk = record { stack = record { levels = [] }; cursor = first_handle es };
    waiting = length es;
  })
  begun_some [] some = absurd (some refl)
  begun_some (e ∷ es) some = refl

  module _ (contents : P → Contents Item) (stamp : Item → ℕ) where
    IsIndexOf-nothing : (stamps : ℕ) → StampsRise stamp 0 [] stamps → IsIndexOf contents stamp no_items [] stamps
    IsIndexOf-nothing stamps rise = record {
      live = nothing;
      below = All-nil (λ x. stamp x < stamps);
      shadow = λ r is. absurd cc;
      rise = rise;
      differ = tt;
      few = omega arith;
    }

    first_before : (e : Entry Item) (es : List (Entry Item)) → before e.handle (e ∷ es) ≡ []
    first_before e es = grind (arith, nat_tests)

    pub begun_of : (es : List (Entry Item)) (stamps : ℕ) → StampsRise stamp 0 es stamps → HandlesDiffer es → length es < 2 ^ 29
        → IsOf contents stamp (begun es) es stamps
    begun_of [] stamps rise differ few = IsIndexOf-nothing stamps rise
    begun_of (e ∷ es) stamps rise differ few =
        (starts (e ∷ es) stamps (Some e.handle) (linked_head e es) (first_before e es) differ few rise, omega arith)
