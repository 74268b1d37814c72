-- A walk along a chain to which an item was appended.
use Rattle.std.proofs.Common.{◌≡◌, ℕ, ◌+◌, ◌<◌, ◌∙◌, List, [], ◌∷◌, ◌++◌, Some, All, sym, ap, subst}
use Rattle.builder_trait.specs.Parts.{Contents}
use Rattle.id_chain.specs.Chain.{Entry, HandlesDiffer, item_at, IsCursor}
use Rattle.id_chain.proofs.Cursors.{before-append, others-append}
use Rattle.id_chain.proofs.Entries.{Apart-parts, item_at-linked, item_at-split, linked_head}
use Rattle.log_levels.specs.Levels.{all_items}
use Rattle.chain_walk.specs.Walk.{Walked, IsWalkOf}
use Rattle.chain_walk.proofs.Walking.{stamp_at-item}

-- a walk with the cursor at an entry has the items before it where another entry comes last
pub IsWalkOf-appended : {P Item : Type 0} (contents : P → Contents Item) (stamp : Item → ℕ) (r : Walked P Item) (front : List (Entry Item)) (e : Entry Item)
    (handle : ℕ) → r.cursor ≡ Some handle → IsWalkOf contents stamp r front (stamp e.item) → IsWalkOf contents stamp r (front ++ e ∷ []) (stamp e.item + 1)
IsWalkOf-appended contents stamp r front e handle stands own =
    let linked = subst (λ c. IsCursor c front) stands own.cursor in
    let there = item_at-linked handle front linked in
    let kept = others-append handle front e linked in
    let here = stamp_at-item stamp r.cursor handle there.0 front (stamp e.item) stands there.1 in
    let now = stamp_at-item stamp r.cursor handle there.0 (front ++ e ∷ []) (stamp e.item + 1) stands (kept.1 ∙ there.1) in
    record {
      cursor = subst (λ c. IsCursor c (front ++ e ∷ [])) (sym stands) kept.0;
      live = rw (stands, before-append handle front e linked) (rw stands at own.live);
      below = subst (λ n. All (λ x. stamp x < n) (all_items contents r.stack.levels)) (here ∙ sym now) own.below;
    }

-- the item under the handle of the last entry
pub last_item : {Item : Type 0} (handle : ℕ) (item other : Item) (front es : List (Entry Item)) → es ≡ front ++ record { handle = handle; item = other } ∷ [] → HandlesDiffer es
    → item_at handle es ≡ Some item → item ≡ other
last_item {Item = Item} handle item other front es is differ at =
    let e : Entry Item = record { handle = handle; item = other } in
    let apart = Apart-parts front (e ∷ []) (subst HandlesDiffer is differ) in
    let there = ap (item_at handle) is ∙ item_at-split handle other front [] (apart.back_only handle (linked_head e [])) in
    let same : Some item ≡ Some other = sym at ∙ there in cc
