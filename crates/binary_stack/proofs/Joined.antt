-- A merge in which nothing dies takes exactly what lives.
use Rattle.std.proofs.Common.{◌≡◌, ℕ, zero, suc, ◌<◌, Bool, Option, List, [], ◌∷◌, ◌++◌, length, map, slice_get, refl, ap, ap₂, subst, arith}
use Rattle.std.specs.List.{items_where_true}
use Rattle.std.specs.Option.{is_some}
use Rattle.std.proofs.lemmas.Option.{same_Some}
use Rattle.std.proofs.lemmas.List.{length-map}
use Rattle.query_laws.specs.Permuted.{Permuted}
use Rattle.query_laws.specs.declared.item.Order.{Order}
use Rattle.builder_trait.specs.Parts.{Contents, IsPart, live_of}
use Rattle.builder_trait.specs.Builders.{PartProfile, Progress}
use Rattle.ordered_merge.specs.Merging.{Merging, Merges, HasRead, TakesLive, taken_of}
use Rattle.ordered_merge.proofs.MergingLemmas.{IsWhole-ended}

same_flags : (bs cs : List Bool) → length bs ≡ length cs → ((k : ℕ) → k < length bs → slice_get bs k ≡ slice_get cs k) → bs ≡ cs
same_flags [] [] same each = refl
same_flags [] (c ∷ cs) same each = absurd (omega (arith, same))
same_flags (b ∷ bs) [] same each = absurd (omega (arith, same))
same_flags (b ∷ bs) (c ∷ cs) same each =
    ap₂ (λ x xs. x ∷ xs) (same_Some b c (each zero (omega arith)))
    (same_flags bs cs (omega (arith, same)) (λ k within. each (suc k) (omega (arith, within))))

-- a table that is begun and read to its end took the live items
took_live : {Item : Type 0} {before : Order → Item → Item → Bool} (part : Contents Item) (old table : List (Option ℕ)) → IsPart before part → old ≡ []
    → length table ≡ length part.items → TakesLive part.flags old table → taken_of table part ≡ live_of part
took_live part old table valid none read takes =
    let empty : length old ≡ 0 = ap length none in
    ap (λ flags. items_where_true flags part.items)
    (same_flags (map is_some table) part.flags (omega (arith, length-map table is_some, read, valid.flagged))
    (λ k within. takes.taken k (omega (arith, empty)) (omega (arith, within, length-map table is_some))))

-- what a builder holds after the merge of two parts
pub record HoldsLive {Item : Type 0} (a b : Contents Item) (builder : Progress Item) : Type 0 where
  pub items : Permuted builder.items (live_of a ++ live_of b)
  pub as_many : length builder.reordered ≡ length builder.items

pub HoldsLive-ended : {Item : Type 0} {profile : PartProfile Item} {old m : Merging Item} {a b : Contents Item} {n : ℕ} {builder fresh : Progress Item}
    → old.a.table ≡ [] → old.b.table ≡ [] → IsPart profile.before a → IsPart profile.before b → Merges profile m a b fresh → HasRead n old m a b builder fresh
    → m.left ≡ 0 → HoldsLive a b fresh
HoldsLive-ended {Item} {profile} {old} {m} {a} {b} {n} {builder} {fresh} none none_other valid valid_other merges read ended =
    let whole = IsWhole-ended merges valid valid_other ended in
    let first = took_live a old.a.table m.a.table valid none whole.read read.taken in
    let second = took_live b old.b.table m.b.table valid_other none_other whole.other_read read.other_taken in
    record {
      items = subst (λ l. Permuted fresh.items (l ++ live_of b)) first
          (subst (λ l. Permuted fresh.items (taken_of m.a.table a ++ l)) second whole.items.same_items);
      as_many = whole.as_many;
    }
