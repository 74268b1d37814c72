-- A preparation: a walk, a swap where all items are handed over, and memory.
use Rattle.std.proofs.Common.{◌≡◌, ◌≢◌, ℕ, ◌+◌, ◌-◌, ◌^◌, ◌<◌, ◌≤◌, ◌∙◌, ◌⊎◌, true, false, ⊎_elim, length, nat_le, Option, Some, None, List, refl, ap, sym, subst, arith}
use Rattle.std.proofs.lemmas.Bool.Decides.{nat_tests}
use Rattle.builder_trait.specs.Parts.{Contents}
use Rattle.id_chain.specs.Chain.{Entry}
use Rattle.log_levels.specs.Levels.{live_items, weight_of}
use Rattle.part_store.specs.Shelves.{kept_at, lent_at}
use Rattle.part_store.specs.Store.{Stored}
use Rattle.log_levels.specs.Slots.{Slots}
use Rattle.log_levels.specs.Trades.{used_at, built_at}
use Rattle.log_method.specs.Stack.{Stacked}
use Rattle.log_method.specs.Retired.{used_of}
use Rattle.chain_walk.specs.Walk.{Walked as Shadow, HandsOver, IsKept, live_in}
use Rattle.global_rebuild.specs.Index.{Indexed, IsIndexOf, IsIndex, IsInTime, to_walk, in_both, in_retired, OwnsMemory, retired_parts, IsWalkedOn, HasPaused}
use Rattle.global_rebuild.specs.Retiring.{with_retired}
use Rattle.global_rebuild.proofs.Owning.{in_shadow}
use Rattle.global_rebuild.proofs.Retiring.{with_both, used_none, built_none}
use Rattle.global_rebuild.proofs.Weights.{walked_few, ended_all, as_many, main_light, shadow_light}

-- what was before a walk, in which a shadow was there where one is
module _ {P Item : Type 0} {contents : P → Contents Item} {most : ℕ} {old i : Indexed P Item} (p : HasPaused contents most old i) where
  was_none : i.shadow ≡ None → old.shadow ≡ None
  was_none none = cases old.shadow refl
    where
      cases : (o : Option (Shadow P Item)) → old.shadow ≡ o → old.shadow ≡ None
      cases None is = is
      cases (Some x) is = let wrong : None ≡ Some (p.going x is).0 = sym none ∙ (p.going x is).1 in absurd cc

  pub was_some : (r : Shadow P Item) → i.shadow ≡ Some r → (x : Shadow P Item) × (old.shadow ≡ Some x) × HandsOver contents most x r
  was_some r there = cases old.shadow refl
    where
      cases : (o : Option (Shadow P Item)) → old.shadow ≡ o → (x : Shadow P Item) × (old.shadow ≡ Some x) × HandsOver contents most x r
      cases None is = let wrong : None ≡ Some r = sym (p.none is) ∙ there in absurd cc
      cases (Some x) is =
          let n = p.going x is in
          let one : n.0 ≡ r = let both : Some n.0 ≡ Some r = sym n.1 ∙ there in cc in (x, is, subst (HandsOver contents most x) one n.2)

-- what a swap makes of an index: a shadow that has all items takes the place of the main stack, and nothing else changes anything
pub data IsSwapped {P Item : Type 0} (i : Indexed P Item) (main : Stacked P Item) (shadow : Option (Shadow P Item)) (retired : List (Stacked P Item)) : Type 0 where
  quiet : i.shadow ≡ None → main ≡ i.main → shadow ≡ None → retired ≡ i.retired → IsSwapped i main shadow retired
  going : (r : Shadow P Item) → i.shadow ≡ Some r → r.cursor ≢ None → main ≡ i.main → shadow ≡ Some r → retired ≡ i.retired → IsSwapped i main shadow retired
  ended : (r : Shadow P Item) → i.shadow ≡ Some r → r.cursor ≡ None → main ≡ r.stack → shadow ≡ None → retired ≡ with_retired i.retired i.main
      → IsSwapped i main shadow retired

-- where nothing was swapped
pub not_swapped : {P Item : Type 0} (i : Indexed P Item) {main : Stacked P Item} {shadow : Option (Shadow P Item)} {retired : List (Stacked P Item)}
    → ((r : Shadow P Item) → i.shadow ≡ Some r → r.cursor ≢ None) → main ≡ i.main → shadow ≡ i.shadow → retired ≡ i.retired → IsSwapped i main shadow retired
not_swapped {P} {Item} i {main} {shadow} {retired} some main_is shadow_is put = cases i.shadow refl
  where
    cases : (o : Option (Shadow P Item)) → i.shadow ≡ o → IsSwapped i main shadow retired
    cases None none = quiet none main_is (shadow_is ∙ none) put
    cases (Some r) there = going r there (some r there) main_is (shadow_is ∙ there) put

-- a swap moves all that stacks have, and lends none
module _ {P Item : Type 0} {i : Indexed P Item} {main : Stacked P Item} {shadow : Option (Shadow P Item)} {retired : List (Stacked P Item)}
    (s : IsSwapped i main shadow retired) where
  swapped_all : (f : List (Slots P Item) → ℕ) → (used_of i.main.levels ≡ 0 → f i.main.levels ≡ 0)
      → in_both f main shadow + in_retired f retired ≡ in_both f i.main i.shadow + in_retired f i.retired
  swapped_all f nothing = elim s [
    | quiet at same over put ↦
        omega (arith, ap (λ m. f m.levels) same, ap (in_shadow f) at, ap (in_shadow f) over, ap (in_retired f) put)
    | going r is at same same' put ↦
        omega (arith, ap (λ m. f m.levels) same, ap (in_shadow f) is, ap (in_shadow f) same', ap (in_retired f) put)
    | ended r is at same over put ↦
        omega (arith, ap (λ m. f m.levels) same, ap (in_shadow f) is, ap (in_shadow f) over, ap (in_retired f) put, with_both i.retired i.main f nothing)
  ]

  swapped_both : (f : List (Slots P Item) → ℕ) → in_both f main shadow ≤ in_both f i.main i.shadow
  swapped_both f = elim s [
    | quiet at same over put ↦ omega (arith, ap (λ m. f m.levels) same, ap (in_shadow f) at, ap (in_shadow f) over)
    | going r is at same same' put ↦ omega (arith, ap (λ m. f m.levels) same, ap (in_shadow f) is, ap (in_shadow f) same')
    | ended r is at same over put ↦ omega (arith, ap (λ m. f m.levels) same, ap (in_shadow f) is, ap (in_shadow f) over)
  ]

  pub owns-swapped : (store : Stored) → store ≡ i.store → OwnsMemory i → OwnsMemory (record { store = store; main = main; shadow = shadow; retired = retired })
  owns-swapped store same o = record {
    lent = λ k. omega (arith, ap (λ x. lent_at k x.builders) same, o.lent k, swapped_all (used_at k) (used_none k i.main.levels));
    lent_tables = λ k. omega (arith, ap (λ x. lent_at k x.tables) same, o.lent_tables k, swapped_all (built_at k) (built_none k i.main.levels));
    few = λ k. omega (arith, ap (λ x. kept_at k x.builders) same, o.few k, swapped_both (used_at k));
  }

-- how much is left to walk, after a swap and what follows
module _ {P Item : Type 0} {contents : P → Contents Item} {stamp : Item → ℕ} {i : Indexed P Item} {es : List (Entry Item)} {stamps : ℕ}
    {main : Stacked P Item} {shadow : Option (Shadow P Item)} {retired : List (Stacked P Item)} (new : Indexed P Item) (h : IsIndexOf contents stamp i es stamps)
    (live : live_items contents new.main.levels ≡ live_items contents main.levels) (none : shadow ≡ None → new.shadow ≡ None)
    (some : (r : Shadow P Item) → shadow ≡ Some r → (r' : Shadow P Item) × (new.shadow ≡ Some r') × IsKept contents r r') where
  pub as_far : IsSwapped i main shadow retired → to_walk contents i ≡ to_walk contents new
  as_far s = elim s [
    | quiet at same over put ↦ rw (at, none over) refl
    | going r is at same same' put ↦
        let k = some r same' in
        let all : live_in contents new.main ≡ live_in contents i.main = ap length live ∙ ap (live_in contents) same in
        let kept : live_in contents k.0.stack ≡ live_in contents r.stack = ap length k.2.live in
        rw (is, k.1, all, kept) refl
    | ended r is at same over put ↦ rw (is, none over) (omega (arith, ended_all contents stamp i es h r (h.shadow r is) at))
  ]

-- what a preparation makes of an index, and that it is four items ahead while a rebuild runs
pub record IsMade {P Item : Type 0} (contents : P → Contents Item) (old new : Indexed P Item) : Type 0 where
  pub on : IsWalkedOn contents old new
  pub ahead : (r : Shadow P Item) → new.shadow ≡ Some r → IsInTime contents 4 new.main r × (1 ≤ live_in contents new.main - live_in contents r.stack)

-- the walk makes `i` of the index, the swap puts three fields in it, and then a retired part is given up and memory is taken
module _ {P Item : Type 0} {contents : P → Contents Item} {stamp : Item → ℕ} {i : Indexed P Item} {es : List (Entry Item)} {stamps : ℕ}
    {main : Stacked P Item} {shadow : Option (Shadow P Item)} {retired : List (Stacked P Item)} (old new : Indexed P Item) (h : IsIndexOf contents stamp i es stamps) (s : IsSwapped i main shadow retired)
    (p : HasPaused contents 4 old i)
    (taken : (x r : Shadow P Item) → old.shadow ≡ Some x → i.shadow ≡ Some r → (r.cursor ≡ None) ⊎ (live_in contents r.stack ≡ live_in contents x.stack + 4))
    (in_time : (r : Shadow P Item) → i.shadow ≡ Some r → r.cursor ≢ None → IsInTime contents 4 i.main r)
    (one : retired_parts new ≡ in_retired used_of retired - 1)
    (live : live_items contents new.main.levels ≡ live_items contents main.levels) (weight : weight_of new.main.levels ≡ weight_of main.levels)
    (none : shadow ≡ None → new.shadow ≡ None)
    (some : (r : Shadow P Item) → shadow ≡ Some r → (r' : Shadow P Item) × (new.shadow ≡ Some r') × IsKept contents r r') where
  gone : shadow ≡ None → (r : Shadow P Item) → new.shadow ≡ Some r → IsInTime contents 4 new.main r × (1 ≤ live_in contents new.main - live_in contents r.stack)
  gone over r there = let wrong : None ≡ Some r = sym (none over) ∙ there in absurd cc

  same_weight : main ≡ i.main → weight_of new.main.levels ≡ weight_of old.main.levels
  same_weight same = weight ∙ ap (λ m. weight_of m.levels) (same ∙ p.main)

  one_fewer : retired ≡ i.retired → retired_parts new ≡ retired_parts old - 1
  one_fewer put = one ∙ ap (λ rs. in_retired used_of rs - 1) (put ∙ p.retired)

  pub made : IsMade contents old new
  made = elim s [
    | quiet at same over put ↦
        let was = was_none p at in
        record {
          on = record {
            walked = rw (none over, was);
            weight = rw was (same_weight same);
            shadow_weight = rw (none over, was);
            retired = rw was (one_fewer put);
          };
          ahead = gone over;
        }
    | going r is at same same' put ↦
        let x = was_some p r is in
        let k = some r same' in
        let fewer = walked_few contents stamp i es h r (h.shadow r is) at in
        let four : live_in contents r.stack ≡ live_in contents x.0.stack + 4 = ⊎_elim (λ over. absurd (at over)) (λ four. four) (taken x.0 r x.1 is) in
        let all : live_in contents new.main ≡ live_in contents i.main = ap length live ∙ ap (live_in contents) same in
        let kept = ap length k.2.live in
        let total = ap (live_in contents) p.main in
        let many : nat_le (live_in contents old.main - live_in contents x.0.stack) 4 ≡ false = grind (arith, nat_tests, fewer, four, total) in
        let t = in_time r is at in
        record {
          on = record {
            walked = rw (k.1, x.1, many) (ap Some (omega (arith, all, total, kept, four)));
            weight = rw (x.1, many) (same_weight same);
            shadow_weight = rw (k.1, x.1, many) (omega (arith, k.2.weight, x.2.weight, four));
            retired = rw (x.1, many) (one_fewer put);
          };
          ahead = λ r' there.
              let itself : k.0 ≡ r' = let both : Some k.0 ≡ Some r' = sym k.1 ∙ there in cc in
              subst (λ y. IsInTime contents 4 new.main y × (1 ≤ live_in contents new.main - live_in contents y.stack)) itself (
                record {
                  few = omega (arith, t.few, all, kept);
                  main_light = omega (arith, t.main_light, all, weight, ap (λ m. weight_of m.levels) same, kept);
                  shadow_light = omega (arith, t.shadow_light, all, kept, k.2.weight);
                },
                omega (arith, fewer, kept, all),
              );
        }
    | ended r is at same over put ↦
        let x = was_some p r is in
        let all = ended_all contents stamp i es h r (h.shadow r is) at in
        let total = ap (live_in contents) p.main in
        let few : nat_le (live_in contents old.main - live_in contents x.0.stack) 4 ≡ true = grind (arith, nat_tests, all, x.2.at_most, total) in
        record {
          on = record {
            walked = rw (none over, x.1, few);
            weight = rw (x.1, few) (omega (arith, weight, ap (λ m. weight_of m.levels) same, x.2.weight, x.2.no_fewer, all, total));
            shadow_weight = rw (none over, x.1, few);
            retired = rw (x.1, few) (omega (
              arith,
              one,
              ap (in_retired used_of) put,
              with_both i.retired i.main used_of (λ h. h),
              ap (λ m. used_of m.levels) p.main,
              ap (in_retired used_of) p.retired,
            ));
          };
          ahead = gone over;
        }
  ]

-- after a swap and what follows both stacks are light
module _ {P Item : Type 0} {contents : P → Contents Item} {stamp : Item → ℕ} {i : Indexed P Item} {es : List (Entry Item)} {stamps : ℕ}
    {main : Stacked P Item} {shadow : Option (Shadow P Item)} {retired : List (Stacked P Item)} (h : IsIndexOf contents stamp i es stamps) (v : IsIndex contents i)
    (s : IsSwapped i main shadow retired) where
  light_before : (r : Shadow P Item) → i.shadow ≡ Some r → weight_of r.stack.levels < 2 ^ 31
  light_before r there = omega (arith, shadow_light (v.in_time r there) (omega (arith, as_many contents stamp i es h, h.few)))

  pub settled_light : (main' : Stacked P Item) → weight_of main'.levels ≡ weight_of main.levels → weight_of main'.levels < 2 ^ 31
  settled_light main' same = omega (arith, same, before)
    where
      before : weight_of main.levels < 2 ^ 31
      before = elim s [
        | quiet at is over put ↦ rw is (main_light refl v h)
        | going r at still is is' put ↦ rw is (main_light refl v h)
        | ended r at over is none put ↦ rw is (light_before r at)
      ]

  pub settled_light_too : (shadow' : Option (Shadow P Item)) → (shadow ≡ None → shadow' ≡ None)
      → ((r : Shadow P Item) → shadow ≡ Some r → (r' : Shadow P Item) × (shadow' ≡ Some r') × IsKept contents r r') → (r' : Shadow P Item) → shadow' ≡ Some r'
      → weight_of r'.stack.levels < 2 ^ 31
  settled_light_too shadow' none some r' there = elim s [
    | quiet at is over put ↦ let wrong : None ≡ Some r' = sym (none over) ∙ there in absurd cc
    | going r at still is is' put ↦
        let k = some r is' in
        let one : k.0 ≡ r' = let both : Some k.0 ≡ Some r' = sym k.1 ∙ there in cc in
        omega (arith, ap (λ (x : Shadow P Item). weight_of x.stack.levels) one, k.2.weight, light_before r at)
    | ended r at over is empty put ↦ let wrong : None ≡ Some r' = sym (none empty) ∙ there in absurd cc
  ]
