-- What updates keep of the memory of indexes.
use Rattle.std.proofs.Common.{◌≡◌, ℕ, ◌+◌, ◌-◌, ◌⊎◌, ⊎_elim, if◌then◌else◌, Bool, true, false, List, [], ◌∷◌, ◌++◌, Option, Some, None, Result, Ok, Err, refl, sym, subst, arith}
use Rattle.std.specs.Prelude.{IfOk, OnErr, get_or, map, nat_le}
use Rattle.std.specs.Option.{option_map}
use Rattle.std.proofs.Math.ListN.{get_or-map}
use Rattle.std.proofs.lemmas.Bool.{leb-true}
use Rattle.builder_trait.specs.Parts.{Contents}
use Rattle.part_store.specs.Shelves.{held_at}
use Rattle.part_store.specs.Store.{Stored}
use Rattle.log_method.specs.Stack.{Stacked}
use Rattle.chain_walk.specs.Walk.{Walked as Shadow, live_in, HandsOver}
use Rattle.global_rebuild.specs.Index.{Indexed, unwalked, walked_on, HoldsAsMuch, IsWalkedOn, HasPaused, FreesOne, none, one}
use Rattle.layer_kinds.specs.declared.faults.UpdateFault.{UpdateFault}
use Rattle.layer_kinds.specs.declared.faults.UpdateFault.TheVariants as faults
use Rattle.layer_kinds.specs.Memory.{Memory, parts_of_level, memory_in, KeepsAll, LosesOne, GoesOn, IsReadied, Each, KeepsMemory}

-- ---- relations of lists, place by place

module _ {A : Type 0} (R : A → A → Type 0) where
  pub Each-same : ((x : A) → R x x) → (xs : List A) → Each R xs xs
  Each-same same [] = tt
  Each-same same (x ∷ xs) = (same x, Each-same same xs)

  pub Each-both : (xs xs' ys ys' : List A) → Each R xs xs' → Each R ys ys' → Each R (xs ++ ys) (xs' ++ ys')
  Each-both [] [] ys ys' h k = k
  Each-both (x ∷ xs) (x' ∷ xs') ys ys' h k = (h.0, Each-both xs xs' ys ys' h.1 k)
  Each-both [] (x' ∷ xs') ys ys' h k = absurd h
  Each-both (x ∷ xs) [] ys ys' h k = absurd h

Each-then : {A : Type 0} (R S T : A → A → Type 0) → ((x y z : A) → R x y → S y z → T x z) → (xs ys zs : List A) → Each R xs ys → Each S ys zs → Each T xs zs
Each-then R S T step [] [] [] h k = tt
Each-then R S T step (x ∷ xs) (y ∷ ys) (z ∷ zs) h k = (step x y z h.0 k.0, Each-then R S T step xs ys zs h.1 k.1)
Each-then R S T step [] (y ∷ ys) zs h k = absurd h
Each-then R S T step (x ∷ xs) [] zs h k = absurd h
Each-then R S T step [] [] (z ∷ zs) h k = absurd k
Each-then R S T step (x ∷ xs) (y ∷ ys) [] h k = absurd k

-- ---- what nothing was done to

LosesOne-same : (m : Memory) → LosesOne m m
LosesOne-same m = (0, λ k. omega arith)

GoesOn-same : (w : Option ℕ) → GoesOn w w
GoesOn-same None = tt
GoesOn-same (Some w) = (omega arith, omega arith)

pub IsReadied-same : (m : Memory) → IsReadied m m
IsReadied-same m = record { parts = LosesOne-same m; rebuild = GoesOn-same m.unwalked }

pub KeepsMemory-same : {T : Type 0} (result : Result T UpdateFault) (ms : List Memory) → KeepsMemory result ms ms
KeepsMemory-same (Ok done) ms = Each-same LosesOne LosesOne-same ms
KeepsMemory-same (Err (faults.Duplicate id)) ms = refl
KeepsMemory-same (Err (faults.Unknown id)) ms = refl
KeepsMemory-same (Err faults.Full) ms = refl
KeepsMemory-same (Err faults.NoMemory) ms = Each-same IsReadied IsReadied-same ms

-- ---- an update: a preparation, and then each part stays

pub loses_one : (old mid new : List Memory) → Each IsReadied old mid → Each KeepsAll mid new → Each LosesOne old new
loses_one old mid new h k =
    Each-then IsReadied KeepsAll LosesOne (λ x y z readied kept. (readied.parts.0, λ level. omega (arith, readied.parts.1 level, kept level))) old mid new h k

-- how many parts of a level a store has
pub parts_in : (k : ℕ) (store : Stored) → get_or (map (λ s. s.kept + s.lent) store.builders) k 0 ≡ held_at k store.builders
parts_in k store = get_or-map (λ s. s.kept + s.lent) store.builders k (record { level = 0; kept = 0; lent = 0 })

module _ {P Item : Type 0} (contents : P → Contents Item) where
  parts_there : (k : ℕ) (i : Indexed P Item) → parts_of_level k (memory_in contents i) ≡ held_at k i.store.builders
  parts_there k i = parts_in k i.store

  -- ---- a preparation

  one_freed : (old new : Indexed P Item) → FreesOne contents old.store new.main new.shadow new.store
      → LosesOne (memory_in contents old) (memory_in contents new)
  one_freed old new freed = elim freed [
    | none kept ↦ (0, λ k. omega (arith, kept.builders k, parts_there k old, parts_there k new))
    | one level freed spare ↦ (level, λ k. omega (arith, freed.builders k, parts_there k old, parts_there k new))
  ]

  goes_by_four : (w : Option ℕ) → GoesOn w (walked_on w)
  goes_by_four None = tt
  goes_by_four (Some w) = by (nat_le w 4) refl
    where
      by : (b : Bool) → nat_le w 4 ≡ b → GoesOn (Some w) (if b then None else Some (w - 4))
      by true few = leb-true w 4 few
      by false many = (omega arith, omega arith)

  walked : (old new : Indexed P Item) → IsWalkedOn contents old new → GoesOn (unwalked contents old) (unwalked contents new)
  walked old new h = subst (GoesOn (unwalked contents old)) (sym h.walked) (goes_by_four (unwalked contents old))

  -- how many items a shadow hasn't come by
  abbrev left_of : Stacked P Item → Option (Shadow P Item) → Option ℕ
  left_of main shadow = option_map (λ r. live_in contents main - live_in contents r.stack) shadow

  left_on : (main : Stacked P Item) (s s' : Option (Shadow P Item)) → (s ≡ None → s' ≡ None)
      → ((r : Shadow P Item) → s ≡ Some r → (r' : Shadow P Item) × (s' ≡ Some r') × HandsOver contents 4 r r') → GoesOn (left_of main s) (left_of main s')
  left_on main None s' stays going = subst (λ o. GoesOn None (left_of main o)) (sym (stays refl)) tt
  left_on main (Some r) s' stays going =
      let h = going r refl in
      subst (λ o. GoesOn (left_of main (Some r)) (left_of main o)) (sym h.1) (omega (arith, h.2.no_fewer), omega (arith, h.2.at_most))

  paused : (old new : Indexed P Item) → HasPaused contents 4 old new → GoesOn (unwalked contents old) (unwalked contents new)
  paused old new p =
      subst (λ m. GoesOn (unwalked contents old) (left_of m new.shadow)) (sym p.main) (left_on old.main old.shadow new.shadow p.none p.going)

  pub readied : {T E : Type 0} (result : Result T E) (old new : Indexed P Item) → IfOk result (λ _. IsWalkedOn contents old new)
      → OnErr result (IsWalkedOn contents old new ⊎ HasPaused contents 4 old new)
      → FreesOne contents old.store new.main new.shadow new.store
      → IsReadied (memory_in contents old) (memory_in contents new)
  readied (Ok done) old new on refused freed = record { parts = one_freed old new freed; rebuild = walked old new on }
  readied (Err e) old new on refused freed = record {
    parts = one_freed old new freed;
    rebuild = ⊎_elim (λ h. walked old new h) (λ h. paused old new h) refused;
  }

  -- ---- a commit

  -- of each level as much is in memory
  pub keeps_all : (old new : Indexed P Item) → HoldsAsMuch old new → KeepsAll (memory_in contents old) (memory_in contents new)
  keeps_all old new h k = omega (arith, h.store.builders k, parts_there k old, parts_there k new)
