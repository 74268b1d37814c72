-- Layers by their names.
use Rattle.std.proofs.Common.{◌≡◌, ℕ, zero, suc, ◌+◌, ◌<◌, ◌≤◌, ◌∙◌, Bool, true, false, if◌then◌else◌, List, [], ◌∷◌, ◌++◌, Option, Some, None, length, map, bytes_eq, get_or, set, refl, sym, ap, subst, arith}
use Rattle.std.specs.List.{list_any, position_from, refill, All}
use Rattle.std.specs.Option.{is_some, option_map}
use Rattle.std.proofs.lemmas.Grind.{common_steps}
use Rattle.std.proofs.lemmas.List.{length-set, length-map, get_or-map}
use Rattle.std.proofs.Math.Seq.{map-set_same}
use Rattle.std.proofs.lemmas.List.Folds.{list_any-append}
use Rattle.std.proofs.lemmas.List.Sums.{sum_by-set}
use Rattle.std.proofs.lemmas.Slice.Eq.{bytes_eq-Decides}
use Rattle.log_levels.proofs.Held.{written}
use Rattle.map_model.specs.State.{Layer, State, layer_named}
use Rattle.map_model.specs.Version.{Version}
use Rattle.layer_kinds.specs.Memory.{Memory}
use Rattle.map_layers.specs.Memory.{KeptWhere, KeptIn}
use Rattle.map_layers.specs.Layer.{LayerState, name_in, limit_in, adds_in, layer_of}
use Rattle.map_layers.specs.Layers.{has_name, named, place_named, names_of, limits_of, adds_of, map_with, AllDiffer}
use Rattle.map_layers.proofs.Answering.{IsRenewed}

-- a map of these layers
abbrev pub state_of : Version → ℕ → List Layer → State
state_of version most layers = record { version = version; most_items = most; layers = layers }

pub state_of-same : {v w : Version} {m n : ℕ} {ls ks : List Layer} → v ≡ w → m ≡ n → ls ≡ ks → state_of v m ls ≡ state_of w n ks
state_of-same same_version same_most same_layers = λ i. record { version = same_version i; most_items = same_most i; layers = same_layers i }

-- the layers with a change of that of a name
abbrev with_change : List ℕ → (Layer → Layer) → List Layer → List Layer
with_change name change layers = map (λ layer. if bytes_eq layer.name name then change layer else layer) layers

-- the layer of a name is that of the definitions
layer_named-named : (name : List ℕ) (ls : List LayerState) → layer_named name (map layer_of ls) ≡ option_map layer_of (named name ls)
layer_named-named name [] = refl
layer_named-named name (l ∷ ls) = grind (arith, common_steps, layer_named-named name ls)

pub layer_named-Some : (name : List ℕ) (ls : List LayerState) {l : LayerState} → named name ls ≡ Some l → layer_named name (map layer_of ls) ≡ Some (layer_of l)
layer_named-Some name ls found = layer_named-named name ls ∙ ap (option_map layer_of) found

pub layer_named-None : (name : List ℕ) (ls : List LayerState) → named name ls ≡ None → layer_named name (map layer_of ls) ≡ None
layer_named-None name ls none = layer_named-named name ls ∙ ap (option_map layer_of) none

pub is_some-seen : {A B : Type 0} (f : A → B) (o : Option A) {b : Bool} → is_some o ≡ b → is_some (option_map f o) ≡ b
is_some-seen f None is = is
is_some-seen f (Some a) is = is

pub named-none : (name : List ℕ) (i : ℕ) (ls : List LayerState) → position_from (has_name name) i ls ≡ None → named name ls ≡ None
named-none name i [] none = refl
named-none name i (l ∷ ls) none = grind (arith, common_steps, named-none name (i + 1) ls)

pub is_among-named : (name : List ℕ) (ls : List LayerState) → is_some (named name ls) ≡ list_any (λ other. bytes_eq other name) (names_of ls)
is_among-named name [] = refl
is_among-named name (l ∷ ls) = grind (arith, common_steps, is_among-named name ls)

-- no layer of the name is there
unnamed : (name : List ℕ) (f : Layer → Layer) (ls : List LayerState) → named name ls ≡ None → with_change name f (map layer_of ls) ≡ map layer_of ls
unnamed name f [] none = refl
unnamed name f (l ∷ ls) none = grind (arith, common_steps, unnamed name f ls)

-- a name of its own after the others
swapped : (a b : List ℕ) → bytes_eq a b ≡ false → bytes_eq b a ≡ false
swapped a b other = grind (arith, bytes_eq-Decides a b, bytes_eq-Decides b a)

pub AllDiffer-push : (names : List (List ℕ)) (name : List ℕ) → AllDiffer names → list_any (λ other. bytes_eq other name) names ≡ false → AllDiffer (names ++ name ∷ [])
AllDiffer-push [] name differ new = (refl, tt)
AllDiffer-push (n ∷ ns) name differ new =
    let other : bytes_eq n name ≡ false = grind (arith, common_steps) in
    let rest : list_any (λ other. bytes_eq other name) ns ≡ false = grind (arith, common_steps) in
    let more : list_any (λ other. bytes_eq other n) (ns ++ name ∷ []) ≡ false =
    list_any-append (λ other. bytes_eq other n) ns (name ∷ []) ∙ grind (arith, common_steps, differ.0, swapped n name other) in
    (more, AllDiffer-push ns name differ.1 rest)

pub is_taken-named : (name : List ℕ) (ls : List LayerState) → is_some (layer_named name (map layer_of ls)) ≡ is_some (named name ls)
is_taken-named name ls = ap is_some (layer_named-named name ls) ∙ is_some-seen layer_of (named name ls) refl

-- a slice of all layers was written
refilled : (items written_to : List LayerState) (k : ℕ) (l' : LayerState) → written_to ≡ items → refill (length items) items (set written_to k l') ≡ set written_to k l'
refilled items written_to k l' same = written (length items) items (set written_to k l') refl (length-set written_to k l' ∙ ap length same)

-- ---- a layer in place of another one of the same name

-- the search doesn't come to a place before that where it begins
place_from : (name : List ℕ) (i k : ℕ) (ls : List LayerState) → position_from (has_name name) i ls ≡ Some k → i ≤ k
place_from name i k [] found = absurd cc
place_from name i k (l ∷ ls) found = grind (arith, common_steps, place_from name (i + 1) k ls)

named-place : (name : List ℕ) (i k : ℕ) (ls : List LayerState) (d : LayerState) → position_from (has_name name) i ls ≡ Some (i + k) → named name ls ≡ Some (get_or ls k d)
named-place name i k [] d found = absurd cc
named-place name i zero (l ∷ ls) d found = grind (arith, common_steps, place_from name (i + 1) i ls)
named-place name i (suc k) (l ∷ ls) d found = grind (arith, common_steps, named-place name (i + 1) k ls d)

-- the names after a layer are others than its own
none-after : (name : List ℕ) (l : LayerState) (ls : List LayerState) → AllDiffer (names_of (l ∷ ls)) → bytes_eq (name_in l) name ≡ true → named name ls ≡ None
none-after name l ls differ has =
    let same : name_in l ≡ name = grind (arith, bytes_eq-Decides (name_in l) name) in
    let none : is_some (named (name_in l) ls) ≡ false = is_among-named (name_in l) ls ∙ differ.0 in
    subst (λ n. named n ls ≡ None) same (grind (arith, common_steps))

module _ (name : List ℕ) (change : Layer → Layer) (d l' : LayerState) where
  renewed : (i k : ℕ) (ls : List LayerState) → position_from (has_name name) i ls ≡ Some (i + k) → AllDiffer (names_of ls)
      → layer_of l' ≡ change (layer_of (get_or ls k d)) → map layer_of (set ls k l') ≡ with_change name change (map layer_of ls)
  renewed i k [] found differ is = absurd cc
  renewed i zero (l ∷ ls) found differ is =
      let has : bytes_eq (name_in l) name ≡ true = grind (arith, common_steps, place_from name (i + 1) i ls) in
      let after = unnamed name change ls (none-after name l ls differ has) in
      grind (arith, common_steps)
  renewed i (suc k) (l ∷ ls) found differ is =
      let other : bytes_eq (name_in l) name ≡ false = grind (arith, common_steps) in
      let after = renewed (i + 1) k ls (grind (arith, common_steps)) differ.1 is in
      grind (arith, common_steps)

-- how many items a layer may have, where all may have as many
limit-of : (most k : ℕ) (ls : List LayerState) (d : LayerState) → All (λ n. n ≡ most) (limits_of ls) → k < length ls → limit_in (get_or ls k d) ≡ most
limit-of most k ls d limits within =
    sym (get_or-map limit_in ls k d most within) ∙ limits k most (subst (λ n. k < n) (sym (length-map ls limit_in)) within)

-- what memory the layers keep

module _ (name : List ℕ) (R : (old new : List Memory) → Type 0) where
  -- the layer of a name isn't there
  pub KeptIn-none : (ls : List LayerState) → named name ls ≡ None → KeptIn R name ls ls
  KeptIn-none [] none = tt
  KeptIn-none (l ∷ ls) none =
      let other : has_name name l ≡ false = grind (arith, common_steps) in
      (subst (λ b. KeptWhere R b l.memory l.memory) (sym other) refl, KeptIn-none ls (grind (arith, common_steps)))

  KeptIn-set : (d l' : LayerState) (i k : ℕ) (ls : List LayerState) → position_from (has_name name) i ls ≡ Some (i + k) → AllDiffer (names_of ls)
      → R (get_or ls k d).memory l'.memory → KeptIn R name ls (set ls k l')
  KeptIn-set d l' i k [] found differ kept = absurd cc
  KeptIn-set d l' i zero (l ∷ ls) found differ kept =
      let has : has_name name l ≡ true = grind (arith, common_steps, place_from name (i + 1) i ls) in
      (subst (λ b. KeptWhere R b l.memory l'.memory) (sym has) kept, KeptIn-none ls (none-after name l ls differ has))
  KeptIn-set d l' i (suc k) (l ∷ ls) found differ kept =
      let other : has_name name l ≡ false = grind (arith, common_steps) in
      (subst (λ b. KeptWhere R b l.memory l.memory) (sym other) refl, KeptIn-set d l' (i + 1) k ls (grind (arith, common_steps)) differ.1 kept)

module _ (name : List ℕ) (k : ℕ) (items ls : List LayerState) (d l' : LayerState) (written_to : ls ≡ items) (found : place_named name ls ≡ Some k) (within : k < length ls)
    (differ : AllDiffer (names_of items)) (same_name : name_in l' ≡ name_in (get_or ls k d)) where
  abbrev l : LayerState
  l = get_or ls k d

  abbrev ls' : List LayerState
  ls' = refill (length items) items (set ls k l')

  is_set : ls' ≡ set ls k l'
  is_set = refilled items ls k l' written_to

  place : position_from (has_name name) 0 ls ≡ Some (0 + k)
  place = found ∙ ap Some (omega arith)

  differ_before : AllDiffer (names_of ls)
  differ_before = subst (λ xs. AllDiffer (names_of xs)) (sym written_to) differ

  -- the names are the same
  pub AllDiffer-at : AllDiffer (names_of ls')
  AllDiffer-at = subst AllDiffer (sym (ap names_of is_set ∙ map-set_same name_in ls k l' d same_name ∙ ap names_of written_to)) differ

  -- each may have as many items as before
  pub limits-at : limit_in l' ≡ limit_in l → limits_of ls' ≡ limits_of items
  limits-at same_limit = ap limits_of is_set ∙ map-set_same limit_in ls k l' d same_limit ∙ ap limits_of written_to

  -- it may have as many as all
  pub limit-at : (most : ℕ) → All (λ n. n ≡ most) (limits_of items) → limit_in l ≡ most
  limit-at most limits = limit-of most k ls d (subst (λ xs. All (λ n. n ≡ most) (limits_of xs)) (sym written_to) limits) within

  -- as many adds more as it has
  pub adds-at : adds_of ls' + adds_in l ≡ adds_of items + adds_in l'
  adds-at = ap (λ xs. adds_of xs + adds_in l) is_set ∙ sum_by-set adds_in ls k l' d within ∙ ap (λ xs. adds_of xs + adds_in l') written_to

  pub found-at : layer_named name (map layer_of items) ≡ Some (layer_of l)
  found-at = layer_named-Some name items (subst (λ xs. named name xs ≡ Some l) written_to (named-place name 0 k ls d place))

  pub IsRenewed-at : (version : Version) (most : ℕ) → IsRenewed name (map_with version most items) (map_with version most ls') (layer_of l) (layer_of l')
  IsRenewed-at version most = record {
    found = found-at;
    same = λ same.
        ap (state_of version most) (ap (map layer_of) is_set ∙ map-set_same layer_of ls k l' d same ∙ ap (map layer_of) written_to);
    changed = λ change is.
        ap (state_of version most)
        (ap (map layer_of) is_set ∙ renewed name change d l' 0 k ls place differ_before is ∙ ap (λ xs. with_change name change (map layer_of xs)) written_to);
  }

  pub KeptIn-at : (R : (old new : List Memory) → Type 0) → R l.memory l'.memory → KeptIn R name items ls'
  KeptIn-at R kept =
      subst (λ xs. KeptIn R name items xs) (sym is_set)
      (subst (λ xs. KeptIn R name xs (set ls k l')) written_to (KeptIn-set name R d l' 0 k ls place differ_before kept))
