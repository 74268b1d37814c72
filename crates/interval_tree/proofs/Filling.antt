-- A structure that is filled, place by place; and how the rows begin.
use Rattle.std.proofs.Common.{◌≡◌, ◌≢◌, ◌⊎◌, inl, inr, ℕ, ◌+◌, ◌-◌, ◌*◌, ◌^◌, ◌<◌, ◌≤◌, Bool, true, false, List, [], ◌∷◌, ◌++◌, length, map, take, replicate, get_or, refl, sym, ap, ap₂, ◌∙◌, arith, Some, slice_get, All}
use Rattle.std.proofs.Math.Nat.{mul-le-mul_left}
use Rattle.std.proofs.lemmas.Bool.{cases_lt}
use Rattle.std.proofs.lemmas.Option.{slice_get_within, get_or_from_slice_get}
use Rattle.std.proofs.lemmas.List.{take_more, length_push, get_or-map, get_or-replicate}
use Rattle.std.proofs.lemmas.List.Elements.{All-head, All-tail}
use Rattle.query_laws.specs.declared.item.Order.{Order}
use Rattle.weak_delete.specs.declared.place.Place.{Place}
use Rattle.weak_delete.specs.Places.{LivePlaces, live_place}
use Rattle.builder_trait.specs.Builders.{Progress, IsUnderway, IsQuota, all_live}
use Rattle.builder_trait.specs.Rebuilding.{flags_reordered}
use Rattle.builder_trait.proofs.Places.{All-placed, length-placed}
use Rattle.map_shapes.specs.declared.segment.Segment.{Segment}
use Rattle.interval_tree.specs.Growing.{IsFilling, all_ends}

-- the next place is put
filled-next : (all places : List Place) (x : Place) → places ≡ take (length places) all → length places < length all
    → get_or all (length places) x ≡ x → places ++ x ∷ [] ≡ take (length (places ++ x ∷ [])) all
filled-next all places x put below next =
    ap (λ l. l ++ x ∷ []) put ∙ ap (λ y. take (length places) all ++ y ∷ []) (sym next) ∙ sym (take_more all (length places) x below)
    ∙ ap (λ n. take n all) (sym (length_push places x))

pub IsFilling-put : {all : List Place} {s : LivePlaces} {value : ℕ} (next : ℕ) (t : LivePlaces) → IsFilling all s → s.sealed ≡ false
    → get_or all (length s.places) (live_place next) ≡ live_place next → t.places ≡ s.places ++ live_place value ∷ [] → value ≡ next
    → (t.sealed ≡ true → length t.places ≡ length all) → (t.sealed ≡ false → length t.places ≢ length all) → IsFilling all t
IsFilling-put {all} {s} next t filling unsealed due put same ended more =
    let x : Place = live_place next in
    let below : length s.places < length all = filling.open_yet unsealed in
    let is : t.places ≡ s.places ++ x ∷ [] = put ∙ ap (λ v. s.places ++ live_place v ∷ []) same in
    let one : length t.places ≡ length s.places + 1 = ap length is ∙ length_push s.places x in
    record {
      within = omega arith;
      put = is ∙ filled-next all s.places x filling.put below due ∙ ap (λ (l : List Place). take (length l) all) (sym is);
      all_put = ended;
      open_yet = λ still. let other = more still in omega arith;
    }

-- the place of the next segment
pub next_end : (segments : List Segment) (s : Segment) (k n : ℕ) → slice_get segments k ≡ Some s → k ≡ n
    → get_or (all_ends segments) n (live_place s.hi) ≡ live_place s.hi
next_end segments s k n at is =
    ap (λ i. get_or (all_ends segments) i (live_place s.hi)) (sym is)
    ∙ get_or-map (λ (t : Segment). live_place t.hi) segments k s (live_place s.hi) (slice_get_within segments k s at)
    ∙ ap (λ (t : Segment). live_place t.hi) (get_or_from_slice_get segments k s s at)

-- all segments are live in the second order too
all_flags : (n : ℕ) (ps : List ℕ) → All (λ p. p < n) ps → map (λ p. get_or (replicate n true) p false) ps ≡ replicate (length ps) true
all_flags n [] below = refl
all_flags n (p ∷ ps) below =
    ap₂ (λ b bs. b ∷ bs) (get_or-replicate n p true false (All-head (λ q. q < n) p ps below)) (all_flags n ps (All-tail (λ q. q < n) p ps below))

pub flags_reordered-live : {before : Order → Segment → Segment → Bool} (b : Progress Segment) → IsUnderway before b
    → length b.reordered ≡ length b.items → flags_reordered (all_live b) ≡ replicate (length b.items) true
flags_reordered-live b valid complete =
    all_flags (length b.items) b.places (All-placed b.items b.reordered b.places valid.placed)
    ∙ ap (λ n. replicate n true) (length-placed b.items b.reordered b.places valid.placed ∙ complete)

-- all that a builder of this level may take
pub IsQuota-begun : (n level left : ℕ) → n ≤ 2 ^ level → left ≤ 6 * n - 1 → IsQuota 4 12 level n (n + left)
IsQuota-begun n level left few most = record { enough = omega arith; bounded = by (cases_lt level 1) }
  where
    by : (level < 1) ⊎ (1 ≤ level) → 2 * (n + left) ≤ 2 ^ level * (4 * level + 12)
    by (inl none) =
        let is : level ≡ 0 = omega arith in
        omega (arith, ap (λ i. 2 ^ i) is, ap (λ i. 2 ^ i * (4 * i + 12)) is)
    by (inr some) =
        let wide : 16 ≤ 4 * level + 12 = omega arith in
        omega (arith, mul-le-mul_left (2 ^ level) wide)
