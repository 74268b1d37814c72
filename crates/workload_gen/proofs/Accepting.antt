-- The machine accepts each command of a made script.
use Rattle.std.proofs.Common.{◌≡◌, ◌≢◌, ◌∙◌, ◌==◌, ◌+◌, ◌-◌, ◌%◌, ◌<◌, ◌≤◌, ◌&&◌, ◌||◌, ◌++◌, nat_le, zero, suc, inl, inr, not, ap, sym, subst, refl, ℕ, Bool, true, false, List, [], ◌∷◌, length, length-append, if◌then◌else◌, arith}
use Rattle.std.proofs.lemmas.Bool.{cases_eq, cases_lt}
use Rattle.std.proofs.lemmas.Bool.Decides.{nat_tests}
use Rattle.std.proofs.lemmas.Grind.{common_steps}
use Rattle.std.proofs.lemmas.List.Filters.{length-filter_both}
use Rattle.std.proofs.lemmas.List.Folds.{list_any-append}
use Rattle.std.proofs.lemmas.Map.Views.{any-filter_same}
use Rattle.map_model.specs.Shape as shapes
use Rattle.map_model.specs.Machine.{Outcome, replied, refused, step}
use Rattle.map_model.specs.Refusal.{Duplicate, Full, Unknown}
use Rattle.map_model.specs.Reply.{Updated, is_refusal}
use Rattle.map_model.specs.State.{Item, Layer, State, empty_map_of, is_live, with_item, without_item, no_waits}
use Rattle.map_model.specs.Version.{One}
use Rattle.workload_gen.specs.Accepted.{AreAccepted}
use Rattle.workload_gen.specs.Made.{Between, Round, drawn, drawn_twice, drawn_point, drawn_thrice, made, has_live, add_round, drop_first, drop_last, count_round, near_round, top_round, upper_half, round, round_by, rounds_from, before_all, made_script}

-- the map of a made script after so many adds, with these items, where a layer may have so many
abbrev made_map : ℕ → ℕ → List Item → State
made_map most inserted items = record (empty_map_of most) {
  layers = record {
    name = made;
    kind = shapes.Points;
    indexes = record { range = true; near = true; top = true; stab = false; cross = false; batch = false };
    waits = no_waits;
    inserted = inserted;
    items = items;
  } ∷ [];
}

-- Between two rounds: the items are those of the live identifiers, and the layer has room for so many more.
record HasItems (most : ℕ) (b : Between) (items : List Item) (rounds : ℕ) : Type 0 where
  live : (id : ℕ) → b.first ≤ id → id < b.next → is_live id items ≡ true
  fresh : (id : ℕ) → b.next ≤ id → is_live id items ≡ false
  ordered : b.first ≤ b.next
  room : length items + rounds ≤ most

-- ---- one more item, and one less

or_true : (a b : Bool) → a ≡ true → (a || b) ≡ true
or_true a b is = ap (λ x. x || b) is

or_first : (a b : Bool) → b ≡ true → (a || b) ≡ true
or_first true b is = refl
or_first false b is = is

live_with : (id : ℕ) (items : List Item) (item : Item) → is_live id (with_item item items) ≡ (is_live id items || ((item.id == id) || false))
live_with id items item = list_any-append (λ (i : Item). i.id == id) items (item ∷ [])

is_itself : (a b : ℕ) → a ≡ b → (a == b) ≡ true
is_itself a b same = grind (arith, nat_tests, same)

is_other : (a b : ℕ) → a ≢ b → (a == b) ≡ false
is_other a b other = elim (cases_lt a b) [
  | inl less ↦ grind (arith, nat_tests, less)
  | inr more ↦ grind (arith, nat_tests, more, other)
]

-- another identifier is as live as before
live_without : (gone id : ℕ) (items : List Item) → gone ≢ id → is_live id (without_item gone items) ≡ is_live id items
live_without gone id items other =
    any-filter_same (λ (i : Item). i.id == id) (λ (i : Item). not (i.id == gone)) true
    (λ i is. ap not (is_other i.id gone (λ same. other (sym same ∙ grind (arith, nat_tests, is))))) items

-- the one that is gone isn't live
dead_without : (gone : ℕ) (items : List Item) → is_live gone (without_item gone items) ≡ false
dead_without gone items =
    any-filter_same (λ (i : Item). i.id == gone) (λ (i : Item). not (i.id == gone)) false (λ i is. ap not is) items

fewer : (gone : ℕ) (items : List Item) → length (without_item gone items) ≤ length items
fewer gone items =
    let parts = length-filter_both (λ (i : Item). not (i.id == gone)) (λ (i : Item). not (not (i.id == gone))) (λ i. refl) items in
    omega (arith, parts)

both_true : (a b : Bool) → (a && b) ≡ true → b ≡ true
both_true true b is = is
both_true false b is = absurd cc

-- where an identifier is live, the first is below the next
has_some : (b : Between) → b.first ≤ b.next → has_live b ≡ true → b.first < b.next
has_some b ordered some = elim (cases_eq b.first b.next) [
  | inl same ↦ let clash : true ≡ false = sym some ∙ ap not (is_itself b.first b.next same) in absurd cc
  | inr other ↦ omega (arith, ordered, other)
]

-- ---- one round

-- a round is accepted, and what it leaves has its items
record IsAccepted (most inserted : ℕ) (items : List Item) (rounds : ℕ) (r : Round) : Type 0 where
  accepted : is_refusal (step (made_map most inserted items) r.command).reply ≡ false
  by_then : ℕ
  left : List Item
  leaves : (step (made_map most inserted items) r.command).state ≡ made_map most by_then left
  stands : HasItems most r.after left rounds

updates : (most inserted by_then : ℕ) (items left : List Item) (rounds : ℕ) (r : Round) → step (made_map most inserted items) r.command ≡ replied (made_map most by_then left) Updated → HasItems most r.after left rounds → IsAccepted most inserted items rounds r
updates most inserted by_then items left rounds r is stands = record {
  accepted = ap (λ (o : Outcome). is_refusal o.reply) is;
  by_then = by_then;
  left = left;
  leaves = ap (λ (o : Outcome). o.state) is;
  stands = stands;
}

neither : (a b : Bool) (x y z : Outcome) → a ≡ false → b ≡ false → (if a then x else (if b then y else z)) ≡ z
neither a b x y z first second = rw (first, second) refl

first_of : (a : Bool) (x y : Outcome) → a ≡ true → (if a then x else y) ≡ x
first_of a x y holds = rw holds refl

adds : (most inserted : ℕ) (b : Between) (items : List Item) (rounds : ℕ) → HasItems most b items (suc rounds) → IsAccepted most inserted items rounds (add_round b)
adds most inserted b items rounds h =
    let item : Item = record { id = b.next; shape = drawn_point b } in
    let left = with_item item items in
    let few : nat_le most (length items) ≡ false = grind (arith, nat_tests, h.room) in
    updates most inserted (inserted + 1) items left rounds (add_round b)
    (neither (is_live b.next items) (nat_le most (length items)) (refused (made_map most inserted items) (Duplicate b.next)) (refused (made_map most inserted items) Full) (replied (made_map most (inserted + 1) left) Updated) (h.fresh b.next (omega arith)) few)
    (record {
      live = λ id from below. live_with id items item ∙ elim (cases_lt id b.next) [
        | inl before ↦ or_true (is_live id items) ((b.next == id) || false) (h.live id from before)
        | inr last ↦ or_first (is_live id items) ((b.next == id) || false) (or_true (b.next == id) false (is_itself b.next id (omega (arith, last, below))))
      ];
      fresh = λ id from. live_with id items item ∙ rw (h.fresh id (omega (arith, from)), is_other b.next id (λ same. absurd (omega (arith, from, same)))) refl;
      ordered = omega (arith, h.ordered);
      room = omega (arith, h.room, length-append items (item ∷ []));
    })

drops_first : (most inserted : ℕ) (b : Between) (items : List Item) (rounds : ℕ) → HasItems most b items (suc rounds) → has_live b ≡ true → IsAccepted most inserted items rounds (drop_first b)
drops_first most inserted b items rounds h some =
    let below : b.first < b.next = has_some b h.ordered some in
    let left = without_item b.first items in
    updates most inserted inserted items left rounds (drop_first b)
    (first_of (is_live b.first items) (replied (made_map most inserted left) Updated) (refused (made_map most inserted items) (Unknown b.first)) (h.live b.first (omega arith) below))
    (record {
      live = λ id from below'. live_without b.first id items (λ same. absurd (omega (arith, from, same))) ∙ h.live id (omega (arith, from)) below';
      fresh = λ id from. live_without b.first id items (λ same. absurd (omega (arith, from, same, below))) ∙ h.fresh id from;
      ordered = omega (arith, below);
      room = omega (arith, h.room, fewer b.first items);
    })

drops_last : (most inserted : ℕ) (b : Between) (items : List Item) (rounds : ℕ) → HasItems most b items (suc rounds) → has_live b ≡ true → IsAccepted most inserted items rounds (drop_last b)
drops_last most inserted b items rounds h some =
    let below : b.first < b.next = has_some b h.ordered some in
    let gone = b.next - 1 in
    let left = without_item gone items in
    updates most inserted inserted items left rounds (drop_last b)
    (first_of (is_live gone items) (replied (made_map most inserted left) Updated) (refused (made_map most inserted items) (Unknown gone)) (h.live gone (omega (arith, below)) (omega (arith, below))))
    (record {
      live = λ id from below'. live_without gone id items (λ same. absurd (omega (arith, below, below', same))) ∙ h.live id from (omega (arith, below'));
      fresh = λ id from. elim (cases_eq gone id) [
        | inl same ↦ subst (λ (n : ℕ). is_live n left ≡ false) same (dead_without gone items)
        | inr other ↦ live_without gone id items other ∙ h.fresh id (omega (arith, from, other, below))
      ];
      ordered = omega (arith, below);
      room = omega (arith, h.room, fewer gone items);
    })

-- what doesn't update
asks : (most inserted : ℕ) (items : List Item) (rounds : ℕ) (b after : Between) (r : Round) → HasItems most b items (suc rounds) → r.after ≡ after → after.first ≡ b.first → after.next ≡ b.next
    → is_refusal (step (made_map most inserted items) r.command).reply ≡ false → (step (made_map most inserted items) r.command).state ≡ made_map most inserted items → IsAccepted most inserted items rounds r
asks most inserted items rounds b after r h is first next accepted leaves = record {
  accepted = accepted;
  by_then = inserted;
  left = items;
  leaves = leaves;
  stands = subst (λ (x : Between). HasItems most x items rounds) (sym is) (record {
    live = λ id from below. h.live id (omega (arith, from, first)) (omega (arith, below, next));
    fresh = λ id from. h.fresh id (omega (arith, from, next));
    ordered = omega (arith, h.ordered, first, next);
    room = omega (arith, h.room);
  });
}

either : (P : Round → Type 0) (b : Bool) (x y : Round) → (b ≡ true → P x) → P y → P (if b then x else y)
either P true x y h k = h refl
either P false x y h k = k

by_number : (most inserted number : ℕ) (b : Between) (items : List Item) (rounds : ℕ) → HasItems most b items (suc rounds) → IsAccepted most inserted items rounds (round_by number b)
by_number most inserted number b items rounds h =
    let P = IsAccepted most inserted items rounds in
    either P (number == 7) (count_round b) _ (λ is. asks most inserted items rounds b (drawn_twice b) (count_round b) h refl refl refl refl refl)
    (either P (number == 8) (near_round b) _ (λ is. asks most inserted items rounds b (drawn_twice b) (near_round b) h refl refl refl refl refl)
    (either P (number == 9) (top_round b) _ (λ is. asks most inserted items rounds b (drawn b) (top_round b) h refl refl refl refl refl)
    (either P ((number == 5) && has_live b) (drop_first b) _ (λ is. drops_first most inserted b items rounds h (both_true (number == 5) (has_live b) is))
    (either P ((number == 6) && has_live b) (drop_last b) _ (λ is. drops_last most inserted b items rounds h (both_true (number == 6) (has_live b) is)) (adds most inserted b items rounds h)))))

-- ---- all rounds

rounds_accepted : (most inserted rounds : ℕ) (b : Between) (items : List Item) → HasItems most b items rounds → AreAccepted (made_map most inserted items) (rounds_from rounds b)
rounds_accepted most inserted zero b items h = tt
rounds_accepted most inserted (suc rounds) b items h =
    let drew : HasItems most (drawn b) items (suc rounds) = record { live = h.live; fresh = h.fresh; ordered = h.ordered; room = h.room } in
    let r = by_number most inserted (upper_half (drawn b).state % 10) (drawn b) items rounds drew in (
      r.accepted,
      subst (λ (state : State). AreAccepted state (rounds_from rounds (round b).after)) (sym r.leaves) (rounds_accepted most r.by_then rounds (round b).after r.left r.stands),
    )

pub script_accepted : (most seed size : ℕ) → size ≤ most → AreAccepted (empty_map_of most) (made_script seed size)
script_accepted most seed size few = (
  refl,
  rounds_accepted most 0 size (before_all seed) [] (record {
    live = λ id from below. absurd (omega (arith, from, below));
    fresh = λ id from. refl;
    ordered = omega arith;
    room = omega (arith, few);
  }),
)
