use Rattle.std.proofs.Common.{◌≡◌, ◌-◌, ◌≤◌, Bool, true, not, List, [], ◌∷◌, take, slice_get, sym, ap, ◌∙◌, subst}
use Rattle.std.specs.Prelude.{IsTrue, MatchOption}
use Rattle.map_model.specs.Found.{insert_by, sorted_by, Found}
use Rattle.map_shapes.specs.Found.{nearer_le}
use Rattle.map_questions.specs.declared.near_k_tally.NearKTally.TheInside.{Inside}
use Rattle.map_questions.specs.FirstFew.{IsFirstFew, first_few_of_both}
use Rattle.map_questions.specs.FirstFewLaws.{sorted_by-take}
use Rattle.map_questions.specs.NearestSoFar.{NearestSoFar}
use Rattle.map_questions.specs.QuestionLaws.{IsTotalOrder-nearer_le}
use Rattle.map_questions.proofs.Offers.{HasRoomFor, HasRoomFor-take, IsFirstFew-insert_by, first_few-worse}
use Rattle.map_questions.proofs.near_k_tally.NearKTally.offer.Goals as goal

abbrev view : Inside → NearestSoFar
view t = record { k = t.k; found = t.found }

abbrev offered : Found → NearestSoFar → NearestSoFar
offered x t = record t { found = first_few_of_both nearer_le t.k t.found (x ∷ []) }

-- what `takes` says of the fields
abbrev Takes : Found → Bool → NearestSoFar → Type 0
Takes x b t = MatchOption (slice_get t.found (t.k - 1)) (IsTrue b) (λ w. b ≡ not (nearer_le w x))

room : (old : Inside) (t : NearestSoFar) (x : Found) (b : Bool) → view old ≡ t → IsFirstFew nearer_le old.k old.found → 1 ≤ old.k
    → Takes x b t → b ≡ true → HasRoomFor nearer_le old.k old.found x (take (old.k - 1) old.found)
room old t x b same few some takes better =
    HasRoomFor-take IsTotalOrder-nearer_le old.k old.found x b few some (subst (Takes x b) (sym same) takes) better

grown : (old : Inside) (t : NearestSoFar) (x : Found) (front new : List Found) → view old ≡ t → front ≡ take (old.k - 1) old.found
    → HasRoomFor nearer_le old.k old.found x (take (old.k - 1) old.found) → new ≡ insert_by nearer_le x front
    → view (record { k = old.k; found = new }) ≡ offered x t
grown old t x front new same is ready grows =
    (λ i. record { k = old.k; found = (grows ∙ ap (insert_by nearer_le x) is ∙ sym ready.joined) i }) ∙ ap (offered x) same

few_kept : (old : Inside) (x : Found) (front new : List Found) → front ≡ take (old.k - 1) old.found
    → HasRoomFor nearer_le old.k old.found x (take (old.k - 1) old.found) → new ≡ insert_by nearer_le x front → IsFirstFew nearer_le old.k new
few_kept old x front new is ready grows =
    subst (IsFirstFew nearer_le old.k) (sym (grows ∙ ap (insert_by nearer_le x) is))
    (IsFirstFew-insert_by IsTotalOrder-nearer_le old.k old.found x (take (old.k - 1) old.found) ready)

-- the front is in order too
pub insert_in_order-requires-clause-sorted : goal.insert_in_order-requires-clause-sorted
insert_in_order-requires-clause-sorted c =
    let old = c.self.inside in
    subst (λ (front : List Found). sorted_by nearer_le front ≡ front) (sym c.truncate.ensures)
    (sorted_by-take IsTotalOrder-nearer_le (old.k - 1) old.found c.self.invariant.2.sorted)

pub invariant_of-self : goal.invariant_of-self
invariant_of-self c =
    let old = c.self.inside in (
      c.self.invariant.0,
      c.self.invariant.1,
      few_kept old c.args.found c.truncate.new.self c.insert_in_order.new.list c.truncate.ensures
          (room old c.args.self.now c.args.found c.takes.result c.self.view_is c.self.invariant.2 c.self.invariant.0 c.takes.ensures c.if-takes.true)
          c.insert_in_order.ensures,
    )

pub returns-then-takes-clause-joined : goal.returns-then-takes-clause-joined
returns-then-takes-clause-joined c =
    let old = c.self.inside in
    grown old c.args.self.now c.args.found c.truncate.new.self c.insert_in_order.new.list c.self.view_is c.truncate.ensures
    (room old c.args.self.now c.args.found c.takes.result c.self.view_is c.self.invariant.2 c.self.invariant.0 c.takes.ensures c.if-takes.true)
    c.insert_in_order.ensures

pub returns-then-takes-clause-first_few : goal.returns-then-takes-clause-first_few
returns-then-takes-clause-first_few c =
    let old = c.self.inside in
    few_kept old c.args.found c.truncate.new.self c.insert_in_order.new.list c.truncate.ensures
    (room old c.args.self.now c.args.found c.takes.result c.self.view_is c.self.invariant.2 c.self.invariant.0 c.takes.ensures c.if-takes.true)
    c.insert_in_order.ensures

pub returns-else-takes-clause-joined : goal.returns-else-takes-clause-joined
returns-else-takes-clause-joined c =
    let old = c.self.inside in
    sym c.self.view_is
    ∙ (λ i. record {
      k = old.k;
      found = sym (first_few-worse IsTotalOrder-nearer_le old.k old.found c.args.found c.takes.result c.self.invariant.2
          c.self.invariant.0 (subst (Takes c.args.found c.takes.result) (sym c.self.view_is) c.takes.ensures) c.if-takes.false) i;
    })
    ∙ ap (offered c.args.found) c.self.view_is
