use Rattle.std.proofs.Common.{◌≡◌, ℕ, ◌+◌, ◌*◌, ◌^◌, ◌<◌, ◌≤◌, ◌∙◌, Option, Some, None, IfSome, List, ◌∷◌, ◌++◌, length, All, refl, sym, ap, subst, arith}
use Rattle.std.specs.List.{flat_map}
use Rattle.std.specs.Option.{option_map}
use Rattle.std.proofs.lemmas.List.Elements.{All-head, All-tail}
use Rattle.query_laws.specs.Orders.{AllStampsDiffer}
use Rattle.query_laws.specs.StepLedger.{Counts, Spends}
use Rattle.builder_trait.specs.Parts.{Contents, OwnsStamp, marked}
use Rattle.log_levels.specs.Slots.{asked_in}
use Rattle.log_levels.specs.Marking.{Lacks, AreMarkedAt, nowhere, here, later}
use Rattle.log_levels.proofs.Distinct.{AllStampsDiffer-back}
use Rattle.log_levels.proofs.Marks.{All-first, All-second, others_lack, lives, parts_asked-here, parts_asked-later, Spends-here, Spends-both}
use Rattle.log_levels.proofs.Publishing.{none_of}
use Rattle.log_levels.proofs.level.+mark_parts.Goals as goal

module _ {P Item : Type 0} (contents : P → Contents Item) (stamp : Item → ℕ) (x : Item) {parts : List P} (part part' : P) (rest : List P)
    (split : parts ≡ part ∷ rest) (lacks : Lacks stamp (stamp x) (contents part)) where
  -- the item isn't live in the first part: where it is marked, and what that costs
  marked-later : {place place' : Option ℕ} {rest' : List P} → contents part' ≡ marked stamp (stamp x) (contents part) → place ≡ place'
      → AreMarkedAt contents stamp x place rest rest' → AreMarkedAt contents stamp x (option_map (λ k. k + 1) place') parts (part' ∷ rest')
  marked-later {place} {place'} {rest'} same is others =
      subst (λ ps. AreMarkedAt contents stamp x (option_map (λ k. k + 1) place') ps (part' ∷ rest')) (sym split)
      (later place' part part' rest rest' lacks same (subst (λ o. AreMarkedAt contents stamp x o rest rest') is others))

  cost-later : {old mid new : Counts} (touches : ℕ → ℕ) → ((h : ℕ) → length (contents part).items ≤ 2 ^ h → Spends old mid 0 1 (touches h))
      → ((h : ℕ) → All (λ q. length (contents q).items ≤ 2 ^ h) rest
      → Spends mid new 0 (asked_in contents stamp (stamp x) rest) (asked_in contents stamp (stamp x) rest * touches h))
      → (h : ℕ) → All (λ q. length (contents q).items ≤ 2 ^ h) parts
      → Spends old new 0 (asked_in contents stamp (stamp x) parts) (asked_in contents stamp (stamp x) parts * touches h)
  cost-later touches first others h fits =
      let each = subst (All (λ q. length (contents q).items ≤ 2 ^ h)) split fits in
      Spends-both (touches h) 1 (asked_in contents stamp (stamp x) rest) (asked_in contents stamp (stamp x) parts)
      (Spends-here 1 (first h (All-head (λ q. length (contents q).items ≤ 2 ^ h) part rest each)) refl)
      (others h (All-tail (λ q. length (contents q).items ≤ 2 ^ h) part rest each))
      (ap (asked_in contents stamp (stamp x)) split ∙ parts_asked-later contents stamp x part rest lacks)

pub mark-requires : goal.mark-requires
mark-requires g p c =
    let f : g.row.B-Part.Denot → List g.row.B-Item.Denot = λ q. (g.B.Part.Part.contents q).items in
    let x = c.args.item.now in
    All-first (λ y. g.B.Item.Item.stamp y ≡ g.B.Item.Item.stamp x → y ≡ x) (f c.in-Some.part.now) (flat_map f c.in-Some.rest.now)
    (subst (λ ps. OwnsStamp g.B.Item.Item.stamp x (flat_map f ps)) c.in-Some.ensures.cases.0 c.requires.owner)

pub returns-then-mark-clause-marked : goal.returns-then-mark-clause-marked
returns-then-mark-clause-marked g p c =
    let contents = g.B.Part.Part.contents in
    let stamp = g.B.Item.Item.stamp in
    let f : g.row.B-Part.Denot → List g.row.B-Item.Denot = λ q. (contents q).items in
    let x = c.args.item.now in
    let part = c.in-Some.part.now in
    let rest = c.in-Some.rest.now in
    let split = c.in-Some.ensures.cases.0 in
    let owner = All-first (λ y. stamp y ≡ stamp x → y ≡ x) (f part) (flat_map f rest) (subst (λ ps. OwnsStamp stamp x (flat_map f ps)) split c.requires.owner) in
    let apart : AllStampsDiffer stamp (f part ++ flat_map f rest) = subst (λ ps. AllStampsDiffer stamp (flat_map f ps)) split c.requires.apart in
    let live = lives contents stamp x part owner (sym c.mark.ensures.found ∙ c.if-mark.true) in
    subst (λ ps. AreMarkedAt contents stamp x (Some 0) ps (c.mark.new.self ∷ rest)) (sym split)
    (here part c.mark.new.self rest live c.mark.ensures.marked (others_lack contents stamp x part rest apart live))

pub returns-then-mark-clause-cost : goal.returns-then-mark-clause-cost
returns-then-mark-clause-cost g p c h fits =
    let contents = g.B.Part.Part.contents in
    let stamp = g.B.Item.Item.stamp in
    let x = c.args.item.now in
    let part = c.in-Some.part.now in
    let rest = c.in-Some.rest.now in
    let split = c.in-Some.ensures.cases.0 in
    Spends-here (asked_in contents stamp (stamp x) c.args.parts.now)
    (c.mark.ensures.cost h (All-head (λ q. length (contents q).items ≤ 2 ^ h) part rest (subst (All (λ q. length (contents q).items ≤ 2 ^ h)) split fits)))
    (ap (asked_in contents stamp (stamp x)) split
    ∙ parts_asked-here contents stamp x part rest (sym c.mark.ensures.found ∙ c.if-mark.true))

pub mark_parts-requires : goal.mark_parts-requires
mark_parts-requires g p c κs lives =
    let stamp = g.B.Item.Item.stamp in
    let f : g.row.B-Part.Denot → List g.row.B-Item.Denot = λ q. (g.B.Part.Part.contents q).items in
    let x = c.args.item.now in
    let part = c.in-Some.part.now in
    let rest = c.in-Some.rest.now in
    let split = c.in-Some.ensures.cases in
    let apart = AllStampsDiffer-back stamp (f part) (flat_map f rest) (subst (λ ps. AllStampsDiffer stamp (flat_map f ps)) split.0 c.requires.apart) in
    let owner = All-second (λ y. stamp y ≡ stamp x → y ≡ x) (f part) (flat_map f rest)
    (subst (λ ps. OwnsStamp stamp x (flat_map f ps)) split.0 c.requires.owner) in (
      omega (arith, c.decreases, split.1),
      (lives.0, (lives.1.0, (lives.1.1.0, (lives.1.1.1, (omega (arith, c.requires.few, split.1), (apart, owner)))))),
    )

pub overflow_add-result : goal.overflow_add-result
overflow_add-result g p c =
    let inside : c.in-Some-mark_parts.place < length c.in-Some.rest.now =
    subst (λ o. IfSome o (λ k. k < length c.in-Some.rest.now)) c.in-Some-mark_parts.is c.mark_parts.ensures.within in
    omega (arith, inside, c.requires.few, c.in-Some.ensures.cases.1)

pub returns-in-Some-mark_parts-clause-marked : goal.returns-in-Some-mark_parts-clause-marked
returns-in-Some-mark_parts-clause-marked g p c =
    marked-later g.B.Part.Part.contents g.B.Item.Item.stamp c.args.item.now c.in-Some.part.now c.mark.new.self c.in-Some.rest.now c.in-Some.ensures.cases.0
    (sym c.mark.ensures.found ∙ c.if-mark.false)
    c.mark.ensures.marked c.in-Some-mark_parts.is c.mark_parts.ensures.marked

pub returns-in-Some-mark_parts-clause-cost : goal.returns-in-Some-mark_parts-clause-cost
returns-in-Some-mark_parts-clause-cost g p c =
    cost-later g.B.Part.Part.contents g.B.Item.Item.stamp c.args.item.now c.in-Some.part.now c.mark.new.self c.in-Some.rest.now c.in-Some.ensures.cases.0
    (sym c.mark.ensures.found ∙ c.if-mark.false)
    g.B.Part.Part.mark_touches c.mark.ensures.cost c.mark_parts.ensures.cost

pub returns-in-None-mark_parts-clause-marked : goal.returns-in-None-mark_parts-clause-marked
returns-in-None-mark_parts-clause-marked g p c =
    marked-later g.B.Part.Part.contents g.B.Item.Item.stamp c.args.item.now c.in-Some.part.now c.mark.new.self c.in-Some.rest.now c.in-Some.ensures.cases.0
    (sym c.mark.ensures.found ∙ c.if-mark.false)
    c.mark.ensures.marked c.in-None-mark_parts.is c.mark_parts.ensures.marked

pub returns-in-None-mark_parts-clause-cost : goal.returns-in-None-mark_parts-clause-cost
returns-in-None-mark_parts-clause-cost g p c =
    cost-later g.B.Part.Part.contents g.B.Item.Item.stamp c.args.item.now c.in-Some.part.now c.mark.new.self c.in-Some.rest.now c.in-Some.ensures.cases.0
    (sym c.mark.ensures.found ∙ c.if-mark.false)
    g.B.Part.Part.mark_touches c.mark.ensures.cost c.mark_parts.ensures.cost

pub returns-in-None-clause-marked : goal.returns-in-None-clause-marked
returns-in-None-clause-marked g p c =
    let none = none_of c.args.parts.now (omega (arith, c.in-None.ensures.cases)) in
    subst (λ ps. AreMarkedAt g.B.Part.Part.contents g.B.Item.Item.stamp c.args.item.now None ps ps) (sym none) nowhere
