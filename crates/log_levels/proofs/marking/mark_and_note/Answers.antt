use Rattle.std.proofs.Common.{◌≡◌, ℕ, ◌+◌, ◌<◌, ◌≤◌, ◌∙◌, ⊎_elim, Bool, true, false, if◌then◌else◌, nat_lt, Some, None, ◌∷◌, All, sym, ap, subst, arith}
use Rattle.std.specs.Option.{option_map_or}
use Rattle.std.proofs.lemmas.Bool.{cases_lt}
use Rattle.std.proofs.lemmas.Bool.Decides.{nat_tests}
use Rattle.std.proofs.lemmas.List.Elements.{All-head}
use Rattle.query_laws.specs.declared.item.Order.TheVariants.{First}
use Rattle.builder_trait.specs.Builders.{PartProfile}
use Rattle.log_levels.specs.Slots.{ticks_of}
use Rattle.log_levels.specs.Levels.{waiting_of}
use Rattle.log_levels.specs.Marking.{read_into}
use Rattle.log_levels.specs.Neighbours.{IsConstructionOf, IsPunctual}
use Rattle.log_levels.specs.Towers.{IsTower}
use Rattle.log_levels.proofs.Marks.{IsMarked-of}
use Rattle.log_levels.proofs.MarkedLevels.{AreNoted-refl, noted-at}
use Rattle.log_levels.proofs.Noting.{tower-marked}
use Rattle.log_levels.proofs.marking.mark_and_note.Given.{Over}
use Rattle.log_levels.proofs.marking.mark_and_note.Goals as goal

abbrev profile : (g : Over) → PartProfile g.row.B-Item.Denot
profile g = record { stamp = g.B.Item.Item.stamp; before = g.B.Item.Item.before; slope = g.B.Builder.SLOPE; base = g.B.Builder.BASE }

is_at : {m n : ℕ} → Some m ≡ Some n → m ≡ n
is_at e = cc

pub note_above-requires : goal.note_above-requires
note_above-requires g c =
    record {
      early = λ l rest was. (
        (subst (IsTower g.B.Part.Part.contents (profile g) c.args.level.now) was c.requires.tower).0.early,
        All-head (IsPunctual (profile g)) l rest (subst (All (IsPunctual (profile g))) was c.requires.punctual),
      );
    }

pub returns-in-Some-clause-tower : goal.returns-in-Some-clause-tower
returns-in-Some-clause-tower g c =
    let contents = g.B.Part.Part.contents in
    let stamp = g.B.Item.Item.stamp in
    tower-marked contents (profile g) c.args.item.now c.args.level.now c.mark.new.self c.args.above.now c.note_above.new.above c.mark.ensures.marked
    (ap (λ v. v.level) c.mark.ensures.same) (ap ticks_of c.mark.ensures.same) c.note_above.ensures.noted
    (λ next next' rest was now. record {
      stays = λ far a b built.
          let same : next ∷ rest ≡ next' ∷ rest = sym was ∙ sym (c.note_above.ensures.third (far c.in-Some.place c.in-Some.is)) ∙ now in
          let head : next ≡ next' = cc in
          subst (IsConstructionOf contents (profile g) a b) head built;
      of_a = λ first a b new live same built.
          let at : c.in-Some.place ≡ 0 = is_at (sym c.in-Some.is ∙ first) in
          c.note_above.ensures.of_a (omega (arith, at)) next next' rest was now a b new live same built;
      of_b = λ second a b new live same built.
          let at : c.in-Some.place ≡ 1 = is_at (sym c.in-Some.is ∙ second) in
          c.note_above.ensures.of_b (omega (arith, at)) next next' rest was now a b new live same built;
    }) c.requires.tower

pub returns-in-None-clause-tower : goal.returns-in-None-clause-tower
returns-in-None-clause-tower g c =
    let contents = g.B.Part.Part.contents in
    let stamp = g.B.Item.Item.stamp in
    tower-marked contents (profile g) c.args.item.now c.args.level.now c.mark.new.self c.args.above.now c.args.above.now c.mark.ensures.marked
    (ap (λ v. v.level) c.mark.ensures.same) (ap ticks_of c.mark.ensures.same) (AreNoted-refl c.args.above.now)
    (λ next next' rest was now.
    let same : next ∷ rest ≡ next' ∷ rest = sym was ∙ now in
    let head : next ≡ next' = cc in
    record {
      stays = λ far a b built. subst (IsConstructionOf contents (profile g) a b) head built;
      of_a = λ first a b new live marked built. let wrong : None ≡ Some 0 = sym c.in-None.is ∙ first in absurd cc;
      of_b = λ second a b new live marked built. let wrong : None ≡ Some 1 = sym c.in-None.is ∙ second in absurd cc;
    }) c.requires.tower

pub returns-in-None-clause-noted : goal.returns-in-None-clause-noted
returns-in-None-clause-noted g c = AreNoted-refl c.args.above.now

pub returns-in-Some-clause-marked : goal.returns-in-Some-clause-marked
returns-in-Some-clause-marked g c = IsMarked-of g.B.Part.Part.contents g.B.Item.Item.stamp c.args.item.now c.mark.ensures.same c.mark.ensures.marked

pub returns-in-None-clause-marked : goal.returns-in-None-clause-marked
returns-in-None-clause-marked g c = IsMarked-of g.B.Part.Part.contents g.B.Item.Item.stamp c.args.item.now c.mark.ensures.same c.mark.ensures.marked

below_two : (place : ℕ) → place < 2 → nat_lt place 2 ≡ true
below_two place below = grind (arith, nat_tests)

past_two : (place : ℕ) → 2 ≤ place → nat_lt place 2 ≡ false
past_two place past = grind (arith, nat_tests)

pub returns-in-Some-clause-waiting : goal.returns-in-Some-clause-waiting
returns-in-Some-clause-waiting g c =
    let before = g.B.Item.Item.before First in
    let above = c.args.above.now in
    let picked = λ (b : Bool). if b then read_into before c.args.item.now above else 0 in
    let at = noted-at before c.args.item.now g.B.Part.Part.contents g.B.Item.Item.stamp c.args.level.now c.mark.new.self above c.mark.ensures.marked
    ∙ ap (λ o. picked (option_map_or (λ k. nat_lt k 2) o false)) c.in-Some.is in
    ⊎_elim
    (λ read. c.note_above.ensures.waiting read ∙ sym (ap (λ n. waiting_of above + n) (at ∙ ap picked (below_two c.in-Some.place read))))
    (λ past. ap waiting_of (c.note_above.ensures.third past) ∙ omega (arith, at ∙ ap picked (past_two c.in-Some.place past)))
    (cases_lt c.in-Some.place 2)

pub returns-in-None-clause-waiting : goal.returns-in-None-clause-waiting
returns-in-None-clause-waiting g c =
    let before = g.B.Item.Item.before First in
    let above = c.args.above.now in
    omega (
      arith,
      noted-at before c.args.item.now g.B.Part.Part.contents g.B.Item.Item.stamp c.args.level.now c.mark.new.self above c.mark.ensures.marked
          ∙ ap (λ o. if option_map_or (λ k. nat_lt k 2) o false then read_into before c.args.item.now above else 0) c.in-None.is,
    )
