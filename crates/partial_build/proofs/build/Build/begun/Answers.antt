use Rattle.std.proofs.Common.{◌≡◌, ◌+◌, ◌-◌, ◌*◌, ◌^◌, ◌≤◌, ◌∙◌, refl, ap, sym, subst, arith, length, ◌==◌, true, false}
use Rattle.std.proofs.lemmas.List.{length-replicate}
use Rattle.builder_trait.specs.Builders.{PartProfile, all_live, begun}
use Rattle.partial_build.specs.NewPart.{IsAllLive}
use Rattle.partial_build.specs.Quota.{quota}
use Rattle.partial_build.specs.Construction.{Construction, turns_left}
use Rattle.partial_build.proofs.Clock.{in_time-begun, within_half, turns_left-sealed, turns_left-open, IsUnderConstruction-sealed}
use Rattle.partial_build.proofs.build.Build.begun.Given.{Over}
use Rattle.partial_build.proofs.build.Build.begun.Goals as goal
use Rattle.partial_build.proofs.build.Build.begun.Goals.{then-done, else-done}

abbrev profile : (g : Over) → PartProfile g.row.B-Item.Denot
profile g = record { stamp = g.B.Item.Item.stamp; before = g.B.Item.Item.before; slope = g.B.Builder.SLOPE; base = g.B.Builder.BASE }

-- what the fields are
abbrev seen : (g : Over) (c : goal.Joined-done g) → Construction g.row.B-Item.Denot
seen g c = record { level = c.args.level; ticks = 0; merge = c.args.merge; part = c.if-done.part; waiting = c.args.waiting.items }

-- what was put is nothing
fresh : (g : Over) (c : goal.Joined-done g) → c.if-done.part.contents ≡ all_live (begun c.args.level)
fresh g c =
    let made = ap (λ p. p.contents) c.new-part.ensures ∙ ap all_live c.requires.empty in
    elim c.if-done.branch [
      | then-done w ↦ ap (λ p. p.contents) w.part-is ∙ ap (λ p. p.contents) w.seal.ensures.closed ∙ made
      | else-done w ↦ ap (λ p. p.contents) w.part-is ∙ made
    ]

in_time : (g : Over) (c : goal.Joined-done g)
    → turns_left (profile g) (seen g c) ≤ (2 ^ (c.args.level - 1) - 0) * quota g.B.Builder.SLOPE g.B.Builder.BASE c.args.level
in_time g c =
    let slope = g.B.Builder.SLOPE in
    let base = g.B.Builder.BASE in
    let level : (g.B.Builder.progress c.args.builder).at_level ≡ c.args.level = ap (λ p. p.at_level) c.requires.empty in
    elim c.if-done.branch [
      | then-done w ↦
          let at : c.new-part.result.contents.at_level ≡ c.args.level = ap (λ p. p.contents.at_level) c.new-part.ensures ∙ level in
          let bounded : 2 * w.seal.new.self.left ≤ 2 ^ c.args.level * (slope * c.args.level + base) =
          subst (λ n. 2 * w.seal.new.self.left ≤ 2 ^ n * (slope * n + base)) at w.seal.ensures.quota.bounded in
          let read : c.args.merge.left ≡ 0 = c.done.ensures.value.0 w.if-done.true in
          omega (
            arith,
            turns_left-sealed (profile g) (seen g c) (ap (λ p. p.is_sealed) w.part-is ∙ ap (λ p. p.is_sealed) w.seal.ensures.closed),
            ap (λ p. p.left) w.part-is,
            read,
            within_half slope base c.args.level c.requires.least w.seal.new.self.left bounded,
            in_time-begun slope base c.args.level c.requires.least 0 (omega arith),
          )
      | else-done w ↦
          let unsealed : (seen g c).part.is_sealed ≡ false =
          ap (λ p. p.is_sealed) w.part-is ∙ ap (λ p. p.is_sealed) c.new-part.ensures ∙ ap (λ p. p.is_sealed) c.requires.empty in
          omega (
            arith,
            turns_left-open (profile g) (seen g c) unsealed,
            in_time-begun slope base c.args.level c.requires.least c.args.merge.left c.requires.few,
          )
    ]

pub invariant_of-result : goal.invariant_of-result
invariant_of-result g c =
    let none = ap length c.requires.none in
    let wide = ap (λ m. m.capacity) c.requires.merge in
    let live : IsAllLive c.if-done.part.contents = subst IsAllLive (sym (fresh g c)) refl in
    let level = ap (λ p. p.at_level) (fresh g c) in
    elim c.if-done.branch [
      | then-done w ↦ IsUnderConstruction-sealed (seen g c) c.requires.least c.requires.most (omega arith) level live c.requires.wide wide
          (c.done.ensures.value.0 w.if-done.true) (ap (λ p. p.is_sealed) w.part-is ∙ ap (λ p. p.is_sealed) w.seal.ensures.closed)
          (ap (λ p. p.is_built) w.part-is ∙ ap (λ p. p.is_built) w.seal.ensures.closed ∙ ap (λ n. n == 0) (sym (ap (λ p. p.left) w.part-is)))
          (in_time g c) (omega (arith, none)) (omega (arith, none))
      | else-done w ↦
          let open_still = ap (λ p. p.is_sealed) w.part-is ∙ ap (λ p. p.is_sealed) c.new-part.ensures ∙ ap (λ p. p.is_sealed) c.requires.empty in
          let unbuilt = ap (λ p. p.is_built) w.part-is ∙ ap (λ p. p.is_built) c.new-part.ensures in
          record {
            least = c.requires.least;
            most = c.requires.most;
            ticks_few = omega arith;
            at_level = level;
            flagged = ap length live ∙ length-replicate (length c.if-done.part.contents.items) true;
            wide = c.requires.wide;
            as_wide = wide;
            fresh = λ no. live;
            sealed = λ read. let done = c.done.ensures.value.1 read in absurd cc;
            unsealed = λ some. (open_still, unbuilt);
            to_turn = λ no closed. absurd cc;
            built = λ is_so. absurd cc;
            in_time = in_time g c;
            few_waiting = omega (arith, none);
            few_to_come = omega (arith, none);
          }
    ]

pub returns-clause-unsealed : goal.returns-clause-unsealed
returns-clause-unsealed g c some =
    elim c.if-done.branch [
      | then-done w ↦ absurd (omega (arith, some, c.done.ensures.value.0 w.if-done.true))
      | else-done w ↦ ap (λ p. p.is_sealed) w.part-is ∙ ap (λ p. p.is_sealed) c.new-part.ensures ∙ ap (λ p. p.is_sealed) c.requires.empty
    ]

pub returns-clause-on_time : goal.returns-clause-on_time
returns-clause-on_time g c = record {
  in_time = in_time g c;
  few_waiting = omega (arith, ap length c.requires.none);
  few_to_come = omega (arith, ap length c.requires.none);
}
