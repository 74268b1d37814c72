use Rattle.std.proofs.Common.{◌+◌, ◌*◌, ◌^◌, ◌<◌, ◌≤◌, ◌∙◌, ap, sym, subst, arith}
use Rattle.builder_trait.specs.Builders.{PartProfile}
use Rattle.partial_build.specs.NewPart.{put_of, IsAllLive}
use Rattle.partial_build.specs.Construction.{Construction, KeepsUp, turns_left}
use Rattle.partial_build.proofs.Clock.{within_half, turns_left-sealed, turns_left-open, IsUnderConstruction-sealed}
use Rattle.partial_build.proofs.KeepingUp.{Builds-of, KeepsUp-read}
use Rattle.partial_build.proofs.build.Build.read.Given.{Over}
use Rattle.partial_build.proofs.build.Build.read.Goals as goal

abbrev profile : (g : Over) → PartProfile g.row.B-Item.Denot
profile g = record { stamp = g.B.Item.Item.stamp; before = g.B.Item.Item.before; slope = g.B.Builder.SLOPE; base = g.B.Builder.BASE }

pub seal-requires-clause-complete : goal.seal-requires-clause-complete
seal-requires-clause-complete g c =
    (c.done.ensures.whole (g.B.Part.Part.contents c.args.a.now) (g.B.Part.Part.contents c.args.b.now) (put_of c.read.new.self.contents) c.if-done.true
    c.requires.builds.valid c.requires.builds.other_valid c.read.ensures.merges).as_many

-- the fields before, and once all is read
abbrev before : (g : Over) (c : goal.After-seal g) → Construction g.row.B-Item.Denot
before g c = record {
  level = c.self.inside.level;
  ticks = c.self.inside.ticks;
  merge = c.self.inside.merge;
  part = c.self.inside.part;
  waiting = c.self.inside.waiting.items;
}

abbrev sealed : (g : Over) (c : goal.After-seal g) → Construction g.row.B-Item.Denot
sealed g c = record (before g c) { merge = c.read.new.merge; part = c.seal.new.self }

fewer : (g : Over) (c : goal.After-seal g)
    → turns_left (profile g) (sealed g c) + c.args.count ≤ turns_left (profile g) (before g c)
fewer g c =
    let some : 0 < c.self.inside.merge.left = omega (arith, c.read.ensures.read.left) in
    let level = c.read.ensures.read.level ∙ c.self.invariant.at_level in
    let quota = subst (λ n. 2 * c.seal.new.self.left ≤ 2 ^ n * (g.B.Builder.SLOPE * n + g.B.Builder.BASE)) level c.seal.ensures.quota.bounded in
    omega (
      arith,
      turns_left-sealed (profile g) (sealed g c) (ap (λ p. p.is_sealed) c.seal.ensures.closed),
      turns_left-open (profile g) (before g c) (c.self.invariant.unsealed some).0,
      within_half g.B.Builder.SLOPE g.B.Builder.BASE c.self.inside.level c.self.invariant.least c.seal.new.self.left quota,
    )

pub returns-then-done-clause-fewer : goal.returns-then-done-clause-fewer
returns-then-done-clause-fewer g c = omega (arith, fewer g c, ap (turns_left (profile g)) c.self.view_is)

pub invariant_of-self : goal.invariant_of-self
invariant_of-self g c =
    let h = c.self.invariant in
    IsUnderConstruction-sealed (sealed g c) h.least h.most h.ticks_few
    (ap (λ p. p.contents.at_level) c.seal.ensures.closed ∙ c.read.ensures.read.level ∙ h.at_level)
    (subst (λ p. IsAllLive p.contents) (sym c.seal.ensures.closed) c.read.ensures.live)
    h.wide (c.read.ensures.read.capacity ∙ h.as_wide) (c.done.ensures.value.0 c.if-done.true)
    (ap (λ p. p.is_sealed) c.seal.ensures.closed) (ap (λ p. p.is_built) c.seal.ensures.closed)
    (omega (arith, fewer g c, h.in_time)) h.few_waiting h.few_to_come

pub returns-then-done-clause-builds : goal.returns-then-done-clause-builds
returns-then-done-clause-builds g c =
    let some : 0 < c.self.inside.merge.left = omega (arith, c.read.ensures.read.left) in
    subst (λ p. KeepsUp (profile g) c.read.new.merge p.contents c.self.inside.waiting.items
    (g.B.Part.Part.contents c.args.a.now) (g.B.Part.Part.contents c.args.b.now)) (sym c.seal.ensures.closed)
    (KeepsUp-read (Builds-of c.self.view_is c.requires.builds) c.read.ensures.merges c.read.ensures.read
    (c.self.invariant.fresh (c.self.invariant.unsealed some).1) c.read.ensures.live)

pub returns-else-done-clause-builds : goal.returns-else-done-clause-builds
returns-else-done-clause-builds g c =
    let some : 0 < c.self.inside.merge.left = omega (arith, c.read.ensures.read.left) in
    KeepsUp-read (Builds-of c.self.view_is c.requires.builds) c.read.ensures.merges c.read.ensures.read
    (c.self.invariant.fresh (c.self.invariant.unsealed some).1) c.read.ensures.live
